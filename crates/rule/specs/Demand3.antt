-- Demand 3, sentence by sentence, in its order: each sentence is a named statement, and `Demand3` holds them all. Frames move by
-- the definitions of Frames alone. This file states; Demand3Proved has the proofs. Assumes nothing.
use Rattle.std.specs.Prelude.{ℕ, ◌+◌, ◌≤◌, ◌<◌, ◌≡◌, ◌⊎◌, ◌↔◌, ◌≢◌, List, [], ◌∷◌, ◌++◌, map, reverse, true, false, T, length}
use Rattle.lists.specs.Members.{In, occurrences}
use Rattle.graph.specs.Order.{Lower}
use Rattle.graph.specs.Graph.{cost, hops, path_id}
use Rattle.rule.specs.Records.{Vid, Member, address}
use Rattle.rule.specs.Outcome.{answered, refused_as}
use Rattle.rule.specs.Plan.{Plan, bridge_at, plan_of_vid}
use Rattle.rule.specs.Check.{verdict}
use Rattle.rule.specs.Links.{Link, to, turned, joined, graph_of}
use Rattle.rule.specs.Identifiers.{key_of}
use Rattle.rule.specs.Entries.{group_address, entry_list_of}
use Rattle.rule.specs.Answers.{CostAndHops}
use Rattle.rule.specs.Calls.{path_outcome, entries_outcome, measured}
use Rattle.rule.specs.Frames.{entry_ports, leaves, crossings, stood, arrival_port, copies_leave, copies, copies_cross, reached}

-- The terms of the demand

-- "that call answered": it wrote the words `ws` for the bridge `u`, in front of whatever the lent list held behind them.
pub record WrittenFor (t : List ℕ) (u : ℕ) (ws : List ℕ) : Type 0 where
  pub lent : List ℕ
  pub rest : List ℕ
  pub call : entries_outcome t u lent ≡ (answered (length ws), ws ++ rest)

-- "every accepted table with all its bridges' entries written in full, every VID of it".
pub record Setting : Type 0 where
  pub table : List ℕ
  pub plan : Plan
  pub accepted : verdict table ≡ answered plan
  pub lists : ℕ → List ℕ
  pub full : (u : ℕ) → u < length plan.bridges → WrittenFor table u (lists u)
  pub vid : Vid
  pub vid_of_table : In vid plan.vids

-- "every two different bridges a and b".
pub record Bridges (s : Setting) (a b : ℕ) : Type 0 where
  pub first : a < length s.plan.bridges
  pub second : b < length s.plan.bridges
  pub different : a ≢ b

-- "a chain or list of bridges with one between doesn't count" (02, A1): a list that came to the bridge `v` by a hop and goes on with `t`
-- ends there, or `v` is not overloaded.
abbrev pub LastOrNotOverloaded : Plan → ℕ → List ℕ → Type 0
LastOrNotOverloaded p v [] = Unit {0}
LastOrNotOverloaded p v (w ∷ t) = (bridge_at p v).overloaded ≡ false

-- A list of bridges from `a` to `b`, "each joined to the next" by a usable link, with no overloaded bridge between.
abbrev pub Chain : Plan → ℕ → ℕ → List ℕ → Type 0
Chain p a b [] = ⊥
Chain p a b (u ∷ []) = (u ≡ a) × (u ≡ b)
Chain p a b (u ∷ v ∷ t) = (u ≡ a) × T (joined p.half_links u v) × LastOrNotOverloaded p v t × Chain p v b (v ∷ t)

module _ (s : Setting) where
  -- The plan that the paths of the VID are chosen in. Chains, frames, costs and masked PATHIDs are those of it.
  abbrev pub vid_plan : Plan
  vid_plan = plan_of_vid s.plan s.vid

  abbrev pub ChainIn : ℕ → ℕ → List ℕ → Type 0
  ChainIn a b q = Chain vid_plan a b q

  -- "no chain of usable links joins a and b".
  abbrev pub Apart : ℕ → ℕ → Type 0
  Apart a b = (q : List ℕ) → ChainIn a b q → ⊥

  -- "The path given is the list that the path call writes where the lent list holds it": as many bridges as hops, and one more.
  pub record Given (a b : ℕ) (path : List ℕ) (values : CostAndHops) : Type 0 where
    pub lent : List ℕ
    pub rest : List ℕ
    pub call : path_outcome s.table s.vid.vid a b lent ≡ (answered values, path ++ rest)
    pub bridges : length path ≡ values.hops + 1

  -- The links that the individual frame from `a` for `b` crosses in `n` moves.
  abbrev pub frame : ℕ → ℕ → ℕ → List Link
  frame a b n = crossings (leaves vid_plan.half_links s.lists s.vid.vid (address (bridge_at s.plan b))) b n a

  -- The ports of the entries of kind 8 for the bridge `b` at the bridge `u`.
  abbrev pub ports_for : ℕ → ℕ → List ℕ
  ports_for u b = entry_ports 8 s.vid.vid (address (bridge_at s.plan b)) (s.lists u)

  abbrev pub cost_in : List ℕ → ℕ
  cost_in q = cost (graph_of vid_plan) q

  abbrev pub masked_path_id : List ℕ → List ℕ
  masked_path_id q = path_id (key_of vid_plan s.vid.index) q

  -- "A group frame from any transmitting member": the member record of its sender.
  pub record Transmits (m : Member) : Type 0 where
    pub of_table : In m s.plan.members
    pub transmits : m.transmits ≡ true
    pub in_vid : m.vid ≡ s.vid.vid

  -- "every other receiving member of its service".
  pub record Receives (m r : Member) : Type 0 where
    pub of_table : In r s.plan.members
    pub receives : r.receives ≡ true
    pub in_service : (r.vid ≡ m.vid) × (r.isid ≡ m.isid)
    pub other : r.bridge ≢ m.bridge

  -- The links by which copies of the group frame of the member `m` leave a bridge.
  abbrev pub copies_of : Member → ℕ → List Link
  copies_of m u =
      copies_leave vid_plan.half_links s.lists s.vid.vid
      (group_address (bridge_at s.plan m.bridge).sp_source_id m.isid) u

  -- The sentences

  -- "Whatever list is lent, the path call refuses with 12 exactly when no chain of usable links joins a and b".
  abbrev pub Refusal12 : Type 0
  Refusal12 =
      (a b : ℕ) →
      Bridges s a b →
      (lent : List ℕ) →
      ((path_outcome s.table s.vid.vid a b lent).0 ≡ refused_as 12) ↔ Apart a b

  -- "and exactly then a has no entry for b".
  abbrev pub NoEntry : Type 0
  NoEntry = (a b : ℕ) → Bridges s a b → (ports_for a b ≡ []) ↔ Apart a b

  -- "Otherwise a frame from a, moved by the entries for b, reaches b along the path given": where a chain joins them a path is given,
  -- and for every number of moves from its hops on the frame stood at just the bridges of it.
  abbrev pub Arrival : Type 0
  Arrival =
      ((a b : ℕ) → Bridges s a b → (q : List ℕ) → ChainIn a b q → (path : List ℕ) × (values : CostAndHops) × Given a b path values)
      × ((a b : ℕ) →
      Bridges s a b →
      (path : List ℕ) (values : CostAndHops) →
      Given a b path values →
      (n : ℕ) →
      values.hops ≤ n →
      stood a (frame a b n) ≡ path)

  -- "Every other list of bridges from a to b, each joined to the next, costs more, or ties and has more hops, or ties in both and has
  -- a higher masked PATHID."
  abbrev pub Least : Type 0
  Least =
      (a b : ℕ) →
      Bridges s a b →
      (path : List ℕ) (values : CostAndHops) →
      Given a b path values →
      ChainIn a b path
      × ((q : List ℕ) →
      ChainIn a b q →
      q ≢ path →
      (cost_in path < cost_in q)
      ⊎ ((cost_in path ≡ cost_in q)
      × ((hops path < hops q) ⊎ ((hops path ≡ hops q) × Lower (masked_path_id path) (masked_path_id q)))))

  -- "The frame from b to a passes the same links in reverse."
  abbrev pub SameLinks : Type 0
  SameLinks =
      (a b : ℕ) →
      Bridges s a b →
      (path : List ℕ) (values : CostAndHops) →
      Given a b path values →
      (n : ℕ) →
      values.hops ≤ n →
      frame b a n ≡ reverse (map turned (frame a b n))

  -- "The path between any two bridges on the way is that part of it": the bridges `c` and `d`, with `between` between them, and in
  -- the other direction the part reversed.
  abbrev pub Parts : Type 0
  Parts =
      (a b : ℕ) →
      Bridges s a b →
      (path : List ℕ) (values : CostAndHops) →
      Given a b path values →
      (front : List ℕ) (c : ℕ) (between : List ℕ) (d : ℕ) (back : List ℕ) →
      path ≡ front ++ (c ∷ between ++ (d ∷ back)) →
      ((part : CostAndHops) × Given c d (c ∷ between ++ (d ∷ [])) part)
      × ((part : CostAndHops) × Given d c (d ∷ reverse between ++ (c ∷ [])) part)

  -- "At each bridge that the frame from a enters, the entry for a names the arrival port."
  abbrev pub ArrivalPort : Type 0
  ArrivalPort =
      (a b : ℕ) →
      Bridges s a b →
      (n : ℕ) (l : Link) →
      In l (frame a b n) →
      ports_for (to l) a ≡ arrival_port l ∷ []

  -- "A group frame from any transmitting member, copied by the group entries, reaches exactly once every other receiving member of
  -- its service to which a path from the sender leads": in as many rounds as there are bridges, after which no copy is left.
  abbrev pub Receivers : Type 0
  Receivers =
      (m : Member) →
      Transmits m →
      (n : ℕ) →
      length s.plan.bridges ≤ n →
      ((r : Member) →
      Receives m r →
      (q : List ℕ) →
      ChainIn m.bridge r.bridge q →
      occurrences r.bridge (reached (copies_of m) m.bridge n) ≡ 1)
      × (copies (copies_of m) m.bridge n ≡ [])

  -- "It reaches no bridge twice and never comes back to its sender": for every number of rounds.
  abbrev pub NoBridgeTwice : Type 0
  NoBridgeTwice =
      (m : Member) →
      Transmits m →
      (n : ℕ) →
      ((u : ℕ) → occurrences u (reached (copies_of m) m.bridge n) ≤ 1)
      × (occurrences m.bridge (reached (copies_of m) m.bridge n) ≡ 0)

  -- The arrival-port check for the copies of a group frame: at each bridge that a copy enters, the entry for the sender names the
  -- arrival port. More than the demand says; the check of documents 000 and 002 asks it of group frames too.
  abbrev pub CopyArrivalPort : Type 0
  CopyArrivalPort =
      (m : Member) →
      Transmits m →
      (n : ℕ) (l : Link) →
      In l (copies_cross (copies_of m) m.bridge n) →
      ports_for (to l) m.bridge ≡ arrival_port l ∷ []

  -- "The cost and hops given and all words written, in their order, are those that document 01 defines." No list exceeds 14,931
  -- words.
  abbrev pub Values : Type 0
  Values =
      ((a b : ℕ) →
      Bridges s a b →
      (path : List ℕ) (values : CostAndHops) →
      Given a b path values →
      values ≡ measured vid_plan path)
      × ((u : ℕ) → u < length s.plan.bridges → (s.lists u ≡ entry_list_of s.plan u) × (length (s.lists u) ≤ 14931))

  -- Demand 3.
  pub record Demand3 : Type 0 where
    pub refusal12 : Refusal12
    pub no_entry : NoEntry
    pub arrival : Arrival
    pub least : Least
    pub same_links : SameLinks
    pub parts : Parts
    pub arrival_port : ArrivalPort
    pub receivers : Receivers
    pub no_bridge_twice : NoBridgeTwice
    pub copy_arrival_port : CopyArrivalPort
    pub values : Values
