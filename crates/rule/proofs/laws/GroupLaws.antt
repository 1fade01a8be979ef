-- Group frames of an accepted plan (demand 3): copied by the words of its entries they go from each bridge once to each bridge that the
-- chosen path from the sender to some receiver goes to from there. So the laws of copies over graphs hold of them. Assumes nothing.
use Prim.Native.Nat.{ℕ, zero, suc, ◌≤◌, ◌<◌}
use Rattle.std.specs.Prelude.{◌≡◌, ◌⊎◌, true, T}
use Rattle.std.proofs.Math.Path.{refl, ap}
use Rattle.std.proofs.Common.{sym, ◌∙◌, subst, inl, inr}
use mathlib.Core.List.{List, [], ◌∷◌, ◌++◌, map, flat_map, map-append}
use Rattle.lists.specs.Members.{In, occurrences}
use Rattle.lists.proofs.laws.ListNotions.{Distinct}
use Rattle.graph.proofs.laws.Notions.{Leaves}
use Rattle.graph.proofs.laws.Moves.{copies as round_of, entered, Feeds, HandsDown}
use Rattle.lists.proofs.laws.MemberLaws.{in_map, map-in, flat_map-in, in_append}
use Rattle.lists.proofs.laws.GivenLaws.{map-flat_map}
use Rattle.graph.proofs.laws.Forwarding.{departure}
use Rattle.graph.proofs.laws.Copies.{copy_inside, copy_arrival, at-most-once, sender_never, no_copy_left, receiver-once}
use Rattle.rule.specs.Records.{Member}
use Rattle.rule.specs.Plan.{bridge_at}
use Rattle.rule.specs.Links.{Link, to, hop_link}
use Rattle.rule.specs.Entries.{list_of, group_address, receives}
use Rattle.rule.specs.Frames.{crossed, arrival_port, entry_ports, copies_leave, copies, copies_cross, reached}
use Rattle.rule.proofs.laws.LinkLaws.{hop-takes, joined-hop}
use Rattle.rule.proofs.laws.EntryLaws.{group-ports}
use Rattle.rule.proofs.laws.Network.{Network, size, vid_plan, vid-laws, links, graph, key, graph_meets, ChosenFor}
use Rattle.rule.proofs.laws.FrameLaws.{ports_at, arrival-named}
use Rattle.rule.proofs.laws.ListedPorts.{ReceivesAt, Led, led_from, led_says, says_led, led_once, led_enters}

-- Copies over the plan and over its graph

-- The bridges that copies at a bridge enter.
abbrev enters_from : (ℕ → List Link) → ℕ → List ℕ
enters_from leave u = map to (leave u)

-- The rounds of copies, and the bridges that they enter, are those that the laws over graphs speak of.
module _ (leave : ℕ → List Link) (sender : ℕ) where
  pub copies-agree : (n : ℕ) → copies leave sender n ≡ round_of (enters_from leave) sender n
  unfolding copies round_of
  copies-agree zero = refl
  copies-agree (suc n) = map-flat_map to leave (copies leave sender n) ∙ ap (flat_map (enters_from leave)) (copies-agree n)

  pub reached-agree : (n : ℕ) → reached leave sender n ≡ entered (enters_from leave) sender n
  unfolding copies_cross entered round_of
  reached-agree zero = refl
  reached-agree (suc n) = map-append to (copies_cross leave sender n) (flat_map leave (copies leave sender n))
      ∙ (λ i. reached-agree n i ++ (map-flat_map to leave (copies leave sender n) ∙ ap (flat_map (enters_from leave)) (copies-agree n)) i)

-- The sender's copies

module _ (N : Network) (m : Member) (of_table : In m N.plan.members) (transmits : m.transmits ≡ true) (in-vid : m.vid ≡ N.vid.vid) where
  -- The sender's receivers, the links by which its copies leave a bridge, and the bridges that they enter.
  abbrev Wanted : ℕ → Type 0
  Wanted r = ReceivesAt N m r

  abbrev pub leaving : ℕ → List Link
  leaving u = copies_leave (links N) N.lists N.vid.vid (group_address (bridge_at N.plan m.bridge).sp_source_id m.isid) u

  abbrev pub next : ℕ → List ℕ
  next u = enters_from leaving u

  -- "once for each entry of kind 9 at its bridge with the VID and the group address of sender and I-SID, by that entry's port".
  leaves_led : (u : ℕ) → u < size N → leaving u ≡ led_from N m u
  unfolding copies_leave
  leaves_led u l = ap (flat_map (λ port. list_of (crossed (links N) u port)))
      (ap (entry_ports 9 N.vid.vid (group_address (bridge_at N.plan m.bridge).sp_source_id m.isid)) (N.written u l)
      ∙ group-ports N.plan N.laws N.vid u m N.of_plan of_table transmits in-vid)

  led_leaving : (u : ℕ) → u < size N → (l : Link) → In l (leaving u) → Led N m u l
  led_leaving u k l i = led_says N m u l (subst (λ (ls : List Link). In l ls) (leaves_led u k) i)

  sender_known : m.bridge < size N
  sender_known = (N.laws.members.fits m of_table).bridge_known

  -- What the laws of copies ask.
  hands_down : HandsDown (graph N) (key N) m.bridge Wanted next
  hands_down = record {
    once = λ u l. subst (λ (ls : List Link). Distinct (map to ls)) (sym (leaves_led u l)) (led_once N m u);
    fed = λ u w l k. let (x, i, e) = map-in to w (leaving u) k in fed u w x (led_leaving u l x i) e;
    feeds = λ u w l F. feeds u w l F;
  }
    where
      fed : (u w : ℕ) (l : Link) → Led N m u l → w ≡ to l → Feeds (graph N) (key N) m.bridge Wanted u w
      fed u w l D e = (
        D.receiver.bridge,
        (D.receiver, D.of_table, D.receives, refl),
        D.path,
        D.chosen,
        subst (λ (z : ℕ). Leaves u z D.path) (sym (e ∙ led_enters N m u l D)) D.leaves,
      )

      feeds : (u w : ℕ) → u < size N → Feeds (graph N) (key N) m.bridge Wanted u w → In w (next u)
      feeds u w l (r, (k, i, t, e), q, P, h) =
          let (s, D) = departure (graph N) (key N) m.bridge r q u w P h in
          let (x, f) = joined-hop (vid_plan N) (vid-laws N) u w D.path.1.0 in
          let led : Led N m u x = record {
            receiver = k;
            of_table = i;
            receives = t;
            path = q;
            chosen = subst (λ (z : ℕ). ChosenFor N m.bridge z q) e P;
            next = w;
            leaves = h;
            hop = f;
          } in
          subst (λ (z : ℕ). In z (next u)) (hop-takes (links N) u w x f).far
          (in_map to x (leaving u) (subst (λ (ls : List Link). In x ls) (sym (leaves_led u l)) (says_led N m u x led)))

  -- "reaches exactly once every other receiving member of its service to which a path from the sender leads" (demand 3).
  pub reached-once : (r : Member) → In r N.plan.members → T (receives m r) → (r.bridge ≡ m.bridge → ⊥) → (q : List ℕ)
      → ChosenFor N m.bridge r.bridge q → (n : ℕ) → size N ≤ n
      → occurrences r.bridge (reached leaving m.bridge n) ≡ 1
  reached-once r i t d q P n l = ap (occurrences r.bridge) (reached-agree leaving m.bridge n)
      ∙ receiver-once (graph N) (key N) m.bridge Wanted (graph_meets N) sender_known next hands_down r.bridge (r, i, t, refl) d q P n l

  -- "With no such entry it ends there" (01, "Frames").
  pub no_copy_stays : (n : ℕ) → size N ≤ n → copies leaving m.bridge n ≡ []
  no_copy_stays n l = copies-agree leaving m.bridge n
      ∙ no_copy_left (graph N) (key N) m.bridge Wanted (graph_meets N) sender_known next hands_down n l

  -- "It reaches no bridge twice and never comes back to its sender" (demand 3).
  pub reached-at-most-once : (n u : ℕ) → occurrences u (reached leaving m.bridge n) ≤ 1
  reached-at-most-once n u = subst (λ (z : List ℕ). occurrences u z ≤ 1) (sym (reached-agree leaving m.bridge n))
      (at-most-once (graph N) (key N) m.bridge Wanted (graph_meets N) sender_known next hands_down n u)

  pub sender_not-reached : (n : ℕ) → occurrences m.bridge (reached leaving m.bridge n) ≡ 0
  sender_not-reached n = ap (occurrences m.bridge) (reached-agree leaving m.bridge n)
      ∙ sender_never (graph N) (key N) m.bridge Wanted (graph_meets N) sender_known next hands_down n

  -- At each bridge that a copy enters, the entry for the sender names the arrival port.
  pub copy_arrives : (n : ℕ) (l : Link) → In l (copies_cross leaving m.bridge n)
      → ports_at N (to l) m.bridge ≡ arrival_port l ∷ []
  unfolding copies_cross
  copy_arrives zero l k = absurd k
  copy_arrives (suc n) l k = go (in_append l (copies_cross leaving m.bridge n) (flat_map leaving (copies leaving m.bridge n)) k)
      (copy_arrives n l)
    where
      from-bridge : (c : ℕ) → In c (copies leaving m.bridge n) → In l (leaving c)
          → ports_at N (to l) m.bridge ≡ arrival_port l ∷ []
      from-bridge c i j =
          let inside : c < size N = copy_inside (graph N) (key N) m.bridge Wanted (graph_meets N) sender_known next hands_down n c
          (subst (λ (z : List ℕ). In c z) (copies-agree leaving m.bridge n) i) in
          let D = led_leaving c inside l j in
          let (t, P) = copy_arrival (graph N) (key N) m.bridge Wanted (graph_meets N) sender_known next hands_down c (to l) inside
          (in_map to l (leaving c) j) in
          arrival-named N m.bridge c (to l) t l P (ap (hop_link (links N) c) (led_enters N m c l D) ∙ D.hop)

      go : In l (copies_cross leaving m.bridge n) ⊎ In l (flat_map leaving (copies leaving m.bridge n))
          → (In l (copies_cross leaving m.bridge n) → ports_at N (to l) m.bridge ≡ arrival_port l ∷ [])
          → ports_at N (to l) m.bridge ≡ arrival_port l ∷ []
      go (inl i) ih = ih i
      go (inr i) ih = let (c, j, h) = flat_map-in leaving l (copies leaving m.bridge n) i in from-bridge c j h
