-- What a setting of demand 3 gives: the laws of its plan, the words written, what the path call answers; and that chains of usable links
-- are paths of the plan's graph, and the path given is the chosen one. Assumes nothing.
use Prim.Native.Nat.{ℕ, ◌<◌}
use Rattle.std.proofs.Common.{arith, ◌∙◌, subst}
use Rattle.std.specs.Prelude.{◌≡◌, refl, List, [], ◌∷◌, ◌++◌, Bool, false, not, T, drop}
use Rattle.std.proofs.Math.Path.{sym, ap}
use Rattle.std.proofs.Math.Option.{Option, none, some}
use Rattle.std.proofs.Math.ListN.{length}
use Rattle.graph.specs.Graph.{GoesOn, IsPath}
use Rattle.lists.proofs.laws.DistinctLaws.{append_same}
use Rattle.graph.proofs.laws.ChosenPaths.{chosen-first}
use Rattle.graph.proofs.laws.Enumeration.{path-chosen}
use Rattle.rule.specs.Outcome.{Outcome, answered, Written, lent_to}
use Rattle.rule.specs.Plan.{bridge_at}
use Rattle.rule.specs.Paths.{chosen_path}
use Rattle.rule.specs.Entries.{entry_list_of}
use Rattle.rule.specs.Answers.{CostAndHops}
use Rattle.rule.specs.Calls.{measured, path_found, path_outcome, entries_outcome}
use Rattle.rule.specs.Demand3.{LastOrNotOverloaded, Setting, vid_plan, ChainIn, Given}
use Rattle.rule.specs.PlanLaws.{PlanLaws}
use Rattle.rule.proofs.laws.Accepted.{accepted-laws}
use Rattle.rule.proofs.laws.LinkLaws.{joined_says, says-joined}
use Rattle.rule.proofs.laws.CallLaws.{refused-not-answered, lent_says, lent-holds, path-asked, entries_asked}
use Rattle.rule.proofs.laws.Network.{chosen_is_path, path_is_chosen, Network, vid-laws, graph, key, graph_meets, key_meets, ChosenFor}

module _ (s : Setting) where
  -- The laws of the table's plan.
  pub laws : PlanLaws s.plan
  laws = accepted-laws s.table s.plan s.accepted

  -- "that call answered": the words written are those of the bridge's entries.
  pub written : (u : ℕ) → u < length s.plan.bridges → s.lists u ≡ entry_list_of s.plan u
  unfolding entries_outcome
  written u l = let W = s.full u l in
      let w : Written ℕ = record { values = length (entry_list_of s.plan u); words = entry_list_of s.plan u } in
      let r = lent_says W.lent w (length (s.lists u)) (s.lists u ++ W.rest)
      (ap (lent_to W.lent) (sym (entries_asked s.table s.plan s.accepted laws u l)) ∙ W.call) in
      sym (append_same (entry_list_of s.plan u) (s.lists u) (drop (length (entry_list_of s.plan u)) W.lent) W.rest r.0 r.1)

  abbrev pub net : Network
  net = record { plan = s.plan; laws = laws; vid = s.vid; of_plan = s.vid_of_table; lists = s.lists; written = written }

  -- What the path call gives for two bridges of the table, whatever list is lent.
  pub path-call : (a b : ℕ) → a < length s.plan.bridges → b < length s.plan.bridges → (lent : List ℕ)
      → path_outcome s.table s.vid.vid a b lent ≡ lent_to lent (path_found (vid_plan s) (chosen_path (vid_plan s) s.vid.index a b))
  unfolding path_outcome
  path-call a b h k lent = ap (lent_to lent) (path-asked s.table s.plan s.accepted laws s.vid s.vid_of_table a b h k)

  -- The bridges of a chain that are not overloaded are those that may lie between.
  may_go-on : (v : ℕ) (t : List ℕ) → LastOrNotOverloaded (vid_plan s) v t → GoesOn (graph net) v t
  may_go-on v [] m = tt
  may_go-on v (w ∷ t) m = subst (λ (z : Bool). T (not z)) (sym m) tt

  not-overloaded : (v : ℕ) (t : List ℕ) → GoesOn (graph net) v t → LastOrNotOverloaded (vid_plan s) v t
  not-overloaded v [] m = tt
  not-overloaded v (w ∷ t) m = clear (bridge_at (vid_plan s) v).overloaded m
    where
      clear : (o : Bool) → T (not o) → o ≡ false
      clear mathlib.Core.Bool.true h = elim h [ ]
      clear false h = refl

  -- A list of bridges, each joined to the next and no overloaded one between, is a path of the plan's graph, and a path of the graph is
  -- such a list.
  pub chain-path : (a b : ℕ) (q : List ℕ) → ChainIn s a b q → IsPath (graph net) a b q
  chain-path a b [] h = elim h [ ]
  chain-path a b (u ∷ []) (e, f) = (e, f)
  chain-path a b (u ∷ v ∷ t) (e, j, m, c) =
      (e, (joined_says (vid_plan s) (vid-laws net) u v j, may_go-on v t m, (chain-path v b (v ∷ t) c).1))

  pub path-chain : (a b : ℕ) (q : List ℕ) → IsPath (graph net) a b q → ChainIn s a b q
  path-chain a b [] h = elim h [ ]
  path-chain a b (u ∷ []) (e, o) = (e, o)
  path-chain a b (u ∷ v ∷ t) (e, (j, m, o)) =
      (e, says-joined (vid_plan s) (vid-laws net) u v j, not-overloaded v t m, path-chain v b (v ∷ t) (refl, o))

  -- Where a chain of usable links joins two bridges a path is chosen.
  pub chain-chosen : (a b : ℕ) (q : List ℕ) → ChainIn s a b q → (path : List ℕ) × ChosenFor net a b path
  chain-chosen a b q c = path-chosen (graph net) (graph_meets net) (key net) (key_meets net) a b q (chain-path a b q c)

  -- The path given is the chosen path, with its cost and hops.
  pub given-chosen : (a b : ℕ) → a < length s.plan.bridges → b < length s.plan.bridges → (path : List ℕ) (values : CostAndHops)
      → Given s a b path values → ChosenFor net a b path × (values ≡ measured (vid_plan s) path)
  given-chosen a b h k path values G = go (chosen_path (vid_plan s) s.vid.index a b) refl (sym (path-call a b h k G.lent) ∙ G.call)
    where
      same : (q : List ℕ) → ChosenFor net a b q → measured (vid_plan s) q ≡ values → q ++ drop (length q) G.lent ≡ path ++ G.rest → q ≡ path
      same q P e f = let (t, g, W) = chosen-first (graph net) (key net) a b q P in
          append_same q path (drop (length q) G.lent) G.rest
          (omega (arith, G.bridges, ap (λ (z : CostAndHops). z.hops) e, ap (λ (z : List ℕ). length z) g)) f

      go : (o : Option (List ℕ)) → chosen_path (vid_plan s) s.vid.index a b ≡ o
          → lent_to G.lent (path_found (vid_plan s) o) ≡ (answered values, path ++ G.rest)
          → ChosenFor net a b path × (values ≡ measured (vid_plan s) path)
      go none e f = absurd (refused-not-answered (ap (λ (z : Outcome CostAndHops × List ℕ). z.0) f))
      go (some q) e f =
          let P = path_is_chosen (vid_plan s) (vid-laws net) s.vid.index a b q e in
          let r = lent_says G.lent (record { values = measured (vid_plan s) q; words = q }) values (path ++ G.rest) f in
          let g : q ≡ path = same q P r.0 r.1 in
          (subst (λ (z : List ℕ). ChosenFor net a b z) g P, subst (λ (z : List ℕ). values ≡ measured (vid_plan s) z) g (sym r.0))

  -- Each chosen path is given, where the lent list holds it and no more.
  pub chosen-given : (a b : ℕ) → a < length s.plan.bridges → b < length s.plan.bridges → (q : List ℕ) → ChosenFor net a b q
      → Given s a b q (measured (vid_plan s) q)
  chosen-given a b h k q P = record {
    lent = q;
    rest = [];
    call =
        path-call a b h k q ∙ ap (λ (o : Option (List ℕ)). lent_to q (path_found (vid_plan s) o))
        (chosen_is_path (vid_plan s) (vid-laws net) s.vid.index a b q P)
        ∙ lent-holds (record { values = measured (vid_plan s) q; words = q });
    bridges = let (t, g, W) = chosen-first (graph net) (key net) a b q P in omega (arith, ap (λ (z : List ℕ). length z) g);
  }
