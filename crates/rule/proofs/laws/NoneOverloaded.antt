-- "Tables without the bit list as before" (02, A1): where no bridge is overloaded the graph, the chosen paths and the chains of a plan are
-- those of document 01 alone, and so they are where bit 27 of no bridge record is set. Costs, entries and the listing know the overload by
-- the graph only. Assumes nothing.
use Rattle.std.specs.Prelude.{ℕ, ◌*◌, ◌≤◌, ◌<◌, ◌≡◌, refl, List, [], ◌∷◌, ◌++◌, ◌⊎◌, ◌↔◌, true, false, not, T, eqb, length, get_or, drop}
use Rattle.std.proofs.Common.{arith, ◌∙◌, subst, inl, inr, length-append}
use Rattle.std.proofs.Math.Path.{ap}
use Rattle.std.proofs.Math.Option.{none}
use Rattle.std.proofs.Math.ListN.{get_or-append, get_or-eq_default}
use Rattle.std.proofs.lemmas.List.{get_or_at}
use Rattle.lists.specs.Members.{In}
use Rattle.lists.proofs.laws.NumberLaws.{le_or_gt}
use Rattle.graph.specs.Graph.{Graph}
use Rattle.graph.specs.Chosen.{chosen}
use Rattle.rule.specs.Words.{words_of}
use Rattle.rule.specs.Records.{Bridge, HalfLink, field_at, bridge_of, Layout, layouts}
use Rattle.rule.specs.Outcome.{answered}
use Rattle.rule.specs.Plan.{Plan, no_bridge, bridge_at}
use Rattle.rule.specs.Check.{Reading, start, faults, lowest_fault, verdict}
use Rattle.rule.specs.Links.{joined, hop_link, cost_of, graph_of}
use Rattle.rule.specs.Identifiers.{key_of}
use Rattle.rule.specs.Paths.{chosen_path}
use Rattle.rule.specs.Demand3.{LastOrNotOverloaded, Chain}
use Rattle.rule.proofs.laws.Accepted.{no_fault, not-ltb, HasKind, read_one, accepted-ends}

-- The graph of document 01 alone: every bridge may lie between.
abbrev pub graph_before : Plan → Graph
graph_before p = record { size = length p.bridges; hop = λ u v. cost_of (hop_link p.half_links u v); between = λ u. true }

-- The chains of document 01 alone: a list of bridges from `a` to `b`, "each joined to the next" by a usable link.
abbrev pub ChainBefore : List HalfLink → ℕ → ℕ → List ℕ → Type 0
ChainBefore hs a b [] = ⊥
ChainBefore hs a b (u ∷ []) = (u ≡ a) × (u ≡ b)
ChainBefore hs a b (u ∷ v ∷ t) = (u ≡ a) × T (joined hs u v) × ChainBefore hs v b (v ∷ t)

-- A record whose bits 27..20 are zero, as document 01 alone has it, is that of a bridge that is not overloaded, and has no zero bit set.
pub plain-record : (r : List ℕ) → field_at 0 27 20 r ≡ 0 → ((bridge_of r).overloaded ≡ false) × (field_at 0 26 20 r ≡ 0)
plain-record r e = let bit_27 : field_at 0 27 27 r ≡ 0 = omega (arith, e) in (simp bit_27 refl, omega (arith, e))

module _ (p : Plan) (clear : (u : ℕ) → u < length p.bridges → (bridge_at p u).overloaded ≡ false) where
  not-overloaded : (u : ℕ) → (bridge_at p u).overloaded ≡ false
  not-overloaded u = go (le_or_gt (length p.bridges) u)
    where
      go : (length p.bridges ≤ u) ⊎ (u < length p.bridges) → (bridge_at p u).overloaded ≡ false
      go (inl h) = ap (λ (b : Bridge). b.overloaded) (get_or-eq_default p.bridges no_bridge h)
      go (inr h) = clear u h

  pub graph_as_before : graph_of p ≡ graph_before p
  graph_as_before = λ i. record {
    size = length p.bridges;
    hop = λ u v. cost_of (hop_link p.half_links u v);
    between = λ u. ap not (not-overloaded u) i;
  }

  pub paths_as_before : (index a b : ℕ) → chosen_path p index a b ≡ chosen (graph_before p) (key_of p index) a b
  unfolding chosen_path
  paths_as_before index a b = ap (λ (g : Graph). chosen g (key_of p index) a b) graph_as_before

  pub chains_as_before : (a b : ℕ) (q : List ℕ) → Chain p a b q ↔ ChainBefore p.half_links a b q
  chains_as_before a b q = (to a b q, from a b q)
    where
      met : (v : ℕ) (t : List ℕ) → LastOrNotOverloaded p v t
      met v [] = tt
      met v (w ∷ t) = not-overloaded v

      to : (a b : ℕ) (q : List ℕ) → Chain p a b q → ChainBefore p.half_links a b q
      to a b [] c = elim c [ ]
      to a b (u ∷ []) c = c
      to a b (u ∷ v ∷ t) (e, j, m, c) = (e, j, to v b (v ∷ t) c)

      from : (a b : ℕ) (q : List ℕ) → ChainBefore p.half_links a b q → Chain p a b q
      from a b [] c = elim c [ ]
      from a b (u ∷ []) c = c
      from a b (u ∷ v ∷ t) (e, j, c) = (e, j, met v t, from v b (v ∷ t) c)

-- Where a reading stands: as long as bridges alone were read, behind their words; and each bridge is that of its three words.
record BridgesRead (ws : List ℕ) (s : Reading) : Type 0 where
  behind : s.last ≤ 1 → s.at ≡ 3 * length s.plan.bridges
  each : (k : ℕ) → k < length s.plan.bridges → bridge_at s.plan k ≡ bridge_of (drop (3 * k) ws)

one_more : (ws : List ℕ) (s : Reading) (l : Layout) → In l layouts → HasKind l (drop s.at ws) → lowest_fault (faults s l (drop s.at ws)) ≡ none
    → BridgesRead ws s → BridgesRead ws (read_one s l (drop s.at ws))
one_more ws s l (inl e) h n B = rw e (record {
  behind = λ h. omega (arith, at-end, length-append s.plan.bridges (b ∷ []));
  each = λ k h. go k h (le_or_gt (length s.plan.bridges) k);
})
  where
    b : Bridge
    b = bridge_of (drop s.at ws)

    last-low : s.last ≤ 1
    last-low = rw e at (not-ltb l.kind s.last (no_fault (faults s l (drop s.at ws)) n).0)

    at-end : s.at ≡ 3 * length s.plan.bridges
    at-end = B.behind last-low

    go : (k : ℕ) → k < length (s.plan.bridges ++ (b ∷ [])) → (length s.plan.bridges ≤ k) ⊎ (k < length s.plan.bridges)
        → get_or (s.plan.bridges ++ (b ∷ [])) k no_bridge ≡ bridge_of (drop (3 * k) ws)
    go k h (inl m) =
        let f : length s.plan.bridges ≡ k = omega (arith, length-append s.plan.bridges (b ∷ []))
        in let g : s.at ≡ 3 * k = omega (arith, at-end)
        in get_or_at s.plan.bridges b [] no_bridge k f ∙ ap (λ (i : ℕ). bridge_of (drop i ws)) g
    go k h (inr m) = get_or-append s.plan.bridges (b ∷ []) no_bridge k m ∙ B.each k m
one_more ws s l (inr (inl e)) h n B = rw e (record { behind = λ h. absurd (omega arith); each = B.each })
one_more ws s l (inr (inr (inl e))) h n B = rw e (record { behind = λ h. absurd (omega arith); each = B.each })
one_more ws s l (inr (inr (inr (inl e)))) h n B = rw e (record { behind = λ h. absurd (omega arith); each = B.each })
one_more ws s l (inr (inr (inr (inr (inl e))))) h n B = rw e (record { behind = λ h. absurd (omega arith); each = B.each })
one_more ws s l (inr (inr (inr (inr (inr (inl e)))))) h n B = rw e (record { behind = λ h. absurd (omega arith); each = B.each })
one_more ws s l (inr (inr (inr (inr (inr (inr k)))))) h n B = absurd k

-- The bridge `k` of an accepted table is that of the three words from the word 3 k on.
pub bridge-words : (t : List ℕ) (p : Plan) → verdict t ≡ answered p → (k : ℕ) → k < length p.bridges → bridge_at p k ≡ bridge_of (drop (3 * k) (words_of t))
bridge-words t p e =
    let (s, B, f) = accepted-ends (words_of t) (BridgesRead (words_of t)) (one_more (words_of t)) t p refl none_read e
    in subst (λ (q : Plan). (k : ℕ) → k < length q.bridges → bridge_at q k ≡ bridge_of (drop (3 * k) (words_of t))) f B.each
  where
    none_read : BridgesRead (words_of t) start
    none_read = record { behind = λ h. refl; each = λ k h. absurd (omega arith) }

-- "Tables without the bit": the plan of an accepted table with bit 27 clear in the first word of each bridge record.
pub as_before : (t : List ℕ) (p : Plan) → verdict t ≡ answered p
    → ((k : ℕ) → k < length p.bridges → field_at 0 27 27 (drop (3 * k) (words_of t)) ≡ 0)
    → (graph_of p ≡ graph_before p)
    × ((index a b : ℕ) → chosen_path p index a b ≡ chosen (graph_before p) (key_of p index) a b)
    × ((a b : ℕ) (q : List ℕ) → Chain p a b q ↔ ChainBefore p.half_links a b q)
as_before t p e without = (graph_as_before p clear, paths_as_before p clear, chains_as_before p clear)
  where
    clear : (u : ℕ) → u < length p.bridges → (bridge_at p u).overloaded ≡ false
    clear u l = ap (λ (b : Bridge). b.overloaded) (bridge-words t p e u l) ∙ ap (λ (bit : ℕ). eqb bit 1) (without u l)
