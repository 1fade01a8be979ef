-- When a call names what the table has, and when it does not (01, "Refusals in checking order", 11). Assumes nothing.
use Rattle.std.specs.Prelude.{ℕ, ◌≤◌, ◌<◌, ◌≡◌, refl, List, [], ◌∷◌, Bool, true, false, cond, ◌&&◌, ltb, length}
use Rattle.std.proofs.Common.{arith, ap, ◌∙◌, inl, ltb-true, lt-ltb, le-ltb}
use Rattle.std.proofs.Math.Option.{Option, none, some}
use Rattle.std.proofs.Math.ListN.{get_elem?}
use Rattle.lists.specs.Lists.{selected}
use Rattle.lists.specs.Members.{In}
use Rattle.lists.proofs.laws.SelectedLaws.{selected-in}
use Rattle.rule.specs.Records.{Vid}
use Rattle.rule.specs.Outcome.{Outcome, refused_as}
use Rattle.rule.specs.Plan.{Plan, has_vid, vid_record}
use Rattle.rule.specs.PlanLaws.{PlanLaws}
use Rattle.rule.specs.Calls.{named}
use Rattle.table.specs.Numbered.{index_of}
use Rattle.network.specs.Networks.{PlanTree}
use Rattle.path.specs.Named.{named_index, NamedTree}

module _ (p : Plan) (L : PlanLaws p) (vid : ℕ) where
  first-in : {A : Type 0} (xs : List A) (x : A) → get_elem? xs 0 ≡ some x → In x xs
  first-in [] x e = let z : ◌≡◌ {A = ℕ} 0 1 = cc in absurd (omega arith)
  first-in (y ∷ xs) x e = inl (cc)

  -- The record of a VID has an index of a mask.
  index-fits : (v : Vid) → vid_record p vid ≡ some v → (1 ≤ v.index) × (v.index ≤ 16)
  index-fits v e =
      let F = L.vids.fits v (selected-in (has_vid vid) v p.vids (first-in (selected (has_vid vid) p.vids) v e)).0
      in (F.least_index, F.greatest_index)

  pub named-fits : (index : ℕ) → index ≡ index_of (vid_record p vid) → (index ≡ 0 → ⊥) → (1 ≤ index) × (index ≤ 16)
  named-fits index e d = go (vid_record p vid) refl e
    where
      go : (o : Option Vid) → vid_record p vid ≡ o → index ≡ index_of o → (1 ≤ index) × (index ≤ 16)
      go none f e = absurd (d e)
      go (some v) f e = let F = index-fits v f in (omega (arith, F.0), omega (arith, F.1))

  module _ {A : Type 0} (ask : ℕ → Outcome A) (known : Bool) (index : ℕ) (e : index ≡ cond known (index_of (vid_record p vid)) 0) where
    pub not_named : index ≡ 0 → refused_as 11 ≡ named known (vid_record p vid) (λ v. ask v.index)
    not_named z = go known e (vid_record p vid) refl
      where
        go : (k : Bool) → index ≡ cond k (index_of (vid_record p vid)) 0 → (o : Option Vid) → vid_record p vid ≡ o
            → refused_as 11 ≡ named k o (λ v. ask v.index)
        go false e o f = refl
        go true e none f = refl
        go true e (some v) f = absurd (omega (arith, index-fits v f, e, ap index_of f))

    pub is_named_lem : (index ≡ 0 → ⊥) → ask index ≡ named known (vid_record p vid) (λ v. ask v.index)
    is_named_lem d = go known e (vid_record p vid) refl
      where
        go : (k : Bool) → index ≡ cond k (index_of (vid_record p vid)) 0 → (o : Option Vid) → vid_record p vid ≡ o
            → ask index ≡ named k o (λ v. ask v.index)
        go false e o f = absurd (d e)
        go true e none f = absurd (d (e ∙ ap index_of f))
        go true e (some v) f = ap ask (e ∙ ap index_of f)

module _ (p : Plan) (vid a b : ℕ) where
  pub no_from : length p.bridges ≤ a → 0 ≡ named_index p vid a b
  no_from h = rw (le-ltb a (length p.bridges) h) refl

  pub no_root : length p.bridges ≤ b → 0 ≡ named_index p vid a b
  no_root h = go (ltb a (length p.bridges))
    where
      go : (k : Bool) → 0 ≡ cond (k && ltb b (length p.bridges)) (index_of (vid_record p vid)) 0
      go false = refl
      go true = rw (le-ltb b (length p.bridges) h) refl

  pub both-known : a < length p.bridges → b < length p.bridges → index_of (vid_record p vid) ≡ named_index p vid a b
  both-known h k = rw (lt-ltb a (length p.bridges) h, lt-ltb b (length p.bridges) k) refl

  -- Where the index is not 0 both are there.
  pub known_from : (named_index p vid a b ≡ 0 → ⊥) → a < length p.bridges
  known_from d = go (ltb a (length p.bridges)) refl d
    where
      go : (k : Bool) → ltb a (length p.bridges) ≡ k → (cond (k && ltb b (length p.bridges)) (index_of (vid_record p vid)) 0 ≡ 0 → ⊥) → a < length p.bridges
      go false e d = absurd (d refl)
      go true e d = ltb-true a (length p.bridges) e

pub no_tree : {p : Plan} {vid a root : ℕ} (labels : List ℕ) → 0 ≡ named_index p vid a root → NamedTree p vid a root 0 labels
no_tree labels e = record { index_is = e; tree_is = λ d. absurd (d refl) }

pub known-tree : {p : Plan} {vid a root : ℕ} (index : ℕ) (labels : List ℕ) → index ≡ index_of (vid_record p vid)
    → a < length p.bridges → root < length p.bridges → PlanTree p index root labels → NamedTree p vid a root index labels
known-tree {p} {vid} {a} {root} index labels e h k T = record { index_is = e ∙ both-known p vid a root h k; tree_is = λ d. T }
