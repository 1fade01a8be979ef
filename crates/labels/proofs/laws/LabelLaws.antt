-- What is read of the labels after they were written: the label of the bridge concerned, and every other as it was.
-- Assumes nothing.
use Rattle.std.specs.Prelude.{ℕ, ◌+◌, ◌≤◌, ◌<◌, ◌≡◌, refl, List, ◌⊎◌, cond, ◌&&◌, T, eqb, ltb, leb, length, get_or, set}
use Rattle.std.proofs.Common.{arith, ◌∙◌, inl, inr, ltb→lt, lt→ltb, leb→le, le→leb, length-set, get_or-set_same, get_or-set_other}
use Rattle.lists.proofs.laws.NumberLaws.{both, first_of, last_of, same_or_not}
use Rattle.labels.specs.Labels.{no_cost, Label, label_at, taken, settled_labels, state_of}

-- Labels with the same five numbers are the same.
pub same-label : {a b c d e a' b' c' d' e' : ℕ} → a ≡ a' → b ≡ b' → c ≡ c' → d ≡ d' → e ≡ e'
    → ◌≡◌ {A = Label} (record { waits = a; cost = b; hops = c; next = d; first = e }) (record { waits = a'; cost = b'; hops = c'; next = d'; first = e' })
same-label i j k l m = rw (i, j, k, l, m) refl

-- The label of the bridge `v` after it took the way through the bridge `via`.
module _ (labels : List ℕ) (via v cost hops : ℕ) where
  other_place : (j : ℕ) → (j ≡ v → ⊥) → (j ≡ 64 + v → ⊥) → (j ≡ 128 + v → ⊥) → (j ≡ 192 + v → ⊥) → get_or (taken labels via v cost hops) j 0 ≡ get_or labels j 0
  other_place j e f g h =
      get_or-set_other (set (set (set labels v cost) (64 + v) cost) (128 + v) hops) (192 + v) j via 0 h
      ∙ get_or-set_other (set (set labels v cost) (64 + v) cost) (128 + v) j hops 0 g
      ∙ get_or-set_other (set labels v cost) (64 + v) j cost 0 f
      ∙ get_or-set_other labels v j cost 0 e

  pub length_taken : length (taken labels via v cost hops) ≡ length labels
  length_taken = simp length-set

  pub label_taken : v < 64 → 320 ≤ length labels
      → label_at (taken labels via v cost hops) v ≡ record { waits = cost; cost = cost; hops = hops; next = via; first = (label_at labels v).first }
  label_taken l has = same-label
      (get_or-set_other (set (set (set labels v cost) (64 + v) cost) (128 + v) hops) (192 + v) v via 0 (omega arith)
      ∙ get_or-set_other (set (set labels v cost) (64 + v) cost) (128 + v) v hops 0 (omega arith)
      ∙ get_or-set_other (set labels v cost) (64 + v) v cost 0 (omega arith)
      ∙ get_or-set_same labels v cost 0 (omega arith))
      (get_or-set_other (set (set (set labels v cost) (64 + v) cost) (128 + v) hops) (192 + v) (64 + v) via 0 (omega arith)
      ∙ get_or-set_other (set (set labels v cost) (64 + v) cost) (128 + v) (64 + v) hops 0 (omega arith)
      ∙ get_or-set_same (set labels v cost) (64 + v) cost 0 (omega (arith, length-set labels v cost)))
      (get_or-set_other (set (set (set labels v cost) (64 + v) cost) (128 + v) hops) (192 + v) (128 + v) via 0 (omega arith)
      ∙ get_or-set_same (set (set labels v cost) (64 + v) cost) (128 + v) hops 0
      (omega (arith, length-set (set labels v cost) (64 + v) cost, length-set labels v cost)))
      (get_or-set_same (set (set (set labels v cost) (64 + v) cost) (128 + v) hops) (192 + v) via 0
      (omega (arith, length-set (set (set labels v cost) (64 + v) cost) (128 + v) hops, length-set (set labels v cost) (64 + v) cost, length-set labels v cost)))
      (other_place (256 + v) (omega arith) (omega arith) (omega arith) (omega arith))

  pub label-passed : (x : ℕ) → x < 64 → v < 64 → (x ≡ v → ⊥) → label_at (taken labels via v cost hops) x ≡ label_at labels x
  label-passed x i l f = same-label
      (other_place x f (omega arith) (omega arith) (omega arith))
      (other_place (64 + x) (omega arith) (omega arith) (omega arith) (omega arith))
      (other_place (128 + x) (omega arith) (omega arith) (omega arith) (omega arith))
      (other_place (192 + x) (omega arith) (omega arith) (omega arith) (omega arith))
      (other_place (256 + x) (omega arith) (omega arith) (omega arith) (omega arith))

-- The label of the bridge `u` after it was settled.
module _ (labels : List ℕ) (root u : ℕ) where
  abbrev first_hop : ℕ
  first_hop = cond (eqb (label_at labels u).next root) u (label_at labels (label_at labels u).next).first

  unwritten : (j : ℕ) → (j ≡ u → ⊥) → (j ≡ 256 + u → ⊥) → get_or (settled_labels labels root u) j 0 ≡ get_or labels j 0
  unwritten j e f = get_or-set_other (set labels (256 + u) first_hop) u j no_cost 0 e ∙ get_or-set_other labels (256 + u) j first_hop 0 f

  pub length-settled : length (settled_labels labels root u) ≡ length labels
  length-settled = simp length-set

  pub label-settled : u < 64 → 320 ≤ length labels → label_at (settled_labels labels root u) u
      ≡ record { waits = no_cost; cost = (label_at labels u).cost; hops = (label_at labels u).hops; next = (label_at labels u).next; first = first_hop }
  label-settled l has = same-label
      (get_or-set_same (set labels (256 + u) first_hop) u no_cost 0 (omega (arith, length-set labels (256 + u) first_hop)))
      (unwritten (64 + u) (omega arith) (omega arith))
      (unwritten (128 + u) (omega arith) (omega arith))
      (unwritten (192 + u) (omega arith) (omega arith))
      (get_or-set_other (set labels (256 + u) first_hop) u (256 + u) no_cost 0 (omega arith)
      ∙ get_or-set_same labels (256 + u) first_hop 0 (omega arith))

  pub label_unsettled : (x : ℕ) → x < 64 → u < 64 → (x ≡ u → ⊥) → label_at (settled_labels labels root u) x ≡ label_at labels x
  label_unsettled x i l f = same-label
      (unwritten x f (omega arith))
      (unwritten (64 + x) (omega arith) (omega arith))
      (unwritten (128 + x) (omega arith) (omega arith))
      (unwritten (192 + x) (omega arith) (omega arith))
      (unwritten (256 + x) (omega arith) (omega arith))

  -- Its own cost, hops and next hop, and those of every other bridge, are as they were.
  pub settling_keeps : (x : ℕ) → x < 64 → u < 64 → 320 ≤ length labels → (a : ℕ) × (b : ℕ) × (label_at (settled_labels labels root u) x
      ≡ record { waits = a; cost = (label_at labels x).cost; hops = (label_at labels x).hops; next = (label_at labels x).next; first = b })
  settling_keeps x i l has = go (same_or_not x u)
    where
      go : (x ≡ u) ⊎ (x ≡ u → ⊥) → (a : ℕ) × (b : ℕ) × (label_at (settled_labels labels root u) x
          ≡ record { waits = a; cost = (label_at labels x).cost; hops = (label_at labels x).hops; next = (label_at labels x).next; first = b })
      go (inl e) = rw e (no_cost, first_hop, label-settled l has)
      go (inr f) = ((label_at labels x).waits, (label_at labels x).first, label_unsettled x i l f)

-- What it is to be settled, in numbers.
module _ (n : ℕ) (labels path-ids : List ℕ) (u : ℕ) where
  pub settled_says : T ((state_of n labels path-ids).settled u) → (u < n) × ((label_at labels u).cost < no_cost) × (no_cost ≤ (label_at labels u).waits)
  settled_says h =
      let a = first_of (ltb u n) (ltb (label_at labels u).cost no_cost && leb no_cost (label_at labels u).waits) h in
      let b = last_of (ltb u n) (ltb (label_at labels u).cost no_cost && leb no_cost (label_at labels u).waits) h in (
        ltb→lt u n a,
        ltb→lt (label_at labels u).cost no_cost (first_of (ltb (label_at labels u).cost no_cost) (leb no_cost (label_at labels u).waits) b),
        leb→le no_cost (label_at labels u).waits (last_of (ltb (label_at labels u).cost no_cost) (leb no_cost (label_at labels u).waits) b),
      )

  pub says-settled : u < n → (label_at labels u).cost < no_cost → no_cost ≤ (label_at labels u).waits → T ((state_of n labels path-ids).settled u)
  says-settled i j k = both (ltb u n) (ltb (label_at labels u).cost no_cost && leb no_cost (label_at labels u).waits) (lt→ltb u n i)
      (both (ltb (label_at labels u).cost no_cost) (leb no_cost (label_at labels u).waits) (lt→ltb (label_at labels u).cost no_cost j) (le→leb no_cost (label_at labels u).waits k))
