-- How a search begins: the labels are cleared, then the root is settled. And what a bridge is settled with.
-- Assumes nothing.
use Rattle.std.specs.Prelude.{ℕ, ◌+◌, ◌≤◌, ◌<◌, ◌≡◌, refl, List, [], ◌∷◌, ◌++◌, ◌⊎◌, cond, eqb, length, get_or, set, take, drop, replicate}
use Rattle.std.proofs.Common.{arith, sym, ap, ◌∙◌, inl, inr, length-append, length-drop, length-set, get_or-set_same, get_or-set_other}
use Rattle.std.proofs.lemmas.List.{length-take-le, length-replicate, get_or-replicate, get_or_append_left}
use Rattle.lists.proofs.laws.NumberLaws.{same_or_not}
use Rattle.lists.proofs.laws.Splices.{spliced-nothing, spliced-next}
use Rattle.lists.specs.Lists.{spliced}
use Rattle.graph.specs.Order.{insert_upward}
use Rattle.ect.specs.Rows.{row_place, row_of, Insertable}
use Rattle.ect.proofs.laws.RowLaws.{row_written}
use Rattle.labels.specs.Labels.{no_cost, label_at, settled_labels, settled_path_ids}
use Rattle.labels.proofs.laws.LabelLaws.{same-label}
use Rattle.tree.specs.Settling.{Cleared, Begun}

-- The labels of the first `u` bridges are cleared.
pub record Clearing (labels₀ labels : List ℕ) (u : ℕ) : Type 0 where
  pub within : u ≤ 64
  pub so_far : Cleared u labels₀ labels

pub clearing_starts : (labels : List ℕ) → Clearing labels labels 0
clearing_starts labels = record {
  within = omega arith;
  so_far = record { same_length = refl; none_waits = λ x h. absurd (omega arith); none_labelled = λ x h. absurd (omega arith) };
}

module _ {labels₀ labels : List ℕ} {u : ℕ} (C : Clearing labels₀ labels u) where
  pub clearing_goes_on : 320 ≤ length labels₀ → u < 64 → Clearing labels₀ (set (set labels u no_cost) (64 + u) no_cost) (u + 1)
  clearing_goes_on has h = record {
    within = omega arith;
    so_far = record {
      same_length = length-set (set labels u no_cost) (64 + u) no_cost ∙ length-set labels u no_cost ∙ C.so_far.same_length;
      none_waits = λ x l. waits x l (same_or_not x u);
      none_labelled = λ x l. cost x l (same_or_not x u);
    };
  }
    where
      waits : (x : ℕ) → x < u + 1 → (x ≡ u) ⊎ (x ≡ u → ⊥) → get_or (set (set labels u no_cost) (64 + u) no_cost) x 0 ≡ no_cost
      waits x l (inl e) = get_or-set_other (set labels u no_cost) (64 + u) x no_cost 0 (omega arith)
          ∙ ap (λ (k : ℕ). get_or (set labels u no_cost) k 0) e ∙ get_or-set_same labels u no_cost 0 (omega (arith, C.so_far.same_length))
      waits x l (inr f) = get_or-set_other (set labels u no_cost) (64 + u) x no_cost 0 (omega arith)
          ∙ get_or-set_other labels u x no_cost 0 f ∙ C.so_far.none_waits x (omega arith)

      cost : (x : ℕ) → x < u + 1 → (x ≡ u) ⊎ (x ≡ u → ⊥) → get_or (set (set labels u no_cost) (64 + u) no_cost) (64 + x) 0 ≡ no_cost
      cost x l (inl e) = ap (λ (k : ℕ). get_or (set (set labels u no_cost) (64 + u) no_cost) (64 + k) 0) e
          ∙ get_or-set_same (set labels u no_cost) (64 + u) no_cost 0 (omega (arith, length-set labels u no_cost, C.so_far.same_length))
      cost x l (inr f) = get_or-set_other (set labels u no_cost) (64 + u) (64 + x) no_cost 0 (omega arith)
          ∙ get_or-set_other labels u (64 + x) no_cost 0 (omega arith) ∙ C.so_far.none_labelled x (omega arith)

  pub clearing_ends : 64 ≤ u → Cleared 64 labels₀ labels
  clearing_ends h = let e : u ≡ 64 = omega arith in rw e at C.so_far

-- The labels cleared in one fill of the two parts that stand at the front.
pub front_filled : (labels part : List ℕ) → 320 ≤ length labels → part ≡ replicate (length (take 128 labels)) no_cost → Cleared 64 labels (part ++ drop 128 labels)
front_filled labels part has e = record {
  same_length = omega (arith, length-append part (drop 128 labels), length-drop 128 labels, long);
  none_waits = λ u h. filled u (omega arith);
  none_labelled = λ u h. filled (64 + u) (omega arith);
}
  where
    cleared : part ≡ replicate 128 no_cost
    cleared = e ∙ ap (λ (k : ℕ). replicate k no_cost) (length-take-le 128 labels (omega arith))

    long : length part ≡ 128
    long = ap (λ (x : List ℕ). length x) cleared ∙ length-replicate {A = ℕ} 128 no_cost

    filled : (i : ℕ) → i < 128 → get_or (part ++ drop 128 labels) i 0 ≡ no_cost
    filled i h = get_or_append_left part (drop 128 labels) 0 i (omega (arith, long)) ∙ ap (λ (x : List ℕ). get_or x i 0) cleared ∙ get_or-replicate 128 i no_cost 0 h

-- The root is settled.
module _ (root key : ℕ) (labels₀ labels path-ids : List ℕ) (inside : root < 64) (has : 320 ≤ length labels₀) (has_path_ids : 4096 ≤ length path-ids)
    (C : Cleared 64 labels₀ labels) where
  abbrev one : List ℕ
  one = set labels (64 + root) 0

  abbrev two : List ℕ
  two = set one (128 + root) 0

  abbrev three : List ℕ
  three = set two (192 + root) root

  abbrev four : List ℕ
  four = set three (256 + root) root

  length_three : length three ≡ length labels₀
  length_three = simp length-set C.same_length

  other_place : (j : ℕ) → (j ≡ 64 + root → ⊥) → (j ≡ 128 + root → ⊥) → (j ≡ 192 + root → ⊥) → (j ≡ 256 + root → ⊥) → get_or four j 0 ≡ get_or labels j 0
  other_place j e f g h =
      get_or-set_other three (256 + root) j root 0 h ∙ get_or-set_other two (192 + root) j root 0 g
      ∙ get_or-set_other one (128 + root) j 0 0 f ∙ get_or-set_other labels (64 + root) j 0 0 e

  written : set path-ids (row_place root) key ≡ spliced path-ids (row_place root) (key ∷ [])
  written =
      ap (λ (t : List ℕ). set t (row_place root) key) (sym (spliced-nothing path-ids (row_place root)))
      ∙ ap (λ (k : ℕ). set (spliced path-ids (row_place root) []) k key) (let e : row_place root ≡ row_place root + 0 = omega arith in e)
      ∙ spliced-next path-ids (row_place root) [] key (omega arith)

  pub begun : Begun root key labels₀ path-ids four (set path-ids (row_place root) key)
  begun = record {
    same_labels = simp length-set C.same_length;
    same_path_ids = length-set path-ids (row_place root) key;
    root_label = same-label
        (other_place root (omega arith) (omega arith) (omega arith) (omega arith) ∙ C.none_waits root inside)
        (get_or-set_other three (256 + root) (64 + root) root 0 (omega arith) ∙ get_or-set_other two (192 + root) (64 + root) root 0 (omega arith)
        ∙ get_or-set_other one (128 + root) (64 + root) 0 0 (omega arith) ∙ get_or-set_same labels (64 + root) 0 0 (omega (arith, C.same_length)))
        (get_or-set_other three (256 + root) (128 + root) root 0 (omega arith) ∙ get_or-set_other two (192 + root) (128 + root) root 0 (omega arith)
        ∙ get_or-set_same one (128 + root) 0 0 (omega (arith, length-set labels (64 + root) 0, C.same_length)))
        (get_or-set_other three (256 + root) (192 + root) root 0 (omega arith)
        ∙ get_or-set_same two (192 + root) root 0 (omega (arith, length-set one (128 + root) 0, length-set labels (64 + root) 0, C.same_length)))
        (get_or-set_same three (256 + root) root 0 (omega (arith, length_three)));
    root_row = ap (λ (t : List ℕ). row_of t root 1) written ∙ row_written path-ids root (key ∷ []) (omega arith);
    none_waits = λ u l. other_place u (omega arith) (omega arith) (omega arith) (omega arith) ∙ C.none_waits u l;
    others_unlabelled = λ u l f. other_place (64 + u) (omega arith) (omega arith) (omega arith) (omega arith) ∙ C.none_labelled u l;
  }

-- The bridge `u` is settled with the next hop and the hops that were read of it.
module _ (labels path-ids : List ℕ) (u : ℕ) {next hops count : ℕ} (read_next : next ≡ (label_at labels u).next)
    (read-hops : hops ≡ (label_at labels u).hops) (counted : count ≡ hops) where
  pub read-insertable : Insertable path-ids (label_at labels u).next u (label_at labels u).hops → Insertable path-ids next u count
  read-insertable I = rw (read_next, counted, read-hops) I

  pub row_settled : (key : ℕ) {path_ids' : List ℕ} → path_ids' ≡ spliced path-ids (row_place u) (insert_upward key (row_of path-ids next count)) → path_ids' ≡ settled_path_ids labels path-ids u key
  row_settled key e = e ∙ rw (read_next, counted, read-hops) refl

module _ (labels : List ℕ) (root u : ℕ) {next : ℕ} (read_next : next ≡ (label_at labels u).next) where
  pub first-settled : {first : ℕ} → first ≡ cond (eqb next root) u (label_at labels next).first → set (set labels (256 + u) first) u no_cost ≡ settled_labels labels root u
  first-settled e =
      ap (λ (k : ℕ). set (set labels (256 + u) k) u no_cost)
      (e ∙ ap (λ (x : ℕ). cond (eqb x root) u (label_at labels x).first) read_next)
