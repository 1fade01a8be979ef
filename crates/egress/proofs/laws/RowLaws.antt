-- Laws of the rows kept: none at first, one more, and every other as it was. Assumes nothing.
use Rattle.std.specs.Prelude.{ℕ, ◌+◌, ◌*◌, ◌≤◌, ◌<◌, ◌≡◌, refl, List, ◌⊎◌, length, get_or, set, drop}
use Rattle.std.proofs.Common.{arith, sym, ap, ◌∙◌, subst, inl, inr, length-set, get_or-set_same, get_or-set_other, get_or-drop}
use Rattle.lists.proofs.laws.NumberLaws.{same_or_not}
use Rattle.lists.proofs.laws.Splices.{length-spliced, place-before, place-within}
use Rattle.lists.specs.Appending.{Appended}
use Rattle.rule.specs.Plan.{Plan}
use Rattle.network.specs.Layout.{bridges_in}
use Rattle.network.specs.Networks.{NetworkOf, TreeIn}
use Rattle.trees.specs.Store.{slot_of}
use Rattle.trees.proofs.laws.StoreLaws.{slot_tells}
use Rattle.egress.specs.Leaving.{PlanHops, EgressRow, leaving_by, egress_row_by}
use Rattle.egress.proofs.laws.LeavingLaws.{leaving_is}
use Rattle.egress.proofs.laws.PassLaws.{row-length, row_at}
use Rattle.egress.specs.Rows.{egress_row_at, HasEgressRow, EgressRowOf, EgressRowsKept, Kept}

pub kept-all : (rows : List ℕ) → Kept rows rows
kept-all rows = record { same_length = refl; still = λ i l d. d }

pub kept-both : {before between after : List ℕ} → Kept before between → Kept between after → Kept before after
kept-both K M = record { same_length = M.same_length ∙ K.same_length; still = λ i l d. M.still i l (K.still i l d) }

-- No row yet.
pub no_rows : (net hops : List ℕ) (b : ℕ) (rows : List ℕ) → 6144 ≤ length rows
    → bridges_in net ≤ 64 → ((i : ℕ) → i < 1024 → get_or rows i 0 ≡ 0) → EgressRowsKept net hops b 0 rows
no_rows net hops b rows l m z = record {
  size = l;
  begins = λ index a h k i d. absurd (d (z (slot_of index a) (omega arith)));
  held = λ index a h k i d. absurd (d (z (slot_of index a) (omega arith)));
}

module _ {net hops : List ℕ} {b count : ℕ} {rows : List ℕ}
    (R : EgressRowsKept net hops b count rows) (most : bridges_in net ≤ 64) (room : count < 80) where
  abbrev n : ℕ
  n = bridges_in net

  module _ (index a : ℕ) (l : 1 ≤ index) (g : index ≤ 16) (in-n : a < n) {labels : List ℕ} (tree : TreeIn net index a labels)
      (m : ℕ) (counted : m ≡ n) (rows' : List ℕ) (end : ℕ)
      (appended : Appended (set rows (slot_of index a) (1024 + 64 * count)) (1024 + 64 * count) (egress_row_by labels hops b m) rows' end) where
    abbrev place : ℕ
    place = 1024 + 64 * count

    abbrev marked : List ℕ
    marked = set rows (slot_of index a) place

    A : Appended marked place (egress_row_by labels hops b n) rows' end
    A = subst (λ (x : ℕ). Appended marked place (egress_row_by labels hops b x) rows' end) counted appended

    below : slot_of index a < 1024
    below = omega arith

    written-length : length (egress_row_by labels hops b n) ≡ n
    written-length = row-length labels hops b n

    marked-length : length marked ≡ length rows
    marked-length = length-set rows (slot_of index a) place

    rows-length : length rows' ≡ length rows
    rows-length = ap length A.words_are ∙ length-spliced marked place (egress_row_by labels hops b n) (omega (arith, written-length, marked-length, R.size)) ∙ marked-length

    -- A place before the row.
    at_place : (i : ℕ) → i < place → (i ≡ slot_of index a → ⊥) → get_or rows' i 0 ≡ get_or rows i 0
    at_place i h d =
        ap (λ (t : List ℕ). get_or t i 0) A.words_are
        ∙ place-before marked place (egress_row_by labels hops b n) i 0 h (omega (arith, marked-length, R.size))
        ∙ get_or-set_other rows (slot_of index a) i place 0 d

    at_slot : get_or rows' (slot_of index a) 0 ≡ place
    at_slot =
        ap (λ (t : List ℕ). get_or t (slot_of index a) 0) A.words_are
        ∙ place-before marked place (egress_row_by labels hops b n) (slot_of index a) 0 (omega (arith, below)) (omega (arith, marked-length, R.size))
        ∙ get_or-set_same rows (slot_of index a) place 0 (omega (arith, below, R.size))

    in_row : (d : ℕ) → d < n → get_or (drop place rows') d 0 ≡ leaving_by labels hops b d
    in_row d h =
        get_or-drop place rows' d 0
        ∙ ap (λ (t : List ℕ). get_or t (place + d) 0) A.words_are
        ∙ place-within marked place (egress_row_by labels hops b n) d 0 (omega (arith, written-length)) (omega (arith, marked-length, R.size))
        ∙ row_at labels hops b n d h

    new_row : EgressRowOf net hops b index a (drop (egress_row_at rows' index a) rows')
    new_row = record { labels = labels; tree = tree; each = λ d h. ap (λ (k : ℕ). get_or (drop k rows') d 0) at_slot ∙ in_row d h }

    old_row : (index' a' : ℕ) → 1 ≤ index' → index' ≤ 16 → a' < n → (slot_of index' a' ≡ slot_of index a → ⊥)
        → (egress_row_at rows index' a' ≡ 0 → ⊥) → egress_row_at rows' index' a' ≡ egress_row_at rows index' a'
        → EgressRowOf net hops b index' a' (drop (egress_row_at rows' index' a') rows')
    old_row index' a' h k i d f e =
        let H = R.held index' a' h k i f
        in let c = R.begins index' a' h k i f
        in record {
          labels = H.labels;
          tree = H.tree;
          each = λ x y.
              ap (λ (q : ℕ). get_or (drop q rows') x 0) e
              ∙ get_or-drop (egress_row_at rows index' a') rows' x 0
              ∙ at_place (egress_row_at rows index' a' + x) (omega (arith, c.1)) (λ z. omega (arith, c.0, below))
              ∙ sym (get_or-drop (egress_row_at rows index' a') rows x 0)
              ∙ H.each x y;
        }

    row_added : EgressRowsKept net hops b (count + 1) rows'
    row_added = record {
      size = omega (arith, rows-length, R.size);
      begins = λ index' a' h k i d. begins index' a' h k i d (same_or_not (slot_of index' a') (slot_of index a));
      held = λ index' a' h k i d. held index' a' h k i d (same_or_not (slot_of index' a') (slot_of index a));
    }
      where
        same : (index' a' : ℕ) → 1 ≤ index' → index' ≤ 16 → a' < n → (slot_of index' a' ≡ slot_of index a → ⊥) → egress_row_at rows' index' a' ≡ egress_row_at rows index' a'
        same index' a' h k i d = at_place (slot_of index' a') (omega arith) d

        begins : (index' a' : ℕ) → 1 ≤ index' → index' ≤ 16 → a' < n → (egress_row_at rows' index' a' ≡ 0 → ⊥)
            → (slot_of index' a' ≡ slot_of index a) ⊎ (slot_of index' a' ≡ slot_of index a → ⊥)
            → (1024 ≤ egress_row_at rows' index' a') × (egress_row_at rows' index' a' + 64 ≤ 1024 + 64 * (count + 1))
        begins index' a' h k i d (inl e) =
            let f : egress_row_at rows' index' a' ≡ place = ap (λ (x : ℕ). get_or rows' x 0) e ∙ at_slot in (omega arith, omega arith)
        begins index' a' h k i d (inr e) =
            let f = same index' a' h k i e
            in let c = R.begins index' a' h k i (λ z. d (f ∙ z))
            in (omega (arith, c.0), omega (arith, c.1))

        held : (index' a' : ℕ) → 1 ≤ index' → index' ≤ 16 → a' < n → (egress_row_at rows' index' a' ≡ 0 → ⊥)
            → (slot_of index' a' ≡ slot_of index a) ⊎ (slot_of index' a' ≡ slot_of index a → ⊥)
            → EgressRowOf net hops b index' a' (drop (egress_row_at rows' index' a') rows')
        held index' a' h k i d (inl e) =
            let f = slot_tells index' a' index a h l (omega arith) (omega arith) e
            in rw (f.0, f.1) new_row
        held index' a' h k i d (inr e) =
            let f = same index' a' h k i e in old_row index' a' h k i e (λ z. d (f ∙ z)) f

    row_kept : Kept rows rows'
    row_kept = record { same_length = rows-length; still = λ i h d z. go i h d z (same_or_not i (slot_of index a)) }
      where
        go : (i : ℕ) → i < 1024 → (get_or rows i 0 ≡ 0 → ⊥) → get_or rows' i 0 ≡ 0 → (i ≡ slot_of index a) ⊎ (i ≡ slot_of index a → ⊥) → ⊥
        go i h d z (inl e) = omega (arith, ap (λ (x : ℕ). get_or rows' x 0) e, at_slot)
        go i h d z (inr e) = d (sym (at_place i (omega arith) e) ∙ z)

    row-there : HasEgressRow rows' index a
    row-there = record { there = omega (arith, at_slot) }

    -- All that is said of a row that was made.
    pub row_made : EgressRowsKept net hops b (count + 1) rows' × Kept rows rows' × HasEgressRow rows' index a
    row_made = (row_added, row_kept, row-there)

-- A row of the network of a plan is the plan's.
pub plan-row : {p : Plan} {net hops : List ℕ} {b index a : ℕ} {row : List ℕ}
    → NetworkOf p net → PlanHops p (bridges_in net) b hops
    → EgressRowOf net hops b index a row → EgressRow p index a b row
plan-row {p} {net} {hops} {b} {index} {a} B H R = record {
  each = λ d l.
      let k : d < bridges_in net = omega (arith, B.represents.size_is)
      in R.each d k ∙ leaving_is B index a (R.tree.of_plan p B) b H d k;
}
