-- Kinds of records: the row of each in the table of record kinds, and the step of a record by its kind. Assumes nothing.
use Rattle.std.specs.Prelude.{ℕ, suc, ◌/◌, ◌≤◌, ◌<◌, ◌≡◌, refl, List, ◌∷◌, Bool, true, false, ◌&&◌, eqb, ltb, length, get_or, drop}
use Rattle.std.proofs.Common.{arith, ap, ◌∙◌, drop-cons, ne_eqb, lt-ltb, le-ltb, ltb-true, eqb-true}
use Rattle.std.proofs.Math.Option.{none, some}
use Rattle.lists.specs.Lists.{selected}
use Rattle.rule.specs.Words.{word, bits}
use Rattle.rule.specs.Records.{layout_of, bridge_layout, half_link_layout, vid_layout, member_layout, traffic_layout, end_layout}
use Rattle.rule.specs.Check.{read_as, read_from, step_of}
use Rattle.table.specs.declared.shape.Shape.{Shape}
use Rattle.table.specs.Positions.{words_read, reading_at}
use Rattle.runs.specs.Runs.{is_kind}

pub bridge-kind : layout_of 1 ≡ some bridge_layout
unfolding layout_of selected
bridge-kind = refl

pub half_link-kind : layout_of 2 ≡ some half_link_layout
unfolding layout_of selected
half_link-kind = refl

pub vid-kind : layout_of 3 ≡ some vid_layout
unfolding layout_of selected
vid-kind = refl

pub member-kind : layout_of 4 ≡ some member_layout
unfolding layout_of selected
member-kind = refl

pub traffic-kind : layout_of 5 ≡ some traffic_layout
unfolding layout_of selected
traffic-kind = refl

pub end-kind : layout_of 15 ≡ some end_layout
unfolding layout_of selected
end-kind = refl

pub unknown-kind :
    (k : ℕ) → (k ≡ 1 → ⊥) → (k ≡ 2 → ⊥) → (k ≡ 3 → ⊥) → (k ≡ 4 → ⊥) → (k ≡ 5 → ⊥) → (k ≡ 15 → ⊥) → layout_of k ≡ none
unfolding layout_of selected
unknown-kind k a b c d e f = simp (ne_eqb k 1 a, ne_eqb k 2 b, ne_eqb k 3 c, ne_eqb k 4 d, ne_eqb k 5 e, ne_eqb k 15 f)

-- A record of the kind begins at the word: the word is there, and its kind is that.
kind_told : (a b : Bool) → (a && b) ≡ true → (a ≡ true) × (b ≡ true)
kind_told true b e = (refl, e)
kind_told false b e = let z : ◌≡◌ {A = ℕ} 0 1 = cc in absurd (omega arith)

module _ (ws : List ℕ) (kind at : ℕ) (e : is_kind ws kind at ≡ true) where
  pub word-there : at < length ws
  word-there = ltb-true at (length ws) (kind_told (ltb at (length ws)) (eqb (bits (word ws at) 31 28) kind) e).0

  pub kind-there : bits (word ws at) 31 28 ≡ kind
  kind-there = eqb-true (bits (word ws at) 31 28) kind (kind_told (ltb at (length ws)) (eqb (bits (word ws at) 31 28) kind) e).1

-- What a test of the word comes to.
pub no_word : (ws : List ℕ) (kind at : ℕ) → length ws ≤ at → false ≡ is_kind ws kind at
no_word ws kind at l = simp (le-ltb at (length ws) l)

pub kind_of_word : (ws : List ℕ) (kind at w : ℕ) → at < length ws → w ≡ word ws at → w < 4294967296 → eqb (w / 268435456) kind ≡ is_kind ws kind at
kind_of_word ws kind at w l e b =
    let z : w / 268435456 ≡ bits (word ws at) 31 28 = omega arith
    in ap (λ (k : ℕ). eqb k kind) z ∙ simp (lt-ltb at (length ws) l)

-- The rule's step by the kind in the first word.
pub step_by_kind :
    (ws : List ℕ) (s : Shape) (kind : ℕ) →
    words_read s < length ws →
    bits (word ws (words_read s)) 31 28 ≡ kind →
    step_of ws (reading_at ws s) ≡ read_as (reading_at ws s) (drop (words_read s) ws) (layout_of kind)
step_by_kind ws s kind l e = go (drop (words_read s) ws) (drop-cons ws (words_read s) 0 l)
  where
    go :
        (r : List ℕ) →
        r ≡ get_or ws (words_read s) 0 ∷ drop (suc (words_read s)) ws →
        read_from (length ws) (reading_at ws s) r ≡ read_as (reading_at ws s) r (layout_of kind)
    go r f =
        rw f
        (ap (λ (k : ℕ). read_as (reading_at ws s) (get_or ws (words_read s) 0 ∷ drop (suc (words_read s)) ws) (layout_of k)) e)
