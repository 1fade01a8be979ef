-- A hop added to the loads of pairs: exactly its own pair has the amount more. Assumes nothing.
use Rattle.std.specs.Prelude.{ℕ, ◌+◌, ◌*◌, ◌≤◌, ◌<◌, min, max, ◌≡◌, refl, List, ◌++◌, ◌⊎◌, Bool, true, false, cond, ◌&&◌, T, eqb, length, get_or, set, take, drop, replicate}
use Rattle.std.proofs.Common.{arith, sym, ap, ◌∙◌, inl, inr, get_or-set_same, get_or-set_other}
use Rattle.std.proofs.lemmas.List.{length-take-le, length-replicate, get_or-replicate, get_or_append_left}
use Rattle.lists.proofs.laws.NumberLaws.{le_or_gt, compared, equal-two, either_left, either_right}
use Rattle.graph.specs.Pairs.{Pair, is_hop_of}
use Rattle.graph.proofs.laws.PairLaws.{hop-either}
use Rattle.loads.specs.Places.{Placed, load_at, hop_place, hop_added, NoLoads}

-- The place of a hop is that of its pair, and of no other.
pair_place : (q : Pair) → Placed q → (x y : ℕ) → T (is_hop_of q x y) → hop_place x y ≡ 64 * q.lower + q.higher
pair_place q P x y h = go (hop-either q x y h)
  where
    go : ((x ≡ q.lower) × (y ≡ q.higher)) ⊎ ((x ≡ q.higher) × (y ≡ q.lower)) → hop_place x y ≡ 64 * q.lower + q.higher
    go (inl (e, f)) = omega (arith, P.rises)
    go (inr (e, f)) = omega (arith, P.rises)

place-pair : (q : Pair) → Placed q → (x y : ℕ) → x < 64 → y < 64 → hop_place x y ≡ 64 * q.lower + q.higher → T (is_hop_of q x y)
place-pair q P x y h k e = go (le_or_gt x y)
  where
    go : (x ≤ y) ⊎ (y < x) → T (is_hop_of q x y)
    go (inl l) =
        let f : x ≡ q.lower = omega (arith, P.inside, P.rises)
        in let g : y ≡ q.higher = omega (arith, P.inside, P.rises)
        in either_left (eqb x q.lower && eqb y q.higher) (eqb x q.higher && eqb y q.lower) (equal-two x q.lower y q.higher f g)
    go (inr l) =
        let f : x ≡ q.higher = omega (arith, P.inside, P.rises)
        in let g : y ≡ q.lower = omega (arith, P.inside, P.rises)
        in either_right (eqb x q.lower && eqb y q.higher) (eqb x q.higher && eqb y q.lower) (equal-two x q.higher y q.lower f g)

pub place-within : (x y : ℕ) → x < 64 → y < 64 → hop_place x y < 4096
place-within x y h k = omega arith

-- A hop between two different bridges has its pair.
pub pair_of_hop : (x y : ℕ) → x < 64 → y < 64 → (x ≡ y → ⊥) → (q : Pair) × Placed q × T (is_hop_of q x y) × (hop_place x y ≡ 64 * q.lower + q.higher)
pair_of_hop x y h k d = (q, P, place-pair q P x y h k refl, refl)
  where
    q : Pair
    q = record { lower = min x y; higher = max x y }

    P : Placed q
    P = go (compared x y)
      where
        go : (x < y) ⊎ (x ≡ y) ⊎ (y < x) → Placed q
        go (inl l) = record { rises = omega arith; inside = omega arith }
        go (inr (inl e)) = absurd (d e)
        go (inr (inr l)) = record { rises = omega arith; inside = omega arith }

-- Exactly the pair of a hop has the amount more.
pub hop_added_lem : (loads : List ℕ) (x y amount : ℕ) → 4096 ≤ length loads → x < 64 → y < 64 → (q : Pair) → Placed q
    → load_at (hop_added loads x y amount) q ≡ load_at loads q + cond (is_hop_of q x y) amount 0
hop_added_lem loads x y amount room h k q P = go (is_hop_of q x y) (pair_place q P x y) (place-pair q P x y h k)
  where
    at : ℕ
    at = 64 * q.lower + q.higher

    go : (b : Bool) → (T b → hop_place x y ≡ at) → (hop_place x y ≡ at → T b) → get_or (hop_added loads x y amount) at 0 ≡ get_or loads at 0 + cond b amount 0
    go true f g =
        ap (λ (i : ℕ). get_or (hop_added loads x y amount) i 0) (sym (f tt))
        ∙ get_or-set_same loads (hop_place x y) (get_or loads (hop_place x y) 0 + amount) 0 (omega (arith, place-within x y h k))
        ∙ ap (λ (i : ℕ). get_or loads i 0 + amount) (f tt)
    go false f g = get_or-set_other loads (hop_place x y) at (get_or loads (hop_place x y) 0 + amount) 0 (λ e. g (sym e)) ∙ omega arith

-- The same at a place that is known to be the hop's.
module _ (loads : List ℕ) (x y amount place : ℕ) (e : place ≡ hop_place x y) where
  pub place-fits : get_or loads (hop_place x y) 0 + amount < 4294967296 → get_or loads place 0 + amount < 4294967296
  place-fits h = rw e h

  pub place_added : set loads place (get_or loads place 0 + amount) ≡ hop_added loads x y amount
  place_added = ap (λ (i : ℕ). set loads i (get_or loads i 0 + amount)) e

-- Places cleared one after the other.
pub none-at-first : (loads : List ℕ) → NoLoads loads 0
none-at-first loads = record { none = λ i h. absurd (omega arith) }

pub one-more-cleared : (loads : List ℕ) (n : ℕ) → NoLoads loads n → n < length loads → NoLoads (set loads n 0) (n + 1)
one-more-cleared loads n N l = record { none = λ i h. go i h (compared i n) }
  where
    go : (i : ℕ) → i < n + 1 → (i < n) ⊎ (i ≡ n) ⊎ (n < i) → get_or (set loads n 0) i 0 ≡ 0
    go i h (inl m) = get_or-set_other loads n i 0 0 (λ e. omega arith) ∙ N.none i m
    go i h (inr (inl e)) = ap (λ (k : ℕ). get_or (set loads n 0) k 0) e ∙ get_or-set_same loads n 0 0 l
    go i h (inr (inr m)) = absurd (omega arith)

pub all-cleared : {loads : List ℕ} {n m : ℕ} → NoLoads loads n → m ≤ n → NoLoads loads m
all-cleared N l = record { none = λ i h. N.none i (omega arith) }

-- Places cleared in one fill.
pub front_filled : (loads part : List ℕ) (n : ℕ) → n ≤ length loads → part ≡ replicate (length (take n loads)) 0 → NoLoads (part ++ drop n loads) n
front_filled loads part n l e = record {
  none = λ i h. get_or_append_left part (drop n loads) 0 i (omega (arith, long)) ∙ ap (λ (x : List ℕ). get_or x i 0) zeros ∙ get_or-replicate n i 0 0 h;
}
  where
    zeros : part ≡ replicate n 0
    zeros = e ∙ ap (λ (k : ℕ). replicate k 0) (length-take-le n loads l)

    long : length part ≡ n
    long = ap (λ (x : List ℕ). length x) zeros ∙ length-replicate {A = ℕ} n 0
