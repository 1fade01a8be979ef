-- Numbers compared, and tests of numbers. Assumes nothing.
use Rattle.std.specs.Prelude.{ℕ, ◌≤◌, ◌<◌, ◌≡◌, refl, ◌⊎◌, Bool, true, false, cond, not, ◌&&◌, ◌||◌, T, leb, eqb}
use Rattle.std.proofs.Common.{arith, subst, inl, inr, leb→le, eqb→eq}
use Rattle.std.proofs.Math.Dec.{nleb→lt, eqb_refl}

-- Numbers

pub le_or_gt : (m n : ℕ) → (m ≤ n) ⊎ (n < m)
le_or_gt m n = go (leb m n) (leb→le m n) (nleb→lt m n)
  where
    go : (b : Bool) → (T b → m ≤ n) → (T (not b) → n < m) → (m ≤ n) ⊎ (n < m)
    go true f h = inl (f tt)
    go false f h = inr (h tt)

-- Of two numbers one is lower or they are equal.
pub compared : (m n : ℕ) → (m < n) ⊎ (m ≡ n) ⊎ (n < m)
compared m n = go (le_or_gt m n) (le_or_gt n m)
  where
    go : (m ≤ n) ⊎ (n < m) → (n ≤ m) ⊎ (m < n) → (m < n) ⊎ (m ≡ n) ⊎ (n < m)
    go (inl h) (inl k) = inr (inl (omega arith))
    go (inl h) (inr k) = inl k
    go (inr h) k = inr (inr h)

pub same_or_not : (m n : ℕ) → (m ≡ n) ⊎ (m ≡ n → ⊥)
same_or_not m n = go (compared m n)
  where
    go : (m < n) ⊎ (m ≡ n) ⊎ (n < m) → (m ≡ n) ⊎ (m ≡ n → ⊥)
    go (inl h) = inr (λ e. omega arith)
    go (inr (inl e)) = inl e
    go (inr (inr h)) = inr (λ e. omega arith)

pub eq_eqb : (m n : ℕ) → m ≡ n → T (eqb m n)
eq_eqb m n e = subst (λ (k : ℕ). T (eqb m k)) e (eqb_refl m)

module _ {A : Type 0} where
  -- What a test for equality decides, by its two answers.
  pub eqb_same : (n : ℕ) (x y : A) → cond (eqb n n) x y ≡ x
  eqb_same n x y = go (eqb n n) (eqb_refl n)
    where
      go : (b : Bool) → T b → cond b x y ≡ x
      go true h = refl
      go false h = absurd h

  pub eqb-other : (m n : ℕ) (x y : A) → (m ≡ n → ⊥) → cond (eqb m n) x y ≡ y
  eqb-other m n x y h = go (eqb m n) (eqb→eq m n)
    where
      go : (b : Bool) → (T b → m ≡ n) → cond b x y ≡ y
      go true f = absurd (h (f tt))
      go false f = refl

-- Tests

pub both : (a b : Bool) → T a → T b → T (a && b)
both true b h k = k
both false b h k = absurd h

pub first_of : (a b : Bool) → T (a && b) → T a
first_of true b h = tt
first_of false b h = absurd h

pub last_of : (a b : Bool) → T (a && b) → T b
last_of true b h = h
last_of false b h = absurd h

pub either_left : (a b : Bool) → T a → T (a || b)
either_left true b h = tt
either_left false b h = absurd h

pub either_right : (a b : Bool) → T b → T (a || b)
either_right true b h = tt
either_right false b h = h

-- A test whose negation does not pass passes.
pub passes : (b : Bool) → (T (not b) → ⊥) → T b
passes true f = tt
passes false f = f tt

pub is_true : (b : Bool) → T b → b ≡ true
is_true true h = refl
is_true false h = absurd h

pub is_false : (b : Bool) → (T b → ⊥) → b ≡ false
is_false true f = absurd (f tt)
is_false false f = refl

pub true-test : (b : Bool) → b ≡ true → T b
true-test b e = rw e tt

-- Tests for the equality of two pairs and of three.
pub equal-two : (a b c d : ℕ) → a ≡ b → c ≡ d → T (eqb a b && eqb c d)
equal-two a b c d e f = both (eqb a b) (eqb c d) (eq_eqb a b e) (eq_eqb c d f)

pub two-equal : (a b c d : ℕ) → T (eqb a b && eqb c d) → (a ≡ b) × (c ≡ d)
two-equal a b c d t = (eqb→eq a b (first_of (eqb a b) (eqb c d) t), eqb→eq c d (last_of (eqb a b) (eqb c d) t))

pub equal-three : (a b c d m n : ℕ) → a ≡ b → c ≡ d → m ≡ n → T (eqb a b && eqb c d && eqb m n)
equal-three a b c d m n e f g = both (eqb a b && eqb c d) (eqb m n) (equal-two a b c d e f) (eq_eqb m n g)

pub three-equal : (a b c d m n : ℕ) → T (eqb a b && eqb c d && eqb m n) → (a ≡ b) × (c ≡ d) × (m ≡ n)
three-equal a b c d m n t = let r = two-equal a b c d (first_of (eqb a b && eqb c d) (eqb m n) t) in
    (r.0, r.1, eqb→eq m n (last_of (eqb a b && eqb c d) (eqb m n) t))
