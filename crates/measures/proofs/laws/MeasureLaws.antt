-- What the answers of the methods of costs and hop counts say of the numbers compared.
-- Assumes nothing.
use Rattle.std.specs.Prelude.{ℕ, ◌≤◌, ◌<◌, ◌≡◌, Bool, true, false, not, eqb, ltb}
use Rattle.std.proofs.Common.{sym, ◌∙◌, ltb-true, ltb-false, eqb-true}
use Rattle.std.proofs.lemmas.Bool.{eqb-false, not-true, not-false}
use Rattle.measures.specs.Measures.{no_path_cost}

module _ {answer : Bool} {m n : ℕ} where
  -- `is_below`.
  pub below : answer ≡ ltb m n → answer ≡ true → m < n
  below e t = ltb-true m n (sym e ∙ t)

  pub not-below : answer ≡ ltb m n → answer ≡ false → n ≤ m
  not-below e f = ltb-false m n (sym e ∙ f)

  -- `differs`.
  pub differ : answer ≡ not (eqb m n) → answer ≡ true → m ≡ n → ⊥
  differ e t = eqb-false m n (not-true (eqb m n) (sym e ∙ t))

  pub agree : answer ≡ not (eqb m n) → answer ≡ false → m ≡ n
  agree e f = eqb-true m n (not-false (eqb m n) (sym e ∙ f))

-- `is_no_path` of a cost that was read of `far`.
module _ {answer : Bool} {cost far : ℕ} (read : cost ≡ far) (e : answer ≡ eqb cost no_path_cost) where
  pub no_path : answer ≡ true → far ≡ no_path_cost
  no_path t = sym read ∙ eqb-true cost no_path_cost (sym e ∙ t)

  pub a_path : answer ≡ false → far ≡ no_path_cost → ⊥
  a_path f d = eqb-false cost no_path_cost (sym e ∙ f) (read ∙ d)
