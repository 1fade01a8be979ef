-- Next hops followed through the labels of a tree, and how the bridges are written to a lent list. Assumes nothing.
use Prim.Native.Nat.{ℕ, zero, suc, ◌+◌, ◌≤◌, ◌<◌}
use Rattle.std.proofs.Common.{arith, add-one, sym, ◌∙◌, length-set}
use Rattle.std.specs.Prelude.{◌≡◌, length, get_or, set}
use Rattle.std.proofs.Math.Path.{refl, ap}
use mathlib.Core.List.{List, [], ◌∷◌, ◌++◌}
use Rattle.std.proofs.Math.Logic.{inl, inr}
use Rattle.lists.specs.Lists.{spliced}
use Rattle.lists.specs.Members.{In}
use Rattle.lists.proofs.laws.Splices.{spliced-nothing, spliced-next}
use Rattle.labels.specs.Labels.{label_at}
use Rattle.path.specs.Followed.{followed, Inside}

-- The bridge that stands after `count` of them.
unfoldable pub onwards : List ℕ → ℕ → ℕ → ℕ
onwards labels u zero = u
onwards labels u (suc count) = onwards labels (label_at labels u).next count

module _ (labels : List ℕ) where
  pub followed-length : (u count : ℕ) → length (followed labels u count) ≡ count
  unfolding followed
  followed-length u zero = refl
  followed-length u (suc count) = ap suc (followed-length (label_at labels u).next count)

  followed-more : (u count : ℕ) → followed labels u (suc count) ≡ followed labels u count ++ (onwards labels u count ∷ [])
  unfolding followed onwards
  followed-more u zero = refl
  followed-more u (suc count) = ap (λ (t : List ℕ). u ∷ t) (followed-more (label_at labels u).next count)

  onwards-more : (u count : ℕ) → onwards labels u (suc count) ≡ (label_at labels (onwards labels u count)).next
  unfolding onwards
  onwards-more u zero = refl
  onwards-more u (suc count) = onwards-more (label_at labels u).next count

  onwards-in : (u count i : ℕ) → i < count → In (onwards labels u i) (followed labels u count)
  unfolding followed onwards
  onwards-in u zero i h = absurd (omega arith)
  onwards-in u (suc count) zero h = inl refl
  onwards-in u (suc count) (suc i) h = inr (onwards-in (label_at labels u).next count i (omega arith))

-- The first `i` of `count` bridges are written to the front of the list, and `u` is the next of them.
pub record Following (labels before now : List ℕ) (from count i u : ℕ) : Type 0 where
  pub within : i ≤ count
  pub same_length : length now ≡ length before
  pub here : u ≡ onwards labels from i
  pub written : now ≡ spliced before 0 (followed labels from i)

pub following_starts : (labels before : List ℕ) (from count : ℕ) → Following labels before before from count 0 from
unfolding followed onwards
following_starts labels before from count =
    record { within = omega arith; same_length = refl; here = refl; written = sym (spliced-nothing before 0) }

module _ {labels before now : List ℕ} {from count i u : ℕ} (F : Following labels before now from count i u) where
  pub following_inside : Inside labels from count → i < count → u < 64
  following_inside I h = omega (arith, F.here, I (onwards labels from i) (onwards-in labels from count i h))

  pub following_on : (next : ℕ) → count ≤ length before → i < count → next ≡ get_or labels (192 + u) 0
      → Following labels before (set now i u) from count (i + 1) next
  following_on next room h e =
      record {
        within = omega arith;
        same_length = length-set now i u ∙ F.same_length;
        here =
            e
            ∙ ap (λ (x : ℕ). (label_at labels x).next) F.here
            ∙ sym (onwards-more labels from i)
            ∙ ap (onwards labels from) (sym (add-one i));
        written =
            ap (λ (t : List ℕ). set t i u) F.written
            ∙ ap (λ (k : ℕ). set (spliced before 0 (followed labels from i)) k u) {x = i} {y = 0 + length (followed labels from i)}
            (omega (arith, followed-length labels from i))
            ∙ spliced-next before 0 (followed labels from i) u (omega (arith, followed-length labels from i))
            ∙ ap (λ (x : ℕ). spliced before 0 (followed labels from i ++ (x ∷ []))) F.here
            ∙ ap (spliced before 0) (sym (followed-more labels from i) ∙ ap (followed labels from) (sym (add-one i)));
      }

  pub following_ends : count ≤ i → now ≡ spliced before 0 (followed labels from count)
  following_ends h = F.written ∙ ap (λ (k : ℕ). spliced before 0 (followed labels from k)) {x = i} {y = count} (omega (arith, F.within))
