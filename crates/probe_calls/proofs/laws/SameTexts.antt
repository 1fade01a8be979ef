-- Lines of trees. Assumes nothing.
use Rattle.std.specs.Prelude.{ℕ, ◌≡◌, List}
use Rattle.rule.specs.Calls.{tree_outcome}
use Rattle.probe_calls.specs.AnswerText.{tree_text}

-- The line of a tree is the same where the lists are.
pub same-tree_text : (t : List ℕ) (vid a : ℕ) {costs hop_counts lasts costs' hop_counts' lasts' : List ℕ} → costs ≡ costs'
    → hop_counts ≡ hop_counts' → lasts ≡ lasts'
    → tree_text (tree_outcome t vid a costs hop_counts lasts) ≡ tree_text (tree_outcome t vid a costs' hop_counts' lasts')
same-tree_text t vid a d e f = λ x. tree_text (tree_outcome t vid a (d x) (e x) (f x))
