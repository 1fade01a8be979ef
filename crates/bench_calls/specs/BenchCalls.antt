-- What the functions for the benchmark give: one number of what a call answers, or the number of a refusal. Assumes nothing.
use Rattle.std.specs.Prelude.{ℕ, zero, suc, ◌≡◌, List, cond, ltb, length, replicate}
use Rattle.std.proofs.Math.Option.{Option, none, some}
use Rattle.graph.specs.Graph.{cost}
use Rattle.measures.specs.Measures.{no_path_cost}
use Rattle.rule.specs.Outcome.{Outcome, answered, refused}
use Rattle.rule.specs.Plan.{Plan}
use Rattle.rule.specs.Check.{verdict}
use Rattle.rule.specs.Links.{graph_of}
use Rattle.rule.specs.Paths.{chosen_path}
use Rattle.rule.specs.Answers.{CostAndHops}
use Rattle.rule.specs.Calls.{path_outcome, tree_outcome, entries_outcome}
use Rattle.network.specs.Networks.{TreeIn}

-- A lent list of so many zeros.
abbrev pub zeros : ℕ → List ℕ
zeros n = replicate n 0

abbrev pub cost_or_refusal : Outcome CostAndHops → ℕ
cost_or_refusal (answered v) = v.cost
cost_or_refusal (refused number kind at) = number

abbrev pub number_or_refusal : Outcome ℕ → ℕ
number_or_refusal (answered n) = n
number_or_refusal (refused number kind at) = number

unfoldable pub bench_path : List ℕ → ℕ → ℕ → ℕ → ℕ
bench_path t vid a b = cost_or_refusal (path_outcome t vid a b (zeros 64)).0

unfoldable pub bench_tree : List ℕ → ℕ → ℕ → ℕ
bench_tree t vid a = number_or_refusal (tree_outcome t vid a (zeros 64) (zeros 64) (zeros 64)).0

unfoldable pub bench_entries : List ℕ → ℕ → ℕ
bench_entries t b = number_or_refusal (entries_outcome t b (zeros 14931)).0

-- What a path costs, or what stands for no path.
abbrev pub cost_or_none : Plan → Option (List ℕ) → ℕ
cost_or_none p none = no_path_cost
cost_or_none p (some path) = cost (graph_of p) path

-- Of the trees of the first `count` bridges for ECT index 1: what the path from bridge 0 to the last of these bridges costs.
unfoldable pub last_cost : Plan → ℕ → ℕ
last_cost p zero = 0
last_cost p (suc root) = cost_or_none p (chosen_path p 1 0 root)

abbrev pub last_cost_or_refusal : Outcome Plan → ℕ → ℕ
last_cost_or_refusal (answered p) count = cond (ltb (length p.bridges) count) 0 (last_cost p count)
last_cost_or_refusal (refused number kind at) count = number

unfoldable pub bench_trees : List ℕ → ℕ → ℕ
bench_trees t count = last_cost_or_refusal (verdict t) count

-- The labels are the tree of the last of the first `count` bridges; before the first they are as they were lent.
abbrev pub LastTree : List ℕ → ℕ → List ℕ → List ℕ → Type 0
LastTree net zero lent labels = labels ≡ lent
LastTree net (suc root) lent labels = TreeIn net 1 root labels
