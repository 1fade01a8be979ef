-- Laws of what the functions for the benchmark give. Assumes nothing.
use Prim.Native.Nat.{ℕ, zero, suc, ◌+◌, ◌≤◌, ◌<◌}
use Rattle.std.proofs.Common.{arith, subst, ◌∙◌, lt-ltb, le-ltb}
use Rattle.std.specs.Prelude.{◌≡◌, refl, Result, Ok, Err, length}
use Rattle.std.proofs.Math.Path.{sym, ap}
use mathlib.Core.List.{List}
use Rattle.std.proofs.Math.Option.{Option, none, some}
use Rattle.std.proofs.Math.ListN.{get_or, get_or-replicate}
use Rattle.graph.specs.Chosen.{chosen}
use Rattle.rule.specs.declared.refusal.Refusal.{Refusal}
use Rattle.rule.specs.declared.answer.PathAnswer.{PathAnswer}
use Rattle.rule.specs.declared.answer.TreeAnswer.{TreeAnswer}
use Rattle.rule.specs.declared.answer.EntriesAnswer.{EntriesAnswer}
use Rattle.rule.specs.Words.{words_of}
use Rattle.rule.specs.Outcome.{Outcome, answered}
use Rattle.rule.specs.Plan.{Plan}
use Rattle.rule.specs.Check.{verdict}
use Rattle.rule.specs.Links.{graph_of}
use Rattle.rule.specs.Identifiers.{key_of}
use Rattle.rule.specs.Paths.{chosen_path}
use Rattle.rule.specs.Answers.{CostAndHops, path_values, tree_values, entries_values}
use Rattle.rule.specs.Calls.{path_outcome, tree_outcome, entries_outcome}
use Rattle.table.specs.declared.shape.Shape.{Shape}
use Rattle.table.specs.Positions.{plan_at}
use Rattle.verdict.specs.Examination.{examined_values}
use Rattle.labels.specs.Labels.{label_at}
use Rattle.tree.specs.Trees.{SaysPath}
use Rattle.network.specs.Layout.{bridges_in}
use Rattle.network.specs.Networks.{NetworkOf, TreeIn}
use Rattle.bench_calls.specs.BenchCalls.{zeros, cost_or_refusal, number_or_refusal, bench_path, bench_tree, bench_entries, cost_or_none, last_cost, last_cost_or_refusal, bench_trees, LastTree}

-- One tree more.
pub next-tree : (net : List ℕ) (root : ℕ) (lent labels : List ℕ) → TreeIn net 1 root labels
    → LastTree net (root + 1) lent labels
next-tree net root lent labels T =
    let e : suc root ≡ root + 1 = omega arith
    in subst (λ (k : ℕ). LastTree net k lent labels) e T

-- The label of bridge 0 in the last tree.
module _ (p : Plan) {net : List ℕ} (L : NetworkOf p net) (labels : List ℕ) where
  pub last-label : (count : ℕ) → count ≤ bridges_in net → LastTree net count (zeros 320) labels → (label_at labels 0).cost ≡ last_cost p count
  unfolding last_cost chosen_path
  last-label zero l f = ap (λ (x : List ℕ). get_or x 64 0) f ∙ get_or-replicate {A = ℕ} 320 64 0 0 (omega arith)
  last-label (suc root) l T = go (chosen (graph_of p) (key_of p 1) 0 root) ((T.of_plan p L).each 0 (omega (arith, L.represents.size_is)))
    where
      go : (o : Option (List ℕ)) → SaysPath (graph_of p) o (label_at labels 0) → (label_at labels 0).cost ≡ cost_or_none p o
      go none f = f
      go (some q) f = f.0

-- What is given for a table by the verdict on it.
module _ (t : List ℕ) (r : Result Shape Refusal) (e : examined_values (words_of t) r ≡ verdict t) (count : ℕ) where
  module _ (s : Shape) (f : r ≡ Ok s) where
    accepted : verdict t ≡ answered (plan_at (words_of t) s)
    accepted = sym e ∙ ap (examined_values (words_of t)) f

    pub too_many : length (plan_at (words_of t) s).bridges < count → 0 ≡ bench_trees t count
    unfolding bench_trees
    too_many l = sym (ap (λ (o : Outcome Plan). last_cost_or_refusal o count) accepted ∙ rw (lt-ltb (length (plan_at (words_of t) s).bridges) count l) refl)

    pub trees_made : count ≤ length (plan_at (words_of t) s).bridges → {x : ℕ} → x ≡ last_cost (plan_at (words_of t) s) count → x ≡ bench_trees t count
    unfolding bench_trees
    trees_made l h = h ∙ sym (ap (λ (o : Outcome Plan). last_cost_or_refusal o count) accepted ∙ rw (le-ltb (length (plan_at (words_of t) s).bridges) count l) refl)

  pub trees_refused : (refusal : Refusal) → r ≡ Err refusal → refusal.number ≡ bench_trees t count
  unfolding bench_trees
  trees_refused refusal f = sym (ap (λ (o : Outcome Plan). last_cost_or_refusal o count) (sym e ∙ ap (examined_values (words_of t)) f))

-- No tree is left to be made.
pub all_trees : (net : List ℕ) (root count : ℕ) (lent labels : List ℕ) → root ≤ count → count ≤ root
    → LastTree net root lent labels → LastTree net count lent labels
all_trees net root count lent labels l m T =
    let e : root ≡ count = omega arith
    in subst (λ (k : ℕ). LastTree net k lent labels) e T

-- The number of what a call answered, with lists of zeros lent.
module _ (t : List ℕ) where
  module _ (vid a b : ℕ) (r : PathAnswer) (list : List ℕ) (e : ◌≡◌ {A = Outcome CostAndHops × List ℕ} (path_values r, list) (path_outcome t vid a b (zeros 64))) where
    pub path-number : {number : ℕ} → number ≡ cost_or_refusal (path_values r) → number ≡ bench_path t vid a b
    unfolding bench_path
    path-number f = f ∙ ap (λ (z : Outcome CostAndHops × List ℕ). cost_or_refusal z.0) e

  module _ (vid a : ℕ) (r : TreeAnswer) (costs hop_counts lasts : List ℕ)
      (e : ◌≡◌ {A = Outcome ℕ × List ℕ × List ℕ × List ℕ} (tree_values r, costs, hop_counts, lasts) (tree_outcome t vid a (zeros 64) (zeros 64) (zeros 64))) where
    pub tree-number : {number : ℕ} → number ≡ number_or_refusal (tree_values r) → number ≡ bench_tree t vid a
    unfolding bench_tree
    tree-number f = f ∙ ap (λ (z : Outcome ℕ × List ℕ × List ℕ × List ℕ). number_or_refusal z.0) e

  module _ (b : ℕ) (r : EntriesAnswer) (list : List ℕ) (e : ◌≡◌ {A = Outcome ℕ × List ℕ} (entries_values r, list) (entries_outcome t b (zeros 14931))) where
    pub entries_number : {number : ℕ} → number ≡ number_or_refusal (entries_values r) → number ≡ bench_entries t b
    unfolding bench_entries
    entries_number f = f ∙ ap (λ (z : Outcome ℕ × List ℕ). number_or_refusal z.0) e
