-- The network of a plan, and the trees of its chosen paths (01, "Links" and "The chosen path"). Assumes nothing.
use Rattle.std.specs.Prelude.{ℕ, ◌+◌, ◌*◌, ◌≤◌, ◌<◌, ◌≡◌, List, Bool, cond, length, get_or}
use Rattle.rule.specs.Words.{words_of}
use Rattle.rule.specs.Plan.{Plan, bridge_at}
use Rattle.rule.specs.PlanLaws.{PlanLaws}
use Rattle.rule.specs.Links.{graph_of}
use Rattle.rule.specs.Identifiers.{key_of, masked_bytes, without_extension}
use Rattle.table.specs.declared.shape.Shape.{Shape}
use Rattle.table.specs.Positions.{plan_at}
use Rattle.verdict.specs.Examination.{Checked}
use Rattle.tree.specs.Trees.{Represents, TreeOf}
use Rattle.network.specs.Layout.{network_words, bridges_in, starts_in, neighbours_in, costs_in, ports_in, marks_in, identifier_in}
use Rattle.network.specs.Neighbours.{NeighboursOf}

-- The mark of a bridge: 1 where it is overloaded (02, A1).
abbrev pub mark_of : Bool → ℕ
mark_of overloaded = cond overloaded 1 0

-- The words that the records of the first `n` bridges give: their marks, and behind those of 64 bridges their identifiers without the
-- extension (02, A6).
pub record BridgeWords (p : Plan) (n : ℕ) (words : List ℕ) : Type 0 where
  pub marked : (u : ℕ) → u < n → get_or words u 0 ≡ mark_of (bridge_at p u).overloaded
  pub identified : (u : ℕ) → u < n
      → get_or words (64 + 2 * u) 0 * 4294967296 + get_or words (64 + 2 * u + 1) 0 ≡ without_extension (bridge_at p u).identifier

-- The list is the network of the plan.
pub record NetworkOf (p : Plan) (net : List ℕ) : Type 0 where
  pub size : network_words ≤ length net
  pub laws : PlanLaws p
  pub represents : Represents (graph_of p) (bridges_in net) (starts_in net) (neighbours_in net) (costs_in net)
  pub hops : NeighboursOf p (bridges_in net) (starts_in net) (neighbours_in net) (costs_in net) (ports_in net)
  pub marked : (u : ℕ) → u < bridges_in net → get_or (marks_in net) u 0 ≡ mark_of (bridge_at p u).overloaded
  pub identified : (u : ℕ) → u < bridges_in net → identifier_in net u ≡ without_extension (bridge_at p u).identifier

-- It is the network of a checked table.
pub record TableNetwork (t : List ℕ) (s : Shape) (net : List ℕ) : Type 0 where
  pub checked : Checked t s
  pub network : NetworkOf (plan_at (words_of t) s) net

-- It is that of some plan.
pub record IsNetwork (net : List ℕ) : Type 0 where
  pub plan : Plan
  pub network : NetworkOf plan net

-- The keys of the network's bridges by a mask: their masked identifiers.
pub record KeysOf (net : List ℕ) (mask : ℕ) (keys : List ℕ) : Type 0 where
  pub held : (u : ℕ) → u < bridges_in net → get_or keys u 0 ≡ masked_bytes 8 mask (identifier_in net u)
  pub has_keys : bridges_in net ≤ length keys

-- The labels are the tree of the plan's chosen paths to `root` for an ECT index.
abbrev pub PlanTree : Plan → ℕ → ℕ → List ℕ → Type 0
PlanTree p index root labels = TreeOf (graph_of p) (key_of p index) root labels

-- They are so for every plan that the network is that of.
pub record TreeIn (net : List ℕ) (index root : ℕ) (labels : List ℕ) : Type 0 where
  pub of_plan : (p : Plan) → NetworkOf p net → PlanTree p index root labels
