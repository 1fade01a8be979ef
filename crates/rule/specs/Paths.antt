-- The chosen paths of a plan (01, "The chosen path").
-- Assumes nothing.
use Rattle.std.specs.Prelude.{ℕ, List}
use Rattle.std.proofs.Math.Option.{Option}
use Rattle.graph.specs.Chosen.{chosen}
use Rattle.rule.specs.Plan.{Plan}
use Rattle.rule.specs.Links.{graph_of}
use Rattle.rule.specs.Identifiers.{key_of}

-- The chosen path from `a` to `b` for an ECT index, or none.
unfoldable pub chosen_path : Plan → ℕ → ℕ → ℕ → Option (List ℕ)
chosen_path p index a b = chosen (graph_of p) (key_of p index) a b
