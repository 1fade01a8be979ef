-- The path lines of one VID and from (01, "Listing program"), pair by pair. Assumes nothing.
use Rattle.std.specs.Prelude.{ℕ, List, [], cond, not, eqb}
use Rattle.rule.specs.Plan.{Plan}
use Rattle.rule.specs.Calls.{plan_path}
use Rattle.listing_lines.specs.Listing.{path_line}

-- The line for the bridges `a` and `b`; nothing where they are one bridge.
unfoldable pub pair_line : Plan → ℕ → ℕ → ℕ → List ℕ
pair_line p vid a b = cond (not (eqb b a)) (path_line vid a b (plan_path p vid a b)) []
