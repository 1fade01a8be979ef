-- The plan that a VID's paths are chosen in meets the laws of a plan.
-- Assumes nothing.
use Rattle.rule.specs.Records.{Vid}
use Rattle.rule.specs.Plan.{Plan, plan_of_vid}
use Rattle.rule.specs.PlanLaws.{PlanLaws}

pub vid-plan-laws : (p : Plan) → PlanLaws p → (v : Vid) → PlanLaws (plan_of_vid p v)
vid-plan-laws p L v = L
