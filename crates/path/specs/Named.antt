-- What a call names: "11. The call names a bridge or VID that the table lacks." The index of the VID named, or 0. Assumes nothing.
use Rattle.std.specs.Prelude.{ℕ, ◌≡◌, List, cond, ◌&&◌}
use Rattle.rule.specs.Plan.{Plan, known_bridge, vid_record}
use Rattle.table.specs.Numbered.{index_of}
use Rattle.network.specs.Networks.{PlanTree}

-- The ECT index of the VID, or 0 where the plan lacks the VID or one of the bridges.
abbrev pub named_index : Plan → ℕ → ℕ → ℕ → ℕ
named_index p vid a b = cond (known_bridge p a && known_bridge p b) (index_of (vid_record p vid)) 0

-- The tree of what was named.
pub record NamedTree (p : Plan) (vid a root index : ℕ) (labels : List ℕ) : Type 0 where
  pub index_is : index ≡ named_index p vid a root
  pub tree_is : (index ≡ 0 → ⊥) → PlanTree p index root labels
