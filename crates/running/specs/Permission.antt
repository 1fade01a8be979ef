-- Whether a change may be made, and where (02, A7). Assumes nothing.
use Rattle.std.specs.Prelude.{ℕ, ◌≡◌, List, Result, Ok, Err, Bool, true, false, not, ◌&&◌, ◌||◌, leb, length, take}
use Rattle.std.proofs.Math.Option.{Option, none, some}
use Rattle.lists.specs.Lists.{any_passes}
use Rattle.rule.specs.Records.{Vid}
use Rattle.rule.specs.Outcome.{Outcome, answered, and_then, refused_if}
use Rattle.rule.specs.Plan.{Plan, known_bridge, vid_record}
use Rattle.rule.specs.Check.{verdict}
use Rattle.rule.specs.declared.refusal.Refusal.{Refusal}
use Rattle.rule.specs.Refusals.{refused_by}
use Rattle.edits.specs.declared.change.HalfLinkName.{HalfLinkName}
use Rattle.edits.specs.declared.change.Running.{Running}
use Rattle.edits.specs.Edits.{is_named, word_of}
use Rattle.edits.specs.Running.{most_changes}

abbrev pub permitted_values : Result ℕ Refusal → Outcome ℕ
permitted_values (Ok k) = answered k
permitted_values (Err r) = refused_by r

abbrev pub no_vid : Option Vid → Bool
no_vid none = true
no_vid (some v) = false

-- The table lacks the watched bridge, the near bridge named, or the watched VID.
abbrev pub lacks_names : Plan → Running → HalfLinkName → Bool
lacks_names p r n = not (known_bridge p r.bridge) || not (known_bridge p n.near) || no_vid (vid_record p r.vid)

-- The first word of the half-link named, or the refusal: `fits` says that the metric is in its range, `room` how many places each list has.
abbrev pub plan_permission : Plan → Running → HalfLinkName → Bool → ℕ → Outcome ℕ
plan_permission p r n fits room =
    refused_if (lacks_names p r n) 11
    (refused_if (not (any_passes (is_named n) p.half_links)) 17
    (refused_if (not fits) 18
    (refused_if (leb most_changes r.changes) 19 (refused_if (not (leb (length p.bridges) room)) 13 (answered (word_of p n))))))

unfoldable pub permission : List ℕ → Running → HalfLinkName → Bool → ℕ → Outcome ℕ
permission t r n fits room = and_then (verdict t) λ p. plan_permission p r n fits room

-- What fits into `r` places fits into each of three lists.
abbrev pub RoomOf : ℕ → ℕ → ℕ → ℕ → Type 0
RoomOf r a b c = (n : ℕ) → leb n r ≡ (leb n a && leb n b && leb n c)

-- The first `r` of so many bytes are those that a table of the length `n` has at their front.
abbrev pub FrontOf : ℕ → ℕ → ℕ → Type 0
FrontOf r n bytes = (xs : List ℕ) → length xs ≡ bytes → take r xs ≡ take n xs
