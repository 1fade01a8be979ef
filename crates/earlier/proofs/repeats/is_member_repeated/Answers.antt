-- `earlier::repeats::is_member_repeated` asks the index, and compares all members where one has the key. Assumes nothing.
use Prim.Native.Nat.{ℕ}
use mathlib.Core.Path.{ap, ◌∙◌}
use Rattle.key_index.specs.Index.{holds}
use Rattle.key_index.specs.Places.{last_place}
use Rattle.readers.specs.Readers.{member_values}
use Rattle.earlier.proofs.laws.KeyLaws.{no_member-repeated}
use Rattle.earlier.proofs.repeats.is_member_repeated.Goals as goal

pub last_place-requires : goal.last_place-requires
last_place-requires c =
    let (_, _, _, member-index) = c.requires in
    member-index.indexed

pub returns-then-last_place-eq0 : goal.returns-then-last_place-eq0
returns-then-last_place-eq0 c =
    let (_, _, _, member-index) = c.requires in
    no_member-repeated member-index (member_values c.args.m) c.last_place.result
    (c.last_place.ensures
    ∙ ap (λ (k : ℕ). last_place (holds c.args.member_index.now k) c.args.members)
    c.member_key.ensures)
    c.if-last_place-eq0.true
