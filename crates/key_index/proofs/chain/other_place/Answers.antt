-- `key_index::chain::other_place` gives the place before, or where there is none the last, unless that is the place itself. Assumes nothing.
use Rattle.key_index.proofs.laws.OtherLaws.{other_is_before, other_is_last, other_is_none}
use Rattle.key_index.proofs.chain.other_place.Goals as goal

pub returns-then-before-ne0 : goal.returns-then-before-ne0
returns-then-before-ne0 c =
    let (_, place-least, _) = c.requires in
    other_is_before c.args.index.now c.args.count c.args.place c.place_before-before.result
    place-least c.place_before-before.ensures c.if-before-ne0.true

pub returns-then-last-place : goal.returns-then-last-place
returns-then-last-place c =
    let (_, place-least, place-bound) = c.requires in
    other_is_none c.args.index.now c.args.count c.args.place c.place_before-before.result
    place-least c.place_before-before.ensures place-bound c.if-before-ne0.false c.last_place-last.result
    c.last_place-last.ensures c.if-last-place.true

pub returns-else-last-place : goal.returns-else-last-place
returns-else-last-place c =
    let (_, place-least, place-bound) = c.requires in
    other_is_last c.args.index.now c.args.count c.args.place c.place_before-before.result
    place-least c.place_before-before.ensures place-bound c.if-before-ne0.false c.last_place-last.result
    c.last_place-last.ensures c.if-last-place.false
