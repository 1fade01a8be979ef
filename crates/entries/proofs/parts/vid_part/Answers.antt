-- `entries::parts::vid_part` writes the individual entries and then the group entries. Assumes nothing.
use native.Mathlib.Omega.{arith}
use Prim.Native.Nat.{◌+◌, ◌≤◌, ◌<◌}
use mathlib.Core.Path.{ap}
use lib.ListN.{length}
use Rattle.rule.specs.Records.{Vid}
use Rattle.readers.specs.Readers.{vid_values}
use Rattle.verdict.proofs.laws.CheckedLaws.{few-bridges}
use Rattle.entry_rows.proofs.laws.NeededLaws.{vid-fits}
use Rattle.entries.proofs.laws.PartLaws.{row-lent, row-place-inside, first-room, second-room, vid-written}
use Rattle.entries.proofs.parts.vid_part.Goals as goal

pub egress_row_at-place-requires : goal.egress_row_at-place-requires
egress_row_at-place-requires c =
    let index-fits : (1 ≤ c.vid-v.result.index) × (c.vid-v.result.index ≤ 16) × (c.vid-v.result.vid < 4096) =
    let (checked, _, _, k-bound) = c.requires.checked in
    let fits = vid-fits checked _ k-bound in
    let index_is = ap (λ (v : Vid). v.index) c.vid-v.ensures in (
      omega (arith, index_is, fits.least_index),
      omega (arith, index_is, fits.greatest_index),
      omega (arith, ap (λ (v : Vid). v.vid) c.vid-v.ensures, fits.greatest),
    ) in let (checked, egress-rows-inside, b-bound, _) = c.requires.checked in
    let (index-least, index-bound, _) = index-fits in
    (index-least, index-bound, omega (arith, b-bound, few-bridges checked), egress-rows-inside.has_slots)

pub offset_bounds-egress_rows-place : goal.offset_bounds-egress_rows-place
offset_bounds-egress_rows-place c =
    let row_inside : c.egress_row_at-place.result + 64 ≤ length c.args.egress_rows.now =
    let (checked, egress-rows-inside, b-bound, k-bound) = c.requires.checked in
    row-place-inside checked egress-rows-inside c.args.k k-bound c.args.b b-bound (vid_values c.vid-v.result)
    c.vid-v.ensures c.egress_row_at-place.result c.egress_row_at-place.ensures in omega (arith, row_inside)

pub slice_bounds-individual_words-count : goal.slice_bounds-individual_words-count
slice_bounds-individual_words-count c =
    let row_inside : c.egress_row_at-place.result + 64 ≤ length c.args.egress_rows.now =
    let (checked, egress-rows-inside, b-bound, k-bound) = c.requires.checked in
    row-place-inside checked egress-rows-inside c.args.k k-bound c.args.b b-bound (vid_values c.vid-v.result)
    c.vid-v.ensures c.egress_row_at-place.result c.egress_row_at-place.ensures in omega (arith, row_inside)

pub slice_bounds-individual_words-start : goal.slice_bounds-individual_words-start
slice_bounds-individual_words-start c =
    let row_inside : c.egress_row_at-place.result + 64 ≤ length c.args.egress_rows.now =
    let (checked, egress-rows-inside, b-bound, k-bound) = c.requires.checked in
    row-place-inside checked egress-rows-inside c.args.k k-bound c.args.b b-bound (vid_values c.vid-v.result)
    c.vid-v.ensures c.egress_row_at-place.result c.egress_row_at-place.ensures in omega (arith, row_inside)

pub individual_words-end-requires : goal.individual_words-end-requires
individual_words-end-requires c =
    let row_inside : c.egress_row_at-place.result + 64 ≤ length c.args.egress_rows.now =
    let (checked, egress-rows-inside, b-bound, k-bound) = c.requires.checked in
    row-place-inside checked egress-rows-inside c.args.k k-bound c.args.b b-bound (vid_values c.vid-v.result)
    c.vid-v.ensures c.egress_row_at-place.result c.egress_row_at-place.ensures in
    let index-fits : (1 ≤ c.vid-v.result.index) × (c.vid-v.result.index ≤ 16) × (c.vid-v.result.vid < 4096) =
    let (checked, _, _, k-bound) = c.requires.checked in
    let fits = vid-fits checked _ k-bound in
    let index_is = ap (λ (v : Vid). v.index) c.vid-v.ensures in (
      omega (arith, index_is, fits.least_index),
      omega (arith, index_is, fits.greatest_index),
      omega (arith, ap (λ (v : Vid). v.vid) c.vid-v.ensures, fits.greatest),
    ) in let (checked, _, _, _) = c.requires.checked in
    let room = c.requires.room in
    let (_, _, vid-bound) = index-fits in record {
      checked = (
        checked,
        row-lent c.args.egress_rows.now c.egress_row_at-place.result c.args.s.bridges
            row_inside (few-bridges checked),
        vid-bound,
      );
      room = first-room _ _ _ _ _ _ _ c.vid-v.ensures _ c.egress_row_at-place.ensures c.args.words.now _ room;
    }

pub group_part-requires : goal.group_part-requires
group_part-requires c =
    let index-fits : (1 ≤ c.vid-v.result.index) × (c.vid-v.result.index ≤ 16) × (c.vid-v.result.vid < 4096) =
    let (checked, _, _, k-bound) = c.requires.checked in
    let fits = vid-fits checked _ k-bound in
    let index_is = ap (λ (v : Vid). v.index) c.vid-v.ensures in (
      omega (arith, index_is, fits.least_index),
      omega (arith, index_is, fits.greatest_index),
      omega (arith, ap (λ (v : Vid). v.vid) c.vid-v.ensures, fits.greatest),
    ) in let (checked, egress-rows-inside, _, _) = c.requires.checked in
    let room = c.requires.room in
    let (index-least, index-bound, vid-bound) = index-fits in record {
      checked = (checked, egress-rows-inside, index-least, index-bound, vid-bound);
      room = second-room _ _ _ _ _ _ _ c.vid-v.ensures _ c.egress_row_at-place.ensures c.args.words.now _ room _ _
          c.individual_words-end.ensures;
    }

pub returns : goal.returns
returns c =
    let room = c.requires.room in
    vid-written _ _ _ _ _ _ _ c.vid-v.ensures _ c.egress_row_at-place.ensures _ _ room _ _
    c.individual_words-end.ensures c.group_part.ensures
