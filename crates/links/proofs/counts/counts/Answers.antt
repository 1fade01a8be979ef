-- `links::counts::counts` counts by the shape, and the usable links by the index. Assumes nothing.
use mathlib.Core.Path.{sym}
use Rattle.rule.specs.Words.{words_of}
use Rattle.rule.specs.Records.{bridge_of, half_link_of, vid_of, member_of}
use Rattle.table.specs.Positions.{half_links_from, vids_from, members_from}
use Rattle.table.proofs.laws.PositionLaws.{how_many}
use Rattle.links.proofs.laws.CountLaws.{same-counts}
use Rattle.links.proofs.counts.counts.Goals as goal

pub returns : goal.returns
returns c =
    let s = c.args.s in
    let ws = words_of c.args.table.now in
    same-counts (sym (how_many bridge_of 3 0 ws s.bridges)) (sym (how_many half_link_of 3 (half_links_from s) ws s.half_links))
    c.count_usable.ensures (sym (how_many vid_of 1 (vids_from s) ws s.vids))
    (sym (how_many member_of 2 (members_from s) ws s.members))
