-- `service_reading::advertiser::has_vid` looks for the VID among the VID records. Assumes nothing.
use Rattle.rule.specs.Words.{words_of}
use Rattle.service_reading.proofs.laws.NamedLaws.{vid_known}
use native.Mathlib.Omega.{arith}
use Rattle.service_reading.proofs.advertiser.has_vid.Goals as goal

pub vids_from-requires : goal.vids_from-requires
vids_from-requires c = omega (arith, c.requires.whole)

pub is_vid_known-requires : goal.is_vid_known-requires
is_vid_known-requires c = omega (arith, c.requires.whole, c.vids_from.ensures)

pub returns : goal.returns
returns c =
    vid_known (words_of c.args.table.now) c.args.s c.args.vid c.vids_from.ensures
    c.is_vid_known.ensures
