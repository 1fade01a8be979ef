-- `loads::traffic::write_record` writes the four words of a record. Assumes nothing.
use native.Mathlib.Omega.{arith}
use lib.ListN.{length-set}
use Rattle.rule.specs.Words.{words_of}
use Rattle.loads.proofs.laws.TrafficLaws.{place-few, record-written}
use Rattle.loads.proofs.traffic.write_record.Goals as goal

pub overflow_cast-words : goal.overflow_cast-words
overflow_cast-words c =
    let (whole, _, _) = c.requires in
    omega
    (arith, place-few (words_of c.args.table.now) c.args.s _ c.vid_place.ensures, whole.within, whole.bounded)

pub bounds-words-at-2 : goal.bounds-words-at-2
bounds-words-at-2 c =
    let (_, _, room) = c.requires in
    simp length-set (omega (arith, room))

pub bounds-words-at-3 : goal.bounds-words-at-3
bounds-words-at-3 c =
    let (_, _, room) = c.requires in
    simp length-set (omega (arith, room))

pub bounds-words-at-4 : goal.bounds-words-at-4
bounds-words-at-4 c =
    let (_, _, room) = c.requires in
    simp length-set (omega (arith, room))

pub returns : goal.returns
returns c =
    let (_, known, room) = c.requires in
    record-written (words_of c.args.table.now) c.args.s _ known _ c.traffic-t.ensures
    c.args.words.now room _ c.vid_place.ensures
