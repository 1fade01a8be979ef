-- `entries::parts::member_words` writes the entries for a member that transmits in the VID. Assumes nothing.
use native.Mathlib.Omega.{arith}
use mathlib.Core.Path.{ap}
use borrow.Author.Tests.{not-true, not-false}
use Rattle.rule.specs.Records.{Member}
use Rattle.verdict.proofs.laws.CheckedLaws.{bridges-counted}
use Rattle.entry_rows.proofs.laws.NeededLaws.{member-fits}
use Rattle.entries.proofs.laws.PartLaws.{silent_part, other_part, member-room, member-written}
use Rattle.entries.proofs.parts.member_words.Goals as goal

pub returns-then-not-m : goal.returns-then-not-m
returns-then-not-m c = silent_part _ _ _ _ _ _ _ c.member-m.ensures (not-true _ c.if-not-m.true) _ _

pub returns-then-m-v : goal.returns-then-m-v
returns-then-m-v c =
    other_part _ _ _ _ _ _ _ c.member-m.ensures (not-false _ c.if-not-m.false) c.if-m-v.true _ _

pub transmitter_words-requires : goal.transmitter_words-requires
transmitter_words-requires c =
    let (checked, egress-rows-inside, index-least, index-bound, vid-bound, j-bound) = c.requires.checked in
    let room = c.requires.room in
    let member-ensures = c.member-m.ensures in
    let f = member-fits checked _ j-bound in record {
      checked = (
        checked,
        egress-rows-inside,
        index-least,
        index-bound,
        vid-bound,
        omega (arith, ap (λ (m : Member). m.bridge) member-ensures, f.bridge_known, bridges-counted checked),
        omega (arith, ap (λ (m : Member). m.isid) member-ensures, f.isid),
      );
      room = member-room _ _ _ _ _ _ _ member-ensures (not-false _ c.if-not-m.false) c.if-m-v.false c.args.words.now _ room;
    }

pub returns : goal.returns
returns c =
    member-written _ _ _ _ _ _ _ c.member-m.ensures (not-false _ c.if-not-m.false) c.if-m-v.false
    c.transmitter_words.ensures
