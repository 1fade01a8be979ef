-- `service_reading::read::read_services` passes the first fault on, or writes the records where they fit. Assumes nothing.
use Rattle.rule.specs.Refusals.{refused_by}
use Prim.Native.Nat.{ℕ}
use Rattle.rule.specs.Outcome.{Outcome}
use Rattle.rule.specs.Words.{words_of}
use Rattle.service_reading.proofs.laws.ReadingLaws.{judged-refused, judged-short, judged-room, judged-read}
use mathlib.Core.Path.{ap, ◌∙◌}
use Rattle.service_reading.proofs.read.read_services.Goals as goal

pub returns-then-words-count : goal.returns-then-words-count
returns-then-words-count c =
    ap (λ (o : Outcome ℕ). (o, c.args.words.now)) (c.from.ensures ∙ ap refused_by c.of_call.ensures)
    ∙ judged-short c.args.bridge c.args.vid (words_of c.args.services.now) c.args.words.now _
    c.judge_services-judged.ensures _ c.in-Read.is c.if-words-count.true

pub write_members-requires : goal.write_members-requires
write_members-requires c =
    let (_, bridge-bound, vid-bound) = c.requires in record {
      room = judged-room c.args.bridge c.args.vid (words_of c.args.services.now) c.args.words.now _
          c.judge_services-judged.ensures _ c.in-Read.is c.if-words-count.false;
      bridge_bound = (bridge-bound, vid-bound);
    }

pub returns-else-words-count : goal.returns-else-words-count
returns-else-words-count c =
    judged-read c.args.bridge c.args.vid (words_of c.args.services.now) c.args.words.now _
    c.judge_services-judged.ensures _ c.in-Read.is c.if-words-count.false
    c.write_members.ensures

pub returns-in-Refused : goal.returns-in-Refused
returns-in-Refused c =
    judged-refused c.args.bridge c.args.vid (words_of c.args.services.now) c.args.words.now _
    c.judge_services-judged.ensures _ _ _ c.in-Refused.is
