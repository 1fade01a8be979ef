-- `service_reading::judged::is_repeated` looks at the I-SIDs of the services before. Assumes nothing.
use Rattle.lists.proofs.laws.Searching.{search_starts}
use Rattle.readers.proofs.laws.WordLaws.{count_of_words}
use Rattle.rule.specs.Words.{words_of}
use Rattle.service_reading.proofs.laws.ReadingLaws.{isid_differs, isid-found, isid-new}
use native.Mathlib.Omega.{arith}
use Rattle.service_reading.proofs.judged.is_repeated.Goals as goal

pub loop-k-init : goal.loop-k-init
loop-k-init c = search_starts _ _

pub word_at-requires : goal.word_at-requires
word_at-requires c = omega (arith, c.requires, c.loop-k-test.true)

pub returns-then-isid_of-isid : goal.returns-then-isid_of-isid
returns-then-isid_of-isid c =
    let (word-at-is, _) = c.word_at.ensures in
    isid-found (words_of c.args.services.now) c.args.isid c.args.n c.loop-k.k c.loop-k.invariant
    c.loop-k-test.true _ _ word-at-is c.isid_of.ensures
    (omega (arith, c.requires, count_of_words c.args.services.now)) c.if-isid_of-isid.true

pub loop-k-preserved : goal.loop-k-preserved
loop-k-preserved c =
    let (word-at-is, _) = c.word_at.ensures in
    isid_differs (words_of c.args.services.now) c.args.isid c.args.n c.loop-k.k
    c.loop-k.invariant c.loop-k-test.true _ _ word-at-is c.isid_of.ensures c.if-isid_of-isid.false

pub returns : goal.returns
returns c =
    isid-new (words_of c.args.services.now) c.args.isid c.args.n c.loop-k.k
    c.loop-k.invariant c.loop-k-test.false (omega (arith, c.requires, count_of_words c.args.services.now))
