-- `check_text::check::write_kind` writes the field of each kind. Assumes nothing.
use mathlib.Core.Path.{sym, ap}
use Rattle.rule.specs.declared.answer.RecordKind.{RecordKind}
use Rattle.rule.specs.Answers.{kind_number}
use Rattle.text.proofs.laws.TextLaws.{written_as}
use Rattle.check_text.specs.CheckText.{kind_field}
use native.Mathlib.Omega.{arith}
use Rattle.check_text.proofs.check.write_kind.Goals as goal

pub returns-in-None : goal.returns-in-None
returns-in-None c = (
  written_as c.write_word.ensures _
      (sym (ap (λ (k : RecordKind). kind_field (kind_number k)) c.in-None.is)),
  omega (arith, c.write_word.ensures.end_is),
)

pub returns-in-Bridge : goal.returns-in-Bridge
returns-in-Bridge c =
    let (written, write-field-bound) = c.write_field.ensures in (
      written_as written _ (sym (ap (λ (k : RecordKind). kind_field (kind_number k)) c.in-Bridge.is)),
      write-field-bound,
    )

pub returns-in-HalfLink : goal.returns-in-HalfLink
returns-in-HalfLink c =
    let (written, write-field2-bound) = c.write_field-in-HalfLink.ensures in (
      written_as written _ (sym (ap (λ (k : RecordKind). kind_field (kind_number k)) c.in-HalfLink.is)),
      write-field2-bound,
    )

pub returns-in-Vid : goal.returns-in-Vid
returns-in-Vid c =
    let (written, write-field3-bound) = c.write_field-in-Vid.ensures in (
      written_as written _ (sym (ap (λ (k : RecordKind). kind_field (kind_number k)) c.in-Vid.is)),
      write-field3-bound,
    )

pub returns-in-Member : goal.returns-in-Member
returns-in-Member c =
    let (written, write-field4-bound) = c.write_field-in-Member.ensures in (
      written_as written _ (sym (ap (λ (k : RecordKind). kind_field (kind_number k)) c.in-Member.is)),
      write-field4-bound,
    )

pub returns-in-Traffic : goal.returns-in-Traffic
returns-in-Traffic c =
    let (written, write-field5-bound) = c.write_field-in-Traffic.ensures in (
      written_as written _ (sym (ap (λ (k : RecordKind). kind_field (kind_number k)) c.in-Traffic.is)),
      write-field5-bound,
    )

pub returns-in-End : goal.returns-in-End
returns-in-End c =
    let (written, write-field6-bound) = c.write_field-in-End.ensures in (
      written_as written _ (sym (ap (λ (k : RecordKind). kind_field (kind_number k)) c.in-End.is)),
      write-field6-bound,
    )
