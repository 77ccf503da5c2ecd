-- `explain::explain` refuses what is not to be explained, and explains the rest.
use mathlib.Core.Path.{refl}
use native.Mathlib.Omega.{arith}
use Rattle.lines.proofs.Scans.{to_end, not_end}
use Rattle.explain.specs.Explain.{no_number, no_line, comment}
use Rattle.explain.specs.Promise.{no_version, unexplained}
use Rattle.explain.proofs.Answers.{promised}
use Rattle.explain.proofs.explain.Goals as goal
use Rattle.explain.proofs.explain.Goals.{
  then-number-gt-LAST_NUMBER-via-then-number-gt-LAST_NUMBER as past,
  then-number-gt-LAST_NUMBER-via-else-number-gt-LAST_NUMBER+then-inside_end-line as ended,
  then-number-gt-LAST_NUMBER-via-else-number-gt-LAST_NUMBER+else-inside_end-line+then-is_comment as remark,
}

pub returns-then-not-is_version : goal.returns-then-not-is_version
returns-then-not-is_version c = no_version c.if-not-is_version.ensures refl

pub returns-then-number-gt-LAST_NUMBER : goal.returns-then-number-gt-LAST_NUMBER
returns-then-number-gt-LAST_NUMBER c =
    let v = c.if-not-is_version.ensures in
    elim c.then-number-gt-LAST_NUMBER.branch [
      | past w ↦ unexplained v (no_number (omega (arith, w.if-number-gt-LAST_NUMBER.true))) refl
      | ended w ↦ unexplained v (no_line (not_end w.inside_end.ensures w.if-inside_end-line.true)) refl
      | remark w ↦ unexplained v (comment w.if-is_comment.ensures) refl
    ]

pub returns : goal.returns
returns c =
    let i = to_end c.inside_end.ensures c.if-inside_end-line.false in
    promised c.if-not-is_version.ensures i c.if-is_comment.ensures (omega arith) c.explain_row.result c.explain_row.ensures
