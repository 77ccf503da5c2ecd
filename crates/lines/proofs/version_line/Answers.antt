-- `lines::version_line` refuses no version line: each test holds of any (`version_end`).
use native.Mathlib.Omega.{arith}
use Rattle.base.proofs.Tests.{shown, refuted}
use Rattle.lines.specs.inner.Parts.{Opened}
use Rattle.lines.proofs.Scans.{blanks_ran, starts, to_end, not_end}
use Rattle.lines.proofs.Lines.{file_text, version_stands, version_end, version_answer}
use Rattle.lines.proofs.version_line.Goals as goal
use Rattle.lines.proofs.version_line.Goals.{then-line-e-lt3-via-then-line-e-lt3, then-line-e-lt3-via-else-line-e-lt3+then-run_end-line}

pub returns-then-not-starts_with : goal.returns-then-not-starts_with
returns-then-not-starts_with c =
    let o : Opened c.args.line.now c.in_ok-a.a = rw c.in_ok-a.was at c.opened.ensures in
    λ v l. refuted _ c.if-not-starts_with.true (starts file_text c.args.line.now c.in_ok-a.a _ c.starts_with.ensures.value) (version_stands o l)

pub returns-then-line-e-lt3 : goal.returns-then-line-e-lt3
returns-then-line-e-lt3 c =
    let o : Opened c.args.line.now c.in_ok-a.a = rw c.in_ok-a.was at c.opened.ensures in
    let t = shown _ c.if-not-starts_with.false (starts file_text c.args.line.now c.in_ok-a.a _ c.starts_with.ensures.value) in
    elim c.then-line-e-lt3.branch [
      | then-line-e-lt3-via-then-line-e-lt3 w ↦ λ v l. let h = (version_end o t l).room in omega arith
      | then-line-e-lt3-via-else-line-e-lt3+then-run_end-line w ↦ λ v l. not_end (blanks_ran w.run_end.ensures) w.if-run_end-line.true (version_end o t l).blank_end
    ]

pub returns : goal.returns
returns c =
    let o : Opened c.args.line.now c.in_ok-a.a = rw c.in_ok-a.was at c.opened.ensures in
    let t = shown _ c.if-not-starts_with.false (starts file_text c.args.line.now c.in_ok-a.a _ c.starts_with.ensures.value) in
    version_answer o t _ (omega arith) (to_end (blanks_ran c.run_end.ensures) c.if-run_end-line.false) c.version_of.ensures
