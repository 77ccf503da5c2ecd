-- `lines::start_line` refuses no start line: each test holds of any (`start_point`, `start_blanks`).
use native.Mathlib.Omega.{arith}
use Rattle.base.proofs.Tests.{shown, refuted}
use Rattle.lines.specs.Lines.{start_text}
use Rattle.lines.specs.inner.Parts.{Opened}
use Rattle.lines.proofs.Scans.{blanks_ran, digits_ran, starts, part, to_end, not_end}
use Rattle.lines.proofs.Lines.{start_stands, start_point, start_blanks, start_answer}
use Rattle.lines.proofs.start_line.Goals as goal
use Rattle.lines.proofs.start_line.Goals.{then-point-line-via-then-point-line, then-point-line-via-else-point-line+then-line-point-ne46}

pub returns-then-not-starts_with : goal.returns-then-not-starts_with
returns-then-not-starts_with c =
    let o : Opened c.args.line.now c.in_ok-a.a = rw c.in_ok-a.was at c.opened.ensures in
    λ s l. refuted _ c.if-not-starts_with.true (starts start_text c.args.line.now c.in_ok-a.a _ c.starts_with.ensures.value) (start_stands o l)

pub returns-then-point-line : goal.returns-then-point-line
returns-then-point-line c =
    let o : Opened c.args.line.now c.in_ok-a.a = rw c.in_ok-a.was at c.opened.ensures in
    let t = shown _ c.if-not-starts_with.false (starts start_text c.args.line.now c.in_ok-a.a _ c.starts_with.ensures.value) in
    λ s l. let h = start_point o t (digits_ran c.run_end-point.ensures) l in
    elim c.then-point-line.branch [
      | then-point-line-via-then-point-line w ↦ omega (arith, h.0)
      | then-point-line-via-else-point-line+then-line-point-ne46 w ↦ w.if-line-point-ne46.true h.1
    ]

pub returns-then-run_end-line : goal.returns-then-run_end-line
returns-then-run_end-line c =
    let o : Opened c.args.line.now c.in_ok-a.a = rw c.in_ok-a.was at c.opened.ensures in
    let t = shown _ c.if-not-starts_with.false (starts start_text c.args.line.now c.in_ok-a.a _ c.starts_with.ensures.value) in
    λ s l. let b = start_blanks o t (digits_ran c.run_end-point.ensures) (digits_ran c.run_end-end.ensures) l in
    not_end (blanks_ran c.run_end.ensures) c.if-run_end-line.true b

pub returns : goal.returns
returns c =
    let o : Opened c.args.line.now c.in_ok-a.a = rw c.in_ok-a.was at c.opened.ensures in
    let t = shown _ c.if-not-starts_with.false (starts start_text c.args.line.now c.in_ok-a.a _ c.starts_with.ensures.value) in
    let day = digits_ran c.run_end-point.ensures in
    let fraction = digits_ran c.run_end-end.ensures in
    let w = day.within in
    start_answer o t day fraction _ (omega arith) c.if-line-point-ne46.false (to_end (blanks_ran c.run_end.ensures) c.if-run_end-line.false)
    (rw (part day, part fraction) at c.start_of_digits.ensures)
