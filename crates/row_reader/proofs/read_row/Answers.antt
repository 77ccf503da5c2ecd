-- `row_reader::read_row` frames the line, reads it, and takes it only if it was read to its end.
use native.Mathlib.Omega.{arith}
use Rattle.row_reader.proofs.Whole.{framed, row_framed, is_read}
use Rattle.row_reader.proofs.read_row.Goals as goal

pub row_in-requires : goal.row_in-requires
row_in-requires c = rw c.window.ensures (let x = framed c.args.line.now _ in record { line = x.line; is = x.is })

pub returns-in_err-end : goal.returns-in_err-end
returns-in_err-end c =
    rw c.from_residual.ensures (λ r w. c.in_err-end.ensures c.args.line.now (rw c.window.ensures (row_framed _ w.row)) r w.row)

pub returns-then-end-line : goal.returns-then-end-line
returns-then-end-line c = λ r w.
    let x = c.in_ok-end.ensures c.args.line.now (rw c.window.ensures (row_framed _ w.row)) in
    omega (arith, x.1, c.if-end-line.true)

pub returns : goal.returns
returns c =
    record {
      few = omega arith;
      row = is_read _ (λ line l. c.in_ok-end.ensures line (rw c.window.ensures l)) c.if-end-line.false;
    }
