-- `trace_writer::row_bytes` meets its contract.
use mathlib.Core.List.{[], ◌∷◌}
use native.Mathlib.Omega.{arith}
use Rattle.base.proofs.Tests.{shown, refuted}
use lib.ListN.{length-append}
use Rattle.row.specs.House.{row_text}
use Rattle.row.proofs.Spelled.{row_size}
use Rattle.trace_writer.proofs.row_bytes.Goals as goal

pub returns-then-not-carries : goal.returns-then-not-carries
returns-then-not-carries c = refuted c.carries.result c.if-not-carries.true c.carries.ensures

pub overflow_add-result : goal.overflow_add-result
overflow_add-result c =
    let y = shown c.carries.result c.if-not-carries.false c.carries.ensures in
    omega (arith, row_size {k = c.args.k} c.requires.0 y c.requires.2)

pub returns : goal.returns
returns c =
    let a = c.args in
    let y = shown c.carries.result c.if-not-carries.false c.carries.ensures in
    let l = row_size {k = a.k} c.requires.0 y c.requires.2 in
    let e = length-append (row_text a.version a.k a.r) (13 ∷ 10 ∷ []) in
    (y, omega (arith, c.row_length.ensures), omega arith)
