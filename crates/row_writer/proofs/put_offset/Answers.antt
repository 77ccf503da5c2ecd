-- `row_writer::put_offset` meets its contract.
use mathlib.Core.Path.{sym, ◌∙◌}
use native.Mathlib.Omega.{arith}
use Rattle.base.proofs.Lists.{then}
use Rattle.row_writer.proofs.Columns.{offset_one, offset_three, length_offset, three_digits}
use Rattle.row_writer.proofs.put_offset.Goals as goal

pub put-q-requires : goal.put-q-requires
put-q-requires c = omega (arith, length_offset c.args.version c.args.offset)

pub put_byte-s-requires : goal.put_byte-s-requires
put_byte-s-requires c = let a = c.args in omega (arith, length_offset a.version a.offset)

pub put_padded-requires : goal.put_padded-requires
put_padded-requires c =
    let a = c.args in
    omega (arith, length_offset a.version a.offset, sym c.fraction_digits.ensures ∙ c.if-fraction_digits-eq1.true)

pub returns-then-fraction_digits-eq1 : goal.returns-then-fraction_digits-eq1
returns-then-fraction_digits-eq1 c =
    let a = c.args in
    let e = offset_one a.version a.offset (sym c.fraction_digits.ensures ∙ c.if-fraction_digits-eq1.true) in
    rw e (then c.put_byte-p.ensures (then c.put-q.ensures (then c.put_byte-s.ensures c.put_padded.ensures.wrote)))

pub put_padded-requires-2 : goal.put_padded-requires-2
put_padded-requires-2 c =
    let a = c.args in
    let d = three_digits a.version (λ e. c.if-fraction_digits-eq1.false (c.fraction_digits.ensures ∙ e)) in
    omega (arith, length_offset a.version a.offset)

pub returns : goal.returns
returns c =
    let a = c.args in
    let d = three_digits a.version (λ e. c.if-fraction_digits-eq1.false (c.fraction_digits.ensures ∙ e)) in
    let e = offset_three a.version a.offset d in
    rw e (then c.put_byte-p.ensures (then c.put-q.ensures (then c.put_byte-s.ensures c.put_padded-2.ensures.wrote)))
