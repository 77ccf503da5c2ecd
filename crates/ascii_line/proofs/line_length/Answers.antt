-- `ascii_line::line_length` meets its contract.
use mathlib.Core.Path.{◌≡◌}
use native.Mathlib.Omega.{arith}
use Rattle.ascii_line.proofs.Texts.{line_length_lem, extended_length, standard_length, short_channel}
use Rattle.ascii_line.proofs.line_length.Goals as goal

pub overflow_add-result : goal.overflow_add-result
overflow_add-result c = omega (arith, short_channel c.args.channel c.requires.1)

pub overflow_add-result-then-r-eq1 : goal.overflow_add-result-then-r-eq1
overflow_add-result-then-r-eq1 c = omega (arith, short_channel c.args.channel c.requires.1)

pub returns-then-r-eq1 : goal.returns-then-r-eq1
returns-then-r-eq1 c =
    let n = c.args.channel in
    let r = c.args.r in
    (λ s. omega (arith, line_length_lem s n r, extended_length n r c.if-r-eq1.true), omega (arith, short_channel n c.requires.1))

pub overflow_add-result-2 : goal.overflow_add-result-2
overflow_add-result-2 c = omega (arith, short_channel c.args.channel c.requires.1)

pub overflow_add-result-3 : goal.overflow_add-result-3
overflow_add-result-3 c = omega (arith, short_channel c.args.channel c.requires.1)

pub returns : goal.returns
returns c =
    let n = c.args.channel in
    let r = c.args.r in
    let z : r.extended ≡ 0 = omega arith in
    (λ s. omega (arith, line_length_lem s n r, standard_length n r z), omega (arith, short_channel n c.requires.1))
