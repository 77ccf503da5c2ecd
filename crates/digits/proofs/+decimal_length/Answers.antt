-- `digits::decimal_length` tells how many digits `decimal_text` has, and calls itself on what stands before the last ten.
use Rattle.std.proofs.Common.{◌≤◌, arith, sym}
use Rattle.digits.proofs.House.{few, length_one, length_told, length_steps}
use Rattle.digits.proofs.+decimal_length.Goals as goal

pub returns-then-n-lt10 : goal.returns-then-n-lt10
returns-then-n-lt10 t c = sym (length_one _ c.if-n-lt10.true)

pub returns-then-n-lt100 : goal.returns-then-n-lt100
returns-then-n-lt100 t c = sym (length_told 1 _ c.if-n-lt10.false c.if-n-lt100.true)

pub returns-then-n-lt1000 : goal.returns-then-n-lt1000
returns-then-n-lt1000 t c = sym (length_told 2 _ c.if-n-lt100.false c.if-n-lt1000.true)

pub returns-then-n-lt10000 : goal.returns-then-n-lt10000
returns-then-n-lt10000 t c = sym (length_told 3 _ c.if-n-lt1000.false c.if-n-lt10000.true)

pub returns-then-n-lt100000 : goal.returns-then-n-lt100000
returns-then-n-lt100000 t c = sym (length_told 4 _ c.if-n-lt10000.false c.if-n-lt100000.true)

pub returns-then-n-lt1000000 : goal.returns-then-n-lt1000000
returns-then-n-lt1000000 t c = sym (length_told 5 _ c.if-n-lt100000.false c.if-n-lt1000000.true)

pub returns-then-n-lt10000000 : goal.returns-then-n-lt10000000
returns-then-n-lt10000000 t c = sym (length_told 6 _ c.if-n-lt1000000.false c.if-n-lt10000000.true)

pub returns-then-n-lt100000000 : goal.returns-then-n-lt100000000
returns-then-n-lt100000000 t c = sym (length_told 7 _ c.if-n-lt10000000.false c.if-n-lt100000000.true)

pub returns-then-n-lt1000000000 : goal.returns-then-n-lt1000000000
returns-then-n-lt1000000000 t c = sym (length_told 8 _ c.if-n-lt100000000.false c.if-n-lt1000000000.true)

pub returns-then-n-lt10000000000 : goal.returns-then-n-lt10000000000
returns-then-n-lt10000000000 t c = sym (length_told 9 _ c.if-n-lt1000000000.false c.if-n-lt10000000000.true)

pub overflow_add-result : goal.overflow_add-result
overflow_add-result t c =
    let h : c.decimal_length.result ≤ 10 = rw c.decimal_length.ensures (few 9 _ (omega arith)) in
    omega arith

pub returns : goal.returns
returns t c = rw c.decimal_length.ensures (sym (length_steps 10 _ c.if-n-lt10000000000.false))
