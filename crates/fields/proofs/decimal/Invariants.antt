-- `fields::decimal` keeps: the bytes passed are the digits of n.
use Rattle.base.specs.Limits.{offset_digits}
use Rattle.digits.specs.Digits.{DecimalDigit}
use Rattle.fields.proofs.Digits.{Passed}
use Rattle.fields.proofs.decimal.Given as goal

abbrev pub invariant-loop-i : goal.invariant-loop-i
invariant-loop-i l = Passed DecimalDigit 10 offset_digits l.w l.at l.n l.i
