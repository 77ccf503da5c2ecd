-- `digits::read_padded` keeps: the bytes passed are the digits of n.
use Rattle.digits.specs.Digits.{DecimalDigit}
use Rattle.digits.proofs.Readers.{Passed}
use Rattle.digits.proofs.read_padded.Given as goal

abbrev pub invariant-loop-b : goal.invariant-loop-b
invariant-loop-b l = Passed DecimalDigit 10 19 l.s l.n l.b-index
