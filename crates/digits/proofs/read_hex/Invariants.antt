-- `digits::read_hex` keeps: the bytes passed are the digits of n.
use Rattle.digits.specs.Digits.{HexDigit}
use Rattle.digits.proofs.Readers.{Passed}
use Rattle.digits.proofs.read_hex.Given as goal

abbrev pub invariant-loop-b : goal.invariant-loop-b
invariant-loop-b l = Passed HexDigit 16 16 l.s l.n l.b-index
