-- `fields::hexadecimal` keeps: the bytes passed are the digits of n.
use Rattle.digits.specs.Digits.{HexDigit}
use Rattle.fields.proofs.Digits.{Passed}
use Rattle.fields.proofs.hexadecimal.Given as goal

abbrev pub invariant-loop-i : goal.invariant-loop-i
invariant-loop-i l = Passed HexDigit 16 9 l.w l.at l.n l.i
