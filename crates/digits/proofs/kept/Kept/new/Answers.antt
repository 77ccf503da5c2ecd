-- `Kept::new` puts the digits of the number at the start.
use native.Mathlib.Omega.{arith}
use Rattle.digits.proofs.House.{word_few}
use Rattle.digits.proofs.Writers.{kept_first}
use Rattle.digits.proofs.kept.Kept.new.Goals as goal

pub put_decimal-digits-requires : goal.put_decimal-digits-requires
put_decimal-digits-requires c = omega (arith, word_few c.args.number (omega arith))

pub invariant_of-result : goal.invariant_of-result
invariant_of-result c = record { kept = kept_first (omega arith) (omega arith) c.put_decimal-digits.ensures }
