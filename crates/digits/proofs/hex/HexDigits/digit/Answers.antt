-- `HexDigits::digit` looks the byte up: 255 in the table says that it is none.
use native.Mathlib.Omega.{arith}
use Rattle.digits.proofs.HexTables.{entry, is_digit, no_digit}
use Rattle.digits.proofs.hex.HexDigits.digit.Goals as goal

pub returns-then-d : goal.returns-then-d
returns-then-d c = no_digit (entry c.args.self.now.is (omega arith)) (omega arith)

pub returns-else-d : goal.returns-else-d
returns-else-d c = is_digit (entry c.args.self.now.is (omega arith)) (omega arith)
