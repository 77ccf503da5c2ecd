-- `HexDigits::new` has the table.
use Rattle.digits.proofs.HexTables.{hex_table}
use Rattle.digits.proofs.hex.HexDigits.new.Goals as goal

pub returns : goal.returns
returns c = hex_table
