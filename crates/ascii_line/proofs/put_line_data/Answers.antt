-- `ascii_line::put_line_data` meets its contract.
use native.Mathlib.Omega.{arith}
use Rattle.ascii_line.proofs.Texts.{length_data}
use Rattle.ascii_line.proofs.put_line_data.Goals as goal

pub put-requires : goal.put-requires
put-requires c = omega (arith, length_data c.args.r)
