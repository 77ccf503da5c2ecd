-- `ascii_line::put_line_id` meets its contract.
use native.Mathlib.Omega.{arith}
use Rattle.base.proofs.Lists.{then}
use Rattle.ascii_line.proofs.Texts.{id, length_id}
use Rattle.ascii_line.proofs.put_line_id.Goals as goal

pub put_hex-requires : goal.put_hex-requires
put_hex-requires c = omega (arith, length_id c.args.r)

pub returns : goal.returns
returns c = rw id (then c.put_byte-p.ensures c.put_hex.ensures.wrote)
