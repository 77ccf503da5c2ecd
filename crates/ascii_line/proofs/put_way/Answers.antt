-- `ascii_line::put_way` meets its contract.
use native.Mathlib.Omega.{arith}
use Rattle.base.proofs.Lists.{then}
use Rattle.ascii_line.proofs.Texts.{way, length_way}
use Rattle.ascii_line.proofs.put_way.Goals as goal

pub put_bar-p-requires : goal.put_bar-p-requires
put_bar-p-requires c = let a = c.args in omega (arith, length_way a.extended a.kind)

pub put_byte-q-requires : goal.put_byte-q-requires
put_byte-q-requires c = let a = c.args in omega (arith, length_way a.extended a.kind)

pub put_byte-requires : goal.put_byte-requires
put_byte-requires c = let a = c.args in omega (arith, length_way a.extended a.kind)

pub returns : goal.returns
returns c = rw (way c.args.extended c.args.kind c.requires.0) (then c.put_bar-p.ensures (then c.put_byte-q.ensures c.put_byte.ensures))
