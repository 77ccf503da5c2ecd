-- `ascii_line::put_line` meets its contract.
use native.Mathlib.Omega.{arith}
use Rattle.base.proofs.Lists.{then}
use Rattle.ascii_line.proofs.Texts.{line_cut, line_length_lem}
use Rattle.ascii_line.proofs.put_line.Goals as goal

pub put_text-p-requires : goal.put_text-p-requires
put_text-p-requires c = omega (arith, line_length_lem c.requires.3.0 c.args.channel c.args.r)

pub put_padded-q-requires : goal.put_padded-q-requires
put_padded-q-requires c = omega (arith, line_length_lem c.requires.3.0 c.args.channel c.args.r)

pub put_line_frame-requires : goal.put_line_frame-requires
put_line_frame-requires c = (c.requires.0, c.requires.1, c.requires.2, omega (arith, line_length_lem c.requires.3.0 c.args.channel c.args.r), c.requires.4)

pub returns : goal.returns
returns c =
    λ s b. let a = c.args in
    rw (line_cut s a.channel a.r, ← b.bytes, ← b.rest) (then c.put_text-p.ensures (then c.put_padded-q.ensures.wrote c.put_line_frame.ensures))
