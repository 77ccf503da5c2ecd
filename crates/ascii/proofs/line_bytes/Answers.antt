-- `ascii::line_bytes` meets its contract.
use native.Mathlib.Omega.{arith}
use Rattle.ascii.proofs.Channels.{channel_most}
use Rattle.ascii.proofs.line_bytes.Goals as goal

pub line_length-requires : goal.line_length-requires
line_length-requires c =
    let w = c.requires.0 in
    (w.extended, omega (arith, c.channel_of.ensures, channel_most c.args.channel c.args.r.bus c.requires.1 w.bus), w.len)

pub returns-then-r-le1 : goal.returns-then-r-le1
returns-then-r-le1 c =
    let n = c.channel_of.ensures in
    let l = c.line_length.ensures in
    (c.if-r-le1.true, rw n at l.0, l.1)
