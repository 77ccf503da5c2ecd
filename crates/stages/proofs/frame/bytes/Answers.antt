-- `stages::frame::bytes` takes a data byte off, if one is left.
use Rattle.row.proofs.Data.{bytes_barred, bytes_went}
use Rattle.stages.proofs.frame.bytes.Goals as goal

pub returns-then-p-eq0 : goal.returns-then-p-eq0
returns-then-p-eq0 c = bytes_barred c.args.p c.if-p-eq0.true

pub returns : goal.returns
returns c = bytes_went _ _ c.args.p _ c.if-p-eq0.false c.requires.1 c.byte.ensures
