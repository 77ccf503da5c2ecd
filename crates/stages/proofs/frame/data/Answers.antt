-- `stages::frame::data` takes `RTR` off, or the first data byte.
use mathlib.Core.Path.{refl}
use Rattle.row.proofs.Data.{remote_went, data_barred, data_went}
use Rattle.stages.proofs.frame.data.Goals as goal

pub returns-in-Some : goal.returns-in-Some
returns-in-Some c = rw c.known.ensures (remote_went c.args.p c.requires.1 _ refl refl c.requires.1.1 c.in-Some.ensures)

pub returns-then-p-eq0 : goal.returns-then-p-eq0
returns-then-p-eq0 c = data_barred c.args.p c.requires.1 c.in_default.ensures c.if-p-eq0.true

pub returns : goal.returns
returns c = data_went _ _ c.args.p _ c.if-p-eq0.false c.requires.1 c.in_default.ensures c.byte.ensures
