-- `ascii::show` meets its contract.
use mathlib.Core.Path.{refl}
use Rattle.ascii.proofs.Keeping.{shows}
use Rattle.ascii.proofs.show.Goals as goal

pub returns : goal.returns
returns c = shows c.stamp_of.ensures c.put_second.ensures refl
