-- `ascii::ticks_of` meets its contract.
use mathlib.Core.Path.{refl}
use Rattle.ascii.specs.inner.Passes.{ticks_of}
use Rattle.ascii.proofs.ticks_of.Goals as goal

pub returns : goal.returns
unfolding ticks_of
returns c = refl
