-- `ascii_reader::offset_of` compares in microseconds.
use native.Mathlib.Omega.{arith}
use Rattle.ascii_reader.specs.inner.Passes.{early, late}
use Rattle.ascii_reader.proofs.offset_of.Goals as goal

pub returns-then-ticks-start : goal.returns-then-ticks-start
returns-then-ticks-start c = early (omega arith)

pub returns-then-offset-gt-OFFSET_LIMIT : goal.returns-then-offset-gt-OFFSET_LIMIT
returns-then-offset-gt-OFFSET_LIMIT c = late (omega arith)
