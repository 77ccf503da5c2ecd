-- `trace_writer::head_length` meets its contract.
use Prim.Native.Nat.{◌/◌}
use native.Mathlib.Omega.{arith}
use Rattle.digits.proofs.House.{word_few}
use Rattle.trace_writer.proofs.Texts.{head_length_lem}
use Rattle.trace_writer.proofs.head_length.Goals as goal

pub overflow_add-result : goal.overflow_add-result
overflow_add-result c = let a = c.args in omega (arith, word_few (a.start / 86400000) (omega arith))

pub returns : goal.returns
returns c = let a = c.args in (omega (arith, head_length_lem a.version a.start), omega (arith, word_few (a.start / 86400000) (omega arith)))
