-- `record::middle` meets its contract.
use native.Mathlib.Omega.{arith}
use Rattle.record.proofs.Words.{word_fits}
use Rattle.record.proofs.middle.Goals as goal

pub overflow_add-result : goal.overflow_add-result
overflow_add-result c = record { fits = word_fits _ _ (omega arith) (omega arith) }
