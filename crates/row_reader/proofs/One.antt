-- One reading: the promise of the reader leaves one answer only.
use Prim.Native.Nat.{ℕ}
use Rattle.std.specs.Prelude.{Option}
use mathlib.Core.Path.{◌≡◌}
use mathlib.Core.List.{List}
use Rattle.base.specs.inner.Answers.{Answers}
use Rattle.base.proofs.Answers.{one_answer}
use Rattle.record.specs.declared.Record.{Record}
use Rattle.row.proofs.One.{row_one}
use Rattle.row_reader.specs.inner.Answer.{ReadsRow}

-- A line is read as one record, or as none.
pub one_reading : (v k : ℕ) (line : List ℕ) (a b : Option Record) → Answers (ReadsRow v k line) a → Answers (ReadsRow v k line) b → a ≡ b
one_reading v k line a b = one_answer (λ r q x y. row_one x.row y.row) a b
