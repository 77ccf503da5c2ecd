-- What `packed_at` requires and gives.
use Rattle.std.specs.Prelude.{ℕ, List, take, drop}
use Rattle.record.specs.declared.Record.{Record}
use Rattle.record.specs.Record.{Packs}

-- The twenty bytes of s at a position are this packed record, with either mark.
pub record PackedAt (s : List ℕ) (at : ℕ) (r : Record) : Type 0 where
  pub mark : ℕ
  pub packs : Packs r mark (take 20 (drop at s))
