-- What the writer of a row puts first, as its functions promise it to each other.
use Rattle.std.specs.Prelude.{ℕ, List, ◌∷◌}
use Rattle.record.specs.declared.Record.{Record}
use Rattle.row.specs.House.{number_text, offset_text, bus_texts}

-- The fields before the type.
abbrev pub head_texts : ℕ → ℕ → Record → List (List ℕ)
head_texts v k r = number_text k ∷ offset_text v r.offset ∷ bus_texts v r.bus
