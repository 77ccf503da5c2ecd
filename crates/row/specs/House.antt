-- The house spelling of a row: one blank between fields, none at the ends, capital hexadecimal, no words, decimal without leading zeros.
-- In words: docs/FORMAT.md, section 9.
use Rattle.std.specs.Prelude.{ℕ, ◌+◌, ◌*◌, ◌-◌, ◌/◌, ◌%◌, ◌^◌, cond, List, [], ◌∷◌, ◌++◌, eqb, get_or}
use Rattle.base.specs.Spaced.{joined}
use Rattle.base.specs.Text.{bracket, point}
use Rattle.digits.specs.declared.Letters.TheVariants.{Capital}
use Rattle.digits.specs.House.{figure_of, decimal_text, padded_text, hex_text, byte_texts}
use Rattle.record.specs.declared.Record.{Record}
use Rattle.fields.specs.Columns.{type_rx, type_tx, type_warng, type_error, remote_text}
use Rattle.row.specs.Versions.{fraction_digits, has_bus}

unfoldable pub number_text : ℕ → List ℕ
number_text k = decimal_text k ++ (bracket ∷ [])

unfoldable pub offset_text : ℕ → ℕ → List ℕ
offset_text v offset =
    decimal_text (offset / 1000) ++ (point ∷ padded_text (fraction_digits v) (offset % 1000 / 10 ^ (3 - fraction_digits v)))

-- A bus where the version has one.
unfoldable pub bus_texts : ℕ → ℕ → List (List ℕ)
bus_texts v bus = cond (has_bus v) (decimal_text bus ∷ []) []

-- The type of each kind: `Rx`, `Tx`, again for remote frames, `Warng`, `Error`.
abbrev pub types : List (List ℕ)
types =
    type_rx ∷ type_tx ∷ type_rx ∷ type_tx ∷ type_warng ∷ type_error ∷ []

unfoldable pub type_text : ℕ → List ℕ
type_text kind = get_or types kind []

-- Eight F for a warning; else eight digits if extended, and four if not.
unfoldable pub id_text : Record → List ℕ
id_text r = cond (eqb r.kind 4) (hex_text Capital 8 0xFFFFFFFF) (hex_text Capital (4 + 4 * r.extended) r.id)

-- `RTR` for a remote frame, else the bytes.
unfoldable pub data_texts : Record → List (List ℕ)
data_texts r = cond (eqb (r.kind / 2) 1) (remote_text ∷ []) (byte_texts Capital (256 ^ 7) r.len r.«data»)

-- The fields from the type on.
abbrev pub frame_texts : Record → List (List ℕ)
frame_texts r = type_text r.kind ∷ id_text r ∷ (figure_of r.len ∷ []) ∷ data_texts r

-- The fields of the row with number k and record r in version v.
unfoldable pub row_texts : ℕ → ℕ → Record → List (List ℕ)
row_texts v k r =
    number_text k ∷ offset_text v r.offset ∷ (bus_texts v r.bus ++ frame_texts r)

-- The row, as it is written.
abbrev pub row_text : ℕ → ℕ → Record → List ℕ
row_text v k r = joined (row_texts v k r)
