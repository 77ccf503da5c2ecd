-- The line in the pieces that its writer puts. The promise of the export does not cite this file.
use Rattle.std.specs.Prelude.{ℕ, ◌^◌, ◌≡◌, List, [], ◌∷◌, ◌++◌}
use Rattle.base.specs.Spaced.{spaced}
use Rattle.digits.specs.declared.Letters.TheVariants.{Small}
use Rattle.digits.specs.House.{decimal_text, padded_text, byte_texts, figure_of}
use Rattle.base.specs.Text.{text, blank, point, colon, cr, lf}
use Rattle.clock.specs.declared.DayTime.{DayTime}
use Rattle.clock.specs.declared.DateTime.{DateTime}
use Rattle.record.specs.declared.Record.{Record}
use Rattle.ascii_line.specs.Line.{date_text, message_type_text, extended_texts, direction_text, id_digits}

-- Two numbers of two digits, with this byte behind each.
abbrev pub two_text : ℕ → ℕ → ℕ → List ℕ
two_text m n b = padded_text 2 m ++ (b ∷ (padded_text 2 n ++ (b ∷ [])))

-- `hh:mm:ss.`
unfoldable pub clock_text : DayTime → List ℕ
clock_text t = two_text t.hour t.minute colon ++ (padded_text 2 t.second ++ (point ∷ []))

-- A stamp up to its point: all but its part.
unfoldable pub second_text : DateTime → List ℕ
second_text s = date_text s.date ++ (blank ∷ clock_text s.time)

-- These bytes and this part are the stamp's.
pub record StampParts (second : List ℕ) (part : ℕ) (s : DateTime) : Type 0 where
  pub bytes : second ≡ second_text s
  pub rest : part ≡ s.time.part

-- The type behind one blank, and the `#` of the channel behind another.
abbrev pub source_text : ℕ → List ℕ
source_text extended = (blank ∷ message_type_text extended) ++ text " #"

-- The bar and, for an extended ID, `EXTENDED`, each behind one blank, and the blank of the direction.
abbrev pub bar_text : ℕ → List ℕ
bar_text extended = spaced (text "|" ∷ extended_texts extended) ++ (blank ∷ [])

-- The bar and the direction, each behind one blank.
abbrev pub way_text : ℕ → ℕ → List ℕ
way_text extended kind = spaced (text "|" ∷ (extended_texts extended ++ (direction_text kind ∷ [])))

-- Length and bytes, each behind one blank.
abbrev pub data_text : Record → List ℕ
data_text r = (blank ∷ figure_of r.len ∷ []) ++ spaced (byte_texts Small (256 ^ 7) r.len r.«data»)

-- ID, length and bytes, and CR LF.
abbrev pub rest_text : Record → List ℕ
rest_text r = (blank ∷ id_digits r) ++ (data_text r ++ (cr ∷ lf ∷ []))

-- What stands behind the stamp, and CR LF.
abbrev pub frame_text : ℕ → Record → List ℕ
frame_text channel r = source_text r.extended ++ (decimal_text channel ++ (way_text r.extended r.kind ++ rest_text r))
