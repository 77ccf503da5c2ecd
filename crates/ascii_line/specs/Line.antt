-- The line of one record in Telemotive ASCII: the stamp, then each part behind one blank, then CR LF. Whoever prints the line says which channel it has.
-- In words: docs/FORMAT.md, section 10.
use Rattle.std.specs.Prelude.{ℕ, ◌+◌, ◌*◌, ◌^◌, cond, List, [], ◌∷◌, ◌++◌, eqb}
use Rattle.base.specs.Spaced.{spaced}
use Rattle.digits.specs.declared.Letters.TheVariants.{Small}
use Rattle.digits.specs.House.{decimal_text, padded_text, hex_text, byte_texts, figure_of}
use Rattle.base.specs.Text.{text, blank, point, colon, cr, lf}
use Rattle.clock.specs.declared.CalendarDay.{CalendarDay}
use Rattle.clock.specs.declared.DayTime.{DayTime}
use Rattle.clock.specs.declared.DateTime.{DateTime}
use Rattle.record.specs.declared.Record.{Record}
use Rattle.fields.specs.Columns.{type_rx, type_tx}

-- `dd.mm.yyyy`
unfoldable pub date_text : CalendarDay → List ℕ
date_text d = padded_text 2 d.day ++ (point ∷ (padded_text 2 d.month ++ (point ∷ padded_text 4 d.year)))

-- `hh:mm:ss.xxxx`
unfoldable pub time_text : DayTime → List ℕ
time_text t = padded_text 2 t.hour ++ (colon ∷ (padded_text 2 t.minute ++ (colon ∷ (padded_text 2 t.second ++ (point ∷ padded_text 4 t.part)))))

abbrev pub stamp_text : DateTime → List ℕ
stamp_text s = date_text s.date ++ (blank ∷ time_text s.time)

-- `CAN`, and `CANExt` for an extended ID.
unfoldable pub message_type_text : ℕ → List ℕ
message_type_text extended = cond (eqb extended 1) (text "CANExt") (text "CAN")

-- `#` and the channel.
abbrev pub channel_text : ℕ → List ℕ
channel_text channel = text "#" ++ decimal_text channel

-- `EXTENDED` before the direction, for an extended ID.
unfoldable pub extended_texts : ℕ → List (List ℕ)
extended_texts extended = cond (eqb extended 1) (text "EXTENDED" ∷ []) []

-- `Rx` for received, `Tx` for sent.
unfoldable pub direction_text : ℕ → List ℕ
direction_text kind = cond (eqb kind 0) type_rx type_tx

-- Eight digits of an extended ID, three of a standard one.
unfoldable pub id_digits : Record → List ℕ
id_digits r = hex_text Small (3 + 5 * r.extended) r.id

-- What stands behind the stamp, the ID in these digits and the data in these bytes.
abbrev pub parts_with : ℕ → Record → List ℕ → List (List ℕ) → List (List ℕ)
parts_with channel r id bytes =
    message_type_text r.extended ∷ channel_text channel ∷ text "|"
    ∷ (extended_texts r.extended ++ (direction_text r.kind ∷ id ∷ (figure_of r.len ∷ []) ∷ bytes))

-- The same as it is written.
abbrev pub part_texts : ℕ → Record → List (List ℕ)
part_texts channel r = parts_with channel r (id_digits r) (byte_texts Small (256 ^ 7) r.len r.«data»)

unfoldable pub line_text : DateTime → ℕ → Record → List ℕ
line_text s channel r = stamp_text s ++ (spaced (part_texts channel r) ++ (cr ∷ lf ∷ []))
