-- How short a line can be: the least bytes of each part, and the blanks between them.
use Prim.Native.Nat.{ℕ, zero, suc, ◌≤◌}
use mathlib.Core.Path.{ap}
use mathlib.Core.List.{List}
use native.Mathlib.Omega.{arith}
use lib.ListN.{length}
use Rattle.digits.proofs.House.{decimal_spells}
use Rattle.clock.specs.declared.DateTime.{DateTime}
use Rattle.record.specs.declared.Record.{Record}
use Rattle.row.proofs.Least.{size, parted_size, length_size}
use Rattle.ascii_line.specs.Line.{message_type_text}
use Rattle.ascii_line.proofs.Texts.{length_date, length_time, length_direction}
use Rattle.ascii_line_reader.specs.AsciiLine.{AsciiLine}
use Rattle.ascii_line_reader.specs.inner.Columns.{ChannelPart}
use Rattle.ascii_line_reader.specs.inner.Frame.{FromType, from_type, from_channel, from_bar, FromExtended, no_word, word, FromDirection, from_direction, from_id, from_length}
use Rattle.ascii_line_reader.proofs.Whole.{line_frame}

type_size : (v : ℕ) → v ≤ 1 → 3 ≤ length (message_type_text v)
unfolding message_type_text
type_size zero h = omega arith
type_size (suc zero) h = omega arith
type_size (suc (suc v)) h = absurd (omega arith)

channel_size : {v : ℕ} {f : List ℕ} → ChannelPart v f → 2 ≤ length f
channel_size {v} p = omega (arith, ap length p.bytes, (decimal_spells v).some)

-- From the direction on, from `EXTENDED` on, and from the type on.

module _ {r : Record} where
  direction_size : {fs : List (List ℕ)} → FromDirection r fs → 9 ≤ size fs
  direction_size (from_direction d (from_id i (from_length l b))) =
      omega (arith, ap length d.bytes, length_direction r.kind, i.digits.width, length_size l)

  extended_size : {fs : List (List ℕ)} → FromExtended r fs → 9 ≤ size fs
  extended_size (no_word e d) = direction_size d
  extended_size (word e x d) = omega (arith, direction_size d)

  frame_size : {fs : List (List ℕ)} → FromType r fs → 18 ≤ size fs
  frame_size (from_type t (from_channel c (from_bar b x))) =
      omega (arith, ap length t.bytes, type_size r.extended t.few, channel_size c, ap length b, extended_size x)

-- A line has at least 42 bytes: `29.02.2000 12:00:00.0000 CAN #1 | Rx 123 0`.
pub line_least : {s : DateTime} {r : Record} {line : List ℕ} → AsciiLine s r line → 42 ≤ length line
line_least {s} a =
    let p = a.apart.parted in
    omega (arith, (parted_size p).0, ap size a.spelled.are, length_date s.date, length_time s.time, frame_size (line_frame a p a.spelled.are))
