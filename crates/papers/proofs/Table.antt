-- The cases that paper 01 marks P hold of the definitions: one table, one statement.
use Prim.Native.Nat.{ℕ, ◌+◌, ◌*◌, ◌^◌, ◌≤◌, ◌<◌}
use mathlib.Core.Path.{◌≡◌, refl}
use mathlib.Core.Logic.{⊎_elim}
use native.Mathlib.Omega.{arith}
use lib.ListN.{length}
use Rattle.base.specs.Spaced.{spaced, joined}
use Rattle.digits.specs.House.{glyph_of, fixed, spell, decimal_text, byte_texts}
use Rattle.clock.specs.Start.{day_ms}
use Rattle.clock.proofs.Cases.{day_0, day_37704, day_39878, past_limit, leap_day}
use Rattle.lines.specs.Lines.{StartLine}
use Rattle.record.specs.declared.Record.{Record}
use Rattle.record.specs.Bytes.{bytes}
use Rattle.record.specs.Record.{WellFormed, number, Packs}
use Rattle.record.proofs.Frames.{frame_formed}
use Rattle.record.proofs.OneRecord.{packs}
use Rattle.row.specs.Row.{Row}
use Rattle.row.specs.House.{number_text, offset_text, bus_texts, type_text, id_text, data_texts, row_texts, row_text}
use Rattle.row.specs.Versions.{v11, v12}
use Rattle.row.proofs.Spelled.{row_spelled}
use Rattle.papers.specs.Cases.{Holds, received11, table, Every, none, more}
use Rattle.papers.proofs.Starts.{start_line, gives, gives_only}
use Rattle.papers.proofs.Rows.{row_0800, row_20000000, row_0_byte, received_formed}

-- A received frame is taken, as the house spells it.
taken_row : (kind extended id len : ℕ) → kind ≤ 3 → extended ≤ 1 → (extended ≡ 0 → id ≤ 0x7FF) → id < 2 ^ 29 → len ≤ 8
    → Row 11 1 (received11 kind extended id len) (row_text 11 1 (received11 kind extended id len))
taken_row kind extended id len k x s i l = row_spelled (received_formed kind extended id len k x s i l) (v11 refl refl) (omega arith) (omega arith)

-- Record 1.
abbrev first : Record
first = record { offset = 0; bus = 1; kind = 0; extended = 0; id = 0x123; len = 2; «data» = 0x0AFF000000000000 }

first_formed : WellFormed first
first_formed =
    frame_formed _ (omega arith) (omega arith) (omega arith) (omega arith) (λ e. omega arith) (omega arith) (omega arith) (omega arith) refl
    (⊎_elim (λ e. absurd (omega arith)) (λ e. absurd (omega arith)))

first_row : (r : Record) × Row 12 1 r (row_text 12 1 first) × Packs r 0 (bytes 20 (number first 0))
first_row = (first, row_spelled first_formed (v12 (omega arith) (omega arith)) (omega arith) (omega arith), packs first_formed (omega arith))

-- 39878.6772258947
left : StartLine (39878 * day_ms + 58512317) (start_line 39878 10 6772258947) × (58512317 < day_ms)
left = (gives 39878 10 6772258947 (39878 * day_ms + 58512317) (omega arith) (omega arith) (omega arith) (omega arith) day_39878 (omega arith), omega arith)

-- 99999.9999999999
late : (ms : ℕ) → StartLine ms (start_line 99999 10 9999999999) → ⊥
late ms s = omega (arith, s.gives.limit, past_limit ms (gives_only 99999 10 9999999999 (omega arith) s))

-- Every case holds.
pub papers : Every Holds table
unfolding bytes spaced joined number_text offset_text bus_texts type_text id_text byte_texts data_texts row_texts decimal_text spell fixed glyph_of
papers =
    more (gives 0 1 0 0 (omega arith) (omega arith) (omega arith) (omega arith) day_0 (omega arith))
    (more (gives 37704 10 5364870833 3257671952484 (omega arith) (omega arith) (omega arith) (omega arith) day_37704 (omega arith))
    (more left
    (more late
    (more (taken_row 0 0 0x7FF 0 (omega arith) (omega arith) (λ e. omega arith) (omega arith) (omega arith))
    (more row_0800
    (more (taken_row 0 1 0x1FFFFFFF 0 (omega arith) (omega arith) (λ e. absurd (omega arith)) (omega arith) (omega arith))
    (more row_20000000
    (more (taken_row 0 0 0x123 0 (omega arith) (omega arith) (λ e. omega arith) (omega arith) (omega arith))
    (more row_0_byte
    (more (taken_row 2 0 0x123 8 (omega arith) (omega arith) (λ e. omega arith) (omega arith) (omega arith))
    (more first_row
    (more leap_day none))))))))))))

-- They are thirteen.
pub thirteen : length table ≡ 13
thirteen = refl
