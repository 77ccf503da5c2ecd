-- The export's own line is such a line.
use Prim.Native.Nat.{ℕ, zero, suc, ◌+◌, ◌*◌, ◌^◌, ◌≤◌, ◌<◌}
use mathlib.Core.Path.{◌≡◌, refl, ap, sym}
use mathlib.Core.List.{List, [], ◌∷◌, ◌++◌, append-nil, append_assoc}
use native.Mathlib.Nat.{mod-eq_of_lt}
use native.Mathlib.Omega.{arith}
use native.Mathlib.Decide.{ℕ_discrete}
use lib.Dec.{T, leb}
use lib.ListN.{length, length-append}
use Rattle.base.specs.Spaced.{spaced, joined}
use Rattle.base.proofs.Tables.{every}
use Rattle.base.proofs.Spaced.{spaced_none, spaced_more, joined_more}
use Rattle.digits.specs.declared.Letters.TheVariants.{Small}
use Rattle.digits.specs.House.{padded_text, byte_texts}
use Rattle.digits.proofs.House.{padded_spells, decimal_spells}
use Rattle.digits.proofs.Theorems.{hex_spells}
use Rattle.clock.specs.declared.CalendarDay.{CalendarDay}
use Rattle.clock.specs.declared.DayTime.{DayTime}
use Rattle.clock.specs.declared.DateTime.{DateTime}
use Rattle.record.specs.declared.Record.{Record}
use Rattle.record.specs.Record.{WellFormed}
use Rattle.fields.specs.Parted.{NoBlank, Parted, none, blank_first}
use Rattle.fields.specs.Runs.{All, empty, more, Stops, over, halt}
use Rattle.fields.proofs.Columns.{Plain, visible, decimals, text_plain, type_plain, type_some, hex_plain, length_plain, length_some, byte_plain, byte_some}
use Rattle.fields.proofs.Parts.{first}
use Rattle.fields.proofs.Runs.{all_map, all_append}
use Rattle.lines.specs.Lines.{Inside}
use Rattle.row.specs.Row.{Nothing, nothing, ByteFields, done, byte}
use Rattle.row.proofs.Fields.{Each, no_more, then, each_map, parted_all}
use Rattle.row.proofs.Spelled.{bytes_spelled}
use Rattle.ascii_line.specs.Line.{date_text, time_text, message_type_text, id_digits, part_texts, line_text}
use Rattle.ascii_line.proofs.Texts.{id}
use Rattle.ascii_line_reader.specs.AsciiLine.{Tight, Apart, StampFits, FrameFits, AsciiLine}
use Rattle.ascii_line_reader.specs.inner.Columns.{TypePart, ChannelPart, DirectionPart, IdPart}
use Rattle.ascii_line_reader.specs.inner.Frame.{FromType, from_type, from_channel, from_bar, FromExtended, no_word, word, FromDirection, from_direction, from_id, from_length}
use Rattle.ascii_line_reader.specs.inner.Answer.{NoIndent}
use Rattle.ascii_line_reader.proofs.Walk.{tight_end}
use Rattle.ascii_line_reader.proofs.Parts.{is_type, is_hex}
use Rattle.ascii_line_reader.proofs.Frames.{FrameParts, from_parts}
use Rattle.ascii_line_reader.proofs.One.{ShortDate, ShortTime, short_date, short_time}

-- A part that can stand in a line: some bytes, none of them a blank, CR or LF.
record Part (f : List ℕ) : Type 0 where
  some : 0 < length f
  plain : All Plain f

dark : {f : List ℕ} → Part f → All NoBlank f
dark p = all_map (λ b q. q.blank) p.plain

-- Parts put together with one blank are parted, and no blank stands at the ends.

stops : (fs : List (List ℕ)) → Stops NoBlank (spaced fs)
stops [] = rw spaced_none over
stops (f ∷ fs) = rw spaced_more (halt (λ n. n refl))

parted_spaced : {fs : List (List ℕ)} → Each Part fs → Parted fs (spaced fs)
parted_spaced no_more = rw spaced_none none
parted_spaced (then {f = f} {fs = fs} p e) = rw spaced_more (blank_first (first p.some (dark p) (stops fs) (parted_spaced e) refl))

indent : {f : List ℕ} (t : List ℕ) → Part f → NoIndent (f ++ t)
indent {f} t p s e = go p.some p.plain e
  where
    go : {g : List ℕ} → 0 < length g → All Plain g → g ++ t ≡ 32 ∷ s → ⊥
    go h empty q = omega arith
    go h (more b a) q = b.blank (cc)

tight : (t : List ℕ) {f : List ℕ} {fs : List (List ℕ)} → Part f → Each Part fs → Tight (t ++ (f ++ spaced fs))
tight t {f} p no_more = rw (spaced_none, append-nil f) (tight_end t p.some (dark p))
tight t {f} p (then {f = g} {fs = fs} q e) =
    let x : (t ++ (f ++ (32 ∷ []))) ++ (g ++ spaced fs) ≡ t ++ (f ++ spaced (g ∷ fs)) = rw spaced_more (simp append_assoc) in
    rw x at (tight (t ++ (f ++ (32 ∷ []))) q e)

apart : {f : List ℕ} {fs : List (List ℕ)} → Part f → Each Part fs → Apart (f ∷ fs) (joined (f ∷ fs))
apart {f} {fs} p e = rw joined_more (record {
  parted = first p.some (dark p) (stops fs) (parted_spaced e) refl;
  first = indent (spaced fs) p;
  last = tight [] p e;
})

-- Each part of the line is one.

padded_plain : (w n : ℕ) → n < 10 ^ w → All Plain (padded_text w n)
padded_plain w n h = decimals (padded_spells w n h).digits

separator : {b : ℕ} {s : List ℕ} → 33 ≤ b → All Plain s → All Plain (b ∷ s)
separator h a = more (visible h) a

date_part : {d : CalendarDay} → ShortDate d → Part (date_text d)
unfolding date_text
date_part {d} h = record {
  some = omega (arith, length-append (padded_text 2 d.day) (46 ∷ (padded_text 2 d.month ++ (46 ∷ padded_text 4 d.year))));
  plain = all_append (padded_plain 2 d.day h.day) (separator (omega arith) (all_append (padded_plain 2 d.month h.month) (separator (omega arith) (padded_plain 4 d.year h.year))));
}

time_part : {t : DayTime} → ShortTime t → Part (time_text t)
unfolding time_text
time_part {t} h = record {
  some = omega (arith, length-append (padded_text 2 t.hour) (58 ∷ (padded_text 2 t.minute ++ (58 ∷ (padded_text 2 t.second ++ (46 ∷ padded_text 4 t.part))))));
  plain =
      all_append (padded_plain 2 t.hour h.hour) (separator (omega arith)
      (all_append (padded_plain 2 t.minute h.minute) (separator (omega arith)
      (all_append (padded_plain 2 t.second h.second) (separator (omega arith) (padded_plain 4 t.part h.part))))));
}

type_text_lem : (v : ℕ) → v ≤ 1 → Part (message_type_text v)
unfolding message_type_text
type_text_lem zero h = record { some = omega arith; plain = text_plain (message_type_text 0) tt }
type_text_lem (suc zero) h = record { some = omega arith; plain = text_plain (message_type_text 1) tt }
type_text_lem (suc (suc v)) h = absurd (omega arith)

type_part : {v : ℕ} {f : List ℕ} → TypePart v f → Part f
type_part {v} p = rw p.bytes (type_text_lem v p.few)

word_part : {f t : List ℕ} → f ≡ t → 0 < length t → T (every (λ k x. leb 33 x) 0 t) → Part f
word_part {t = t} e h b = rw e (record { some = h; plain = text_plain t b })

channel_part : {v : ℕ} {f : List ℕ} → ChannelPart v f → Part f
channel_part {v} p = rw p.bytes (record { some = omega arith; plain = separator (omega arith) (decimals (decimal_spells v).digits) })

direction_part : {v : ℕ} {f : List ℕ} → DirectionPart v f → Part f
direction_part {v} p = let t = is_type v p in record { some = type_some t; plain = type_plain t }

id_part : {x v : ℕ} {f : List ℕ} → x ≤ 1 → IdPart x v f → Part f
id_part h p = record { some = omega (arith, p.digits.width); plain = hex_plain (is_hex h p) }

byte_parts : {place n sum : ℕ} {fs : List (List ℕ)} → ByteFields Nothing place n sum fs → Each Part fs
byte_parts (done nothing) = no_more
byte_parts (byte h r e) = then (record { some = byte_some h; plain = byte_plain h }) (byte_parts r)

direction_parts : {r : Record} {fs : List (List ℕ)} → r.extended ≤ 1 → FromDirection r fs → Each Part fs
direction_parts h (from_direction d (from_id i (from_length l b))) =
    then (direction_part d) (then (id_part h i) (then (record { some = length_some l; plain = length_plain l }) (byte_parts b)))

extended_parts : {r : Record} {fs : List (List ℕ)} → r.extended ≤ 1 → FromExtended r fs → Each Part fs
extended_parts h (no_word e d) = direction_parts h d
extended_parts h (word e x d) = then (word_part x (omega arith) tt) (direction_parts h d)

frame_parts : {r : Record} {fs : List (List ℕ)} → FromType r fs → Each Part fs
frame_parts (from_type t (from_channel c (from_bar b x))) =
    then (type_part t) (then (channel_part c) (then (word_part b (omega arith) tt) (extended_parts t.few x)))

-- The line as it is written, without its end.
abbrev pub house_line : DateTime → Record → List ℕ
house_line s r = joined (date_text s.date ∷ time_text s.time ∷ part_texts r.bus r)

pub house_text : (s : DateTime) (r : Record) → line_text s r.bus r ≡ house_line s r ++ (13 ∷ 10 ∷ [])
unfolding line_text
house_text s r = rw (joined_more, spaced_more (time_text s.time) (part_texts r.bus r)) (simp append_assoc)

house_frame : {r : Record} → FrameFits r → WellFormed r → FrameParts r (part_texts r.bus r)
house_frame {r} f w = record {
  id = id_digits r;
  bytes = byte_texts Small (256 ^ 7) r.len r.«data»;
  are = refl;
  id_hex = rw id (hex_spells Small (3 + 5 * r.extended) r.id (wide (ℕ_discrete r.extended 0)));
  byte_digits = bytes_spelled Small Nothing nothing r.«data» r.len 7 (256 ^ 7) r.«data» refl f.len w.past (sym (mod-eq_of_lt w.eight));
  fits = f;
}
  where
    wide : Dec (r.extended ≡ 0) → r.id < 16 ^ (3 + 5 * r.extended)
    wide (yes e) = rw e (omega (arith, f.standard e))
    wide (no n) = let o : r.extended ≡ 1 = omega (arith, f.extended) in rw o (omega (arith, f.id))

module _ {s : DateTime} {r : Record} (t : StampFits s) (f : FrameFits r) (w : WellFormed r) where
  parts : Each Part (time_text s.time ∷ part_texts r.bus r)
  parts = then (time_part (short_time t)) (frame_parts (from_parts (house_frame f w)))

  pub house_line_lem : AsciiLine s r (house_line s r)
  house_line_lem =
      let k = house_frame f w in
      record {
        parts = date_text s.date ∷ time_text s.time ∷ part_texts r.bus r;
        apart = apart (date_part (short_date t)) parts;
        spelled = record { id = k.id; bytes = k.bytes; are = ap (λ (fs : List (List ℕ)). date_text s.date ∷ time_text s.time ∷ fs) k.are; id_hex = k.id_hex; byte_digits = k.byte_digits };
        stamp = t;
        frame = f;
      }

  -- It has no CR and no LF.
  pub house_inside : All Inside (house_line s r)
  house_inside =
      parted_all (record { cr = λ e. omega arith; lf = λ e. omega arith }) (then (inside (date_part (short_date t))) (each_map (λ g p. inside p) parts)) (apart (date_part (short_date t)) parts).parted
    where
      inside : {g : List ℕ} → Part g → All Inside g
      inside p = all_map (λ b q. record { cr = q.end; lf = q.feed }) p.plain
