-- Export of what was read, with channel 0 for bus 0: for every accepted text, line by line the same stamps, directions, IDs, channels and bytes, in
-- house spelling. So with any channel, where no line has channel 0.
use Prim.Native.Nat.{ℕ, ◌+◌, ◌*◌, ◌≤◌, ◌<◌}
use mathlib.Core.Path.{◌≡◌, refl, ap, ◌∙◌}
use mathlib.Core.Logic.{◌⊎◌, inl, inr}
use mathlib.Core.List.{List, [], ◌∷◌, ◌++◌}
use native.Mathlib.Omega.{arith}
use lib.ListN.{length, take, drop}
use lib.Seq.{take_at}
use Rattle.base.specs.Limits.{last_bus}
use Rattle.base.proofs.Numbers.{below_or_not}
use Rattle.clock.specs.declared.DateTime.{DateTime}
use Rattle.clock.specs.Start.{start_limit}
use Rattle.clock.specs.Stamp.{Stamp}
use Rattle.record.specs.declared.Record.{Record}
use Rattle.record.specs.Record.{WellFormed}
use Rattle.records.specs.Records.{Each, none, more, packed, PacksAll}
use Rattle.records.proofs.Lists.{each_all, each_map}
use Rattle.records.proofs.Packing.{packed_length}
use Rattle.fields.specs.Columns.{last_number}
use Rattle.ascii_line.specs.Line.{line_text}
use Rattle.ascii.specs.Promise.{export_done, export_refused, line_of, Exports, line_count, left_count, Given, ExportPromise}
use Rattle.ascii.specs.Promise as export
use Rattle.ascii.proofs.Answers.{one_export}
use Rattle.ascii.proofs.Channels.{own_channel, same_channel}
use Rattle.ascii.proofs.Exporting.{frame_line, counts_sum}
use Rattle.ascii_line_reader.specs.AsciiLine.{instant, AsciiLine}
use Rattle.ascii_line_reader.proofs.Theorems.{line_formed, line_ticks}
use Rattle.ascii_reader.specs.Text.{Lines, over, line, FirstStart, no_lines, cut, SpellsAscii, Respelled}
use Rattle.ascii_reader.specs.Text
use Rattle.ascii_reader.specs.Promise.{ReadAsciiPromise, large, refused, many, no_room, done}
use Rattle.ascii_reader.proofs.Stops.{refused_numbers}
use Rattle.ascii_reader.proofs.OwnLines.{Dated, OnItsBus, line_back}

-- The stamp of a line is the one that its start and offset give.
line_stamp : {start : ℕ} {s : DateTime} {r : Record} {l : List ℕ} → AsciiLine s r l → instant s ≡ start * 1000 + r.offset → Stamp start r.offset s
line_stamp a e =
    let x = a.stamp.exists in
    let t = x.time in
    record { time = record { low = omega arith; high = omega arith; hour = t.hour; minute = t.minute; second = t.second; part = t.part }; date = x.date }

-- What was read exports to some text, which has the same values, and is read as the same start and records.
pub record Returned (start channel : ℕ) (rs : List Record) (text : List ℕ) : Type 0 where
  pub out : List ℕ
  pub exports : Exports start channel rs out
  pub respelled : Respelled text out
  pub lines : Lines start rs out

returned : {start channel : ℕ} {rs : List Record} {text : List ℕ} → channel ≤ last_bus → Each (OnItsBus channel) rs → Lines start rs text
    → Returned start channel rs text
returned c none over = record { out = []; exports = export.none; respelled = Text.Respelled.over; lines = over }
returned {start} {channel} c (more q qs) (line {s = s} {r = r} {rs = rs} {text = text} f a e h ls) =
    let x = returned c qs ls in
    let t = line_stamp a e in
    let m = line_ticks a in
    let w = line_formed a h in
    let b : Dated start r = omega arith in
    let k = a.frame.kind in
    let y : line_of channel s r ≡ line_text s r.bus r = ap (λ (n : ℕ). line_text s n r) q in
    record {
      out = line_of channel s r ++ x.out;
      exports = export.line k t x.exports;
      respelled = rw y (Text.Respelled.line f a x.respelled);
      lines = line_back c w k t b q e x.lines;
    }

-- Every record that was read gives a line, and is well formed.

frames : {start : ℕ} {rs : List Record} {text : List ℕ} → Lines start rs text → line_count rs ≡ length rs
unfolding line_count
frames over = refl
frames (line {r = r} f a e h ls) = rw (frame_line r a.frame.kind, frames ls) (omega arith)

none_left : {start : ℕ} {rs : List Record} {text : List ℕ} → Lines start rs text → left_count rs ≡ 0
none_left {rs = rs} ls = omega (arith, counts_sum rs, frames ls)

pub all_formed : {start : ℕ} {rs : List Record} {text : List ℕ} → Lines start rs text → Each WellFormed rs
all_formed over = none
all_formed (line f a e h ls) = more (line_formed a h) (all_formed ls)

-- The start is one that a trace may have.
start_within : {start : ℕ} {rs : List Record} {text : List ℕ} → SpellsAscii start rs text → start ≤ start_limit
start_within s = go s.first s.lines
  where
    go : {start : ℕ} {rs : List Record} {text : List ℕ} → FirstStart start rs → Lines start rs text → start ≤ start_limit
    go (no_lines z) over = omega arith
    go (cut o) (line f a e h ls) = omega (arith, line_ticks a)

-- So what was read is refused by no export, but for room.
pub read_given : {start channel : ℕ} {rs : List Record} {text : List ℕ} → channel ≤ last_bus → Each (OnItsBus channel) rs → SpellsAscii start rs text
    → length rs ≤ last_number → (x : Returned start channel rs text) × Given start channel (packed rs) rs x.out
read_given {rs = rs} c q s h =
    let x = returned c q s.lines in
    let n = packed_length rs in (
      x,
      record {
        whole = record { twenties = omega arith; few = omega arith };
        limit = start_within s;
        is_channel = c;
        packs = record { formed = all_formed s.lines; bytes = refl };
        exports = x.exports;
      },
    )

-- What an export of it gives, whatever exports: the same values line by line, which spell the same start and records, as many lines as records and
-- none left out; or no room for them.
pub data ExportsBack (text old : List ℕ) (start n : ℕ) (a new : List ℕ) : Type 0 where
  written : {rs : List Record} {out : List ℕ} → SpellsAscii start rs text → Respelled text out → SpellsAscii start rs out → a ≡ export_done (length out) n 0
      → new ≡ out ++ drop (length out) old → ExportsBack text old start n a new
  no_space : {out : List ℕ} → Respelled text out → length old < length out → a ≡ export_refused 25 0 → new ≡ old
      → ExportsBack text old start n a new

exports_back : {start channel n : ℕ} {rs : List Record} {text old a new : List ℕ} → channel ≤ last_bus → Each (OnItsBus channel) rs
    → SpellsAscii start rs text → length rs ≤ last_number → n ≡ length rs → ExportPromise start channel (packed rs) old a new
    → ExportsBack text old start n a new
exports_back {start} {channel} {n} {rs} {text} {old} {a} {new} c k s h e p =
    let x = read_given c k s h in
    go x (below_or_not (length old) (length x.0.out))
  where
    go : (x : (y : Returned start channel rs text) × Given start channel (packed rs) rs y.out) → (length old < length x.0.out) ⊎ (length x.0.out ≤ length old)
        → ExportsBack text old start n a new
    go x (inl l) = let q = one_export p (export.no_room x.1 l refl refl) in no_space x.0.respelled l q.0 q.1
    go x (inr l) =
        let q = one_export p (export.done x.1 l refl refl) in
        let c = frames s.lines in
        let z = none_left s.lines in
        written s x.0.respelled (record { first = s.first; lines = x.0.lines }) (q.0 ∙ cc) q.1

-- A refusal is told from an answer by its number.
other : {n b c d : ℕ} {t : List ℕ} → 0 ∷ b ∷ c ∷ d ∷ [] ≡ n ∷ t → 0 < n → ⊥
other {n} e h = let z : 0 ≡ n = cc in omega arith

told : {a b m n : ℕ} → 0 ∷ 0 ∷ a ∷ n ∷ [] ≡ 0 ∷ 0 ∷ b ∷ m ∷ [] → (a ≡ b) × (n ≡ m)
told e = (cc, cc)

-- What `read_ascii` handed out: a well-formed list, so that every mark is true, of what the text spells.
pub record AsciiHeld (start n : ℕ) (text after : List ℕ) : Type 0 where
  pub records : List Record
  pub spelled : SpellsAscii start records text
  pub few : length records ≤ last_number
  pub counted : n ≡ length records
  pub packs : PacksAll records (take (20 * n) after)

pub ascii_held : {start n : ℕ} {text before after : List ℕ} → ReadAsciiPromise text before (0 ∷ 0 ∷ start ∷ n ∷ []) after → AsciiHeld start n text after
ascii_held (large l e q) = absurd (other e (omega arith))
ascii_held (refused l f e q) = absurd (other e (omega (arith, (refused_numbers f).0)))
ascii_held (many l s m e q) = absurd (other e (omega arith))
ascii_held (no_room l s m r e q) = absurd (other e (omega arith))
ascii_held {n = n} {before = before} {after = after} (done {rs = rs} l s m r e q) =
    let i = told e in
    let z : take (20 * n) after ≡ packed rs = rw (q, i.1) (take_at (packed rs) (drop (20 * length rs) before) (20 * length rs) (packed_length rs)) in
    record {
      records = rs;
      spelled = rw (← i.0) at s;
      few = m;
      counted = i.1;
      packs = record { formed = all_formed s.lines; bytes = z };
    }

-- This, exported with its start, by any program, with a channel that leaves each record on its bus.
back : {start channel n : ℕ} {text before after old a new : List ℕ} → channel ≤ last_bus
    → ((rs : List Record) → SpellsAscii start rs text → Each (OnItsBus channel) rs) → ReadAsciiPromise text before (0 ∷ 0 ∷ start ∷ n ∷ []) after
    → ExportPromise start channel (take (20 * n) after) old a new → ExportsBack text old start n a new
back c k r p =
    let x = ascii_held r in
    let s = x.spelled in
    exports_back c (k x.records s) s x.few x.counted (rw x.packs.bytes at p)

-- The sentences of Orders 4 and 6, over the promises: with channel 0,
pub export_of_read : {start n : ℕ} {text before after old a new : List ℕ} → ReadAsciiPromise text before (0 ∷ 0 ∷ start ∷ n ∷ []) after
    → ExportPromise start 0 (take (20 * n) after) old a new → ExportsBack text old start n a new
export_of_read = back (omega arith) (λ rs s. each_all (λ r. same_channel r.bus) rs)

-- and with any, where no line has channel 0.
pub export_on_buses : {start channel n : ℕ} {text before after old a new : List ℕ} → channel ≤ last_bus
    → ((rs : List Record) → SpellsAscii start rs text → Each (λ r. 1 ≤ r.bus) rs) → ReadAsciiPromise text before (0 ∷ 0 ∷ start ∷ n ∷ []) after
    → ExportPromise start channel (take (20 * n) after) old a new → ExportsBack text old start n a new
export_on_buses {channel = channel} c k = back c (λ rs s. each_map (λ r l. own_channel channel r.bus (λ e. omega arith)) (k rs s))
