-- What the second pass keeps: the records of the lines up to `at` are packed, and those of the rest are to come. `last` is the offset of the last one.
use Prim.Native.Nat.{ℕ, ◌+◌, ◌*◌, ◌≤◌, ◌<◌}
use mathlib.Core.Path.{◌≡◌, refl, ap, sym, ◌∙◌}
use mathlib.Core.List.{List, [], ◌∷◌, ◌++◌, append-nil, append_assoc}
use native.Mathlib.Omega.{arith}
use lib.ListN.{length, drop, length-drop, drop_of_length-le}
use lib.Seq.{sets, length-sets}
use Rattle.base.specs.inner.Wrote.{Wrote}
use Rattle.base.specs.Limits.{offset_limit}
use Rattle.base.proofs.Lists.{then, at_start}
use Rattle.clock.specs.declared.DateTime.{DateTime}
use Rattle.clock.specs.Stamp.{ticks}
use Rattle.record.specs.declared.Record.{Record}
use Rattle.record.specs.Bytes.{bytes}
use Rattle.record.specs.Record.{number, WellFormed}
use Rattle.records.specs.Records.{mark_after, last_offset, packed}
use Rattle.records.proofs.Packing.{mark_bit, last_more, marked, marked_length, packed_none, packed_more, packed_length}
use Rattle.ascii_line_reader.specs.declared.LineRead.{LineRead}
use Rattle.ascii_line_reader.specs.AsciiLine.{with_offset, instant, AsciiLine}
use Rattle.ascii_line_reader.specs.inner.Answer.{tick_limit}
use Rattle.ascii_line_reader.proofs.Theorems.{line_one, line_moved, line_formed}
use Rattle.ascii_reader.specs.Text.{EndedLine, Lines, over, line, SpellsAscii}
use Rattle.ascii_reader.specs.Promise.{NextStamp}
use Rattle.ascii_reader.specs.inner.Passes.{LineThere, Fault, early, late, RecordsFit, Filled}
use Rattle.ascii_reader.proofs.Ends.{ended_one, ended_none}
use Rattle.ascii_reader.proofs.Judging.{found_low}
use Rattle.ascii_reader.proofs.One.{record_one, one_result}

pub record Filling (start : ℕ) (text old out : List ℕ) (at o last : ℕ) : Type 0 where
  pub within : at ≤ length text
  pub before : List Record
  pub after : List Record
  pub spelled : SpellsAscii start (before ++ after) text
  pub rest : Lines start after (drop at text)
  pub room : o + 20 * length after ≤ length old
  pub wrote : Wrote old out 0 o (packed before)
  pub latest : last ≡ last_offset before

pub filling : {start : ℕ} {text old : List ℕ} → RecordsFit text start old → Filling start text old old 0 0 0
filling f = record {
  within = omega arith;
  before = [];
  after = f.records;
  spelled = f.spelled;
  rest = f.spelled.lines;
  room = let r = f.room in omega arith;
  wrote = rw packed_none (record { next = refl; stored = refl });
  latest = refl;
}

-- The stamp of the next line, n times 100 microseconds, has an offset from the start.
stamped : {start n : ℕ} {rs : List Record} {r : Record} {d : DateTime} {l after s : List ℕ} → Lines start rs s → EndedLine l after s → AsciiLine d r l
    → n ≡ ticks d.time → (start * 1000 ≤ n * 100) × (n * 100 ≤ start * 1000 + offset_limit)
stamped over t a q = absurd (ended_none t refl)
stamped (line u b k h f) t a q =
    let i = ap instant (line_one (rw (ended_one u t).0 at b) a).0 in
    (omega (arith, i), omega (arith, i))

-- The record of the next line, with its offset from the start, is the first of those to come.
record Head (start offset : ℕ) (rs : List Record) (r : Record) (after : List ℕ) : Type 0 where
  others : List Record
  these : rs ≡ with_offset offset r ∷ others
  rest : Lines start others after

head : {start n offset : ℕ} {rs : List Record} {r : Record} {d : DateTime} {l after s : List ℕ} → Lines start rs s → EndedLine l after s → AsciiLine d r l
    → n ≡ ticks d.time → start * 1000 + offset ≡ n * 100 → Head start offset rs r after
head over t a q e = absurd (ended_none t refl)
head {offset = o} {r = r} (line {r = x} {rs = others} u b k h f) t a q e =
    let z = ended_one u t in
    let y = rw z.0 at b in
    let i = ap instant (line_one y a).0 in
    let w : x ≡ with_offset o r = record_one y (line_moved o a) (omega (arith, i)) in
    record { others = others; these = ap (λ (k : Record). k ∷ others) w; rest = rw z.1 at f }

module _ {start : ℕ} {text old out : List ℕ} {at o last : ℕ} (f : Filling start text old out at o last) where
  pub out_length : length out ≡ length old
  out_length = ap length f.wrote.stored ∙ length-sets old 0 (packed f.before)

  -- A line that was found is the next of those to come.
  module _ {x : LineRead} (g : LineThere text at x) where
    stamp : (start * 1000 ≤ x.ticks * 100) × (x.ticks * 100 ≤ start * 1000 + offset_limit)
    stamp = stamped f.rest g.ended g.is g.ticks

    -- The start and its stamp are within the limit,
    pub stamp_low : (10 * start ≤ tick_limit) × (x.ticks ≤ tick_limit)
    stamp_low = let h = found_low g in (omega (arith, stamp.0), h)

    -- its stamp can stand there,
    pub no_fault : {n : ℕ} → Fault start x.ticks n → ⊥
    no_fault (early h) = omega (arith, stamp.0)
    no_fault (late h) = omega (arith, stamp.1)

    -- and has this offset.
    module _ {offset : ℕ} (q : (start * 1000 + offset ≡ x.ticks * 100) × (offset ≤ offset_limit)) where
      abbrev this : Record
      this = with_offset offset x.r

      next : Head start offset f.after x.r (drop x.end text)
      next = head f.rest g.ended g.is g.ticks q.0

      pub line_room : {mark : ℕ} → mark ≡ mark_after last this.offset → (o + 20 ≤ length out) × WellFormed this × (mark ≤ 1)
      line_room e =
          let h = next in
          let m = f.room in
          let b = mark_bit last this.offset in
          (omega (arith, out_length, ap length h.these), line_formed (line_moved offset g.is) q.1, rw e b)

      pub stored_line : {mark : ℕ} {new : List ℕ} → mark ≡ mark_after last this.offset → new ≡ sets out o (bytes 20 (number this mark))
          → Filling start text old new x.end (o + 20) this.offset
      stored_line {new = new} v e =
          let h = next in
          let m = f.room in
          let b = last_offset f.before in
          let w : Wrote out new o (o + 20) (marked b this) = record { next = omega (arith, marked_length b this); stored = rw (v, f.latest) at e } in
          record {
            within = g.within;
            before = f.before ++ (this ∷ []);
            after = h.others;
            spelled = rw append_assoc (rw h.these at f.spelled);
            rest = h.rest;
            room = omega (arith, ap length h.these);
            wrote = rw (packed_more f.before this) (then f.wrote w);
            latest = sym (last_more f.before this);
          }

  -- Some line is found, as long as something is left.
  pub some_line : at < length text → ((s : DateTime) → NextStamp s (drop at text) → ⊥) → ⊥
  some_line h n = go f.rest refl
    where
      go : {rs : List Record} {t : List ℕ} → Lines start rs t → t ≡ drop at text → ⊥
      go over e = omega (arith, ap length e, length-drop at text)
      go (line {s = s} {r = r} l a i k g) e = n s (record { line = _; after = _; there = rw e at l; r = r; is = a })

  none_left : {rs : List Record} {t : List ℕ} → Lines start rs t → t ≡ [] → rs ≡ []
  none_left over e = refl
  none_left (line l a i k g) e = absurd (ended_none l e)

  pub filled : length text ≤ at → Filled text old out
  filled h = record { bytes = bytes_of }
    where
      all : f.before ++ f.after ≡ f.before
      all = ap (λ (y : List Record). f.before ++ y) (none_left f.rest (drop_of_length-le text h)) ∙ append-nil f.before

      bytes_of : (a : ℕ) (rs : List Record) → SpellsAscii a rs text → out ≡ packed rs ++ drop (20 * length rs) old
      bytes_of a rs s =
          let e : rs ≡ f.before = (one_result s f.spelled).1 ∙ all in
          let m = f.room in
          let l = packed_length f.before in
          let n = f.wrote.next in
          rw (e, ← l) (at_start f.wrote (omega arith))
