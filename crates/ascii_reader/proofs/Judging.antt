-- What the first pass keeps, line by line.
use Prim.Native.Nat.{ℕ, ◌+◌, ◌*◌, ◌/◌, ◌≤◌, ◌<◌}
use mathlib.Core.Path.{◌≡◌, refl, ap, sym, ◌∙◌}
use mathlib.Core.Logic.{◌≢◌}
use mathlib.Core.List.{List, [], ◌∷◌, ◌++◌, append-nil}
use native.Mathlib.Omega.{arith}
use lib.ListN.{length, drop, length-append, length-drop, drop_of_length-le}
use Rattle.base.specs.Limits.{offset_limit}
use Rattle.clock.specs.declared.DateTime.{DateTime}
use Rattle.std.specs.Prelude.{Ok}
use Rattle.record.specs.declared.Record.{Record}
use Rattle.ascii_line_reader.specs.declared.LineRead.{LineRead}
use Rattle.ascii_line_reader.specs.AsciiLine.{with_offset, instant}
use Rattle.ascii_line_reader.proofs.Theorems.{line_moved, line_ticks}
use Rattle.ascii_line_reader.specs.inner.Answer.{tick_limit}
use Rattle.ascii_reader.specs.Text.{Lines, over, line, FirstStart, no_lines, cut, SpellsAscii}
use Rattle.ascii_reader.specs.Promise.{ReadUpTo, NextStamp, AsciiRefusedAt}
use Rattle.ascii_reader.specs.Promise
use Rattle.ascii_reader.specs.inner.Passes.{LineThere, Fault, early, late, OffsetOf}
use Rattle.ascii_reader.proofs.UpTo.{read_more}

-- The lines up to `at` are judged: they spell this start and as many records.
pub record Judging (text : List ℕ) (at lines start : ℕ) : Type 0 where
  pub within : at ≤ length text
  pub few : lines ≤ at
  pub low : 10 * start ≤ tick_limit
  pub records : List Record
  pub read : ReadUpTo start records (drop at text) text
  pub counted : lines ≡ length records

pub judging : (text : List ℕ) → Judging text 0 0 0
judging text = record {
  within = omega arith;
  few = omega arith;
  low = omega arith;
  records = [];
  read = record { front = []; whole = refl; spelled = record { first = no_lines refl; lines = over } };
  counted = refl;
}

-- The start from the next line on: of the first line it is the stamp, in steps of 100 microseconds, cut; later it stays.
pub data StartFrom (lines start stamp next : ℕ) : Type 0 where
  first : lines ≡ 0 → next ≡ stamp / 10 → StartFrom lines start stamp next
  later : lines ≢ 0 → next ≡ start → StartFrom lines start stamp next

-- So it stays below the limit of stamps.
pub start_low : {lines start stamp next : ℕ} → StartFrom lines start stamp next → 10 * start ≤ tick_limit → stamp ≤ tick_limit → 10 * next ≤ tick_limit
start_low (first z q) h k = omega arith
start_low (later z q) h k = omega arith

-- The lines so far are those behind it.
restart : {start next stamp : ℕ} {rs : List Record} {front : List ℕ} → StartFrom (length rs) start stamp next → Lines start rs front → Lines next rs front
restart (first z q) over = over
restart (first z q) (line l a e h f) = absurd (omega arith)
restart (later z q) f = rw q f

first_more : {start next stamp : ℕ} (r : Record) (rs : List Record) → StartFrom (length rs) start stamp next → FirstStart start rs
    → stamp * 100 ≡ next * 1000 + r.offset → FirstStart next (rs ++ (r ∷ []))
first_more r [] (first z q) f e = cut {r = r} (omega arith)
first_more r [] (later z q) f e = absurd (z refl)
first_more r (q ∷ rs) (first z p) f e = absurd (omega arith)
first_more r (q ∷ rs) (later z p) (cut h) e = cut {r = q} h

-- A stamp that was found lies below the limit.
pub found_low : {text : List ℕ} {at : ℕ} {x : LineRead} → LineThere text at x → x.ticks ≤ tick_limit
found_low f = omega (arith, f.ticks, line_ticks f.is)

module _ {text : List ℕ} {at lines start next : ℕ} {x : LineRead} (j : Judging text at lines start) (f : LineThere text at x)
    (k : StartFrom lines start x.ticks next) where
  -- The start and the stamp are within the limit,
  pub both_low : (10 * next ≤ tick_limit) × (x.ticks ≤ tick_limit)
  both_low = (start_low k j.low (found_low f), found_low f)

  -- and a line whose stamp can stand there is counted.
  pub counted_line : {o : ℕ} → OffsetOf next x.ticks (Ok o) → Judging text x.end (lines + 1) next
  counted_line {o} h =
      let r = with_offset o x.r in
      let m = f.later in
      let n = j.few in
      let e : instant f.stamp ≡ next * 1000 + o = omega (arith, f.ticks, h.0) in
      let s = rw j.counted at k in
      record {
        within = f.within;
        few = omega arith;
        low = both_low.0;
        records = j.records ++ (r ∷ []);
        read =
            read_more j.read f.ended (line_moved o f.is) e h.1 (restart s j.read.spelled.lines)
            (first_more r j.records s j.read.spelled.first (omega (arith, h.0)));
        counted = omega (arith, j.counted, length-append j.records (r ∷ []));
      }

  -- One whose stamp can't: the promise's refusal.
  pub refused_stamp : {n : ℕ} → Fault next x.ticks n → AsciiRefusedAt text n (lines + 1)
  refused_stamp {n} g = rw j.counted (go (rw j.counted at k) g)
    where
      this : NextStamp f.stamp (drop at text)
      this = record { line = f.line; after = _; there = f.ended; r = x.r; is = f.is }

      too_early : (rs : List Record) → ReadUpTo start rs (drop at text) text → length rs ≢ 0 → instant f.stamp < start * 1000
          → AsciiRefusedAt text 32 (length rs + 1)
      too_early [] u e h = absurd (e refl)
      too_early (r ∷ rs) u e h = Promise.early u this h

      too_late : (rs : List Record) → ReadUpTo start rs (drop at text) text → length rs ≢ 0 → start * 1000 + offset_limit < instant f.stamp
          → AsciiRefusedAt text 33 (length rs + 1)
      too_late [] u e h = absurd (e refl)
      too_late (r ∷ rs) u e h = Promise.late u this h

      go : {n : ℕ} → StartFrom (length j.records) start x.ticks next → Fault next x.ticks n → AsciiRefusedAt text n (length j.records + 1)
      go (first e q) (early h) = absurd (omega arith)
      go (first e q) (late h) = absurd (omega arith)
      go (later e q) (early h) = too_early j.records j.read e (omega (arith, f.ticks))
      go (later e q) (late h) = too_late j.records j.read e (omega (arith, f.ticks))

-- What is left is no line.
pub refused_line : {text : List ℕ} {at lines start : ℕ} → Judging text at lines start → at < length text → ((s : DateTime) → NextStamp s (drop at text) → ⊥)
    → AsciiRefusedAt text 31 (lines + 1)
refused_line {text} {at} j h f =
    rw j.counted (Promise.no_line j.read (λ e. omega (arith, ap length e, length-drop at text)) f)

-- All lines are judged.
pub finished : {text : List ℕ} {at lines start : ℕ} → Judging text at lines start → length text ≤ at
    → (rs : List Record) × SpellsAscii start rs text × (lines ≡ length rs)
finished {text} {at} {start = start} j h =
    let u = j.read in
    let e : u.front ≡ text = sym (u.whole ∙ ap (λ (s : List ℕ). u.front ++ s) (drop_of_length-le text h) ∙ append-nil u.front) in
    (j.records, rw e at u.spelled, j.counted)
