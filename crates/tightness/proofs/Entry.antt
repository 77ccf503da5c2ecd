-- Wrong answers of `read`, `write` and `export`: each is refuted over its promise.
use Prim.Native.Nat.{ℕ, suc, ◌*◌, ◌≤◌, ◌<◌}
use mathlib.Core.Path.{◌≡◌, refl, ap}
use mathlib.Core.Logic.{◌≢◌}
use mathlib.Core.List.{List, [], ◌∷◌, ◌++◌}
use native.Mathlib.Omega.{arith}
use lib.ListN.{length}
use Rattle.base.specs.Limits.{offset_limit}
use Rattle.record.specs.declared.Record.{Record}
use Rattle.record.specs.Record.{WellFormed}
use Rattle.records.specs.Records.{none, more, PacksAll}
use Rattle.records.specs.StepBack.{back_from, step_back}
use Rattle.records.proofs.Records.{packs_all_one}
use Rattle.fields.specs.Runs.{empty}
use Rattle.row.specs.Row.{Expected, Row}
use Rattle.row.specs.Versions.{is11, is12, version_text}
use Rattle.row.proofs.Plain.{row_some}
use Rattle.lines.specs.Lines.{line_limit, FirstLine}
use Rattle.lines.proofs.Theorems.{version_line_text_lem, version_line_inside, start_line, start_line_text, start_line_inside}
use Rattle.trace.specs.Trace.{size_limit, Trace, no_rows, some_rows, Spells, over, trace_of}
use Rattle.trace.specs.Promise.{EndedLines, ReadPromise}
use Rattle.trace.specs.House.{trace_text, Writable}
use Rattle.trace.proofs.Answers.{one_read, not_refused, accepted}
use Rattle.trace.proofs.Beginnings.{spells_shorts, shorts_after, shorts_first}
use Rattle.trace.proofs.Cuts.{ended_line, first_alone, lines_alone, lines_append}
use Rattle.trace.proofs.Fails.{Fails, later, at_later, no_row, fails_refused}
use Rattle.trace.proofs.One.{one_trace}
use Rattle.trace.proofs.There.{there}
use Rattle.trace_writer.specs.Promise.{WritePromise}
use Rattle.trace_writer.proofs.Answers as writing
use Rattle.ascii.specs.Promise.{line_count, left_count, ExportPromise}
use Rattle.ascii.proofs.Answers as exporting
use Rattle.tightness.specs.Tight.{received12}
use Rattle.tightness.proofs.Tried.{received_formed, received_carried}

-- read

-- another first step back than that of the records which the text spells
pub invents_step_back : {text before after : List ℕ} {t : Trace} {p v s n b i : ℕ} → Spells t text → b ≢ step_back t.records
    → ReadPromise text before (0 ∷ p ∷ v ∷ s ∷ n ∷ b ∷ i ∷ []) after → ⊥
invents_step_back h d (ReadPromise.large l e q) = let z : ◌≡◌ {A = ℕ} 0 1 = cc in omega arith
invents_step_back h d (ReadPromise.done l u r e q) = d (cc (e, ap (λ (t : Trace). step_back t.records) (one_trace u h)))
invents_step_back h d (ReadPromise.no_room l u r e q) = let z : ◌≡◌ {A = ℕ} 0 8 = cc in omega arith
invents_step_back h d (ReadPromise.refused l f e q) = not_refused l h f

-- another first number than that of the trace which the text spells, as 1 for a trace from the middle, or the number of a row where there is none
pub invents_first : {text before after : List ℕ} {t : Trace} {p v s n b i : ℕ} → Spells t text → i ≢ t.first
    → ReadPromise text before (0 ∷ p ∷ v ∷ s ∷ n ∷ b ∷ i ∷ []) after → ⊥
invents_first h d (ReadPromise.large l e q) = let z : ◌≡◌ {A = ℕ} 0 1 = cc in omega arith
invents_first h d (ReadPromise.done l u r e q) = d (cc (e, ap (λ (t : Trace). t.first) (one_trace u h)))
invents_first h d (ReadPromise.no_room l u r e q) = let z : ◌≡◌ {A = ℕ} 0 8 = cc in omega arith
invents_first h d (ReadPromise.refused l f e q) = not_refused l h f

-- another place than that of the first wrong line
pub place_off : {text before after : List ℕ} {n m p q v s k b i : ℕ} → length text ≤ size_limit → Fails text n p → q ≢ p
    → ReadPromise text before (m ∷ q ∷ v ∷ s ∷ k ∷ b ∷ i ∷ []) after → ⊥
place_off h f d r = let e = (one_read r (ReadPromise.refused h (fails_refused h f) refl refl)).0 in d (cc)

-- no room, where there is room for twenty bytes a row
pub room_refused : {text before after : List ℕ} {t : Trace} {p v s n b i : ℕ} → Spells t text → 20 * length t.records ≤ length before
    → ReadPromise text before (8 ∷ p ∷ v ∷ s ∷ n ∷ b ∷ i ∷ []) after → ⊥
room_refused h d (ReadPromise.large l e q) = let z : ◌≡◌ {A = ℕ} 8 1 = cc in omega arith
room_refused h d (ReadPromise.done l u r e q) = let z : ◌≡◌ {A = ℕ} 8 0 = cc in omega arith
room_refused h d (ReadPromise.no_room l u r e q) = omega (arith, ap (λ (t : Trace). length t.records) (one_trace u h))
room_refused h d (ReadPromise.refused l f e q) = not_refused l h f

-- a text with a line of more than 250 bytes, accepted
pub long_line_taken : {text before after front rest line behind : List ℕ} {n p v s k b i : ℕ} → EndedLines n front → text ≡ front ++ rest
    → FirstLine line behind rest → line_limit < length line → ReadPromise text before (0 ∷ p ∷ v ∷ s ∷ k ∷ b ∷ i ∷ []) after → ⊥
long_line_taken {rest = rest} ls e f h p = omega (arith, shorts_first f (shorts_after rest ls e (spells_shorts (accepted p).1)))

-- offsets 3, 2 and 1: the first step back is row 2, and not the last, row 3
abbrev pub falling : Trace
falling = trace_of 12 0 1 (received12 3 1 ∷ received12 2 1 ∷ received12 1 1 ∷ [])

formed : (offset : ℕ) → offset ≤ offset_limit → WellFormed (received12 offset 1)
formed offset h = received_formed offset 1 h (omega arith)

falling_writable : Writable falling
falling_writable = record {
  version = is12;
  start = omega arith;
  numbered = some_rows (omega arith) (omega arith) (omega arith);
  formed = more (formed 3 (omega arith)) (more (formed 2 (omega arith)) (more (formed 1 (omega arith)) none));
  carried = more (received_carried 3 1) (more (received_carried 2 1) (more (received_carried 1 1) none));
}

pub last_step_back : {before after : List ℕ} → ReadPromise (trace_text falling) before (0 ∷ 0 ∷ 12 ∷ 0 ∷ 3 ∷ 3 ∷ 1 ∷ []) after → ⊥
unfolding back_from step_back
last_step_back = invents_step_back (there falling_writable) (λ e. omega arith)

-- `;$FILEVERSION=1.1`, `;$STARTTIME=0.0` and an empty line: 7 at line 3, and not at line 4
abbrev header : List ℕ
header = ended_line (59 ∷ version_text 11) ++ ended_line start_line

abbrev pub empty_third : List ℕ
empty_third = header ++ ended_line []

header_spells : Spells (trace_of 11 0 0 []) header
header_spells = record {
  first = _;
  after_first = ended_line start_line;
  one = record { first = record { inside = version_line_inside is11; ended = refl }; short = omega arith };
  version = version_line_text_lem is11;
  second = start_line;
  after_second = [];
  two = record { first = first_alone start_line_inside; short = omega arith };
  start = start_line_text;
  body = over;
  numbered = no_rows refl refl;
}

no_empty_row : (k : ℕ) (r : Record) → Expected 0 k → Row 11 k r [] → ⊥
no_empty_row k r x w = omega (arith, row_some w)

fails_third : Fails empty_third 7 3
fails_third = record {
  n = 2;
  front = header;
  rest = ended_line [];
  stage = later (trace_of 11 0 0 []);
  whole = refl;
  stands = at_later {n = 2} {t = trace_of 11 0 0 []} (omega arith) (lines_append (lines_alone (version_line_inside is11)) (lines_alone start_line_inside)) header_spells;
  stopped = no_row (record { first = first_alone empty; short = omega arith }) (λ c. omega (arith, ap length c.bytes))
      (λ d. omega (arith, ap length d.bytes)) no_empty_row;
  at = refl;
}

pub place_one_more : {before after : List ℕ} → ReadPromise empty_third before (7 ∷ 4 ∷ 0 ∷ 0 ∷ 0 ∷ 0 ∷ 0 ∷ []) after → ⊥
place_one_more = place_off (omega arith) fails_third (λ e. omega arith)

-- write

-- an output that is too short, and touched all the same
pub write_touched : {version start first : ℕ} {s before after : List ℕ} → WritePromise version start first s before (25 ∷ 0 ∷ 0 ∷ []) after
    → after ≢ before → ⊥
write_touched p n = n (writing.untouched (λ e. omega arith) p)

-- export

pub export_touched : {start channel : ℕ} {s before after : List ℕ} → ExportPromise start channel s before (25 ∷ 0 ∷ 0 ∷ 0 ∷ 0 ∷ []) after → after ≢ before → ⊥
export_touched p n = n (exporting.untouched (λ e. omega arith) p)

-- one line more than there are records of kinds 0 and 1
pub one_line_more : {start channel bytes left : ℕ} {s before after : List ℕ} {rs : List Record} → PacksAll rs s
    → ExportPromise start channel s before (0 ∷ 0 ∷ bytes ∷ suc (line_count rs) ∷ left ∷ []) after → ⊥
one_line_more h p =
    let (qs, k, e, d) = exporting.counted p in
    omega (arith, e, ap line_count (packs_all_one k h))

-- lines and records left out, swapped
pub counts_swapped : {start channel bytes : ℕ} {s before after : List ℕ} {rs : List Record} → PacksAll rs s → line_count rs ≢ left_count rs
    → ExportPromise start channel s before (0 ∷ 0 ∷ bytes ∷ left_count rs ∷ line_count rs ∷ []) after → ⊥
counts_swapped h n p =
    let (qs, k, e, d) = exporting.counted p in
    n (omega (arith, e, ap line_count (packs_all_one k h)))
