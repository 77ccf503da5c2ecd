-- What the second pass keeps: the records of the lines up to `at` are packed, and those of the rest are to come. The first row has number `first`.
use Prim.Native.Nat.{ℕ, ◌+◌, ◌*◌, ◌≤◌, ◌<◌}
use mathlib.Core.Path.{◌≡◌, refl, ap, sym, ◌∙◌}
use mathlib.Core.Logic.{◌≢◌, ◌⊎◌, inl, inr, ⊎_elim}
use mathlib.Core.List.{List, [], ◌∷◌, ◌++◌, append-nil, append_assoc}
use native.Mathlib.Omega.{arith}
use lib.ListN.{length, get_or, take, drop, length-append, length-drop, take-append-drop, drop_of_length-le}
use lib.Seq.{sets, sets-eq, drop-cons, take_at, drop-append-add, drop-drop}
use Rattle.records.specs.inner.BackAfter.{BackAfter}
use Rattle.base.proofs.Numbers.{below_or_not}
use Rattle.record.specs.declared.Record.{Record}
use Rattle.record.specs.Bytes.{bytes}
use Rattle.record.specs.Record.{number, WellFormed}
use Rattle.records.specs.Records.{mark_after, last_offset, packed_after, packed}
use Rattle.records.specs.StepBack.{step_back}
use Rattle.records.proofs.Packing.{mark_below, mark_none, mark_bit, last_more, marked, marked_length, packed_more, packed_length}
use Rattle.records.proofs.StepBack.{back_keep, back_found, back_none}
use Rattle.fields.specs.Columns.{last_number}
use Rattle.row.specs.Row.{Row}
use Rattle.row.proofs.Formed.{row_formed}
use Rattle.row.proofs.One.{row_one}
use Rattle.row.proofs.Plain.{row_starts, row_some}
use Rattle.lines.specs.Lines.{FirstLine, Comment}
use Rattle.trace.specs.Trace.{Trace, trace_of, Line, Body, over, comment, row, Spells}
use Rattle.trace.specs.inner.Passes.{There, Bars, RecordsFit, Filled}
use Rattle.trace.proofs.Rows.{Rowed}
use Rattle.trace.specs.inner.Passes
use Rattle.trace.proofs.Cuts.{spells_cut}
use Rattle.lines.proofs.Theorems.{first_one, not_both}
use Rattle.trace.proofs.Apart.{no_line, row_no_comment, row_no_dollar}
use Rattle.trace.proofs.Numbers.{next_number}
use Rattle.trace.proofs.One.{one_trace}

-- The first step back with one record more.
stepped_more : (rs : List Record) {last back mark b n : ℕ} (r : Record) → n ≡ length rs → last ≡ last_offset rs → back ≡ step_back rs
    → mark ≡ mark_after last r.offset → BackAfter back (n + 1) mark b → b ≡ step_back (rs ++ (r ∷ []))
stepped_more rs {last} {back} {mark} {b} r c l s k f = step (below_or_not 0 back)
  where
    step : (0 < back) ⊎ (back ≤ 0) → b ≡ step_back (rs ++ (r ∷ []))
    step (inl h) = f.kept (omega arith) ∙ s ∙ sym (back_keep rs r (rw s at h))
    step (inr h) =
        let z : back ≡ 0 = omega arith in
        let e : step_back rs ≡ 0 = sym s ∙ z in
        ⊎_elim
        (λ m. f.found z (λ y. omega (arith, k, mark_below m)) ∙ ap (λ (x : ℕ). x + 1) c ∙ sym (back_found rs r e (rw l at m)))
        (λ m. f.none z (k ∙ mark_none m) ∙ sym (back_none rs r e (rw l at m)))
        (below_or_not r.offset last)

pub record Filling (first : ℕ) (text old out : List ℕ) (version at o rows last back : ℕ) : Type 0 where
  pub within : at ≤ length text
  pub few : rows ≤ at
  pub start : ℕ
  pub before : List Record
  pub after : List Record
  pub spelled : Spells (trace_of version start first (before ++ after)) text
  pub rest : Body version (first + rows) after (drop at text)
  pub counted : rows ≡ length before
  pub room : o + 20 * length after ≤ length old
  pub place : o ≡ 20 * length before
  pub stored : out ≡ packed before ++ drop o old
  pub latest : last ≡ last_offset before
  pub stepped : back ≡ step_back before

pub filling : {first : ℕ} {text old : List ℕ} {version at : ℕ} → RecordsFit text old at version first → Filling first text old old version at 0 0 0 0
unfolding packed_after step_back
filling {text = text} {at = at} f =
    let h = f.headed in
    let c = spells_cut (drop at text) (omega arith) h.lines (rw (← take-append-drop at text) at f.spelled) in
    let z : c.before ≡ [] = ap (λ (t : Trace). t.records) (one_trace c.first h.spelled) in
    let w : f.records ≡ c.after = c.whole ∙ ap (λ (x : List Record). x ++ c.after) z in
    record {
      within = h.within;
      few = omega arith;
      start = f.start;
      before = [];
      after = c.after;
      spelled = rw w at f.spelled;
      rest = rw z at c.second;
      counted = refl;
      room = let m = rw w at f.room in omega arith;
      place = refl;
      stored = refl;
      latest = refl;
      stepped = refl;
    }

-- The next line of the rows to come.

first_byte : {line after s x y : List ℕ} {b d : ℕ} → FirstLine line after s → line ≡ b ∷ x → s ≡ d ∷ y → d ≡ b
first_byte {line} {after} {s} {x} {y} {b} {d} f e q =
    let z : d ∷ y ≡ b ∷ (x ++ (13 ∷ 10 ∷ after)) = sym q ∙ f.ended ∙ ap (λ (t : List ℕ). t ++ (13 ∷ 10 ∷ after)) e in
    cc

head_row : {v k : ℕ} {rs : List Record} {r : Record} {line rest s : List ℕ} → Body v k rs s → FirstLine line rest s → Row v k r line
    → (qs : List Record) × (rs ≡ r ∷ qs) × Body v (k + 1) qs rest
head_row over f w = absurd (no_line f)
head_row (comment l c b) f w = absurd (row_no_comment w (rw (first_one l.first f).0 at c))
head_row {r = r} (row {rs = qs} l x b) f w =
    let e = first_one l.first f in
    (qs, ap (λ (y : Record). y ∷ qs) (row_one (rw e.0 at x) w), rw e.1 at b)

head_note : {v k : ℕ} {rs : List Record} {line rest s : List ℕ} → Body v k rs s → FirstLine line rest s → Comment line → Body v k rs rest
head_note over f w = absurd (no_line f)
head_note (comment l c b) f w = rw (first_one l.first f).1 at b
head_note (row l x b) f w = absurd (row_no_comment x (rw (← (first_one l.first f).0) at w))

no_bars : {v k n : ℕ} {rs : List Record} {s : List ℕ} → Body v k rs s → 0 < length s → ((r : Record) (line after : List ℕ) → Line line after s → Row v k r line → ⊥) → Bars s n → ⊥
no_bars over h g b = omega arith
no_bars (comment l c d) h g (Passes.unended f) = f _ _ l.first
no_bars (comment l c d) h g (Passes.long f x) = let a = l.short in omega (arith, ap length (first_one l.first f).0)
no_bars (comment l c d) h g (Passes.dollar m x) = not_both (rw (first_one l.first m.first).0 at c) x
no_bars (comment l c d) h g (Passes.other m x y) = x (rw (first_one l.first m.first).0 at c)
no_bars (row l w d) h g (Passes.unended f) = f _ _ l.first
no_bars (row l w d) h g (Passes.long f x) = let a = l.short in omega (arith, ap length (first_one l.first f).0)
no_bars (row l w d) h g (Passes.dollar m x) = row_no_dollar (rw (first_one l.first m.first).0 at w) x
no_bars (row l w d) h g (Passes.other m x y) = g _ _ _ l w

-- A record's bytes go behind those before it.
behind : (p b old out : List ℕ) (o n : ℕ) → length p ≡ o → length b ≡ n → o + n ≤ length old → out ≡ p ++ drop o old → sets out o b ≡ (p ++ b) ++ drop (o + n) old
behind p b old out o n e k h q =
    let l : length out ≡ length old = ap length q ∙ length-append p (drop o old) ∙ (omega (arith, length-drop o old)) in
    let t : take o out ≡ p = ap (take o) q ∙ take_at p (drop o old) o e in
    let d : drop (o + n) out ≡ drop (o + n) old = rw (q, ← e, drop-append-add, drop-drop) in
    sets-eq b out o (omega arith) ∙ rw (t, k, d)

module _ {first : ℕ} {text old out : List ℕ} {version at o rows last back : ℕ} (f : Filling first text old out version at o rows last back) where
  pub out_length : length out ≡ length old
  out_length =
      let p = f.place in
      let m = f.room in
      omega (arith, ap length f.stored ∙ length-append (packed f.before) (drop o old), packed_length f.before, length-drop o old)

  -- The number of the next row fits a word.
  pub number_fits : first + rows ≤ last_number + 1
  number_fits = let n = next_number f.spelled.numbered in omega (arith, f.counted, length-append f.before f.after)

  pub stored_note : {next : ℕ} (line : List ℕ) → There text at next line → Comment line → Filling first text old out version next o rows last back
  stored_note line t c = record {
    within = t.within;
    few = let a = f.few in let b = t.later in omega arith;
    start = f.start;
    before = f.before;
    after = f.after;
    spelled = f.spelled;
    rest = head_note f.rest t.is.first c;
    counted = f.counted;
    room = f.room;
    place = f.place;
    stored = f.stored;
    latest = f.latest;
    stepped = f.stepped;
  }

  pub row_room : {next k mark : ℕ} (r : Record) (line : List ℕ) → k ≡ first + rows → There text at next line → Row version k r line
      → mark ≡ mark_after last r.offset → (o + 20 ≤ length out) × WellFormed r × (mark ≤ 1)
  row_room r line q t w e =
      let x = head_row f.rest t.is.first (rw q at w) in
      let m = f.room in
      (omega (arith, out_length, ap length x.1), row_formed w, rw e (mark_bit last r.offset))

  pub stored_row : {next k mark b : ℕ} (r : Record) (line new : List ℕ) → k ≡ first + rows → There text at next line → Row version k r line
      → mark ≡ mark_after last r.offset → new ≡ sets out o (bytes 20 (number r mark)) → BackAfter back (rows + 1) mark b
      → Filling first text old new version next (o + 20) (rows + 1) r.offset b
  stored_row r line new q t w v e y =
      let x = head_row f.rest t.is.first (rw q at w) in
      let i : first + rows + 1 ≡ first + (rows + 1) = omega arith in
      let m = f.room in
      let n = f.counted in
      let l = length-append f.before (r ∷ []) in
      record {
        within = t.within;
        few = let a = f.few in let b = t.later in omega arith;
        start = f.start;
        before = f.before ++ (r ∷ []);
        after = x.0;
        spelled = rw append_assoc (rw x.1 at f.spelled);
        rest = rw i at x.2;
        counted = omega arith;
        room = omega (arith, ap length x.1);
        place = let p = f.place in omega arith;
        stored =
            let p : length (packed f.before) ≡ o = packed_length f.before ∙ sym f.place in
            let u = last_offset f.before in
            rw (v, f.latest) at e
            ∙ behind (packed f.before) (marked u r) old out o 20 p (marked_length u r) (omega (arith, ap length x.1)) f.stored
            ∙ ap (λ (y : List ℕ). y ++ drop (o + 20) old) (sym (packed_more f.before r));
        latest = sym (last_more f.before r);
        stepped = stepped_more f.before r n f.latest f.stepped v y;
      }

  -- What starts with `;` is no row, and what else is left starts with one.
  pub never_bad : {n : ℕ} → at < length text → get_or text at 0 ≡ 59 → Bars (drop at text) n → ⊥
  never_bad h z b = no_bars f.rest (omega (arith, length-drop at text)) (λ r line after l w. not_row l w) b
    where
      not_row : {r : Record} {line after : List ℕ} → Line line after (drop at text) → Row version (first + rows) r line → ⊥
      not_row {line = []} l w = let n = row_some w in omega arith
      not_row {line = b ∷ line} l w = row_starts w b line refl (sym (first_byte l.first refl (drop-cons text at 0 h)) ∙ z)

  pub row_next : {k : ℕ} → k ≡ first + rows → at < length text → get_or text at 0 ≢ 59 → Rowed text at version k
  row_next {k} q h z = go (rw (← q) at f.rest) refl
    where
      go : {rs : List Record} {s : List ℕ} → Body version k rs s → s ≡ drop at text → Rowed text at version k
      go over e = absurd (omega (arith, ap length e, length-drop at text))
      go (comment l c b) e = absurd (z (first_byte l.first c.bytes (e ∙ drop-cons text at 0 h)))
      go (row l x b) e = record { r = _; line = _; after = _; is = rw e at l; row = x }

  done_body : {k : ℕ} {rs : List Record} {s : List ℕ} → Body version k rs s → s ≡ [] → rs ≡ []
  done_body over e = refl
  done_body (comment l c b) e = absurd (no_line (rw e at l.first))
  done_body (row l w b) e = absurd (no_line (rw e at l.first))

  pub filled : length text ≤ at → Filled text old out back
  filled h = record {
    bytes = λ t s. rw (all t s, ← f.place) f.stored;
    back = λ t s. rw (all t s) f.stepped;
  }
    where
      all : (t : Trace) → Spells t text → t.records ≡ f.before
      all t s =
          let z : f.after ≡ [] = done_body f.rest (drop_of_length-le text h) in
          let q = ap (λ (u : Trace). u.records) (one_trace s f.spelled) in
          q ∙ ap (λ (y : List Record). f.before ++ y) z ∙ append-nil f.before
