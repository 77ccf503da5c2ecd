-- Laws on the lines themselves: what the tests of a reader show, and what each refusal rules out.
use Prim.Native.Nat.{ℕ, ◌+◌, ◌/◌, ◌%◌, ◌^◌, ◌≤◌, ◌<◌}
use Rattle.std.specs.Prelude.{Option}
use mathlib.Core.Path.{◌≡◌, refl, ap, sym, ◌∙◌}
use mathlib.Core.Logic.{◌≢◌}
use mathlib.Core.List.{List, [], ◌∷◌, ◌++◌}
use native.Mathlib.Nat.{pow-le-pow_right}
use native.Mathlib.Omega.{arith}
use lib.ListN.{length, get_or, drop, drop_of_length-le}
use lib.Seq.{slice}
use Rattle.base.specs.inner.Answers.{Answers}
use Rattle.base.proofs.Answers.{same_answer}
use Rattle.digits.specs.Digits.{Decimal, Padded}
use Rattle.digits.proofs.Theorems.{one_decimal, one_padded, decimal_below}
use Rattle.clock.specs.Start.{Start}
use Rattle.clock.proofs.Starts.{one_start}
use Rattle.fields.specs.Runs.{empty, more, Stops, over, halt}
use Rattle.fields.proofs.Scans.{digits_all}
use Rattle.fields.proofs.Window.{head_at}
use Rattle.lines.specs.Lines.{Inside, FirstLine, Blanks, VersionLine, start_text, StartDigits, StartLine, NoDollar, nothing, other, Comment}
use Rattle.lines.specs.inner.Parts.{IsBlank, Digit, Ran, Opened, StandsAt, Figures}
use Rattle.lines.proofs.Scans.{run_one, split, at_head, behind, opened_one, below_zero}
use Rattle.row.specs.Versions.{version_text}

-- CR is not inside a line, nor LF.
pub cr_outside : {b : ℕ} → b ≡ 13 → Inside b → ⊥
cr_outside e i = i.cr e

pub lf_outside : {b : ℕ} → b ≡ 10 → Inside b → ⊥
lf_outside e i = i.lf e

-- A line ends where the bytes inside it do.
pub record Closes (text : List ℕ) (e : ℕ) : Type 0 where
  pub room : e + 2 ≤ length text
  pub cr : get_or text e 0 ≡ 13
  pub lf : get_or text (e + 1) 0 ≡ 10

module _ {text : List ℕ} {at e : ℕ} (r : Ran Inside text at e) where
  pub line_closes : {line rest : List ℕ} → FirstLine line rest (drop at text) → Closes text e
  line_closes {line} {rest} f =
      let x = (run_one r (13 ∷ 10 ∷ rest) f.inside (halt (cr_outside refl)) f.ended).1 in
      let y = head_at text e (sym x) in
      let z = head_at text (e + 1) y.2 in
      record { room = omega (arith, z.0); cr = y.1; lf = z.1 }

  pub line_closed : Closes text e → FirstLine (slice at e text) (drop (e + 2) text) (drop at text)
  line_closed c =
      let k = c.room in
      let a = at_head text e (omega arith) c.cr in
      let b = at_head text (e + 1) (omega arith) c.lf in
      let n : e + 1 + 1 ≡ e + 2 = omega arith in
      record { inside = r.all; ended = split r ∙ rw (a, b, n) refl }

module _ {line : List ℕ} {at : ℕ} (o : Opened line at) where
  pub comment_over : at ≡ length line → Comment line
  comment_over e =
      let h : length line ≤ at = omega arith in
      let f : NoDollar (drop at line) = rw (drop_of_length-le line h) nothing in
      record { before = o.before; rest = drop at line; bytes = o.bytes; blanks = o.blanks; free = f }

  no_blank : at < length line → get_or line at 0 ≢ 32
  no_blank h = go o.stops (at_head line at h refl)
    where
      go : {s t : List ℕ} {b : ℕ} → Stops IsBlank s → s ≡ b ∷ t → b ≢ 32
      go over e k = let z : ◌≡◌ {A = ℕ} 0 1 = cc in omega arith
      go {b = b} (halt {b = c} n) e k = let q : c ≡ b = cc in n (q ∙ k)

  pub comment_other : at < length line → get_or line at 0 ≢ 36 → Comment line
  comment_other h n =
      let f : NoDollar (drop at line) = rw (at_head line at h refl) (other (no_blank h) n) in
      record { before = o.before; rest = drop at line; bytes = o.bytes; blanks = o.blanks; free = f }

-- `$FILEVERSION=`
abbrev pub file_text : List ℕ
file_text = 36 ∷ 70 ∷ 73 ∷ 76 ∷ 69 ∷ 86 ∷ 69 ∷ 82 ∷ 83 ∷ 73 ∷ 79 ∷ 78 ∷ 61 ∷ []

-- What stands behind `$FILEVERSION=`, which ends at e.
pub record VersionEnd (v : ℕ) (line : List ℕ) (e : ℕ) : Type 0 where
  pub room : e + 3 ≤ length line
  pub is : Figures (get_or line e 0) (get_or line (e + 1) 0) (get_or line (e + 2) 0) v
  pub blank_end : Blanks (drop (e + 3) line)

module _ {line : List ℕ} {at : ℕ} (o : Opened line at) where
  version_tail : {v : ℕ} (l : VersionLine v line) → drop at line ≡ version_text v ++ l.after
  version_tail {v} l = sym (opened_one (version_text v ++ l.after) o l.blanks (halt {b = 36} (λ h. omega arith)) l.bytes)

  pub version_stands : {v : ℕ} → VersionLine v line → StandsAt file_text line at
  version_stands {v} l = record { rest = (48 + v / 10) ∷ 46 ∷ (48 + v % 10) ∷ l.after; bytes = version_tail l }

  module _ (p : StandsAt file_text line at) where
    pub version_end : {v : ℕ} → VersionLine v line → VersionEnd v line (at + 13)
    version_end {v} l =
        let d : file_text ++ drop (at + 13) line ≡ version_text v ++ l.after = sym (behind p) ∙ version_tail l in
        let t : drop (at + 13) line ≡ (48 + v / 10) ∷ 46 ∷ (48 + v % 10) ∷ l.after = cc in
        let x = head_at line (at + 13) t in
        let y = head_at line (at + 13 + 1) x.2 in
        let z = head_at line (at + 13 + 1 + 1) y.2 in
        let m : at + 13 + 1 + 1 ≡ at + 13 + 2 = omega arith in
        let n : at + 13 + 1 + 1 + 1 ≡ at + 13 + 3 = omega arith in
        let b : Blanks (drop (at + 13 + 1 + 1 + 1) line) = rw z.2 l.blank_end in
        record {
          room = omega (arith, z.0);
          is = record { is = l.is; first = x.1; between = y.1; second = rw m at z.1 };
          blank_end = rw n at b;
        }

    pub version_made : {v : ℕ} → VersionEnd v line (at + 13) → VersionLine v line
    version_made {v} w =
        let r = w.room in
        let x = at_head line (at + 13) (omega arith) w.is.first in
        let y = at_head line (at + 13 + 1) (omega arith) w.is.between in
        let m : at + 13 + 1 + 1 ≡ at + 13 + 2 = omega arith in
        let n : at + 13 + 2 + 1 ≡ at + 13 + 3 = omega arith in
        let z = at_head line (at + 13 + 2) (omega arith) w.is.second in
        let t : drop (at + 13) line ≡ (48 + v / 10) ∷ 46 ∷ (48 + v % 10) ∷ drop (at + 13 + 3) line = rw (x, y, m, z, n) refl in
        record {
          is = w.is.is;
          before = o.before;
          after = drop (at + 13 + 3) line;
          bytes = o.bytes ∙ ap (λ (l : List ℕ). 59 ∷ (o.before ++ l)) (behind p ∙ ap (λ (l : List ℕ). file_text ++ l) t);
          blanks = o.blanks;
          blank_end = w.blank_end;
        }

    -- what the figures give is what the line gives
    pub version_answer : (a : Option ℕ) → at + 13 + 3 ≤ length line → Blanks (drop (at + 13 + 3) line)
        → Answers (Figures (get_or line (at + 13) 0) (get_or line (at + 13 + 1) 0) (get_or line (at + 13 + 2) 0)) a
        → Answers (λ v. VersionLine v line) a
    version_answer a h b =
        same_answer a (λ v f. version_made (record { room = h; is = f; blank_end = b })) (λ v l. (version_end l).is)

-- A point stops digits, and so do blanks.
pub point_stops : {t : List ℕ} → Stops Digit (46 ∷ t)
point_stops = halt {b = 46} (below_zero (omega arith))

pub blanks_stop : {s : List ℕ} → Blanks s → Stops Digit s
blanks_stop empty = over
blanks_stop (more {b = b} e a) = let l : b < 48 = omega arith in halt (below_zero l)

module _ {line : List ℕ} {at : ℕ} (o : Opened line at) where
  -- what stands behind the point of a start line
  abbrev tail : {s : ℕ} → StartLine s line → List ℕ
  tail l = l.fraction ++ l.after

  start_tail : {s : ℕ} (l : StartLine s line) → drop at line ≡ start_text ++ (l.day ++ (46 ∷ tail l))
  start_tail l =
      let s = start_text ++ (l.day ++ (46 ∷ tail l)) in
      sym (opened_one s o l.blanks (halt {b = 36} (λ h. omega arith)) l.bytes)

  pub start_stands : {s : ℕ} → StartLine s line → StandsAt start_text line at
  start_stands l = record { rest = l.day ++ (46 ∷ tail l); bytes = start_tail l }

  module _ (p : StandsAt start_text line at) {point : ℕ} (r : Ran Digit line (at + 11) point) where
    start_day : {s : ℕ} (l : StartLine s line) → (l.day ≡ slice (at + 11) point line) × (drop point line ≡ 46 ∷ tail l)
    start_day l =
        let d : start_text ++ drop (at + 11) line ≡ start_text ++ (l.day ++ (46 ∷ tail l)) = sym (behind p) ∙ start_tail l in
        let t : drop (at + 11) line ≡ l.day ++ (46 ∷ tail l) = cc in
        let x = run_one r (46 ∷ tail l) (digits_all l.gives.count.digits) point_stops t in
        (x.0, sym x.1)

    pub start_point : {s : ℕ} → StartLine s line → (point < length line) × (get_or line point 0 ≡ 46)
    start_point l = let h = head_at line point (start_day l).1 in (h.0, h.1)

    module _ {end : ℕ} (q : Ran Digit line (point + 1) end) where
      start_fraction : {s : ℕ} (l : StartLine s line)
          → (l.fraction ≡ slice (point + 1) end line) × (l.after ≡ drop end line)
      start_fraction l =
          let h = head_at line point (start_day l).1 in
          run_one q l.after (digits_all l.gives.digits.digits) (blanks_stop l.blank_end) h.2

      pub start_blanks : {s : ℕ} → StartLine s line → Blanks (drop end line)
      start_blanks l = rw (start_fraction l).1 at l.blank_end

      start_digits : {s : ℕ} → StartLine s line → StartDigits (slice (at + 11) point line) (slice (point + 1) end line) s
      start_digits l = rw ((start_day l).0, (start_fraction l).0) at l.gives

      start_made : {s : ℕ} → point < length line → get_or line point 0 ≡ 46 → Blanks (drop end line)
          → StartDigits (slice (at + 11) point line) (slice (point + 1) end line) s → StartLine s line
      start_made h e b w =
          let day = slice (at + 11) point line in
          let fraction = slice (point + 1) end line in
          let x : drop (point + 1) line ≡ fraction ++ drop end line = split q in
          let y : drop point line ≡ 46 ∷ (fraction ++ drop end line) = at_head line point h e ∙ ap (λ (l : List ℕ). 46 ∷ l) x in
          let z : drop (at + 11) line ≡ day ++ (46 ∷ (fraction ++ drop end line)) = split r ∙ ap (λ (l : List ℕ). day ++ l) y in
          record {
            before = o.before;
            day = day;
            fraction = fraction;
            after = drop end line;
            bytes = o.bytes ∙ ap (λ (l : List ℕ). 59 ∷ (o.before ++ l)) (behind p ∙ ap (λ (l : List ℕ). start_text ++ l) z);
            blanks = o.blanks;
            gives = w;
            blank_end = b;
          }

      -- what the digits give is what the line gives
      pub start_answer : (a : Option ℕ) → point < length line → get_or line point 0 ≡ 46 → Blanks (drop end line)
          → Answers (StartDigits (slice (at + 11) point line) (slice (point + 1) end line)) a → Answers (λ s. StartLine s line) a
      start_answer a h e b = same_answer a (λ s w. start_made h e b w) (λ s l. start_digits l)

-- A day count of five digits.
pub few_days : {n : ℕ} {s : List ℕ} → Decimal n s → length s ≤ 5 → n ≤ 99999
few_days {n} {s} p h =
    let b = decimal_below p in
    let t : 10 ^ length s ≤ 10 ^ 5 = pow-le-pow_right (omega arith) h in
    omega arith

-- The digits give one start.
pub digits_one : {day fraction : List ℕ} {s days parts start : ℕ} → Decimal days day → Padded (length fraction) parts fraction
    → Start days parts (length fraction) start → StartDigits day fraction s → s ≡ start
digits_one p q r d =
    let x = one_decimal d.count p in
    let y = one_padded d.digits q in
    one_start (rw (x, y) at d.is) r
