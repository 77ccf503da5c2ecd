-- What holds of single lines, for those who cite them: one line, one version, one start, one answer; and lines that there are.
use Prim.Native.Nat.{ℕ, ◌+◌, ◌/◌, ◌%◌}
use Rattle.std.specs.Prelude.{Option, Some, None}
use mathlib.Core.Path.{◌≡◌, refl, ap, sym, ◌∙◌}
use mathlib.Core.Logic.{◌≢◌}
use mathlib.Core.List.{List, [], ◌∷◌, ◌++◌, append-nil}
use native.Mathlib.Omega.{arith}
use lib.Dec.{T, leb, leb→le}
use lib.ListN.{length, get_or}
use lib.Seq.{length-slice}
use Rattle.base.specs.inner.Answers.{Answers}
use Rattle.base.proofs.Answers.{one_answer}
use Rattle.digits.specs.Digits.{DecimalDigit, Digits, none as no-digits, more as digits_more}
use Rattle.fields.specs.Runs.{All, empty, Stops, over, halt}
use Rattle.base.proofs.Tables.{every, at}
use Rattle.fields.proofs.Runs.{cut, all_of}
use Rattle.fields.proofs.Scans.{digits_all}
use Rattle.row.specs.Versions.{Version, is11, is12, version_text}
use Rattle.lines.specs.declared.Remark.{Remark}
use Rattle.lines.specs.declared.Remark.TheVariants as remark
use Rattle.lines.specs.Lines.{Inside, FirstLine, Blanks, VersionLine, start_text, StartDigits, StartLine, NoDollar, nothing, other, Comment, DollarLine}
use Rattle.lines.specs.inner.Answer.{EndsAt, Remarks}
use Rattle.lines.specs.inner.Parts.{IsBlank}
use Rattle.lines.proofs.Lines.{cr_outside, lf_outside, point_stops, blanks_stop, digits_one}

-- A text starts with one line.
pub first_one : {l l' r r' t : List ℕ} → FirstLine l r t → FirstLine l' r' t → (l ≡ l') × (r ≡ r')
first_one {r = r} {r' = r'} p q =
    let x = cut p.inside q.inside (halt (cr_outside refl)) (halt (cr_outside refl)) (sym p.ended ∙ q.ended) in
    let e : 13 ∷ 10 ∷ r ≡ 13 ∷ 10 ∷ r' = x.1 in
    (x.0, cc)

-- LF alone ends no line, nor does CR with another byte behind it.
pub feed_alone : {l r line : List ℕ} (rest : List ℕ) → All Inside line → FirstLine l r (line ++ (10 ∷ rest)) → ⊥
feed_alone {r = r} rest a p =
    let x = cut a p.inside (halt (lf_outside refl)) (halt (cr_outside refl)) p.ended in
    let e : 10 ∷ rest ≡ 13 ∷ 10 ∷ r = x.1 in
    let z : ◌≡◌ {A = ℕ} 10 13 = cc in
    omega arith

pub return_alone : {l r line : List ℕ} {b : ℕ} (rest : List ℕ) → All Inside line → b ≢ 10
    → FirstLine l r (line ++ (13 ∷ b ∷ rest)) → ⊥
return_alone {r = r} {b = b} rest a n p =
    let x = cut a p.inside (halt (cr_outside refl)) (halt (cr_outside refl)) p.ended in
    let e : 13 ∷ b ∷ rest ≡ 13 ∷ 10 ∷ r = x.1 in
    n (cc)

-- What stands behind `;` and blanks, if it starts with no blank, is the only such.
behind_one : {line a b : List ℕ} (s t : List ℕ) → Blanks a → Blanks b → Stops IsBlank s → Stops IsBlank t
    → line ≡ 59 ∷ (a ++ s) → line ≡ 59 ∷ (b ++ t)
    → s ≡ t
behind_one {line} {a} {b} s t p q h k d e =
    let f : 59 ∷ (a ++ s) ≡ 59 ∷ (b ++ t) = sym d ∙ e in
    let g : a ++ s ≡ b ++ t = cc in
    (cut p q h k g).1

-- `$` is no blank.
dollar_stops : {s t : List ℕ} → s ≡ 36 ∷ t → Stops IsBlank s
dollar_stops e = rw e (halt {b = 36} (λ h. omega arith))

-- A line is a version line of one version.
pub version_one : {v u : ℕ} {line : List ℕ} → VersionLine v line → VersionLine u line → v ≡ u
version_one {v} {u} p q =
    let b = behind_one _ _ p.blanks q.blanks (dollar_stops refl) (dollar_stops refl) p.bytes q.bytes in
    let d : version_text v ++ p.after ≡ version_text u ++ q.after = b in
    let x : 48 + v / 10 ≡ 48 + u / 10 = cc in
    let y : 48 + v % 10 ≡ 48 + u % 10 = cc in
    omega arith

-- A line gives one start.
pub start_one : {s u : ℕ} {line : List ℕ} → StartLine s line → StartLine u line → s ≡ u
start_one {s} {u} p q =
    let b = behind_one _ _ p.blanks q.blanks (dollar_stops refl) (dollar_stops refl) p.bytes q.bytes in
    let d : p.day ++ (46 ∷ (p.fraction ++ p.after)) ≡ q.day ++ (46 ∷ (q.fraction ++ q.after)) = cc in
    let x = cut (digits_all p.gives.count.digits) (digits_all q.gives.count.digits) point_stops point_stops d in
    let f : p.fraction ++ p.after ≡ q.fraction ++ q.after = cc x.1 in
    let j = blanks_stop p.blank_end in
    let k = blanks_stop q.blank_end in
    let y = cut (digits_all p.gives.digits.digits) (digits_all q.gives.digits.digits) j k f in
    let w : StartDigits q.day q.fraction s = rw (x.0, y.0) at p.gives in
    digits_one q.gives.count q.gives.digits q.gives.is w

-- A comment with `$` first is no plain comment.
pub not_both : {line : List ℕ} → Comment line → DollarLine line → ⊥
not_both c d =
    go c.free (behind_one _ _ c.blanks d.blanks (no_blank c.free) (dollar_stops refl) c.bytes d.bytes)
  where
    no_blank : {s : List ℕ} → NoDollar s → Stops IsBlank s
    no_blank nothing = over
    no_blank (other m n) = halt m

    go : {s t : List ℕ} → NoDollar s → s ≡ 36 ∷ t → ⊥
    go nothing e = let z : ◌≡◌ {A = ℕ} 0 1 = cc in omega arith
    go (other m n) e = n (cc)

-- Each promise leaves one answer only.

pub one_end : (text : List ℕ) (at : ℕ) (a b : Option ℕ) → EndsAt text at a → EndsAt text at b → a ≡ b
one_end text at (Some d) (Some e) p q =
    let x = (first_one p.2 q.2).0 in
    let a = length-slice at d text (omega (arith, p.1)) in
    let b = length-slice at e text (omega (arith, q.1)) in
    let m : d ≡ e = omega (arith, ap length x, p.0, q.0) in
    ap Some m
one_end text at (Some d) None p q = absurd (q _ _ p.2)
one_end text at None (Some e) p q = absurd (p _ _ q.2)
one_end text at None None p q = refl

pub one_version : (line : List ℕ) (a b : Option ℕ) → Answers (λ v. VersionLine v line) a → Answers (λ v. VersionLine v line) b → a ≡ b
one_version line = one_answer (λ v u p q. version_one p q)

pub one_start_time : (line : List ℕ) (a b : Option ℕ) → Answers (λ s. StartLine s line) a → Answers (λ s. StartLine s line) b → a ≡ b
one_start_time line = one_answer (λ s u p q. start_one p q)

pub one_remark : (line : List ℕ) (a b : Remark) → Remarks line a → Remarks line b → a ≡ b
one_remark line remark.Plain remark.Plain p q = refl
one_remark line remark.Plain remark.Dollar p q = absurd (not_both p q)
one_remark line remark.Plain remark.Neither p q = absurd (q.0 p)
one_remark line remark.Dollar remark.Plain p q = absurd (not_both q p)
one_remark line remark.Dollar remark.Dollar p q = refl
one_remark line remark.Dollar remark.Neither p q = absurd (q.1 p)
one_remark line remark.Neither remark.Plain p q = absurd (p.0 q)
one_remark line remark.Neither remark.Dollar p q = absurd (p.1 q)
one_remark line remark.Neither remark.Neither p q = refl

-- Lines that are there: a version behind `;`, and `;$STARTTIME=0.0`. Each can be ended: it has no CR and no LF.

-- Each byte of a spelled-out text stands behind CR and LF, which antt computes.
text_inside : (f : List ℕ) → T (every (λ k x. leb 14 x) 0 f) → All Inside f
text_inside f t = all_of f (λ k h.
    let b = leb→le 14 (get_or f k 0) (at (λ k x. leb 14 x) 0 f t k h) in
    record { cr = λ e. omega arith; lf = λ e. omega arith })

pub version_line_text_lem : {v : ℕ} → Version v → VersionLine v (59 ∷ version_text v)
version_line_text_lem {v} is =
    let e = ap (λ (l : List ℕ). 59 ∷ l) (sym (append-nil (version_text v))) in
    record { is = is; before = []; after = []; bytes = e; blanks = empty; blank_end = empty }

pub version_line_inside : {v : ℕ} → Version v → All Inside (59 ∷ version_text v)
version_line_inside is11 = text_inside _ tt
version_line_inside is12 = text_inside _ tt

-- A start line without blanks.
pub start_line_of : {day fraction : List ℕ} {start : ℕ} → StartDigits day fraction start → StartLine start (59 ∷ (start_text ++ (day ++ (46 ∷ fraction))))
start_line_of {day} {fraction} g = record {
  before = [];
  day = day;
  fraction = fraction;
  after = [];
  bytes = ap (λ (f : List ℕ). 59 ∷ (start_text ++ (day ++ (46 ∷ f)))) (sym (append-nil fraction));
  blanks = empty;
  gives = g;
  blank_end = empty;
}

abbrev pub start_line : List ℕ
start_line = 59 ∷ (start_text ++ (48 ∷ 46 ∷ 48 ∷ []))

zero_digit : Digits DecimalDigit 10 (48 ∷ []) 0
zero_digit = digits_more {d = 0} (record { value = omega arith; byte = refl }) no-digits refl

pub start_line_text : StartLine 0 start_line
start_line_text = start_line_of (record {
  days = 0;
  count = record { digits = zero_digit; some = omega arith; lead = λ h. absurd (omega arith) };
  few = omega arith;
  parts = 0;
  digits = record { digits = zero_digit; width = refl };
  some = omega arith;
  short = omega arith;
  is = record { low = omega arith; high = omega arith };
  limit = omega arith;
})

pub start_line_inside : All Inside start_line
start_line_inside = text_inside start_line tt
