-- Start lines without blanks: the start that a day count and a fraction give, and no other.
use Prim.Native.Nat.{ℕ, ◌^◌, ◌≤◌, ◌<◌}
use mathlib.Core.Path.{◌≡◌, ap, sym, ◌∙◌}
use mathlib.Core.List.{List, ◌∷◌, ◌++◌, append-nil}
use native.Mathlib.Omega.{arith}
use lib.ListN.{length}
use Rattle.digits.specs.House.{figure_of, decimal_text, padded_text}
use Rattle.digits.proofs.House.{length_fixed, few, decimal_spells, padded_spells}
use Rattle.digits.proofs.Theorems.{one_decimal, one_padded}
use Rattle.clock.specs.Start.{start_limit, Start}
use Rattle.fields.specs.Runs.{empty, over, halt}
use Rattle.fields.proofs.Runs.{cut}
use Rattle.fields.proofs.Scans.{digits_all}
use Rattle.lines.specs.Lines.{start_text, StartLine}
use Rattle.lines.proofs.Lines.{point_stops, blanks_stop}
use Rattle.lines.proofs.Theorems.{start_line_of}

-- `;$STARTTIME=`, a day count, a point and a fraction of so many digits.
abbrev pub start_line : ℕ → ℕ → ℕ → List ℕ
start_line days digits parts = 59 ∷ (start_text ++ (decimal_text days ++ (46 ∷ padded_text digits parts)))

pub gives : (days digits parts ms : ℕ) → days ≤ 99999 → 1 ≤ digits → digits ≤ 10 → parts < 10 ^ digits → Start days parts digits ms
    → ms ≤ start_limit → StartLine ms (start_line days digits parts)
gives days digits parts ms d o t p s l =
    let w = length_fixed figure_of 10 digits parts in
    start_line_of (record {
      days = days;
      count = decimal_spells days;
      few = few 4 days (omega arith);
      parts = parts;
      digits = rw w (padded_spells digits parts p);
      some = rw w o;
      short = rw w t;
      is = rw w s;
      limit = l;
    })

-- The day count and the fraction of such a line are no others.
pub parts_of : (days digits parts : ℕ) {ms : ℕ} → parts < 10 ^ digits → (s : StartLine ms (start_line days digits parts))
    → (s.gives.days ≡ days) × (s.gives.parts ≡ parts) × (length s.fraction ≡ digits)
parts_of days digits parts p s =
    let d = decimal_spells days in
    let f = padded_spells digits parts p in
    let e : start_text ++ (decimal_text days ++ (46 ∷ padded_text digits parts))
    ≡ s.before ++ (start_text ++ (s.day ++ (46 ∷ (s.fraction ++ s.after)))) = cc s.bytes in
    let b = (cut empty s.blanks (halt (λ h. omega arith)) (halt (λ h. omega arith)) e).1 in
    let c : decimal_text days ++ (46 ∷ padded_text digits parts) ≡ s.day ++ (46 ∷ (s.fraction ++ s.after)) = cc in
    let x = cut (digits_all d.digits) (digits_all s.gives.count.digits) point_stops point_stops c in
    let g : padded_text digits parts ≡ s.fraction ++ s.after = cc x.1 in
    let y = cut (digits_all f.digits) (digits_all s.gives.digits.digits) over (blanks_stop s.blank_end) (append-nil (padded_text digits parts) ∙ g) in
    let n : s.gives.days ≡ days = one_decimal s.gives.count (rw x.0 at d) in
    let m : s.gives.parts ≡ parts = one_padded s.gives.digits (rw y.0 at f) in
    (n, m, ap length (sym y.0) ∙ length_fixed figure_of 10 digits parts)

pub gives_only : (days digits parts : ℕ) {ms : ℕ} → parts < 10 ^ digits → StartLine ms (start_line days digits parts)
    → Start days parts digits ms
gives_only days digits parts p s = let o = parts_of days digits parts p s in rw (o.0, o.1, o.2) at s.gives.is
