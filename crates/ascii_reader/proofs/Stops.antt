-- What stops a text: the line of a refusal, behind lines that spell something.
use Prim.Native.Nat.{ℕ, ◌+◌, ◌*◌, ◌≤◌, ◌<◌}
use mathlib.Core.Path.{◌≡◌, refl, ap, sym, ◌∙◌}
use mathlib.Core.Logic.{◌≢◌}
use mathlib.Core.List.{List, [], ◌++◌}
use native.Mathlib.Omega.{arith}
use lib.ListN.{length}
use Rattle.base.specs.Limits.{offset_limit}
use Rattle.clock.specs.declared.DateTime.{DateTime}
use Rattle.record.specs.declared.Record.{Record}
use Rattle.ascii_line_reader.specs.AsciiLine.{instant}
use Rattle.ascii_reader.specs.Text.{SpellsAscii}
use Rattle.ascii_reader.specs.Promise.{ReadUpTo, NextStamp, AsciiRefusedAt}
use Rattle.ascii_reader.specs.Promise
use Rattle.ascii_reader.proofs.Ends.{ended_none}
use Rattle.ascii_reader.proofs.UpTo.{NextLine, next_stamp, stamp_one, Meets, same, shorter, longer, meets, same_start, spelled_next}

-- Behind so many lines with this start, what is left can't go on: the cases of `AsciiRefusedAt`, by their numbers.
pub data Stop (start count : ℕ) (rest : List ℕ) : ℕ → Type 0 where
  no_line : rest ≢ [] → ((s : DateTime) → NextStamp s rest → ⊥) → Stop start count rest 31
  early : {s : DateTime} → 0 < count → NextStamp s rest → instant s < start * 1000 → Stop start count rest 32
  late : {s : DateTime} → 0 < count → NextStamp s rest → start * 1000 + offset_limit < instant s → Stop start count rest 33

pub record Stopped (text : List ℕ) (number place : ℕ) : Type 0 where
  pub start : ℕ
  pub records : List Record
  pub rest : List ℕ
  pub read : ReadUpTo start records rest text
  pub stop : Stop start (length records) rest number
  pub at : place ≡ length records + 1

pub stopped : {text : List ℕ} {number place : ℕ} → AsciiRefusedAt text number place → Stopped text number place
stopped (Promise.no_line u x f) = record { start = _; records = _; rest = _; read = u; stop = no_line x f; at = refl }
stopped (Promise.early u x h) = record { start = _; records = _; rest = _; read = u; stop = early (omega arith) x h; at = refl }
stopped (Promise.late u x h) = record { start = _; records = _; rest = _; read = u; stop = late (omega arith) x h; at = refl }

module _ {a c : ℕ} {rest : List ℕ} where
  -- Something is left,
  pub stop_some : {n : ℕ} → Stop a c rest n → rest ≢ []
  stop_some (no_line x f) e = x e
  stop_some (early h x l) e = ended_none x.there e
  stop_some (late h x l) e = ended_none x.there e

  -- and it is no line that can stand there.
  pub stop_next : {b n : ℕ} → Stop a c rest n → NextLine b rest → (0 < c → a ≡ b) → ⊥
  stop_next (no_line x f) l q = f l.s (next_stamp l)
  stop_next (early h x m) l q = omega (arith, q h, ap instant (stamp_one (next_stamp l) x), l.stamp)
  stop_next (late h x m) l q = omega (arith, q h, ap instant (stamp_one (next_stamp l) x), l.stamp, l.within)

  -- It has one number.
  stop_one : {b n m : ℕ} → Stop a c rest n → Stop b c rest m → (0 < c → a ≡ b) → n ≡ m
  stop_one (no_line x f) (no_line y g) q = refl
  stop_one (no_line x f) (early h y l) q = absurd (f _ y)
  stop_one (no_line x f) (late h y l) q = absurd (f _ y)
  stop_one (early h x l) (no_line y g) q = absurd (g _ x)
  stop_one (early h x l) (early i y m) q = refl
  stop_one (early h x l) (late i y m) q = absurd (omega (arith, q h, ap instant (stamp_one x y)))
  stop_one (late h x l) (no_line y g) q = absurd (g _ x)
  stop_one (late h x l) (early i y m) q = absurd (omega (arith, q h, ap instant (stamp_one x y)))
  stop_one (late h x l) (late i y m) q = refl

-- A text is stopped with one number at one place.
stops_one : {text : List ℕ} {a b p q : ℕ} → Stopped text a p → Stopped text b q → (a ≡ b) × (p ≡ q)
stops_one {a = a} {b = b} {p = p} {q = q} x y = go (meets x.rest y.rest x.read.spelled.lines y.read.spelled.lines e)
  where
    e : x.read.front ++ x.rest ≡ y.read.front ++ y.rest
    e = sym x.read.whole ∙ y.read.whole

    begun : 0 < length x.records → 0 < length y.records → x.start ≡ y.start
    begun = same_start x.rest y.rest x.read.spelled y.read.spelled e

    go : Meets x.start y.start (length x.records) (length y.records) x.rest y.rest → (a ≡ b) × (p ≡ q)
    go (same n r) = (stop_one (rw (n, r) at x.stop) y.stop (λ h. begun (omega arith) h), omega (arith, x.at, y.at))
    go (shorter n l) = absurd (stop_next x.stop l (λ h. begun h (omega arith)))
    go (longer n l) = absurd (stop_next y.stop l (λ h. sym (begun (omega arith) h)))

-- A text is refused with one number at one place.
pub refused_one : {text : List ℕ} {a b p q : ℕ} → AsciiRefusedAt text a p → AsciiRefusedAt text b q → (a ≡ b) × (p ≡ q)
refused_one h k = stops_one (stopped h) (stopped k)

-- What spells something is not refused.
pub not_refused : {text : List ℕ} {start n p : ℕ} {rs : List Record} → SpellsAscii start rs text → AsciiRefusedAt text n p → ⊥
not_refused s k =
    let x = stopped k in
    let n = spelled_next x.rest x.read.spelled s x.read.whole (stop_some x.stop) in
    stop_next x.stop n.0 n.1

-- Refusals of a line have the numbers 31 to 33, at a place from 1.
pub refused_numbers : {text : List ℕ} {n p : ℕ} → AsciiRefusedAt text n p → (31 ≤ n) × (n ≤ 33) × (1 ≤ p)
refused_numbers (Promise.no_line u x f) = (omega arith, omega arith, omega arith)
refused_numbers (Promise.early u x h) = (omega arith, omega arith, omega arith)
refused_numbers (Promise.late u x h) = (omega arith, omega arith, omega arith)
