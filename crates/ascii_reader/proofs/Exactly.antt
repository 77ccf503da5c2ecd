-- Accepted exactly if something is spelled so: limits and room aside, a text is refused at a line or spells a start and records.
use Prim.Native.Nat.{ℕ, ◌*◌, ◌≤◌}
use mathlib.Core.Path.{◌≡◌, refl}
use mathlib.Core.Logic.{◌≢◌}
use mathlib.Core.List.{List, ◌++◌}
use native.Mathlib.Omega.{arith}
use lib.ListN.{length, get_or, drop}
use Rattle.fields.specs.Columns.{last_number}
use Rattle.record.specs.declared.Record.{Record}
use Rattle.records.specs.Records.{packed}
use Rattle.trace.specs.Trace.{size_limit}
use Rattle.ascii_reader.specs.Text.{SpellsAscii}
use Rattle.ascii_reader.specs.Promise.{ascii_done, ReadAsciiPromise, large, refused, many, no_room, done}
use Rattle.ascii_reader.proofs.Stops.{not_refused, refused_numbers}
use Rattle.ascii_reader.proofs.Answers.{one_read_ascii}

-- The first number of an answer.
abbrev pub number : List ℕ → ℕ
number a = get_or a 0 0

-- The numbers of a text that spells something: it is handed out, there is no room for it, or its lines are too many.
pub data Accepting : ℕ → Type 0 where
  number_0 : Accepting 0
  number_8 : Accepting 8
  number_34 : Accepting 34

-- The text spells some start and records.
pub record Spelled (text : List ℕ) : Type 0 where
  pub start : ℕ
  pub records : List Record
  pub is : SpellsAscii start records text

-- No other number is.
other : {n : ℕ} → n ≢ 0 → n ≢ 8 → n ≢ 34 → Accepting n → ⊥
other a b c number_0 = a refl
other a b c number_8 = b refl
other a b c number_34 = c refl

module _ {text before a after : List ℕ} where
  -- An answer with such a number is that of a text that spells something,
  pub accepted : ReadAsciiPromise text before a after → Accepting (number a) → Spelled text
  accepted (large h e q) w = absurd (other (λ z. omega arith) (λ z. omega arith) (λ z. omega arith) (rw e at w))
  accepted (refused h f e q) w =
      let l = refused_numbers f in
      absurd (other (λ z. omega arith) (λ z. omega arith) (λ z. omega arith) (rw e at w))
  accepted (many h s l e q) w = record { start = _; records = _; is = s }
  accepted (no_room h s l m e q) w = record { start = _; records = _; is = s }
  accepted (done h s l m e q) w = record { start = _; records = _; is = s }

  -- and such a text, within the size limit, has such a number.
  accepting : length text ≤ size_limit → ReadAsciiPromise text before a after → Spelled text → Accepting (number a)
  accepting k (large h e q) t = absurd (omega arith)
  accepting k (refused h f e q) t = absurd (not_refused t.is f)
  accepting k (many h s l e q) t = rw e number_34
  accepting k (no_room h s l m e q) t = rw e number_8
  accepting k (done h s l m e q) t = rw e number_0

  pub exactly : length text ≤ size_limit → ReadAsciiPromise text before a after
      → (Accepting (number a) → Spelled text) × (Spelled text → Accepting (number a))
  exactly h p = (accepted p, accepting h p)

  -- With at most 999,999 lines, and room, that is handed out which it spells.
  pub accepts : {start : ℕ} {rs : List Record} → length text ≤ size_limit → SpellsAscii start rs text → length rs ≤ last_number
      → 20 * length rs ≤ length before → ReadAsciiPromise text before a after
      → (a ≡ ascii_done start (length rs)) × (after ≡ packed rs ++ drop (20 * length rs) before)
  accepts h s l r p = one_read_ascii p (done h s l r refl refl)
