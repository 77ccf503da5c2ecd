-- One answer: the promise of `read_ascii` leaves one answer and one output only.
use Prim.Native.Nat.{ℕ, ◌*◌}
use mathlib.Core.Path.{◌≡◌, ap, ap₂, sym, ◌∙◌}
use mathlib.Core.Logic.{◌≢◌}
use mathlib.Core.List.{List, ◌++◌}
use native.Mathlib.Omega.{arith}
use lib.ListN.{length, drop}
use Rattle.std.specs.Prelude.{Result, Ok, Err}
use Rattle.base.specs.declared.refusal.Refused.{Refused}
use Rattle.base.specs.Refusal.{number_of}
use Rattle.record.specs.declared.Record.{Record}
use Rattle.record.proofs.Refusals.{some_number, same_refused}
use Rattle.records.specs.Records.{packed}
use Rattle.ascii_reader.specs.declared.AsciiRead.{AsciiRead}
use Rattle.ascii_reader.specs.Promise.{ascii_done, ascii_refused, read_ascii_numbers, Numbered, is_done, is_refused, ReadAsciiPromise, large, refused, many, no_room, done}
use Rattle.ascii_reader.proofs.One.{one_result}
use Rattle.ascii_reader.proofs.Stops.{refused_one, not_refused}

-- The promise leaves one answer and one output only.
pub one_read_ascii : {text before a b after other : List ℕ} → ReadAsciiPromise text before a after → ReadAsciiPromise text before b other
    → (a ≡ b) × (after ≡ other)
one_read_ascii (large h e q) (large k d r) = (e ∙ sym d, q ∙ sym r)
one_read_ascii (large h e q) (refused k f d r) = absurd (omega arith)
one_read_ascii (large h e q) (many k u m d r) = absurd (omega arith)
one_read_ascii (large h e q) (no_room k u m n d r) = absurd (omega arith)
one_read_ascii (large h e q) (done k u m n d r) = absurd (omega arith)
one_read_ascii (refused h f e q) (large k d r) = absurd (omega arith)
one_read_ascii (refused h f e q) (refused k g d r) =
    let z = refused_one f g in
    (e ∙ ap₂ (λ (n p : ℕ). ascii_refused n p) z.0 z.1 ∙ sym d, q ∙ sym r)
one_read_ascii (refused h f e q) (many k u m d r) = absurd (not_refused u f)
one_read_ascii (refused h f e q) (no_room k u m n d r) = absurd (not_refused u f)
one_read_ascii (refused h f e q) (done k u m n d r) = absurd (not_refused u f)
one_read_ascii (many h s l e q) (large k d r) = absurd (omega arith)
one_read_ascii (many h s l e q) (refused k f d r) = absurd (not_refused s f)
one_read_ascii (many h s l e q) (many k u m d r) = (e ∙ sym d, q ∙ sym r)
one_read_ascii (many h s l e q) (no_room k u m n d r) = absurd (omega (arith, ap length (one_result s u).1))
one_read_ascii (many h s l e q) (done k u m n d r) = absurd (omega (arith, ap length (one_result s u).1))
one_read_ascii (no_room h s l i e q) (large k d r) = absurd (omega arith)
one_read_ascii (no_room h s l i e q) (refused k f d r) = absurd (not_refused s f)
one_read_ascii (no_room h s l i e q) (many k u m d r) = absurd (omega (arith, ap length (one_result s u).1))
one_read_ascii (no_room h s l i e q) (no_room k u m n d r) = (e ∙ sym d, q ∙ sym r)
one_read_ascii (no_room h s l i e q) (done k u m n d r) = absurd (omega (arith, ap length (one_result s u).1))
one_read_ascii (done h s l i e q) (large k d r) = absurd (omega arith)
one_read_ascii (done h s l i e q) (refused k f d r) = absurd (not_refused s f)
one_read_ascii (done h s l i e q) (many k u m d r) = absurd (omega (arith, ap length (one_result s u).1))
one_read_ascii (done h s l i e q) (no_room k u m n d r) = absurd (omega (arith, ap length (one_result s u).1))
one_read_ascii {before = before} (done h s l i e q) (done k u m n d r) =
    let z = one_result s u in (
      e ∙ ap₂ (λ (a : ℕ) (x : List Record). ascii_done a (length x)) z.0 z.1 ∙ sym d,
      q ∙ ap (λ (x : List Record). packed x ++ drop (20 * length x) before) z.1 ∙ sym r,
    )

-- An answer with a number other than 0 is a refusal: no reason has the number 0.
pub numbered : (a : Result AsciiRead Refused) → Numbered a
numbered (Ok e) = is_done
numbered (Err e) = let f = some_number e.reason in is_refused {e = e} (omega arith)

-- The answer itself is the only one: a text without lines and a refusal are told apart by `Numbered`.
pub same_read_ascii : {text before x y : List ℕ} (a b : Result AsciiRead Refused) → Numbered a → Numbered b
    → ReadAsciiPromise text before (read_ascii_numbers a) x → ReadAsciiPromise text before (read_ascii_numbers b) y → (a ≡ b) × (x ≡ y)
same_read_ascii (Ok e) (Ok d) f g p q =
    let z = one_read_ascii p q in
    let s : e.start ≡ d.start = cc z.0 in
    let n : e.records ≡ d.records = cc z.0 in
    (λ i. Ok record { start = s i; records = n i }, z.1)
same_read_ascii (Ok e) (Err d) f (is_refused h) p q = let z : 0 ≡ number_of d.reason = cc (one_read_ascii p q).0 in absurd (omega arith)
same_read_ascii (Err e) (Ok d) (is_refused h) g p q = let z : number_of e.reason ≡ 0 = cc (one_read_ascii p q).0 in absurd (omega arith)
same_read_ascii (Err e) (Err d) f g p q =
    let z = one_read_ascii p q in
    let n : number_of e.reason ≡ number_of d.reason = cc z.0 in
    let l : e.place ≡ d.place = cc z.0 in
    (ap (λ (r : Refused). Err r) (same_refused n l), z.1)

-- With a refusal the output is what it was.
pub untouched : {number p : ℕ} {text before x : List ℕ} → number ≢ 0 → ReadAsciiPromise text before (ascii_refused number p) x
    → x ≡ before
untouched f (large h e q) = q
untouched f (refused h g e q) = q
untouched f (many h s l e q) = q
untouched f (no_room h s l i e q) = q
untouched {number = number} f (done h s l i e q) = let z : number ≡ 0 = cc in absurd (f z)
