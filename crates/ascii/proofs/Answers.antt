-- One answer: the promise of `export` leaves one answer and one output only.
use Prim.Native.Nat.{ℕ, ◌≤◌}
use mathlib.Core.Path.{◌≡◌, refl, ap, sym, ◌∙◌}
use mathlib.Core.Logic.{◌≢◌}
use mathlib.Core.List.{List, [], ◌∷◌, ◌++◌}
use native.Mathlib.Omega.{arith}
use lib.ListN.{length, take, drop}
use lib.Seq.{take_at}
use Rattle.base.specs.Limits.{last_bus}
use Rattle.clock.specs.Start.{start_limit}
use Rattle.record.specs.declared.Record.{Record}
use Rattle.records.specs.Records.{Whole, PacksAll, FirstMalformed}
use Rattle.records.proofs.Records.{packs_all_one, malformed_one, none_malformed}
use Rattle.std.specs.Prelude.{Result, Ok, Err}
use Rattle.base.specs.declared.refusal.Refused.{Refused}
use Rattle.base.specs.Refusal.{number_of}
use Rattle.record.proofs.Refusals.{some_number, same_refused}
use Rattle.ascii.specs.declared.Exported.{Exported}
use Rattle.ascii.specs.Promise.{export_done, export_refused, export_numbers, Numbered, is_done, is_refused, line_count, left_count, ExportStopped, no_records, late, no_channel, malformed, Given, ExportPromise, refused, no_room, done}
use Rattle.ascii.proofs.Exporting.{exports_one}

-- Refusals 20, 22, 35 and 23 have one number at one place.
pub stopped_one : {start channel a b p q : ℕ} {s : List ℕ} → ExportStopped start channel s a p → ExportStopped start channel s b q → (a ≡ b) × (p ≡ q)
stopped_one (no_records f) (no_records g) = (refl, refl)
stopped_one (no_records f) (late w l) = absurd (f w)
stopped_one (no_records f) (no_channel w l c) = absurd (f w)
stopped_one (no_records f) (malformed w l c g) = absurd (f w)
stopped_one (late v k) (no_records g) = absurd (g v)
stopped_one (late v k) (late w l) = (refl, refl)
stopped_one (late v k) (no_channel w l c) = absurd (omega arith)
stopped_one (late v k) (malformed w l c g) = absurd (omega arith)
stopped_one (no_channel v k b) (no_records g) = absurd (g v)
stopped_one (no_channel v k b) (late w l) = absurd (omega arith)
stopped_one (no_channel v k b) (no_channel w l c) = (refl, refl)
stopped_one (no_channel v k b) (malformed w l c g) = absurd (omega arith)
stopped_one (malformed v k b f) (no_records g) = absurd (g v)
stopped_one (malformed v k b f) (late w l) = absurd (omega arith)
stopped_one (malformed v k b f) (no_channel w l c) = absurd (omega arith)
stopped_one (malformed v k b f) (malformed w l c g) = (refl, malformed_one f g)

pub stopped_number : {start channel n p : ℕ} {s : List ℕ} → ExportStopped start channel s n p → 20 ≤ n
stopped_number (no_records f) = omega arith
stopped_number (late w l) = omega arith
stopped_number (no_channel w l c) = omega arith
stopped_number (malformed w l c f) = omega arith

-- 23 is that of the first malformed record.
stopped_23 : {start channel n p : ℕ} {s : List ℕ} → ExportStopped start channel s n p → n ≡ 23 → FirstMalformed s p
stopped_23 (no_records f) e = absurd (omega arith)
stopped_23 (late w l) e = absurd (omega arith)
stopped_23 (no_channel w l c) e = absurd (omega arith)
stopped_23 (malformed w l c f) e = f

pub answered_23 : {start channel p : ℕ} {s before ns x : List ℕ} → ExportPromise start channel s before (23 ∷ p ∷ ns) x → FirstMalformed s p
answered_23 {p = p} (refused {n = n} {p = q} f e u) =
    let y : n ≡ 23 = cc in
    let z : q ≡ p = cc in
    rw z at (stopped_23 f y)
answered_23 (no_room g l e u) = let z : ◌≡◌ {A = ℕ} 23 25 = cc in absurd (omega arith)
answered_23 (done g l e u) = let z : ◌≡◌ {A = ℕ} 23 0 = cc in absurd (omega arith)

-- What is whole, within the limits and made of records is none of them,
pub never_stopped : {start channel n p : ℕ} {s : List ℕ} {rs : List Record} → Whole s → start ≤ start_limit → channel ≤ last_bus → PacksAll rs s
    → ExportStopped start channel s n p → ⊥
never_stopped w l c r (no_records f) = f w
never_stopped w l c r (late v k) = omega arith
never_stopped w l c r (no_channel v k b) = omega arith
never_stopped w l c r (malformed v k b f) = none_malformed r f

-- so what is given is none,
not_stopped : {start channel n p : ℕ} {s text : List ℕ} {rs : List Record} → Given start channel s rs text → ExportStopped start channel s n p → ⊥
not_stopped g = never_stopped g.whole g.limit g.is_channel g.packs

-- and is the only one.
given_one : {start channel : ℕ} {s t u : List ℕ} {rs qs : List Record} → Given start channel s rs t → Given start channel s qs u → (rs ≡ qs) × (t ≡ u)
given_one g h =
    let e = packs_all_one g.packs h.packs in
    (e, exports_one (rw e at g.exports) h.exports)

-- The promise leaves one answer and one output only.
pub one_export : {start channel : ℕ} {s before a b x y : List ℕ} → ExportPromise start channel s before a x → ExportPromise start channel s before b y
    → (a ≡ b) × (x ≡ y)
one_export (refused f e q) (refused g d r) =
    let z = stopped_one f g in
    (e ∙ cc (z.0, z.1) ∙ sym d, q ∙ sym r)
one_export (refused f e q) (no_room g l d r) = absurd (not_stopped g f)
one_export (refused f e q) (done g l d r) = absurd (not_stopped g f)
one_export (no_room f k e q) (refused g d r) = absurd (not_stopped f g)
one_export (no_room f k e q) (no_room g l d r) = (e ∙ sym d, q ∙ sym r)
one_export (no_room f k e q) (done g l d r) = absurd (omega (arith, ap length (given_one f g).1))
one_export (done f k e q) (refused g d r) = absurd (not_stopped f g)
one_export (done f k e q) (no_room g l d r) = absurd (omega (arith, ap length (given_one f g).1))
one_export {before = before} (done f k e q) (done g l d r) =
    let z = given_one f g in
    (e ∙ cc (z.0, z.1) ∙ sym d, q ∙ ap (λ (t : List ℕ). t ++ drop (length t) before) z.1 ∙ sym r)

-- An answer with a number other than 0 is a refusal: no reason has the number 0.
pub numbered : (a : Result Exported Refused) → Numbered a
numbered (Ok e) = is_done
numbered (Err e) = let f = some_number e.reason in is_refused {e = e} (omega arith)

-- The answer itself is the only one: an export of nothing and a refusal are told apart by `Numbered`.
pub same_exported : {start channel : ℕ} {s before x y : List ℕ} (a b : Result Exported Refused) → Numbered a → Numbered b
    → ExportPromise start channel s before (export_numbers a) x → ExportPromise start channel s before (export_numbers b) y → (a ≡ b) × (x ≡ y)
same_exported (Ok e) (Ok d) f g p q =
    let z = one_export p q in
    let n : e.bytes ≡ d.bytes = cc z.0 in
    let l : e.lines ≡ d.lines = cc z.0 in
    let k : e.left_out ≡ d.left_out = cc z.0 in
    (λ i. Ok record { bytes = n i; lines = l i; left_out = k i }, z.1)
same_exported (Ok e) (Err d) f (is_refused h) p q = let z : 0 ≡ number_of d.reason = cc (one_export p q).0 in absurd (omega arith)
same_exported (Err e) (Ok d) (is_refused h) g p q = let z : number_of e.reason ≡ 0 = cc (one_export p q).0 in absurd (omega arith)
same_exported (Err e) (Err d) f g p q =
    let z = one_export p q in
    let n : number_of e.reason ≡ number_of d.reason = cc z.0 in
    let l : e.place ≡ d.place = cc z.0 in
    (ap (λ (r : Refused). Err r) (same_refused n l), z.1)

-- What can be exported is, where there is room.
pub exports : {start channel : ℕ} {s text before a x : List ℕ} {rs : List Record} → Given start channel s rs text → length text ≤ length before
    → ExportPromise start channel s before a x
    → (a ≡ export_done (length text) (line_count rs) (left_count rs)) × (x ≡ text ++ drop (length text) before)
exports g l p = one_export p (done g l refl refl)

-- With a refusal the output is what it was.
pub untouched : {start channel number p : ℕ} {s before x : List ℕ} → number ≢ 0 → ExportPromise start channel s before (export_refused number p) x
    → x ≡ before
untouched f (refused g e q) = q
untouched f (no_room g l e q) = q
untouched {number = number} f (done g l e q) = let z : number ≡ 0 = cc in absurd (f z)

-- What an answer with number 0 says, whatever the other numbers are: there were records, and their text was put and counted.
pub record Accepted (start channel : ℕ) (s before ns after : List ℕ) : Type 0 where
  pub records : List Record
  pub text : List ℕ
  pub given : Given start channel s records text
  pub room : length text ≤ length before
  pub numbers : ns ≡ 0 ∷ length text ∷ line_count records ∷ left_count records ∷ []
  pub output : after ≡ text ++ drop (length text) before

pub accepted : {start channel : ℕ} {s before ns after : List ℕ} → ExportPromise start channel s before (0 ∷ ns) after
    → Accepted start channel s before ns after
accepted (refused {n = n} g e q) = let z : 0 ≡ n = cc in absurd (omega (arith, stopped_number g))
accepted (no_room g l e q) = let z : ◌≡◌ {A = ℕ} 0 25 = cc in absurd (omega arith)
accepted (done {rs = rs} {text = text} g l e q) = record { records = rs; text = text; given = g; room = l; numbers = cc; output = q }

-- The text is what stands in the bytes that were counted.
pub accepted_text : {start channel p n : ℕ} {s before ns after : List ℕ} (x : Accepted start channel s before (p ∷ n ∷ ns) after) → take n after ≡ x.text
accepted_text {n = n} {before = before} x =
    let t = x.text in
    let i : n ≡ length t = cc x.numbers in
    rw (x.output, i) (take_at t (drop (length t) before) (length t) refl)

-- Each record is counted once: invented counts break the promise.
pub counted : {start channel bytes lines others : ℕ} {s before x : List ℕ} → ExportPromise start channel s before (export_done bytes lines others) x
    → (rs : List Record) × PacksAll rs s × (lines ≡ line_count rs) × (others ≡ left_count rs)
counted p = let x = accepted p in (x.records, x.given.packs, cc x.numbers, cc x.numbers)
