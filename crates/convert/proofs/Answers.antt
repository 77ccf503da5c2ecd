-- One answer; what each answer says; and with what the program lends the answer is a page.
use Rattle.std.specs.Prelude.{Option, Some, None}
use Prim.Native.Nat.{ℕ, ◌+◌, ◌*◌, ◌≤◌, ◌<◌}
use mathlib.Core.Path.{◌≡◌, refl, ap, sym, ◌∙◌}
use mathlib.Core.List.{List, [], ◌∷◌, ◌++◌}
use native.Mathlib.Omega.{arith}
use lib.ListN.{length, take, drop, length-append}
use lib.Seq.{take_at}
use Rattle.convert.specs.inner.Page.{PutOnPage}
use Rattle.digits.proofs.House.{few}
use Rattle.trace.specs.Trace.{Trace, Spells}
use Rattle.trace.specs.Promise.{EndedLines, Reached, RefusedAtLine}
use Rattle.trace.specs.Promise as trace
use Rattle.trace.proofs.One.{one_trace}
use Rattle.trace.proofs.Answers.{refused_one, not_refused, refused_numbers}
use Rattle.trace.proofs.There.{read_writable}
use Rattle.trace.proofs.Few.{rows_few}
use Rattle.ascii.specs.Promise.{Exports}
use Rattle.ascii.proofs.Exporting.{exports_one, export_most}
use Rattle.convert.specs.Promise.{input_limit, bench_channel, refusal_text, Prints, TooShort, ConvertPromise, records_room, page_room}
use Rattle.convert.specs.Promise as promise
use Rattle.convert.specs.inner.Page as on-page
use Rattle.convert.proofs.Texts.{refusal_length}

-- Two traces spelled by one input export to one text.
text_one : {t u : Trace} {input x y : List ℕ} → Spells t input → Spells u input → Exports t.start bench_channel t.records x → Exports u.start bench_channel u.records y
    → x ≡ y
text_one s z e f = exports_one (rw (one_trace s z) at e) f

-- An input is printed as one text.
pub one_print : {input x y : List ℕ} → Prints input x → Prints input y → x ≡ y
one_print (promise.large h) (promise.large k) = refl
one_print (promise.large h) (promise.refused k f) = absurd (omega arith)
one_print (promise.large h) (promise.export k s e) = absurd (omega arith)
one_print (promise.refused h f) (promise.large k) = absurd (omega arith)
one_print (promise.refused h f) (promise.refused k g) = let z = refused_one f g in cc (z.0, z.1)
one_print (promise.refused h f) (promise.export k s e) = absurd (not_refused (omega arith) s f)
one_print (promise.export h s e) (promise.large k) = absurd (omega arith)
one_print (promise.export h s e) (promise.refused k g) = absurd (not_refused (omega arith) s g)
one_print (promise.export h s e) (promise.export k z f) = text_one s z e f

-- Two traces of one input have as many records.
pub count_one : {t u : Trace} {input : List ℕ} → Spells t input → Spells u input → length t.records ≡ length u.records
count_one s z = ap (λ (t : Trace). length t.records) (one_trace s z)

-- What is to be printed was put, if it had room; the records of a good trace had room.
pub answered : {input text before after : List ℕ} {records : ℕ} {r : Option ℕ} → Prints input text
    → ((t : Trace) → length input ≤ input_limit → Spells t input → 20 * length t.records ≤ records) → PutOnPage text before r after
    → ConvertPromise input records before r after
answered {input} {text} {before} {records = records} p held (on-page.put l e q) = promise.page p enough e q
  where
    enough : TooShort input records (length before) → ⊥
    enough (promise.no_records {t = t} h s m) = omega (arith, held t h s)
    enough (promise.no_page o m) = omega (arith, ap length (one_print p o))
answered p held (on-page.no_room l e q) = promise.short (promise.no_page p l) e q

-- The promise leaves one answer and one page only.
pub one_convert : {input before x y : List ℕ} {records : ℕ} {a b : Option ℕ} → ConvertPromise input records before a x
    → ConvertPromise input records before b y → (a ≡ b) × (x ≡ y)
one_convert {before = before} (promise.page p f e q) (promise.page o g d r) =
    let t = one_print p o in
    (e ∙ ap (λ (s : List ℕ). Some (length s)) t ∙ sym d, q ∙ ap (λ (s : List ℕ). s ++ drop (length s) before) t ∙ sym r)
one_convert (promise.page p f e q) (promise.short s d r) = absurd (f s)
one_convert (promise.short s e q) (promise.page o g d r) = absurd (g s)
one_convert (promise.short s e q) (promise.short z d r) = (e ∙ sym d, q ∙ sym r)

-- A page: what is to be printed stands in its first bytes.
pub paged : {input before after : List ℕ} {records n : ℕ} → ConvertPromise input records before (Some n) after
    → (n ≤ length after) × Prints input (take n after)
paged {before = before} {after = after} {n = n} (promise.page {text = text} p f e q) =
    let k : n ≡ length text = cc in
    (omega (arith, ap length q, length-append text (drop (length text) before)), rw (ap (take n) q ∙ take_at text (drop (length text) before) n (sym k)) p)
paged (promise.short s e q) = let z : ◌≡◌ {A = ℕ} 0 1 = cc in absurd (omega arith)

-- Short: what is lent is too short, and the page is untouched.
pub untouched : {input before after : List ℕ} {records : ℕ} → ConvertPromise input records before None after
    → TooShort input records (length before) × (after ≡ before)
untouched (promise.page p f e q) = let z : ◌≡◌ {A = ℕ} 0 1 = cc in absurd (omega arith)
untouched (promise.short s e q) = (s, q)

-- A trace without lines whose records have room is no case of too little room, whatever the page: its answer is 0 bytes.
pub empty_export : {input before after : List ℕ} {records : ℕ} {t : Trace} {r : Option ℕ} → length input ≤ input_limit → Spells t input
    → 20 * length t.records ≤ records → Exports t.start bench_channel t.records [] → ConvertPromise input records before r after
    → (r ≡ Some 0) × (after ≡ before)
empty_export h s l e p =
    one_convert p (answered (promise.export h s e) (λ u k z. omega (arith, count_one s z)) (on-page.put (omega arith) refl refl))

-- And 0 bytes are the answer only where nothing is to be printed.
pub empty_page : {input before after : List ℕ} {records : ℕ} → ConvertPromise input records before (Some 0) after → Prints input []
empty_page p = (paged p).1

-- The place of a refusal is at most one more than the lines.
lines_few : {n : ℕ} {s : List ℕ} → EndedLines n s → 2 * n ≤ length s
lines_few trace.none = omega arith
lines_few (trace.line {l = l} {rest = rest} f ls) =
    omega (arith, ap length f.ended, length-append l (13 ∷ 10 ∷ rest), lines_few ls)

reached_few : {n : ℕ} {rest text : List ℕ} → Reached n rest text → 2 * n ≤ length text
reached_few {rest = rest} r = omega (arith, lines_few r.lines, ap length r.whole, length-append r.front rest)

place_few : {text : List ℕ} {number place : ℕ} → RefusedAtLine text number place → place ≤ length text + 1
place_few (trace.unended r x f) = omega (arith, reached_few r)
place_few (trace.long r f l) = omega (arith, reached_few r)
place_few (trace.no_first r) = omega arith
place_few (trace.no_version b) = omega arith
place_few (trace.no_second r) = omega (arith, reached_few r)
place_few (trace.no_start b) = omega (arith, reached_few b.reached)
place_few (trace.dollar b m d) = omega (arith, reached_few b.reached)
place_few (trace.no_row b m d) = omega (arith, reached_few b.reached)

-- So the line of a refusal has room.
refusal_few : {number place : ℕ} → number < 10 → place ≤ input_limit + 1 → length (refusal_text number place) ≤ page_room
refusal_few {number} {place} h k = omega (arith, refusal_length number place, few 0 number h, few 4 place (omega arith))

-- What the program lends is never too short: a row has at least 18 bytes, a line at most 86.
pub enough : {input : List ℕ} {records page : ℕ} → records_room ≤ records → page_room ≤ page → TooShort input records page → ⊥
enough h k (promise.no_records l s m) = omega (arith, rows_few s)
enough h k (promise.no_page (promise.large l) m) = omega (arith, refusal_few {number = 1} {place = 0} (omega arith) (omega arith))
enough h k (promise.no_page (promise.refused {number = n} {place = o} l f) m) =
    omega (arith, refusal_few {number = n} {place = o} (omega (arith, (refused_numbers f).1)) (omega (arith, place_few f)))
enough h k (promise.no_page (promise.export l s e) m) = omega (arith, rows_few s, export_most (omega arith) (read_writable s).formed e)

-- So with that the answer is a page, and on it what is to be printed, for every input.
pub prints : {input before after : List ℕ} {records : ℕ} {r : Option ℕ} → records_room ≤ records → page_room ≤ length before
    → ConvertPromise input records before r after → (n : ℕ) × (r ≡ Some n) × (n ≤ length after) × Prints input (take n after)
prints h k (promise.page {text = text} p f e q) = let w = paged (rw e at (promise.page p f e q)) in (length text, e, w.0, w.1)
prints h k (promise.short s e q) = absurd (enough h k s)
