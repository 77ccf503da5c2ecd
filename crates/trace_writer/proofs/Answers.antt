-- One answer: the promise of `write` leaves one answer and one output only, and says which traces are written.
use Rattle.std.specs.Prelude.{Result, Ok, Err}
use Prim.Native.Nat.{ℕ, ◌≤◌, ◌<◌}
use mathlib.Core.Path.{◌≡◌, refl, ap, sym, ◌∙◌}
use mathlib.Core.Logic.{◌≢◌}
use mathlib.Core.List.{List, ◌∷◌, ◌++◌}
use native.Mathlib.Omega.{arith}
use lib.ListN.{length, take, drop, length-append}
use lib.Seq.{take_at}
use Rattle.clock.specs.Start.{start_limit}
use Rattle.base.specs.declared.refusal.Refused.{Refused}
use Rattle.base.specs.Refusal.{number_of}
use Rattle.record.specs.declared.Record.{Record}
use Rattle.record.proofs.Refusals.{some_number, same_refused}
use Rattle.records.specs.Records.{packed, Whole, PacksAll, FirstMalformed}
use Rattle.records.proofs.Lists.{each_at, first_one}
use Rattle.records.proofs.Packing.{packed_length, packed_count}
use Rattle.records.proofs.Records.{packs_all_one, malformed_one, none_malformed}
use Rattle.row.specs.Versions.{Version}
use Rattle.trace.specs.House.{trace_text, Writable}
use Rattle.trace.specs.Trace.{Trace, trace_of}
use Rattle.trace.proofs.HouseTexts.{trace_text_lem}
use Rattle.trace.proofs.Numbers.{rows_numbered}
use Rattle.trace_writer.specs.Promise.{write_done, write_refused, write_numbers, FirstMisfit, NumberFits, WriteStopped, WritePromise}

-- The first misfit stands at one place.
misfit_one : {version p q : ℕ} {rs : List Record} → FirstMisfit version rs p → FirstMisfit version rs q → p ≡ q
misfit_one f g =
    let l = first_one f.this g.this f.after g.after f.carried g.carried f.misfit g.misfit (sym f.whole ∙ g.whole) in
    omega (arith, f.at, g.at, l)

-- Refusals 20 to 24, and 26, have one number at one place.
pub stopped_one : {version start first a b p q : ℕ} {s : List ℕ} → WriteStopped version start first s a p → WriteStopped version start first s b q
    → (a ≡ b) × (p ≡ q)
stopped_one (WriteStopped.no_records f) (WriteStopped.no_records g) = (refl, refl)
stopped_one (WriteStopped.no_records f) (WriteStopped.no_version w g) = absurd (f w)
stopped_one (WriteStopped.no_records f) (WriteStopped.late w v l) = absurd (f w)
stopped_one (WriteStopped.no_records f) (WriteStopped.no_number w v l g) = absurd (f w)
stopped_one (WriteStopped.no_records f) (WriteStopped.malformed w v l n g) = absurd (f w)
stopped_one (WriteStopped.no_records f) (WriteStopped.misfit w v l n h g) = absurd (f w)
stopped_one (WriteStopped.no_version x f) (WriteStopped.no_records g) = absurd (g x)
stopped_one (WriteStopped.no_version x f) (WriteStopped.no_version w g) = (refl, refl)
stopped_one (WriteStopped.no_version x f) (WriteStopped.late w v l) = absurd (f v)
stopped_one (WriteStopped.no_version x f) (WriteStopped.no_number w v l g) = absurd (f v)
stopped_one (WriteStopped.no_version x f) (WriteStopped.malformed w v l n g) = absurd (f v)
stopped_one (WriteStopped.no_version x f) (WriteStopped.misfit w v l n h g) = absurd (f v)
stopped_one (WriteStopped.late x u k) (WriteStopped.no_records g) = absurd (g x)
stopped_one (WriteStopped.late x u k) (WriteStopped.no_version w g) = absurd (g u)
stopped_one (WriteStopped.late x u k) (WriteStopped.late w v l) = (refl, refl)
stopped_one (WriteStopped.late x u k) (WriteStopped.no_number w v l g) = absurd (omega arith)
stopped_one (WriteStopped.late x u k) (WriteStopped.malformed w v l n g) = absurd (omega arith)
stopped_one (WriteStopped.late x u k) (WriteStopped.misfit w v l n h g) = absurd (omega arith)
stopped_one (WriteStopped.no_number x u k f) (WriteStopped.no_records g) = absurd (g x)
stopped_one (WriteStopped.no_number x u k f) (WriteStopped.no_version w g) = absurd (g u)
stopped_one (WriteStopped.no_number x u k f) (WriteStopped.late w v l) = absurd (omega arith)
stopped_one (WriteStopped.no_number x u k f) (WriteStopped.no_number w v l g) = (refl, refl)
stopped_one (WriteStopped.no_number x u k f) (WriteStopped.malformed w v l n g) = absurd (f n)
stopped_one (WriteStopped.no_number x u k f) (WriteStopped.misfit w v l n h g) = absurd (f n)
stopped_one (WriteStopped.malformed x u k m f) (WriteStopped.no_records g) = absurd (g x)
stopped_one (WriteStopped.malformed x u k m f) (WriteStopped.no_version w g) = absurd (g u)
stopped_one (WriteStopped.malformed x u k m f) (WriteStopped.late w v l) = absurd (omega arith)
stopped_one (WriteStopped.malformed x u k m f) (WriteStopped.no_number w v l g) = absurd (g m)
stopped_one (WriteStopped.malformed x u k m f) (WriteStopped.malformed w v l n g) = (refl, malformed_one f g)
stopped_one (WriteStopped.malformed x u k m f) (WriteStopped.misfit w v l n h g) = absurd (none_malformed h f)
stopped_one (WriteStopped.misfit x u k m i f) (WriteStopped.no_records g) = absurd (g x)
stopped_one (WriteStopped.misfit x u k m i f) (WriteStopped.no_version w g) = absurd (g u)
stopped_one (WriteStopped.misfit x u k m i f) (WriteStopped.late w v l) = absurd (omega arith)
stopped_one (WriteStopped.misfit x u k m i f) (WriteStopped.no_number w v l g) = absurd (g m)
stopped_one (WriteStopped.misfit x u k m i f) (WriteStopped.malformed w v l n g) = absurd (none_malformed i g)
stopped_one (WriteStopped.misfit x u k m i f) (WriteStopped.misfit w v l n h g) = (refl, misfit_one (rw (packs_all_one i h) at f) g)

-- They are 20 to 26.
pub stopped_numbers : {version start first n p : ℕ} {s : List ℕ} → WriteStopped version start first s n p → (20 ≤ n) × (n ≤ 26)
stopped_numbers (WriteStopped.no_records f) = (omega arith, omega arith)
stopped_numbers (WriteStopped.no_version w f) = (omega arith, omega arith)
stopped_numbers (WriteStopped.late w v l) = (omega arith, omega arith)
stopped_numbers (WriteStopped.no_number w v l f) = (omega arith, omega arith)
stopped_numbers (WriteStopped.malformed w v l n f) = (omega arith, omega arith)
stopped_numbers (WriteStopped.misfit w v l n h f) = (omega arith, omega arith)

module _ {version start first : ℕ} {rs : List Record} {s : List ℕ} (w : Writable (trace_of version start first rs)) (e : s ≡ packed rs) where
  held : PacksAll rs s
  held = record { formed = w.formed; bytes = e }

  whole : Whole s
  whole =
      let l = ap length e ∙ packed_length rs in
      record { twenties = omega arith; few = omega (arith, rows_numbered w.numbered) }

  -- as many rows as records
  fits : NumberFits first s
  fits = rw (packed_count rs e) w.numbered

  -- What can be written is none of them.
  not_stopped : {n p : ℕ} → WriteStopped version start first s n p → ⊥
  not_stopped (WriteStopped.no_records f) = f whole
  not_stopped (WriteStopped.no_version x f) = f w.version
  not_stopped (WriteStopped.late x v l) = omega (arith, w.start)
  not_stopped (WriteStopped.no_number x v l f) = f fits
  not_stopped (WriteStopped.malformed x v l n f) = none_malformed held f
  not_stopped (WriteStopped.misfit x v l n h f) =
      f.misfit (each_at f.before f.this f.after (rw (packs_all_one held h ∙ f.whole) at w.carried))

  -- The records are the only ones.
  same_records : {qs : List Record} → Writable (trace_of version start first qs) → s ≡ packed qs → rs ≡ qs
  same_records x d = packs_all_one held (record { formed = x.formed; bytes = d })

-- The promise leaves one answer and one output only.
pub one_write : {version start first : ℕ} {s before a b x y : List ℕ} → WritePromise version start first s before a x
    → WritePromise version start first s before b y → (a ≡ b) × (x ≡ y)
one_write (WritePromise.refused f e q) (WritePromise.refused g d r) =
    let z = stopped_one f g in
    (e ∙ cc (z.0, z.1) ∙ sym d, q ∙ sym r)
one_write (WritePromise.refused f e q) (WritePromise.no_room w i l d r) = absurd (not_stopped w i f)
one_write (WritePromise.refused f e q) (WritePromise.done w i l d r) = absurd (not_stopped w i f)
one_write (WritePromise.no_room w i l e q) (WritePromise.refused g d r) = absurd (not_stopped w i g)
one_write (WritePromise.no_room w i l e q) (WritePromise.no_room x j k d r) = (e ∙ sym d, q ∙ sym r)
one_write {version} {start} {first} (WritePromise.no_room w i l e q) (WritePromise.done x j k d r) =
    absurd (omega (arith, ap (λ (rs : List Record). length (trace_text (trace_of version start first rs))) (same_records w i x j)))
one_write (WritePromise.done w i l e q) (WritePromise.refused g d r) = absurd (not_stopped w i g)
one_write {version} {start} {first} (WritePromise.done w i l e q) (WritePromise.no_room x j k d r) =
    absurd (omega (arith, ap (λ (rs : List Record). length (trace_text (trace_of version start first rs))) (same_records w i x j)))
one_write {version} {start} {first} {before = before} (WritePromise.done w i l e q) (WritePromise.done x j k d r) =
    let z = ap (λ (rs : List Record). trace_text (trace_of version start first rs)) (same_records w i x j) in (
      e ∙ ap (λ (t : List ℕ). write_done (length t)) z ∙ sym d,
      q ∙ ap (λ (t : List ℕ). t ++ drop (length t) before) z ∙ sym r,
    )

-- No refusal has number 0: where that is given, some bytes are written.
text_some : (t : Trace) → 0 < length (trace_text t)
text_some t = rw (trace_text_lem, length-append) (omega arith)

pub refusal : {version start first n p : ℕ} {s before x : List ℕ} → WritePromise version start first s before (write_refused n p) x → 1 ≤ n
refusal {n = n} (WritePromise.refused {n = m} f e q) = let z : n ≡ m = cc in omega (arith, (stopped_numbers f).0)
refusal {n = n} (WritePromise.no_room w i l e q) = let z : n ≡ 25 = cc in omega arith
refusal {version} {start} {first} (WritePromise.done {rs = rs} w i l e q) =
    let t = trace_of version start first rs in
    let z : 0 ≡ length (trace_text t) = cc in
    absurd (omega (arith, text_some t))

-- So the answer itself is the only one.
pub same_written : {version start first : ℕ} {s before x y : List ℕ} (a b : Result ℕ Refused)
    → WritePromise version start first s before (write_numbers a) x → WritePromise version start first s before (write_numbers b) y
    → (a ≡ b) × (x ≡ y)
same_written (Ok n) (Ok m) p q = let z = one_write p q in (cc z.0, z.1)
same_written (Ok n) (Err d) p q = let z : 0 ≡ number_of d.reason = cc (one_write p q).0 in absurd (some_number d.reason (sym z))
same_written (Err d) (Ok m) p q = let z : number_of d.reason ≡ 0 = cc (one_write p q).0 in absurd (some_number d.reason z)
same_written (Err d) (Err c) p q =
    let z = one_write p q in
    (ap Err (same_refused (cc z.0) (cc z.0)), z.1)

-- What can be written is written, where there is room.
pub writes : {version start first : ℕ} {rs : List Record} {before a x : List ℕ} → Writable (trace_of version start first rs)
    → length (trace_text (trace_of version start first rs)) ≤ length before → WritePromise version start first (packed rs) before a x
    → (a ≡ write_done (length (trace_text (trace_of version start first rs))))
    × (x ≡ trace_text (trace_of version start first rs) ++ drop (length (trace_text (trace_of version start first rs))) before)
writes w l p = one_write p (WritePromise.done w refl l refl refl)

-- And only that is: the records are those of the bytes.
pub written : {version start first m : ℕ} {s before x : List ℕ} → WritePromise version start first s before (write_done m) x
    → (rs : List Record) × Writable (trace_of version start first rs) × (s ≡ packed rs) × (m ≡ length (trace_text (trace_of version start first rs)))
    × (x ≡ trace_text (trace_of version start first rs) ++ drop (length (trace_text (trace_of version start first rs))) before)
written (WritePromise.refused {n = n} f e q) = let z : 0 ≡ n = cc in absurd (omega (arith, (stopped_numbers f).0))
written (WritePromise.no_room w i l e q) = let z : ◌≡◌ {A = ℕ} 0 25 = cc in absurd (omega arith)
written (WritePromise.done {rs = rs} w i l e q) = (rs, w, i, cc, q)

-- With a refusal the output is what it was.
pub untouched : {version start first number p : ℕ} {s before x : List ℕ} → number ≢ 0
    → WritePromise version start first s before (write_refused number p) x → x ≡ before
untouched f (WritePromise.refused g e q) = q
untouched f (WritePromise.no_room w i l e q) = q
untouched {number = number} f (WritePromise.done w i l e q) = let z : number ≡ 0 = cc in absurd (f z)

-- 23 is that of the first malformed record.
stopped_23 : {version start first n p : ℕ} {s : List ℕ} → WriteStopped version start first s n p → n ≡ 23 → FirstMalformed s p
stopped_23 (WriteStopped.no_records f) e = absurd (omega arith)
stopped_23 (WriteStopped.no_version w f) e = absurd (omega arith)
stopped_23 (WriteStopped.late w v l) e = absurd (omega arith)
stopped_23 (WriteStopped.no_number w v l f) e = absurd (omega arith)
stopped_23 (WriteStopped.malformed w v l n f) e = f
stopped_23 (WriteStopped.misfit w v l n h f) e = absurd (omega arith)

pub answered_23 : {version start first p : ℕ} {s before ns x : List ℕ} → WritePromise version start first s before (23 ∷ p ∷ ns) x → FirstMalformed s p
answered_23 {p = p} (WritePromise.refused {n = n} {p = q} f e u) =
    let y : n ≡ 23 = cc in
    let z : q ≡ p = cc in
    rw z at (stopped_23 f y)
answered_23 (WritePromise.no_room w i l e u) = let z : ◌≡◌ {A = ℕ} 23 25 = cc in absurd (omega arith)
answered_23 (WritePromise.done w i l e u) = let z : ◌≡◌ {A = ℕ} 23 0 = cc in absurd (omega arith)

-- It is tested over all records before 24: where some record is not well formed, the first such is the answer.
pub malformed_first : {version start first p : ℕ} {s before a x : List ℕ} → Whole s → Version version → start ≤ start_limit → NumberFits first s
    → FirstMalformed s p
    → WritePromise version start first s before a x → a ≡ write_refused 23 p
malformed_first w v l n f q = (one_write q (WritePromise.refused (WriteStopped.malformed w v l n f) refl refl)).0

-- 26 is tested before them: where the first number does not fit the records, it is the answer, whatever they are.
pub misnumbered : {version start first : ℕ} {s before a x : List ℕ} → Whole s → Version version → start ≤ start_limit → (NumberFits first s → ⊥)
    → WritePromise version start first s before a x → a ≡ write_refused 26 0
misnumbered w v l f q = (one_write q (WritePromise.refused (WriteStopped.no_number w v l f) refl refl)).0

-- A writer that does nothing breaks the promise: the output that it leaves starts with the house spelling only if it did before.
pub not_nothing : {version start first m : ℕ} {s before : List ℕ} → WritePromise version start first s before (write_done m) before
    → (rs : List Record) × (s ≡ packed rs) × (take m before ≡ trace_text (trace_of version start first rs))
not_nothing {version} {start} {first} {m} {before = before} p =
    let w = written p in
    let t = trace_text (trace_of version start first w.0) in
    (w.0, w.2, ap (take m) w.4 ∙ take_at t (drop (length t) before) m (sym w.3))
