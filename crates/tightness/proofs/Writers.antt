-- No writer that keeps its promise is one of the wrong ones, and what it has written is read back by any reader that keeps its own.
use Prim.Native.Nat.{ℕ, suc, ◌+◌, ◌*◌, ◌≤◌}
use mathlib.Core.Path.{◌≡◌, refl, ap, sym, ◌∙◌}
use mathlib.Core.List.{List, [], ◌∷◌, ◌++◌}
use native.Mathlib.Omega.{arith}
use lib.ListN.{length, get_or, take, drop, length-replicate}
use lib.Seq.{take_at}
use Rattle.record.specs.declared.Record.{Record}
use Rattle.records.specs.Records.{packed}
use Rattle.records.proofs.Packing.{packed_length}
use Rattle.trace.specs.Trace.{Trace, trace_of}
use Rattle.trace.specs.House.{trace_text}
use Rattle.trace.specs.Promise.{ReadPromise}
use Rattle.trace.proofs.HouseTexts.{trace_text_lem, version_line}
use Rattle.trace.proofs.There.{one_house}
use Rattle.trace_writer.specs.Promise.{write_done, WritePromise}
use Rattle.trace_writer.proofs.Answers.{stopped_numbers, writes}
use Rattle.trace_writer.proofs.Again.{back}
use Rattle.tightness.specs.Programs.{Lent, FromReader, FromWriter, Reader, seven, KeepsRead, Writer, KeepsWrite, written_text}
use Rattle.tightness.specs.Wrong.{RefusesWritten, DoesNothing, WritesFirst, NumbersFromOne}
use Rattle.tightness.specs.Tight.{HandsOut, received12, Tried, empty, two, copied, middle}
use Rattle.tightness.proofs.Tried.{writable, zeros, records_of, text_of}

-- What can be written is written.
record Puts (t : Trace) (before : List ℕ) (a : FromWriter) : Type 0 where
  accepted : a.number ≡ 0
  text : written_text a ≡ trace_text t
  output : a.after ≡ trace_text t ++ drop (length (trace_text t)) before

-- The first byte of a house spelling is `;`.
semicolon : (t : Trace) (rest : List ℕ) → get_or (trace_text t ++ rest) 0 0 ≡ 59
semicolon t rest = rw (trace_text_lem, version_line)

-- Number 0 says that the text is done.
pub done : {version start first n p m : ℕ} {s before x : List ℕ} → WritePromise version start first s before (n ∷ p ∷ m ∷ []) x → n ≡ 0
    → WritePromise version start first s before (write_done m) x
done (WritePromise.refused {n = i} f e q) z = let d : 0 ≡ i = cc in absurd (omega (arith, (stopped_numbers f).0))
done (WritePromise.no_room w i l e q) z = let d : ◌≡◌ {A = ℕ} 0 25 = cc in absurd (omega arith)
done (WritePromise.done w i l e q) z = WritePromise.done w i l (cc) q

-- What was written is read back.
again : {version start first m : ℕ} {s page after text out : List ℕ} {a : FromReader} → WritePromise version start first s page (write_done m) after
    → text ≡ take m after → length s ≤ length out → ReadPromise text out (seven a) a.after
    → (rs : List Record) × (s ≡ packed rs) × HandsOut (trace_of version start first rs) a
again {s = s} {out = out} {a = a} w e l r =
    let (rs, i, b, x) = back w l (rw e at r) in
    let n : a.rows ≡ length rs = cc (b) in
    let d : length s ≡ 20 * a.rows = ap length i ∙ packed_length rs ∙ ap (λ (j : ℕ). 20 * j) (sym n) in (
      rs,
      i,
      record {
        accepted = cc (b);
        version = cc (b);
        start = cc (b);
        rows = n;
        first = cc (b);
        records = ap (take (20 * a.rows)) x ∙ take_at s (drop (length s) out) (20 * a.rows) d ∙ i;
      },
    )

module _ {g : Writer} (k : KeepsWrite g) where
  puts : {t : Trace} (w : Tried t) (out : Lent) → length (trace_text t) ≤ length out.list
      → Puts t out.list (g t.version t.start t.first (records_of t) out)
  puts {t} w out l =
      let a = g t.version t.start t.first (records_of t) out in
      let s = trace_text t in
      let z = writes (writable w) l (k.keeps t.version t.start t.first (records_of t) out) in
      let n : a.bytes ≡ length s = cc z.0 in
      record {
        accepted = cc z.0;
        text = ap (take a.bytes) z.1 ∙ take_at s (drop (length s) out.list) a.bytes (sym n);
        output = z.1;
      }

  pub does_nothing : DoesNothing g → ⊥
  does_nothing h =
      let t = trace_of 12 0 0 [] in
      let n = suc (length (trace_text t)) in
      let a = puts empty (zeros n) (omega (arith, length-replicate {A = ℕ} n 0)) in
      let e = sym a.output ∙ h 12 0 0 (records_of t) (zeros n) in
      omega (arith, semicolon t (drop (length (trace_text t)) (zeros n).list), ap (λ (s : List ℕ). get_or s 0 0) e)

  -- Two traces, each with room for both: what is written for them tells them apart.
  module _ {t u : Trace} (w : Tried t) (x : Tried u) where
    abbrev page : Lent
    page = zeros (length (trace_text t) + length (trace_text u))

    first_put : Puts t page.list (g t.version t.start t.first (records_of t) page)
    first_put = puts w page (omega (arith, length-replicate {A = ℕ} (length (trace_text t) + length (trace_text u)) 0))

    second_put : Puts u page.list (g u.version u.start u.first (records_of u) page)
    second_put = puts x page (omega (arith, length-replicate {A = ℕ} (length (trace_text t) + length (trace_text u)) 0))

    told_apart : written_text (g t.version t.start t.first (records_of t) page) ≡ written_text (g u.version u.start u.first (records_of u) page)
        → t ≡ u
    told_apart e = one_house (writable w) (writable x) (sym first_put.text ∙ e ∙ second_put.text)

  pub writes_first : WritesFirst g → ⊥
  writes_first h =
      let e = told_apart two copied (h 12 0 1 (received12 0 1) (received12 0 2 ∷ []) _ _ (page two copied) refl refl) in
      omega (arith, ap (λ (x : Trace). (get_or x.records 1 (received12 0 0)).id) e)

  pub numbers_from_one : NumbersFromOne g → ⊥
  numbers_from_one h =
      let e = told_apart middle two (h 12 0 4117 _ (page middle two) (first_put middle two).accepted (second_put middle two).accepted) in
      omega (arith, ap (λ (x : Trace). x.first) e)

  module _ {f : Reader} (j : KeepsRead f) where
    pub reads_back : (version start first : ℕ) (records page text out : Lent) → (g version start first records page).number ≡ 0
        → text.list ≡ written_text (g version start first records page) → length records.list ≤ length out.list
        → (rs : List Record) × (records.list ≡ packed rs) × HandsOut (trace_of version start first rs) (f text out)
    reads_back version start first records page text out z e l =
        again {a = f text out} (done (k.keeps version start first records page) z) e l (j.keeps text out)

    pub refuses_written : RefusesWritten g f → ⊥
    refuses_written h =
        let t = trace_of 12 0 0 [] in
        let n = length (trace_text t) in
        let a = puts empty (zeros n) (omega (arith, length-replicate {A = ℕ} n 0)) in
        let l : length (packed []) ≤ 0 = omega (arith, packed_length []) in
        h 12 0 0 (records_of t) (zeros n) (text_of empty) (zeros 0) a.accepted (sym a.text) l
        (reads_back 12 0 0 (records_of t) (zeros n) (text_of empty) (zeros 0) a.accepted (sym a.text) l).2.accepted
