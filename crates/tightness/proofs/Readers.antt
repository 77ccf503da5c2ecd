-- No reader that keeps its promise is one of the wrong ones.
use Prim.Native.Nat.{ℕ, ◌*◌, ◌≤◌}
use mathlib.Core.Path.{◌≡◌, ap, sym, ◌∙◌}
use mathlib.Core.List.{List, [], ◌∷◌, ◌++◌}
use native.Mathlib.Omega.{arith}
use lib.ListN.{length, take, drop}
use lib.Seq.{take_at}
use Rattle.record.specs.declared.Record.{Record}
use Rattle.record.proofs.OneRecord.{one_record}
use Rattle.record.specs.Record.{Packs}
use Rattle.records.specs.Records.{mark_after, last_offset, packed}
use Rattle.records.proofs.Marks.{marked_there}
use Rattle.records.proofs.Packing.{mark_below, mark_none, marked, marked_packs, packed_length, first_packed, rest_packed}
use Rattle.trace.specs.Trace.{size_limit, Trace, trace_of, Spells}
use Rattle.trace.specs.Promise.{ReadPromise}
use Rattle.trace.proofs.Answers as answers
use Rattle.trace.proofs.Answers.{not_refused}
use Rattle.trace.proofs.One.{one_trace}
use Rattle.trace.proofs.There.{there, there_size}
use Rattle.tightness.specs.Programs.{Lent, FromReader, Reader, KeepsRead, handed_out, handed_out_at}
use Rattle.tightness.specs.Wrong.{RefusesAll, Always, SameVersion, SameStart, SameFirst, SameRecords, CopiesFirst, InventsRows, SaysOne, MarksFirst, MarksEqual, MarksByFirst}
use Rattle.tightness.specs.Tight.{HandsOut, received12, Tried, empty, later, older, two, copied, middle, one, no_bus, stepping}
use Rattle.tightness.proofs.Tried.{received_formed, writable, zeros, text_of}

-- What spells a trace is accepted, and that trace handed out.
pub accepts : {f : Reader} {t : Trace} → KeepsRead f → (text out : Lent) → length text.list ≤ size_limit → Spells t text.list
    → 20 * length t.records ≤ length out.list → HandsOut t (f text out)
accepts {f} {t} k text out h s r =
    let z = answers.accepts h s r (k.keeps text out) in
    let rs = t.records in
    let n : (f text out).rows ≡ length rs = cc z.0 in
    let l : length (packed rs) ≡ 20 * (f text out).rows = packed_length rs ∙ ap (λ (i : ℕ). 20 * i) (sym n) in
    record {
      accepted = cc z.0;
      version = cc z.0;
      start = cc z.0;
      rows = n;
      first = cc z.0;
      records = ap (take (20 * (f text out).rows)) z.1 ∙ take_at (packed rs) (drop (20 * length rs) out.list) (20 * (f text out).rows) l;
    }

-- The traces that are tried have at most three records.
abbrev space : Lent
space = zeros 60

room : {t : Trace} → Tried t → 20 * length t.records ≤ 60
room empty = omega arith
room later = omega arith
room older = omega arith
room two = omega arith
room copied = omega arith
room middle = omega arith
room one = omega arith
room no_bus = omega arith
room stepping = omega arith

-- Two records that differ are packed as other bytes.
apart : marked 0 (received12 0 2) ≡ marked 0 (received12 0 1) → ⊥
apart e =
    let z = one_record (marked_packs 0 (received_formed 0 2 (omega arith) (omega arith))) (rw (← e) at (marked_packs 0 (received_formed 0 1 (omega arith) (omega arith)))) in
    omega (arith, ap (λ (r : Record). r.id) z)

copy : {s : List ℕ} (r q : Record) → s ≡ packed (r ∷ q ∷ []) → take 20 (drop 20 s) ≡ take 20 s → marked r.offset q ≡ marked 0 r
copy r q e h =
    sym (first_packed r.offset q []) ∙ ap (take 20) (sym (rest_packed 0 r (q ∷ []))) ∙ (rw e at h) ∙ first_packed 0 r (q ∷ [])

rows_true : {text before x : List ℕ} {n p v s k b f : ℕ} {t : Trace} → ReadPromise text before (n ∷ p ∷ v ∷ s ∷ k ∷ b ∷ f ∷ []) x → n ≡ 0
    → Spells t text → k ≡ length t.records
rows_true (ReadPromise.large h e q) z s = let d : ◌≡◌ {A = ℕ} 0 1 = cc in absurd (omega arith)
rows_true (ReadPromise.done h u r e q) z s = cc (e, ap (λ (t : Trace). length t.records) (one_trace u s))
rows_true (ReadPromise.no_room h u r e q) z s = let d : ◌≡◌ {A = ℕ} 0 8 = cc in absurd (omega arith)
rows_true (ReadPromise.refused h g e q) z s = absurd (not_refused h s g)

module _ {f : Reader} (k : KeepsRead f) where
  tries : {t : Trace} (w : Tried t) → HandsOut t (f (text_of w) space)
  tries w = accepts k (text_of w) space (there_size (writable w)) (there (writable w)) (room w)

  pub refuses_all : RefusesAll f → ⊥
  refuses_all h = h (text_of empty) space (tries empty).accepted

  -- What is always the same is the same for two of them.
  both : {A : Type 0} {t u : Trace} (part : FromReader → A) (w : Tried t) (x : Tried u) → Always part f
      → part (f (text_of w) space) ≡ part (f (text_of x) space)
  both part w x h = h (text_of w) (text_of x) space (tries w).accepted (tries x).accepted

  pub same_version : SameVersion f → ⊥
  same_version h = omega (arith, (tries empty).version, (tries older).version, both (λ a. a.version) empty older h)

  pub same_start : SameStart f → ⊥
  same_start h = omega (arith, (tries empty).start, (tries later).start, both (λ a. a.start) empty later h)

  pub same_first : SameFirst f → ⊥
  same_first h = omega (arith, (tries two).first, (tries middle).first, both (λ a. a.first) two middle h)

  pub says_one : SaysOne f → ⊥
  says_one h =
      let a = tries middle in
      omega (arith, a.first, h (text_of middle) space a.accepted (omega (arith, a.rows)))

  pub same_records : SameRecords f → ⊥
  same_records h =
      let e = sym (tries empty).records ∙ both handed_out empty two h ∙ (tries two).records in
      omega (arith, ap length e, packed_length [], packed_length (received12 0 1 ∷ received12 0 2 ∷ []))

  -- The record after `front`, with the mark that it has there, as it is handed out.
  its_record : {version start first : ℕ} (front : List Record) (r : Record) (back : List Record) (w : Tried (trace_of version start first (front ++ (r ∷ back))))
      → Packs r (mark_after (last_offset front) r.offset) (handed_out_at (f (text_of w) space) (length front))
  its_record front r back w = rw (tries w).records (marked_there front r back (writable w).formed)

  pub marks_first : MarksFirst f → ⊥
  marks_first h =
      let r = received12 0 1 in
      omega (arith, h (text_of one) space r _ (tries one).accepted (its_record [] r [] one), mark_none {before = 0} {offset = 0} (omega arith))

  pub marks_equal : MarksEqual f → ⊥
  marks_equal h =
      let r = received12 0 1 in
      let a = its_record [] r (r ∷ []) copied in
      omega (arith, h (text_of copied) space 0 r r r _ _ _ (tries copied).accepted a a (its_record (r ∷ []) r [] copied), mark_none {before = 0} {offset = 0} (omega arith))

  pub marks_by_first : MarksByFirst f → ⊥
  marks_by_first h =
      let p = received12 100 1 in
      let q = received12 300 1 in
      let r = received12 200 1 in
      let a = its_record [] p (q ∷ r ∷ []) stepping in
      let b = its_record (p ∷ []) q (r ∷ []) stepping in
      let c = its_record (p ∷ q ∷ []) r [] stepping in
      omega (arith, h (text_of stepping) space 1 p q r _ _ _ (tries stepping).accepted a b c, mark_below {before = 300} {offset = 200} (omega arith), mark_none {before = 100} {offset = 200} (omega arith))

  pub copies_first : CopiesFirst f → ⊥
  copies_first h =
      let a = tries two in
      apart (copy (received12 0 1) (received12 0 2) a.records (h (text_of two) space a.accepted 1 (omega (arith, a.rows))))

  pub invents_rows : InventsRows f → ⊥
  invents_rows i = i.invented (rows_true (k.keeps i.text i.out) i.accepted i.spelled)
