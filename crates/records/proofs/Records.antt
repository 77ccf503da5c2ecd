-- The records that bytes are, or the first place where they are none: each is the only one. And where a record stands.
use Prim.Native.Nat.{ℕ, zero, suc, ◌+◌, ◌*◌, ◌/◌, ◌%◌, ◌<◌}
use mathlib.Core.Path.{◌≡◌, refl, ap, sym, ◌∙◌}
use mathlib.Core.Logic.{◌≢◌}
use mathlib.Core.List.{List, [], ◌∷◌, ◌++◌, append_assoc, append-nil}
use native.Mathlib.Omega.{arith}
use lib.ListN.{length, take, drop, length-append}
use lib.Seq.{take_at, drop_at, drop-drop}
use Rattle.record.specs.inner.PackedAt.{PackedAt}
use Rattle.record.specs.declared.Record.{Record}
use Rattle.record.specs.Record.{WellFormed, Packs}
use Rattle.record.proofs.OneRecord.{packed_length, one_marked, one_record}
use Rattle.records.specs.Records.{mark_after, last_after, last_offset, packed_after, packed, Each, none, more, PacksAll, FirstMalformed}
use Rattle.records.proofs.Packing as packing
use Rattle.records.proofs.Packing.{marked, marked_length, marked_packs, first_packs, rest_packed}

-- Fronts of one length are one front, and the same stands after them.
fronts : (a b c d : List ℕ) → length a ≡ length b → a ++ c ≡ b ++ d → (a ≡ b) × (c ≡ d)
fronts a b c d l e = (
  sym (take_at a c (length b) l) ∙ ap (take (length b)) e ∙ take_at b d (length b) refl,
  sym (drop_at a c (length b) l) ∙ ap (drop (length b)) e ∙ drop_at b d (length b) refl,
)

-- No record stands first, with the mark that it has after this offset.
abbrev NoRecord : ℕ → List ℕ → Type 0
NoRecord last x = (r : Record) (rest : List ℕ) → WellFormed r → x ≡ marked last r ++ rest → ⊥

nothing : (last : ℕ) → NoRecord last []
nothing last r rest w e = omega (arith, ap length e, length-append (marked last r) rest, marked_length last r)

module _ {s : List ℕ} {place : ℕ} (f : FirstMalformed s place) where
  abbrev left : List ℕ
  left = f.these ++ f.after

  no_record : NoRecord (last_offset f.before) left
  no_record r rest w e =
      let b = last_offset f.before in
      let l = f.twenty ∙ sym (marked_length b r) in
      f.malformed r (rw (fronts f.these (marked b r) f.after rest l e).0 (marked_packs b w))

-- Records, and after them what starts with none: both are the only ones.
records_one : {rs qs : List Record} (before : ℕ) (x y : List ℕ) → NoRecord (last_after before rs) x → NoRecord (last_after before qs) y
    → Each WellFormed rs → Each WellFormed qs → packed_after before rs ++ x ≡ packed_after before qs ++ y → (rs ≡ qs) × (x ≡ y)
unfolding packed_after
records_one b x y f g none none e = (refl, e)
records_one b x y f g none (more {r = q} {rs = qs} v vs) e =
    let s = packed_after q.offset qs in
    absurd (f q (s ++ y) v (e ∙ append_assoc (marked b q) s y))
records_one b x y f g (more {r = r} {rs = rs} w ws) none e =
    let s = packed_after r.offset rs in
    absurd (g r (s ++ x) w (sym e ∙ append_assoc (marked b r) s x))
records_one b x y f g (more {r = r} {rs = rs} w ws) (more {r = q} {rs = qs} v vs) e =
    let s = packed_after r.offset rs in
    let t = packed_after q.offset qs in
    let l = marked_length b r ∙ sym (marked_length b q) in
    let d = sym (append_assoc (marked b r) s x) ∙ e ∙ append_assoc (marked b q) t y in
    let z = fronts (marked b r) (marked b q) (s ++ x) (t ++ y) l d in
    let o : r ≡ q = one_record (marked_packs b w) (rw (← z.0) at (marked_packs b v)) in
    let k : q.offset ≡ r.offset = ap (λ (p : Record). p.offset) (sym o) in
    let i = records_one r.offset x y f (rw k at g) ws vs (rw k at z.1) in
    (cc (o, i.0), i.1)

-- The bytes are one list of records at most.
pub packs_all_one : {rs qs : List Record} {s : List ℕ} → PacksAll rs s → PacksAll qs s → rs ≡ qs
packs_all_one h k =
    (records_one 0 [] [] (nothing _) (nothing _) h.formed k.formed (ap (λ (x : List ℕ). x ++ []) (sym h.bytes ∙ k.bytes))).0

-- Two lists with the same records have the same bytes.
pub same_list : {rs : List Record} {s t : List ℕ} → PacksAll rs s → PacksAll rs t → s ≡ t
same_list h k = h.bytes ∙ sym k.bytes

-- The first malformed record stands at one place, and none does where the bytes are records.
pub malformed_one : {s : List ℕ} {p q : ℕ} → FirstMalformed s p → FirstMalformed s q → p ≡ q
malformed_one f g =
    let z = records_one 0 (left f) (left g) (no_record f) (no_record g) f.formed g.formed (sym f.bytes ∙ g.bytes) in
    omega (arith, f.at, g.at, ap length z.0)

pub none_malformed : {rs : List Record} {s : List ℕ} {p : ℕ} → PacksAll rs s → FirstMalformed s p → ⊥
none_malformed {rs} h f =
    let z = records_one 0 [] (left f) (nothing _) (no_record f) h.formed f.formed (append-nil (packed rs) ∙ sym h.bytes ∙ f.bytes) in
    omega (arith, ap length z.1, length-append f.these f.after, f.twenty)

-- After records, bytes that are no record, or one with a false mark, are the first malformed.
module _ {before : List Record} {s these : List ℕ} (after : List ℕ) (e : s ≡ packed before ++ (these ++ after)) (w : Each WellFormed before) where
  pub malformed_at : length these ≡ 20 → ((r : Record) → Packs r (mark_after (last_offset before) r.offset) these → ⊥) → FirstMalformed s (length before + 1)
  malformed_at l f = record { before = before; these = these; after = after; bytes = e; formed = w; twenty = l; malformed = f; at = refl }

  pub malformed_itself : length these ≡ 20 → ((r : Record) (mark : ℕ) → Packs r mark these → ⊥) → FirstMalformed s (length before + 1)
  malformed_itself l f = malformed_at l (λ r. f r (mark_after (last_offset before) r.offset))

  pub false_mark : {r : Record} {mark : ℕ} → Packs r mark these → mark ≢ mark_after (last_offset before) r.offset → FirstMalformed s (length before + 1)
  false_mark p d = malformed_at (packed_length p)
      (λ q g. let z = one_marked p g in d (z.1 ∙ ap (λ (x : Record). mark_after (last_offset before) x.offset) (sym z.0)))

-- The bytes after the first record.
pub behind : (b : ℕ) (r : Record) (rs : List Record) (at i : ℕ) → at ≡ 20 + i → drop at (packed_after b (r ∷ rs)) ≡ drop i (packed_after r.offset rs)
behind b r rs at i e =
    let s = packed_after b (r ∷ rs) in
    ap (λ (n : ℕ). drop n s) e ∙ sym (drop-drop i 20 s) ∙ ap (drop i) (rest_packed b r rs)

-- Every twentieth byte of records is the first of one.
there : {rs : List Record} (b k at : ℕ) → at ≡ 20 * k → k < length rs → Each WellFormed rs → (r : Record) × PackedAt (packed_after b rs) at r
there b k at e h none = absurd (omega arith)
there b zero at e h (more {r = r} {rs = rs} w ws) =
    let z : at ≡ 0 = omega arith in
    (r, record { mark = mark_after b r.offset; packs = rw z (first_packs b r rs w) })
there b (suc k) at e h (more {r = r} {rs = rs} w ws) =
    let p = there r.offset k (20 * k) refl (omega arith) ws in
    (p.0, record { mark = p.1.mark; packs = rw (behind b r rs at (20 * k) (omega arith)) p.1.packs })

pub packed_there : {rs : List Record} {s : List ℕ} {at : ℕ} → PacksAll rs s → at % 20 ≡ 0 → at < length s → (r : Record) × PackedAt s at r
packed_there {rs} {s} {at} h z l =
    let e : at ≡ 20 * (at / 20) = omega arith in
    let k : at / 20 < length rs = omega (arith, packing.packed_length rs, ap length h.bytes) in
    rw h.bytes (there 0 (at / 20) at e k h.formed)
