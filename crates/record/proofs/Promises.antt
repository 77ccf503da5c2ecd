-- What the promises of `pack` and `unpack` leave room for, and what each of their answers says.
use Prim.Native.Nat.{ℕ, ◌+◌, ◌≤◌, ◌<◌}
use mathlib.Core.Path.{◌≡◌, refl, ap, ap₂, sym, ◌∙◌}
use mathlib.Core.Logic.{◌≢◌}
use mathlib.Core.List.{List, ◌∷◌, ◌++◌}
use native.Mathlib.Nat.{zero-add}
use native.Mathlib.Omega.{arith}
use lib.ListN.{length, get_or, take, drop}
use lib.Seq.{sets, sets-eq, take_at}
use Rattle.std.specs.Prelude.{Result, Ok, Err}
use Rattle.base.specs.declared.refusal.Refused.{Refused}
use Rattle.record.specs.declared.Record.{Record}
use Rattle.record.specs.declared.Unpacked.{Unpacked}
use Rattle.record.specs.Bytes.{bytes}
use Rattle.record.specs.Record.{WellFormed, Packs, number}
use Rattle.record.specs.Promise.{pack_numbers, fields_of, record_numbers, refusal_numbers, unpack_numbers, PackPromise, UnpackPromise}
use Rattle.record.proofs.OneRecord.{packs, packed_length, one_marked, same_bytes}
use Rattle.record.proofs.Refusals.{some_number, same_refused}

-- The answer of `pack` and its output are the only ones.
pub one_pack : {r : Record} {m : ℕ} {l a b x y : List ℕ} → PackPromise r m l a x → PackPromise r m l b y → (a ≡ b) × (x ≡ y)
one_pack {l = l} (PackPromise.done p h e f) (PackPromise.done q k g i) =
    (e ∙ sym g, f ∙ ap (λ (s : List ℕ). s ++ drop 20 l) (same_bytes p q) ∙ sym i)
one_pack (PackPromise.done p h e f) (PackPromise.malformed n g i) = absurd (n p.formed p.bit)
one_pack (PackPromise.done p h e f) (PackPromise.short w b k g i) = absurd (omega arith)
one_pack (PackPromise.malformed n e f) (PackPromise.done q k g i) = absurd (n q.formed q.bit)
one_pack (PackPromise.malformed n e f) (PackPromise.malformed m g i) = (e ∙ sym g, f ∙ sym i)
one_pack (PackPromise.malformed n e f) (PackPromise.short w b k g i) = absurd (n w b)
one_pack (PackPromise.short w b h e f) (PackPromise.done q k g i) = absurd (omega arith)
one_pack (PackPromise.short w b h e f) (PackPromise.malformed m g i) = absurd (m w b)
one_pack (PackPromise.short w b h e f) (PackPromise.short v c k g i) = (e ∙ sym g, f ∙ sym i)

-- The answer of `unpack` is the only one.
pub one_unpack : {s a b : List ℕ} → UnpackPromise s a → UnpackPromise s b → a ≡ b
one_unpack (UnpackPromise.fields p e) (UnpackPromise.fields q f) =
    let z = one_marked p q in
    e ∙ ap₂ record_numbers z.0 z.1 ∙ sym f
one_unpack (UnpackPromise.fields p e) (UnpackPromise.not_twenty n f) = absurd (n (packed_length p))
one_unpack (UnpackPromise.fields {r} {mark} p e) (UnpackPromise.malformed k n f) = absurd (n r mark p)
one_unpack (UnpackPromise.not_twenty n e) (UnpackPromise.fields q f) = absurd (n (packed_length q))
one_unpack (UnpackPromise.not_twenty n e) (UnpackPromise.not_twenty m f) = e ∙ sym f
one_unpack (UnpackPromise.not_twenty n e) (UnpackPromise.malformed k m f) = absurd (n k)
one_unpack (UnpackPromise.malformed k n e) (UnpackPromise.fields {r} {mark} q f) = absurd (n r mark q)
one_unpack (UnpackPromise.malformed k n e) (UnpackPromise.not_twenty m f) = absurd (m k)
one_unpack (UnpackPromise.malformed k n e) (UnpackPromise.malformed j m f) = e ∙ sym f

-- Answers with another number are other answers.
other : {A : Type 0} {m n : ℕ} {s t : List ℕ} → m ∷ s ≡ n ∷ t → m ≢ n → A
other e h = absurd (h (ap (λ (l : List ℕ). get_or l 0 0) e))

pub same_fields : (r t : Record) → fields_of r ≡ fields_of t → r ≡ t
same_fields r t e =
    let a : r.offset ≡ t.offset = cc in
    let b : r.bus ≡ t.bus = cc in
    let c : r.kind ≡ t.kind = cc in
    let d : r.extended ≡ t.extended = cc in
    let f : r.id ≡ t.id = cc in
    let g : r.len ≡ t.len = cc in
    let h : r.«data» ≡ t.«data» = cc in
    λ i. record { offset = a i; bus = b i; kind = c i; extended = d i; id = f i; len = g i; «data» = h i }

-- Such numbers tell the record and the mark.
pub same_numbers : {m n : ℕ} (r t : Record) → record_numbers r m ≡ record_numbers t n → (r ≡ t) × (m ≡ n)
same_numbers r t e = (same_fields r t (cc), cc)

-- The numbers tell the answer of `pack`.
pub same_packed : (a b : Result Unit Refused) → pack_numbers a ≡ pack_numbers b → a ≡ b
same_packed (Ok x) (Ok y) e = refl
same_packed (Ok x) (Err f) e = other e (λ z. some_number f.reason (sym z))
same_packed (Err d) (Ok y) e = other e (some_number d.reason)
same_packed (Err d) (Err f) e = ap Err (same_refused (cc) (cc))

-- The numbers tell the answer of `unpack`.
pub same_unpacked : (a b : Result Unpacked Refused) → unpack_numbers a ≡ unpack_numbers b → a ≡ b
same_unpacked (Ok u) (Ok v) e =
    let z = same_numbers u.r v.r e in
    ap Ok (λ i. record { r = z.0 i; mark = z.1 i })
same_unpacked (Ok u) (Err f) e = other e (λ z. some_number f.reason (sym z))
same_unpacked (Err d) (Ok v) e = other e (some_number d.reason)
same_unpacked (Err d) (Err f) e = ap Err (same_refused (cc) (cc))

-- What each answer of `unpack` says.
pub unpacked_fields : {m : ℕ} {s : List ℕ} (r : Record) → UnpackPromise s (record_numbers r m) → Packs r m s
unpacked_fields {m} {s} r (UnpackPromise.fields {r = t} p e) =
    let z = same_numbers r t e in
    rw (z.0, z.1) p
unpacked_fields r (UnpackPromise.not_twenty n e) = other e (omega arith)
unpacked_fields r (UnpackPromise.malformed k n e) = other e (omega arith)

pub unpacked_not_twenty : {p : ℕ} {s : List ℕ} → UnpackPromise s (refusal_numbers 20 p) → length s ≢ 20
unpacked_not_twenty (UnpackPromise.fields p e) = other e (omega arith)
unpacked_not_twenty (UnpackPromise.not_twenty n e) = n
unpacked_not_twenty (UnpackPromise.malformed k n e) = other e (omega arith)

pub unpacked_malformed : {p : ℕ} {s : List ℕ} → UnpackPromise s (refusal_numbers 23 p)
    → (length s ≡ 20) × ((r : Record) (m : ℕ) → Packs r m s → ⊥)
unpacked_malformed (UnpackPromise.fields p e) = other e (omega arith)
unpacked_malformed (UnpackPromise.not_twenty n e) = other e (omega arith)
unpacked_malformed (UnpackPromise.malformed k n e) = (k, n)

-- What is refused, for whatever reason, is no packed record.
pub unpacked_refused : {s : List ℕ} (e : Refused) → UnpackPromise s (unpack_numbers (Err e)) → (r : Record) (m : ℕ) → Packs r m s → ⊥
unpacked_refused e (UnpackPromise.fields p f) = other f (some_number e.reason)
unpacked_refused e (UnpackPromise.not_twenty n f) = λ r m p. n (packed_length p)
unpacked_refused e (UnpackPromise.malformed k n f) = n

-- What each answer of `pack` says.
pub packed_done : {r : Record} {m : ℕ} {l x : List ℕ} → PackPromise r m l (pack_numbers (Ok tt)) x
    → Packs r m (bytes 20 (number r m)) × (20 ≤ length l) × (x ≡ bytes 20 (number r m) ++ drop 20 l)
packed_done {r} {m} {l} (PackPromise.done p h e f) = (packs p.formed p.bit, h, f ∙ ap (λ (s : List ℕ). s ++ drop 20 l) p.packed)
packed_done (PackPromise.malformed n e f) = other e (omega arith)
packed_done (PackPromise.short w b h e f) = other e (omega arith)

-- Whatever is answered with number 0, the first twenty bytes are the packed record.
pub packed_0 : {r : Record} {m : ℕ} {l ns x : List ℕ} → PackPromise r m l (0 ∷ ns) x → Packs r m (take 20 x)
packed_0 {l = l} (PackPromise.done {s = s} p h e f) = rw (f, take_at s (drop 20 l) 20 (packed_length p)) p
packed_0 (PackPromise.malformed n e f) = other e (omega arith)
packed_0 (PackPromise.short w b h e f) = other e (omega arith)

pub packed_malformed : {r : Record} {m : ℕ} {l ns x : List ℕ} → PackPromise r m l (23 ∷ ns) x → (WellFormed r → m ≤ 1 → ⊥) × (x ≡ l)
packed_malformed (PackPromise.done p h e f) = other e (omega arith)
packed_malformed (PackPromise.malformed n e f) = (n, f)
packed_malformed (PackPromise.short w b h e f) = other e (omega arith)

pub packed_short : {r : Record} {m : ℕ} {l ns x : List ℕ} → PackPromise r m l (25 ∷ ns) x
    → WellFormed r × (m ≤ 1) × (length l < 20) × (x ≡ l)
packed_short (PackPromise.done p h e f) = other e (omega arith)
packed_short (PackPromise.malformed n e f) = other e (omega arith)
packed_short (PackPromise.short w b h e f) = (w, b, h, f)

-- Unpacking what was packed gives the fields and the mark that were handed in.
pub there_and_back : {r : Record} {m : ℕ} {l x a : List ℕ} → PackPromise r m l (pack_numbers (Ok tt)) x
    → UnpackPromise (take 20 x) a → a ≡ unpack_numbers (Ok (record { r = r; mark = m }))
there_and_back {r} {m} {l} {x} p q =
    let d = packed_done p in
    let e : take 20 x ≡ bytes 20 (number r m) =
    ap (take 20) d.2 ∙ take_at (bytes 20 (number r m)) (drop 20 l) 20 (packed_length d.0) in
    one_unpack (rw e at q) (UnpackPromise.fields d.0 refl)

-- Packing what was unpacked, into any output with room, gives the bytes that were handed in, and after them what was there.
pub back_and_there : {s l a x : List ℕ} (u : Unpacked)
    → UnpackPromise s (unpack_numbers (Ok u)) → 20 ≤ length l → PackPromise u.r u.mark l a x
    → (a ≡ pack_numbers (Ok tt)) × (x ≡ s ++ drop 20 l)
back_and_there u p h q = one_pack q (PackPromise.done (unpacked_fields u.r p) h refl refl)

-- Stored at the start, the bytes stand before what was after them.
pub at_start : {r : Record} {m : ℕ} {s : List ℕ} (l : List ℕ) → Packs r m s → 20 ≤ length l → sets l 0 s ≡ s ++ drop 20 l
at_start {s = s} l p h =
    let k = packed_length p in
    let e : 0 + length s ≡ 20 = rw zero-add k in
    let f : 0 + length s ≤ length l = omega arith in
    sets-eq s l 0 f ∙ ap (λ (n : ℕ). s ++ drop n l) e
