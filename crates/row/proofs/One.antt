-- One reading: a line is the row of one record at most, of one number and in one version.
use Prim.Native.Nat.{ℕ, ◌+◌, ◌*◌, ◌^◌}
use Rattle.std.specs.Prelude.{Option}
use mathlib.Core.Path.{◌≡◌, refl, ap, ap₂, sym, ◌∙◌}
use mathlib.Core.Bool.{Bool}
use mathlib.Core.List.{List, [], ◌∷◌}
use native.Mathlib.Omega.{arith}
use lib.ListN.{length}
use Rattle.base.specs.inner.Answers.{Answers}
use Rattle.base.proofs.Answers.{one_answer}
use Rattle.digits.proofs.Theorems.{one_hex}
use Rattle.fields.specs.Columns.{OffsetField, remote_text}
use Rattle.fields.specs.Runs.{halt}
use Rattle.fields.proofs.Columns.{number_one, offset_one, bus_one, id_one, length_one, type_one}
use Rattle.fields.proofs.Parts.{parted_one}
use Rattle.fields.proofs.Runs.{cut}
use Rattle.fields.proofs.Scans.{digits_all}
use Rattle.record.specs.declared.Record.{Record}
use Rattle.record.specs.Promise.{fields_of}
use Rattle.record.proofs.Promises.{same_fields}
use Rattle.row.specs.Row
use Rattle.row.specs.inner.Ids.{FormOf}
use Rattle.row.proofs.EachVersion.{digits_tell}
use Rattle.row.proofs.Columns.{AfterType, received, sent, warned, failed, type_of, same_form}

-- The data.

pub bytes_one : {Then : List (List ℕ) → Type 0} {place n u w : ℕ} {fs : List (List ℕ)}
    → Row.ByteFields Then place n u fs → Row.ByteFields Then place n w fs → u ≡ w
bytes_one (Row.done h) (Row.done k) = refl
bytes_one {place = place} (Row.byte h r e) (Row.byte k q d) =
    e ∙ ap₂ (λ (b u : ℕ). b * place + u) (one_hex h k) (bytes_one r q) ∙ sym d

second_one : {u w : ℕ} {fs : List (List ℕ)} → Row.ErrorSecond u fs → Row.ErrorSecond w fs → u ≡ w
second_one (Row.second h l r e) (Row.second k m q d) =
    e ∙ ap₂ (λ (b u : ℕ). b * 256 ^ 6 + u) (one_hex h k) (bytes_one r q) ∙ sym d

first_one : {u w : ℕ} {fs : List (List ℕ)} → Row.ErrorFirst u fs → Row.ErrorFirst w fs → u ≡ w
first_one (Row.first h l r e) (Row.first k m q d) =
    e ∙ ap₂ (λ (b u : ℕ). b * 256 ^ 7 + u) (one_hex h k) (second_one r q) ∙ sym d

-- `RTR` is no data byte
no_remote : {place n sum : ℕ} {f : List ℕ} {fs : List (List ℕ)} → Row.ByteFields Row.Nothing place n sum (f ∷ fs)
    → f ≡ remote_text → ⊥
no_remote (Row.done h) e = elim h [ ]
no_remote (Row.byte h r d) e = omega (arith, ap length e, h.width)

-- What the fields behind the type, and the type, say of a record.
abbrev behind : Record → List ℕ
behind r = r.kind ∷ r.extended ∷ r.id ∷ r.len ∷ r.«data» ∷ []

module _ {r q : Record} where
  data_one : {sent : ℕ} {fs : List (List ℕ)} → r.len ≡ q.len → Row.FrameData sent r fs → Row.FrameData sent q fs
      → (r.kind ≡ q.kind) × (r.«data» ≡ q.«data»)
  data_one n (Row.data_bytes k h) (Row.data_bytes m l) = (k ∙ sym m, bytes_one (rw n at h) l)
  data_one n (Row.data_bytes k h) (Row.remote m d e) = absurd (no_remote h e)
  data_one n (Row.remote k d e) (Row.data_bytes m l) = absurd (no_remote l e)
  data_one n (Row.remote k d e) (Row.remote m c i) = (k ∙ sym m, d ∙ sym c)

  frame_one : {sent : ℕ} {fs : List (List ℕ)} → Row.FrameId sent r fs → Row.FrameId sent q fs → behind r ≡ behind q
  frame_one (Row.frame_id i (Row.frame_length l d)) (Row.frame_id j (Row.frame_length m c)) =
      let x = id_one i j in
      let n = length_one l m in
      let y = data_one n d c in
      cc (x.0, x.1, y.0, y.1)

  warning_one : {fs : List (List ℕ)} → Row.WarningId r fs → Row.WarningId q fs → behind r ≡ behind q
  warning_one (Row.warning_id k x h (Row.warning_length l b)) (Row.warning_id m y i (Row.warning_length n c)) =
      cc (bytes_one b c)

  error_one : {fs : List (List ℕ)} → Row.ErrorIdField r fs → Row.ErrorIdField q fs → behind r ≡ behind q
  error_one (Row.error_id k x h i (Row.error_length l f d)) (Row.error_id m y j o (Row.error_length n g c)) =
      cc (one_hex h j, first_one d c)

-- The columns up to the type.

after_one : {r q : Record} {v : ℕ} {fs : List (List ℕ)} → AfterType r v fs → AfterType q v fs → behind r ≡ behind q
after_one (received h) (received k) = frame_one h k
after_one (sent h) (sent k) = frame_one h k
after_one (warned h) (warned k) = warning_one h k
after_one (failed h) (failed k) = error_one h k

marked : {r q : Record} (fs : List (List ℕ)) → Row.FromType r fs → Row.FromType q fs → behind r ≡ behind q
marked [] h k = elim h [ ]
marked (f ∷ fs) h k =
    let x = type_of h in
    let y = type_of k in
    after_one (rw (type_one x.1 y.1) at x.2) y.2

bused : {r q : Record} {x : Bool} {fs : List (List ℕ)} → Row.FromBus r x fs → Row.FromBus q x fs → (r.bus ≡ q.bus) × (behind r ≡ behind q)
bused (Row.no_bus b h) (Row.no_bus c k) = (b ∙ sym c, marked _ h k)
bused (Row.bus b h) (Row.bus c k) = (bus_one b c, marked _ h k)

-- The fields of a row are those of one record at most.
pub fields_one : {v k : ℕ} {r q : Record} {fs : List (List ℕ)} → Row.RowFields v k r fs → Row.RowFields v k q fs → r ≡ q
fields_one {r = r} {q = q} (Row.number n o) (Row.number m p) = same_fields r q (go o p)
  where
    go : {v : ℕ} {fs : List (List ℕ)} → Row.FromOffset r v fs → Row.FromOffset q v fs → fields_of r ≡ fields_of q
    go (Row.offset x o b) (Row.offset y p c) = let e = bused b c in cc (offset_one o p, e.0, e.1)

-- A line is the row of one record at most.
pub row_one : {v k : ℕ} {r q : Record} {line : List ℕ} → Row.Row v k r line → Row.Row v k q line → r ≡ q
row_one a b = fields_one (rw (parted_one a.parted b.parted) at a.row) b.row

-- What is a row of number k is no row of another number, in whatever version.
pub number_only : {v u k j : ℕ} {r q : Record} {line : List ℕ} → Row.Row v k r line → Row.Row u j q line → k ≡ j
number_only a b = go (rw (parted_one a.parted b.parted) at a.row) b.row
  where
    go : {v u k j : ℕ} {r q : Record} {fs : List (List ℕ)} → Row.RowFields v k r fs → Row.RowFields u j q fs → k ≡ j
    go (Row.number n o) (Row.number m p) = number_one n m

-- An offset has one number of digits behind its point.
width_one : {w x a b : ℕ} {f : List ℕ} → OffsetField w a f → OffsetField x b f → w ≡ x
width_one p q =
    let r = cut (digits_all p.first.digits) (digits_all q.first.digits)
    (halt (λ (d, h). omega (arith, h.byte))) (halt (λ (d, h). omega (arith, h.byte))) (sym p.bytes ∙ q.bytes) in
    let e : p.part ≡ q.part = cc r.1 in
    sym p.second.width ∙ ap length e ∙ q.second.width

-- What is a row of one version is no row of the other, whatever the numbers.
pub version_only : {v u k j : ℕ} {r q : Record} {line : List ℕ} → Row.Row v k r line → Row.Row u j q line → v ≡ u
version_only a b = go (rw (parted_one a.parted b.parted) at a.row) b.row
  where
    go : {v u k j : ℕ} {r q : Record} {fs : List (List ℕ)} → Row.RowFields v k r fs → Row.RowFields u j q fs → v ≡ u
    go (Row.number n (Row.offset x o b)) (Row.number m (Row.offset y p c)) = digits_tell x y (width_one o p)

-- An ID has one form, or none.
pub form_one : (id width : ℕ) (a b : Option ℕ) → Answers (FormOf id width) a → Answers (FormOf id width) b → a ≡ b
form_one id width = one_answer (λ x y p q. same_form p q)
