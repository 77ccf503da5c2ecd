-- The record of a row is well formed, and one that its version can carry.
use Prim.Native.Nat.{ℕ, zero, suc, ◌+◌, ◌*◌, ◌-◌, ◌/◌, ◌%◌, ◌^◌, ◌≤◌, ◌<◌}
use mathlib.Core.Path.{◌≡◌, refl, ap, sym, ◌∙◌}
use mathlib.Core.Logic.{◌⊎◌, ⊎_elim}
use mathlib.Core.Bool.{Bool}
use mathlib.Core.List.{List}
use native.Mathlib.Nat.{pow-suc, pow-succ', one-le-pow, zero-mod, mul_assoc, mul-div_cancel, mul-add-mod_self_right}
use native.Mathlib.Omega.{arith}
use lib.Arith.{digits_lt}
use lib.Pow.{pow-add}
use Rattle.base.specs.Limits.{offset_limit, last_bus}
use Rattle.digits.proofs.Theorems.{hex_below}
use Rattle.fields.specs.Columns.{IdField, standard, long, last_number}
use Rattle.record.specs.declared.Record.{Record}
use Rattle.record.specs.Record.{ErrorId, one, two, four, eight, WellFormed}
use Rattle.row.specs.Versions.{is11, is12, Carries, v11, v12}
use Rattle.row.specs.Row

-- Place value: a sum of n bytes, at most m + 1, of which the first has the place value 256 ^ m, fits m + 1 bytes, and those past the n are
-- zero.
pub bytes_sum : {Then : List (List ℕ) → Type 0} {place n sum : ℕ} {fs : List (List ℕ)} (m : ℕ)
    → Row.ByteFields Then place n sum fs → place ≡ 256 ^ m → n ≤ suc m → (sum < 256 ^ suc m) × (sum % 256 ^ (suc m - n) ≡ 0)
bytes_sum m (Row.done h) p l = (one-le-pow (suc m) 256 (omega arith), zero-mod _)
bytes_sum zero (Row.byte {b = b} {sum = sum} h (Row.done k) e) p l =
    let w : sum ≡ b = rw (e, p) (omega arith) in
    (omega (arith, hex_below h), omega arith)
bytes_sum zero (Row.byte h (Row.byte k r d) e) p l = absurd (omega arith)
bytes_sum (suc m) (Row.byte {place = place} {n = n} {b = b} {u = u} {sum = sum} h r e) p l =
    let z : 0 < 256 = omega arith in
    let d : place / 256 ≡ 256 ^ m = rw (p, pow-suc) (mul-div_cancel (256 ^ m) z) in
    let x = bytes_sum m r d (omega arith) in
    let s : suc (suc m) - suc n ≡ suc m - n = omega arith in
    let t : n + (suc m - n) ≡ suc m = omega arith in
    let q : b * place ≡ b * 256 ^ n * 256 ^ (suc m - n) = rw p (ap (λ (k : ℕ). b * 256 ^ k) (sym t) ∙ rw (pow-add, mul_assoc)) in
    let k : b < 256 = hex_below h in
    let w : sum % 256 ^ (suc m - n) ≡ 0 = rw (e, q, mul-add-mod_self_right) x.1 in
    (rw (e, p, pow-succ' 256 (suc m)) (digits_lt k x.0), rw s w)

-- The columns.

id_formed : {extended id : ℕ} {f : List ℕ} → IdField extended id f → (extended ≤ 1) × (extended ≡ 0 → id ≤ 0x7FF) × (id < 2 ^ 29)
id_formed (standard e h l) = (omega arith, λ z. l, omega arith)
id_formed (long e h l) = (omega arith, λ z. absurd (omega arith), omega arith)

-- The ID of an error frame is small.
pub error_small : {n : ℕ} → ErrorId n → n ≤ 8
error_small (one e) = omega arith
error_small (two e) = omega arith
error_small (four e) = omega arith
error_small (eight e) = omega arith

-- What the data says of a frame.
record Framed (r : Record) : Type 0 where
  kind : r.kind ≤ 3
  eight : r.«data» < 256 ^ 8
  past : r.«data» % 256 ^ (8 - r.len) ≡ 0
  remote : (r.kind ≡ 2) ⊎ (r.kind ≡ 3) → r.«data» ≡ 0

-- The data of an error frame: two bytes and what they leave.
failed : (b c t u sum : ℕ) → b ≤ 1 → c < 256 → t < 256 ^ 6 → t % 256 ^ 4 ≡ 0 → u ≡ c * 256 ^ 6 + t → sum ≡ b * 256 ^ 7 + u
    → (sum < 256 ^ 8) × (sum % 256 ^ 4 ≡ 0) × (sum / 256 ^ 7 % 256 ≤ 1) × (sum / 256 ^ 6 % 256 ≡ c)
failed b c t u sum l k m z e d = (omega arith, omega arith, omega arith, omega arith)

module _ {r : Record} where
  framed : {sent : ℕ} {fs : List (List ℕ)} → sent ≤ 1 → r.len ≤ 8 → Row.FrameData sent r fs → Framed r
  framed s l (Row.data_bytes k h) =
      let x = bytes_sum 7 h refl l in
      record {
        kind = omega arith;
        eight = x.0;
        past = x.1;
        remote = ⊎_elim (λ e. absurd (omega arith)) (λ e. absurd (omega arith));
      }
  framed s l (Row.remote k d e) = record { kind = omega arith; eight = omega arith; past = rw d (zero-mod _); remote = λ _. d }

  module _ (o : r.offset ≤ offset_limit) (b : r.bus ≤ last_bus) where
    frame_formed : {sent : ℕ} {fs : List (List ℕ)} → sent ≤ 1 → Row.FrameId sent r fs → WellFormed r
    frame_formed s (Row.frame_id i (Row.frame_length l d)) =
        let x = id_formed i in
        let y = framed s l.small d in
        record {
          offset = o;
          bus = b;
          kind = omega arith;
          extended = x.0;
          standard = x.1;
          id = x.2;
          len = l.small;
          eight = y.eight;
          past = y.past;
          remote = y.remote;
          warning = λ k. absurd (omega arith);
          error = λ k. absurd (omega arith);
        }

    warning_formed : {fs : List (List ℕ)} → Row.WarningId r fs → WellFormed r
    warning_formed (Row.warning_id k x h (Row.warning_length l d)) =
        let y = bytes_sum 7 d refl (omega arith) in
        record {
          offset = o;
          bus = b;
          kind = omega arith;
          extended = omega arith;
          standard = λ _. omega arith;
          id = omega arith;
          len = omega arith;
          eight = y.0;
          past = rw x.len y.1;
          remote = ⊎_elim (λ e. absurd (omega arith)) (λ e. absurd (omega arith));
          warning = λ _. x;
          error = λ e. absurd (omega arith);
        }

    error_formed : {fs : List (List ℕ)} → Row.ErrorIdField r fs → WellFormed r
    error_formed (Row.error_id k x h i (Row.error_length n l (Row.first {b = c} {u = u} f z (Row.second {b = d} {u = t} g p q w) e))) =
        let y = bytes_sum 5 q refl (omega arith) in
        let s = error_small i in
        let v = failed c d t u r.«data» z (hex_below g) y.0 y.1 w e in
        record {
          offset = o;
          bus = b;
          kind = omega arith;
          extended = omega arith;
          standard = λ _. omega arith;
          id = omega arith;
          len = omega arith;
          eight = v.0;
          past = rw n v.1;
          remote = ⊎_elim (λ e. absurd (omega arith)) (λ e. absurd (omega arith));
          warning = λ e. absurd (omega arith);
          error = λ _. record { extended = x; id = i; len = n; first = v.2; second = rw v.3 p };
        }

    type_formed : {fs : List (List ℕ)} → Row.FromType r fs → WellFormed r
    type_formed (Row.rx e h) = frame_formed (omega arith) h
    type_formed (Row.tx e h) = frame_formed (omega arith) h
    type_formed (Row.warng e h) = warning_formed h
    type_formed (Row.error e h) = error_formed h

  bus_formed : {x : Bool} {fs : List (List ℕ)} → r.offset ≤ offset_limit → Row.FromBus r x fs → WellFormed r
  bus_formed o (Row.no_bus b h) = type_formed o (omega arith) h
  bus_formed o (Row.bus b h) = type_formed o b.high h

-- The record of a row is well formed.
pub row_formed : {v k : ℕ} {r : Record} {line : List ℕ} → Row.Row v k r line → WellFormed r
row_formed a = go a.row
  where
    go : {v k : ℕ} {r : Record} {fs : List (List ℕ)} → Row.RowFields v k r fs → WellFormed r
    go (Row.number n (Row.offset v o b)) = bus_formed o.limit b

-- Its version can carry it.
pub row_carried : {v k : ℕ} {r : Record} {line : List ℕ} → Row.Row v k r line → Carries r v
row_carried a = go a.row
  where
    go : {v k : ℕ} {r : Record} {fs : List (List ℕ)} → Row.RowFields v k r fs → Carries r v
    go (Row.number n (Row.offset is11 o (Row.no_bus b h))) = v11 b (omega (arith, o.value))
    go (Row.number n (Row.offset is12 o (Row.bus b h))) = v12 b.low b.high

-- The number of a row is 1 to 999,999.
pub row_number : {v k : ℕ} {r : Record} {line : List ℕ} → Row.Row v k r line → (1 ≤ k) × (k ≤ last_number)
row_number a = go a.row
  where
    go : {v k : ℕ} {r : Record} {fs : List (List ℕ)} → Row.RowFields v k r fs → (1 ≤ k) × (k ≤ last_number)
    go (Row.number n o) = (n.low, n.high)
