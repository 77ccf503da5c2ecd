-- What the stages of warnings and error frames know.
use Prim.Native.Nat.{ℕ, ◌+◌, ◌*◌, ◌-◌, ◌^◌, ◌≤◌, ◌<◌}
use mathlib.Core.Path.{◌≡◌, refl, sym, ◌∙◌}
use mathlib.Core.Logic.{◌≢◌}
use mathlib.Core.List.{List, ◌∷◌}
use native.Mathlib.Omega.{arith}
use lib.ListN.{length}
use Rattle.digits.specs.Digits.{Hex}
use Rattle.digits.proofs.Theorems.{one_hex, hex_below}
use Rattle.fields.specs.declared.Scan.{Scan}
use Rattle.fields.specs.Columns.{LengthField}
use Rattle.fields.specs.inner.Window.{HexField, Taken}
use Rattle.fields.proofs.Columns.{length_one}
use Rattle.record.specs.declared.Record.{Record}
use Rattle.record.specs.Record.{Position, ErrorId, Warning}
use Rattle.row.specs.declared.Part.{Part}
use Rattle.row.specs.declared.Stage.TheVariants as stage
use Rattle.row.specs.Row
use Rattle.row.specs.inner.Stages.{Stepped, Stuck, known2, known4, known6, continues_at}
use Rattle.row.proofs.Moves.{barred, went}
use Rattle.row.proofs.Columns.{behind}

-- Columns taken off.

pub after_warning_id : {r : Record} {f : List ℕ} {fs : List (List ℕ)} → Row.WarningId r (f ∷ fs)
    → (r.kind ≡ 4) × Warning r × Hex 8 0xFFFFFFFF f × Row.WarningLength r fs
after_warning_id (Row.warning_id k x h l) = (k, x, h, l)

pub after_warning_length : {r : Record} {f : List ℕ} {fs : List (List ℕ)} → Row.WarningLength r (f ∷ fs)
    → LengthField 4 f × Row.ByteFields Row.Words (256 ^ 7) 4 r.«data» fs
after_warning_length (Row.warning_length l b) = (l, b)

pub after_error_id : {r : Record} {f : List ℕ} {fs : List (List ℕ)} → Row.ErrorIdField r (f ∷ fs)
    → (r.kind ≡ 5) × (r.extended ≡ 0) × Hex 4 r.id f × ErrorId r.id × Row.ErrorLength r fs
after_error_id (Row.error_id k x h i l) = (k, x, h, i, l)

pub after_error_length : {r : Record} {f : List ℕ} {fs : List (List ℕ)} → Row.ErrorLength r (f ∷ fs)
    → (r.len ≡ 4) × LengthField 4 f × Row.ErrorFirst r.«data» fs
after_error_length (Row.error_length n l b) = (n, l, b)

pub after_first : {sum : ℕ} {f : List ℕ} {fs : List (List ℕ)} → Row.ErrorFirst sum (f ∷ fs)
    → (b : ℕ) × (u : ℕ) × Hex 2 b f × (b ≤ 1) × Row.ErrorSecond u fs × (sum ≡ b * 256 ^ 7 + u)
after_first (Row.first {b = b} {u = u} h l s e) = (b, u, h, l, s, e)

pub after_second : {sum : ℕ} {f : List ℕ} {fs : List (List ℕ)} → Row.ErrorSecond sum (f ∷ fs)
    → (b : ℕ) × (u : ℕ) × Hex 2 b f × Position b × Row.ByteFields Row.Nothing (256 ^ 5) 2 u fs × (sum ≡ b * 256 ^ 6 + u)
after_second (Row.second {b = b} {u = u} h l s e) = (b, u, h, l, s, e)

-- a number of a fixed width of at most eight digits is a field of hexadecimal digits
pub hex_field : {n v : ℕ} {f : List ℕ} → n ≤ 8 → Hex n v f → HexField v f
hex_field l h = let e = h.width in record { spelled = rw (← e) at h; short = omega arith }

pub some_warning_id : (p : Part) (f : List ℕ) (fs : List (List ℕ)) (r : Record) → continues_at stage.WarningId p (f ∷ fs) r → (v : ℕ) × HexField v f
some_warning_id p f fs r c = (0xFFFFFFFF, hex_field (omega arith) (after_warning_id c.1).2)

pub some_error_id : (p : Part) (f : List ℕ) (fs : List (List ℕ)) (r : Record) → continues_at stage.ErrorId p (f ∷ fs) r → (v : ℕ) × HexField v f
some_error_id p f fs r c = (r.id, hex_field (omega arith) (after_error_id c.1).2)

-- Warnings.

module _ {w : List ℕ} {at : ℕ} (p : Part) {s : Scan} where
  pub warning_id_barred : (s.end - at ≡ 8 → s.value ≡ 0xFFFFFFFF → ⊥) → Taken HexField w at s
      → Stuck w at (continues_at stage.WarningId p)
  warning_id_barred n g =
      barred g (λ f fs r h e c. let a = (after_warning_id c.1).2 in let l = a.width in n (omega arith) (one_hex h.spelled a))

  pub warning_id_went : (q : Record) → known2 q ≡ known2 p.r → q.kind ≡ 4 → Warning q → q.«data» ≡ 0 → s.end - at ≡ 8 → s.value ≡ 0xFFFFFFFF
      → Taken HexField w at s → Stepped w at (continues_at stage.WarningId p) (behind s.end stage.WarningLength 0 0 q)
  warning_id_went q x k y d n v g =
      went g _ refl d
      (λ f fs r h e c. let a = after_warning_id c.1 in (cc (c.0, x, k, a.0, y.extended, y.id, y.len, a.1.extended, a.1.id, a.1.len), a.3))
      (λ f fs r h e c. let l : length f ≡ 8 = omega arith in
      (cc (c.0, x), Row.warning_id (cc (c.0, k)) (record { extended = cc (c.0, y.extended); id = cc (c.0, y.id); len = cc (c.0, y.len) }) (rw (l, v) at h.spelled) c.1))

  pub warning_length_barred : s.value ≢ 4 → Taken LengthField w at s → Stuck w at (continues_at stage.WarningLength p)
  warning_length_barred n g = barred g (λ f fs r h e c. n (length_one h (after_warning_length c.1).0))

  pub warning_length_went : p.r.«data» ≡ 0 → s.value ≡ 4 → Taken LengthField w at s
      → Stepped w at (continues_at stage.WarningLength p) (behind s.end stage.WarningBytes 4 (256 ^ 7) p.r)
  warning_length_went d v g =
      went g _ refl (omega arith)
      (λ f fs r h e c. record { known = c.0; sum = r.«data»; bytes = (after_warning_length c.1).1; total = omega arith })
      (λ f fs r h e c. let z : c.sum ≡ r.«data» = omega (arith, c.total) in (c.known, Row.warning_length (rw v at h) (rw z at c.bytes)))

  -- Error frames.

  pub error_id_barred : (s.end - at ≡ 4 → ErrorId s.value → ⊥) → Taken HexField w at s
      → Stuck w at (continues_at stage.ErrorId p)
  error_id_barred n g =
      barred g (λ f fs r h e c. let a = after_error_id c.1 in let l = a.2.width in
      let y : r.id ≡ s.value = one_hex a.2 h.spelled in n (omega arith) (rw y at a.3))

  pub error_id_went : (q : Record) → known2 q ≡ known2 p.r → q.extended ≡ 0 → q.id ≡ s.value → q.«data» ≡ 0 → s.end - at ≡ 4 → ErrorId s.value
      → Taken HexField w at s → Stepped w at (continues_at stage.ErrorId p) (behind s.end stage.ErrorLength 0 0 q)
  error_id_went q x y i d n v g =
      went g _ refl d
      (λ f fs r h e c. let a = after_error_id c.1 in let z = one_hex a.2 h.spelled in (cc (c.0, x, y, i, z, a.1), a.0, a.4))
      (λ f fs r h e c. let l : length f ≡ 4 = omega arith in
      let z : s.value ≡ r.id = cc (c.0, i) in
      (cc (c.0, x), Row.error_id c.1 (cc (c.0, y)) (rw (l, z) at h.spelled) (rw z at v) c.2))

  pub error_length_barred : s.value ≢ 4 → Taken LengthField w at s → Stuck w at (continues_at stage.ErrorLength p)
  error_length_barred n g = barred g (λ f fs r h e c. n (length_one h (after_error_length c.2).1))

  pub error_length_went : (q : Record) → known4 q ≡ known4 p.r → q.kind ≡ 5 → q.len ≡ 4 → q.«data» ≡ 0 → s.value ≡ 4
      → Taken LengthField w at s → Stepped w at (continues_at stage.ErrorLength p) (behind s.end stage.ErrorFirst 0 0 q)
  error_length_went q x k n d v g =
      went g _ refl d
      (λ f fs r h e c. let a = after_error_length c.2 in (cc (c.0, c.1, x, k, n, a.0), a.2))
      (λ f fs r h e c. (cc (c.0, x), cc (c.0, k), Row.error_length (cc (c.0, n)) (rw v at h) c.1))

  pub error_first_barred : 1 < s.value → Taken (Hex 2) w at s → Stuck w at (continues_at stage.ErrorFirst p)
  error_first_barred n g = barred g (λ f fs r h e c. let a = after_first c.1 in let y = one_hex a.2 h in omega (arith, a.3))

  pub error_first_went : (q : Record) → known6 q ≡ known6 p.r → q.«data» ≡ s.value * 256 ^ 7 → s.value ≤ 1 → Taken (Hex 2) w at s
      → Stepped w at (continues_at stage.ErrorFirst p) (behind s.end stage.ErrorSecond 0 0 q)
  error_first_went q x d l g =
      went g _ refl (omega arith)
      (λ f fs r h e c. let a = after_first c.1 in let y = one_hex a.2 h in
      record { known = c.0 ∙ sym x; sum = a.1; bytes = a.4; total = omega (arith, a.5) })
      (λ f fs r h e c. (c.known ∙ x, Row.first h l c.bytes (omega (arith, c.total))))

  pub error_second_barred : (Position s.value → ⊥) → Taken (Hex 2) w at s → Stuck w at (continues_at stage.ErrorSecond p)
  error_second_barred n g = barred g (λ f fs r h e c. let a = after_second c.bytes in let y : a.0 ≡ s.value = one_hex a.2 h in n (rw y at a.3))

  pub error_second_went : (q : Record) → known6 q ≡ known6 p.r → q.«data» ≡ p.r.«data» + s.value * 256 ^ 6 → p.r.«data» ≤ 256 ^ 7 → Position s.value
      → Taken (Hex 2) w at s → Stepped w at (continues_at stage.ErrorSecond p) (behind s.end stage.Bytes 2 (256 ^ 5) q)
  error_second_went q x d l o g =
      went g _ refl (let b = hex_below g.has in omega arith)
      (λ f fs r h e c. let a = after_second c.bytes in let y = one_hex a.2 h in
      record { known = c.known ∙ sym x; sum = a.1; bytes = a.4; total = omega (arith, c.total, a.5) })
      (λ f fs r h e c. record { known = c.known ∙ x; sum = s.value * 256 ^ 6 + c.sum; bytes = Row.second h o c.bytes refl; total = omega (arith, c.total) })
