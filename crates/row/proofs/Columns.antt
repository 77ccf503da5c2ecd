-- What each stage knows: the columns that it takes off a row, and what it puts back.
use Prim.Native.Nat.{ℕ, zero, suc, ◌-◌, ◌^◌, ◌≤◌, ◌<◌}
use mathlib.Core.Path.{◌≡◌, refl, sym, ◌∙◌}
use mathlib.Core.Logic.{◌≢◌}
use mathlib.Core.Bool.{true, false}
use mathlib.Core.List.{List, ◌∷◌}
use native.Mathlib.Omega.{arith}
use lib.ListN.{length}
use Rattle.digits.proofs.Theorems.{one_hex}
use Rattle.fields.specs.declared.Scan.{Scan}
use Rattle.fields.specs.Columns.{NumberField, OffsetField, BusField, IdField, standard, long, LengthField}
use Rattle.fields.specs.inner.Window.{HexField, TypeField, Taken}
use Rattle.fields.specs.inner.Window.{rx as type-rx, tx as type-tx, warng as type-warng, error as type-err}
use Rattle.fields.proofs.Columns.{number_one, offset_one, bus_one, length_one, type_one}
use Rattle.record.specs.declared.Record.{Record}
use Rattle.row.specs.declared.Part.{Part}
use Rattle.row.specs.declared.Step.{Step}
use Rattle.row.specs.declared.Stage.{Stage}
use Rattle.row.specs.declared.Stage.TheVariants as stage
use Rattle.row.specs.Versions.{Version, fraction_digits, has_bus}
use Rattle.row.specs.Row
use Rattle.row.specs.inner.Ids.{FormOf}
use Rattle.row.specs.inner.Stages.{Stepped, Stuck, Continues, Good, known2, known4, continues_at}
use Rattle.row.proofs.Moves.{barred, went}

-- The place after a field, and the state there.
abbrev pub behind : ℕ → Stage → ℕ → ℕ → Record → Step
behind at stage left place r = record { at = at; part = record { stage = stage; left = left; place = place; r = r } }

-- Columns taken off.

pub after_number : {v k : ℕ} {r : Record} {f : List ℕ} {fs : List (List ℕ)} → Row.RowFields v k r (f ∷ fs) → NumberField k f × Row.FromOffset r v fs
after_number (Row.number n o) = (n, o)

pub after_offset : {v : ℕ} {r : Record} {f : List ℕ} {fs : List (List ℕ)} → Row.FromOffset r v (f ∷ fs)
    → OffsetField (fraction_digits v) r.offset f × Row.FromBus r (has_bus v) fs
after_offset (Row.offset v o b) = (o, b)

without_bus : {r : Record} {fs : List (List ℕ)} → Row.FromBus r false fs → (r.bus ≡ 0) × Row.FromType r fs
without_bus (Row.no_bus b m) = (b, m)

pub after_bus : {r : Record} {f : List ℕ} {fs : List (List ℕ)} → Row.FromBus r true (f ∷ fs) → BusField r.bus f × Row.FromType r fs
after_bus (Row.bus b m) = (b, m)

pub after_id : {sent : ℕ} {r : Record} {f : List ℕ} {fs : List (List ℕ)} → Row.FrameId sent r (f ∷ fs) → IdField r.extended r.id f × Row.FrameLength sent r fs
after_id (Row.frame_id i l) = (i, l)

pub after_length : {sent : ℕ} {r : Record} {f : List ℕ} {fs : List (List ℕ)} → Row.FrameLength sent r (f ∷ fs) → LengthField r.len f × Row.FrameData sent r fs
after_length (Row.frame_length l d) = (l, d)

-- The row number.
module _ {w : List ℕ} {at k : ℕ} {s : Scan} {version : ℕ} (g : Taken NumberField w at s) where
  -- no row k has another number
  pub number_barred : s.value ≢ k → Stuck w at (λ fs r. Row.RowFields version k r fs)
  number_barred n = barred g (λ f fs r h e c. n (number_one h (after_number c).0))

  -- and the columns from the offset on follow it
  pub number_went : (t : Step) → t.at ≡ s.end → s.value ≡ k → Good t.part
      → ((fs : List (List ℕ)) (r : Record) → Continues t.part fs r ≡ Row.FromOffset r version fs)
      → Stepped w at (λ fs r. Row.RowFields version k r fs) t
  number_went t z e d o = went g t z d (λ f fs r h _ c. rw o (after_number c).1) (λ f fs r h _ c. Row.number (rw e at h) (rw o at c))

module _ {w : List ℕ} {at : ℕ} (p : Part) {s : Scan} where
  module _ {v : ℕ} (is : Version v) (g : Taken (OffsetField (fraction_digits v)) w at s) where
    -- an offset with no bus behind it, and one with a bus
    pub offset_went : has_bus v ≡ false → (q : Record) → q.offset ≡ s.value → q.bus ≡ 0 → q.«data» ≡ 0
        → Stepped w at (continues_at (stage.Offset v) p) (behind s.end stage.TypeColumn 0 0 q)
    offset_went n q x y d =
        went g _ refl d
        (λ f fs r o e c. let a = after_offset c in let h = offset_one a.0 o in let b = without_bus (rw n at a.1) in (cc (x, y, b.0), b.1))
        (λ f fs r o e c. let h : s.value ≡ r.offset = cc (x, c.0) in let b : r.bus ≡ 0 = cc (y, c.0) in Row.offset is (rw h at o) (rw n (Row.no_bus b c.1)))

    pub offset_bus_went : has_bus v ≡ true → (q : Record) → q.offset ≡ s.value → q.«data» ≡ 0
        → Stepped w at (continues_at (stage.Offset v) p) (behind s.end stage.Bus 0 0 q)
    offset_bus_went n q x d =
        went g _ refl d
        (λ f fs r o e c. let a = after_offset c in (offset_one a.0 o ∙ sym x, rw n at a.1))
        (λ f fs r o e c. let h : s.value ≡ r.offset = sym x ∙ sym c.0 in Row.offset is (rw h at o) (rw n c.1))

  pub bus_went : (q : Record) → q.offset ≡ p.r.offset → q.bus ≡ s.value → q.«data» ≡ 0 → Taken BusField w at s
      → Stepped w at (continues_at stage.Bus p) (behind s.end stage.TypeColumn 0 0 q)
  bus_went q x y d g =
      went g _ refl d
      (λ f fs r b e c. let a = after_bus c.1 in let h = bus_one a.0 b in (cc (x, y, c.0), a.1))
      (λ f fs r b e c. let h : s.value ≡ r.bus = cc (y, c.0) in let o : r.offset ≡ p.r.offset = cc (x, c.0) in (o, Row.bus (rw h at b) c.1))

-- The type.

-- what follows each type
pub data AfterType (r : Record) : ℕ → List (List ℕ) → Type 0 where
  received : {fs : List (List ℕ)} → Row.FrameId 0 r fs → AfterType r 0 fs
  sent : {fs : List (List ℕ)} → Row.FrameId 1 r fs → AfterType r 1 fs
  warned : {fs : List (List ℕ)} → Row.WarningId r fs → AfterType r 2 fs
  failed : {fs : List (List ℕ)} → Row.ErrorIdField r fs → AfterType r 3 fs

pub type_of : {r : Record} {f : List ℕ} {fs : List (List ℕ)} → Row.FromType r (f ∷ fs) → (v : ℕ) × TypeField v f × AfterType r v fs
type_of (Row.rx e h) = (0, type-rx e, received h)
type_of (Row.tx e h) = (1, type-tx e, sent h)
type_of (Row.warng e h) = (2, type-warng e, warned h)
type_of (Row.error e h) = (3, type-err e, failed h)

pub some_type : {r : Record} {f : List ℕ} {fs : List (List ℕ)} → Row.FromType r (f ∷ fs) → (v : ℕ) × TypeField v f
some_type h = let x = type_of h in (x.0, x.1)

pub after_type : {v : ℕ} {r : Record} {f : List ℕ} {fs : List (List ℕ)} → TypeField v f → Row.FromType r (f ∷ fs) → AfterType r v fs
after_type m h = let x = type_of h in rw (type_one x.1 m) at x.2

type_back : {v : ℕ} {r : Record} {f : List ℕ} {fs : List (List ℕ)} → TypeField v f → AfterType r v fs → Row.FromType r (f ∷ fs)
type_back (type-rx e) (received h) = Row.rx e h
type_back (type-tx e) (sent h) = Row.tx e h
type_back (type-warng e) (warned h) = Row.warng e h
type_back (type-err e) (failed h) = Row.error e h

pub frame_of : {v : ℕ} {r : Record} {fs : List (List ℕ)} → v ≤ 1 → AfterType r v fs → Row.FrameId v r fs
frame_of l (received h) = h
frame_of l (sent h) = h
frame_of l (warned h) = absurd (omega arith)
frame_of l (failed h) = absurd (omega arith)

of_frame : {r : Record} {fs : List (List ℕ)} (v : ℕ) → v ≤ 1 → Row.FrameId v r fs → AfterType r v fs
of_frame zero l h = received h
of_frame (suc zero) l h = sent h
of_frame (suc (suc v)) l h = absurd (omega arith)

pub warning_of : {v : ℕ} {r : Record} {fs : List (List ℕ)} → v ≡ 2 → AfterType r v fs → Row.WarningId r fs
warning_of l (received h) = absurd (omega arith)
warning_of l (sent h) = absurd (omega arith)
warning_of l (warned h) = h
warning_of l (failed h) = absurd (omega arith)

pub error_of : {v : ℕ} {r : Record} {fs : List (List ℕ)} → 2 < v → AfterType r v fs → Row.ErrorIdField r fs
error_of l (received h) = absurd (omega arith)
error_of l (sent h) = absurd (omega arith)
error_of l (warned h) = absurd (omega arith)
error_of l (failed h) = h

of_error : {v : ℕ} {r : Record} {f : List ℕ} {fs : List (List ℕ)} → 2 < v → TypeField v f → Row.ErrorIdField r fs → AfterType r v fs
of_error l (type-rx e) h = absurd (omega arith)
of_error l (type-tx e) h = absurd (omega arith)
of_error l (type-warng e) h = absurd (omega arith)
of_error l (type-err e) h = failed h

module _ {w : List ℕ} {at : ℕ} (p : Part) {s : Scan} (g : Taken TypeField w at s) where
  pub type_frame : (q : Record) → s.value ≤ 1 → known2 q ≡ known2 p.r → q.kind ≡ s.value → q.«data» ≡ 0
      → Stepped w at (continues_at stage.TypeColumn p) (behind s.end stage.Id 0 0 q)
  type_frame q l x k d =
      went g _ refl (omega arith, d)
      (λ f fs r m e c. (c.0 ∙ sym x, rw (← k) at (frame_of l (after_type m c.1))))
      (λ f fs r m e c. (c.0 ∙ x, type_back m (of_frame s.value l (rw k at c.1))))

  pub type_warning : s.value ≡ 2 → p.r.«data» ≡ 0 → Stepped w at (continues_at stage.TypeColumn p) (behind s.end stage.WarningId 0 0 p.r)
  type_warning l d =
      went g _ refl d
      (λ f fs r m e c. (c.0, warning_of l (after_type m c.1)))
      (λ f fs r m e c. (c.0, type_back m (rw (← l) at (warned c.1))))

  pub type_error : 2 < s.value → p.r.«data» ≡ 0 → Stepped w at (continues_at stage.TypeColumn p) (behind s.end stage.ErrorId 0 0 p.r)
  type_error l d =
      went g _ refl d
      (λ f fs r m e c. (c.0, error_of l (after_type m c.1)))
      (λ f fs r m e c. (c.0, type_back m (of_error l m c.1)))

-- The ID of a frame.

pub form : {v x i : ℕ} {f : List ℕ} → HexField v f → IdField x i f → (i ≡ v) × FormOf v (length f) x
form h (standard e k l) = let z = one_hex k h.spelled in (z, FormOf.standard k.width (rw z at l) e)
form h (long e k l) = let z = one_hex k h.spelled in (z, FormOf.long k.width (rw z at l) e)

pub same_form : {v n x y : ℕ} → FormOf v n x → FormOf v n y → x ≡ y
same_form (FormOf.standard a l e) (FormOf.standard b k f) = e ∙ sym f
same_form (FormOf.standard a l e) (FormOf.long b k f) = absurd (omega arith)
same_form (FormOf.long a l e) (FormOf.standard b k f) = absurd (omega arith)
same_form (FormOf.long a l e) (FormOf.long b k f) = e ∙ sym f

pub some_id : {x i : ℕ} {f : List ℕ} → IdField x i f → (v : ℕ) × HexField v f
some_id {i = i} (standard e k l) = let n = k.width in (i, record { spelled = rw (← n) at k; short = omega arith })
some_id {i = i} (long e k l) = let n = k.width in (i, record { spelled = rw (← n) at k; short = omega arith })

module _ {w : List ℕ} {at : ℕ} (p : Part) {s : Scan} (g : Taken HexField w at s) where
  -- no ID has this width and value
  pub id_barred : ((x : ℕ) → FormOf s.value (s.end - at) x → ⊥) → Stuck w at (continues_at stage.Id p)
  id_barred n =
      barred g (λ f fs r h e c. let y : length f ≡ s.end - at = omega arith in n r.extended (rw y at (form h (after_id c.1).0).1))

  pub id_went : (q : Record) → p.r.kind ≤ 1 → known2 q ≡ known2 p.r → q.id ≡ s.value → q.kind ≡ p.r.kind → q.«data» ≡ 0
      → FormOf s.value (s.end - at) q.extended → Stepped w at (continues_at stage.Id p) (behind s.end stage.Length 0 0 q)
  id_went q l x i k d o =
      went g _ refl (rw k l, d)
      (λ f fs r h e c. let a = after_id c.1 in let z = form h a.0 in
      let y : s.end - at ≡ length f = omega arith in
      let m : r.extended ≡ q.extended = same_form z.1 (rw y at o) in
      (cc (c.0, x, i, z.0, m), rw (← k) at a.1))
      (λ f fs r h e c. let y : s.end - at ≡ length f = omega arith in
      let m : q.extended ≡ r.extended = cc c.0 in
      let n : s.value ≡ r.id = cc (c.0, i) in
      (cc (c.0, x), Row.frame_id (back (rw y at o) h m n) (rw k at c.1)))
    where
      back : {x y n : ℕ} {f : List ℕ} → FormOf s.value (length f) x → HexField s.value f → x ≡ y → s.value ≡ n → IdField y n f
      back (FormOf.standard n l x) h e z = standard (sym e ∙ x) (rw (n, z) at h.spelled) (rw z at l)
      back (FormOf.long n l x) h e z = long (sym e ∙ x) (rw (n, z) at h.spelled) (rw z at l)

-- The length of a frame.

module _ {w : List ℕ} {at : ℕ} (p : Part) {s : Scan} where
  pub length_went : (q : Record) → p.r.kind ≤ 1 → known4 q ≡ known4 p.r → q.len ≡ s.value → q.kind ≡ p.r.kind → q.«data» ≡ 0
      → Taken LengthField w at s → Stepped w at (continues_at stage.Length p) (behind s.end stage.Data s.value (256 ^ 7) q)
  length_went q l x n k d g =
      went g _ refl (rw k l, d, sym n, refl)
      (λ f fs r h e c. let a = after_length c.1 in let z = length_one a.0 h in (cc (c.0, x, n, z), rw (← k) at a.1))
      (λ f fs r h e c. let z : s.value ≡ r.len = cc (c.0, n) in (cc (c.0, x), Row.frame_length (rw z at h) (rw k at c.1)))
