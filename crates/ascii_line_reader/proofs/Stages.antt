-- The parts behind the stamp, each as a stage of the chain.
use Prim.Native.Nat.{ℕ, suc, ◌+◌, ◌*◌, ◌/◌, ◌^◌, ◌≤◌}
use mathlib.Core.Path.{◌≡◌, refl, ap, ◌∙◌}
use mathlib.Core.Logic.{◌≢◌}
use mathlib.Core.List.{List, [], ◌∷◌}
use native.Mathlib.Nat.{add_assoc}
use native.Mathlib.Omega.{arith}
use Rattle.std.specs.Prelude.{Option, Some, None}
use Rattle.base.specs.Text.{text}
use Rattle.digits.specs.Digits.{Hex}
use Rattle.digits.proofs.Theorems.{one_hex}
use Rattle.fields.specs.Columns.{LengthField}
use Rattle.fields.proofs.Columns.{length_one}
use Rattle.record.specs.declared.Record.{Record}
use Rattle.row.specs.Row.{Nothing, ByteFields, byte}
use Rattle.ascii_line_reader.specs.declared.FrameRead.{FrameRead}
use Rattle.ascii_line_reader.specs.inner.Columns.{TypePart, ChannelPart, DirectionPart, IdPart}
use Rattle.ascii_line_reader.specs.inner.Frame.{FromType, from_type, from_channel, from_bar, no_word, word, from_direction, from_id, from_length, ChannelOf, BarOf, ExtendedOf, DirectionOf, IdOf, LengthOf, DataOf, Found, Leads}
use Rattle.ascii_line_reader.proofs.Columns.{type_one, channel_one, direction_one, id_one}
use Rattle.ascii_line_reader.proofs.Chain.{Stage}

-- No parts are not some.
nil : {f : List ℕ} {fs : List (List ℕ)} → f ∷ fs ≡ [] → ⊥
nil e = let z : ◌≡◌ {A = ℕ} 1 0 = cc in omega arith

pub type_stage : Stage FromType TypePart ChannelOf
type_stage = record { on = on; un = un; some = some; more = more }
  where
    on : {v : ℕ} (r : Record) {f : List ℕ} {fs : List (List ℕ)} → TypePart v f → ChannelOf v r fs → FromType r (f ∷ fs)
    on {v} r {f} p (e, c) = let z : r.extended ≡ v = cc in let q : TypePart r.extended f = rw z p in from_type q c

    un : {v : ℕ} (r : Record) {f : List ℕ} {fs : List (List ℕ)} → TypePart v f → FromType r (f ∷ fs) → ChannelOf v r fs
    un r p (from_type q c) = (ap (λ (x : ℕ). x ∷ []) (type_one q p), c)

    some : (r : Record) {f : List ℕ} {fs : List (List ℕ)} → FromType r (f ∷ fs) → (v : ℕ) × TypePart v f
    some r (from_type q c) = (_, q)

    more : (r : Record) {fs : List (List ℕ)} → fs ≡ [] → FromType r fs → ⊥
    more r e (from_type q c) = nil e

pub channel_stage : (x : ℕ) → Stage (ChannelOf x) ChannelPart (BarOf x)
channel_stage x = record { on = on; un = un; some = some; more = more }
  where
    on : {v : ℕ} (r : Record) {f : List ℕ} {fs : List (List ℕ)} → ChannelPart v f → BarOf x v r fs → ChannelOf x r (f ∷ fs)
    on {v} r {f} p (e, c) = let z : r.bus ≡ v = cc in let y : r.extended ≡ x = cc in let q : ChannelPart r.bus f = rw z p in (ap (λ (n : ℕ). n ∷ []) y, from_channel q c)

    un : {v : ℕ} (r : Record) {f : List ℕ} {fs : List (List ℕ)} → ChannelPart v f → ChannelOf x r (f ∷ fs) → BarOf x v r fs
    un r p (e, from_channel q c) = let z = channel_one q p in (cc, c)

    some : (r : Record) {f : List ℕ} {fs : List (List ℕ)} → ChannelOf x r (f ∷ fs) → (v : ℕ) × ChannelPart v f
    some r (e, from_channel q c) = (_, q)

    more : (r : Record) {fs : List (List ℕ)} → fs ≡ [] → ChannelOf x r fs → ⊥
    more r e (k, from_channel q c) = nil e

pub bar_stage : (x b : ℕ) → Stage (BarOf x b) (λ v f. f ≡ text "|") (λ v. ExtendedOf x b)
bar_stage x b = record { on = λ r p d. (d.0, from_bar p d.1); un = un; some = some; more = more }
  where
    un : (r : Record) {f : List ℕ} {fs : List (List ℕ)} → f ≡ text "|" → BarOf x b r (f ∷ fs) → ExtendedOf x b r fs
    un r p (e, from_bar q c) = (e, c)

    some : (r : Record) {f : List ℕ} {fs : List (List ℕ)} → BarOf x b r (f ∷ fs) → (v : ℕ) × (f ≡ text "|")
    some r (e, from_bar q c) = (0, q)

    more : (r : Record) {fs : List (List ℕ)} → fs ≡ [] → BarOf x b r fs → ⊥
    more r e (k, from_bar q c) = nil e

-- Without an extended ID no `EXTENDED` stands there.
pub no_extended : {x at : ℕ} {w : List ℕ} (b : ℕ) (y : Option FrameRead) → x ≡ 0 → Leads (DirectionOf x b) w at y → Leads (ExtendedOf x b) w at y
no_extended {x} b y z d line from fs l = go y (d line from fs l)
  where
    back : {gs : List (List ℕ)} (r : Record) → ExtendedOf x b r gs → DirectionOf x b r gs
    back r (e, no_word n c) = (e, c)
    back r (e, word n q c) = let i : r.extended ≡ x = cc in absurd (omega arith)

    go : (y : Option FrameRead) → Found (DirectionOf x b) line from fs y → Found (ExtendedOf x b) line from fs y
    go (Some u) h =
        let i : u.r.extended ≡ x = cc h.is.0 in
        record { is = (h.is.0, no_word (i ∙ z) h.is.1); tight = h.tight; end = h.end }
    go None h = λ t r c. h t r (back r c)

-- `EXTENDED` stands for an extended ID.
pub one : {x : ℕ} → x ≢ 0 → x ≤ 1 → x ≡ 1
one n h = omega arith

pub extended_stage : (x b : ℕ) → x ≡ 1 → Stage (ExtendedOf x b) (λ v f. f ≡ text "EXTENDED") (λ v. DirectionOf x b)
extended_stage x b one = record { on = on; un = un; some = some; more = more }
  where
    on : (r : Record) {f : List ℕ} {fs : List (List ℕ)} → f ≡ text "EXTENDED" → DirectionOf x b r fs → ExtendedOf x b r (f ∷ fs)
    on r p (e, c) = let z : r.extended ≡ x = cc in (e, word (z ∙ one) p c)

    un : (r : Record) {f : List ℕ} {fs : List (List ℕ)} → f ≡ text "EXTENDED" → ExtendedOf x b r (f ∷ fs) → DirectionOf x b r fs
    un r p (e, no_word n c) = let z : r.extended ≡ x = cc in absurd (omega arith)
    un r p (e, word n q c) = (e, c)

    some : (r : Record) {f : List ℕ} {fs : List (List ℕ)} → ExtendedOf x b r (f ∷ fs) → (v : ℕ) × (f ≡ text "EXTENDED")
    some r (e, no_word n c) = let z : r.extended ≡ x = cc in absurd (omega arith)
    some r (e, word n q c) = (0, q)

    more : (r : Record) {fs : List (List ℕ)} → fs ≡ [] → ExtendedOf x b r fs → ⊥
    more r e (k, no_word n c) = let z : r.extended ≡ x = cc in absurd (omega arith)
    more r e (k, word n q c) = nil e

pub direction_stage : (x b : ℕ) → Stage (DirectionOf x b) DirectionPart (IdOf x b)
direction_stage x b = record { on = on; un = un; some = some; more = more }
  where
    on : {v : ℕ} (r : Record) {f : List ℕ} {fs : List (List ℕ)} → DirectionPart v f → IdOf x b v r fs → DirectionOf x b r (f ∷ fs)
    on {v} r {f} p (e, c) = let z : r.kind ≡ v = cc in let q : DirectionPart r.kind f = rw z p in (cc, from_direction q c)

    un : {v : ℕ} (r : Record) {f : List ℕ} {fs : List (List ℕ)} → DirectionPart v f → DirectionOf x b r (f ∷ fs) → IdOf x b v r fs
    un r p (e, from_direction q c) = let z = direction_one q p in (cc, c)

    some : (r : Record) {f : List ℕ} {fs : List (List ℕ)} → DirectionOf x b r (f ∷ fs) → (v : ℕ) × DirectionPart v f
    some r (e, from_direction q c) = (_, q)

    more : (r : Record) {fs : List (List ℕ)} → fs ≡ [] → DirectionOf x b r fs → ⊥
    more r e (k, from_direction q c) = nil e

pub id_stage : (x b k : ℕ) → Stage (IdOf x b k) (IdPart x) (LengthOf x b k)
id_stage x b k = record { on = on; un = un; some = some; more = more }
  where
    on : {v : ℕ} (r : Record) {f : List ℕ} {fs : List (List ℕ)} → IdPart x v f → LengthOf x b k v r fs → IdOf x b k r (f ∷ fs)
    on {v} r {f} p (e, c) = let z : r.id ≡ v = cc in let y : r.extended ≡ x = cc in let q : IdPart r.extended r.id f = rw (y, z) p in (cc, from_id q c)

    un : {v : ℕ} (r : Record) {f : List ℕ} {fs : List (List ℕ)} → IdPart x v f → IdOf x b k r (f ∷ fs) → LengthOf x b k v r fs
    un {v} r {f} p (e, from_id q c) =
        let y : r.extended ≡ x = cc in
        let o : IdPart x r.id f = rw y at q in
        let z = id_one o p in
        (cc, c)

    some : (r : Record) {f : List ℕ} {fs : List (List ℕ)} → IdOf x b k r (f ∷ fs) → (v : ℕ) × IdPart x v f
    some r {f} (e, from_id q c) =
        let y : r.extended ≡ x = cc in
        let o : IdPart x r.id f = rw y at q in
        (r.id, o)

    more : (r : Record) {fs : List (List ℕ)} → fs ≡ [] → IdOf x b k r fs → ⊥
    more r e (y, from_id q c) = nil e

pub length_stage : (x b k i : ℕ) → Stage (LengthOf x b k i) LengthField (λ n. DataOf x b k i n (256 ^ 7) n 0)
length_stage x b k i = record { on = on; un = un; some = some; more = more }
  where
    on : {v : ℕ} (r : Record) {f : List ℕ} {fs : List (List ℕ)} → LengthField v f → DataOf x b k i v (256 ^ 7) v 0 r fs → LengthOf x b k i r (f ∷ fs)
    on {v} r {f} {fs} p (e, (u, t, c)) =
        let z : r.len ≡ v = cc in
        let y : u ≡ r.«data» = omega arith in
        let d : ByteFields Nothing (256 ^ 7) r.len r.«data» fs = rw (z, ← y) c in
        let q : LengthField r.len f = rw z p in
        (cc, from_length q d)

    un : {v : ℕ} (r : Record) {f : List ℕ} {fs : List (List ℕ)} → LengthField v f → LengthOf x b k i r (f ∷ fs) → DataOf x b k i v (256 ^ 7) v 0 r fs
    un {v} r {f} {fs} p (e, from_length q c) =
        let z = length_one q p in
        (cc, (r.«data», omega arith, rw z at c))

    some : (r : Record) {f : List ℕ} {fs : List (List ℕ)} → LengthOf x b k i r (f ∷ fs) → (v : ℕ) × LengthField v f
    some r (e, from_length q c) = (_, q)

    more : (r : Record) {fs : List (List ℕ)} → fs ≡ [] → LengthOf x b k i r fs → ⊥
    more r e (y, from_length q c) = nil e

-- One byte more, of `left + 1`.
pub byte_stage : (x b k i n place left sum : ℕ) → Stage (DataOf x b k i n place (suc left) sum) (Hex 2) (λ v. DataOf x b k i n (place / 256) left (sum + v * place))
byte_stage x b k i n place left sum = record { on = on; un = un; some = some; more = more }
  where
    on : {v : ℕ} (r : Record) {f : List ℕ} {fs : List (List ℕ)} → Hex 2 v f → DataOf x b k i n (place / 256) left (sum + v * place) r fs → DataOf x b k i n place (suc left) sum r (f ∷ fs)
    on {v} r p (e, (u, t, c)) = (e, (v * place + u, t ∙ add_assoc sum (v * place) u, byte p c refl))

    un : {v : ℕ} (r : Record) {f : List ℕ} {fs : List (List ℕ)} → Hex 2 v f → DataOf x b k i n place (suc left) sum r (f ∷ fs) → DataOf x b k i n (place / 256) left (sum + v * place) r fs
    un {v} r p (e, (m, t, byte {b = o} {u = u} q c z)) =
        let y : o * place ≡ v * place = ap (λ (j : ℕ). j * place) (one_hex q p) in
        (e, (u, omega arith, c))

    some : (r : Record) {f : List ℕ} {fs : List (List ℕ)} → DataOf x b k i n place (suc left) sum r (f ∷ fs) → (v : ℕ) × Hex 2 v f
    some r (e, (m, t, byte q c z)) = (_, q)

    more : (r : Record) {fs : List (List ℕ)} → fs ≡ [] → DataOf x b k i n place (suc left) sum r fs → ⊥
    more r e (y, (m, t, byte q c z)) = nil e
