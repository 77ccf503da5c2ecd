-- Laws on windows: where a line and its fields end.
use Prim.Native.Nat.{ℕ, suc, ◌+◌, ◌≤◌, ◌<◌}
use mathlib.Core.Path.{◌≡◌, ap, sym, ◌∙◌}
use mathlib.Core.Logic.{◌≢◌, ◌⊎◌, ⊎_elim}
use mathlib.Core.List.{List, [], ◌∷◌, ◌++◌}
use native.Mathlib.Numerals.{add-one}
use native.Mathlib.Omega.{arith}
use native.Mathlib.Decide.{dec_lt}
use lib.ListN.{length, get_or, take, drop, length-append, length-drop, take-append-drop, drop_of_length-le}
use lib.Seq.{slice, drop-cons, drop-append-le, length-take-le, length-slice}
use Rattle.fields.specs.Runs.{All, more, Stops, over, halt}
use Rattle.fields.specs.inner.Window.{NoEnd, Solid, LineBeforeCr, Lined, FieldAt}
use Rattle.fields.proofs.Runs.{cut}

-- A field ends before this byte.
abbrev pub End : ℕ → Type 0
End b = (b ≡ 32) ⊎ (b ≡ 13)

-- The byte that stands at a place, and what is after it.
pub head_at : (s : List ℕ) (i : ℕ) {b : ℕ} {t : List ℕ} → drop i s ≡ b ∷ t
    → (i < length s) × (get_or s i 0 ≡ b) × (drop (i + 1) s ≡ t)
head_at s i {b} {t} e =
    let h : i < length s = omega (arith, ap length e, length-drop i s) in
    let d : get_or s i 0 ∷ drop (suc i) s ≡ b ∷ t = sym (drop-cons s i 0 h) ∙ e in
    (h, cc, rw add-one (cc))

-- A CR stands inside the window.
pub inside : (w : List ℕ) (at : ℕ) → Lined (drop at w) → at < length w
inside w at l = omega (arith, ap length l.is.ended ∙ length-append l.line (13 ∷ l.is.rest), length-drop at w)

-- The line after a byte of it.
pub next_line : (w : List ℕ) (at : ℕ) {line : List ℕ} → LineBeforeCr line (drop at w) → get_or w at 0 ≢ 13
    → (l : List ℕ) × (line ≡ get_or w at 0 ∷ l) × LineBeforeCr l (drop (at + 1) w)
next_line w at {line} l n = go line l
  where
    here : (line : List ℕ) → LineBeforeCr line (drop at w) → at < length w
    here line l = inside w at (record { line = line; is = l })

    go : (line : List ℕ) → LineBeforeCr line (drop at w) → (l : List ℕ) × (line ≡ get_or w at 0 ∷ l) × LineBeforeCr l (drop (at + 1) w)
    go [] l =
        let e : get_or w at 0 ∷ drop (suc at) w ≡ 13 ∷ l.rest = sym (drop-cons w at 0 (here [] l)) ∙ l.ended in
        let h : get_or w at 0 ≡ 13 = cc in
        absurd (n h)
    go (b ∷ line) l =
        let e : get_or w at 0 ∷ drop (suc at) w ≡ b ∷ (line ++ (13 ∷ l.rest)) = sym (drop-cons w at 0 (here (b ∷ line) l)) ∙ l.ended in
        let h : b ≡ get_or w at 0 = cc in
        let t : drop (suc at) w ≡ line ++ (13 ∷ l.rest) = cc in
        (line, ap (λ (x : ℕ). x ∷ line) h, record { rest = l.rest; plain = tail l.plain; ended = rw add-one t })
      where
        tail : All NoEnd (b ∷ line) → All NoEnd line
        tail (more p a) = a

pub next_lined : (w : List ℕ) (at : ℕ) → Lined (drop at w) → get_or w at 0 ≢ 13 → Lined (drop (at + 1) w)
next_lined w at l n = let x = next_line w at l.is n in record { line = x.0; is = x.2 }

-- The window from one place on is what stands up to another, and what stands from there on.
pub slice_drop : (at e : ℕ) (w : List ℕ) → at ≤ e → e ≤ length w → drop at w ≡ slice at e w ++ drop e w
slice_drop at e w h k =
    let b : at ≤ length (take e w) = rw (length-take-le e w k) h in
    ap (drop at) (sym (take-append-drop e w)) ∙ drop-append-le at (take e w) (drop e w) b

-- The field at the start of a list is the only one.
pub field_one : {f g rest other s : List ℕ} → FieldAt f rest s → FieldAt g other s → (f ≡ g) × (rest ≡ other)
field_one a b = cut a.solid b.solid a.stops b.stops (sym a.bytes ∙ b.bytes)

pub stops_here : (w : List ℕ) (e : ℕ) → End (get_or w e 0) → Stops Solid (drop e w)
stops_here w e h = go (dec_lt e (length w))
  where
    go : Dec (e < length w) → Stops Solid (drop e w)
    go (yes l) = rw (drop-cons w e 0 l) (halt (λ s. ⊎_elim s.blank s.end h))
    go (no n) = let l : length w ≤ e = omega arith in rw (drop_of_length-le w l) over

pub no_stop : (w : List ℕ) (e : ℕ) → e < length w → Solid (get_or w e 0) → Stops Solid (drop e w) → ⊥
no_stop w e l p s = go (rw (drop-cons w e 0 l) at s)
  where
    go : Stops Solid (get_or w e 0 ∷ drop (suc e) w) → ⊥
    go (halt n) = n p

-- What stands from a place up to a byte that ends a field is the field.
pub field_of : (w : List ℕ) (at e : ℕ) → at < e → e ≤ length w → All Solid (slice at e w) → End (get_or w e 0)
    → FieldAt (slice at e w) (drop e w) (drop at w)
field_of w at e l k a h = record {
  bytes = slice_drop at e w (omega arith) k;
  some = omega (arith, length-slice at e w k);
  solid = a;
  stops = stops_here w e h;
}
