-- A gap changes no field, a field steps the state, and the line's end ends the row.
use Prim.Native.Nat.{ℕ, suc, ◌<◌}
use mathlib.Core.Path.{◌≡◌, refl, ap, sym, ◌∙◌, subst}
use mathlib.Core.Logic.{◌≢◌}
use mathlib.Core.Bool.{Bool, true, false, true≢false}
use mathlib.Core.List.{List, [], ◌∷◌, ◌++◌, append_assoc}
use native.Mathlib.Omega.{arith}
use lib.ListN.{length, get_or, drop, length-append}
use lib.Seq.{slice, drop-cons, length-slice}
use Rattle.fields.specs.Parted.{NoBlank, Parted, none, blank_first, field}
use Rattle.fields.specs.Runs.{All, empty, more, Stops, over, halt}
use Rattle.fields.specs.inner.Window.{NoEnd, Solid, LineBeforeCr, Lined, Skipped, FieldAt, Starts}
use Rattle.fields.proofs.Parts.{IsBlank, blanks, unblanks, only_none, first, first_only}
use Rattle.fields.proofs.Runs.{all_map, all_left}
use Rattle.fields.proofs.Window.{inside, slice_drop, next_line}
use Rattle.record.specs.declared.Record.{Record}
use Rattle.row.specs.declared.Part.{Part}
use Rattle.row.specs.declared.Step.{Step}
use Rattle.row.specs.inner.Stages.{Stepped, Stuck, EndsRow, whole, early, Continues, Good}
use Rattle.row_reader.specs.inner.Chain.{Finds, found}
use Rattle.row_reader.specs.inner.Chain.{none as None-found}

-- The line without its first byte, and without bytes of its front.

behead : {b : ℕ} {s : List ℕ} (line : List ℕ) → NoEnd b → LineBeforeCr line (b ∷ s) → (l : List ℕ) × (line ≡ b ∷ l) × LineBeforeCr l s
behead {b} [] n l = let h : b ≡ 13 = cc l.ended in absurd (n h)
behead {b} {s} (c ∷ line) n l =
    let h : c ≡ b = cc l.ended in
    let t : s ≡ line ++ (13 ∷ l.rest) = cc l.ended in
    (line, cc (h), record { rest = l.rest; plain = tail l.plain; ended = t })
  where
    tail : All NoEnd (c ∷ line) → All NoEnd line
    tail (more p q) = q

pub peel : {f : List ℕ} (s : List ℕ) {line : List ℕ} → All NoEnd f → LineBeforeCr line (f ++ s)
    → (l : List ℕ) × (line ≡ f ++ l) × LineBeforeCr l s
peel s {line} empty l = (line, refl, l)
peel s {line} (more {b = b} n a) l =
    let x = behead line n l in
    let y = peel s a x.2 in
    (y.0, cc (x.1, y.1), y.2)

pub ends_here : (w : List ℕ) (a : ℕ) {line : List ℕ} → LineBeforeCr line (drop a w) → get_or w a 0 ≡ 13 → line ≡ []
ends_here w a {line} l e = go line l
  where
    go : (line : List ℕ) → LineBeforeCr line (drop a w) → line ≡ []
    go [] l = refl
    go (b ∷ line) l =
        let i = inside w a (record { line = b ∷ line; is = l }) in
        let c : get_or w a 0 ∷ drop (suc a) w ≡ b ∷ (line ++ (13 ∷ l.rest)) = sym (drop-cons w a 0 i) ∙ l.ended in
        let h : b ≡ 13 = cc in
        absurd (head l.plain h)
      where
        head : All NoEnd (b ∷ line) → b ≡ 13 → ⊥
        head (more n p) = n

blank_plain : (b : ℕ) → IsBlank b → NoEnd b
blank_plain b e = λ h. omega arith

module _ {w : List ℕ} {at a : ℕ} (k : Skipped w at a) where
  -- the gap, and the line behind it
  gap : drop at w ≡ slice at a w ++ drop a w
  gap = let i = inside w a k.lined in slice_drop at a w k.from (omega arith)

  pub after_gap : {line : List ℕ} → LineBeforeCr line (drop at w) → (l : List ℕ) × (line ≡ slice at a w ++ l) × LineBeforeCr l (drop a w)
  after_gap l = peel (drop a w) (all_map blank_plain k.blanks) (rw gap at l)

  pub gap_found : {C : List (List ℕ) → Record → Type 0} {out : Record} {line : List ℕ} {e : ℕ} → LineBeforeCr line (drop at w)
      → ((l : List ℕ) → LineBeforeCr l (drop a w) → Finds C a l out e) → Finds C at line out e
  gap_found {C} {out} {line} {e} l f = let x = after_gap l in go x.1 (f x.0 x.2)
    where
      i : a < length w
      i = inside w a k.lined

      go : {l : List ℕ} → line ≡ slice at a w ++ l → Finds C a l out e → Finds C at line out e
      go {l} q (found ps c z) =
          let n = ap length q ∙ length-append (slice at a w) l in
          let b = i in
          let m = length-slice at a w (omega arith) in
          let h = k.from in
          found (rw (← q) at (blanks k.blanks ps)) c (omega arith)
      go {l} q (None-found z f) = None-found z (λ fs r ps. f fs r (unblanks l k.blanks (rw q at ps)))

  pub gap_starts : get_or w a 0 ≢ 13 → Starts w a
  gap_starts n = record { lined = k.lined; solid = record { blank = k.stop; end = n } }

-- A field, and the line behind it.

pub solid_plain : (b : ℕ) → Solid b → NoEnd b
solid_plain b s = s.end

pub solid_dark : (b : ℕ) → Solid b → NoBlank b
solid_dark b s = s.blank

-- behind a field the line ends or a blank stands
pub parts_here : {l s : List ℕ} → LineBeforeCr l s → Stops Solid s → Stops NoBlank l
parts_here {l} k h = go l k h
  where
    go : (l : List ℕ) {s : List ℕ} → LineBeforeCr l s → Stops Solid s → Stops NoBlank l
    go [] k h = over
    go (b ∷ l) k h = halt (λ n. no k.ended h (record { blank = n; end = head k.plain }))
      where
        head : All NoEnd (b ∷ l) → b ≡ 13 → ⊥
        head (more n p) = n

        no : {s t : List ℕ} → s ≡ b ∷ t → Stops Solid s → Solid b → ⊥
        no e over x = let z : ◌≡◌ {A = ℕ} 0 1 = cc in omega arith
        no e (halt {b = c} n) x = let h : c ≡ b = cc in n (rw h x)

-- the first field of a line that starts with one
pub record FirstField (w : List ℕ) (at : ℕ) (fs : List (List ℕ)) : Type 0 where
  pub field : List ℕ
  pub rest : List ℕ
  pub others : List (List ℕ)
  pub there : FieldAt field rest (drop at w)
  pub first : fs ≡ field ∷ others

pub first_field : (w : List ℕ) (at : ℕ) {fs : List (List ℕ)} {line : List ℕ} → Starts w at → LineBeforeCr line (drop at w) → Parted fs line
    → FirstField w at fs
first_field w at k l ps = go ps l (next_line w at l k.solid.end).1
  where
    b : ℕ
    b = get_or w at 0

    go : {fs : List (List ℕ)} {line x : List ℕ} → Parted fs line → LineBeforeCr line (drop at w) → line ≡ b ∷ x → FirstField w at fs
    go none l e = let z : ◌≡◌ {A = ℕ} 0 1 = cc in absurd (omega arith)
    go (blank_first p) l e = let z : 32 ≡ b = cc in absurd (k.solid.blank (sym z))
    go (field {b = c} {f = f} {fs = gs} {s = s} n h d p) l e = record {
      field = c ∷ f;
      rest = s ++ (13 ∷ l.rest);
      others = gs;
      there = record {
        bytes = l.ended ∙ rw d (append_assoc (c ∷ f) s (13 ∷ l.rest));
        some = omega arith;
        solid = both n (all_left (c ∷ f) s (rw d at l.plain));
        stops = behind l.rest h;
      };
      first = refl;
    }
      where
        both : {g : List ℕ} → All NoBlank g → All NoEnd g → All Solid g
        both empty empty = empty
        both (more x a) (more y c) = more (record { blank = x; end = y }) (both a c)

        behind : {s : List ℕ} (t : List ℕ) → Stops NoBlank s → Stops Solid (s ++ (13 ∷ t))
        behind t over = halt (λ x. x.end refl)
        behind t (halt n) = halt (λ x. n x.blank)

module _ {w : List ℕ} {at : ℕ} {C : List (List ℕ) → Record → Type 0} where
  -- the field steps the state, and the rest of the line is read from there
  pub field_found : {t : Step} {out : Record} {line : List ℕ} {e : ℕ} → Stepped w at C t → LineBeforeCr line (drop at w)
      → ((l : List ℕ) → LineBeforeCr l (drop t.at w) → Finds (Continues t.part) t.at l out e) → Finds C at line out e
  field_found {t} {out} {line} {e} d l k =
      let a = d.there in
      let x = peel (drop t.at w) (all_map solid_plain a.solid) (rw a.bytes at l) in
      go x.1 (parts_here x.2 a.stops) (k x.0 x.2)
    where
      go : {l : List ℕ} → line ≡ d.field ++ l → Stops NoBlank l → Finds (Continues t.part) t.at l out e → Finds C at line out e
      go {l} q s (found ps c y) =
          let a = d.there in
          let z = d.place in
          let m = ap length q ∙ length-append d.field l in
          found (first a.some (all_map solid_dark a.solid) s ps q) (d.back _ _ c) (omega arith)
      go {l} q s (None-found y h) = None-found y (λ fs r ps c.
          let u = first_only d.there.some (all_map solid_dark d.there.solid) s ps q in
          h u.0 r u.2 (d.onto u.0 r (rw u.1 at c)))

  -- no row goes on with the field
  pub field_none : {out : Record} {line : List ℕ} → Stuck w at C → Starts w at → LineBeforeCr line (drop at w) → Finds C at line out 0
  field_none d k l = None-found refl (λ fs r ps c.
      let x = first_field w at k l ps in
      d.none x.field x.rest x.there x.others r (rw x.first at c))

-- Where the line ends.
pub end_found : (w : List ℕ) (a : ℕ) {C : List (List ℕ) → Record → Type 0} {out : Record} {line : List ℕ} {e : ℕ} → LineBeforeCr line (drop a w)
    → get_or w a 0 ≡ 13 → Finds C a [] out e → Finds C a line out e
end_found w a l z f = rw (ends_here w a l z) f

-- The answer at the end of the line.
pub not_whole : {p : Part} {a : ℕ} {out : Record} (b : Bool) → b ≡ false → EndsRow p.stage p b → Finds (Continues p) a [] out 0
not_whole false e (early f) = None-found refl (λ fs r ps c. f r (rw (only_none ps) at c))
not_whole true e h = absurd (true≢false e)

pub is_whole : {p : Part} {a e : ℕ} {out : Record} (b : Bool) → b ≡ true → EndsRow p.stage p b → out ≡ p.r → e ≡ suc a
    → Finds (Continues p) a [] out e
is_whole {p = p} true e (whole c u) o z = found none (subst (λ r. Continues p [] r) (sym o) c) (omega arith)
is_whole false e h o z = absurd (true≢false (sym e))

-- Behind a field that was taken the line goes on.
pub record Onward (w : List ℕ) (at : ℕ) (t : Step) : Type 0 where
  pub good : Good t.part
  pub lined : Lined (drop t.at w)
  pub later : at < t.at
  pub inside : at < length w

pub onward : {w : List ℕ} {at : ℕ} {C : List (List ℕ) → Record → Type 0} {t : Step} → Stepped w at C t → Starts w at → Onward w at t
onward {w} {at} {C} {t} d k =
    let a = d.there in
    let e = d.place in
    let l = k.lined.is in
    let x = peel (drop t.at w) (all_map solid_plain a.solid) (rw a.bytes at l) in
    record { good = d.good; lined = record { line = x.0; is = x.2 }; later = let s = a.some in omega arith; inside = inside w at k.lined }
