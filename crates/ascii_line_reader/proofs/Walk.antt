-- Walking over a line: the part behind a gap, taken or not, over any relation P of numbers and parts; and what is left of the line behind it.
use Prim.Native.Nat.{ℕ, ◌<◌}
use mathlib.Core.Path.{◌≡◌, ap, subst, ◌∙◌}
use mathlib.Core.List.{List, [], ◌∷◌, ◌++◌, append_assoc}
use native.Mathlib.Omega.{arith}
use lib.ListN.{length, drop, length-append}
use lib.Seq.{slice, length-slice}
use Rattle.std.specs.Prelude.{None}
use Rattle.fields.specs.declared.Scan.{Scan}
use Rattle.fields.specs.Runs.{All, more}
use Rattle.fields.specs.Parted.{NoBlank, Parted}
use Rattle.fields.specs.inner.Window.{LineBeforeCr, Lined, Skipped, Starts, EndAfter, Taken, Takes}
use Rattle.fields.proofs.Parts.{unblanks, only_none, first_only}
use Rattle.fields.proofs.Runs.{all_map, all_right}
use Rattle.fields.proofs.Window.{inside}
use Rattle.row_reader.proofs.Walk.{peel, ends_here, after_gap, solid_plain, solid_dark, parts_here, first_field}
use Rattle.ascii_line_reader.specs.AsciiLine.{Tight}
use Rattle.ascii_line_reader.specs.inner.Frame.{Left}

-- What ends with one byte or more, none of them a blank, has no blank at its end.
pub tight_end : (t : List ℕ) {f : List ℕ} → 0 < length f → All NoBlank f → Tight (t ++ f)
tight_end [] h a s e = go (all_right s (32 ∷ []) (rw e at a))
  where
    go : All NoBlank (32 ∷ []) → ⊥
    go (more n p) = n (cc)
tight_end (b ∷ t) {f} h a [] e = omega (arith, ap length e, length-append t f)
tight_end (b ∷ t) {f} h a (c ∷ s) e = let d : t ++ f ≡ s ++ (32 ∷ []) = cc in tight_end t h a s d

joined : (a b c d : List ℕ) → a ++ (b ++ (c ++ d)) ≡ ((a ++ b) ++ c) ++ d
joined a b c d = simp append_assoc

-- The line behind a gap, with the same parts.
behind_gap : {line w : List ℕ} {from at a : ℕ} {fs : List (List ℕ)} → Skipped w at a → (l : Left line w from at fs)
    → (t : List ℕ) × (l.rest ≡ slice at a w ++ t) × LineBeforeCr t (drop a w) × Parted fs t
behind_gap k l =
    let x = after_gap k l.here in
    (x.0, x.1, x.2, unblanks x.0 k.blanks (rw x.1 at l.parted))

-- The part at the place a, behind a gap, that was taken.
pub record PartTaken (P : ℕ → List ℕ → Type 0) (line w : List ℕ) (from : ℕ) (fs : List (List ℕ)) (s : Scan) : Type 0 where
  pub part : List ℕ
  pub others : List (List ℕ)
  pub is : fs ≡ part ∷ others
  pub value : P s.value part
  pub left : Left line w from s.end others

pub part_on : {P : ℕ → List ℕ → Type 0} {line w : List ℕ} {from at a : ℕ} {fs : List (List ℕ)} {s : Scan}
    → Skipped w at a → Starts w a → Taken P w a s → Left line w from at fs → PartTaken P line w from fs s
part_on {line = line} {w = w} {at = at} {a = a} {s = s} k b t l =
    let f = t.field in
    let g = t.there in
    let e = t.place in
    let x = behind_gap k l in
    let y = peel (drop s.end w) (all_map solid_plain g.solid) (rw g.bytes at x.2) in
    let dark = all_map solid_dark g.solid in
    let u = first_only g.some dark (parts_here y.2 g.stops) x.3 y.1 in
    let front = l.front ++ slice at a w in
    let i = inside w a k.lined in
    let h = k.from in
    let here = l.place in
    let m = length-slice at a w (omega arith) in
    record {
      part = f;
      others = u.0;
      is = u.1;
      value = t.has;
      left = record {
        front = front ++ f;
        rest = y.0;
        whole = l.whole ∙ ap (λ (t : List ℕ). l.front ++ t) (x.1 ∙ ap (λ (t : List ℕ). slice at a w ++ t) y.1) ∙ joined l.front (slice at a w) f y.0;
        tight = tight_end front g.some dark;
        place = omega (arith, length-append front f, length-append l.front (slice at a w));
        here = y.2;
        parted = u.2;
      };
    }

pub part_off : {P : ℕ → List ℕ → Type 0} {line w : List ℕ} {from at a : ℕ} {fs : List (List ℕ)}
    → Skipped w at a → Starts w a → Takes P w a None → Left line w from at fs
    → (v : ℕ) (f : List ℕ) (gs : List (List ℕ)) → fs ≡ f ∷ gs → P v f → ⊥
part_off {P = P} {w = w} {a = a} k b refused l v f gs q h =
    let x = behind_gap k l in
    let y = first_field w a b x.2 x.3 in
    let e : f ≡ y.field = cc (q, y.first) in
    refused y.field y.rest y.there v (subst (P v) e h)

pub part_over : {line w : List ℕ} {from at a : ℕ} {fs : List (List ℕ)} → EndAfter w at a → Left line w from at fs → fs ≡ []
part_over {w = w} {a = a} k l =
    let x = behind_gap k.skipped l in
    only_none (rw (ends_here w a x.2 k.end) at x.3)

pub part_lined : {P : ℕ → List ℕ → Type 0} {w : List ℕ} {a : ℕ} {s : Scan} → Starts w a → Taken P w a s → Lined (drop s.end w)
part_lined {w = w} {s = s} b t =
    let y = peel (drop s.end w) (all_map solid_plain t.there.solid) (rw t.there.bytes at b.lined.is) in
    record { line = y.0; is = y.2 }
