-- The laws that every part of the chain cites: C says which parts are which record from here on, and D v the same behind a part of value v.
use Prim.Native.Nat.{ℕ}
use mathlib.Core.Path.{◌≡◌, refl}
use mathlib.Core.List.{List, [], ◌∷◌}
use Rattle.std.specs.Prelude.{Option, Some, None}
use Rattle.record.specs.declared.Record.{Record}
use Rattle.fields.specs.declared.Scan.{Scan}
use Rattle.fields.specs.inner.Window.{Taken, Takes, FieldAfter, EndAfter}
use Rattle.ascii_line_reader.specs.declared.FrameRead.{FrameRead}
use Rattle.ascii_line_reader.specs.inner.Frame.{Found, Leads}
use Rattle.ascii_line_reader.proofs.Walk.{part_on, part_off, part_over}

pub record Stage (C : Record → List (List ℕ) → Type 0) (P : ℕ → List ℕ → Type 0) (D : ℕ → Record → List (List ℕ) → Type 0) : Type 0 where
  pub on : {v : ℕ} (r : Record) {f : List ℕ} {fs : List (List ℕ)} → P v f → D v r fs → C r (f ∷ fs)
  pub un : {v : ℕ} (r : Record) {f : List ℕ} {fs : List (List ℕ)} → P v f → C r (f ∷ fs) → D v r fs
  pub some : (r : Record) {f : List ℕ} {fs : List (List ℕ)} → C r (f ∷ fs) → (v : ℕ) × P v f
  pub more : (r : Record) {fs : List (List ℕ)} → fs ≡ [] → C r fs → ⊥

module _ {C : Record → List (List ℕ) → Type 0} {P : ℕ → List ℕ → Type 0} {D : ℕ → Record → List (List ℕ) → Type 0} (g : Stage C P D)
    {w : List ℕ} {at a : ℕ} where
  -- the line ends before the part
  pub over : EndAfter w at a → Leads C w at None
  over k line from fs l t r c = g.more r (part_over k l) c

  module _ (k : FieldAfter w at a) where
    -- no such part stands there
    pub stop : Takes P w a None → Leads C w at None
    stop n line from fs l t r c = go fs refl c
      where
        go : (gs : List (List ℕ)) → fs ≡ gs → C r gs → ⊥
        go [] e c = g.more r refl c
        go (f ∷ gs) e c = let v = g.some r c in part_off k.skipped k.starts n l v.0 f gs e v.1

    -- it is taken, and the next one goes on
    pub link : {s : Scan} → Taken P w a s → (x : Option FrameRead) → Leads (D s.value) w s.end x → Leads C w at x
    link {s} n x d line from fs l = let p = part_on k.skipped k.starts n l in go x p.is p.value (d line from p.others p.left)
      where
        go : (x : Option FrameRead) {f : List ℕ} {gs : List (List ℕ)} → fs ≡ f ∷ gs → P s.value f → Found (D s.value) line from gs x
            → Found C line from fs x
        go (Some y) e p h = record { is = rw e (g.on y.r p h.is); tight = h.tight; end = h.end }
        go None e p h = λ t r c. h t r (g.un r p (rw e at c))
