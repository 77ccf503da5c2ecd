-- Behind the last data byte: the line ends there, and the record is whole; or it is none.
use Prim.Native.Nat.{ℕ}
use mathlib.Core.Path.{◌≡◌, refl, ap, sym, ◌∙◌}
use mathlib.Core.Logic.{◌≢◌}
use mathlib.Core.List.{List, [], ◌∷◌, ◌++◌, append-nil, append_assoc}
use native.Mathlib.Omega.{arith}
use lib.ListN.{get_or, drop}
use Rattle.std.specs.Prelude.{Some, None}
use Rattle.record.specs.declared.Record.{Record}
use Rattle.fields.specs.Parted.{Parted, none, blank_first}
use Rattle.fields.specs.inner.Window.{LineBeforeCr}
use Rattle.fields.proofs.Parts.{only_none}
use Rattle.fields.proofs.Window.{head_at}
use Rattle.row.specs.Row.{Nothing, nothing, ByteFields, done}
use Rattle.row_reader.proofs.Walk.{ends_here}
use Rattle.ascii_line_reader.specs.inner.Frame.{DataOf, Left, Leads}

-- What has no part is blanks alone.
last_blank : (s : List ℕ) → s ≢ [] → Parted [] s → (t : List ℕ) × (s ≡ t ++ (32 ∷ []))
last_blank s n none = absurd (n refl)
last_blank s n (blank_first {s = []} p) = ([], refl)
last_blank s n (blank_first {s = b ∷ u} p) =
    let x = last_blank (b ∷ u) (λ e. let z : ◌≡◌ {A = ℕ} 1 0 = cc in omega arith) p in
    (32 ∷ x.0, ap (λ (l : List ℕ). 32 ∷ l) x.1)

no_bytes : {place u : ℕ} {fs : List (List ℕ)} → ByteFields Nothing place 0 u fs → (fs ≡ []) × (u ≡ 0)
no_bytes (done nothing) = (refl, refl)

module _ (x b k i n place sum : ℕ) {w : List ℕ} {e : ℕ} where
  -- something else stands behind it
  pub not_last : get_or w e 0 ≢ 13 → Leads (DataOf x b k i n place 0 sum) w e None
  not_last z line from fs l t r c = go t (no_bytes c.1.2).0 l
    where
      some : {rest : List ℕ} → LineBeforeCr rest (drop e w) → rest ≢ []
      some {rest} m q = z (head_at w e (m.ended ∙ ap (λ (v : List ℕ). v ++ (13 ∷ m.rest)) q)).1

      go : ((s : List ℕ) → line ≡ s ++ (32 ∷ []) → ⊥) → fs ≡ [] → Left line w from e fs → ⊥
      go t q l =
          let y = last_blank l.rest (some l.here) (rw q at l.parted) in
          t (l.front ++ y.0) (l.whole ∙ ap (λ (v : List ℕ). l.front ++ v) y.1 ∙ sym (append_assoc l.front y.0 (32 ∷ [])))

  -- the line ends there
  pub last : get_or w e 0 ≡ 13 → (r : Record) → r.extended ∷ r.bus ∷ r.kind ∷ r.id ∷ r.len ∷ [] ≡ x ∷ b ∷ k ∷ i ∷ n ∷ [] → r.«data» ≡ sum
      → Leads (DataOf x b k i n place 0 sum) w e (Some record { end = e; r = r })
  last z r q d line from fs l =
      let v = ends_here w e l.here z in
      let g : fs ≡ [] = only_none (rw v at l.parted) in
      let y : line ≡ l.front = l.whole ∙ ap (λ (m : List ℕ). l.front ++ m) v ∙ append-nil l.front in
      record { is = rw g (q, (0, omega arith, done nothing)); tight = rw y l.tight; end = rw y l.place }
