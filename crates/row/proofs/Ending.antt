-- Where a row may end: bytes and words are complete, and no other stage is.
use Prim.Native.Nat.{ℕ, ◌+◌, ◌^◌}
use mathlib.Core.Path.{◌≡◌, refl, ap, sym, ◌∙◌, subst}
use mathlib.Core.Logic.{◌≢◌}
use mathlib.Core.Bool.{Bool, true, false}
use mathlib.Core.List.{List, []}
use native.Mathlib.Nat.{add-zero}
use Rattle.record.specs.declared.Record.{Record}
use Rattle.row.specs.declared.Part.{Part}
use Rattle.row.specs.declared.Stage.{Stage}
use Rattle.row.specs.declared.Stage.TheVariants as stage
use Rattle.row.specs.Row
use Rattle.row.specs.inner.Stages.{EndsRow, whole, early, Gathers, known6, continues_at, good_at}
use Rattle.row.proofs.Data.{no_more, none_left}

-- The stages that a row may end in.
abbrev pub last : Stage → Bool
last (stage.Offset v) = false
last stage.Bus = false
last stage.TypeColumn = false
last stage.Id = false
last stage.Length = false
last stage.Data = true
last stage.Bytes = true
last stage.WarningId = false
last stage.WarningLength = false
last stage.WarningBytes = true
last stage.ErrorId = false
last stage.ErrorLength = false
last stage.ErrorFirst = false
last stage.ErrorSecond = false

same : (r q : Record) → known6 r ≡ known6 q → r.«data» ≡ q.«data» → r ≡ q
same r q e d =
    let o : r.offset ≡ q.offset = cc in
    let b : r.bus ≡ q.bus = cc in
    let k : r.kind ≡ q.kind = cc in
    let x : r.extended ≡ q.extended = cc in
    let i : r.id ≡ q.id = cc in
    let n : r.len ≡ q.len = cc in
    λ j. record { offset = o j; bus = b j; kind = k j; extended = x j; id = i j; len = n j; «data» = d j }

-- Bytes that are all read.
gathered : {Then : List (List ℕ) → Type 0} (p : Part) → Then [] → p.left ≡ 0
    → Gathers Then p [] p.r × ((r : Record) → Gathers Then p [] r → r ≡ p.r)
gathered p t n = (
  record { known = refl; sum = 0; bytes = rw n (Row.done t); total = sym (add-zero p.r.«data») },
  λ r c. let x = no_more (rw n at c.bytes) in same r p.r c.known (c.total ∙ ap (λ (y : ℕ). p.r.«data» + y) x.1 ∙ add-zero p.r.«data»),
)

no_bytes : {sent : ℕ} {r : Record} → Row.FrameData sent r [] → (r.kind ≡ sent) × Row.ByteFields Row.Nothing (256 ^ 7) r.len r.«data» []
no_bytes (Row.data_bytes k b) = (k, b)

module _ (p : Part) where
  -- with bytes left a row is not whole
  pub left_early : (x : Stage) → good_at x p → p.left ≢ 0 → EndsRow x p false
  left_early x g n = early (go x g)
    where
      go : (x : Stage) → good_at x p → (r : Record) → continues_at x p [] r → ⊥
      go (stage.Offset v) g r c = elim c [ ]
      go stage.Bus g r c = elim c.1 [ ]
      go stage.TypeColumn g r c = elim c.1 [ ]
      go stage.Id g r c = elim c.1 [ ]
      go stage.Length g r c = elim c.1 [ ]
      go stage.Data g r c = let m : r.len ≡ p.left = cc (c.0, g.2) in n (sym m ∙ none_left (no_bytes c.1).1)
      go stage.Bytes g r c = n (none_left c.bytes)
      go stage.WarningId g r c = elim c.1 [ ]
      go stage.WarningLength g r c = elim c.1 [ ]
      go stage.WarningBytes g r c = n (none_left c.bytes)
      go stage.ErrorId g r c = elim c.1 [ ]
      go stage.ErrorLength g r c = elim c.2 [ ]
      go stage.ErrorFirst g r c = elim c.1 [ ]
      go stage.ErrorSecond g r c = elim c.bytes [ ]

  none_ends : (x : Stage) → good_at x p → p.left ≡ 0 → EndsRow x p (last x)
  none_ends (stage.Offset v) g n = early (λ r c. elim c [ ])
  none_ends stage.Bus g n = early (λ r c. elim c.1 [ ])
  none_ends stage.TypeColumn g n = early (λ r c. elim c.1 [ ])
  none_ends stage.Id g n = early (λ r c. elim c.1 [ ])
  none_ends stage.Length g n = early (λ r c. elim c.1 [ ])
  none_ends stage.Data g n =
      let m : p.r.len ≡ 0 = cc (g.2, n) in
      let b : Row.ByteFields Row.Nothing (256 ^ 7) p.r.len p.r.«data» [] = rw (m, g.1) (Row.done Row.nothing) in
      whole (refl, Row.data_bytes refl b)
      (λ r c. let y = no_bytes c.1 in
      let l : r.len ≡ 0 = cc (c.0, m) in
      same r p.r (cc (c.0, y.0)) ((no_more (rw l at y.1)).1 ∙ sym g.1))
  none_ends stage.Bytes g n = let x = gathered p Row.nothing n in whole x.0 x.1
  none_ends stage.WarningId g n = early (λ r c. elim c.1 [ ])
  none_ends stage.WarningLength g n = early (λ r c. elim c.1 [ ])
  none_ends stage.WarningBytes g n = let x = gathered p Row.none n in whole x.0 x.1
  none_ends stage.ErrorId g n = early (λ r c. elim c.1 [ ])
  none_ends stage.ErrorLength g n = early (λ r c. elim c.2 [ ])
  none_ends stage.ErrorFirst g n = early (λ r c. elim c.1 [ ])
  none_ends stage.ErrorSecond g n = early (λ r c. elim c.bytes [ ])

  -- the same, where the stage is known by an equation
  pub ends_at : (x : Stage) → p.stage ≡ x → good_at p.stage p → p.left ≡ 0 → EndsRow p.stage p (last x)
  ends_at x e g n = subst (λ (y : Stage). EndsRow y p (last x)) (sym e) (none_ends x (subst (λ (y : Stage). good_at y p) e g) n)
