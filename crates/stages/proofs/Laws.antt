-- What `take_field` cites: an arm is at the stage that it names.
use Rattle.std.specs.Prelude.{Option}
use Prim.Native.Nat.{ℕ}
use mathlib.Core.Path.{◌≡◌, sym, subst}
use mathlib.Core.List.{List}
use Rattle.fields.specs.inner.Window.{Starts}
use Rattle.row.specs.declared.Part.{Part}
use Rattle.row.specs.declared.Stage.{Stage}
use Rattle.row.specs.declared.Step.{Step}
use Rattle.row.specs.inner.Stages.{Steps, continues_at, Continues, good_at, Good}

-- An arm of `take_field`: the state stands at the stage x.
module _ (p : Part) {x : Stage} (e : p.stage ≡ x) (w : List ℕ) (at : ℕ) where
  -- what the function of that stage asks
  pub asked : Starts w at × Good p → Starts w at × good_at x p
  asked h = (h.0, subst (λ (y : Stage). good_at y p) e h.1)

  -- what it promises
  pub answered : (t : Option Step) → Steps w at (continues_at x p) t → Steps w at (Continues p) t
  answered t h = subst (λ (y : Stage). Steps w at (continues_at y p) t) (sym e) h
