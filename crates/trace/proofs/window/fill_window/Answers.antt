-- `trace::window::fill_window` puts what is left, or as much as there is room for.
use Prim.Native.Nat.{◌-◌}
use native.Mathlib.Omega.{arith}
use lib.ListN.{length}
use Rattle.trace.specs.inner.Passes.{most_held}
use Rattle.trace.proofs.window.fill_window.Goals as goal

pub returns-then-left-lt-WINDOW : goal.returns-then-left-lt-WINDOW
returns-then-left-lt-WINDOW g c = let a = c.args in let l = g.met.C.Copying.same_length a.text.now in record { held = length a.text.now - a.from; behind = _; bytes = c.copy.ensures; within = omega (arith, l); most = λ h. omega (arith, l) }

pub returns : goal.returns
returns g c = let a = c.args in let l = g.met.C.Copying.same_length a.text.now in record { held = most_held; behind = _; bytes = c.copy-2.ensures; within = omega (arith, l); most = λ h. absurd (omega arith) }
