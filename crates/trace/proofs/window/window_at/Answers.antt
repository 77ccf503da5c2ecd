-- `trace::window::window_at` keeps the window that reaches far enough, or fills it from the line on. Told by `omega`, so that a window too short is refused with values.
use native.Mathlib.Omega.{arith}
use Rattle.trace.proofs.window.window_at.Goals as goal

pub returns-then-at-from : goal.returns-then-at-from
returns-then-at-from g c = record { windowed = c.requires.0; starts = c.requires.1; room = omega arith }
