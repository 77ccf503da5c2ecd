-- `trace::body` judges, sees whether there is room, and fills.
use Prim.Native.Nat.{ℕ}
use mathlib.Core.Path.{refl, ap₂}
use native.Mathlib.Omega.{arith}
use Rattle.std.proofs.lemmas.Result.{err_from_is_err_and}
use Rattle.trace.specs.Promise.{read_done, done, no_room, refused}
use Rattle.trace.proofs.body.Goals as goal

pub returns-in_err-rows : goal.returns-in_err-rows
returns-in_err-rows c =
    let p = err_from_is_err_and c.from_residual.result c.from_residual.ensures.1 in
    rw (p.1, p.2) (refused c.requires.1 c.in_err-rows.ensures refl refl)

pub returns-then-out-rows : goal.returns-then-out-rows
returns-then-out-rows c =
    let g = c.in_ok-rows.ensures in
    rw c.whole.ensures (no_room c.requires.1 g.1 (omega (arith, g.2, c.if-out-rows.true)) refl refl)

pub returns : goal.returns
returns c =
    let h = c.args.head in
    let g = c.in_ok-rows.ensures in
    done c.requires.1 g.1 (omega (arith, g.2, c.if-out-rows.false))
    (ap₂ (λ (n b : ℕ). read_done h.version h.start n b c.in_ok-rows.field-0.first) g.2 (c.fill-step_back.ensures.back _ g.1))
    (c.fill-step_back.ensures.bytes _ g.1)
