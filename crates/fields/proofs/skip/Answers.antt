-- `fields::skip` keeps: the bytes passed are blanks.
use native.Mathlib.Omega.{arith}
use Rattle.fields.proofs.Gaps.{no_blank, one_blank, skipped}
use Rattle.fields.proofs.skip.Goals as goal

pub returns-then-w-at-ne32-clause-skipped : goal.returns-then-w-at-ne32-clause-skipped
returns-then-w-at-ne32-clause-skipped c = skipped (no_blank c.requires) c.if-w-at-ne32.true

pub returns-then-w-a-gt32-clause-skipped : goal.returns-then-w-a-gt32-clause-skipped
returns-then-w-a-gt32-clause-skipped c =
    skipped (one_blank (no_blank c.requires) c.if-w-at-ne32.false) (λ e. omega (arith, c.if-w-a-gt32.true))

pub loop-a-init : goal.loop-a-init
loop-a-init c = one_blank (no_blank c.requires) c.if-w-at-ne32.false

pub loop-a-preserved : goal.loop-a-preserved
loop-a-preserved c = one_blank c.loop-a.invariant (omega arith)
