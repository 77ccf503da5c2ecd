-- `testing::words::numbers` keeps: the numbers so far are those of their words.
use Prim.Native.Nat.{ℕ, ◌+◌, ◌*◌}
use mathlib.Core.Path.{ap, ◌∙◌}
use native.Mathlib.Omega.{arith}
use borrow.Author.Rules.{rules}
use lib.ListN.{length-set}
use Rattle.testing.specs.Words.{skipped, word, ValueOf}
use Rattle.testing.proofs.Cutting.{skipped_more, found_more, step_on}
use Rattle.testing.proofs.words.numbers.Goals as goal

pub loop-k-preserved : goal.loop-k-preserved
loop-k-preserved c =
    let l = c.loop-k in
    let a = c.args in (
      search rules,
      length-set l.a l.k c.value_at.result ∙ l.invariant.1,
      c.skip-at-in-loop-k.ensures.1 ∙ ap (skipped a.step) l.invariant.2 ∙ skipped_more (a.first + l.k * a.step) a.step a.s.now ∙ ap (λ (n : ℕ). skipped n a.s.now) (step_on a.first l.k a.step),
      found_more (λ (j v : ℕ). ValueOf (word (a.first + j * a.step) a.s.now) v) l.a l.k c.value_at.result (omega arith) l.invariant.3 (rw l.invariant.2 at c.value_at.ensures),
    )

pub returns : goal.returns
returns c = λ j h. c.loop-k.invariant.3 j (omega arith)
