-- `testing::words::skip` keeps: so many blanks were passed.
use mathlib.Core.Path.{ap, sym, ◌∙◌}
use borrow.Author.Rules.{rules}
use Rattle.testing.specs.Words.{behind}
use Rattle.testing.proofs.Cutting.{none_skipped, one_skipped}
use Rattle.testing.proofs.words.skip.Goals as goal

pub loop-init : goal.loop-init
loop-init c = (search rules, sym (none_skipped _))

pub loop-preserved : goal.loop-preserved
loop-preserved c =
    let l = c.loop in
    (search rules, c.next_word-p.ensures.1 ∙ ap (behind 32) l.invariant.1 ∙ one_skipped _ _)
