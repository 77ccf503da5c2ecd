-- `records::mark_after` gives the mark.
use borrow.Author.Rules.{rules}
use Rattle.records.specs.Records.{mark_after}
use Rattle.records.proofs.mark_after.Goals as goal

pub returns : goal.returns
unfolding mark_after
returns c = search rules
