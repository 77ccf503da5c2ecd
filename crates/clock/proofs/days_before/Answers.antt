-- `days_before` meets its contract: the rule is tested over the whole table, and holds at each entry.
use borrow.Author.Rules.{rules}
use Rattle.base.proofs.Tables.{nested}
use Rattle.clock.specs.Date.{month_days, before}
use Rattle.clock.proofs.days_before.Goals as goal

pub returns : goal.returns
unfolding before month_days
returns c = search (nested before 2 12, rules)
