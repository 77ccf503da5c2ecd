-- `digits::put_pairs` puts one byte more in each turn.
use mathlib.Core.Path.{◌≡◌}
use native.Mathlib.Omega.{arith}
use borrow.Author.Rules.{rules}
use Rattle.digits.proofs.ByteTexts.{put_none, put_more}
use Rattle.digits.proofs.pairs.put_pairs.Goals as goal

pub loop-j-init : goal.loop-j-init
loop-j-init c = (search rules, omega arith, λ x q. put_none x _ _ _)

pub loop-j-preserved : goal.loop-j-preserved
loop-j-preserved c =
    let l = c.loop-j in
    (search rules, omega arith, λ x q. put_more x l.j c.args.word (omega arith) (l.invariant.2 x q) (c.put_pair-p.ensures.wrote x q))

pub returns : goal.returns
returns c =
    let e : c.loop-j.j ≡ c.args.n = omega arith in
    rw e at c.loop-j.invariant.2
