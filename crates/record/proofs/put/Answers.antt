-- `record::put` meets its contract: the bytes before those that were put are those of the rest.
use Rattle.std.proofs.Common.{◌≡◌, ◌-◌, suc, sym, refl, ◌∙◌, arith}
use Rattle.record.proofs.Bytes.{put_last, put_none}
use Rattle.record.proofs.put.Goals as goal

pub loop-i-init : goal.loop-i-init
loop-i-init g c = refl

pub loop-i-preserved : goal.loop-i-preserved
loop-i-preserved g c =
    let l = c.loop-i in
    let e : suc (l.i - 1) ≡ l.i = omega arith in
    put_last (l.i - 1) l.out c.args.at l.rest ∙ rw e l.invariant

pub returns : goal.returns
returns g c =
    let l = c.loop-i in
    let e : l.i ≡ 0 = omega arith in
    sym (put_none l.out c.args.at l.rest) ∙ (rw e at l.invariant)
