-- `record::pack` meets its contract.
use mathlib.Core.Path.{refl, ◌∙◌}
use native.Mathlib.Omega.{arith}
use Rattle.record.specs.Promise.{PackPromise}
use Rattle.base.proofs.Tests.{shown}
use Rattle.record.proofs.OneRecord.{packs}
use Rattle.record.proofs.Promises.{at_start}
use Rattle.record.proofs.pack.Goals as goal

pub returns : goal.returns
returns c =
    let w = c.well_formed-else-mark-gt1 in
    let p = packs {r = c.args.r} {m = c.args.mark} (shown w.result c.if-not-well_formed.false w.ensures) (omega arith) in
    let l = c.args.out.now in
    PackPromise.done p (omega arith) refl (c.put_record.ensures ∙ at_start l p (omega arith))
