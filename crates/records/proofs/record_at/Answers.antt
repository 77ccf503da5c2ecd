-- `records::record_at` meets its contract.
use Rattle.std.proofs.Common.{ℕ, ◌≡◌, ◌+◌, ◌-◌, ap, sym, ◌∙◌, arith, Some, Result, Ok, Err}
use Rattle.std.specs.Result.{result_ok}
use Rattle.base.specs.declared.refusal.Refused.{Refused}
use Rattle.record.specs.declared.Record.{Record}
use Rattle.record.specs.declared.Unpacked.{Unpacked}
use Rattle.record.proofs.Promises.{unpacked_fields}
use Rattle.record.proofs.OneRecord.{one_marked}
use Rattle.records.specs.Records.{mark_after}
use Rattle.records.proofs.record_at.Goals as goal

-- The part that is lent has twenty bytes.
part : (at : ℕ) → at + 20 - at ≡ 20
part at = omega arith

was_ok : {u : Unpacked} (r : Result Unpacked Refused) → Some u ≡ result_ok r → r ≡ Ok u
was_ok (Ok v) e = cc
was_ok (Err d) e = cc

pub returns-then-mark-mark_after : goal.returns-then-mark-mark_after
returns-then-mark-mark_after c r p =
    let v = c.in_ok-r.field-0 in
    let u = rw (was_ok c.unpack.result c.in_ok-r.ensures.value) at c.unpack.ensures in
    let z = one_marked p (rw (part c.args.at) at (unpacked_fields v.r u)) in
    c.if-mark-mark_after.true (sym z.1 ∙ ap (λ (x : Record). mark_after c.args.before x.offset) z.0 ∙ sym c.mark_after.ensures)
