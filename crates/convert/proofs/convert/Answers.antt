-- `convert::convert` keeps its promise for every input, every space for records and every page.
use mathlib.Core.Path.{◌≡◌, refl, ap}
use native.Mathlib.Omega.{arith}
use Rattle.base.specs.declared.refusal.Refusal.TheVariants as refusal
use Rattle.base.specs.Refusal.{number_of}
use Rattle.record.proofs.Refusals.{some_number, same_reason}
use Rattle.trace_writer.proofs.Again.{read_within}
use Rattle.convert.specs.Promise.{short}
use Rattle.convert.proofs.Ways.{too_long, refused_input, unheld, unread, unwritten, exported_all}
use Rattle.convert.proofs.convert.Goals as goal

pub returns-then-input-gt-INPUT_LIMIT : goal.returns-then-input-gt-INPUT_LIMIT
returns-then-input-gt-INPUT_LIMIT c = too_long (omega arith) (rw c.whole.ensures at c.put_refusal.ensures)

pub overflow_mul-end : goal.overflow_mul-end
overflow_mul-end c = omega (arith, read_within c.in-Ok.ensures)

pub slice_bounds-export-end : goal.slice_bounds-export-end
slice_bounds-export-end c = omega (arith, read_within c.in-Ok.ensures)

pub returns-in-Ok-export : goal.returns-in-Ok-export
returns-in-Ok-export c = exported_all (omega arith) c.in-Ok.ensures c.in-Ok-export.ensures.export_promise

pub returns-in-Err-export : goal.returns-in-Err-export
returns-in-Err-export c = unwritten (omega arith) c.in-Ok.ensures (some_number c.in-Err-export.field-0.reason) c.in-Err-export.ensures.export_promise

pub returns-in-NoRoomForRecords : goal.returns-in-NoRoomForRecords
returns-in-NoRoomForRecords c = short (unheld (omega arith) c.in-Err.ensures (ap number_of c.in-NoRoomForRecords.is)) refl refl

pub returns-in_default : goal.returns-in_default
returns-in_default c =
    let n = λ (z : number_of c.in-Err.refused.reason ≡ 8). c.in_default.not-NoRoomForRecords (same_reason {s = refusal.NoRoomForRecords} z) in
    refused_input (omega arith) (unread (omega arith) c.in-Err.ensures n) refl (omega arith) c.put_refusal-in_default.ensures
