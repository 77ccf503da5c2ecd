-- `trace_writer::put_rows` keeps: the rows of the records up to the place are put.
use Prim.Native.Nat.{◌+◌, ◌*◌, ◌<◌}
use mathlib.Core.Path.{◌≡◌, ap}
use mathlib.Core.List.{◌++◌}
use native.Mathlib.Omega.{arith}
use lib.ListN.{length}
use Rattle.records.proofs.Records.{packed_there}
use Rattle.records.proofs.Packing.{packed_length}
use Rattle.trace_writer.proofs.Putting.{putting, next_row, next_room, put_more, rows_put}
use Rattle.trace_writer.proofs.put_rows.Goals as goal

pub loop-i-init : goal.loop-i-init
loop-i-init c =
    let e : c.args.first + 0 ≡ c.args.first = omega arith in
    rw e (putting c.requires)

pub packed_at-r-requires : goal.packed_at-r-requires
packed_at-r-requires c =
    let l = c.loop-i.invariant.records in
    packed_there l.whole (omega arith) (omega arith)

pub put_row-q-requires-clause-well_formed : goal.put_row-q-requires-clause-well_formed
put_row-q-requires-clause-well_formed c =
    let h : 20 * c.loop-i.i < length c.args.records.now = omega arith in
    next_row c.loop-i.invariant h c.packed_at-r.ensures (omega arith)

pub put_row-q-requires-clause-in_bounds : goal.put_row-q-requires-clause-in_bounds
put_row-q-requires-clause-in_bounds c =
    let h : 20 * c.loop-i.i < length c.args.records.now = omega arith in
    omega (arith, next_room c.loop-i.invariant h c.packed_at-r.ensures (omega arith))

pub put_end-p-requires : goal.put_end-p-requires
put_end-p-requires c =
    let h : 20 * c.loop-i.i < length c.args.records.now = omega arith in
    omega (arith, next_room c.loop-i.invariant h c.packed_at-r.ensures (omega arith), c.put_row-q.ensures.next)

pub loop-i-preserved : goal.loop-i-preserved
loop-i-preserved c =
    let l = c.loop-i.invariant in
    let h : 20 * c.loop-i.i < length c.args.records.now = omega arith in
    let e : 20 * c.loop-i.i + 20 ≡ 20 * (c.loop-i.i + 1) = omega arith in
    let n : c.args.first + c.loop-i.i + 1 ≡ c.args.first + (c.loop-i.i + 1) = omega arith in
    rw (← e, ← n) (put_more l h c.packed_at-r.ensures (omega arith) c.put_row-q.ensures c.put_end-p.ensures (omega (arith, l.same)))

pub returns : goal.returns
returns c =
    let l = c.loop-i.invariant in
    let f = l.records in
    rows_put l (omega (arith, ap length f.whole.bytes, packed_length (f.before ++ f.after)))
