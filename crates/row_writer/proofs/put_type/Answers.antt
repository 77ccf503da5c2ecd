-- `row_writer::put_type` meets its contract.
use native.Mathlib.Omega.{arith}
use Rattle.base.proofs.Lists.{then}
use Rattle.row_writer.proofs.Columns.{frame_type, warng, error, short_type, long_type}
use Rattle.row_writer.proofs.put_type.Goals as goal

pub put_three-requires : goal.put_three-requires
put_three-requires c = omega (arith, short_type c.args.kind c.if-kind-lt4.true)

pub returns-then-kind-lt4 : goal.returns-then-kind-lt4
returns-then-kind-lt4 c =
    let e = frame_type c.args.kind c.if-kind-lt4.true in
    rw e c.put_three.ensures

pub put_three-p-requires : goal.put_three-p-requires
put_three-p-requires c = omega (arith, long_type c.args.kind (omega arith) (omega arith))

pub put_three-requires-then-kind-eq4 : goal.put_three-requires-then-kind-eq4
put_three-requires-then-kind-eq4 c = omega (arith, long_type c.args.kind (omega arith) (omega arith))

pub returns-then-kind-eq4 : goal.returns-then-kind-eq4
returns-then-kind-eq4 c =
    let e = warng c.args.kind (omega arith) in
    rw e (then c.put_three-p.ensures c.put_three-then-kind-eq4.ensures)

pub put_three-q-requires : goal.put_three-q-requires
put_three-q-requires c = omega (arith, long_type c.args.kind (omega arith) (omega arith))

pub put_three-requires-2 : goal.put_three-requires-2
put_three-requires-2 c = omega (arith, long_type c.args.kind (omega arith) (omega arith))

pub returns : goal.returns
returns c =
    let e = error c.args.kind (omega arith) in
    rw e (then c.put_three-q.ensures c.put_three-2.ensures)
