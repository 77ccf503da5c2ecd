-- `ascii::put_lines` keeps: the lines of the records up to the place are put, and `head` shows the second `last`.
use Prim.Native.Nat.{◌+◌, ◌*◌, ◌<◌}
use mathlib.Core.Path.{◌≡◌, ap}
use mathlib.Core.List.{◌++◌}
use native.Mathlib.Omega.{arith}
use lib.ListN.{length}
use Rattle.clock.proofs.Stamps.{some_stamp}
use Rattle.records.proofs.Records.{packed_there}
use Rattle.records.proofs.Packing.{packed_length}
use Rattle.ascii.proofs.Keeping.{first_second, begins}
use Rattle.ascii.proofs.Putting.{putting, next_room, put_more, lines_put}
use Rattle.ascii.proofs.put_lines.Goals as goal

pub loop-i-init : goal.loop-i-init
loop-i-init c = (putting c.requires.0, rw (first_second c.args.start) c.show.ensures)

pub packed_at-r-requires : goal.packed_at-r-requires
packed_at-r-requires c =
    let l = c.loop-i.invariant.0.records in
    packed_there l.whole (omega arith) (omega arith)

pub put_export-p-requires : goal.put_export-p-requires
put_export-p-requires c =
    let r = c.packed_at-r.ensures in
    let z = some_stamp c.args.start c.packed_at-r.result.offset in
    let h : 20 * c.loop-i.i < length c.args.records.now = omega arith in
    (r.packs.formed, (z.0, λ k. next_room c.loop-i.invariant.0 h r z.1 k), c.new-pairs.ensures)

pub loop-i-preserved : goal.loop-i-preserved
loop-i-preserved c =
    let l = c.loop-i.invariant.0 in
    let z = some_stamp c.args.start c.packed_at-r.result.offset in
    let s = c.renew_second.ensures in
    let t = begins z.1 c.ticks_of-ticks.ensures s in
    let h : 20 * c.loop-i.i < length c.args.records.now = omega arith in
    let e : 20 * c.loop-i.i + 20 ≡ 20 * (c.loop-i.i + 1) = omega arith in
    (rw (← e) (put_more l h c.packed_at-r.ensures z.1 (c.put_export-p.ensures z.0 t) (omega (arith, l.same))), s)

pub returns : goal.returns
returns c =
    let l = c.loop-i.invariant.0 in
    let f = l.records in
    lines_put l (omega (arith, ap length f.whole.bytes, packed_length (f.before ++ f.after)))
