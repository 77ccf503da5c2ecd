-- `trace_writer::put_start_line` meets its contract.
use Prim.Native.Nat.{◌%◌}
use native.Mathlib.Omega.{arith}
use Rattle.base.proofs.Lists.{then}
use Rattle.clock.specs.Start.{day_ms}
use Rattle.clock.proofs.Starts.{one_fraction}
use Rattle.trace.proofs.HouseTexts.{day_fraction}
use Rattle.trace_writer.proofs.Texts.{start_cut, start_length}
use Rattle.trace_writer.proofs.put_start_line.Goals as goal

pub put_text-p-requires : goal.put_text-p-requires
put_text-p-requires c = omega (arith, start_length c.args.start)

pub put_decimal-q-requires : goal.put_decimal-q-requires
put_decimal-q-requires c = omega (arith, start_length c.args.start)

pub put_byte-s-requires : goal.put_byte-s-requires
put_byte-s-requires c = omega (arith, start_length c.args.start)

pub put_padded-t-requires : goal.put_padded-t-requires
put_padded-t-requires c = omega (arith, start_length c.args.start)

pub put_end-requires : goal.put_end-requires
put_end-requires c = omega (arith, start_length c.args.start)

pub returns : goal.returns
returns c =
    let s = c.args.start in
    let f = one_fraction c.day_fraction.ensures.0 (day_fraction (s % day_ms)) in
    rw start_cut
    (then c.put_text-p.ensures (then c.put_decimal-q.ensures
    (then c.put_byte-s.ensures (then (rw f at c.put_padded-t.ensures.wrote) c.put_end.ensures))))
