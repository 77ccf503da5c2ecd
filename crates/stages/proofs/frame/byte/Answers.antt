-- `stages::frame::byte` reads one data byte.
use mathlib.Core.Path.{refl}
use native.Mathlib.Omega.{arith}
use Rattle.row.proofs.Data.{byte_fits, one_byte}
use Rattle.stages.proofs.frame.byte.Goals as goal

pub overflow_mul-r : goal.overflow_mul-r
overflow_mul-r c = omega (arith, c.requires, byte_fits c.args.p.place c.in_ok-s.ensures.has)

pub overflow_add-r : goal.overflow_add-r
overflow_add-r c =
    omega (arith, c.requires, byte_fits c.args.p.place c.in_ok-s.ensures.has)

pub returns : goal.returns
returns c = rw c.bytes_left.ensures (one_byte c.in_ok-s.ensures refl refl)
