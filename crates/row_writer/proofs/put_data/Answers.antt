-- `row_writer::put_data` meets its contract.
use Prim.Native.Nat.{◌^◌}
use mathlib.Core.Path.{ap}
use native.Mathlib.Omega.{arith}
use lib.ListN.{length}
use Rattle.base.proofs.Lists.{then}
use Rattle.base.specs.Spaced.{spaced}
use Rattle.digits.specs.declared.Letters.TheVariants.{Capital}
use Rattle.digits.proofs.ByteTexts.{length_bytes}
use Rattle.row.proofs.Texts.{data_bytes}
use Rattle.row_writer.proofs.Columns.{remote_data}
use Rattle.row_writer.proofs.put_data.Goals as goal

pub put_byte-p-requires : goal.put_byte-p-requires
put_byte-p-requires c = omega (arith, ap length (remote_data c.args.r c.if-r-eq1.true))

pub put_three-requires : goal.put_three-requires
put_three-requires c = omega (arith, ap length (remote_data c.args.r c.if-r-eq1.true))

pub returns-then-r-eq1 : goal.returns-then-r-eq1
returns-then-r-eq1 c =
    let e = remote_data c.args.r c.if-r-eq1.true in
    rw e (then c.put_byte-p.ensures c.put_three.ensures)

pub put-requires : goal.put-requires
put-requires c =
    let r = c.args.r in
    omega (arith, ap (λ fs. length (spaced fs)) (data_bytes r c.if-r-eq1.false), length_bytes Capital (256 ^ 7) r.len r.«data»)

pub returns : goal.returns
returns c =
    let e = data_bytes c.args.r c.if-r-eq1.false in
    rw e (rw c.requires.capital at c.put.ensures)
