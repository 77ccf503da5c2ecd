-- `row_writer::data_length` meets its contract.
use Prim.Native.Nat.{◌^◌}
use mathlib.Core.Path.{ap}
use native.Mathlib.Omega.{arith}
use lib.ListN.{length}
use Rattle.base.specs.Spaced.{spaced}
use Rattle.digits.specs.declared.Letters.TheVariants.{Capital}
use Rattle.digits.proofs.ByteTexts.{length_bytes}
use Rattle.row.proofs.Texts.{data_bytes}
use Rattle.row_writer.proofs.Columns.{remote_data}
use Rattle.row_writer.proofs.data_length.Goals as goal

pub returns-then-r-eq1 : goal.returns-then-r-eq1
returns-then-r-eq1 c = omega (arith, ap length (remote_data c.args.r c.if-r-eq1.true))

pub returns : goal.returns
returns c =
    let r = c.args.r in
    omega (arith, ap (λ fs. length (spaced fs)) (data_bytes r c.if-r-eq1.false), length_bytes Capital (256 ^ 7) r.len r.«data»)
