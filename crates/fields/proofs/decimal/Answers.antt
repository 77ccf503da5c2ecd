-- `fields::decimal` keeps: the bytes passed are the digits of n.
use Prim.Native.Nat.{◌-◌}
use native.Mathlib.Omega.{arith}
use Rattle.base.specs.Limits.{offset_digits}
use Rattle.digits.proofs.Strings.{decimal}
use Rattle.fields.proofs.Scans.{decimal_solid}
use Rattle.fields.proofs.Window.{inside}
use Rattle.fields.proofs.Digits.{none_passed, one_passed, room}
use Rattle.fields.proofs.decimal.Goals as goal

pub loop-i-init : goal.loop-i-init
loop-i-init c = none_passed c.requires

pub bounds-w-i : goal.bounds-w-i
bounds-w-i c = omega (arith, inside c.args.w.now c.loop-i.i c.loop-i.invariant.lined)

pub overflow_mul-n : goal.overflow_mul-n
overflow_mul-n c = let r = room decimal (offset_digits - 1) (omega arith) c.loop-i.invariant (omega arith) in omega arith

pub overflow_add-n : goal.overflow_add-n
overflow_add-n c = let r = room decimal (offset_digits - 1) (omega arith) c.loop-i.invariant (omega arith) in omega arith

pub loop-i-preserved : goal.loop-i-preserved
loop-i-preserved c =
    one_passed decimal_solid c.loop-i.invariant (omega arith) (record { value = omega arith; byte = omega arith })
