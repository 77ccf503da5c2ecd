-- `fields::hexadecimal` keeps: the bytes passed are the digits of n.
use native.Mathlib.Omega.{arith}
use Rattle.digits.proofs.Strings.{hex}
use Rattle.fields.proofs.Scans.{hex_solid}
use Rattle.fields.proofs.Window.{inside}
use Rattle.fields.proofs.Digits.{none_passed, one_passed, room}
use Rattle.fields.proofs.hexadecimal.Goals as goal

pub loop-i-init : goal.loop-i-init
loop-i-init c = none_passed c.requires

pub bounds-w-i : goal.bounds-w-i
bounds-w-i c = omega (arith, inside c.args.w.now c.loop-i.i c.loop-i.invariant.lined)

pub overflow_mul-n : goal.overflow_mul-n
overflow_mul-n c = let r = room hex 8 (omega arith) c.loop-i.invariant (omega arith) in omega arith

pub overflow_add-n : goal.overflow_add-n
overflow_add-n c = let r = room hex 8 (omega arith) c.loop-i.invariant (omega arith) in omega arith

pub loop-i-preserved : goal.loop-i-preserved
loop-i-preserved c = one_passed hex_solid c.loop-i.invariant (omega arith) (rw c.wide.ensures.0 c.in-Some.ensures)
