-- `ascii_reader::window::CrForLfCopying::copy` keeps: the bytes passed stand at the front, CR for LF.
use mathlib.Core.Path.{◌≡◌, refl, sym}
use native.Mathlib.Omega.{arith}
use borrow.Author.Rules.{rules}
use lib.ListN.{take, drop}
use Rattle.row_reader.proofs.Whole.{one_more, closed}
use Rattle.ascii_reader.specs.inner.Ends.{cr_for_all}
use Rattle.ascii_reader.proofs.Windows.{held_byte, held_length}
use Rattle.ascii_reader.proofs.window.CrForLfCopying.copy.Goals as goal

pub loop-i-init : goal.loop-i-init
loop-i-init c = let a = c.args in let l = held_length a.text.now a.from a.n c.requires.0 in (record { within = omega arith; size = sym l; room = rw l (search rules); bytes = refl }, c.requires.0)

pub loop-i-preserved : goal.loop-i-preserved
loop-i-preserved c =
    let a = c.args in
    let f = c.loop-i.invariant.0 in
    let s = f.size in
    let r = f.room in
    let h = held_byte a.text.now a.from a.n c.loop-i.i c.requires.0 c.loop-i-test.true in
    (record { within = omega arith; size = s; room = r; bytes = rw (f.bytes, c.cr_for.ensures, ← h) (one_more (take a.n (drop a.from (cr_for_all a.text.now))) a.w.now c.loop-i.i (omega arith) (omega arith)) }, c.requires.0)

pub returns : goal.returns
returns c =
    let a = c.args in
    let f = c.loop-i.invariant.0 in
    let s = f.size in
    let w = f.within in
    let e : c.loop-i.i ≡ a.n = omega arith in
    let t = take a.n (drop a.from (cr_for_all a.text.now)) in
    rw (f.bytes, e) (rw (held_length a.text.now a.from a.n c.requires.0) at (closed t a.w.now f.room))
