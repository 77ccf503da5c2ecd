-- `trace_writer::put_version_line` meets its contract.
use Prim.Native.Nat.{ℕ, ◌/◌, ◌%◌, ◌<◌}
use native.Mathlib.Omega.{arith}
use Rattle.base.proofs.Lists.{then}
use Rattle.digits.proofs.House.{one, length_one}
use Rattle.row.specs.Versions.{Version}
use Rattle.row.proofs.EachVersion.{version_high}
use Rattle.trace_writer.proofs.Texts.{version_cut, version_length}
use Rattle.trace_writer.proofs.put_version_line.Goals as goal

-- each of the two figures is one digit
major : {v : ℕ} → Version v → v / 10 < 10
major is = omega (arith, version_high is)

minor : (v : ℕ) → v % 10 < 10
minor v = omega arith

pub put_text-p-requires : goal.put_text-p-requires
put_text-p-requires c = omega (arith, version_length c.args.version)

pub put_decimal-q-requires : goal.put_decimal-q-requires
put_decimal-q-requires c = let v = c.args.version in omega (arith, version_length v, length_one (v / 10) (major c.requires.0))

pub put_byte-s-requires : goal.put_byte-s-requires
put_byte-s-requires c = let v = c.args.version in omega (arith, version_length v, length_one (v / 10) (major c.requires.0))

pub put_decimal-t-requires : goal.put_decimal-t-requires
put_decimal-t-requires c =
    let v = c.args.version in
    omega (arith, version_length v, length_one (v / 10) (major c.requires.0), length_one (v % 10) (minor v))

pub put_end-requires : goal.put_end-requires
put_end-requires c =
    let v = c.args.version in
    omega (arith, version_length v, length_one (v / 10) (major c.requires.0), length_one (v % 10) (minor v))

pub returns : goal.returns
returns c =
    let v = c.args.version in
    rw version_cut
    (then c.put_text-p.ensures
    (then (rw (one (v / 10) (major c.requires.0)) at c.put_decimal-q.ensures)
    (then c.put_byte-s.ensures
    (then (rw (one (v % 10) (minor v)) at c.put_decimal-t.ensures) c.put_end.ensures))))
