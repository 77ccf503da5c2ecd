-- A frame of data, or a remote one, is well formed where its numbers are in their ranges: what is asked of warnings and error frames is of no concern to it.
use Prim.Native.Nat.{◌-◌, ◌%◌, ◌^◌, ◌≤◌, ◌<◌}
use mathlib.Core.Path.{◌≡◌}
use mathlib.Core.Logic.{◌⊎◌}
use native.Mathlib.Omega.{arith}
use Rattle.base.specs.Limits.{offset_limit, last_bus}
use Rattle.record.specs.declared.Record.{Record}
use Rattle.record.specs.Record.{WellFormed}

pub frame_formed : (r : Record) → r.kind ≤ 3 → r.offset ≤ offset_limit → r.bus ≤ last_bus → r.extended ≤ 1 → (r.extended ≡ 0 → r.id ≤ 0x7FF)
    → r.id < 2 ^ 29 → r.len ≤ 8 → r.«data» < 256 ^ 8 → r.«data» % 256 ^ (8 - r.len) ≡ 0
    → ((r.kind ≡ 2) ⊎ (r.kind ≡ 3) → r.«data» ≡ 0) → WellFormed r
frame_formed r k o b x s i l d p m = record {
  offset = o;
  bus = b;
  kind = omega arith;
  extended = x;
  standard = s;
  id = i;
  len = l;
  eight = d;
  past = p;
  remote = m;
  warning = λ e. absurd (omega arith);
  error = λ e. absurd (omega arith);
}
