-- The cases marked P that concern time; papers has them in its table.
use Prim.Native.Nat.{ℕ, ◌+◌, ◌*◌, ◌<◌}
use mathlib.Core.Path.{refl}
use native.Mathlib.Omega.{arith}
use Rattle.clock.specs.Start.{day_ms, start_limit, Start}
use Rattle.clock.specs.Date.{leap, month_days, before, before_year, Date}
use Rattle.clock.proofs.Dates.{made}

-- Day 0.0 starts at 0.
pub day_0 : Start 0 0 1 0
day_0 = record { low = omega arith; high = omega arith }

-- 37704.5364870833 is 3,257,671,952,484; rounded down it would be one less.
pub day_37704 : Start 37704 5364870833 10 3257671952484
day_37704 = record { low = omega arith; high = omega arith }

-- 39878.6772258947 leaves 58,512,317 ms in its day; rounded up it would be one more.
pub day_39878 : Start 39878 6772258947 10 (39878 * day_ms + 58512317)
day_39878 = record { low = omega arith; high = omega arith }

-- 99999.9999999999 is past the limit.
pub past_limit : (ms : ℕ) → Start 99999 9999999999 10 ms → start_limit < ms
past_limit ms a = omega arith

-- Day 36585 is 29.02.2000.
pub leap_day : Date 36585 (record { day = 29; month = 2; year = 2000 })
unfolding leap month_days before before_year
leap_day = made 36585 2000 59 1 1 28 (omega arith) refl refl (omega arith) refl (omega arith)
