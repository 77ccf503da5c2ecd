-- Stamps: a start and an offset have one stamp, and some stamp.
use Prim.Native.Nat.{ℕ, suc, ◌+◌, ◌*◌, ◌/◌, ◌%◌, ◌≤◌, ◌<◌}
use mathlib.Core.Path.{◌≡◌, ap}
use native.Mathlib.Omega.{arith}
use Rattle.base.proofs.Numbers.{parts}
use Rattle.clock.specs.declared.DayTime.{DayTime}
use Rattle.clock.specs.declared.DateTime.{DateTime}
use Rattle.clock.specs.Stamp.{ticks, Time, Stamp}
use Rattle.clock.proofs.Quotients.{one_bracket}
use Rattle.clock.proofs.Dates.{one_date, some_date}

-- A start and an offset give one time.
pub one_time : {start offset : ℕ} {t u : DayTime} → Time start offset t → Time start offset u → t ≡ u
one_time {start} {offset} {t} {u} a b =
    let x = start * 1000 + offset in
    let l : ticks t * 100 ≤ x = omega (arith, a.low) in
    let h : x < suc (ticks t) * 100 = omega (arith, a.high) in
    let l' : ticks u * 100 ≤ x = omega (arith, b.low) in
    let h' : x < suc (ticks u) * 100 = omega (arith, b.high) in
    let e : ticks t ≡ ticks u = one_bracket 100 x l h l' h' in
    let p = parts 10000 a.part b.part e in
    let s = parts 60 a.second b.second p.0 in
    let m = parts 60 a.minute b.minute s.0 in
    let h = parts 24 a.hour b.hour m.0 in
    λ i. record { days = h.0 i; hour = h.1 i; minute = m.1 i; second = s.1 i; part = p.1 i }

-- And some time.
pub some_time : (start offset : ℕ) → (t : DayTime) × Time start offset t
some_time start offset =
    let n = (start * 1000 + offset) / 100 in
    let s = n / 10000 in
    let m = s / 60 in
    let h = m / 60 in (
      record { days = h / 24; hour = h % 24; minute = m % 60; second = s % 60; part = n % 10000 },
      record {
        low = omega arith;
        high = omega arith;
        hour = omega arith;
        minute = omega arith;
        second = omega arith;
        part = omega arith;
      },
    )

-- A start and an offset give one stamp.
pub one_stamp : {start offset : ℕ} {s u : DateTime} → Stamp start offset s → Stamp start offset u → s ≡ u
one_stamp {start} {offset} {s} {u} a b =
    let t = one_time a.time b.time in
    let e : s.time.days ≡ u.time.days = ap (λ (t : DayTime). t.days) t in
    let d = one_date (rw e at a.date) b.date in
    λ i. record { date = d i; time = t i }

-- And some stamp.
pub some_stamp : (start offset : ℕ) → (s : DateTime) × Stamp start offset s
some_stamp start offset =
    let t = some_time start offset in
    let d = some_date t.0.days in
    (record { date = d.0; time = t.0 }, record { time = t.1; date = d.1 })
