-- Two stamps of the same texts are one, and two records of the same values, but for the offset.
use Prim.Native.Nat.{ℕ, ◌^◌, ◌<◌}
use mathlib.Core.Path.{◌≡◌, sym, ◌∙◌}
use mathlib.Core.List.{List, ◌∷◌, ◌++◌}
use native.Mathlib.Omega.{arith}
use Rattle.base.proofs.Lists.{same_cut}
use Rattle.digits.specs.House.{padded_text}
use Rattle.digits.proofs.House.{padded_spells}
use Rattle.digits.proofs.Theorems.{one_padded}
use Rattle.clock.specs.declared.CalendarDay.{CalendarDay}
use Rattle.clock.specs.declared.DayTime.{DayTime}
use Rattle.clock.specs.declared.DateTime.{DateTime}
use Rattle.clock.proofs.Dates.{one_day, small_day, small_year}
use Rattle.record.specs.declared.Record.{Record}
use Rattle.ascii_line.specs.Line.{date_text, time_text}
use Rattle.ascii_line_reader.specs.AsciiLine.{with_offset, StampFits}
use Rattle.ascii_line_reader.proofs.Frames.{values}

-- Numbers in digits of a fixed width.
padded_one : (w m n : ℕ) → m < 10 ^ w → n < 10 ^ w → padded_text w m ≡ padded_text w n → m ≡ n
padded_one w m n h k e = one_padded (rw e at (padded_spells w m h)) (padded_spells w n k)

-- Such a number, and what follows a byte behind it.
pub next_one : (w m n c : ℕ) {s t : List ℕ} → m < 10 ^ w → n < 10 ^ w → padded_text w m ++ (c ∷ s) ≡ padded_text w n ++ (c ∷ t) → (m ≡ n) × (s ≡ t)
next_one w m n c h k e =
    let x = same_cut (padded_text w m) (padded_text w n) e ((padded_spells w m h).width ∙ sym (padded_spells w n k).width) in
    (padded_one w m n h k x.0, x.2)

pub record ShortDate (d : CalendarDay) : Type 0 where
  pub day : d.day < 100
  pub month : d.month < 100
  pub year : d.year < 10000

pub one_date : {d e : CalendarDay} → ShortDate d → ShortDate e → date_text d ≡ date_text e → d ≡ e
unfolding date_text
one_date {d} {e} h k q =
    let x = next_one 2 d.day e.day 46 h.day k.day q in
    let y = next_one 2 d.month e.month 46 h.month k.month x.1 in
    let z = padded_one 4 d.year e.year h.year k.year y.1 in
    λ i. record { day = x.0 i; month = y.0 i; year = z i }

pub record ShortTime (t : DayTime) : Type 0 where
  pub hour : t.hour < 100
  pub minute : t.minute < 100
  pub second : t.second < 100
  pub part : t.part < 10000

one_time : {t u : DayTime} → ShortTime t → ShortTime u → t.days ≡ u.days → time_text t ≡ time_text u → t ≡ u
unfolding time_text
one_time {t} {u} h k d q =
    let x = next_one 2 t.hour u.hour 58 h.hour k.hour q in
    let y = next_one 2 t.minute u.minute 58 h.minute k.minute x.1 in
    let z = next_one 2 t.second u.second 46 h.second k.second y.1 in
    let p = padded_one 4 t.part u.part h.part k.part z.1 in
    λ i. record { days = d i; hour = x.0 i; minute = y.0 i; second = z.0 i; part = p i }

pub short_date : {s : DateTime} → StampFits s → ShortDate s.date
short_date f =
    let d = f.exists.date in
    record { day = omega (arith, small_day d); month = omega (arith, d.calendar.last_month); year = small_year (omega (arith, f.last)) d }

pub short_time : {s : DateTime} → StampFits s → ShortTime s.time
short_time f =
    let t = f.exists.time in
    record { hour = omega (arith, t.hour); minute = omega (arith, t.minute); second = omega (arith, t.second); part = t.part }

pub one_stamp : {s u : DateTime} → StampFits s → StampFits u → date_text s.date ≡ date_text u.date → time_text s.time ≡ time_text u.time → s ≡ u
one_stamp {s} {u} f g d t =
    let x = one_date (short_date f) (short_date g) d in
    let n = one_day (rw x at f.exists.date) g.exists.date in
    let y = one_time (short_time f) (short_time g) n t in
    λ i. record { date = x i; time = y i }

pub same_values : (r q : Record) → values r ≡ values q → (o : ℕ) → with_offset o r ≡ with_offset o q
same_values r q e o =
    let b : r.bus ≡ q.bus = cc in
    let k : r.kind ≡ q.kind = cc in
    let x : r.extended ≡ q.extended = cc in
    let n : r.id ≡ q.id = cc in
    let l : r.len ≡ q.len = cc in
    let d : r.«data» ≡ q.«data» = cc in
    λ i. record { offset = o; bus = b i; kind = k i; extended = x i; id = n i; len = l i; «data» = d i }
