-- The date and the time of a stamp: what was read piece by piece is what any such part has; and the two of them behind each other at the start of a
-- line.
use Prim.Native.Nat.{ℕ, ◌+◌, ◌*◌, ◌≤◌}
use mathlib.Core.Path.{◌≡◌, refl, ap, subst, sym, ◌∙◌}
use mathlib.Core.List.{List, [], ◌∷◌, ◌++◌, append_assoc, append-nil}
use native.Mathlib.Omega.{arith}
use lib.ListN.{length, get_or, drop, length-append}
use Rattle.std.specs.Prelude.{Some, None}
use Rattle.digits.specs.House.{padded_text}
use Rattle.digits.proofs.House.{padded_spells}
use Rattle.digits.proofs.Theorems.{padded_below}
use Rattle.clock.specs.declared.CalendarDay.{CalendarDay}
use Rattle.clock.specs.declared.DayTime.{DayTime}
use Rattle.clock.specs.declared.DateTime.{DateTime}
use Rattle.clock.specs.Date.{Date}
use Rattle.base.specs.inner.Answers.{Answers}
use Rattle.clock.specs.inner.Days.{DayWithin}
use Rattle.clock.proofs.Dates.{small_day, last_year}
use Rattle.fields.specs.declared.Scan.{Scan}
use Rattle.fields.specs.Parted.{Parted}
use Rattle.fields.specs.Runs.{All, empty, more}
use Rattle.fields.specs.inner.Window.{Solid, LineBeforeCr, Lined, Skipped, FieldAt, Starts, Taken, Takes, FieldAfter, EndAfter}
use Rattle.fields.proofs.DigitFields.{first, ended}
use Rattle.fields.proofs.FixedFields.{solid_at}
use Rattle.fields.proofs.Gaps.{no_blank, skipped}
use Rattle.fields.proofs.Parts.{only_none}
use Rattle.fields.proofs.Runs.{all_at}
use Rattle.fields.proofs.Window.{End, head_at}
use Rattle.ascii_line.specs.Line.{date_text, time_text}
use Rattle.ascii_line_reader.specs.AsciiLine.{StampFits}
use Rattle.ascii_line_reader.specs.inner.Answer.{DigitsHere, DigitsThen, NoIndent, StampRead}
use Rattle.ascii_line_reader.specs.inner.Columns.{DatePart, TimePart}
use Rattle.ascii_line_reader.specs.inner.Frame.{Left}
use Rattle.ascii_line_reader.proofs.Digits.{text_is, line_behind, stands, next, as_field}
use Rattle.ascii_line_reader.proofs.Walk.{PartTaken, part_on, part_off, part_over}

-- One byte behind the blank, between two numbers.
between : (b : ℕ) → 33 ≤ b → All Solid (b ∷ [])
between b h = more (solid_at b h) empty

-- The date.

-- the pieces as they are read, and with what stands behind them
date_pieces : (d : CalendarDay)
    → (padded_text 2 d.day ++ (46 ∷ [])) ++ ((padded_text 2 d.month ++ (46 ∷ [])) ++ (padded_text 4 d.year ++ [])) ≡ date_text d
unfolding date_text
date_pieces d = simp (append_assoc, append-nil)

date_spread : (d : CalendarDay) (rest : List ℕ)
    → date_text d ++ rest ≡ padded_text 2 d.day ++ (46 ∷ (padded_text 2 d.month ++ (46 ∷ (padded_text 4 d.year ++ rest))))
unfolding date_text
date_spread d rest = simp append_assoc

-- any date at this place begins with a day,
module _ (w : List ℕ) {f rest : List ℕ} (at : ℕ) {v : ℕ} (a : FieldAt f rest (drop at w)) (p : DatePart v f) where
  begins_date : drop at w ≡ padded_text 2 p.date.day ++ (46 ∷ (padded_text 2 p.date.month ++ (46 ∷ (padded_text 4 p.date.year ++ rest))))
  begins_date = a.bytes ∙ ap (λ (l : List ℕ). l ++ rest) p.bytes ∙ date_spread p.date rest

  pub no_day : DigitsThen 2 (46 ∷ []) w at None → ⊥
  no_day n = n (padded_text 2 p.date.day) _ p.date.day (padded_spells 2 p.date.day (omega (arith, small_day p.is))) begins_date

-- and has the numbers that were read
module _ {w f rest : List ℕ} {at v n : ℕ} (a : FieldAt f rest (drop at w)) (p : DatePart v f) (x : DigitsHere 2 (46 ∷ []) w at n) where
  abbrev d : CalendarDay
  d = p.date

  pub day_is : (n ≡ p.date.day) × (drop (at + 3) w ≡ padded_text 2 p.date.month ++ (46 ∷ (padded_text 4 p.date.year ++ rest)))
  day_is =
      text_is (at + 3) d.day _ x (omega (arith, small_day p.is)) (begins_date w at a p) (omega arith)

  pub no_month : DigitsThen 2 (46 ∷ []) w (at + 3) None → ⊥
  no_month n = n (padded_text 2 d.month) _ d.month (padded_spells 2 d.month (omega (arith, p.is.calendar.last_month))) day_is.1

  module _ {m : ℕ} (y : DigitsHere 2 (46 ∷ []) w (at + 3) m) where
    pub month_is : (m ≡ p.date.month) × (drop (at + 6) w ≡ padded_text 4 p.date.year ++ rest)
    month_is = text_is (at + 6) d.month _ y (omega (arith, p.is.calendar.last_month)) day_is.1 (omega arith)

    pub no_year : DigitsThen 4 [] w (at + 6) None → ⊥
    no_year n = n (padded_text 4 d.year) rest d.year (padded_spells 4 d.year (omega (arith, last_year p.last p.is))) month_is.1

    module _ {k : ℕ} (z : DigitsHere 4 [] w (at + 6) k) where
      pub year_is : (k ≡ p.date.year) × (drop (at + 10) w ≡ rest)
      year_is = text_is (at + 10) d.year rest z (omega (arith, last_year p.last p.is)) month_is.1 (omega arith)

      pub date_ends : End (get_or w (at + 10) 0)
      date_ends =
          let e = year_is in
          ended w (at + 10) (line_behind (at + 10) z (omega arith)) (rw e.1 a.stops)

      pub date_counted : Answers (DayWithin (record { day = n; month = m; year = k })) None → ⊥
      date_counted f =
          let e : d ≡ record { day = n; month = m; year = k } = λ i. record { day = sym day_is.0 i; month = sym month_is.0 i; year = sym year_is.0 i } in
          f v (record { day = subst (Date v) e p.is; within = p.last })

-- and those that were read are a date
pub date_accept : {w : List ℕ} {at n m k days : ℕ} → DigitsHere 2 (46 ∷ []) w at n → DigitsHere 2 (46 ∷ []) w (at + 3) m → DigitsHere 4 [] w (at + 6) k
    → End (get_or w (at + 10) 0) → DayWithin (record { day = n; month = m; year = k }) days → Taken DatePart w at (record { end = at + 10; value = days })
date_accept {at = at} {n = n} {m = m} {k = k} x y z e c =
    let dot = between 46 (omega arith) in
    let s = next (stands (at + 3) dot x (omega arith)) (next (stands (at + 6) dot y (omega arith)) (stands (at + 10) empty z (omega arith))) in
    record {
      field = _;
      there = as_field s (omega arith) e;
      place = s.size;
      has = record {
        date = record { day = n; month = m; year = k };
        bytes = date_pieces (record { day = n; month = m; year = k });
        is = c.day;
        last = c.within;
      };
    }

-- The time, likewise.

time_pieces : (t : DayTime)
    → (padded_text 2 t.hour ++ (58 ∷ [])) ++ ((padded_text 2 t.minute ++ (58 ∷ [])) ++ ((padded_text 2 t.second ++ (46 ∷ [])) ++ (padded_text 4 t.part ++ [])))
    ≡ time_text t
unfolding time_text
time_pieces t = simp (append_assoc, append-nil)

time_spread : (t : DayTime) (rest : List ℕ)
    → time_text t ++ rest
    ≡ padded_text 2 t.hour ++ (58 ∷ (padded_text 2 t.minute ++ (58 ∷ (padded_text 2 t.second ++ (46 ∷ (padded_text 4 t.part ++ rest))))))
unfolding time_text
time_spread t rest = simp append_assoc

-- the days before it are no part of its text
same_time : (days : ℕ) (t : DayTime)
    → time_text t ≡ time_text (record { days = days; hour = t.hour; minute = t.minute; second = t.second; part = t.part })
unfolding time_text
same_time days t = refl

module _ (w : List ℕ) {f rest : List ℕ} (at : ℕ) {v : ℕ} (a : FieldAt f rest (drop at w)) (p : TimePart v f) where
  begins_time : drop at w
      ≡ padded_text 2 p.time.hour
      ++ (58 ∷ (padded_text 2 p.time.minute ++ (58 ∷ (padded_text 2 p.time.second ++ (46 ∷ (padded_text 4 p.time.part ++ rest))))))
  begins_time = a.bytes ∙ ap (λ (l : List ℕ). l ++ rest) p.bytes ∙ time_spread p.time rest

  pub no_hour : DigitsThen 2 (58 ∷ []) w at None → ⊥
  no_hour n = n (padded_text 2 p.time.hour) _ p.time.hour (padded_spells 2 p.time.hour (omega (arith, p.hour))) begins_time

module _ {w f rest : List ℕ} {at v n : ℕ} (a : FieldAt f rest (drop at w)) (p : TimePart v f) (x : DigitsHere 2 (58 ∷ []) w at n) where
  abbrev t : DayTime
  t = p.time

  pub hour_is : (n ≡ p.time.hour)
      × (drop (at + 3) w ≡ padded_text 2 p.time.minute ++ (58 ∷ (padded_text 2 p.time.second ++ (46 ∷ (padded_text 4 p.time.part ++ rest)))))
  hour_is =
      text_is (at + 3) t.hour _ x (omega (arith, p.hour)) (begins_time w at a p) (omega arith)

  pub no_minute : DigitsThen 2 (58 ∷ []) w (at + 3) None → ⊥
  no_minute n = n (padded_text 2 t.minute) _ t.minute (padded_spells 2 t.minute (omega (arith, p.minute))) hour_is.1

  module _ {m : ℕ} (y : DigitsHere 2 (58 ∷ []) w (at + 3) m) where
    pub minute_is : (m ≡ p.time.minute) × (drop (at + 6) w ≡ padded_text 2 p.time.second ++ (46 ∷ (padded_text 4 p.time.part ++ rest)))
    minute_is = text_is (at + 6) t.minute _ y (omega (arith, p.minute)) hour_is.1 (omega arith)

    pub no_second : DigitsThen 2 (46 ∷ []) w (at + 6) None → ⊥
    no_second n = n (padded_text 2 t.second) _ t.second (padded_spells 2 t.second (omega (arith, p.second))) minute_is.1

    module _ {k : ℕ} (z : DigitsHere 2 (46 ∷ []) w (at + 6) k) where
      pub second_is : (k ≡ p.time.second) × (drop (at + 9) w ≡ padded_text 4 p.time.part ++ rest)
      second_is = text_is (at + 9) t.second _ z (omega (arith, p.second)) minute_is.1 (omega arith)

      pub no_part : DigitsThen 4 [] w (at + 9) None → ⊥
      no_part n = n (padded_text 4 t.part) rest t.part (padded_spells 4 t.part (omega (arith, p.part))) second_is.1

      module _ {j : ℕ} (u : DigitsHere 4 [] w (at + 9) j) where
        pub part_is : (j ≡ p.time.part) × (drop (at + 13) w ≡ rest)
        part_is = text_is (at + 13) t.part rest u (omega (arith, p.part)) second_is.1 (omega arith)

        pub time_ends : End (get_or w (at + 13) 0)
        time_ends =
            let e = part_is in
            ended w (at + 13) (line_behind (at + 13) u (omega arith)) (rw e.1 a.stops)

pub time_accept : {w : List ℕ} {at n m k j : ℕ} → DigitsHere 2 (58 ∷ []) w at n → DigitsHere 2 (58 ∷ []) w (at + 3) m → DigitsHere 2 (46 ∷ []) w (at + 6) k
    → DigitsHere 4 [] w (at + 9) j → n ≤ 23 → m ≤ 59 → k ≤ 59 → End (get_or w (at + 13) 0)
    → Taken TimePart w at (record { end = at + 13; value = ((n * 60 + m) * 60 + k) * 10000 + j })
time_accept {at = at} {n = n} {m = m} {k = k} {j = j} x y z u h i l e =
    let colons = between 58 (omega arith) in
    let s = next (stands (at + 3) colons x (omega arith))
    (next (stands (at + 6) colons y (omega arith)) (next (stands (at + 9) (between 46 (omega arith)) z (omega arith)) (stands (at + 13) empty u (omega arith)))) in
    record {
      field = _;
      there = as_field s (omega arith) e;
      place = s.size;
      has = record {
        time = record { days = 0; hour = n; minute = m; second = k; part = j };
        bytes = time_pieces (record { days = 0; hour = n; minute = m; second = k; part = j });
        hour = omega arith;
        minute = omega arith;
        second = omega arith;
        part = padded_below u.padded;
        count = refl;
      };
    }

-- The start of a line.

-- where a part was taken, it starts
pub taken_starts : {P : ℕ → List ℕ → Type 0} {w : List ℕ} {at : ℕ} {s : Scan} → Lined (drop at w) → Taken P w at s → Starts w at
taken_starts {w = w} {at = at} {s = s} l t =
    let e = first w at t.field (drop s.end w) t.there.bytes t.there.some in
    record { lined = l; solid = rw e (all_at 0 t.there.solid t.there.some) }

-- and where no blank stands, but the line has some part
must_start : {w f : List ℕ} {at : ℕ} {fs gs : List (List ℕ)} (line : List ℕ) → LineBeforeCr line (drop at w) → NoIndent line → Parted fs line → fs ≡ f ∷ gs
    → Starts w at
must_start [] l i ps e = let n = only_none ps in let z : ◌≡◌ {A = ℕ} 0 1 = cc in absurd (omega arith)
must_start {w = w} {at = at} (b ∷ line) l i ps e =
    let h = head_at w at l.ended in
    let n = all_at 0 l.plain (omega arith) in
    record {
      lined = record { line = b ∷ line; is = l };
      solid = record { blank = λ z. i line (ap (λ (x : ℕ). x ∷ line) (sym h.1 ∙ z)); end = λ z. n (sym h.1 ∙ z) };
    }

no_gap : {w : List ℕ} {at : ℕ} → Starts w at → Skipped w at at
no_gap b = skipped (no_blank b.lined) b.solid.blank

-- a line that starts with a part has no blank there
not_indented : {w line : List ℕ} {at : ℕ} → LineBeforeCr line (drop at w) → Starts w at → NoIndent line
not_indented {w} {at = at} l b s e =
    let d : drop at w ≡ 32 ∷ (s ++ (13 ∷ l.rest)) = l.ended ∙ ap (λ (t : List ℕ). t ++ (13 ∷ l.rest)) e in
    b.solid.blank (head_at w at d).1

-- the stamp has these parts
fits_date : {d : DateTime} → StampFits d → DatePart d.time.days (date_text d.date)
fits_date {d} h = record { date = d.date; bytes = refl; is = h.exists.date; last = h.last }

fits_time : {d : DateTime} → StampFits d
    → TimePart (((d.time.hour * 60 + d.time.minute) * 60 + d.time.second) * 10000 + d.time.part) (time_text d.time)
fits_time {d} h = record {
  time = d.time;
  bytes = refl;
  hour = h.exists.time.hour;
  minute = h.exists.time.minute;
  second = h.exists.time.second;
  part = h.exists.time.part;
  count = refl;
}

module _ (w : List ℕ) {line : List ℕ} (at : ℕ) {fs : List (List ℕ)} (l : LineBeforeCr line (drop at w)) (ps : Parted fs line) where
  whole : Left line w at at fs
  whole = record {
    front = [];
    rest = line;
    whole = refl;
    tight = λ s e. omega (arith, ap length e, length-append s (32 ∷ []));
    place = omega arith;
    here = l;
    parted = ps;
  }

  -- no date
  pub date_off : Takes DatePart w at None → StampRead line w at fs None
  date_off n i day gs e h =
      let b = must_start line l i ps e in
      part_off (no_gap b) b n whole day.time.days (date_text day.date) (time_text day.time ∷ gs) e (fits_date h)

  -- a date
  module _ {s : Scan} (t : Taken DatePart w at s) where
    starts : Starts w at
    starts = taken_starts (record { line = line; is = l }) t

    date_on : PartTaken DatePart line w at fs s
    date_on = part_on (no_gap starts) starts t whole

    behind_date : {f g : List ℕ} {gs : List (List ℕ)} → fs ≡ f ∷ g ∷ gs → date_on.others ≡ g ∷ gs
    behind_date e = let i = date_on.is in cc

    -- and no time
    pub time_over : {a : ℕ} → EndAfter w s.end a → StampRead line w at fs None
    time_over k i d gs e h =
        let o = sym (part_over k date_on.left) ∙ behind_date e in
        let z : ◌≡◌ {A = ℕ} 0 1 = cc in
        omega arith

    module _ {a : ℕ} (k : FieldAfter w s.end a) where
      pub time_off : Takes TimePart w a None → StampRead line w at fs None
      time_off r i d gs e h = part_off k.skipped k.starts r date_on.left _ (time_text d.time) gs (behind_date e) (fits_time h)

      -- and a time
      pub stamp_on : {u : Scan} → Taken TimePart w a u → StampRead line w at fs (Some record { end = u.end; value = s.value * 864000000 + u.value })
      stamp_on {u} r =
          let x = date_on in
          let y = part_on k.skipped k.starts r x.left in
          let p = x.value in
          let q = y.value in
          let moment : DayTime = record { days = s.value; hour = q.time.hour; minute = q.time.minute; second = q.time.second; part = q.time.part } in
          record {
            stamp = record { date = p.date; time = moment };
            later = y.others;
            parts = cc (x.is, y.is, p.bytes, q.bytes, same_time s.value q.time);
            fits = record {
              exists = record {
                time = record { low = omega arith; high = omega arith; hour = q.hour; minute = q.minute; second = q.second; part = q.part };
                date = p.is;
              };
              last = p.last;
            };
            value = omega (arith, q.count);
            no_indent = not_indented l starts;
            left = y.left;
          }
