-- Lines that are none of Telemotive ASCII, by one of their parts: each is refuted over what such a line is, for every line to which it applies. And wrong
-- answers of `line_in` and `day_of`.
use Rattle.std.specs.Prelude.{Some, None}
use Prim.Native.Nat.{ℕ, ◌+◌, ◌*◌, ◌-◌, ◌≤◌, ◌<◌}
use mathlib.Core.Path.{◌≡◌, refl, ap, ◌∙◌}
use mathlib.Core.Logic.{◌≢◌, ◌⊎◌, inl, inr}
use mathlib.Core.List.{List, [], ◌∷◌, ◌++◌}
use native.Mathlib.Omega.{arith}
use lib.ListN.{length}
use Rattle.base.specs.Text.{text, blank}
use Rattle.base.specs.inner.Answers.{Answers}
use Rattle.base.proofs.Numbers.{below_or_not}
use Rattle.digits.specs.Digits.{Hex}
use Rattle.digits.specs.House.{figure_of, decimal_text}
use Rattle.digits.proofs.House.{decimal_spells}
use Rattle.digits.proofs.Theorems.{one_spelled, one_hex}
use Rattle.clock.specs.declared.CalendarDay.{CalendarDay}
use Rattle.clock.specs.declared.DayTime.{DayTime}
use Rattle.clock.specs.declared.DateTime.{DateTime}
use Rattle.clock.specs.Date.{leap, month_days, before, Date, last_day}
use Rattle.clock.specs.Stamp.{ticks}
use Rattle.clock.specs.inner.Days.{DayWithin}
use Rattle.clock.proofs.Calendar.{not_by_4, leap_small, years, last_month, guess}
use Rattle.clock.proofs.Dates.{one_day, small_day}
use Rattle.record.specs.declared.Record.{Record}
use Rattle.fields.specs.Columns.{type_rx, type_tx}
use Rattle.fields.specs.Parted.{Parted}
use Rattle.fields.proofs.Parts.{parted_one}
use Rattle.row.specs.Row.{Nothing, nothing, ByteFields, done, byte}
use Rattle.ascii_line.specs.Line.{date_text, time_text, message_type_text, channel_text, direction_text}
use Rattle.ascii_line_reader.specs.declared.LineRead.{LineRead}
use Rattle.ascii_line_reader.specs.AsciiLine.{with_offset, AsciiLine}
use Rattle.ascii_line_reader.specs.inner.Answer.{LineFound}
use Rattle.ascii_line_reader.specs.inner.Columns.{IdPart}
use Rattle.ascii_line_reader.specs.inner.Frame.{FromType, from_type, from_channel, from_bar, no_word, word, FromDirection, from_direction, from_id, from_length}
use Rattle.ascii_line_reader.proofs.Columns.{type_one, no_type}
use Rattle.ascii_line_reader.proofs.One.{next_one, ShortDate, one_date, ShortTime, short_date, short_time}
use Rattle.ascii_line_reader.proofs.Theorems.{line_one}
use Rattle.ascii_line_reader.proofs.Whole.{line_frame}

-- The type says whether an ID is extended, and what stands after the bar.

is_standard : {r : Record} {c b : List ℕ} {fs : List (List ℕ)} → FromType r (text "CAN" ∷ c ∷ b ∷ fs) → (r.extended ≡ 0) × FromDirection r fs
unfolding message_type_text
is_standard (from_type t (from_channel c (from_bar b (no_word e d)))) = (e, d)
is_standard (from_type t (from_channel c (from_bar b (word e w d)))) =
    let z = type_one {u = 0} t (record { bytes = refl; few = omega arith }) in
    absurd (omega arith)

is_extended : {r : Record} {c b f : List ℕ} {fs : List (List ℕ)} → FromType r (text "CANExt" ∷ c ∷ b ∷ f ∷ fs)
    → (r.extended ≡ 1) × (f ≡ text "EXTENDED") × FromDirection r fs
unfolding message_type_text
is_extended (from_type t (from_channel c (from_bar b (word e w d)))) = (e, w, d)
is_extended (from_type t (from_channel c (from_bar b (no_word e d)))) =
    let z = type_one {u = 1} t (record { bytes = refl; few = omega arith }) in
    absurd (omega arith)

-- The parts after the bar, and after `EXTENDED`, of all parts of a line: from the direction on.
pub data Behind : ℕ → List (List ℕ) → List (List ℕ) → Type 0 where
  standard : {d t c b : List ℕ} {fs : List (List ℕ)} → Behind 0 fs (d ∷ t ∷ text "CAN" ∷ c ∷ b ∷ fs)
  extended : {d t c b f : List ℕ} {fs : List (List ℕ)} → Behind 1 fs (d ∷ t ∷ text "CANExt" ∷ c ∷ b ∷ f ∷ fs)

from_behind : {x : ℕ} {s : DateTime} {r : Record} {line : List ℕ} {fs all : List (List ℕ)} → Behind x fs all → Parted all line → AsciiLine s r line
    → (r.extended ≡ x) × FromDirection r fs
from_behind standard p a = is_standard (line_frame a p refl)
from_behind extended p a = let z = is_extended (line_frame a p refl) in (z.0, z.2)

-- As many bytes as the length says.
bytes_counted : {place n sum : ℕ} {fs : List (List ℕ)} → ByteFields Nothing place n sum fs → length fs ≡ n
bytes_counted (done nothing) = refl
bytes_counted (byte h b e) = omega (arith, bytes_counted b)

module _ {s : DateTime} {r : Record} {line : List ℕ} where
  -- the date

  date_is : {d : CalendarDay} {fs : List (List ℕ)} → ShortDate d → Parted (date_text d ∷ fs) line → AsciiLine s r line → d ≡ s.date
  date_is {d} h p a = one_date h (short_date a.stamp) (cc (parted_one p a.apart.parted, a.spelled.are))

  module _ {d : CalendarDay} {fs : List (List ℕ)} (h : ShortDate d) where
    -- a date that is no day up to the last one:
    pub no_date : ((n : ℕ) → Date n d → n ≤ last_day → ⊥) → Parted (date_text d ∷ fs) line → AsciiLine s r line → ⊥
    no_date f p a = let e = date_is h p a in f s.time.days (rw e a.stamp.exists.date) a.stamp.last

    -- one past the end of its month,
    pub no_such_day : month_days (leap d.year) (d.month - 1) < d.day → Parted (date_text d ∷ fs) line → AsciiLine s r line → ⊥
    no_such_day l = no_date (λ n x k. omega (arith, x.calendar.in_month))

    -- past day 99,999,
    pub past_the_last_day : {n : ℕ} → Date n d → last_day < n → Parted (date_text d ∷ fs) line → AsciiLine s r line → ⊥
    past_the_last_day x l = no_date (λ m y k. omega (arith, one_day y x))

    -- or before 30.12.1899
    pub before_the_first_day : d.year < 1900 → (d.month < 12) ⊎ (d.day < 30) → Parted (date_text d ∷ fs) line → AsciiLine s r line → ⊥
    before_the_first_day y l = no_date (λ n x k. go x l (below_or_not d.month 12))
      where
        early : {n : ℕ} → Date n d → d.month < 12 → ⊥
        early x m =
            let k = x.calendar in
            omega (arith, years (d.year - 1899), guess (leap d.year) (d.month - 1) (leap_small d.year) (omega arith), small_day x)

        go : {n : ℕ} → Date n d → (d.month < 12) ⊎ (d.day < 30) → (d.month < 12) ⊎ (12 ≤ d.month) → ⊥
        go x l (inl m) = early x m
        go x (inl m) (inr k) = early x m
        go x (inr u) (inr m) =
            let k = x.calendar in
            let e : before (leap d.year) (d.month - 1) ≡ before (leap d.year) 11 = ap (before (leap d.year)) (omega arith) in
            omega (arith, years (d.year - 1899), last_month (leap d.year), not_by_4 d.year (λ z. omega arith))

  -- 30 February of any year, and 29 February 1900
  pub thirtieth_of_february : {fs : List (List ℕ)} (y : ℕ) → y < 10000 → Parted (date_text (record { day = 30; month = 2; year = y }) ∷ fs) line
      → AsciiLine s r line → ⊥
  unfolding month_days
  thirtieth_of_february y h =
      no_such_day {d = record { day = 30; month = 2; year = y }} (record { day = omega arith; month = omega arith; year = h }) (omega (arith, leap_small y))

  pub leap_day_1900 : {fs : List (List ℕ)} → Parted (date_text (record { day = 29; month = 2; year = 1900 }) ∷ fs) line → AsciiLine s r line → ⊥
  unfolding month_days leap
  leap_day_1900 =
      no_such_day {d = record { day = 29; month = 2; year = 1900 }} (record { day = omega arith; month = omega arith; year = omega arith }) (omega arith)

  -- the time

  module _ {t : DayTime} {f : List ℕ} {fs : List (List ℕ)} (h : ShortTime t) where
    -- a time that is none of a day
    pub no_time : (t.hour < 24 → t.minute < 60 → t.second < 60 → ⊥) → Parted (f ∷ time_text t ∷ fs) line → AsciiLine s r line → ⊥
    unfolding time_text
    no_time n p a =
        let u = s.time in
        let k = short_time a.stamp in
        let q : time_text t ≡ time_text u = cc (parted_one p a.apart.parted, a.spelled.are) in
        let x = next_one 2 t.hour u.hour 58 h.hour k.hour q in
        let y = next_one 2 t.minute u.minute 58 h.minute k.minute x.1 in
        let z = next_one 2 t.second u.second 46 h.second k.second y.1 in
        let i = a.stamp.exists.time in
        n (omega (arith, x.0, i.hour)) (omega (arith, y.0, i.minute)) (omega (arith, z.0, i.second))

    pub hour_24 : 24 ≤ t.hour → Parted (f ∷ time_text t ∷ fs) line → AsciiLine s r line → ⊥
    hour_24 l = no_time (λ x y z. omega arith)

    pub minute_60 : 60 ≤ t.minute → Parted (f ∷ time_text t ∷ fs) line → AsciiLine s r line → ⊥
    minute_60 l = no_time (λ x y z. omega arith)

    pub second_60 : 60 ≤ t.second → Parted (f ∷ time_text t ∷ fs) line → AsciiLine s r line → ⊥
    second_60 l = no_time (λ x y z. omega arith)

  -- type and channel

  -- a type other than `CAN` and `CANExt`, as `CANEXT`
  pub other_type : {d t f : List ℕ} {fs : List (List ℕ)} → f ≢ text "CAN" → f ≢ text "CANExt" → Parted (d ∷ t ∷ f ∷ fs) line → AsciiLine s r line → ⊥
  unfolding message_type_text
  other_type {f = f} n m p a = go (line_frame a p refl)
    where
      go : {fs : List (List ℕ)} → FromType r (f ∷ fs) → ⊥
      go (from_type x c) = no_type r.extended x.few (λ e. n (x.bytes ∙ ap message_type_text e)) (λ e. m (x.bytes ∙ ap message_type_text e))

  -- a channel read as another bus, as 0 as 1
  pub another_bus : {d t m : List ℕ} {fs : List (List ℕ)} (n : ℕ) → r.bus ≢ n → Parted (d ∷ t ∷ m ∷ channel_text n ∷ fs) line → AsciiLine s r line → ⊥
  another_bus n f p a = go (line_frame a p refl)
    where
      go : {m : List ℕ} {fs : List (List ℕ)} → FromType r (m ∷ channel_text n ∷ fs) → ⊥
      go (from_type x (from_channel c b)) =
          f (one_spelled r.bus n (cc c.bytes))

  -- a channel above 16
  pub channel_17 : {d t m : List ℕ} {fs : List (List ℕ)} (n : ℕ) → 16 < n → Parted (d ∷ t ∷ m ∷ channel_text n ∷ fs) line → AsciiLine s r line → ⊥
  channel_17 n h p a = another_bus n (λ e. omega (arith, a.frame.channel)) p a

  -- a channel with a leading zero, as `#00` and `#01`
  pub channel_led_by_0 : {d t m g : List ℕ} {x : ℕ} {fs : List (List ℕ)} → Parted (d ∷ t ∷ m ∷ (35 ∷ 48 ∷ x ∷ g) ∷ fs) line → AsciiLine s r line → ⊥
  channel_led_by_0 p a = go (line_frame a p refl)
    where
      go : {m g : List ℕ} {x : ℕ} {fs : List (List ℕ)} → FromType r (m ∷ (35 ∷ 48 ∷ x ∷ g) ∷ fs) → ⊥
      go {g = g} {x = x} (from_type y (from_channel c b)) =
          let e : decimal_text r.bus ≡ 48 ∷ x ∷ g = cc c.bytes in
          (rw e at (decimal_spells r.bus)).lead (omega arith) refl

  -- `CANExt` without `EXTENDED`, or with another word, as one in small letters
  pub other_word : {d t c b f : List ℕ} {fs : List (List ℕ)} → f ≢ text "EXTENDED" → Parted (d ∷ t ∷ text "CANExt" ∷ c ∷ b ∷ f ∷ fs) line
      → AsciiLine s r line → ⊥
  other_word n p a = n (is_extended (line_frame a p refl)).1

  -- direction, ID and length

  module _ {x : ℕ} {w : List ℕ} {fs all : List (List ℕ)} where
    -- a direction other than `Rx` and `Tx`, as `RX` and `rx`, or `EXTENDED` after `CAN`
    pub other_direction : Behind x (w ∷ fs) all → w ≢ type_rx → w ≢ type_tx → Parted all line → AsciiLine s r line → ⊥
    unfolding direction_text
    other_direction b n m p a = go (from_behind b p a).1
      where
        go : FromDirection r (w ∷ fs) → ⊥
        go (from_direction d i) = no_type r.kind d.few (λ e. n (d.bytes ∙ ap direction_text e)) (λ e. m (d.bytes ∙ ap direction_text e))

  module _ {x : ℕ} {w i : List ℕ} {fs all : List (List ℕ)} where
    id_is : Behind x (w ∷ i ∷ fs) all → Parted all line → AsciiLine s r line → IdPart x r.id i
    id_is b p a = let z = from_behind b p a in go z.0 z.1
      where
        go : r.extended ≡ x → FromDirection r (w ∷ i ∷ fs) → IdPart x r.id i
        go e (from_direction d (from_id k l)) = rw e at k

    -- an ID of another width than three digits after `CAN`, and eight after `CANExt`
    pub other_width : Behind x (w ∷ i ∷ fs) all → length i ≢ 3 + 5 * x → Parted all line → AsciiLine s r line → ⊥
    other_width b n p a = n (id_is b p a).digits.width

  module _ {w i : List ℕ} {fs all : List (List ℕ)} where
    pub four_digits : Behind 0 (w ∷ i ∷ fs) all → length i ≡ 4 → Parted all line → AsciiLine s r line → ⊥
    four_digits b e = other_width b (λ n. omega arith)

    pub extended_three_digits : Behind 1 (w ∷ i ∷ fs) all → length i ≡ 3 → Parted all line → AsciiLine s r line → ⊥
    extended_three_digits b e = other_width b (λ n. omega arith)

    -- an ID past its limit, in digits of either letter case
    pub above_7ff : {n v : ℕ} → Behind 0 (w ∷ i ∷ fs) all → Hex n v i → 0x7FF < v → Parted all line → AsciiLine s r line → ⊥
    above_7ff b h l p a = let k = id_is b p a in omega (arith, one_hex h k.digits, k.standard refl)

    pub above_1fffffff : {n v : ℕ} → Behind 1 (w ∷ i ∷ fs) all → Hex n v i → 0x1FFFFFFF < v → Parted all line → AsciiLine s r line → ⊥
    above_1fffffff b h l p a = let k = id_is b p a in omega (arith, one_hex h k.digits, k.long)

  module _ {x : ℕ} {w i : List ℕ} {fs all : List (List ℕ)} (n : ℕ) (b : Behind x (w ∷ i ∷ (figure_of n ∷ []) ∷ fs) all) where
    length_is : Parted all line → AsciiLine s r line → (n ≤ 8) × (length fs ≡ n)
    length_is p a = go (from_behind b p a).1
      where
        go : FromDirection r (w ∷ i ∷ (figure_of n ∷ []) ∷ fs) → (n ≤ 8) × (length fs ≡ n)
        go (from_direction d (from_id k (from_length l c))) =
            let e : figure_of n ≡ figure_of r.len = cc l.spelled in
            (omega (arith, l.small), omega (arith, bytes_counted c))

    -- length 9
    pub length_9 : 8 < n → Parted all line → AsciiLine s r line → ⊥
    length_9 h p a = omega (arith, (length_is p a).0)

    -- more bytes than the length says, and fewer
    pub byte_too_many : n < length fs → Parted all line → AsciiLine s r line → ⊥
    byte_too_many h p a = omega (arith, (length_is p a).1)

    pub byte_too_few : length fs < n → Parted all line → AsciiLine s r line → ⊥
    byte_too_few h p a = omega (arith, (length_is p a).1)

-- a blank before the first part, or after the last
pub blank_first : {s : DateTime} {r : Record} {t : List ℕ} → AsciiLine s r (blank ∷ t) → ⊥
blank_first {t = t} a = a.apart.first t refl

pub blank_last : {s : DateTime} {r : Record} (t : List ℕ) → AsciiLine s r (t ++ (blank ∷ [])) → ⊥
blank_last t a = a.apart.last t refl

-- line_in

module _ {s : DateTime} {r : Record} {line : List ℕ} (a : AsciiLine s r line) where
  -- another stamp than the line's, or another frame
  pub another_stamp : {from : ℕ} {x : LineRead} → x.ticks ≢ ticks s.time → LineFound line from (Some x) → ⊥
  another_stamp n l = n (l.ticks ∙ ap (λ (d : DateTime). ticks d.time) (line_one l.is a).0)

  pub another_frame : {from : ℕ} {x : LineRead} (o : ℕ) → with_offset o x.r ≢ with_offset o r → LineFound line from (Some x) → ⊥
  another_frame o n l = n ((line_one l.is a).1 o)

  -- a line, said to be none
  pub line_refused : (from : ℕ) → LineFound line from None → ⊥
  line_refused from f = f s r a

-- and none, said to be one
pub no_line_taken : {line : List ℕ} {from : ℕ} {x : LineRead} → ((s : DateTime) (r : Record) → AsciiLine s r line → ⊥) → LineFound line from (Some x) → ⊥
no_line_taken {x = x} n l = n l.stamp x.r l.is

-- day_of

module _ {d : CalendarDay} where
  -- another day than the date's, none for a date that is a day
  pub another_day : {m n : ℕ} → Date m d → m ≤ last_day → n ≢ m → Answers (DayWithin d) (Some n) → ⊥
  another_day x l e w = e (one_day w.day x)

  pub none_for_a_day : {m : ℕ} → Date m d → m ≤ last_day → Answers (DayWithin d) None → ⊥
  none_for_a_day x l f = f _ (record { day = x; within = l })

  -- and a day for a date that is none
  pub day_for_none : {n : ℕ} → ((m : ℕ) → Date m d → m ≤ last_day → ⊥) → Answers (DayWithin d) (Some n) → ⊥
  day_for_none f w = f _ w.day w.within
