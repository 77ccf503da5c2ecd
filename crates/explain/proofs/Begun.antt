-- "Some row begins with these fields" is said of a row's fields (`BeginsRow`), and holds of lines: some line is a row, and its first fields are these.
-- The further fields may be taken without empty words, which no line has, and with one blank between two.
use Prim.Native.Nat.{ℕ, zero, suc, ◌+◌, ◌-◌, ◌<◌}
use mathlib.Core.Path.{◌≡◌, refl}
use mathlib.Core.Bool.{Bool}
use mathlib.Core.List.{List, [], ◌∷◌, ◌++◌}
use native.Mathlib.Omega.{arith}
use lib.ListN.{length, take}
use Rattle.base.specs.Spaced.{joined}
use Rattle.fields.specs.Parted.{Parted, none, blank_first, field}
use Rattle.fields.specs.inner.Window.{rx, tx, warng, error}
use Rattle.fields.proofs.Columns.{number_some, offset_some, bus_some, type_some, remote_some, byte_some, id_some, length_some}
use Rattle.fields.proofs.Runs.{all_map}
use Rattle.record.specs.declared.Record.{Record}
use Rattle.digits.specs.Digits.{Hex}
use Rattle.row.specs.Row
use Rattle.row.proofs.Fields.{Each, no_more, then, each_map}
use Rattle.row.proofs.Plain.{fields_plain}
use Rattle.row.proofs.Texts.{Sized, nil, one, parted_joined}
use Rattle.explain.specs.Explain.{BeginsRow, WrongField, EndedEarly}

-- A field of one byte or more.
abbrev pub NotEmpty : List ℕ → Type 0
NotEmpty f = 0 < length f

-- The fields that are not empty.
abbrev kept : List (List ℕ) → List (List ℕ)
kept [] = []
kept ([] ∷ fs) = kept fs
kept ((b ∷ f) ∷ fs) = (b ∷ f) ∷ kept fs

kept_some : {f : List ℕ} (fs : List (List ℕ)) → NotEmpty f → kept (f ∷ fs) ≡ f ∷ kept fs
kept_some {f} fs h = go f h
  where
    go : (f : List ℕ) → NotEmpty f → kept (f ∷ fs) ≡ f ∷ kept fs
    go [] h = absurd (omega arith)
    go (b ∷ f) h = refl

kept_each : (fs : List (List ℕ)) → Each NotEmpty (kept fs)
kept_each [] = no_more
kept_each ([] ∷ fs) = kept_each fs
kept_each ((b ∷ f) ∷ fs) = then {f = b ∷ f} (omega arith) (kept_each fs)

kept_front : {fs : List (List ℕ)} (gs : List (List ℕ)) → Each NotEmpty fs → kept (fs ++ gs) ≡ fs ++ kept gs
kept_front gs no_more = refl
kept_front gs (then {fs = fs} h e) = rw (kept_some (fs ++ gs) h, kept_front gs e)

-- What is a row is one without empty words, column by column from the last.

words : {fs : List (List ℕ)} → Row.Words fs → Row.Words (kept fs)
words Row.none = Row.none
words (Row.word {f = []} a w) = words w
words (Row.word {f = b ∷ f} a w) = Row.word a (words w)

nothing : {fs : List (List ℕ)} → Row.Nothing fs → Row.Nothing (kept fs)
nothing Row.nothing = Row.nothing

bytes : {Then : List (List ℕ) → Type 0} {place n sum : ℕ} {fs : List (List ℕ)} → ((gs : List (List ℕ)) → Then gs → Then (kept gs))
    → Row.ByteFields Then place n sum fs → Row.ByteFields Then place n sum (kept fs)
bytes g (Row.done h) = Row.done (g _ h)
bytes g (Row.byte {fs = fs} h r e) = rw (kept_some fs (byte_some h)) (Row.byte h (bytes g r) e)

hex_some : {w n : ℕ} {f : List ℕ} → 0 < w → Hex w n f → NotEmpty f
hex_some l h = omega (arith, h.width)

module _ {r : Record} where
  frame_data : {sent : ℕ} {fs : List (List ℕ)} → Row.FrameData sent r fs → Row.FrameData sent r (kept fs)
  frame_data (Row.data_bytes k h) = Row.data_bytes k (bytes (λ gs. nothing) h)
  frame_data (Row.remote k d e) = rw (kept_some [] (remote_some e)) (Row.remote k d e)

  frame : {sent : ℕ} {fs : List (List ℕ)} → Row.FrameId sent r fs → Row.FrameId sent r (kept fs)
  frame (Row.frame_id {fs = fs} i (Row.frame_length {fs = gs} l d)) =
      rw (kept_some fs (id_some i), kept_some gs (length_some l)) (Row.frame_id i (Row.frame_length l (frame_data d)))

  warning : {fs : List (List ℕ)} → Row.WarningId r fs → Row.WarningId r (kept fs)
  warning (Row.warning_id {fs = fs} k x h (Row.warning_length {fs = gs} l b)) =
      rw (kept_some fs (hex_some (omega arith) h), kept_some gs (length_some l)) (Row.warning_id k x h (Row.warning_length l (bytes (λ gs. words) b)))

  failed : {fs : List (List ℕ)} → Row.ErrorIdField r fs → Row.ErrorIdField r (kept fs)
  failed (Row.error_id {fs = fs} k x h i (Row.error_length {fs = gs} n l (Row.first {fs = hs} f z (Row.second {fs = is} g p q w) u))) =
      rw (kept_some fs (hex_some (omega arith) h), kept_some gs (length_some l), kept_some hs (byte_some f), kept_some is (byte_some g))
      (Row.error_id k x h i (Row.error_length n l (Row.first f z (Row.second g p (bytes (λ gs. nothing) q) w) u)))

  type : {fs : List (List ℕ)} → Row.FromType r fs → Row.FromType r (kept fs)
  type (Row.rx {fs = fs} e h) = rw (kept_some fs (type_some (rx e))) (Row.rx e (frame h))
  type (Row.tx {fs = fs} e h) = rw (kept_some fs (type_some (tx e))) (Row.tx e (frame h))
  type (Row.warng {fs = fs} e h) = rw (kept_some fs (type_some (warng e))) (Row.warng e (warning h))
  type (Row.error {fs = fs} e h) = rw (kept_some fs (type_some (error e))) (Row.error e (failed h))

  bus : {x : Bool} {fs : List (List ℕ)} → Row.FromBus r x fs → Row.FromBus r x (kept fs)
  bus (Row.no_bus b h) = Row.no_bus b (type h)
  bus (Row.bus {fs = fs} b h) = rw (kept_some fs (bus_some b)) (Row.bus b (type h))

kept_row : {v k : ℕ} {r : Record} {fs : List (List ℕ)} → Row.RowFields v k r fs → Row.RowFields v k r (kept fs)
kept_row (Row.number {fs = fs} n (Row.offset {fs = gs} v o b)) =
    rw (kept_some fs (number_some n), kept_some gs (offset_some o)) (Row.number n (Row.offset v o (bus b)))

-- Fields that are not empty are those of a line.

sized : {fs : List (List ℕ)} → Each NotEmpty fs → (n : ℕ) × Sized n fs
sized no_more = (0, nil)
sized (then {f = f} h e) = let x = sized e in (length f + suc x.0, one {n = length f + suc x.0} {m = x.0} {f = f} h (omega arith) x.1)

pub parted_each : {fs : List (List ℕ)} {line : List ℕ} → Parted fs line → Each NotEmpty fs
parted_each none = no_more
parted_each (blank_first p) = parted_each p
parted_each (field {b = b} {f = f} a h e p) = then {f = b ∷ f} (omega arith) (parted_each p)

each_take : {P : List ℕ → Type 0} (n : ℕ) {fs : List (List ℕ)} → Each P fs → Each P (take n fs)
each_take zero no_more = no_more
each_take zero (then h e) = no_more
each_take (suc n) no_more = no_more
each_take (suc n) (then h e) = then h (each_take n e)

-- Some line is a row of this version, with a number that may stand where e is expected, and begins with these fields.
pub record SomeRow (v e : ℕ) (fs : List (List ℕ)) : Type 0 where
  pub line : List ℕ
  pub k : ℕ
  pub r : Record
  pub expected : Row.Expected e k
  pub row : Row.Row v k r line
  pub further : List (List ℕ)
  pub begins : row.fields ≡ fs ++ further

pub begins_row : {v e : ℕ} {fs : List (List ℕ)} → Each NotEmpty fs → BeginsRow v e fs → SomeRow v e fs
begins_row {v} {fs = fs} n b =
    let x = b.row in
    let w : Row.RowFields v x.k b.r (fs ++ kept b.further) = rw (kept_front b.further n) at (kept_row x.row) in
    let s : Each NotEmpty (fs ++ kept b.further) = rw (kept_front b.further n) at (kept_each (fs ++ b.further)) in
    let p = each_map (λ g a. all_map (λ c q. q.blank) a) (fields_plain w) in
    record {
      line = joined (fs ++ kept b.further);
      k = x.k;
      r = b.r;
      expected = x.expected;
      row = record { fields = fs ++ kept b.further; parted = parted_joined (sized s).1 p; row = w };
      further = kept b.further;
      begins = refl;
    }

-- And the other way round.
pub row_begins : {v e : ℕ} {fs : List (List ℕ)} → SomeRow v e fs → BeginsRow v e fs
row_begins s = record { further = s.further; r = s.r; row = record { k = s.k; expected = s.expected; row = rw s.begins at s.row.row } }

-- So a wrong field, and an early end, are what paper 02 says of rows.
pub wrong_rows : {v e i : ℕ} {line : List ℕ} (w : WrongField v e line i) → SomeRow v e (take (i - 1) w.fields) × (SomeRow v e (take i w.fields) → ⊥)
wrong_rows {i = i} w = (begins_row (each_take (i - 1) (parted_each w.parted)) w.before, λ s. w.none (row_begins s))

pub early_rows : {v e i : ℕ} {line : List ℕ} (w : EndedEarly v e line i) → SomeRow v e w.fields
early_rows w = begins_row (parted_each w.parted) w.begins
