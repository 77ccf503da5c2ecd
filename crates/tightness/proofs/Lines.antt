-- Wrong answers of the readers of fields, rows and single lines: each is refuted over what a field, a row or a line is.
use Prim.Native.Nat.{ℕ}
use mathlib.Core.Path.{◌≡◌, refl}
use mathlib.Core.Logic.{◌≢◌}
use mathlib.Core.List.{List, [], ◌∷◌, ◌++◌}
use native.Mathlib.Omega.{arith}
use lib.ListN.{length}
use Rattle.fields.specs.Runs.{All, more, Stops, halt, empty}
use Rattle.fields.specs.Columns.{IdField, standard, long, Capital, remote_text}
use Rattle.fields.specs.inner.Window.{Solid, FieldAt}
use Rattle.record.specs.declared.Record.{Record}
use Rattle.row.specs.Versions.{Version, is11, version_text, Carries, v11}
use Rattle.row.specs.Row
use Rattle.lines.specs.Lines.{VersionLine, Blanks}

-- fields

-- `[`, the byte after `Z`, is in no word
pub bracket_in_a_word : All Capital (91 ∷ []) → ⊥
bracket_in_a_word (more p q) = omega (arith, p.high)

-- LF ends no field
pub feed_ends : {f rest s : List ℕ} → FieldAt f (10 ∷ rest) s → ⊥
feed_ends a = go a.stops
  where
    go : {rest : List ℕ} → Stops Solid (10 ∷ rest) → ⊥
    go (halt n) = n (record { blank = λ e. omega arith; end = λ e. omega arith })

-- rows

-- an ID of eight digits is extended, whatever its value, and one of four is not
pub eight_digits_standard : {id : ℕ} {f : List ℕ} → length f ≡ 8 → IdField 0 id f → ⊥
eight_digits_standard n (standard e h l) = omega (arith, h.width)
eight_digits_standard n (long e h l) = omega arith

pub four_digits_extended : {id : ℕ} {f : List ℕ} → length f ≡ 4 → IdField 1 id f → ⊥
four_digits_extended n (standard e h l) = omega arith
four_digits_extended n (long e h l) = omega (arith, h.width)

-- version 1.1 has bus 0
pub bus_1_in_11 : {k : ℕ} {r : Record} {line : List ℕ} → Row.Row 11 k r line → r.bus ≡ 1 → ⊥
bus_1_in_11 {k} {r} w e = go w.row
  where
    go : {fs : List (List ℕ)} → Row.RowFields 11 k r fs → ⊥
    go (Row.number n (Row.offset is11 o (Row.no_bus b m))) = omega arith

-- a remote frame has the kind of its direction and two more
pub remote_kind_one_more : {r : Record} → Row.FrameData 0 r (remote_text ∷ []) → r.kind ≡ 3 → ⊥
remote_kind_one_more (Row.data_bytes k b) e = omega arith
remote_kind_one_more (Row.remote k d f) e = omega arith

-- a row does not end while bytes of it are left
pub ended_with_bytes_left : {r : Record} → Row.FrameData 0 r [] → r.len ≢ 0 → ⊥
ended_with_bytes_left {r} (Row.data_bytes k b) n = n (none_left b)
  where
    none_left : {Then : List (List ℕ) → Type 0} {place m sum : ℕ} → Row.ByteFields Then place m sum [] → m ≡ 0
    none_left (Row.done h) = refl

-- an error frame has length 4
pub error_of_length_five : {r : Record} {fs : List (List ℕ)} → Row.ErrorLength r fs → r.len ≡ 5 → ⊥
error_of_length_five (Row.error_length n l b) e = omega arith

-- version 1.1 carries whole 100 microseconds alone
pub tenth_of_a_millisecond : {r : Record} → Carries r 11 → r.offset ≡ 50 → ⊥
tenth_of_a_millisecond (v11 b o) e = omega arith

-- versions

pub version_13 : Version 13 → ⊥
version_13 t = elim t [ ]

-- lines

-- `$FILEVERSION=1.3` is no version, and a version line is spelled exactly
pub version_three : {line : List ℕ} → VersionLine 13 line → ⊥
version_three l = version_13 l.is

pub wrong_letter : {v : ℕ} {s : List ℕ} → VersionLine v (59 ∷ 36 ∷ 71 ∷ s) → ⊥
wrong_letter {v} {s} l = go l.after l.blanks l.bytes
  where
    go : {a : List ℕ} (b : List ℕ) → Blanks a → 59 ∷ 36 ∷ 71 ∷ s ≡ 59 ∷ (a ++ (version_text v ++ b)) → ⊥
    go b (more {b = x} p a) e = let z : 36 ≡ x = cc in omega arith
    go b empty e = let z : ◌≡◌ {A = ℕ} 71 70 = cc in omega arith
