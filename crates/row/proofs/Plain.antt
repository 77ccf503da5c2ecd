-- The bytes of a row: none is CR or LF, and the first is no `;`.
use Prim.Native.Nat.{ℕ, ◌<◌}
use mathlib.Core.Path.{◌≡◌, sym, ◌∙◌}
use mathlib.Core.Logic.{◌≢◌, ⊎_elim}
use mathlib.Core.Bool.{Bool}
use mathlib.Core.List.{List, [], ◌∷◌}
use native.Mathlib.Omega.{arith}
use lib.ListN.{length, get_or, get_or-append}
use Rattle.digits.specs.Digits.{DecimalDigit, Digits, none, more}
use Rattle.fields.specs.Runs.{All}
use Rattle.fields.specs.Columns.{NumberField}
use Rattle.fields.specs.Parted.{Parted}
use Rattle.fields.specs.inner.Window.{rx, tx, warng, error}
use Rattle.fields.proofs.Columns.{Plain, number_plain, offset_plain, bus_plain, type_plain, remote_plain, byte_plain, hex_plain, id_plain, length_plain, word_plain}
use Rattle.fields.proofs.Runs.{all_map}
use Rattle.record.specs.declared.Record.{Record}
use Rattle.row.specs.Row
use Rattle.row.proofs.Fields.{Each, no_more, then, each_map, parted_all, parted_first, parted_some}
use Rattle.row.proofs.Warnings.{hex_field}

-- Each field of a row is plain, column by column from the last.

abbrev Plains : List (List ℕ) → Type 0
Plains fs = Each (All Plain) fs

words : {fs : List (List ℕ)} → Row.Words fs → Plains fs
words Row.none = no_more
words (Row.word a w) = then (word_plain a) (words w)

nothing : {fs : List (List ℕ)} → Row.Nothing fs → Plains fs
nothing Row.nothing = no_more

bytes : {Then : List (List ℕ) → Type 0} {place n sum : ℕ} {fs : List (List ℕ)} → ((gs : List (List ℕ)) → Then gs → Plains gs)
    → Row.ByteFields Then place n sum fs → Plains fs
bytes g (Row.done h) = g _ h
bytes g (Row.byte h r e) = then (byte_plain h) (bytes g r)

module _ {r : Record} where
  frame_data : {sent : ℕ} {fs : List (List ℕ)} → Row.FrameData sent r fs → Plains fs
  frame_data (Row.data_bytes k h) = bytes (λ gs. nothing) h
  frame_data (Row.remote k d e) = then (remote_plain e) no_more

  frame : {sent : ℕ} {fs : List (List ℕ)} → Row.FrameId sent r fs → Plains fs
  frame (Row.frame_id i (Row.frame_length l d)) = then (id_plain i) (then (length_plain l) (frame_data d))

  type : {fs : List (List ℕ)} → Row.FromType r fs → Plains fs
  type (Row.rx e h) = then (type_plain (rx e)) (frame h)
  type (Row.tx e h) = then (type_plain (tx e)) (frame h)
  type (Row.warng e (Row.warning_id k x h (Row.warning_length l b))) =
      then (type_plain (warng e)) (then (hex_plain (hex_field (omega arith) h)) (then (length_plain l) (bytes (λ gs. words) b)))
  type (Row.error e (Row.error_id k x h i (Row.error_length n l (Row.first f z (Row.second g p q w) u)))) =
      then (type_plain (error e))
      (then (hex_plain (hex_field (omega arith) h))
      (then (length_plain l) (then (byte_plain f) (then (byte_plain g) (bytes (λ gs. nothing) q)))))

  bus : {x : Bool} {fs : List (List ℕ)} → Row.FromBus r x fs → Plains fs
  bus (Row.no_bus b h) = type h
  bus (Row.bus b h) = then (bus_plain b) (type h)

-- Each field of a row has no blank, CR or LF.
pub fields_plain : {v k : ℕ} {r : Record} {fs : List (List ℕ)} → Row.RowFields v k r fs → Each (All Plain) fs
fields_plain (Row.number n (Row.offset v o b)) = then (number_plain n) (then (offset_plain o) (bus b))

-- Of a whole line.

pub row_plain : {v k : ℕ} {r : Record} {line : List ℕ} → Row.Row v k r line → All (λ b. (b ≢ 13) × (b ≢ 10)) line
row_plain a =
    parted_all (λ e. omega arith, λ e. omega arith)
    (each_map (λ f p. all_map (λ b q. (q.end, q.feed)) p) (fields_plain a.row)) a.parted

-- the first digit of the number
number_first : {k : ℕ} {f : List ℕ} → NumberField k f → get_or f 0 0 ≢ 59
number_first p e =
    go p.spelled.digits p.spelled.some
    (sym (get_or-append p.digits (41 ∷ []) 0 0 p.spelled.some) ∙ rw (← p.bytes) e)
  where
    go : {s : List ℕ} {n : ℕ} → Digits DecimalDigit 10 s n → 0 < length s → get_or s 0 0 ≡ 59 → ⊥
    go none h e = omega arith
    go (more d r w) h e = omega arith

-- A row starts with a blank or a digit, so it is no comment.
pub row_starts : {v k : ℕ} {r : Record} {line : List ℕ} → Row.Row v k r line → (b : ℕ) (s : List ℕ) → line ≡ b ∷ s → b ≢ 59
row_starts {line = line} a b s e z = go a.row a.parted
  where
    go : {v k : ℕ} {r : Record} {fs : List (List ℕ)} → Row.RowFields v k r fs → Parted fs line → ⊥
    go (Row.number n o) p = ⊎_elim (λ q. omega arith) (λ q. number_first n (sym q ∙ z)) (parted_first s p e)

-- It is not the empty line.
pub row_some : {v k : ℕ} {r : Record} {line : List ℕ} → Row.Row v k r line → 0 < length line
row_some {line = line} a = go a.row a.parted
  where
    go : {v k : ℕ} {r : Record} {fs : List (List ℕ)} → Row.RowFields v k r fs → Parted fs line → 0 < length line
    go (Row.number n o) p = parted_some p
