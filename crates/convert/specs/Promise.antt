-- What is printed for an input: the export of its trace, or one line with its refusal. In words: docs/FORMAT.md, section 12.
use Rattle.std.specs.Prelude.{Option, Some, None, ℕ, ◌*◌, ◌≤◌, ◌<◌, ◌≡◌, List, [], ◌∷◌, ◌++◌, length, drop}
use Rattle.base.specs.Text.{text, cr, lf}
use Rattle.digits.specs.House.{decimal_text}
use Rattle.trace.specs.Trace.{Trace, Spells}
use Rattle.trace.specs.Promise.{RefusedAtLine}
use Rattle.ascii.specs.Promise.{Exports}

-- The most bytes of an input.
abbrev pub input_limit : ℕ
input_limit = 65536

-- The channel that bus 0 is printed as.
abbrev pub bench_channel : ℕ
bench_channel = 1

-- `refused 7 at line 4` and CR LF.
unfoldable pub refusal_text : ℕ → ℕ → List ℕ
refusal_text number place =
    text "refused " ++ (decimal_text number ++ (text " at line " ++ (decimal_text place ++ (cr ∷ lf ∷ []))))

-- What is printed for an input, whatever it is.
pub data Prints (input : List ℕ) : List ℕ → Type 0 where
  large : input_limit < length input → Prints input (refusal_text 1 0)
  refused : {number place : ℕ} → length input ≤ input_limit → RefusedAtLine input number place → Prints input (refusal_text number place)
  export : {t : Trace} {text : List ℕ} → length input ≤ input_limit → Spells t input → Exports t.start bench_channel t.records text
      → Prints input text

-- What is lent is too short, with so many bytes for records and so many on the page: the trace is good and its records have no room, or what is
-- to be printed has none.
pub data TooShort (input : List ℕ) (records page : ℕ) : Type 0 where
  no_records : {t : Trace} → length input ≤ input_limit → Spells t input → records < 20 * length t.records → TooShort input records page
  no_page : {text : List ℕ} → Prints input text → page < length text → TooShort input records page

-- `convert` of an input, with so many bytes lent for records, and a page that held `before` and then holds `after`, gives the answer r.
pub data ConvertPromise (input : List ℕ) (records : ℕ) (before : List ℕ) (r : Option ℕ) (after : List ℕ) : Type 0 where
  -- what is to be printed, and behind it what was there
  page : {text : List ℕ} → Prints input text → (TooShort input records (length before) → ⊥) → r ≡ Some (length text)
      → after ≡ text ++ drop (length text) before → ConvertPromise input records before r after
  -- what is lent is too short, and the page is untouched
  short : TooShort input records (length before) → r ≡ None → after ≡ before → ConvertPromise input records before r after

-- What the program lends: room for the records and for the lines of every input. A row has at least 18 bytes, a record 20, a line at most 86.
abbrev pub records_room : ℕ
records_room = 72800

abbrev pub page_room : ℕ
page_room = 313040
