-- What the readers of digits, of a stamp and of a whole line answer.
use Rattle.std.specs.Prelude.{Option, Some, None, ℕ, ◌+◌, ◌≡◌, List, ◌∷◌, ◌++◌, length, drop}
use Rattle.base.specs.Text.{blank}
use Rattle.digits.specs.Digits.{Padded}
use Rattle.clock.specs.declared.DateTime.{DateTime}
use Rattle.clock.specs.Stamp.{ticks}
use Rattle.record.specs.declared.Record.{Record}
use Rattle.fields.specs.declared.Scan.{Scan}
use Rattle.fields.specs.inner.Window.{Lined}
use Rattle.ascii_line.specs.Line.{date_text, time_text}
use Rattle.ascii_line_reader.specs.declared.LineRead.{LineRead}
use Rattle.ascii_line_reader.specs.AsciiLine.{StampFits, AsciiLine}
use Rattle.ascii_line_reader.specs.inner.Frame.{Left}

-- The last stamp that a line may have, in steps of 100 microseconds from the beginning of day 0: the last one of day 99,999.
abbrev pub tick_limit : ℕ
tick_limit = 86399999999999

-- So many digits of the number n stand at a place, and t after them.
pub record DigitsHere (width : ℕ) (t s : List ℕ) (at n : ℕ) : Type 0 where
  pub digits : List ℕ
  pub padded : Padded width n digits
  pub bytes : drop at s ≡ digits ++ (t ++ drop (at + width + length t) s)
  pub lined : Lined (drop (at + width + length t) s)

-- So they do, or no such digits stand there.
abbrev pub DigitsThen : ℕ → List ℕ → List ℕ → ℕ → Option ℕ → Type 0
DigitsThen width t s at (Some n) = DigitsHere width t s at n
DigitsThen width t s at None = (g u : List ℕ) (m : ℕ) → Padded width m g → drop at s ≡ g ++ (t ++ u) → ⊥

-- No blank stands at the start.
abbrev pub NoIndent : List ℕ → Type 0
NoIndent line = (s : List ℕ) → line ≡ blank ∷ s → ⊥

-- The parts of a line start with a stamp, s.value times 100 microseconds from the beginning of day 0, and end before s.end.
pub record StampHere (line w : List ℕ) (from : ℕ) (fs : List (List ℕ)) (s : Scan) : Type 0 where
  pub stamp : DateTime
  pub later : List (List ℕ)
  pub parts : fs ≡ date_text stamp.date ∷ time_text stamp.time ∷ later
  pub fits : StampFits stamp
  pub value : s.value ≡ ticks stamp.time
  pub no_indent : NoIndent line
  pub left : Left line w from s.end later

-- So they do, or they start with none.
abbrev pub StampRead : List ℕ → List ℕ → ℕ → List (List ℕ) → Option Scan → Type 0
StampRead line w from fs (Some s) = StampHere line w from fs s
StampRead line w from fs None =
    NoIndent line → (d : DateTime) (gs : List (List ℕ)) → fs ≡ date_text d.date ∷ time_text d.time ∷ gs → StampFits d → ⊥

-- The stamp and the record of the line at this place of a window, and the place of its end.
pub record LineHere (line : List ℕ) (from : ℕ) (x : LineRead) : Type 0 where
  pub stamp : DateTime
  pub is : AsciiLine stamp x.r line
  pub ticks : x.ticks ≡ ticks stamp.time
  pub end : x.end ≡ from + length line

-- So it is, or the line is no such line.
abbrev pub LineFound : List ℕ → ℕ → Option LineRead → Type 0
LineFound line from (Some x) = LineHere line from x
LineFound line from None = (d : DateTime) (r : Record) → AsciiLine d r line → ⊥
