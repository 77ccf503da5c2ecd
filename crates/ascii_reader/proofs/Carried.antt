-- Which version carries a record that came back: 1.1 those of channel 0, 1.2 those of channels 1 to 16.
use Prim.Native.Nat.{ℕ, ◌+◌, ◌*◌, ◌%◌, ◌≤◌}
use mathlib.Core.Path.{◌≡◌}
use mathlib.Core.List.{List}
use native.Mathlib.Omega.{arith}
use Rattle.clock.specs.declared.DateTime.{DateTime}
use Rattle.record.specs.declared.Record.{Record}
use Rattle.records.specs.Records.{Each, none, more}
use Rattle.row.specs.Versions.{Carries, v11, v12}
use Rattle.ascii_line_reader.specs.AsciiLine.{instant}
use Rattle.ascii_reader.specs.Text.{Lines, over, line}

-- Its offset is whole in 100 microseconds.
whole : (start offset : ℕ) (s : DateTime) → instant s ≡ start * 1000 + offset → offset % 100 ≡ 0
whole start offset s e = omega arith

pub carried : {start : ℕ} {rs : List Record} {text : List ℕ} → Lines start rs text
    → Each (λ r. (r.bus ≡ 0 → Carries r 11) × (1 ≤ r.bus → Carries r 12)) rs
carried over = none
carried {start} (line {s = s} {r = r} f a e h ls) = more ((λ b. v11 b (whole start r.offset s e)), (λ b. v12 b a.frame.channel)) (carried ls)
