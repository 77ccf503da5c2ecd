-- A text has room for few rows: each takes at least 18 bytes.
use Prim.Native.Nat.{ℕ, ◌+◌, ◌*◌, ◌≤◌}
use mathlib.Core.Path.{◌≡◌, ap, ◌∙◌}
use mathlib.Core.List.{List, ◌∷◌}
use native.Mathlib.Omega.{arith}
use lib.ListN.{length, length-append}
use Rattle.record.specs.declared.Record.{Record}
use Rattle.row.proofs.Least.{row_least}
use Rattle.trace.specs.Trace.{Trace, Line, Body, over, comment, row, Spells}

-- A line, CR LF and what stands behind them.
line_size : {line rest text : List ℕ} → Line line rest text → length text ≡ length line + (2 + length rest)
line_size {line} {rest} l = ap length l.first.ended ∙ length-append line (13 ∷ 10 ∷ rest) ∙ omega arith

body_few : {v k : ℕ} {rs : List Record} {text : List ℕ} → Body v k rs text → 18 * length rs ≤ length text
body_few over = omega arith
body_few (comment l c h) = omega (arith, line_size l, body_few h)
body_few (row l w h) = omega (arith, line_size l, row_least w, body_few h)

-- Each row takes at least 18 bytes of its text.
pub rows_few : {t : Trace} {text : List ℕ} → Spells t text → 18 * length t.records ≤ length text
rows_few a = omega (arith, line_size a.one, line_size a.two, body_few a.body)
