-- The house texts by their parts, and how long they are.
use Prim.Native.Nat.{ℕ, ◌+◌, ◌/◌, ◌%◌}
use mathlib.Core.Path.{◌≡◌}
use mathlib.Core.List.{[], ◌∷◌, ◌++◌, append_assoc}
use native.Mathlib.Omega.{arith}
use lib.ListN.{length, length-append}
use Rattle.digits.specs.House.{decimal_text, padded_text, figure_of}
use Rattle.digits.proofs.House.{length_fixed}
use Rattle.clock.specs.Start.{day_ms}
use Rattle.lines.specs.Lines.{start_text}
use Rattle.lines.proofs.Lines.{file_text}
use Rattle.trace.specs.House.{version_line_text, fraction_of_day, start_line_text}
use Rattle.trace.proofs.HouseTexts.{version_line, start_line}
use Rattle.trace_writer.specs.inner.Passes.{with_end, head_text}

-- What is put together in steps.

pub version_cut : (version : ℕ) → with_end (version_line_text version)
    ≡ (59 ∷ file_text) ++ ((48 + version / 10) ∷ 46 ∷ (48 + version % 10) ∷ 13 ∷ 10 ∷ [])
version_cut version = rw version_line

pub start_cut : (start : ℕ)
    → with_end (start_line_text start) ≡ (59 ∷ start_text) ++ (decimal_text (start / day_ms) ++ (46 ∷ (padded_text 10 (fraction_of_day (start % day_ms)) ++ (13 ∷ 10 ∷ []))))
start_cut start = rw (start_line, append_assoc, append_assoc)

pub version_length : (version : ℕ) → length (with_end (version_line_text version)) ≡ 19
version_length version = rw version_cut

pub start_length : (start : ℕ) → length (with_end (start_line_text start)) ≡ length (decimal_text (start / day_ms)) + 25
start_length start =
    rw start_cut (omega (arith, length-append (decimal_text (start / day_ms)) (46 ∷ (padded_text 10 (fraction_of_day (start % day_ms)) ++ (13 ∷ 10 ∷ []))), length-append (padded_text 10 (fraction_of_day (start % day_ms))) (13 ∷ 10 ∷ []), length_fixed figure_of 10 10 (fraction_of_day (start % day_ms))))

pub head_length_lem : (version start : ℕ) → length (head_text version start) ≡ length (decimal_text (start / day_ms)) + 44
head_length_lem version start = rw length-append (omega (arith, version_length version, start_length start))
