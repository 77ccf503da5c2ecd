-- `escapes::after`: a digit begins a byte.
use Rattle.std.proofs.Common.{◌∙◌}
use Rattle.escapes.proofs.Spelled.{looked_up, digit_begun}
use Rattle.escapes.proofs.after.Goals as goal

pub returns-in-Hex : goal.returns-in-Hex
returns-in-Hex c = λ s k. digit_begun (rw c.in-Hex.is at k) (λ d p. c.unwrap_or.ensures ∙ looked_up 255 c.digit.result c.digit.ensures p)
