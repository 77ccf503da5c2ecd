-- `escapes::ended`: two digits are a byte.
use Rattle.std.proofs.Common.{◌∙◌, arith}
use Rattle.escapes.proofs.Spelled.{looked_up, byte_is}
use Rattle.escapes.proofs.ended.Goals as goal

pub returns-in-Digit : goal.returns-in-Digit
returns-in-Digit c = λ s x k y. byte_is (rw c.in-Digit.is at k) (λ d p. c.unwrap_or-low.ensures ∙ looked_up 255 c.digit.result c.digit.ensures p) (omega arith) y
