-- `digits::glyph` is the byte of `glyph_of` in each letter case.
use Prim.Native.Nat.{◌+◌, ◌-◌}
use mathlib.Core.Path.{sym, ap, ◌∙◌}
use Rattle.digits.specs.declared.Letters.{Letters}
use Rattle.digits.specs.House.{ten_of}
use Rattle.digits.proofs.House.{glyph_figure, glyph_letter}
use Rattle.digits.proofs.glyph.Goals as goal

pub returns-then-d-lt10 : goal.returns-then-d-lt10
returns-then-d-lt10 c = sym (glyph_figure c.args.letters c.args.d c.if-d-lt10.true)

pub returns-in-Capital : goal.returns-in-Capital
returns-in-Capital c =
    let a = c.args in
    sym (glyph_letter a.letters a.d c.if-d-lt10.false ∙ ap (λ (l : Letters). ten_of l + (a.d - 10)) c.in-Capital.is)

pub returns-in-Small : goal.returns-in-Small
returns-in-Small c =
    let a = c.args in
    sym (glyph_letter a.letters a.d c.if-d-lt10.false ∙ ap (λ (l : Letters). ten_of l + (a.d - 10)) c.in-Small.is)
