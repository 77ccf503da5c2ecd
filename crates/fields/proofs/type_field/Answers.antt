-- `fields::type_field` goes by the second byte and then by the first, which tell the type.
use native.Mathlib.Omega.{arith}
use borrow.Author.Rules.{rules}
use mathlib.Core.Path.{refl}
use Rattle.fields.proofs.FixedFields.{first, here, byte_at, first_is, short, long, type_takes, no_short, no_long}
use Rattle.fields.proofs.type_field.Goals as goal

pub bounds-w-at-2 : goal.bounds-w-at-2
bounds-w-at-2 c = omega (arith, here (first c.requires refl))

pub returns-in-82 : goal.returns-in-82
returns-in-82 c = type_takes c.short_type.result c.requires (short (λ e. omega arith) (λ e. omega arith) c.in-82.is) c.short_type.ensures

pub returns-in_default : goal.returns-in_default
returns-in_default c =
    λ f rest a v p.
    no_short (first_is c.requires a) (byte_at c.args.w.now c.args.at 1 a) c.if-w-at-eq120.true (λ s. search rules) p

pub returns-in-69 : goal.returns-in-69
returns-in-69 c =
    type_takes c.long_type.result c.requires
    (long _ (omega (arith, c.wide-in-69.ensures.0)) (λ e. omega arith) (λ e. omega arith) c.in-69.is) c.long_type.ensures

pub returns-in_default-m : goal.returns-in_default-m
returns-in_default-m c =
    λ f rest a v p.
    no_long (first_is c.requires a) (byte_at c.args.w.now c.args.at 1 a) c.if-w-at-eq120.false (λ s. search rules) p
