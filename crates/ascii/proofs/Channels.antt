-- The channel that a bus is written as.
use Prim.Native.Nat.{ℕ, ◌≤◌}
use mathlib.Core.Path.{◌≡◌, sym, ◌∙◌}
use native.Mathlib.Decide.{ℕ_discrete}
use native.Mathlib.Omega.{arith}
use borrow.Author.Tests.{eq-eqb, ne_eqb}
use Rattle.base.specs.Limits.{last_bus}
use Rattle.ascii.specs.Promise.{channel_of}

pub given_channel : (channel bus : ℕ) → bus ≡ 0 → channel_of channel bus ≡ channel
unfolding channel_of
given_channel channel bus e = rw (eq-eqb bus 0 e)

pub own_channel : (channel bus : ℕ) → (bus ≡ 0 → ⊥) → channel_of channel bus ≡ bus
unfolding channel_of
own_channel channel bus f = rw (ne_eqb bus 0 f)

pub channel_most : (channel bus : ℕ) → channel ≤ last_bus → bus ≤ last_bus → channel_of channel bus ≤ last_bus
channel_most channel bus c h =
    elim (ℕ_discrete bus 0) [ yes z ↦ omega (arith, given_channel channel bus z) | no f ↦ omega (arith, own_channel channel bus f) ]

-- Where 0 is given, every bus is written as the channel of its number.
pub same_channel : (bus : ℕ) → channel_of 0 bus ≡ bus
same_channel bus = elim (ℕ_discrete bus 0) [ yes z ↦ given_channel 0 bus z ∙ sym z | no f ↦ own_channel 0 bus f ]
