-- The number of a reason tells the reason, and is not 0.
use Rattle.std.proofs.Common.{ℕ, ◌≡◌, ◌≢◌, List, [], ◌∷◌, get_or, refl, ap, sym, ◌∙◌, arith}
use Rattle.base.specs.declared.refusal.Refusal.{Refusal}
use Rattle.base.specs.declared.refusal.Refusal.TheVariants as refusal
use Rattle.base.specs.declared.refusal.Refused.{Refused}
use Rattle.base.specs.Refusal.{number_of}

-- The reasons, each at its number. Where no reason has the number, `TooLarge` stands.
abbrev reasons : List Refusal
reasons =
    refusal.TooLarge ∷ refusal.TooLarge ∷ refusal.Unended ∷ refusal.LongLine ∷ refusal.NotVersionLine ∷ refusal.NotStartLine ∷ refusal.Dollar
    ∷ refusal.NotRow ∷ refusal.NoRoomForRecords ∷ refusal.TooLarge ∷ refusal.TooLarge ∷ refusal.TooLarge ∷ refusal.TooLarge ∷ refusal.TooLarge
    ∷ refusal.TooLarge ∷ refusal.TooLarge ∷ refusal.TooLarge ∷ refusal.TooLarge ∷ refusal.TooLarge ∷ refusal.TooLarge ∷ refusal.NotRecords
    ∷ refusal.UnknownVersion ∷ refusal.LateStart ∷ refusal.Malformed ∷ refusal.Misfit ∷ refusal.NoRoom ∷ refusal.FirstNumber ∷ refusal.TooLarge
    ∷ refusal.TooLarge ∷ refusal.TooLarge ∷ refusal.NothingToExplain ∷ refusal.NotAsciiLine ∷ refusal.BeforeStart ∷ refusal.PastLimit
    ∷ refusal.TooManyLines ∷ refusal.UnknownChannel ∷ []

told : (r : Refusal) → get_or reasons (number_of r) refusal.TooLarge ≡ r
told refusal.TooLarge = refl
told refusal.Unended = refl
told refusal.LongLine = refl
told refusal.NotVersionLine = refl
told refusal.NotStartLine = refl
told refusal.Dollar = refl
told refusal.NotRow = refl
told refusal.NoRoomForRecords = refl
told refusal.NotRecords = refl
told refusal.UnknownVersion = refl
told refusal.LateStart = refl
told refusal.Malformed = refl
told refusal.Misfit = refl
told refusal.NoRoom = refl
told refusal.FirstNumber = refl
told refusal.NothingToExplain = refl
told refusal.NotAsciiLine = refl
told refusal.BeforeStart = refl
told refusal.PastLimit = refl
told refusal.TooManyLines = refl
told refusal.UnknownChannel = refl

pub same_reason : {r s : Refusal} → number_of r ≡ number_of s → r ≡ s
same_reason {r} {s} e = sym (told r) ∙ ap (λ (n : ℕ). get_or reasons n refusal.TooLarge) e ∙ told s

-- Number 0 is no reason's.
pub some_number : (r : Refusal) → number_of r ≢ 0
some_number r e =
    let t : r ≡ refusal.TooLarge = sym (told r) ∙ ap (λ (n : ℕ). get_or reasons n refusal.TooLarge) e in
    let one : number_of r ≡ 1 = ap number_of t in
    absurd (omega arith)

-- Number and place tell a refusal.
pub same_refused : {e f : Refused} → number_of e.reason ≡ number_of f.reason → e.place ≡ f.place → e ≡ f
same_refused r p = let s = same_reason r in λ i. record { reason = s i; place = p i }
