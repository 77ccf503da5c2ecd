-- The reasons to refuse an input, by their numbers. In words: docs/FORMAT.md, section 11.
use Rattle.std.specs.Prelude.{ℕ}
use Rattle.base.specs.declared.refusal.Refusal.{Refusal}
use Rattle.base.specs.declared.refusal.Refusal.TheVariants as refusal

abbrev pub number_of : Refusal → ℕ
number_of refusal.TooLarge = 1
number_of refusal.Unended = 2
number_of refusal.LongLine = 3
number_of refusal.NotVersionLine = 4
number_of refusal.NotStartLine = 5
number_of refusal.Dollar = 6
number_of refusal.NotRow = 7
number_of refusal.NoRoomForRecords = 8
number_of refusal.NotRecords = 20
number_of refusal.UnknownVersion = 21
number_of refusal.LateStart = 22
number_of refusal.Malformed = 23
number_of refusal.Misfit = 24
number_of refusal.NoRoom = 25
number_of refusal.FirstNumber = 26
number_of refusal.NothingToExplain = 30
number_of refusal.NotAsciiLine = 31
number_of refusal.BeforeStart = 32
number_of refusal.PastLimit = 33
number_of refusal.TooManyLines = 34
number_of refusal.UnknownChannel = 35
