-- What the functions of the explainer promise each other. No public promise cites this file.
use Rattle.std.specs.Prelude.{Option, Some, None, Result, Ok, Err, ℕ, ◌<◌, ◌≡◌, List, ◌∷◌, ◌++◌, length, drop}
use Rattle.record.specs.declared.Record.{Record}
use Rattle.fields.specs.Parted.{Parted}
use Rattle.fields.specs.Runs.{All}
use Rattle.fields.specs.inner.Window.{Solid}
use Rattle.row.specs.declared.Part.{Part}
use Rattle.row.specs.declared.Step.{Step}
use Rattle.row.specs.Row.{Expected, Row}
use Rattle.row.specs.inner.Stages.{Continues, Good}
use Rattle.explain.specs.declared.Explained.{Explained}
use Rattle.explain.specs.declared.Explained.TheVariants as explained
use Rattle.base.specs.declared.refusal.Refusal.{Refusal}
use Rattle.base.specs.Refusal.{number_of}
use Rattle.explain.specs.Explain.{ExpectedFields, WrongField, EndedEarly}

-- The bytes of a field.
pub record Field (f : List ℕ) : Type 0 where
  pub some : 0 < length f
  pub solid : All Solid f

-- The field f, where C says which fields end in which record: the rows that go on with it are those that go on from the state p.
pub record Moved (C : List (List ℕ) → Record → Type 0) (f : List ℕ) (p : Part) : Type 0 where
  pub good : Good p
  pub onto : (fs : List (List ℕ)) (r : Record) → C (f ∷ fs) r → Continues p fs r
  pub back : (fs : List (List ℕ)) (r : Record) → Continues p fs r → C (f ∷ fs) r

-- The field f: rows go on with it, from the state of t; or none does.
abbrev pub Moves : (List (List ℕ) → Record → Type 0) → List ℕ → Option Step → Type 0
Moves C f (Some t) = Moved C f t.part
Moves C f None = (fs : List (List ℕ)) (r : Record) → C (f ∷ fs) r → ⊥

-- The first i fields of the line stand before the place `at`, and C says which others make a row of them.
pub record FieldsBefore (version number : ℕ) (line : List ℕ) (C : List (List ℕ) → Record → Type 0) (at i : ℕ) : Type 0 where
  pub front : List (List ℕ)
  pub count : length front ≡ i
  pub parted : (fs : List (List ℕ)) → Parted fs (drop at line) → Parted (front ++ fs) line
  pub onto : (fs : List (List ℕ)) (r : Record) → ExpectedFields version number r (front ++ fs) → C fs r
  pub back : (fs : List (List ℕ)) (r : Record) → C fs r → ExpectedFields version number r (front ++ fs)

-- What is found of a line, where number 30 says that it is a row that is expected.
abbrev pub FoundIn : ℕ → ℕ → List ℕ → Result Explained Refusal → Type 0
FoundIn version number line (Ok (explained.Wrong i)) = WrongField version number line i
FoundIn version number line (Ok (explained.Early i)) = EndedEarly version number line i
FoundIn version number line (Err reason) = (number_of reason ≡ 30) × ((k : ℕ) × (r : Record) × Expected number k × Row version k r line)
