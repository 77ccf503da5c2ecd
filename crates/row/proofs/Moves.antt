-- What a stage does to the state: one law for each way a field moves it.
use Prim.Native.Nat.{ℕ, ◌+◌}
use Rattle.std.specs.Prelude.{None}
use mathlib.Core.Path.{◌≡◌, ◌∙◌}
use mathlib.Core.List.{List, ◌∷◌}
use lib.ListN.{length}
use Rattle.fields.specs.declared.Scan.{Scan}
use Rattle.fields.specs.inner.Window.{Takes, Taken}
use Rattle.fields.proofs.Window.{field_one}
use Rattle.record.specs.declared.Record.{Record}
use Rattle.row.specs.declared.Step.{Step}
use Rattle.row.specs.inner.Stages.{Stepped, Stuck, Continues, Good}

module _ {P : ℕ → List ℕ → Type 0} {w : List ℕ} {at : ℕ} {C : List (List ℕ) → Record → Type 0} where
  -- no such field stands there
  pub refused : Takes P w at None → ((f : List ℕ) (fs : List (List ℕ)) (r : Record) → C (f ∷ fs) r → (v : ℕ) × P v f) → Stuck w at C
  refused a g = record { none = λ f rest b fs r c. let x = g f fs r c in a f rest b x.0 x.1 }

  module _ {s : Scan} (g : Taken P w at s) where
    -- one stands there, and no row goes on with its value
    pub barred : ((f : List ℕ) (fs : List (List ℕ)) (r : Record) → P s.value f → s.end ≡ at + length f → C (f ∷ fs) r → ⊥) → Stuck w at C
    barred n = record { none = λ f rest b fs r c. let x = (field_one b g.there).0 in n g.field fs r g.has g.place (rw x at c) }

    -- one stands there, and rows go on
    pub went : (t : Step) → t.at ≡ s.end → Good t.part
        → ((f : List ℕ) (fs : List (List ℕ)) (r : Record) → P s.value f → s.end ≡ at + length f → C (f ∷ fs) r → Continues t.part fs r)
        → ((f : List ℕ) (fs : List (List ℕ)) (r : Record) → P s.value f → s.end ≡ at + length f → Continues t.part fs r → C (f ∷ fs) r)
        → Stepped w at C t
    went t e k onto back = record {
      field = g.field;
      there = rw (← e) at g.there;
      place = e ∙ g.place;
      good = k;
      onto = λ fs r. onto g.field fs r g.has g.place;
      back = λ fs r. back g.field fs r g.has g.place;
    }
