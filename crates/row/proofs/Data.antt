-- What each stage of the data knows: bytes, words, and where a row may end.
use Rattle.std.specs.Prelude.{Option, Some, None}
use Prim.Native.Nat.{ℕ, suc, ◌+◌, ◌*◌, ◌-◌, ◌/◌, ◌^◌, ◌≤◌}
use native.Mathlib.Nat.{mul-le-mul_right, add_assoc}
use mathlib.Core.Path.{◌≡◌, refl, ap, sym, ◌∙◌, subst}
use mathlib.Core.Logic.{◌≢◌}
use mathlib.Core.List.{List, [], ◌∷◌}
use native.Mathlib.Omega.{arith}
use lib.ListN.{length}
use Rattle.digits.specs.Digits.{Hex}
use Rattle.digits.proofs.Theorems.{one_hex, hex_below}
use Rattle.fields.specs.declared.Scan.{Scan}
use Rattle.fields.specs.Columns.{Capital, remote_text}
use Rattle.fields.specs.Runs.{All}
use Rattle.fields.specs.inner.Window.{Takes, Taken}
use Rattle.record.specs.declared.Record.{Record}
use Rattle.row.specs.declared.Part.{Part}
use Rattle.row.specs.declared.Step.{Step}
use Rattle.row.specs.declared.Stage.{Stage}
use Rattle.row.specs.declared.Stage.TheVariants as stage
use Rattle.row.specs.Row
use Rattle.row.specs.inner.Stages.{Stepped, Stuck, Steps, OneByte, Byted, Gathers, plus, known5, continues_at, Continues, good_at, Good}
use Rattle.row.proofs.Moves.{refused, went}
use Rattle.row.proofs.Columns.{behind}

-- Bytes taken off.

no_field : {f : List ℕ} {fs : List (List ℕ)} → Row.Nothing (f ∷ fs) → ⊥
no_field h = elim h [ ]

after_byte : {Then : List (List ℕ) → Type 0} {place n sum : ℕ} {f : List ℕ} {fs : List (List ℕ)} → Row.ByteFields Then place (suc n) sum (f ∷ fs)
    → (b : ℕ) × (u : ℕ) × Hex 2 b f × Row.ByteFields Then (place / 256) n u fs × (sum ≡ b * place + u)
after_byte (Row.byte {b = b} {u = u} h r e) = (b, u, h, r, e)

pub no_more : {Then : List (List ℕ) → Type 0} {place sum : ℕ} {fs : List (List ℕ)} → Row.ByteFields Then place 0 sum fs → Then fs × (sum ≡ 0)
no_more (Row.done h) = (h, refl)

pub none_left : {Then : List (List ℕ) → Type 0} {place n sum : ℕ} → Row.ByteFields Then place n sum [] → n ≡ 0
none_left (Row.done h) = refl

first_byte : {place n sum : ℕ} {f : List ℕ} {fs : List (List ℕ)} → Row.ByteFields Row.Nothing place n sum (f ∷ fs) → (b : ℕ) × Hex 2 b f
first_byte (Row.done h) = absurd (no_field h)
first_byte (Row.byte {b = b} h r e) = (b, h)

-- The state one byte further.
abbrev pub further : Stage → Part → ℕ → Part
further next p v = record { stage = next; left = p.left - 1; place = p.place / 256; r = plus p.r (v * p.place) }

module _ (Then : List (List ℕ) → Type 0) (next : Stage) (p : Part) (n : p.left ≢ 0) {v : ℕ} {f : List ℕ} (h : Hex 2 v f) where
  left : p.left ≡ suc (p.left - 1)
  left = omega arith

  pub byte_onto : (fs : List (List ℕ)) (r : Record) → Gathers Then p (f ∷ fs) r → Gathers Then (further next p v) fs r
  byte_onto fs r c =
      let a = after_byte (rw left at c.bytes) in
      let z : a.0 ≡ v = one_hex a.2 h in
      record {
        known = c.known;
        sum = a.1;
        bytes = a.3;
        total = omega (arith, c.total, a.4, ap (λ (x : ℕ). x * p.place) z);
      }

  pub byte_back : (fs : List (List ℕ)) (r : Record) → Gathers Then (further next p v) fs r → Gathers Then p (f ∷ fs) r
  byte_back fs r c = record {
    known = c.known;
    sum = v * p.place + c.sum;
    bytes = rw (← left) at (Row.byte h c.bytes refl);
    total = c.total ∙ add_assoc p.r.«data» (v * p.place) c.sum;
  }

  pub byte_good : p.r.«data» + 256 * p.place ≤ 256 ^ 8 → p.r.«data» + v * p.place + 256 * (p.place / 256) ≤ 256 ^ 8
  byte_good g =
      let b = hex_below h in
      let l : v ≤ 255 = omega arith in
      omega (arith, mul-le-mul_right p.place l)

-- The byte that was read is the next of p's.
pub one_byte : {w : List ℕ} {at : ℕ} {s : Scan} {next : Stage} {p : Part} {t : Step} → Taken (Hex 2) w at s → t.at ≡ s.end
    → t.part ≡ further next p s.value → OneByte w at next p t
one_byte {s = s} g e q = record { field = g.field; value = s.value; there = rw (← e) at g.there; place = e ∙ g.place; has = g.has; part = q }

-- A byte at its place is at most so much.
pub byte_fits : (place : ℕ) {v : ℕ} {f : List ℕ} → Hex 2 v f → v * place ≤ 255 * place
byte_fits place h = let b = hex_below h in mul-le-mul_right place (omega arith)

-- A stage that gathers bytes, and then what `Then` says.
record Gathering (Then : List (List ℕ) → Type 0) (next : Stage) : Type 0 where
  into : (q : Part) (fs : List (List ℕ)) (r : Record) → q.stage ≡ next → Gathers Then q fs r → Continues q fs r
  out : (q : Part) (fs : List (List ℕ)) (r : Record) → q.stage ≡ next → Continues q fs r → Gathers Then q fs r
  fine : (q : Part) → q.stage ≡ next → q.r.«data» + 256 * q.place ≤ 256 ^ 8 → Good q

frames : Gathering Row.Nothing stage.Bytes
frames = record {
  into = λ q fs r e c. subst (λ (x : Stage). continues_at x q fs r) (sym e) c;
  out = λ q fs r e c. subst (λ (x : Stage). continues_at x q fs r) e c;
  fine = λ q e g. subst (λ (x : Stage). good_at x q) (sym e) g;
}

warnings : Gathering Row.Words stage.WarningBytes
warnings = record {
  into = λ q fs r e c. subst (λ (x : Stage). continues_at x q fs r) (sym e) c;
  out = λ q fs r e c. subst (λ (x : Stage). continues_at x q fs r) e c;
  fine = λ q e g. subst (λ (x : Stage). good_at x q) (sym e) g;
}

pub bytes_barred : {w : List ℕ} {at : ℕ} (p : Part) → p.left ≡ 0 → Stuck w at (continues_at stage.Bytes p)
bytes_barred p n = record { none = λ f rest a fs r c. no_field (no_more (rw n at c.bytes)).0 }

module _ (w : List ℕ) (at : ℕ) (p : Part) (t : Option Step) (n : p.left ≢ 0) where
  gathered : {Then : List (List ℕ) → Type 0} {next : Stage} → Gathering Then next → p.r.«data» + 256 * p.place ≤ 256 ^ 8
      → Byted w at next p t → Steps w at (Gathers Then p) t
  gathered {Then} {next} y g b = go t b
    where
      go : (t : Option Step) → Byted w at next p t → Steps w at (Gathers Then p) t
      go None f =
          let l : p.left ≡ suc (p.left - 1) = omega arith in
          record { none = λ h rest a fs r c. let x = after_byte (rw l at c.bytes) in f h rest a x.0 x.2 }
      go (Some t) b =
          let s : t.part.stage ≡ next = ap (λ (x : Part). x.stage) b.part in
          record {
            field = b.field;
            there = b.there;
            place = b.place;
            good = y.fine t.part s (rw b.part (byte_good Then next p n b.has g));
            onto = λ fs r c. y.into t.part fs r s (rw b.part (byte_onto Then next p n b.has fs r c));
            back = λ fs r c. byte_back Then next p n b.has fs r (rw b.part at (y.out t.part fs r s c));
          }

  pub bytes_went : good_at stage.Bytes p → Byted w at stage.Bytes p t → Steps w at (continues_at stage.Bytes p) t
  bytes_went = gathered frames

  pub warning_bytes_went : good_at stage.WarningBytes p → Byted w at stage.WarningBytes p t → Steps w at (continues_at stage.WarningBytes p) t
  warning_bytes_went = gathered warnings

-- Words behind the bytes of a warning.

after_word : {f : List ℕ} {fs : List (List ℕ)} → Row.Words (f ∷ fs) → All Capital f × Row.Words fs
after_word (Row.word a h) = (a, h)

module _ {w : List ℕ} {at : ℕ} (p : Part) (n : p.left ≡ 0) where
  pub word_refused : Takes (λ v f. All Capital f) w at None → Stuck w at (continues_at stage.WarningBytes p)
  word_refused a = refused a (λ f fs r c. (0, (after_word (no_more (rw n at c.bytes)).0).0))

  pub word_went : {s : Scan} → good_at stage.WarningBytes p → Taken (λ v f. All Capital f) w at s
      → Stepped w at (continues_at stage.WarningBytes p) (behind s.end stage.WarningBytes 0 p.place p.r)
  word_went d g =
      went g _ refl d
      (λ f fs r a e c. let x = no_more (rw n at c.bytes) in
      record { known = c.known; sum = 0; bytes = Row.done (after_word x.0).1; total = c.total ∙ ap (λ (y : ℕ). p.r.«data» + y) x.1 })
      (λ f fs r a e c. let x = no_more c.bytes in
      record { known = c.known; sum = 0; bytes = rw n (Row.done (Row.word a x.0)); total = c.total ∙ ap (λ (y : ℕ). p.r.«data» + y) x.1 })

-- The data of a frame: bytes, or `RTR`.

-- what is no `RTR` goes on as bytes
bytes_of : {sent : ℕ} {r : Record} {f : List ℕ} {fs : List (List ℕ)} → Row.FrameData sent r (f ∷ fs) → (f ≡ remote_text → ⊥)
    → (r.kind ≡ sent) × Row.ByteFields Row.Nothing (256 ^ 7) r.len r.«data» (f ∷ fs)
bytes_of (Row.data_bytes k b) n = (k, b)
bytes_of (Row.remote k d e) n = absurd (n e)

two_wide : {v : ℕ} {f : List ℕ} → Hex 2 v f → f ≡ remote_text → ⊥
two_wide h e = let n = h.width in omega (arith, ap length e)

remote_of : {sent : ℕ} {r : Record} {f : List ℕ} {fs : List (List ℕ)} → Row.FrameData sent r (f ∷ fs) → f ≡ remote_text
    → (r.kind ≡ 2 + sent) × (r.«data» ≡ 0) × Row.Nothing fs
remote_of (Row.data_bytes k b) e = absurd (two_wide (first_byte b).1 e)
remote_of (Row.remote k d _) e = (k, d, Row.nothing)

of_remote : {sent : ℕ} {r : Record} {f : List ℕ} {fs : List (List ℕ)} → r.kind ≡ 2 + sent → r.«data» ≡ 0 → f ≡ remote_text → Row.Nothing fs → Row.FrameData sent r (f ∷ fs)
of_remote k d e Row.nothing = Row.remote k d e

module _ {w : List ℕ} {at : ℕ} (p : Part) (g : good_at stage.Data p) where
  pub remote_went : {s : Scan} (q : Record) → q.kind ≡ p.r.kind + 2 → known5 q ≡ known5 p.r → q.«data» ≡ 0 → Taken (λ v f. f ≡ remote_text) w at s
      → Stepped w at (continues_at stage.Data p) (behind s.end stage.Bytes 0 0 q)
  remote_went q k x d a =
      went a _ refl (omega arith)
      (λ f fs r e _ c. let y = remote_of c.1 e in
      let z : r.kind ≡ q.kind = omega (arith, y.0) in
      record { known = cc (c.0, x, z); sum = 0; bytes = Row.done y.2; total = omega (arith, y.1) })
      (λ f fs r e _ c. let y = no_more c.bytes in
      let z : r.kind ≡ q.kind = cc c.known in
      (cc (c.known, x), of_remote (omega arith) (omega (arith, c.total, y.1)) e y.0))

  pub data_barred : Takes (λ v f. f ≡ remote_text) w at None → p.left ≡ 0 → Stuck w at (continues_at stage.Data p)
  data_barred a n = record {
    none = λ f rest b fs r c.
        let y = bytes_of c.1 (a f rest b 0) in
        let m : r.len ≡ 0 = cc (c.0, g.2, n) in
        no_field (no_more (rw m at y.1)).0;
  }

pub data_went : (w : List ℕ) (at : ℕ) (p : Part) (t : Option Step) → p.left ≢ 0 → good_at stage.Data p → Takes (λ v f. f ≡ remote_text) w at None
    → Byted w at stage.Bytes p t → Steps w at (continues_at stage.Data p) t
data_went w at p t n g a b = go t (gathered w at p t n frames (rw (g.1, g.3) (omega arith)) b)
  where
    onto : (f : List ℕ) (fs : List (List ℕ)) (r : Record) → (f ≡ remote_text → ⊥) → continues_at stage.Data p (f ∷ fs) r → Gathers Row.Nothing p (f ∷ fs) r
    onto f fs r o c =
        let y = bytes_of c.1 o in
        let m : r.len ≡ p.left = cc (c.0, g.2) in
        record { known = cc (c.0, y.0); sum = r.«data»; bytes = rw g.3 (rw m at y.1); total = omega arith }

    back : (f : List ℕ) (fs : List (List ℕ)) (r : Record) → Gathers Row.Nothing p (f ∷ fs) r → continues_at stage.Data p (f ∷ fs) r
    back f fs r c =
        let m : p.left ≡ r.len = cc (c.known, g.2) in
        let d : c.sum ≡ r.«data» = omega (arith, c.total) in
        (cc c.known, Row.data_bytes (cc c.known) (rw (g.3, m, d) at c.bytes))

    go : (t : Option Step) → Steps w at (Gathers Row.Nothing p) t → Steps w at (continues_at stage.Data p) t
    go None x = record { none = λ f rest h fs r c. x.none f rest h fs r (onto f fs r (a f rest h 0) c) }
    go (Some t) x = record {
      field = x.field;
      there = x.there;
      place = x.place;
      good = x.good;
      onto = λ fs r c. x.onto fs r (onto _ fs r (a _ _ x.there 0) c);
      back = λ fs r c. back _ fs r (x.back fs r c);
    }
