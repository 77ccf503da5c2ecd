-- There and back: what was written is read as the same, and what was read can be written.
use Prim.Native.Nat.{ℕ, ◌*◌, ◌≤◌, ◌<◌}
use mathlib.Core.Path.{◌≡◌, refl, ap, sym, ◌∙◌}
use mathlib.Core.List.{List, ◌++◌}
use native.Mathlib.Omega.{arith}
use lib.ListN.{length, take, drop, length-append}
use lib.Seq.{take_at}
use Rattle.record.specs.declared.Record.{Record}
use Rattle.records.specs.Records.{packed, PacksAll}
use Rattle.records.specs.StepBack.{step_back, FirstMark}
use Rattle.records.proofs.Marks.{first_mark}
use Rattle.records.proofs.Packing.{packed_length}
use Rattle.records.proofs.Records.{packs_all_one}
use Rattle.trace.specs.Trace.{size_limit, Trace, Spells, trace_of}
use Rattle.trace.specs.Promise.{ReadPromise}
use Rattle.trace.specs.Promise as promise
use Rattle.trace.specs.House.{trace_text, Writable}
use Rattle.trace.proofs.Answers.{accepts, refused_numbers}
use Rattle.trace.proofs.There.{there, there_size, read_writable}
use Rattle.trace_writer.specs.Promise.{write_done, write_refused, WritePromise}
use Rattle.trace_writer.proofs.Answers as answers
use Rattle.trace_writer.proofs.Answers.{one_write, writes}

-- The house spelling is read as the trace that it spells.
house_read : {version start first m : ℕ} {rs : List Record} {after out b x : List ℕ} (page : List ℕ) → Writable (trace_of version start first rs)
    → m ≡ length (trace_text (trace_of version start first rs))
    → after ≡ trace_text (trace_of version start first rs) ++ drop (length (trace_text (trace_of version start first rs))) page
    → 20 * length rs ≤ length out → ReadPromise (take m after) out b x
    → (b ≡ promise.read_done version start (length rs) (step_back rs) first) × (x ≡ packed rs ++ drop (20 * length rs) out)
house_read {version} {start} {first} {m} {rs} {after} page w e q l p =
    let s = trace_text (trace_of version start first rs) in
    let d : take m after ≡ s = ap (take m) q ∙ take_at s (drop (length s) page) m (sym e) in
    accepts (there_size w) (there w) l (rw d at p)

-- And back: what was written is read, with room, as the same version, start and records, and the very bytes.
pub back : {version start first m : ℕ} {s page after out b x : List ℕ} → WritePromise version start first s page (write_done m) after
    → length s ≤ length out → ReadPromise (take m after) out b x
    → (rs : List Record) × (s ≡ packed rs) × (b ≡ promise.read_done version start (length rs) (step_back rs) first)
    × (x ≡ s ++ drop (length s) out)
back {page = page} p l r =
    let w = answers.written p in
    let n = ap length w.2 ∙ packed_length w.0 in
    let z = house_read page w.1 w.3 w.4 (omega arith) r in
    (w.0, w.2, z.0, z.1 ∙ cc (n, w.2))

-- What the answer of a reading that is done says.
pub record Read (version start first rows steps : ℕ) (text out x : List ℕ) : Type 0 where
  pub records : List Record
  pub size : length text ≤ size_limit
  pub spelled : Spells (trace_of version start first records) text
  pub room : 20 * length records ≤ length out
  pub counted : rows ≡ length records
  pub stepped : steps ≡ step_back records
  pub filled : x ≡ packed records ++ drop (20 * length records) out
  pub front : take (20 * rows) x ≡ packed records

pub read_done : {version start first rows steps : ℕ} {text out x : List ℕ} → ReadPromise text out (promise.read_done version start rows steps first) x
    → Read version start first rows steps text out x
read_done (ReadPromise.large h e q) = let z : ◌≡◌ {A = ℕ} 0 1 = cc in absurd (omega arith)
read_done {version} {start} {first} {rows} {out = out} (ReadPromise.done {t = t} h s r e q) =
    let v : t.version ≡ version = cc in
    let f : t.start ≡ start = cc in
    let n : length t.records ≡ rows = cc in
    let g : t.first ≡ first = cc in
    let same : t ≡ trace_of version start first t.records = λ i. record { version = v i; start = f i; first = g i; records = t.records } in
    let l : length (packed t.records) ≡ 20 * rows = packed_length t.records ∙ ap (λ (k : ℕ). 20 * k) n in
    record {
      records = t.records;
      size = h;
      spelled = rw same at s;
      room = r;
      counted = sym n;
      stepped = cc;
      filled = q;
      front = ap (take (20 * rows)) q ∙ take_at (packed t.records) (drop (20 * length t.records) out) (20 * rows) l;
    }
read_done (ReadPromise.no_room h s r e q) = let z : ◌≡◌ {A = ℕ} 0 8 = cc in absurd (omega arith)
read_done (ReadPromise.refused {n = n} h f e q) = let z : 0 ≡ n = cc in absurd (omega (arith, (refused_numbers f).0))

-- Their bytes are a well-formed list, so that every mark is true,
pub read_held : {version start first rows steps : ℕ} {text out x : List ℕ} (r : Read version start first rows steps text out x)
    → PacksAll r.records (take (20 * rows) x)
read_held r = record { formed = (read_writable r.spelled).formed; bytes = r.front }

-- and the first step back is the position of the first mark among them, or 0 if there is none.
pub first_marked : {version start first rows steps : ℕ} {text out x : List ℕ} → ReadPromise text out (promise.read_done version start rows steps first) x
    → FirstMark (take (20 * rows) x) steps
first_marked p =
    let r = read_done p in
    rw (r.stepped, r.front) (first_mark (read_held r).formed)

-- The records are in their space.
pub read_within : {version start first rows steps : ℕ} {text out x : List ℕ} → ReadPromise text out (promise.read_done version start rows steps first) x
    → 20 * rows ≤ length x
read_within {out = out} p =
    let r = read_done p in
    let rs = r.records in
    omega (arith, r.counted, packed_length rs, ap length r.filled, length-append (packed rs) (drop (20 * length rs) out))

-- Any trace that was read can be written, given room: only the room can stop it.
pub read_writes : {version start first rows steps : ℕ} {text out x page c y : List ℕ}
    → ReadPromise text out (promise.read_done version start rows steps first) x → WritePromise version start first (take (20 * rows) x) page c y
    → (t : Trace) × Spells t text
    × (length (trace_text t) ≤ length page
    → (c ≡ write_done (length (trace_text t))) × (y ≡ trace_text t ++ drop (length (trace_text t)) page))
    × (length page < length (trace_text t) → (c ≡ write_refused 25 0) × (y ≡ page))
read_writes {version} {start} {first} p q =
    let r = read_done p in
    let w = read_writable r.spelled in
    let o = rw r.front at q in
    (trace_of version start first r.records, r.spelled, λ l. writes w l o, λ l. one_write o (WritePromise.no_room w refl l refl refl))

-- Again: reading what was written of what was read gives the same answer and the same record bytes.
pub again : {version start first rows steps m : ℕ} {text out x page y other d z : List ℕ}
    → ReadPromise text out (promise.read_done version start rows steps first) x
    → WritePromise version start first (take (20 * rows) x) page (write_done m) y → 20 * rows ≤ length other
    → ReadPromise (take m y) other d z
    → (d ≡ promise.read_done version start rows steps first) × (z ≡ take (20 * rows) x ++ drop (20 * rows) other)
again {rows = rows} {steps = steps} {page = page} p q l g =
    let r = read_done p in
    let w = answers.written q in
    let e : w.0 ≡ r.records =
    packs_all_one (record { formed = w.1.formed; bytes = w.2 }) (read_held r) in
    let n : length w.0 ≡ rows = ap length e ∙ sym r.counted in
    let k : step_back w.0 ≡ steps = ap step_back e ∙ sym r.stepped in
    let z = house_read page w.1 w.3 w.4 (omega arith) g in
    (z.0 ∙ cc, z.1 ∙ cc (n, w.2))

-- Any trace that was read can be written, given room, and read again the same.
pub read_again : {version start first rows steps : ℕ} {text out x page c y : List ℕ}
    → ReadPromise text out (promise.read_done version start rows steps first) x → WritePromise version start first (take (20 * rows) x) page c y
    → (t : Trace) × Spells t text
    × (length (trace_text t) ≤ length page
    → (c ≡ write_done (length (trace_text t)))
    × ((other d z : List ℕ) → 20 * rows ≤ length other → ReadPromise (take (length (trace_text t)) y) other d z
    → (d ≡ promise.read_done version start rows steps first) × (z ≡ take (20 * rows) x ++ drop (20 * rows) other)))
read_again p q =
    let w = read_writes p q in
    (w.0, w.1, λ l. ((w.2 l).0, λ other d z k g. again p (rw (w.2 l).0 at q) k g))
