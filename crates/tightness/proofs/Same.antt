-- The promise leaves room for one answer only: two programs that keep it give the same.
use Prim.Native.Nat.{ℕ}
use mathlib.Core.Path.{◌≡◌}
use Rattle.trace.proofs.Answers.{one_read}
use Rattle.trace_writer.proofs.Answers.{one_write}
use Rattle.ascii.proofs.Answers.{one_export}
use Rattle.tightness.specs.Programs.{Lent, FromReader, Reader, seven, KeepsRead, FromWriter, Writer, three, KeepsWrite, FromExporter, Exporter, five, KeepsExport}

-- The numbers and the output are all that a program gives.

same_read : (a b : FromReader) → (seven a ≡ seven b) × (a.after ≡ b.after) → a ≡ b
same_read a b (e, q) =
    let n : a.number ≡ b.number = cc in
    let p : a.place ≡ b.place = cc in
    let v : a.version ≡ b.version = cc in
    let s : a.start ≡ b.start = cc in
    let r : a.rows ≡ b.rows = cc in
    let k : a.back ≡ b.back = cc in
    let f : a.first ≡ b.first = cc in
    λ i. record { number = n i; place = p i; version = v i; start = s i; rows = r i; back = k i; first = f i; after = q i }

same_written : (a b : FromWriter) → (three a ≡ three b) × (a.after ≡ b.after) → a ≡ b
same_written a b (e, q) =
    let n : a.number ≡ b.number = cc in
    let p : a.place ≡ b.place = cc in
    let m : a.bytes ≡ b.bytes = cc in
    λ i. record { number = n i; place = p i; bytes = m i; after = q i }

same_exported : (a b : FromExporter) → (five a ≡ five b) × (a.after ≡ b.after) → a ≡ b
same_exported a b (e, q) =
    let n : a.number ≡ b.number = cc in
    let p : a.place ≡ b.place = cc in
    let m : a.bytes ≡ b.bytes = cc in
    let l : a.lines ≡ b.lines = cc in
    let o : a.left ≡ b.left = cc in
    λ i. record { number = n i; place = p i; bytes = m i; lines = l i; left = o i; after = q i }

pub one_reader : {f g : Reader} → KeepsRead f → KeepsRead g → (text out : Lent) → f text out ≡ g text out
one_reader {f} {g} k j text out = same_read (f text out) (g text out) (one_read (k.keeps text out) (j.keeps text out))

pub one_writer : {f g : Writer} → KeepsWrite f → KeepsWrite g → (version start first : ℕ) (records out : Lent)
    → f version start first records out ≡ g version start first records out
one_writer {f} {g} k j version start first records out =
    same_written (f version start first records out) (g version start first records out) (one_write (k.keeps version start first records out) (j.keeps version start first records out))

pub one_exporter : {f g : Exporter} → KeepsExport f → KeepsExport g → (start channel : ℕ) (records out : Lent)
    → f start channel records out ≡ g start channel records out
one_exporter {f} {g} k j start channel records out =
    same_exported (f start channel records out) (g start channel records out) (one_export (k.keeps start channel records out) (j.keeps start channel records out))
