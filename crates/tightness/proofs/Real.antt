-- The traces that the wrong programs are tried with are real.
use Prim.Native.Nat.{ℕ, ◌*◌, ◌≤◌}
use mathlib.Core.Path.{refl}
use mathlib.Core.List.{List, [], ◌∷◌, ◌++◌}
use native.Mathlib.Decide.{dec_lt}
use native.Mathlib.Omega.{arith}
use lib.ListN.{length, drop}
use Rattle.base.specs.Limits.{last_bus}
use Rattle.clock.proofs.Stamps.{some_stamp}
use Rattle.record.specs.declared.Record.{Record}
use Rattle.records.specs.Records.{packed, Whole}
use Rattle.records.specs.StepBack.{step_back}
use Rattle.records.proofs.Packing.{packed_length}
use Rattle.trace.specs.Trace.{Trace}
use Rattle.trace.specs.Promise.{ReadPromise}
use Rattle.trace.specs.House.{trace_text, Writable}
use Rattle.trace.proofs.Numbers.{rows_numbered}
use Rattle.trace.proofs.There.{there, there_size}
use Rattle.trace_writer.specs.Promise.{WritePromise}
use Rattle.ascii.specs.Promise.{Exports, none, line, left, line_count, left_count, Given, ExportPromise}
use Rattle.ascii.proofs.Exporting.{export_most}
use Rattle.tightness.specs.Tight.{Tried, Real}
use Rattle.tightness.proofs.Tried.{writable, records_of, text_of}

-- Some text is what records export to.
pub some_export : (start channel : ℕ) (rs : List Record) → (text : List ℕ) × Exports start channel rs text
some_export start channel [] = ([], none)
some_export start channel (r ∷ rs) =
    let (text, e) = some_export start channel rs in
    elim (dec_lt 1 r.kind) [ yes h ↦ (text, left h e) | no h ↦ (_, line {r = r} (omega arith) (some_stamp start r.offset).1 e) ]

whole : {t : Trace} → Writable t → Whole (packed t.records)
whole {t} w = let l = packed_length t.records in record { twenties = omega arith; few = omega (arith, rows_numbered w.numbered) }

-- Whatever such a trace exports to, on a channel up to 16, is what `export` is given.
pub given : {t : Trace} {channel : ℕ} {x : List ℕ} → Tried t → channel ≤ last_bus → Exports t.start channel t.records x
    → Given t.start channel (packed t.records) t.records x
given h c e =
    let w = writable h in
    record { whole = whole w; limit = w.start; is_channel = c; packs = record { formed = w.formed; bytes = refl }; exports = e }

pub real : {t : Trace} → Tried t → Real t
real {t} h =
    let w = writable h in
    let rs = t.records in
    record {
      text = text_of h;
      spelled = there w;
      records = records_of t;
      packs = refl;
      is_read = λ out r. (
        record {
          number = 0;
          place = 0;
          version = t.version;
          start = t.start;
          rows = length rs;
          back = step_back rs;
          first = t.first;
          after = packed rs ++ drop (20 * length rs) out.list;
        },
        refl,
        ReadPromise.done (there_size w) (there w) r refl refl,
      );
      is_written = λ out r. (
        record { number = 0; place = 0; bytes = length (trace_text t); after = trace_text t ++ drop (length (trace_text t)) out.list },
        refl,
        WritePromise.done w refl r refl refl,
      );
      is_exported = λ channel c out r.
          let (x, e) = some_export t.start channel rs in (
            record {
              number = 0;
              place = 0;
              bytes = length x;
              lines = line_count rs;
              left = left_count rs;
              after = x ++ drop (length x) out.list;
            },
            refl,
            ExportPromise.done (given h c e) (omega (arith, export_most c w.formed e)) refl refl,
          );
    }
