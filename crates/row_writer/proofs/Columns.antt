-- The text of each column, by the tests that the writer makes.
use Prim.Native.Nat.{ℕ, zero, suc, ◌+◌, ◌*◌, ◌/◌, ◌%◌, ◌≤◌, ◌<◌}
use mathlib.Core.Path.{◌≡◌, refl, ap}
use mathlib.Core.Logic.{◌≢◌, ⊎_elim}
use mathlib.Core.Bool.{true, false}
use mathlib.Core.List.{[], ◌∷◌, ◌++◌, append-nil}
use native.Mathlib.Nat.{div-one}
use native.Mathlib.Omega.{arith}
use lib.ListN.{length, length-append}
use Rattle.base.specs.Spaced.{spaced}
use Rattle.base.proofs.Numbers.{below_or_not}
use Rattle.base.proofs.Spaced.{spaced_none, spaced_more}
use Rattle.digits.specs.House.{decimal_text, padded_text}
use Rattle.digits.proofs.House.{length_fixed}
use Rattle.record.specs.declared.Record.{Record}
use Rattle.fields.specs.Columns.{type_warng, type_error, remote_text}
use Rattle.row.specs.House.{number_text, offset_text, bus_texts, type_text, id_text, data_texts}
use Rattle.row.specs.Versions.{fraction_digits, has_bus}
use Rattle.row.proofs.EachVersion.{digits_known}
use Rattle.row.proofs.Texts.{number_text_lem, offset_text_lem, id_warning, id_frame, data_remote}

pub length_number : (k : ℕ) → length (number_text k) ≡ length (decimal_text k) + 1
length_number k = rw (number_text_lem, length-append)

pub offset_one : (v n : ℕ) → fraction_digits v ≡ 1 → offset_text v n ≡ decimal_text (n / 1000) ++ (46 ∷ padded_text 1 (n % 1000 / 100))
offset_one v n e = rw (offset_text_lem, e)

pub offset_three : (v n : ℕ) → fraction_digits v ≡ 3 → offset_text v n ≡ decimal_text (n / 1000) ++ (46 ∷ padded_text 3 (n % 1000))
offset_three v n e = rw (offset_text_lem, e, div-one)

pub length_offset : (v n : ℕ) → length (offset_text v n) ≡ length (decimal_text (n / 1000)) + suc (fraction_digits v)
length_offset v n = rw (offset_text_lem, length-append, length_fixed)

pub three_digits : (v : ℕ) → fraction_digits v ≢ 1 → fraction_digits v ≡ 3
three_digits v f = ⊎_elim (λ e. absurd (f e)) (λ e. e) (digits_known v)

pub with_bus : (v n : ℕ) → has_bus v ≡ true → spaced (bus_texts v n) ≡ 32 ∷ decimal_text n
unfolding bus_texts
with_bus v n e = rw (e, spaced_more, spaced_none, append-nil (decimal_text n))

pub without_bus : (v n : ℕ) → has_bus v ≡ false → spaced (bus_texts v n) ≡ []
unfolding bus_texts
without_bus v n e = rw (e, spaced_none)

pub frame_type : (kind : ℕ) → kind < 4 → type_text kind ≡ (82 + 2 * (kind % 2)) ∷ 120 ∷ []
unfolding type_text
frame_type zero h = refl
frame_type (suc zero) h = refl
frame_type (suc (suc zero)) h = refl
frame_type (suc (suc (suc zero))) h = refl
frame_type (suc (suc (suc (suc n)))) h = absurd (omega arith)

pub warng : (kind : ℕ) → kind ≡ 4 → type_text kind ≡ type_warng
unfolding type_text
warng kind e = rw e

pub error : (kind : ℕ) → kind ≡ 5 → type_text kind ≡ type_error
unfolding type_text
error kind e = rw e

pub short_type : (kind : ℕ) → kind < 4 → length (type_text kind) ≡ 2
short_type kind h = ap length (frame_type kind h)

pub long_type : (kind : ℕ) → 4 ≤ kind → kind ≤ 5 → length (type_text kind) ≡ 5
long_type kind h l = ⊎_elim (λ p. ap length (warng kind (omega arith))) (λ p. ap length (error kind (omega arith))) (below_or_not kind 5)

pub length_warning_id : (r : Record) → r.kind ≡ 4 → length (id_text r) ≡ 8
length_warning_id r e = rw (id_warning r e, length_fixed)

pub length_frame_id : (r : Record) → (r.kind ≡ 4 → ⊥) → length (id_text r) ≡ 4 + 4 * r.extended
length_frame_id r f = rw (id_frame r f, length_fixed)

pub remote_data : (r : Record) → r.kind / 2 ≡ 1 → spaced (data_texts r) ≡ 32 ∷ remote_text
remote_data r e = rw (data_remote r e, spaced_more, spaced_none)
