-- The fields of digits: what any such field has, the scan has found; and what the scan has found is such a field.
use Prim.Native.Nat.{ℕ, ◌+◌, ◌*◌, ◌-◌, ◌^◌, ◌≤◌, ◌<◌}
use mathlib.Core.Path.{◌≡◌, refl, ap, sym, ◌∙◌}
use mathlib.Core.Logic.{◌≢◌, inl, inr}
use mathlib.Core.List.{List, [], ◌∷◌, ◌++◌, append_assoc}
use native.Mathlib.Nat.{mul-le-mul_right, one-le-pow, add-zero}
use native.Mathlib.Numerals.{add-one}
use native.Mathlib.Omega.{arith}
use native.Mathlib.Decide.{ℕ_discrete}
use lib.ListN.{length, get_or, drop, get_or-append}
use lib.Seq.{slice, length-slice, get_or-drop}
use Rattle.base.specs.Limits.{offset_digits, offset_limit, last_bus}
use Rattle.base.proofs.Lists.{slice_snoc, cut}
use Rattle.digits.specs.Digits.{DecimalDigit, HexDigit, Digits, Decimal}
use Rattle.digits.specs.Digits.{none as no-digits, more as digits_more}
use Rattle.digits.proofs.Strings.{System, decimal, hex, unique, within}
use Rattle.digits.proofs.Theorems.{decimal_few}
use Rattle.fields.specs.declared.Scan.{Scan}
use Rattle.fields.specs.Runs.{All, empty, more, Stops, over, halt}
use Rattle.fields.specs.Columns.{NumberField, OffsetField, BusField}
use Rattle.fields.specs.inner.Window.{Solid, Lined, FieldAt, Scanned, Taken, HexField}
use Rattle.fields.proofs.Runs.{all_map, all_append}
use Rattle.fields.proofs.Window.{End, head_at, inside, next_lined, slice_drop, no_stop, field_of}
use Rattle.fields.proofs.Digits.{below_zero}
use Rattle.fields.proofs.Scans.{Some, digits_all, decimal_solid, hex_solid, scan_one}

-- A byte that is no CR has the line go on after it.
pub goes_on : (w : List ℕ) (e x : ℕ) → Lined (drop e w) → get_or w e 0 ≡ x → 13 < x → Lined (drop (e + 1) w)
goes_on w e x l p q = next_lined w e l (λ z. omega arith)

pub first : (w : List ℕ) (at : ℕ) (g u : List ℕ) → drop at w ≡ g ++ u → 0 < length g → get_or w at 0 ≡ get_or g 0 0
first w at g u e h =
    let a : get_or (drop at w) 0 0 ≡ get_or w at 0 = get_or-drop at w 0 0 ∙ rw add-zero in
    sym a ∙ ap (λ (l : List ℕ). get_or l 0 0) e ∙ get_or-append g u 0 0 h

-- Where a field has stopped, a byte stands that ends it.
pub ended : (w : List ℕ) (e : ℕ) → Lined (drop e w) → Stops Solid (drop e w) → End (get_or w e 0)
ended w e l s = go (ℕ_discrete (get_or w e 0) 32) (ℕ_discrete (get_or w e 0) 13)
  where
    go : Dec (get_or w e 0 ≡ 32) → Dec (get_or w e 0 ≡ 13) → End (get_or w e 0)
    go (yes p) q = inl p
    go (no p) (yes q) = inr q
    go (no p) (no q) = absurd (no_stop w e (inside w e l) (record { blank = p; end = q }) s)

-- The bytes up to a place, where the field ends, are taken as what they are.
pub accept : (P : ℕ → List ℕ → Type 0) (w : List ℕ) (at e v : ℕ) → at < e → e ≤ length w → All Solid (slice at e w) → End (get_or w e 0)
    → P v (slice at e w) → Taken P w at (record { end = e; value = v })
accept P w at e v l k a h p = record {
  field = slice at e w;
  there = field_of w at e l k a h;
  place = omega (arith, length-slice at e w k);
  has = p;
}

digit_stops : {D : ℕ → ℕ → Type 0} {u : List ℕ} → ((x : ℕ) → Some D x → Solid x) → Stops Solid u → Stops (Some D) u
digit_stops s over = over
digit_stops s (halt {b = b} n) = halt (λ p. n (s b p))

-- What a scan found of the digits g of k, which u follows.
pub record Found (w : List ℕ) (at : ℕ) (s : Scan) (g u : List ℕ) (k : ℕ) : Type 0 where
  pub size : s.end ≡ at + length g
  pub value : s.value ≡ k
  pub behind : drop s.end w ≡ u

found : {D : ℕ → ℕ → Type 0} {b most : ℕ} {w : List ℕ} {at : ℕ} {s : Scan} {g : List ℕ} {k : ℕ} → System D b → Scanned D b most w at s
    → (u : List ℕ) → Digits D b g k → length g ≤ most → Stops (Some D) u → drop at w ≡ g ++ u → Found w at s g u k
found {most = most} {w = w} {at = at} {s = s} y c u r h t e =
    let o = scan_one most w at s c u (digits_all r) t e h in
    let l = inside w s.end c.lined in
    let f = c.from in
    record {
      size = omega (arith, ap length o.0, length-slice at s.end w (omega arith));
      value = unique y c.digits (rw o.0 at r);
      behind = sym o.1;
    }

-- A number from 1 on without leading zeros has none.
no_zero : {n : ℕ} {s : List ℕ} → Decimal n s → 0 < n → get_or s 0 0 ≢ 48
no_zero p h e = go p.digits p.lead h e
  where
    go : {n : ℕ} {s : List ℕ} → Digits DecimalDigit 10 s n → (1 < length s → get_or s 0 0 ≢ 48) → 0 < n → get_or s 0 0 ≢ 48
    go no-digits f h e = omega arith
    go (digits_more d no-digits q) f h e = omega arith
    go (digits_more _ (digits_more _ _ _) _) f h e = f (omega arith) e

-- And a number whose first digit is none is not 0.
positive : {n : ℕ} {s : List ℕ} → Digits DecimalDigit 10 s n → 0 < length s → get_or s 0 0 ≢ 48 → 1 ≤ n
positive no-digits h f = absurd (omega arith)
positive (digits_more {x = x} {d = d} {n = n} {m = m} {s = s} p r e) h f = go (ℕ_discrete d 0)
  where
    go : Dec (d ≡ 0) → 1 ≤ m
    go (yes z) = absurd (f (omega arith))
    go (no z) =
        let q : 1 ≤ d = omega arith in
        omega (arith, mul-le-mul_right (10 ^ length s) q, one-le-pow (length s) 10 (omega arith))

-- A field of digits, and what follows them, where it stands.
pub spread : {f rest s : List ℕ} (g v : List ℕ) → FieldAt f rest s → f ≡ g ++ v → s ≡ g ++ (v ++ rest)
spread {rest = rest} g v a e = a.bytes ∙ ap (λ (l : List ℕ). l ++ rest) e ∙ append_assoc g v rest

lead : (w : List ℕ) (at : ℕ) {k : ℕ} {g : List ℕ} (u : List ℕ) → Decimal k g → 1 ≤ k → drop at w ≡ g ++ u → get_or w at 0 ≢ 48
lead w at {g = g} u p h e z = no_zero p h (sym (first w at g u e p.some) ∙ z)

solid_digits : {b n : ℕ} {s : List ℕ} → Digits DecimalDigit b s n → All Solid s
solid_digits r = all_map decimal_solid (digits_all r)

-- The bytes that a scan found: how many, and the first of them.
module _ {w : List ℕ} {at : ℕ} {s : Scan} (c : Scanned DecimalDigit 10 offset_digits w at s) where
  size : length (slice at s.end w) ≡ s.end - at
  size = let k = inside w s.end c.lined in length-slice at s.end w (omega arith)

  start : at < s.end → get_or w at 0 ≡ get_or (slice at s.end w) 0 0
  start l =
      let k = inside w s.end c.lined in
      first w at (slice at s.end w) (drop s.end w) (slice_drop at s.end w (omega arith) (omega arith)) (omega (arith, size))

  -- they are a decimal number, if they do not start with a needless zero
  spelled : at < s.end → (at + 1 < s.end → get_or w at 0 ≢ 48) → Decimal s.value (slice at s.end w)
  spelled l z = record { digits = c.digits; some = omega (arith, size); lead = λ h e. z (omega (arith, size)) (start l ∙ e) }

  -- and not 0, if they start with no zero at all
  spelled_low : at < s.end → get_or w at 0 ≢ 48 → 1 ≤ s.value
  spelled_low l z = positive c.digits (omega (arith, size)) (λ e. z (start l ∙ e))

  pub scan_within : (k : ℕ) → s.end ≤ at + k → s.value < 10 ^ k
  scan_within k h = within decimal k (omega arith) c.digits (omega (arith, size))

  -- the number fits 64 bits, in thousands too
  pub scan_below : s.value < 10 ^ offset_digits
  scan_below = scan_within offset_digits c.few

-- The row number.

pub number_lead : (w : List ℕ) (at : ℕ) {k : ℕ} {f rest : List ℕ} → FieldAt f rest (drop at w) → NumberField k f → get_or w at 0 ≢ 48
number_lead w at {rest = rest} a p = lead w at _ p.spelled p.low (spread p.digits (41 ∷ []) a p.bytes)

pub record NumberShape (w : List ℕ) (at : ℕ) (s : Scan) : Type 0 where
  pub some : at < s.end
  pub few : s.end ≤ at + 6
  pub bracketed : get_or w s.end 0 ≡ 41
  pub stop : End (get_or w (s.end + 1) 0)

pub number_shape : {w : List ℕ} {at k : ℕ} {s : Scan} {f rest : List ℕ} → Scanned DecimalDigit 10 offset_digits w at s → FieldAt f rest (drop at w)
    → NumberField k f → NumberShape w at s
number_shape {w} {at} {k} {s} {f} {rest} c a p =
    let l = decimal_few 5 p.spelled (omega arith) in
    let n = p.spelled.some in
    let o = found decimal c (41 ∷ rest) p.spelled.digits (omega arith) (halt (λ q. below_zero {x = 41} (omega arith) q.0 q.1))
    (spread p.digits (41 ∷ []) a p.bytes) in
    let h = head_at w s.end o.behind in
    record {
      some = omega arith;
      few = omega arith;
      bracketed = h.1;
      stop = ended w (s.end + 1) (goes_on w s.end 41 c.lined h.1 (omega arith)) (rw h.2 a.stops);
    }

pub number_accept : {w : List ℕ} {at : ℕ} {s : Scan} → Scanned DecimalDigit 10 offset_digits w at s → get_or w at 0 ≢ 48 → NumberShape w at s
    → Taken NumberField w at (record { end = s.end + 1; value = s.value })
number_accept {w} {at} {s} c z h =
    let l = inside w s.end c.lined in
    let m = h.some in
    let e : slice at (s.end + 1) w ≡ slice at s.end w ++ (41 ∷ []) =
    rw (add-one, slice_snoc at s.end w (omega arith) l, h.bracketed) in
    let n = scan_within c 6 h.few in
    let b : Solid 41 = record { blank = λ q. omega arith; end = λ q. omega arith } in
    accept NumberField w at (s.end + 1) s.value (omega arith) (omega arith)
    (rw e (all_append (solid_digits c.digits) (more b empty))) h.stop
    (record {
      digits = slice at s.end w;
      bytes = e;
      spelled = spelled c m (λ _. z);
      low = spelled_low c m z;
      high = omega arith;
    })

-- The bus.

pub bus_lead : (w : List ℕ) (at : ℕ) {v : ℕ} {f rest : List ℕ} → FieldAt f rest (drop at w) → BusField v f → get_or w at 0 ≢ 48
bus_lead w at a p = lead w at _ p.spelled p.low a.bytes

pub record BusShape (w : List ℕ) (at : ℕ) (s : Scan) : Type 0 where
  pub some : at < s.end
  pub high : s.value ≤ last_bus
  pub stop : End (get_or w s.end 0)

pub bus_shape : {w : List ℕ} {at v : ℕ} {s : Scan} {f rest : List ℕ} → Scanned DecimalDigit 10 offset_digits w at s → FieldAt f rest (drop at w)
    → BusField v f → BusShape w at s
bus_shape {w} {at} {v} {s} {f} {rest} c a p =
    let l = decimal_few 1 p.spelled (omega arith) in
    let n = a.some in
    let o = found decimal c rest p.spelled.digits (omega arith) (digit_stops decimal_solid a.stops) a.bytes in
    record { some = omega arith; high = omega arith; stop = ended w s.end c.lined (rw o.behind a.stops) }

pub bus_accept : {w : List ℕ} {at : ℕ} {s : Scan} → Scanned DecimalDigit 10 offset_digits w at s → get_or w at 0 ≢ 48 → BusShape w at s
    → Taken BusField w at (record { end = s.end; value = s.value })
bus_accept {w} {at} {s} c z h =
    let l = inside w s.end c.lined in
    accept BusField w at s.end s.value h.some (omega arith) (solid_digits c.digits) h.stop
    (record { spelled = spelled c h.some (λ _. z); low = spelled_low c h.some z; high = h.high })

-- A hexadecimal number.

pub record HexShape (w : List ℕ) (at : ℕ) (s : Scan) : Type 0 where
  pub some : at < s.end
  pub few : s.end ≤ at + 8
  pub stop : End (get_or w s.end 0)

pub hex_shape : {w : List ℕ} {at v : ℕ} {s : Scan} {f rest : List ℕ} → Scanned HexDigit 16 9 w at s → FieldAt f rest (drop at w)
    → HexField v f → HexShape w at s
hex_shape {w} {at} {v} {s} {f} {rest} c a p =
    let n = a.some in
    let o = found hex c rest p.spelled.digits (omega arith) (digit_stops hex_solid a.stops) a.bytes in
    record { some = omega arith; few = omega arith; stop = ended w s.end c.lined (rw o.behind a.stops) }

pub hex_accept : {w : List ℕ} {at : ℕ} {s : Scan} → Scanned HexDigit 16 9 w at s → HexShape w at s
    → Taken HexField w at (record { end = s.end; value = s.value })
hex_accept {w} {at} {s} c h =
    let l = inside w s.end c.lined in
    accept HexField w at s.end s.value h.some (omega arith) (all_map hex_solid (digits_all c.digits)) h.stop
    (record { spelled = record { digits = c.digits; width = refl }; short = omega (arith, h.few, length-slice at s.end w (omega arith)) })

-- The offset: a scan up to the point, and one after it.

pub record OffsetTail (w : List ℕ) (digits : ℕ) (s t : Scan) : Type 0 where
  pub width : t.end ≡ s.end + 1 + digits
  pub stop : End (get_or w t.end 0)
  pub within : s.value * 1000 + t.value * 10 ^ (3 - digits) ≤ offset_limit

pub record OffsetShape (w : List ℕ) (at digits : ℕ) (s : Scan) : Type 0 where
  pub some : at < s.end
  pub lead : at + 1 < s.end → get_or w at 0 ≢ 48
  pub point : get_or w s.end 0 ≡ 46
  pub tail : {t : Scan} → Scanned DecimalDigit 10 offset_digits w (s.end + 1) t → OffsetTail w digits s t

pub offset_shape : {w : List ℕ} {at digits v : ℕ} {s : Scan} {f rest : List ℕ} → digits ≤ 3 → Scanned DecimalDigit 10 offset_digits w at s
    → FieldAt f rest (drop at w) → OffsetField digits v f → OffsetShape w at digits s
offset_shape {w} {at} {digits} {v} {s} {f} {rest} m c a p =
    let n = p.first.some in
    let g = spread p.whole (46 ∷ p.part) a p.bytes in
    let o = found decimal c (46 ∷ (p.part ++ rest)) p.first.digits (omega arith)
    (halt (λ q. below_zero {x = 46} (omega arith) q.0 q.1)) g in
    let h = head_at w s.end o.behind in
    let e = first w at p.whole (46 ∷ (p.part ++ rest)) g n in
    record {
      some = omega arith;
      lead = λ l q. p.first.lead (omega arith) (sym e ∙ q);
      point = h.1;
      tail = λ {t} d.
          let x = found decimal d rest p.second.digits (omega arith) (digit_stops decimal_solid a.stops) h.2 in
          record {
            width = omega arith;
            stop = ended w t.end d.lined (rw x.behind a.stops);
            within = rw (o.value, x.value, ← p.value) p.limit;
          };
    }

pub offset_accept : {w : List ℕ} {at digits : ℕ} {s t : Scan} (v : ℕ) → Scanned DecimalDigit 10 offset_digits w at s
    → Scanned DecimalDigit 10 offset_digits w (s.end + 1) t → at < s.end → (at + 1 < s.end → get_or w at 0 ≢ 48)
    → get_or w s.end 0 ≡ 46 → OffsetTail w digits s t → v ≡ s.value * 1000 + t.value * 10 ^ (3 - digits)
    → Taken (OffsetField digits) w at (record { end = t.end; value = v })
offset_accept {w} {at} {digits} {s} {t} v c d some z point h e =
    let l = inside w t.end d.lined in
    let f = d.from in
    let b : Solid 46 = record { blank = λ q. omega arith; end = λ q. omega arith } in
    let x : slice at t.end w ≡ slice at s.end w ++ (46 ∷ slice (s.end + 1) t.end w) =
    cut at s.end t.end w (omega arith) (omega arith) (omega arith) ∙ rw (point, add-one) in
    accept (OffsetField digits) w at t.end v (omega arith) (omega arith)
    (rw x (all_append (solid_digits c.digits) (more b (solid_digits d.digits)))) h.stop
    (record {
      whole = slice at s.end w;
      part = slice (s.end + 1) t.end w;
      bytes = x;
      ms = s.value;
      fraction = t.value;
      first = spelled c some z;
      short = omega (arith, size c);
      second = record { digits = d.digits; width = omega (arith, length-slice (s.end + 1) t.end w (omega arith), h.width) };
      value = e;
      limit = rw e h.within;
    })
