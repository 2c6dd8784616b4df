-- A mask's values one by one: the lowest offset's comes first, and the rest are those of the mask without it. Assumes nothing.
use Rattle.std.specs.Prelude.{◌≡◌, Bool, true, ℕ, ◌^◌, ◌≤◌, ◌<◌, T, ltb, ℤ, pos, ◌+ℤ◌}
use Rattle.std.specs.declared.result.Result.TheVariants.{Ok}
use Rattle.std.specs.declared.option.Option.TheVariants.{None, Some}
use Rattle.std.specs.Int.Signed.{le_z}
use Rattle.std.specs.Int.{w32}
use Rattle.std.proofs.Common.{sym, ap, ◌∙◌, lt_of_lt_of_le, arith, pow_mono, SFits, lt-ltb, ltb-true}
use Rattle.std.proofs.Math.IntN.{+ℤ_comm}
use Rattle.mask.specs.Bit.{bit_minus, Lowest}
use Rattle.mask.specs.Val.{val, offsets, Fit, val-lt, mask-eq}
use Rattle.mask.specs.Sets.{In, fits_in}
use Rattle.mask.specs.Tests.{same_test}
use Rattle.mask.specs.declared.Mask.{Mask}
use Rattle.offset.specs.Places.{span_of}
use Rattle.offset.specs.Universe.{le-span, le-moved, value_in}
use Rattle.rules.specs.Sets.{has}
use Rattle.rules.proofs.Tests.{is_true, true-is}
use Rattle.domain.specs.Set.{values_of, bits_of}
use Rattle.domain.proofs.Ends.{none-values, values-first}
use Rattle.domain.proofs.Laws.{in-values, values-in, values-offset, from-values, is-bits}
use Rattle.domain_values.specs.Calls.{left_in, well_cursor, next_of}
use Rattle.domain_values.specs.declared.BitCursor.{BitCursor}
use Rattle.domain_values.specs.declared.Stepped.{Stepped}
use Rattle.rules.proofs.SetLaws.{every-at, every_of}

-- ---- the values of a mask

pub bits-values : (lo : ℤ) (m : Mask) → bits_of lo (values_of lo m) ≡ val m
bits-values lo m = sym (is-bits lo (values_of lo m) (val m) (from-values lo m) (in-values lo m) (values-in lo m))

-- ---- a cursor whose values lie within i32

abbrev last : ℤ
last = pos 2147483647

-- how many offsets from the smallest value on do
abbrev pub room : BitCursor → ℕ
room c = span_of c.min last

pub well-fits : (c : BitCursor) → well_cursor c ≡ ltb (val c.mask) (2 ^ room c)
unfolding well_cursor
well-fits c = same_test (well_cursor c) (ltb (val c.mask) (2 ^ room c)) there back
  where
    low : ℤ → Bool
    low x = le_z x last

    there : well_cursor c ≡ true → ltb (val c.mask) (2 ^ room c) ≡ true
    there w = lt-ltb (val c.mask) (2 ^ room c) ((fits_in (val c.mask) (room c)).1 under)
      where
        under : (k : ℕ) → In (val c.mask) k → k < room c
        under k h =
            let x = c.min +ℤ pos k in
            ltb-true k (room c) (sym (le-span c.min last k) ∙ is_true (low x) (every-at low (left_in c) (true-is w) x (in-values c.min c.mask k h)))

    back : ltb (val c.mask) (2 ^ room c) ≡ true → well_cursor c ≡ true
    back t = is_true (well_cursor c) (every_of low (left_in c) under)
      where
        under : (x : ℤ) → T (has x (left_in c)) → T (low x)
        under x h =
            let r = values-offset c.min c.mask x h in
            let l = (fits_in (val c.mask) (room c)).0 (ltb-true (val c.mask) (2 ^ room c) t) r.0 r.2 in
            rw r.1 (true-is (le-span c.min last r.0 ∙ lt-ltb r.0 (room c) l))

module _ (c : BitCursor) where
  -- over a smallest value that leaves room for every offset, whatever the mask
  pub roomy-well : Fit c.mask → le_z c.min (pos 2147483520) ≡ true → well_cursor c ≡ true
  roomy-well f t =
      well-fits c ∙ lt-ltb (val c.mask) (2 ^ room c)
      (lt_of_lt_of_le (val-lt c.mask f) (pow_mono wide))
    where
      wide : offsets ≤ room c
      wide = ltb-true 127 (room c) (sym (le-span c.min last 127) ∙ ap (λ (z : ℤ). le_z z last) (+ℤ_comm c.min (pos 127)) ∙ le-moved (pos 127) c.min (pos 2147483520) ∙ t)

  module _ (w : well_cursor c ≡ true) where
    pub value-fits : SFits w32 c.min → (k : ℕ) → In (val c.mask) k → SFits w32 (c.min +ℤ pos k)
    value-fits f k h =
        value_in c.min last k f (record { sfits = omega arith })
        ((fits_in (val c.mask) (room c)).0 (ltb-true (val c.mask) (2 ^ room c) (sym (well-fits c) ∙ w)) k h)

    -- ---- a step

    pub next-end : val c.mask ≡ 0 → ◌≡◌ {A = Stepped} (record { cursor = c; answer = Ok None }) (next_of c)
    unfolding next_of
    next-end e = rw (w, none-values c.min c.mask e)

    pub next_more : (k : ℕ) (r : Mask) → Lowest (val c.mask) k → Fit r → val r ≡ bit_minus (val c.mask) (2 ^ k)
        → ◌≡◌ {A = Stepped} (record { cursor = record { mask = r; min = c.min }; answer = Ok (Some (record { 0 = c.min +ℤ pos k })) }) (next_of c)
    unfolding next_of
    next_more k r p f e =
        rw (w, values-first c.min c.mask r k p e)
        (λ i. record { cursor = record { mask = mask-eq r (bits_of c.min (values_of c.min r)) f (sym (bits-values c.min r)) i; min = c.min }; answer = Ok (Some (record { 0 = c.min +ℤ pos k })) })
