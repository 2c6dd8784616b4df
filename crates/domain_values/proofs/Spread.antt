-- The smallest and the largest of some values, and the mask of the values over the universe from the one to the other. Assumes nothing.
use Rattle.std.specs.Prelude.{◌≡◌, refl, Bool, true, false, cond, ◌&&◌, [], ◌∷◌, ℕ, suc, ◌+◌, ◌^◌, ◌≤◌, ◌<◌, T, ℤ, pos, ◌+ℤ◌, ◌-ℤ◌, length, get_or, drop}
use Rattle.std.specs.declared.result.Result.TheVariants.{Ok, Err}
use Rattle.rules.specs.declared.Refusal.{Refusal}
use Rattle.std.specs.Result.{result_unwrap_or}
use Rattle.std.specs.Int.Bits.{bit_or, or_zero_r}
use Rattle.std.specs.Int.Signed.{le_z}
use Rattle.std.specs.Int.{w32}
use Rattle.domain.proofs.Signed.{read}
use Rattle.std.proofs.Common.{sym, ap, ◌∙◌, SFits, to_z, of_z, add-one, arith, drop_of_length-le, drop-cons, ltb-true}
use Rattle.mask.specs.Bit.{bit-or, ext}
use Rattle.mask.specs.Sets.{In}
use Rattle.offset.specs.Places.{natural, place_of, span_of}
use Rattle.offset.specs.Universe.{le-span, place-range, place-value, diff-moved}
use Rattle.rules.specs.Sets.{Chutes, has, keep}
use Rattle.rules.proofs.SetLaws.{has-at, every-at, every_of}
use Rattle.rules.proofs.Tests.{and_right, and_both, is_true, true-is}
use Rattle.rules.specs.declared.Refusal.TheVariants.{TooWide}
use Rattle.domain.specs.Set.{bits_of, range}
use Rattle.domain.specs.Calls.{invalid, narrow}
use Rattle.domain.specs.declared.BitDomain.{BitDomain}
use Rattle.domain.proofs.Laws.{From, from-offset, bits_in, in-bits, range-bits}
use Rattle.domain_values.specs.Calls.{within, among, nothing, spread, from_values_of, try_from_values_of}
use Rattle.ends.specs.Ends.{smallest_of, largest_of}
use Rattle.ends.proofs.Firsts.{smallest-least, largest-most}

-- each value stands from the smallest to the largest
pub spread-within : (vs : Chutes) → within (smallest_of vs) (largest_of vs) vs ≡ true
spread-within [] = refl
spread-within (x ∷ s) =
    let lo = smallest_of (x ∷ s) in
    let hi = largest_of (x ∷ s) in
    is_true (within lo hi (x ∷ s))
    (every_of (λ y. le_z lo y && le_z y hi) (x ∷ s) (λ y h. and_both (le_z lo y) (le_z y hi) (smallest-least x s y h) (largest-most x s y h)))

-- ---- the values' offsets

or_assoc : (a b c : ℕ) → bit_or a (bit_or b c) ≡ bit_or (bit_or a b) c
or_assoc a b c = ext (bit_or a (bit_or b c)) (bit_or (bit_or a b) c) (λ j. omega (arith, bit-or a (bit_or b c) j, bit-or b c j, bit-or (bit_or a b) c j, bit-or a b j))

module _ (lo hi : ℤ) (vs : Chutes) (w : within lo hi vs ≡ true) where
  pub between : (x : ℤ) → T (has x vs) → T (le_z lo x && le_z x hi)
  between x h = every-at (λ y. le_z lo y && le_z y hi) vs (true-is w) x h

  place-lt : (x : ℤ) → T (has x vs) → place_of (span_of lo hi) (x -ℤ lo) < span_of lo hi
  place-lt x h = ltb-true (place_of (span_of lo hi) (x -ℤ lo)) (span_of lo hi) (sym (place-range lo hi x) ∙ is_true (le_z lo x && le_z x hi) (between x h))

  pub from-within : From lo vs
  from-within x h = from-offset lo x (place_of (span_of lo hi) (x -ℤ lo)) (place-value x lo (span_of lo hi) (place-lt x h))

  natural-place : (x : ℤ) → T (has x vs) → natural (x -ℤ lo) ≡ place_of (span_of lo hi) (x -ℤ lo)
  natural-place x h =
      let o = place_of (span_of lo hi) (x -ℤ lo) in
      ap natural (ap (λ (y : ℤ). y -ℤ lo) (place-value x lo (span_of lo hi) (place-lt x h)) ∙ diff-moved lo (pos o))

  -- value i and those after it
  pub at_lt : (i : ℕ) → i < length vs → place_of (span_of lo hi) (get_or vs i (pos 0) -ℤ lo) < span_of lo hi
  at_lt i h = place-lt (get_or vs i (pos 0)) (has-at vs i h)

  pub bits-more : (n i : ℕ) → i < length vs → bit_or n (bits_of lo (drop i vs)) ≡ bit_or (bit_or n (2 ^ place_of (span_of lo hi) (get_or vs i (pos 0) -ℤ lo))) (bits_of lo (drop (i + 1) vs))
  unfolding bits_of
  bits-more n i h =
      ap (λ (l : Chutes). bit_or n (bits_of lo l)) (drop-cons vs i (pos 0) h)
      ∙ or_assoc n (2 ^ natural (get_or vs i (pos 0) -ℤ lo)) (bits_of lo (drop (suc i) vs))
      ∙ (λ j. bit_or (bit_or n (2 ^ natural-place (get_or vs i (pos 0)) (has-at vs i h) j)) (bits_of lo (drop (sym (add-one i) j) vs)))

  -- each offset is one of the universe's
  pub bits_inside : (k : ℕ) → In (bits_of lo vs) k → k < span_of lo hi
  bits_inside k h =
      ltb-true k (span_of lo hi)
      (sym (le-span lo hi k) ∙ is_true (le_z (lo +ℤ pos k) hi) (and_right (le_z lo (lo +ℤ pos k)) (le_z (lo +ℤ pos k) hi) (between (lo +ℤ pos k) (in-bits lo vs k from-within h))))

  -- in whatever order the values come, they are those of the universe that are among them
  pub bits-among : bits_of lo vs ≡ bits_of lo (keep (λ x. has x vs) (range lo (span_of lo hi)))
  bits-among = range-bits lo (span_of lo hi) (λ x. has x vs) (bits_of lo vs) (λ k h. (bits_inside k h, in-bits lo vs k from-within h)) (λ k l h. bits_in lo vs k h)

-- a value's offset, as it is computed of the numbers that are read
pub place-is : (lo hi x : ℤ) (n k : ℕ) → SFits w32 lo → SFits w32 hi → SFits w32 x → n ≡ span_of (to_z w32 (of_z w32 lo)) (to_z w32 (of_z w32 hi))
    → k ≡ place_of n (to_z w32 (of_z w32 x) -ℤ to_z w32 (of_z w32 lo)) → k ≡ place_of (span_of lo hi) (x -ℤ lo)
place-is lo hi x n k f g h m e = e ∙ (λ j. place_of (m j) (read x h j -ℤ read lo f j)) ∙ (λ j. place_of (span_of (read lo f j) (read hi g j)) (x -ℤ lo))

pub bits-end : (lo : ℤ) (vs : Chutes) (n i : ℕ) → length vs ≤ i → bit_or n (bits_of lo (drop i vs)) ≡ n
unfolding bits_of
bits-end lo vs n i h = ap (λ (l : Chutes). bit_or n (bits_of lo l)) (drop_of_length-le vs {i = i} h) ∙ or_zero_r n

-- ---- the domain of some values, by the tests that lead to it

module _ {A : Type 0} (f : BitDomain → A) (wide : A) where
  pub spread_none : (vs : Chutes) → length vs ≡ 0 → spread f wide vs ≡ f nothing
  spread_none [] e = refl
  spread_none (x ∷ s) e = absurd (omega arith)

  pub spread-some : (vs : Chutes) → (length vs ≡ 0 → ⊥) → spread f wide vs ≡ cond (narrow (smallest_of vs) (largest_of vs)) (f (among (smallest_of vs) (largest_of vs) vs)) wide
  spread-some [] h = absurd (h refl)
  spread-some (x ∷ s) h = refl

-- no domain where the universe would be too wide
pub from-try : (vs : Chutes) → result_unwrap_or (try_from_values_of vs) invalid ≡ from_values_of vs
unfolding from_values_of try_from_values_of
from-try [] = refl
from-try (x ∷ s) = go (narrow (smallest_of (x ∷ s)) (largest_of (x ∷ s)))
  where
    go : (b : Bool)
        → result_unwrap_or {E = Refusal} (cond b (Ok (among (smallest_of (x ∷ s)) (largest_of (x ∷ s)) (x ∷ s))) (Err TooWide)) invalid ≡ cond b (among (smallest_of (x ∷ s)) (largest_of (x ∷ s)) (x ∷ s)) invalid
    go true = refl
    go false = refl
