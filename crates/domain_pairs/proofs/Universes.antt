-- Two well-formed domains over the same universe: what the operations on their masks give, in the words of the calls. Assumes nothing.
use Rattle.std.specs.Prelude.{◌≡◌, true, ◌&&◌, ◌||◌, ℕ, ◌^◌, ◌<◌, eqb}
use Rattle.std.specs.Int.Bits.{bit_and, bit_or}
use Rattle.std.proofs.Common.{sym, ap, ◌∙◌, subst}
use Rattle.mask.specs.Val.{val}
use Rattle.offset.specs.Places.{span_of}
use Rattle.rules.specs.Sets.{Chutes, same, has, keep}
use Rattle.rules.proofs.SetLaws.{same→eq}
use Rattle.rules.proofs.Tests.{and_left, and_right, is_true, true-is}
use Rattle.domain.specs.Set.{values_of, set_of, width, universe, well, bits_of}
use Rattle.domain.specs.declared.BitDomain.{BitDomain}
use Rattle.domain.proofs.Places.{well-fits}
use Rattle.domain_pairs.specs.Calls.{within, both, either, both_well, same_bounds}
use Rattle.domain_pairs.proofs.Masks.{and-bits, or-bits, within-values, same-values}

module _ (d e : BitDomain) (w : both_well d e ≡ true) where
  pub well-first : well d ≡ true
  well-first = is_true (well d) (and_left (well d) (well e) (true-is w))

  pub well-second : well e ≡ true
  well-second = is_true (well e) (and_right (well d) (well e) (true-is w))

module _ (d e : BitDomain) (b : same_bounds d e ≡ true) where
  pub same-min : d.min ≡ e.min
  unfolding same_bounds
  same-min = same→eq d.min e.min (and_left (same d.min e.min) (same d.max e.max) (true-is b))

  pub same-max : d.max ≡ e.max
  unfolding same_bounds
  same-max = same→eq d.max e.max (and_right (same d.min e.min) (same d.max e.max) (true-is b))

  pub same_width : width e ≡ width d
  same_width = λ i. span_of (sym same-min i) (sym same-max i)

  -- e's values, counted from d's smallest
  pub same_start : values_of d.min e.mask ≡ set_of e
  same_start = λ i. values_of (same-min i) e.mask

module _ (d e : BitDomain) (b : same_bounds d e ≡ true) where
  pub both_bits : bit_and (val d.mask) (val e.mask) ≡ bits_of d.min (both d e)
  both_bits = and-bits d.min d.mask e.mask ∙ ap (λ (t : Chutes). bits_of d.min (keep (λ x. has x t) (set_of d))) (same_start d e b)

  pub either-bits : both_well d e ≡ true → bit_or (val d.mask) (val e.mask) ≡ bits_of d.min (either d e)
  either-bits w =
      or-bits d.min d.mask e.mask (width d) (well-fits d (well-first d e w)) (subst (λ (n : ℕ). val e.mask < 2 ^ n) (same_width d e b) (well-fits e (well-second d e w)))
      ∙ ap (λ (t : Chutes). bits_of d.min (keep (λ x. has x (set_of d) || has x t) (universe d))) (same_start d e b)

  pub subset-test : eqb (bit_and (val d.mask) (val e.mask)) (val d.mask) ≡ within (set_of d) (set_of e)
  subset-test = within-values d.min d.mask e.mask ∙ ap (within (set_of d)) (same_start d e b)

  pub equal-test : eqb (val d.mask) (val e.mask) ≡ within (set_of d) (set_of e) && within (set_of e) (set_of d)
  equal-test = same-values d.min d.mask e.mask ∙ ap (λ (t : Chutes). within (set_of d) t && within t (set_of d)) (same_start d e b)
