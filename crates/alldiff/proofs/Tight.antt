-- Whether a subset is tight, by the values that are gathered, and what it then does. Assumes nothing.
use Rattle.std.specs.Prelude.{◌≡◌, refl, Bool, true, false, List, [], ◌∷◌, ℕ, zero, suc, ◌/◌, ◌%◌, ◌^◌, ◌<◌, eqb, ℤ, length, Option}
use Rattle.std.specs.Int.Count.{ones, ones_step}
use Rattle.std.proofs.Common.{sym, ap, ◌∙◌, pow-suc, arith, length-take-le, take_all, eqb-true, eq-eqb, ne_eqb}
use Rattle.std.specs.declared.option.Option.TheVariants.{None, Some}
use Rattle.std.proofs.lemmas.Bool.{eqb-false}
use Rattle.mask.specs.Sets.{ones_none}
use Rattle.rules.specs.Sets.{Chutes, has, union}
use Rattle.rules.specs.Pass.{Places, pick, still, sweep, tight, present}
use Rattle.rules.specs.Table.{bits}
use Rattle.sweep.proofs.Values.{strike-same}
use Rattle.alldiff.specs.Gather.{gathered, Holds}
use Rattle.alldiff.proofs.Gathers.{gathered-has, gathered-size}

-- ---- a sweep goes by which values are struck

pub sweep-same : (m : Places) (u w : Chutes) (ds : List Chutes) → ((x : ℤ) → has x u ≡ has x w) → sweep m u ds ≡ sweep m w ds
sweep-same [] u w ds h = refl
sweep-same (b ∷ m) u w [] h = refl
sweep-same (true ∷ m) u w (d ∷ ds) h = rw (sweep-same m u w ds h)
sweep-same (false ∷ m) u w (d ∷ ds) h = rw (sweep-same m u w ds h, strike-same u w d h)

-- ---- a subset has as many places as its number has bits

pub pick-count : (n k : ℕ) (ds : List Chutes) → length ds ≡ n → k < 2 ^ n → length (pick (bits n k) ds) ≡ ones k
pick-count zero k ds e h = let z : 0 ≡ k = omega arith in sym ones_none ∙ ap ones z
pick-count (suc n) k [] e h = absurd (omega arith)
pick-count (suc n) k (d ∷ ds) e h = go (eqb (k % 2) 1) refl (pick-count n (k / 2) ds (omega arith) (omega (arith, pow-suc 2 n)))
  where
    go : (b : Bool) → eqb (k % 2) 1 ≡ b → length (pick (bits n (k / 2)) ds) ≡ ones (k / 2) → length (pick (b ∷ bits n (k / 2)) (d ∷ ds)) ≡ ones k
    go true q ih = omega (arith, eqb-true (k % 2) 1 q, ones_step k)
    go false q ih = let z : k % 2 ≡ 0 = none (eqb-false (k % 2) 1 q) in omega (arith, ones_step k)
      where
        none : (k % 2 ≡ 1 → ⊥) → k % 2 ≡ 0
        none f = omega arith

-- ---- what a subset does

module _ (n k : ℕ) (ds : List Chutes) (l : length ds ≡ n) (h : k < 2 ^ n) where
  abbrev found : Chutes
  found = gathered (pick (bits n k) ds)

  pub tight-found : tight (bits n k) ds ≡ eqb (length found) (ones k)
  tight-found = λ i. eqb (gathered-size (pick (bits n k) ds) i) (pick-count n k ds l h i)

  pub not-tight : (length found ≡ ones k → ⊥) → present (bits n k) ds ≡ still ds
  not-tight f = let e : tight (bits n k) ds ≡ false = tight-found ∙ ne_eqb (length found) (ones k) f in rw e

  pub is-tight : (u : Chutes) → u ≡ found → length found ≡ ones k → present (bits n k) ds ≡ sweep (bits n k) u ds
  is-tight u q f =
      let e : tight (bits n k) ds ≡ true = tight-found ∙ eq-eqb (length found) (ones k) f in
      rw e (sweep-same (bits n k) (union (pick (bits n k) ds)) u ds (λ x. sym (gathered-has (pick (bits n k) ds) x) ∙ ap (has x) (sym q)))

  -- by what was gathered in as many cells as it has places
  module _ (vals : List ℤ) (size : length vals ≡ ones k) where
    pub other-size : (o : Option ℕ) → Holds found vals o → (o ≡ Some (ones k) → ⊥) → present (bits n k) ds ≡ still ds
    other-size None g f = not-tight (λ e. omega arith)
    other-size (Some r) g f = not-tight (λ e. f (ap Some (sym (length-take-le r vals g.0) ∙ ap length g.1 ∙ e)))

    pub same_size : Holds found vals (Some (ones k)) → present (bits n k) ds ≡ sweep (bits n k) vals ds
    same_size g = let q : vals ≡ found = sym (take_all (ones k) vals (omega arith)) ∙ g.1 in is-tight vals q (sym (ap length q) ∙ size)
