-- What a caller of the pass knows besides: masks only lose values, so what fitted a universe still fits; the listed domains only shrink; and the
-- contract admits one outcome. Assumes nothing.
use Rattle.std.specs.Prelude.{◌≡◌, List, [], ℕ, ◌^◌, ◌<◌, ℤ, pos, get_or}
use Rattle.std.proofs.Common.{sym, ap, ◌∙◌, subst, arith}
use Rattle.std.proofs.Math.Decide.{dec_lt}
use Rattle.mask.specs.declared.Mask.{Mask}
use Rattle.mask.specs.Val.{val, Fit, mask_of, mask-val}
use Rattle.mask.specs.Sets.{In, fits_in}
use Rattle.rules.specs.Sets.{Chutes}
use Rattle.rules.specs.Pass.{Swept, pass}
use Rattle.rules.proofs.Sound.{Sub, pass-sub}
use Rattle.masks.specs.Cells.{mask_at}
use Rattle.masks.proofs.Laws.{same-masks}
use Rattle.sweep.specs.Listed.{listed, domain_at, Left}
use Rattle.sweep.proofs.Turns.{listed_at}
use Rattle.domain.proofs.Laws.{same-values}
use Rattle.alldiff.specs.declared.Passed.{Passed}
use Rattle.alldiff.specs.Gather.{told}

-- ---- masks only lose values

module _ (n : ℕ) (before after : List Mask) (l : Left n before after) where
  pub only-shrinks : (p k : ℕ) → In (val (mask_at after p)) k → In (val (mask_at before p)) k
  only-shrinks = l.fewer

  -- a mask that fitted a universe of w values fits it still: so a domain stays well formed
  pub still-fits : (p w : ℕ) → val (mask_at before p) < 2 ^ w → val (mask_at after p) < 2 ^ w
  still-fits p w h = (fits_in (val (mask_at after p)) w).1 (λ k i. (fits_in (val (mask_at before p)) w).0 h k (l.fewer p k i))

-- the listed domains after the pass are within those before
pub listed-shrinks : (mins : List ℤ) (before after : List Mask) (n : ℕ) (r : Passed) → told r (listed mins after n) ≡ pass (listed mins before n) → Sub (listed mins after n) (listed mins before n)
listed-shrinks mins before after n r e = subst (λ (ds : List Chutes). Sub ds (listed mins before n)) (sym (ap (λ (s : Swept). s.domains) e)) (pass-sub (listed mins before n))

-- ---- two outcomes coincide

module _ (mins : List ℤ) (before : List Mask) (n : ℕ) (xs ys : List Mask) (lx : Left n before xs) (ly : Left n before ys) (fx : (p : ℕ) → Fit (mask_at xs p)) (fy : (p : ℕ) → Fit (mask_at ys p)) (e : listed mins xs n ≡ listed mins ys n) where
  same-mask : (p : ℕ) → mask_at xs p ≡ mask_at ys p
  same-mask p = go (dec_lt p n)
    where
      go : Dec (p < n) → mask_at xs p ≡ mask_at ys p
      go (yes h) =
          let d : domain_at mins xs p ≡ domain_at mins ys p = sym (listed_at mins xs n p h) ∙ ap (λ (ds : List Chutes). get_or ds p []) e ∙ listed_at mins ys n p h in
          sym (mask-val (mask_at xs p) (fx p)) ∙ ap mask_of (same-values (get_or mins p (pos 0)) (mask_at xs p) (mask_at ys p) d) ∙ mask-val (mask_at ys p) (fy p)
      go (no f) = lx.past p (omega arith) ∙ sym (ly.past p (omega arith))

  pub one-outcome : xs ≡ ys
  one-outcome = same-masks xs ys lx.room ly.room same-mask
