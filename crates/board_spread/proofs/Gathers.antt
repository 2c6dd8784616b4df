-- The listed domains as they are gathered: one place more, and that every value of them is an i32.
use Rattle.std.specs.Prelude.{◌≡◌, true, List, ℕ, ◌+◌, ◌<◌, ℤ, pos, ◌+ℤ◌, length, get_or, set}
use Rattle.std.specs.Int.{w32}
use Rattle.std.proofs.Common.{sym, ◌∙◌, subst, arith, SFits, below_more}
use lib.Seq.{get_or-set_same, get_or-set_other}
use Rattle.mask.specs.Val.{val}
use Rattle.mask.specs.Sets.{In}
use Rattle.mask.specs.declared.Mask.{Mask}
use Rattle.offset.specs.Universe.{value_in}
use Rattle.domain.specs.Set.{well}
use Rattle.domain.proofs.Places.{well-in}
use Rattle.masks.specs.Cells.{Room, mask_at, put_at}
use Rattle.masks.proofs.Laws.{at-put, at_other}
use Rattle.sweep.specs.Listed.{Within32}
use Rattle.board.specs.Rows.{domain_at}
use Rattle.board.specs.declared.Row.{Row}
use Rattle.board_spread.specs.Gather.{Gathered, Ends32}

module _ (rows : List Row) (at : List ℕ) (mins : List ℤ) (ms : List Mask) where
  module _ (p : ℕ) (l : p < 64) where
    -- the domain at place p is put there
    pub gathered-more : p < length mins → Room ms → (z : ℤ) → z ≡ (domain_at rows (get_or at p 0)).min → Gathered rows at mins ms p → (ns : List Mask) → ns ≡ put_at ms p (domain_at rows (get_or at p 0)).mask → Gathered rows at (set mins p z) ns (p + 1)
    gathered-more h r z e g ns q =
        rw q
        (below_more (λ k. (get_or (set mins p z) k (pos 0) ≡ (domain_at rows (get_or at k 0)).min) × (mask_at (put_at ms p m) k ≡ (domain_at rows (get_or at k 0)).mask)) p
        (λ k j. (get_or-set_other mins p k z (pos 0) (λ y. omega arith) ∙ (g k j).0, at_other ms p k m (λ y. omega arith) ∙ (g k j).1))
        (get_or-set_same mins p z (pos 0) h ∙ e, at-put ms p m r l))
      where
        m : Mask
        m = (domain_at rows (get_or at p 0)).mask

  -- the values of well-formed domains stand in their universes
  pub within_all : (n : ℕ) → ((p : ℕ) → p < n → well (domain_at rows (get_or at p 0)) ≡ true) → Gathered rows at mins ms n → Ends32 rows at n → Within32 mins ms n
  within_all n w g f p k l i =
      let d = domain_at rows (get_or at p 0) in
      subst (λ (z : ℤ). SFits w32 (z +ℤ pos k)) (sym (g p l).0)
      (value_in d.min d.max k (f p l).0 (f p l).1 (well-in d (w p l) k (subst (λ (m : Mask). In (val m) k) (g p l).1 i)))
