-- Each call on a well-formed set, seen through the plain set of held values: it is accepted, it answers and holds what 01 says, and what it leaves is
-- well formed. Assumes nothing.
use Rattle.std.specs.Prelude.{◌≡◌, Bool, true, false, not, ◌&&◌, ◌||◌, ◌≤◌, ℤ, pos, ◌+ℤ◌, ◌-ℤ◌, length}
use Rattle.std.specs.declared.result.Result.TheVariants.{Ok}
use Rattle.std.specs.Int.Signed.{lt_z, le_z}
use Rattle.std.proofs.Common.{sym, ap, ◌∙◌, le-ltb}
use Rattle.offset.specs.Places.{cut_of}
use Rattle.rules.specs.Sets.{Chutes, has, same}
use Rattle.rules.specs.declared.Value.{Value}
use Rattle.sparse_inner.specs.Set.{Full, WellF, place_in, set_of, is_held}
use Rattle.sparse_inner.specs.Change.{drop_at, emptied, only_at, from_cut, under_cut}
use Rattle.sparse_inner.proofs.Checks.{of-well, of-both}
use Rattle.sparse_inner.proofs.Drops.{drop-at-well}
use Rattle.sparse_inner.proofs.Only.{only-at-well}
use Rattle.sparse_inner.proofs.Runs.{emptied-well, from-cut-well, under-cut-well}
use Rattle.sparse.specs.Calls.{remove_of, remove_all_of, remove_all_but_of, remove_below_of, remove_above_of}
use Rattle.sparse_pairs.specs.Calls.{drop_each, add_each, parted, part_of, intersect_of, diff_of, union_of}
use Rattle.sparse_laws.proofs.Held.{members}
use Rattle.sparse_laws.proofs.Drops.{remove-holds, remove-all-holds, remove-all-but-holds, remove-below-holds, remove-above-holds}
use Rattle.sparse_laws.proofs.Pairs.{inside, each-well, intersect-holds, diff-holds, added-well, union-holds}

-- a well-formed set, and which values it holds
pub record Holds (g : Full) (p : ℤ → Bool) : Type 0 where
  pub well : WellF g
  pub is : (z : ℤ) → has z (set_of g) ≡ p z

holding : (g : Full) (p : ℤ → Bool) → WellF g → ((z : ℤ) → is_held g z ≡ p z) → Holds g p
holding g p W h = record { well = W; is = λ z. members g W z ∙ h z }

-- ---- one set
module _ (f : Full) (W : WellF f) where
  also : (q : ℤ → Bool) (z : ℤ) → is_held f z && q z ≡ has z (set_of f) && q z
  also q z = ap (λ (b : Bool). b && q z) (sym (members f W z))

  -- remove answers whether the value was held, and drops it
  pub remove-answer : (v : Value) → (remove_of f v).answer ≡ Ok (has v.0 (set_of f))
  unfolding remove_of
  remove-answer v = rw (of-well f W) (ap Ok (sym (members f W v.0)))

  pub remove-set : (v : Value) → Holds (remove_of f v).left (λ z. has z (set_of f) && not (same z v.0))
  unfolding remove_of
  remove-set v = rw (of-well f W) (holding (drop_at f (place_in f.set v.0)) (λ z. has z (set_of f) && not (same z v.0)) (drop-at-well f (place_in f.set v.0) W) (λ z. remove-holds f v.0 W z ∙ also (λ x. not (same x v.0)) z))

  pub remove-all-set : Holds (remove_all_of f).left (λ z. false)
  unfolding remove_all_of
  remove-all-set = rw (of-well f W) (holding (emptied f) (λ z. false) (emptied-well f W) (remove-all-holds f))

  pub remove-all-but-set : (v : Value) → Holds (remove_all_but_of f v).left (λ z. has z (set_of f) && same z v.0)
  unfolding remove_all_but_of
  remove-all-but-set v = rw (of-well f W) (holding (only_at f (place_in f.set v.0)) (λ z. has z (set_of f) && same z v.0) (only-at-well f (place_in f.set v.0) W) (λ z. remove-all-but-holds f v.0 W z ∙ also (λ x. same x v.0) z))

  pub remove-below-set : (v : Value) → Holds (remove_below_of f v).left (λ z. has z (set_of f) && not (lt_z z v.0))
  unfolding remove_below_of
  remove-below-set v = rw (of-well f W) (holding (from_cut f (cut_of f.set.n (v.0 -ℤ f.set.off))) (λ z. has z (set_of f) && not (lt_z z v.0)) (from-cut-well f W (cut_of f.set.n (v.0 -ℤ f.set.off))) (λ z. remove-below-holds f v.0 W z ∙ also (λ x. not (lt_z x v.0)) z))

  pub remove-above-set : (v : Value) → Holds (remove_above_of f v).left (λ z. has z (set_of f) && le_z z v.0)
  unfolding remove_above_of
  remove-above-set v = rw (of-well f W) (holding (under_cut f (cut_of f.set.n ((v.0 -ℤ f.set.off) +ℤ pos 1))) (λ z. has z (set_of f) && le_z z v.0) (under-cut-well f W (cut_of f.set.n ((v.0 -ℤ f.set.off) +ℤ pos 1))) (λ z. remove-above-holds f v.0 W z ∙ also (λ x. le_z x v.0) z))

-- ---- two sets
module _ (f g : Full) (U : WellF f) (W : WellF g) where
  pub intersect-set : (scratch : Chutes) → f.set.size ≤ length scratch → Holds (intersect_of f g scratch).left (λ z. has z (set_of f) && has z (set_of g))
  unfolding part_of
  intersect-set scratch h =
      rw (of-both f g U W, le-ltb (length scratch) f.set.size h) (holding (drop_each f (parted f g false)) (λ z. has z (set_of f) && has z (set_of g)) (each-well f (parted f g false) U) (λ z. intersect-holds f g U z ∙ (λ i. sym (members f U z) i && sym (members g W z) i)))

  pub diff-set : (scratch : Chutes) → f.set.size ≤ length scratch → Holds (diff_of f g scratch).left (λ z. has z (set_of f) && not (has z (set_of g)))
  unfolding part_of
  diff-set scratch h =
      rw (of-both f g U W, le-ltb (length scratch) f.set.size h) (holding (drop_each f (parted f g true)) (λ z. has z (set_of f) && not (has z (set_of g))) (each-well f (parted f g true) U) (λ z. diff-holds f g U z ∙ (λ i. sym (members f U z) i && not (sym (members g W z) i))))

  pub union-set : Holds (union_of f g).left (λ z. has z (set_of f) || (has z (set_of g) && inside f z))
  unfolding union_of
  union-set =
      rw (of-both f g U W) (holding (add_each f (set_of g)) (λ z. has z (set_of f) || (has z (set_of g) && inside f z)) (added-well f (set_of g) U) (λ z. union-holds f g U W z ∙ (λ i. sym (members f U z) i || (sym (members g W z) i && inside f z))))
