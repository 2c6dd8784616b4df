-- A list propagated on a small board, run. Assumes nothing.
use Rattle.std.specs.Prelude.{◌≡◌, refl, true, false, [], ◌∷◌, replicate}
use Rattle.std.specs.declared.result.Result.TheVariants.{Ok}
use Rattle.mask.specs.Val.{val, mask_of}
use Rattle.mask.specs.Sets.{members_from, members_in}
use Rattle.offset.specs.Places.{span_of}
use Rattle.rules.specs.Pass.{pass, raises, step1, step2}
use Rattle.rules.specs.declared.Refusal.TheVariants.{Broken, Unknown, Repeated}
use Rattle.domain.specs.Set.{values_of, well, bits_of}
use Rattle.board.specs.Well.{well_parts}
use Rattle.board.specs.Examples.{pair, two, ill}
use Rattle.board_spread.specs.Spread.{pruned_of, refused, spread_of}

-- 20 is assigned to 1, which 21 loses
taken : spread_of (pair 1 3 0 (replicate 4 0) false) (20 ∷ 21 ∷ []) ≡ record { board = pair 1 2 0 (replicate 4 0) true; answer = Ok (record { changed = true; consistent = true }) }
unfolding spread_of pruned_of pass raises step1 step2 well_parts well span_of val values_of bits_of mask_of members_from members_in
taken = refl

-- both are assigned to 1: the second listed is emptied
emptied : spread_of (pair 1 1 0 (replicate 4 0) false) (21 ∷ 20 ∷ []) ≡ record { board = pair 0 1 0 (replicate 4 0) true; answer = Ok (record { changed = true; consistent = false }) }
unfolding spread_of pruned_of pass raises step1 step2 well_parts well span_of val values_of bits_of mask_of members_from members_in
emptied = refl

-- three values for two
loose : spread_of two (20 ∷ 21 ∷ []) ≡ record { board = two; answer = Ok (record { changed = false; consistent = true }) }
unfolding spread_of pruned_of pass raises step1 step2 well_parts well span_of val values_of bits_of mask_of members_from members_in
loose = refl

unknown : spread_of two (20 ∷ 99 ∷ 20 ∷ []) ≡ refused two (Unknown 1)
unfolding spread_of pruned_of well_parts well span_of val
unknown = refl

repeated : spread_of two (20 ∷ 20 ∷ []) ≡ refused two (Repeated 1)
unfolding spread_of pruned_of well_parts well span_of val
repeated = refl

broken : spread_of ill (20 ∷ 99 ∷ []) ≡ refused ill Broken
unfolding spread_of well_parts well span_of val
broken = refl
