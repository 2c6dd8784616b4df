-- Questions to a small board, run. Assumes nothing.
use Rattle.std.specs.Prelude.{◌≡◌, refl, true, false, [], ◌∷◌, ℕ, pos}
use Rattle.std.specs.declared.result.Result.TheVariants.{Ok, Err}
use Rattle.mask.specs.Val.{val, mask_of}
use Rattle.mask.specs.Sets.{members_from, members_in}
use Rattle.offset.specs.Places.{span_of}
use Rattle.rules.specs.declared.Refusal.TheVariants.{Broken, Unknown, Empty, NoRoom}
use Rattle.rules.specs.declared.Variable.{Variable}
use Rattle.domain.specs.Set.{values_of, well, bits_of}
use Rattle.domain.specs.Calls.{size_of, is_empty_of, is_fixed_of, fixed_value_of, min_of, max_of}
use Rattle.domain_values.specs.Calls.{written, to_vec_of}
use Rattle.board.specs.Well.{well_parts}
use Rattle.board.specs.Examples.{pair, two, ill}
use Rattle.board_ask.specs.Questions.{domain_size_of, is_assigned_of, assigned_value_of, is_inconsistent_of, get_bounds_of, get_into_of}
use Rattle.board_ask.specs.Names.{cursor_at, next_id_of, yields, filled, ids_into_of}
use Rattle.board_ask.specs.Ready.{ready_of}

abbrev id : ℕ → Variable
id n = record { 0 = n }

-- ---- one destination

three : domain_size_of two (id 20) ≡ Ok 3
unfolding domain_size_of size_of well_parts well span_of val values_of members_from members_in
three = refl

ends : get_bounds_of two (id 20) ≡ Ok ((record { 0 = pos 1 }), (record { 0 = pos 3 }))
unfolding get_bounds_of min_of max_of well_parts well span_of val values_of members_from members_in
ends = refl

only : assigned_value_of (pair 7 2 0 [] false) (id 21) ≡ Ok (record { 0 = pos 2 })
unfolding assigned_value_of fixed_value_of well_parts well span_of val values_of members_from members_in
only = refl

copied : get_into_of two (id 21) (pos 9 ∷ pos 9 ∷ pos 9 ∷ []) ≡ written (Ok 2) (pos 1 ∷ pos 2 ∷ pos 9 ∷ [])
unfolding get_into_of to_vec_of well_parts well span_of val values_of members_from members_in
copied = refl

-- ---- an id that isn't registered

no_size : domain_size_of two (id 99) ≡ Ok 0
unfolding domain_size_of size_of well_parts well span_of val values_of bits_of mask_of members_from members_in
no_size = refl

not-assigned : is_assigned_of two (id 99) ≡ Ok false
unfolding is_assigned_of is_fixed_of well_parts well span_of val values_of bits_of mask_of members_from members_in
not-assigned = refl

inconsistent : is_inconsistent_of two (id 99) ≡ Ok true
unfolding is_inconsistent_of is_empty_of well_parts well span_of val values_of bits_of mask_of members_from members_in
inconsistent = refl

no-bounds : get_bounds_of two (id 99) ≡ Err Empty
unfolding get_bounds_of min_of max_of well_parts well span_of val values_of bits_of mask_of members_from members_in
no-bounds = refl

-- ---- the ids

walked : yields two 3 (cursor_at 0) ≡ 20 ∷ 21 ∷ []
unfolding next_id_of well_parts well span_of val
walked = refl

just-fits : ids_into_of two (9 ∷ 9 ∷ []) ≡ filled (Ok 2) (20 ∷ 21 ∷ [])
unfolding ids_into_of well_parts well span_of val
just-fits = refl

too_small : ids_into_of two (9 ∷ []) ≡ filled (Err NoRoom) (9 ∷ [])
unfolding ids_into_of well_parts well span_of val
too_small = refl

-- ---- ready

one-ready : ready_of (pair 7 2 0 [] false) (21 ∷ []) ≡ Ok true
unfolding ready_of well_parts well span_of val values_of members_from members_in
one-ready = refl

-- both on one chute: a list that is ready need not have been propagated
both-ready : ready_of (pair 2 2 0 [] false) (20 ∷ 21 ∷ []) ≡ Ok true
unfolding ready_of well_parts well span_of val values_of members_from members_in
both-ready = refl

unknown : ready_of two (20 ∷ 99 ∷ []) ≡ Err (Unknown 1)
unfolding ready_of well_parts well span_of val values_of members_from members_in
unknown = refl

refused : ready_of ill [] ≡ Err Broken
unfolding ready_of well_parts well span_of val
refused = refl
