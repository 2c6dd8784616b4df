-- Every call on bit domains is refused as 01's table says, and then hands back what it was given.
use Rattle.std.specs.Prelude.{◌≡◌, refl, ◌&&◌, [], ◌∷◌, suc, leb, ltb, length}
use Rattle.std.specs.Int.Signed.{lt_z}
use Rattle.std.proofs.Common.{sym, ◌∙◌, arith, eqb→eq}
use Rattle.ends.specs.Ends.{smallest_of, largest_of}
use Rattle.offset.specs.Places.{span_of}
use Rattle.rules.specs.Sets.{Chutes, some}
use Rattle.rules.specs.Board.{single, accepted, refused, unless}
use Rattle.rules.specs.declared.Refusal.{Refusal}
use Rattle.rules.specs.declared.Refusal.TheVariants.{Empty}
use Rattle.rules.proofs.Tests.{is_false}
use Rattle.domain.specs.Set.{set_of, well}
use Rattle.domain.specs.Calls.{first_of, last_of, only_of, try_between_of, try_new_of, is_invalid_of, contains_of, size_of, is_empty_of, is_fixed_of, fixed_value_of, min_of, max_of, universe_size_of, min_universe_of, max_universe_of, insert_of, remove_of, remove_all_of, close_of}
use Rattle.domain_pairs.specs.Calls.{same_bounds, fits, intersect_of, union_of, is_subset_of, equals_of, union_mask_of, remove_by_mask_of, get_mask_of, save_state_of, restore_mask_of}
use Rattle.domain_values.specs.declared.BitCursor.{BitCursor}
use Rattle.domain_values.specs.Calls as values
use Rattle.domain_values.specs.Calls.{well_cursor, iter_of, next_of, left_of, to_vec_of, try_from_values_of}
use Rattle.domain_text.specs.Text.{text_of, write_text_of}
use Rattle.refusals.specs.Bits.{Ask, try_new, try_from_values, is_invalid, size, is_empty, is_fixed, fixed_value, min, max, universe_size, min_universe, max_universe, get_mask, save_state, iter, contains, is_subset, equals, union_mask, left, Change, insert, remove, remove_all, close, intersect, union, remove_by_mask, restore_mask, restore_state, next, to_vec, write_text, of_found, of_yielded, asked, changed, few, ask_table, change_table, given, handed}
use Rattle.refusals.proofs.Reading.{taken, split, enough}

first_some : (s : Chutes) → of_found (first_of s) ≡ unless (some s) Empty accepted
first_some [] = refl
first_some (x ∷ s) = refl

last_some : (s : Chutes) → of_found (last_of s) ≡ unless (some s) Empty accepted
last_some [] = refl
last_some (x ∷ []) = refl
last_some (x ∷ y ∷ s) = last_some (y ∷ s)

only_one : (s : Chutes) → of_found (only_of s) ≡ unless (single s) Empty accepted
only_one [] = refl
only_one (x ∷ []) = refl
only_one (x ∷ y ∷ s) = rw (is_false (single (x ∷ y ∷ s)) (λ h. let z = eqb→eq (suc (suc (length s))) 1 h in omega arith))

pub asks-exactly : (c : Ask) → asked c ≡ ask_table c
unfolding try_between_of try_new_of is_invalid_of contains_of size_of is_empty_of is_fixed_of fixed_value_of min_of max_of universe_size_of min_universe_of max_universe_of is_subset_of equals_of union_mask_of get_mask_of save_state_of iter_of left_of try_from_values_of span_of
asks-exactly (try_new all a b) =
    split (lt_z b.0 a.0)
    (λ e. rw e (split (few b.0 a.0) (λ h. rw h) (λ h. rw h)))
    (λ e. rw e (split (few a.0 b.0) (λ h. rw h) (λ h. rw h)))
asks-exactly (try_from_values []) = refl
asks-exactly (try_from_values (x ∷ vs)) = split (few (smallest_of (x ∷ vs)) (largest_of (x ∷ vs))) (λ h. rw h) (λ h. rw h)
asks-exactly (is_invalid d) = split (well d) (λ h. rw h) (λ h. rw h)
asks-exactly (size d) = split (well d) (λ h. rw h) (λ h. rw h)
asks-exactly (is_empty d) = split (well d) (λ h. rw h) (λ h. rw h)
asks-exactly (is_fixed d) = split (well d) (λ h. rw h) (λ h. rw h)
asks-exactly (fixed_value d) = split (well d) (λ h. rw h (only_one (set_of d))) (λ h. rw h)
asks-exactly (min d) = split (well d) (λ h. rw h (first_some (set_of d))) (λ h. rw h)
asks-exactly (max d) = split (well d) (λ h. rw h (last_some (set_of d))) (λ h. rw h)
asks-exactly (universe_size d) = split (well d) (λ h. rw h) (λ h. rw h)
asks-exactly (min_universe d) = split (well d) (λ h. rw h) (λ h. rw h)
asks-exactly (max_universe d) = split (well d) (λ h. rw h) (λ h. rw h)
asks-exactly (get_mask d) = split (well d) (λ h. rw h) (λ h. rw h)
asks-exactly (save_state d) = split (well d) (λ h. rw h) (λ h. rw h)
asks-exactly (iter d) = split (well d) (λ h. rw h) (λ h. rw h)
asks-exactly (contains d v) = split (well d) (λ h. rw h) (λ h. rw h)
asks-exactly (is_subset d e) = split (well d && well e) (λ h. rw h) (λ h. rw h)
asks-exactly (equals d e) = split (well d && well e) (λ h. rw h) (λ h. rw h)
asks-exactly (union_mask d e) = split (well d && well e) (λ h. rw h (split (same_bounds d e) (λ k. rw k) (λ k. rw k))) (λ h. rw h)
asks-exactly (left c) = split (well_cursor c) (λ h. rw h) (λ h. rw h)

-- a cursor's step is no refusal
step-taken : (c : BitCursor) (s : Chutes) → of_yielded (values.step_of c s).answer ≡ accepted
step-taken c [] = refl
step-taken c (x ∷ s) = refl

pub changes-exactly : (c : Change) → changed c ≡ change_table c
unfolding insert_of remove_of remove_all_of close_of intersect_of union_of remove_by_mask_of restore_mask_of next_of to_vec_of write_text_of
changes-exactly (insert d v) = split (well d) (λ h. rw h) (λ h. rw h)
changes-exactly (remove d v) = split (well d) (λ h. rw h) (λ h. rw h)
changes-exactly (remove_all d) = split (well d) (λ h. rw h) (λ h. rw h)
changes-exactly (close k d v) = split (well d) (λ h. rw h) (λ h. rw h)
changes-exactly (intersect d e) = split (well d && well e) (λ h. rw h (split (same_bounds d e) (λ k. rw k) (λ k. rw k))) (λ h. rw h)
changes-exactly (union d e) = split (well d && well e) (λ h. rw h (split (same_bounds d e) (λ k. rw k) (λ k. rw k))) (λ h. rw h)
changes-exactly (remove_by_mask d m) = split (well d) (λ h. rw h) (λ h. rw h)
changes-exactly (restore_mask d m) = split (well d) (λ h. rw h (split (fits d m) (λ k. rw k) (λ k. rw k))) (λ h. rw h)
changes-exactly (restore_state d s) = split (well d) (λ h. rw h (split (fits d s.mask) (λ k. rw k) (λ k. rw k))) (λ h. rw h)
changes-exactly (next c) = split (well_cursor c) (λ h. rw h (step-taken c (values.left_in c))) (λ h. rw h)
changes-exactly (to_vec d l) =
    split (well d) (λ h. rw h (enough (length l) (length (set_of d)) (λ k m. rw (k, m)) (λ k m. rw (k, m)))) (λ h. rw h)
changes-exactly (write_text d l) = split (well d) (λ h. rw h (split (leb (length (text_of (set_of d))) (length l)) (λ k. rw k) (λ k. rw k))) (λ h. rw h)

pub refused-same : (c : Change) (r : Refusal) → changed c ≡ refused r → handed c ≡ given c
unfolding insert_of remove_of remove_all_of close_of intersect_of union_of remove_by_mask_of restore_mask_of next_of to_vec_of write_text_of
refused-same (insert d v) r e = split (well d) (λ h. absurd (taken r (rw h at e))) (λ h. rw h)
refused-same (remove d v) r e = split (well d) (λ h. absurd (taken r (rw h at e))) (λ h. rw h)
refused-same (remove_all d) r e = split (well d) (λ h. absurd (taken r (rw h at e))) (λ h. rw h)
refused-same (close k d v) r e = split (well d) (λ h. absurd (taken r (rw h at e))) (λ h. rw h)
refused-same (intersect d f) r e = split (well d && well f) (λ h. split (same_bounds d f) (λ k. absurd (taken r (rw (h, k) at e))) (λ k. rw (h, k))) (λ h. rw h)
refused-same (union d f) r e = split (well d && well f) (λ h. split (same_bounds d f) (λ k. absurd (taken r (rw (h, k) at e))) (λ k. rw (h, k))) (λ h. rw h)
refused-same (remove_by_mask d m) r e = split (well d) (λ h. absurd (taken r (rw h at e))) (λ h. rw h)
refused-same (restore_mask d m) r e = split (well d) (λ h. split (fits d m) (λ k. absurd (taken r (rw (h, k) at e))) (λ k. rw (h, k))) (λ h. rw h)
refused-same (restore_state d s) r e = split (well d) (λ h. split (fits d s.mask) (λ k. absurd (taken r (rw (h, k) at e))) (λ k. rw (h, k))) (λ h. rw h)
refused-same (next c) r e = split (well_cursor c) (λ h. absurd (taken r (sym (step-taken c (values.left_in c)) ∙ (rw h at e)))) (λ h. rw h)
refused-same (to_vec d l) r e = split (well d) (λ h. split (ltb (length l) (length (set_of d))) (λ k. rw (h, k)) (λ k. absurd (taken r (rw (h, k) at e)))) (λ h. rw h)
refused-same (write_text d l) r e = split (well d) (λ h. split (leb (length (text_of (set_of d))) (length l)) (λ k. absurd (taken r (rw (h, k) at e))) (λ k. rw (h, k))) (λ h. rw h)
