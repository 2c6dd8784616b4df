-- Every call on sparse sets is refused as 01's table says, and then hands back what it was given.
use Rattle.std.specs.Prelude.{◌≡◌, refl, not, ◌&&◌, List, [], ◌∷◌, ◌↔◌, ℕ, ◌≤◌, eqb, leb, ltb, length, Result, Option}
use Rattle.std.specs.declared.result.Result.TheVariants.{Ok, Err}
use Rattle.std.specs.declared.option.Option.TheVariants.{None, Some}
use Rattle.std.specs.Int.Signed.{lt_z}
use Rattle.std.proofs.Common.{◌∙◌, arith, le-leb, ltb-false, le-ltb}
use Rattle.ends.specs.Ends.{smallest_of, largest_of}
use Rattle.offset.specs.Places.{span_of}
use Rattle.rules.specs.Board.{Verdict, accepted, refused, unless}
use Rattle.rules.specs.declared.Refusal.{Refusal}
use Rattle.rules.specs.declared.Value.{Value}
use Rattle.rules.specs.declared.Refusal.TheVariants.{Empty, NoRoom, BadState}
use Rattle.sparse_inner.specs.Set.{Full, fits_b, narrow_b, room_b, sound_b, verdict_of, both_of}
use Rattle.sparse.specs.Calls.{size_of, is_empty_of, is_fixed_of, contains_of, min_of, max_of, first_of, last_of, universe_size_of, min_universe_of, max_universe_of, complement_size_of, use_complement_of, save_of, remove_of, remove_all_of, remove_all_but_of, remove_below_of, remove_above_of, restore_of}
use Rattle.sparse_make.specs.Calls.{room_for, between_of, new_of, new_unchecked_of, from_values_of}
use Rattle.sparse_pairs.specs.Calls.{part_of, union_of, is_subset_of, equals_of}
use Rattle.sparse_values.specs.declared.HeldCursor.{HeldCursor}
use Rattle.sparse_values.specs.declared.ComplementCursor.{ComplementCursor}
use Rattle.sparse_values.specs.Calls.{past_held, next_of, complement_next_of, to_vec_of}
use Rattle.sparse_text.specs.Text.{text_of, write_text_of}
use Rattle.refusals.specs.Sparses.{Ask, size, is_empty, is_fixed, min, max, first, last, universe_size, min_universe, max_universe, complement_size, use_complement, save, contains, is_subset, equals, Change, remove, remove_all_but, remove_below, remove_above, remove_all, restore, part, union, next, complement_next, to_vec, write_text, new, new_unchecked, from_values, asked, changed, checked, both_checked, roomy, ask_table, change_table, given, handed}
use Rattle.refusals.proofs.Reading.{taken, split, enough}

-- ---- the verdict on what a call is lent, as the table has it

abbrev judged : Result Unit Refusal → Verdict → Verdict
judged (Ok tt) v = v
judged (Err r) v = refused r

verdict-is : (f : Full) (v : Verdict) → judged (verdict_of f) v ≡ checked f v
unfolding verdict_of
verdict-is f v =
    split (narrow_b f)
    (λ a. split (room_b f) (λ b. split (sound_b f) (λ c. rw (a, b, c)) (λ c. rw (a, b, c))) (λ b. rw (a, b)))
    (λ a. rw a)

both_is : (f g : Full) (v : Verdict) → judged (both_of f g) v ≡ both_checked f g v
unfolding both_of
both_is f g v =
    split (narrow_b f && narrow_b g)
    (λ a. split (room_b f && room_b g) (λ b. split (sound_b f && sound_b g) (λ c. rw (a, b, c)) (λ c. rw (a, b, c))) (λ b. rw (a, b)))
    (λ a. rw a)

room-is : (n : ℕ) (ind val : List ℕ) → judged (room_for n ind val) accepted ≡ roomy n ind val
unfolding room_for
room-is n ind val =
    split (leb n 4096)
    (λ a. split (leb n (length ind) && leb n (length val)) (λ b. rw (a, b)) (λ b. rw (a, b)))
    (λ a. rw a)

-- by what the verdict is
decide : {A : Type 0} (j : Result Unit Refusal) → (j ≡ Ok tt → A) → ((r : Refusal) → j ≡ Err r → A) → A
decide (Ok tt) h k = h refl
decide (Err r) h k = k r refl

pub asks-exactly : (c : Ask) → asked c ≡ ask_table c
unfolding size_of is_empty_of is_fixed_of contains_of min_of max_of first_of last_of universe_size_of min_universe_of max_universe_of complement_size_of use_complement_of save_of is_subset_of equals_of
asks-exactly (size f) = decide (verdict_of f) (λ h. rw h) (λ r h. rw h) ∙ verdict-is f accepted
asks-exactly (is_empty f) = decide (verdict_of f) (λ h. rw h) (λ r h. rw h) ∙ verdict-is f accepted
asks-exactly (is_fixed f) = decide (verdict_of f) (λ h. rw h) (λ r h. rw h) ∙ verdict-is f accepted
asks-exactly (universe_size f) = decide (verdict_of f) (λ h. rw h) (λ r h. rw h) ∙ verdict-is f accepted
asks-exactly (min_universe f) = decide (verdict_of f) (λ h. rw h) (λ r h. rw h) ∙ verdict-is f accepted
asks-exactly (complement_size f) = decide (verdict_of f) (λ h. rw h) (λ r h. rw h) ∙ verdict-is f accepted
asks-exactly (use_complement f) = decide (verdict_of f) (λ h. rw h) (λ r h. rw h) ∙ verdict-is f accepted
asks-exactly (save f) = decide (verdict_of f) (λ h. rw h) (λ r h. rw h) ∙ verdict-is f accepted
asks-exactly (contains f v) = decide (verdict_of f) (λ h. rw h) (λ r h. rw h) ∙ verdict-is f accepted
asks-exactly (min f) = decide (verdict_of f) (λ h. rw h (split (eqb f.set.size 0) (λ k. rw k) (λ k. rw k))) (λ r h. rw h) ∙ verdict-is f (unless (not (eqb f.set.size 0)) Empty accepted)
asks-exactly (max f) = decide (verdict_of f) (λ h. rw h (split (eqb f.set.size 0) (λ k. rw k) (λ k. rw k))) (λ r h. rw h) ∙ verdict-is f (unless (not (eqb f.set.size 0)) Empty accepted)
asks-exactly (first f) = decide (verdict_of f) (λ h. rw h (split (eqb f.set.size 0) (λ k. rw k) (λ k. rw k))) (λ r h. rw h) ∙ verdict-is f (unless (not (eqb f.set.size 0)) Empty accepted)
asks-exactly (last f) = decide (verdict_of f) (λ h. rw h (split (eqb f.set.size 0) (λ k. rw k) (λ k. rw k))) (λ r h. rw h) ∙ verdict-is f (unless (not (eqb f.set.size 0)) Empty accepted)
asks-exactly (max_universe f) = decide (verdict_of f) (λ h. rw h (split (eqb f.set.n 0) (λ k. rw k) (λ k. rw k))) (λ r h. rw h) ∙ verdict-is f (unless (not (eqb f.set.n 0)) Empty accepted)
asks-exactly (is_subset f g) = decide (both_of f g) (λ h. rw h) (λ r h. rw h) ∙ both_is f g accepted
asks-exactly (equals f g) = decide (both_of f g) (λ h. rw h) (λ r h. rw h) ∙ both_is f g accepted

pub changes-exactly : (c : Change) → changed c ≡ change_table c
unfolding remove_of remove_all_of remove_all_but_of remove_below_of remove_above_of restore_of part_of union_of next_of complement_next_of to_vec_of write_text_of between_of new_of new_unchecked_of from_values_of
changes-exactly (remove f v) = decide (verdict_of f) (λ h. rw h) (λ r h. rw h) ∙ verdict-is f accepted
changes-exactly (remove_all_but f v) = decide (verdict_of f) (λ h. rw h) (λ r h. rw h) ∙ verdict-is f accepted
changes-exactly (remove_below f v) = decide (verdict_of f) (λ h. rw h) (λ r h. rw h) ∙ verdict-is f accepted
changes-exactly (remove_above f v) = decide (verdict_of f) (λ h. rw h) (λ r h. rw h) ∙ verdict-is f accepted
changes-exactly (remove_all f) = decide (verdict_of f) (λ h. rw h) (λ r h. rw h) ∙ verdict-is f accepted
changes-exactly (restore f t) =
    let fit = fits_b f.ind f.val f.set.n t in
    decide (verdict_of f) (λ h. rw h (split fit (λ k. rw k) (λ k. rw k))) (λ r h. rw h) ∙ verdict-is f (unless fit BadState accepted)
changes-exactly (part want f g l) =
    decide (both_of f g) (λ h. rw h (enough (length l) f.set.size (λ k m. rw (k, m)) (λ k m. rw (k, m)))) (λ r h. rw h)
    ∙ both_is f g (unless (leb f.set.size (length l)) NoRoom accepted)
changes-exactly (union f g) = decide (both_of f g) (λ h. rw h) (λ r h. rw h) ∙ both_is f g accepted
changes-exactly (next f c) = decide (verdict_of f) (λ h. rw h (split (ltb c.at f.set.size) (λ k. rw k) (λ k. rw k))) (λ r h. rw h) ∙ verdict-is f accepted
changes-exactly (complement_next f c) =
    decide (verdict_of f) (λ h. rw h (split (ltb (past_held f.set.size c.at) f.set.n) (λ k. rw k) (λ k. rw k))) (λ r h. rw h) ∙ verdict-is f accepted
changes-exactly (to_vec f l) =
    decide (verdict_of f) (λ h. rw h (enough (length l) f.set.size (λ k m. rw (k, m)) (λ k m. rw (k, m)))) (λ r h. rw h)
    ∙ verdict-is f (unless (leb f.set.size (length l)) NoRoom accepted)
changes-exactly (write_text f l) =
    decide (verdict_of f) (λ h. rw h (enough (length l) (length (text_of f)) (λ k m. rw (k, m)) (λ k m. rw (k, m)))) (λ r h. rw h)
    ∙ verdict-is f (unless (leb (length (text_of f)) (length l)) NoRoom accepted)
changes-exactly (new a b ind val) =
    split (lt_z b.0 a.0)
    (λ e. rw e (decide (room_for (span_of b.0 a.0) ind val) (λ h. rw h) (λ r h. rw h) ∙ room-is (span_of b.0 a.0) ind val))
    (λ e. rw e (decide (room_for (span_of a.0 b.0) ind val) (λ h. rw h) (λ r h. rw h) ∙ room-is (span_of a.0 b.0) ind val))
changes-exactly (new_unchecked a b ind val) = decide (room_for (span_of a.0 b.0) ind val) (λ h. rw h) (λ r h. rw h) ∙ room-is (span_of a.0 b.0) ind val
changes-exactly (from_values [] ind val) = rw (le-leb 0 (length ind) (omega arith), le-leb 0 (length val) (omega arith))
changes-exactly (from_values (v ∷ vs) ind val) =
    let n = span_of (smallest_of (v ∷ vs)) (largest_of (v ∷ vs)) in
    decide (room_for n ind val) (λ h. rw h) (λ r h. rw h) ∙ room-is n ind val

pub refused-same : (c : Change) (r : Refusal) → changed c ≡ refused r → handed c ≡ given c
unfolding remove_of remove_all_of remove_all_but_of remove_below_of remove_above_of restore_of part_of union_of next_of complement_next_of to_vec_of write_text_of between_of new_of new_unchecked_of from_values_of
refused-same (remove f v) r e = decide (verdict_of f) (λ h. absurd (taken r (rw h at e))) (λ s h. rw h)
refused-same (remove_all_but f v) r e = decide (verdict_of f) (λ h. absurd (taken r (rw h at e))) (λ s h. rw h)
refused-same (remove_below f v) r e = decide (verdict_of f) (λ h. absurd (taken r (rw h at e))) (λ s h. rw h)
refused-same (remove_above f v) r e = decide (verdict_of f) (λ h. absurd (taken r (rw h at e))) (λ s h. rw h)
refused-same (remove_all f) r e = decide (verdict_of f) (λ h. absurd (taken r (rw h at e))) (λ s h. rw h)
refused-same (restore f t) r e = decide (verdict_of f) (λ h. split (fits_b f.ind f.val f.set.n t) (λ k. absurd (taken r (rw (h, k) at e))) (λ k. rw (h, k))) (λ s h. rw h)
refused-same (part want f g l) r e = decide (both_of f g) (λ h. split (ltb (length l) f.set.size) (λ k. rw (h, k)) (λ k. absurd (taken r (rw (h, k) at e)))) (λ s h. rw h)
refused-same (union f g) r e = decide (both_of f g) (λ h. absurd (taken r (rw h at e))) (λ s h. rw h)
refused-same (next f c) r e = decide (verdict_of f) (λ h. split (ltb c.at f.set.size) (λ k. absurd (taken r (rw (h, k) at e))) (λ k. absurd (taken r (rw (h, k) at e)))) (λ s h. rw h)
refused-same (complement_next f c) r e =
    decide (verdict_of f)
    (λ h. split (ltb (past_held f.set.size c.at) f.set.n) (λ k. absurd (taken r (rw (h, k) at e))) (λ k. absurd (taken r (rw (h, k) at e))))
    (λ s h. rw h)
refused-same (to_vec f l) r e = decide (verdict_of f) (λ h. split (ltb (length l) f.set.size) (λ k. rw (h, k)) (λ k. absurd (taken r (rw (h, k) at e)))) (λ s h. rw h)
refused-same (write_text f l) r e = decide (verdict_of f) (λ h. split (ltb (length l) (length (text_of f))) (λ k. rw (h, k)) (λ k. absurd (taken r (rw (h, k) at e)))) (λ s h. rw h)
refused-same (new a b ind val) r e =
    split (lt_z b.0 a.0)
    (λ t. decide (room_for (span_of b.0 a.0) ind val) (λ h. absurd (taken r (rw (t, h) at e))) (λ s h. rw (t, h)))
    (λ t. decide (room_for (span_of a.0 b.0) ind val) (λ h. absurd (taken r (rw (t, h) at e))) (λ s h. rw (t, h)))
refused-same (new_unchecked a b ind val) r e = decide (room_for (span_of a.0 b.0) ind val) (λ h. absurd (taken r (rw h at e))) (λ s h. rw h)
refused-same (from_values [] ind val) r e = absurd (taken r e)
refused-same (from_values (v ∷ vs) ind val) r e =
    decide (room_for (span_of (smallest_of (v ∷ vs)) (largest_of (v ∷ vs))) ind val) (λ h. absurd (taken r (rw h at e))) (λ s h. rw h)

-- ---- the end of a walk

-- a cursor that yields a value hasn't ended
going : {v : Value} → ◌≡◌ {A = Result (Option Value) Refusal} (Ok (Some v)) (Ok None) → ⊥
going e = absurd (cc)

-- a cursor over a well-formed set has ended exactly at or past the size
pub ended-exactly : (f : Full) (c : HeldCursor) → verdict_of f ≡ Ok tt → ((next_of f c).answer ≡ Ok None) ↔ (f.set.size ≤ c.at)
unfolding next_of
ended-exactly f c w = (
  λ e. split (ltb c.at f.set.size) (λ h. absurd (going (rw (w, h) at e))) (λ h. ltb-false c.at f.set.size h),
  λ h. rw (w, le-ltb c.at f.set.size h),
)

-- one over what isn't held, exactly at or past n, a place among the held cells standing for the first that isn't; and it is handed back as it came
pub complement-ended-exactly : (f : Full) (c : ComplementCursor) → verdict_of f ≡ Ok tt → (((complement_next_of f c).answer ≡ Ok None) ↔ (f.set.n ≤ past_held f.set.size c.at)) × ((complement_next_of f c).answer ≡ Ok None → (complement_next_of f c).cursor ≡ c)
unfolding complement_next_of
complement-ended-exactly f c w = (
  (
    λ e. split (ltb (past_held f.set.size c.at) f.set.n) (λ h. absurd (going (rw (w, h) at e))) (λ h. ltb-false (past_held f.set.size c.at) f.set.n h),
    λ h. rw (w, le-ltb (past_held f.set.size c.at) f.set.n h),
  ),
  λ e. split (ltb (past_held f.set.size c.at) f.set.n) (λ h. absurd (going (rw (w, h) at e))) (λ h. rw (w, h)),
)
