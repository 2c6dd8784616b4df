-- The calls on bit domains: what each answers as a verdict, what it hands back, and 01's table for it.
use Rattle.std.specs.Prelude.{Bool, ◌&&◌, List, leb, ℤ, length, ℕ, Result, Option}
use Rattle.std.specs.declared.result.Result.TheVariants.{Ok, Err}
use Rattle.std.specs.declared.option.Option.TheVariants.{None, Some}
use Rattle.rules.specs.declared.Refusal.{Refusal}
use Rattle.mask.specs.declared.Mask.{Mask}
use Rattle.ends.specs.Ends.{smallest_of, largest_of}
use Rattle.offset.specs.Places.{span_of}
use Rattle.rules.specs.Sets.{Chutes, some}
use Rattle.rules.specs.Board.{Kind, single, Verdict, accepted, refused, unless}
use Rattle.rules.specs.declared.Refusal.TheVariants.{Broken, TooWide, Empty, BadState, OtherUniverse, NoRoom}
use Rattle.rules.specs.declared.Value.{Value}
use Rattle.domain.specs.declared.BitDomain.{BitDomain}
use Rattle.domain.specs.Set.{set_of, well}
use Rattle.domain.specs.Calls.{ordered, try_new_of, is_invalid_of, contains_of, size_of, is_empty_of, is_fixed_of, fixed_value_of, min_of, max_of, universe_size_of, min_universe_of, max_universe_of, insert_of, remove_of, remove_all_of, close_of}
use Rattle.domain_pairs.specs.declared.BitState.{BitState}
use Rattle.domain_pairs.specs.Calls.{same_bounds, fits, intersect_of, union_of, is_subset_of, equals_of, union_mask_of, remove_by_mask_of, get_mask_of, save_state_of, restore_mask_of, restore_state_of}
use Rattle.domain_values.specs.declared.BitCursor.{BitCursor}
use Rattle.domain_values.specs.Calls.{well_cursor, iter_of, next_of, left_of, to_vec_of, try_from_values_of}
use Rattle.domain_text.specs.Text.{text_of, write_text_of}

-- ---- the calls, with what each is given

-- `get_mask` is current_mask too, `min_universe` get_min_val, `min` first and `max` last. new, new_empty, new_invalid and new_from_values answer a
-- domain and nothing else: they have no refusal
pub data Ask : Type 0 where
  try_new : Bool → Value → Value → Ask
  try_from_values : Chutes → Ask
  is_invalid size is_empty is_fixed fixed_value min max universe_size min_universe max_universe get_mask save_state iter : BitDomain → Ask
  contains : BitDomain → Value → Ask
  is_subset equals union_mask : BitDomain → BitDomain → Ask
  left : BitCursor → Ask

-- those that hand back a domain or a cursor, or write lent cells. `close` is remove_all_but, remove_below and remove_above
pub data Change : Type 0 where
  insert remove : BitDomain → Value → Change
  remove_all : BitDomain → Change
  close : Kind → BitDomain → Value → Change
  intersect union : BitDomain → BitDomain → Change
  remove_by_mask restore_mask : BitDomain → Mask → Change
  restore_state : BitDomain → BitState → Change
  next : BitCursor → Change
  to_vec : BitDomain → List ℤ → Change
  write_text : BitDomain → List ℕ → Change

-- ---- whether an answer is a refusal, and which

abbrev pub of_made : Result BitDomain Refusal → Verdict
of_made (Ok d) = accepted
of_made (Err r) = refused r

abbrev pub of_told : Result Bool Refusal → Verdict
of_told (Ok y) = accepted
of_told (Err r) = refused r

abbrev pub of_counted : Result ℕ Refusal → Verdict
of_counted (Ok n) = accepted
of_counted (Err r) = refused r

abbrev pub of_found : Result Value Refusal → Verdict
of_found (Ok v) = accepted
of_found (Err r) = refused r

abbrev pub of_outcome : Result Unit Refusal → Verdict
of_outcome (Ok tt) = accepted
of_outcome (Err r) = refused r

abbrev pub of_masked : Result Mask Refusal → Verdict
of_masked (Ok m) = accepted
of_masked (Err r) = refused r

abbrev pub of_kept : Result BitState Refusal → Verdict
of_kept (Ok s) = accepted
of_kept (Err r) = refused r

abbrev pub of_begun : Result BitCursor Refusal → Verdict
of_begun (Ok c) = accepted
of_begun (Err r) = refused r

abbrev pub of_yielded : Result (Option Value) Refusal → Verdict
of_yielded (Ok (Some v)) = accepted
of_yielded (Ok None) = accepted
of_yielded (Err r) = refused r

-- of what the contract says that the call answers
abbrev pub asked : Ask → Verdict
asked (try_new all a b) = of_made (try_new_of all a b)
asked (try_from_values vs) = of_made (try_from_values_of vs)
asked (is_invalid d) = of_told (is_invalid_of d)
asked (size d) = of_counted (size_of d)
asked (is_empty d) = of_told (is_empty_of d)
asked (is_fixed d) = of_told (is_fixed_of d)
asked (fixed_value d) = of_found (fixed_value_of d)
asked (min d) = of_found (min_of d)
asked (max d) = of_found (max_of d)
asked (universe_size d) = of_counted (universe_size_of d)
asked (min_universe d) = of_found (min_universe_of d)
asked (max_universe d) = of_found (max_universe_of d)
asked (get_mask d) = of_masked (get_mask_of d)
asked (save_state d) = of_kept (save_state_of d)
asked (iter d) = of_begun (iter_of d)
asked (contains d v) = of_told (contains_of d v)
asked (is_subset d e) = of_told (is_subset_of d e)
asked (equals d e) = of_told (equals_of d e)
asked (union_mask d e) = of_masked (union_mask_of d e)
asked (left c) = of_counted (left_of c)

abbrev pub changed : Change → Verdict
changed (insert d v) = of_told (insert_of d v).answer
changed (remove d v) = of_told (remove_of d v).answer
changed (remove_all d) = of_outcome (remove_all_of d).answer
changed (close k d v) = of_outcome (close_of k d v).answer
changed (intersect d e) = of_outcome (intersect_of d e).answer
changed (union d e) = of_outcome (union_of d e).answer
changed (remove_by_mask d m) = of_told (remove_by_mask_of d m).answer
changed (restore_mask d m) = of_outcome (restore_mask_of d m).answer
changed (restore_state d s) = of_outcome (restore_state_of d s).answer
changed (next c) = of_yielded (next_of c).answer
changed (to_vec d l) = of_counted (to_vec_of d l).answer
changed (write_text d l) = of_counted (write_text_of d l).answer

-- ---- 01's table: in its order, what must hold, else by which refusal

-- at most 128 values from lo to hi
abbrev pub few : ℤ → ℤ → Bool
few lo hi = leb (span_of lo hi) 128

abbrev pub ask_table : Ask → Verdict
ask_table (try_new all a b) = unless (ordered few a b) TooWide accepted
ask_table (try_from_values vs) = unless (few (smallest_of vs) (largest_of vs)) TooWide accepted
ask_table (is_invalid d) = unless (well d) Broken accepted
ask_table (size d) = unless (well d) Broken accepted
ask_table (is_empty d) = unless (well d) Broken accepted
ask_table (is_fixed d) = unless (well d) Broken accepted
ask_table (fixed_value d) = unless (well d) Broken (unless (single (set_of d)) Empty accepted)
ask_table (min d) = unless (well d) Broken (unless (some (set_of d)) Empty accepted)
ask_table (max d) = unless (well d) Broken (unless (some (set_of d)) Empty accepted)
ask_table (universe_size d) = unless (well d) Broken accepted
ask_table (min_universe d) = unless (well d) Broken accepted
ask_table (max_universe d) = unless (well d) Broken accepted
ask_table (get_mask d) = unless (well d) Broken accepted
ask_table (save_state d) = unless (well d) Broken accepted
ask_table (iter d) = unless (well d) Broken accepted
ask_table (contains d v) = unless (well d) Broken accepted
ask_table (is_subset d e) = unless (well d && well e) Broken accepted
ask_table (equals d e) = unless (well d && well e) Broken accepted
ask_table (union_mask d e) = unless (well d && well e) Broken (unless (same_bounds d e) OtherUniverse accepted)
ask_table (left c) = unless (well_cursor c) Broken accepted

abbrev pub change_table : Change → Verdict
change_table (insert d v) = unless (well d) Broken accepted
change_table (remove d v) = unless (well d) Broken accepted
change_table (remove_all d) = unless (well d) Broken accepted
change_table (close k d v) = unless (well d) Broken accepted
change_table (intersect d e) = unless (well d && well e) Broken (unless (same_bounds d e) OtherUniverse accepted)
change_table (union d e) = unless (well d && well e) Broken (unless (same_bounds d e) OtherUniverse accepted)
change_table (remove_by_mask d m) = unless (well d) Broken accepted
change_table (restore_mask d m) = unless (well d) Broken (unless (fits d m) BadState accepted)
change_table (restore_state d s) = unless (well d) Broken (unless (fits d s.mask) BadState accepted)
change_table (next c) = unless (well_cursor c) Broken accepted
change_table (to_vec d l) = unless (well d) Broken (unless (leb (length (set_of d)) (length l)) NoRoom accepted)
change_table (write_text d l) = unless (well d) Broken (unless (leb (length (text_of (set_of d))) (length l)) NoRoom accepted)

-- ---- what a call was given, and what it hands back

pub data Thing : Type 0 where
  domain : BitDomain → Thing
  cursor : BitCursor → Thing
  cells : List ℤ → Thing
  bytes : List ℕ → Thing

abbrev pub given : Change → Thing
given (insert d v) = domain d
given (remove d v) = domain d
given (remove_all d) = domain d
given (close k d v) = domain d
given (intersect d e) = domain d
given (union d e) = domain d
given (remove_by_mask d m) = domain d
given (restore_mask d m) = domain d
given (restore_state d s) = domain d
given (next c) = cursor c
given (to_vec d l) = cells l
given (write_text d l) = bytes l

abbrev pub handed : Change → Thing
handed (insert d v) = domain (insert_of d v).domain
handed (remove d v) = domain (remove_of d v).domain
handed (remove_all d) = domain (remove_all_of d).domain
handed (close k d v) = domain (close_of k d v).domain
handed (intersect d e) = domain (intersect_of d e).domain
handed (union d e) = domain (union_of d e).domain
handed (remove_by_mask d m) = domain (remove_by_mask_of d m).domain
handed (restore_mask d m) = domain (restore_mask_of d m).domain
handed (restore_state d s) = domain (restore_state_of d s).domain
handed (next c) = cursor (next_of c).cursor
handed (to_vec d l) = cells (to_vec_of d l).cells
handed (write_text d l) = bytes (write_text_of d l).cells
