-- The calls on sparse sets: what each answers as a verdict, what it hands back, and 01's table for it.
use Rattle.std.specs.Prelude.{Bool, not, ◌&&◌, cond, List, eqb, leb, ℤ, length, ℕ, Result, Option}
use Rattle.std.specs.declared.result.Result.TheVariants.{Ok, Err}
use Rattle.std.specs.declared.option.Option.TheVariants.{None, Some}
use Rattle.rules.specs.declared.Refusal.{Refusal}
use Rattle.sparse_inner.specs.declared.Sparse.{Sparse}
use Rattle.std.specs.Int.Signed.{lt_z}
use Rattle.ends.specs.Ends.{smallest_of, largest_of}
use Rattle.offset.specs.Places.{span_of}
use Rattle.rules.specs.Sets.{Chutes, some}
use Rattle.rules.specs.Board.{Verdict, accepted, refused, unless}
use Rattle.rules.specs.declared.Refusal.TheVariants.{Broken, TooWide, Short, Empty, BadState, NoRoom}
use Rattle.rules.specs.declared.Value.{Value}
use Rattle.sparse_inner.specs.declared.SparseState.{SparseState}
use Rattle.sparse_inner.specs.Set.{Full, fits_b, narrow_b, room_b, sound_b}
use Rattle.sparse.specs.Calls.{size_of, is_empty_of, is_fixed_of, contains_of, min_of, max_of, first_of, last_of, universe_size_of, min_universe_of, max_universe_of, complement_size_of, use_complement_of, save_of, remove_of, remove_all_of, remove_all_but_of, remove_below_of, remove_above_of, restore_of}
use Rattle.sparse_make.specs.Calls.{new_of, new_unchecked_of, from_values_of}
use Rattle.sparse_pairs.specs.Calls.{part_of, union_of, is_subset_of, equals_of}
use Rattle.sparse_values.specs.declared.HeldCursor.{HeldCursor}
use Rattle.sparse_values.specs.declared.ComplementCursor.{ComplementCursor}
use Rattle.sparse_values.specs.Calls.{next_of, complement_next_of, to_vec_of}
use Rattle.sparse_text.specs.Text.{text_of, write_text_of}

-- ---- the calls, with what each is given

-- `size` is current_size too. iter and complement_iter give a cursor's start, and have no refusal
pub data Ask : Type 0 where
  size is_empty is_fixed min max first last universe_size min_universe max_universe complement_size use_complement save : Full → Ask
  contains : Full → Value → Ask
  is_subset equals : Full → Full → Ask

-- those that hand back a state or a cursor, or write lent cells. `part false` is intersect_with, `part true` diff_with
pub data Change : Type 0 where
  remove remove_all_but remove_below remove_above : Full → Value → Change
  remove_all : Full → Change
  restore : Full → SparseState → Change
  part : Bool → Full → Full → List ℤ → Change
  union : Full → Full → Change
  next : Full → HeldCursor → Change
  complement_next : Full → ComplementCursor → Change
  to_vec : Full → List ℤ → Change
  write_text : Full → List ℕ → Change
  new new_unchecked : Value → Value → List ℕ → List ℕ → Change
  from_values : Chutes → List ℕ → List ℕ → Change

-- ---- whether an answer is a refusal, and which

abbrev pub of_made : Result Sparse Refusal → Verdict
of_made (Ok s) = accepted
of_made (Err r) = refused r

abbrev pub of_told : Result Bool Refusal → Verdict
of_told (Ok y) = accepted
of_told (Err r) = refused r

abbrev pub of_counted : Result ℕ Refusal → Verdict
of_counted (Ok n) = accepted
of_counted (Err r) = refused r

abbrev pub of_found : Result Value Refusal → Verdict
of_found (Ok v) = accepted
of_found (Err r) = refused r

abbrev pub of_outcome : Result Unit Refusal → Verdict
of_outcome (Ok tt) = accepted
of_outcome (Err r) = refused r

abbrev pub of_kept : Result SparseState Refusal → Verdict
of_kept (Ok s) = accepted
of_kept (Err r) = refused r

abbrev pub of_yielded : Result (Option Value) Refusal → Verdict
of_yielded (Ok (Some v)) = accepted
of_yielded (Ok None) = accepted
of_yielded (Err r) = refused r

-- of what the contract says that the call answers
abbrev pub asked : Ask → Verdict
asked (size f) = of_counted (size_of f)
asked (is_empty f) = of_told (is_empty_of f)
asked (is_fixed f) = of_told (is_fixed_of f)
asked (min f) = of_found (min_of f)
asked (max f) = of_found (max_of f)
asked (first f) = of_found (first_of f)
asked (last f) = of_found (last_of f)
asked (universe_size f) = of_counted (universe_size_of f)
asked (min_universe f) = of_found (min_universe_of f)
asked (max_universe f) = of_found (max_universe_of f)
asked (complement_size f) = of_counted (complement_size_of f)
asked (use_complement f) = of_told (use_complement_of f)
asked (save f) = of_kept (save_of f)
asked (contains f v) = of_told (contains_of f v)
asked (is_subset f g) = of_told (is_subset_of f g)
asked (equals f g) = of_told (equals_of f g)

abbrev pub changed : Change → Verdict
changed (remove f v) = of_told (remove_of f v).answer
changed (remove_all_but f v) = of_outcome (remove_all_but_of f v).answer
changed (remove_below f v) = of_outcome (remove_below_of f v).answer
changed (remove_above f v) = of_outcome (remove_above_of f v).answer
changed (remove_all f) = of_outcome (remove_all_of f).answer
changed (restore f t) = of_outcome (restore_of f t).answer
changed (part want f g l) = of_outcome (part_of f g want l).answer
changed (union f g) = of_outcome (union_of f g).answer
changed (next f c) = of_yielded (next_of f c).answer
changed (complement_next f c) = of_yielded (complement_next_of f c).answer
changed (to_vec f l) = of_counted (to_vec_of f l).answer
changed (write_text f l) = of_counted (write_text_of f l).answer
changed (new a b ind val) = of_made (new_of a b ind val).answer
changed (new_unchecked a b ind val) = of_made (new_unchecked_of a b ind val).answer
changed (from_values vs ind val) = of_made (from_values_of vs ind val).answer

-- ---- 01's table: in its order, what must hold, else by which refusal

-- 9, 10, 1, and then v
abbrev pub checked : Full → Verdict → Verdict
checked f v = unless (narrow_b f) TooWide (unless (room_b f) Short (unless (sound_b f) Broken v))

-- of two sets, if either is concerned
abbrev pub both_checked : Full → Full → Verdict → Verdict
both_checked f g v = unless (narrow_b f && narrow_b g) TooWide (unless (room_b f && room_b g) Short (unless (sound_b f && sound_b g) Broken v))

-- a universe of n values: 9, then 10
abbrev pub roomy : ℕ → List ℕ → List ℕ → Verdict
roomy n ind val = unless (leb n 4096) TooWide (unless (leb n (length ind) && leb n (length val)) Short accepted)

-- something is held; there is a universe
abbrev pub holding : Full → Bool
holding f = not (eqb f.set.size 0)

abbrev pub ask_table : Ask → Verdict
ask_table (size f) = checked f accepted
ask_table (is_empty f) = checked f accepted
ask_table (is_fixed f) = checked f accepted
ask_table (min f) = checked f (unless (holding f) Empty accepted)
ask_table (max f) = checked f (unless (holding f) Empty accepted)
ask_table (first f) = checked f (unless (holding f) Empty accepted)
ask_table (last f) = checked f (unless (holding f) Empty accepted)
ask_table (universe_size f) = checked f accepted
ask_table (min_universe f) = checked f accepted
ask_table (max_universe f) = checked f (unless (not (eqb f.set.n 0)) Empty accepted)
ask_table (complement_size f) = checked f accepted
ask_table (use_complement f) = checked f accepted
ask_table (save f) = checked f accepted
ask_table (contains f v) = checked f accepted
ask_table (is_subset f g) = both_checked f g accepted
ask_table (equals f g) = both_checked f g accepted

abbrev pub change_table : Change → Verdict
change_table (remove f v) = checked f accepted
change_table (remove_all_but f v) = checked f accepted
change_table (remove_below f v) = checked f accepted
change_table (remove_above f v) = checked f accepted
change_table (remove_all f) = checked f accepted
change_table (restore f t) = checked f (unless (fits_b f.ind f.val f.set.n t) BadState accepted)
change_table (part want f g l) = both_checked f g (unless (leb f.set.size (length l)) NoRoom accepted)
change_table (union f g) = both_checked f g accepted
change_table (next f c) = checked f accepted
change_table (complement_next f c) = checked f accepted
change_table (to_vec f l) = checked f (unless (leb f.set.size (length l)) NoRoom accepted)
change_table (write_text f l) = checked f (unless (leb (length (text_of f)) (length l)) NoRoom accepted)
change_table (new a b ind val) = roomy (cond (lt_z b.0 a.0) (span_of b.0 a.0) (span_of a.0 b.0)) ind val
change_table (new_unchecked a b ind val) = roomy (span_of a.0 b.0) ind val
change_table (from_values vs ind val) = roomy (cond (some vs) (span_of (smallest_of vs) (largest_of vs)) 0) ind val

-- ---- what a call was given, and what it hands back

pub data Thing : Type 0 where
  set : Full → Thing
  parts : Full → List ℤ → Thing
  held : HeldCursor → Thing
  others : ComplementCursor → Thing
  cells : List ℤ → Thing
  bytes : List ℕ → Thing
  orderings : List ℕ → List ℕ → Thing

abbrev pub given : Change → Thing
given (remove f v) = set f
given (remove_all_but f v) = set f
given (remove_below f v) = set f
given (remove_above f v) = set f
given (remove_all f) = set f
given (restore f t) = set f
given (part want f g l) = parts f l
given (union f g) = set f
given (next f c) = held c
given (complement_next f c) = others c
given (to_vec f l) = cells l
given (write_text f l) = bytes l
given (new a b ind val) = orderings ind val
given (new_unchecked a b ind val) = orderings ind val
given (from_values vs ind val) = orderings ind val

abbrev pub handed : Change → Thing
handed (remove f v) = set (remove_of f v).left
handed (remove_all_but f v) = set (remove_all_but_of f v).left
handed (remove_below f v) = set (remove_below_of f v).left
handed (remove_above f v) = set (remove_above_of f v).left
handed (remove_all f) = set (remove_all_of f).left
handed (restore f t) = set (restore_of f t).left
handed (part want f g l) = parts (part_of f g want l).left (part_of f g want l).scratch
handed (union f g) = set (union_of f g).left
handed (next f c) = held (next_of f c).cursor
handed (complement_next f c) = others (complement_next_of f c).cursor
handed (to_vec f l) = cells (to_vec_of f l).cells
handed (write_text f l) = bytes (write_text_of f l).bytes
handed (new a b ind val) = orderings (new_of a b ind val).ind (new_of a b ind val).val
handed (new_unchecked a b ind val) = orderings (new_unchecked_of a b ind val).ind (new_unchecked_of a b ind val).val
handed (from_values vs ind val) = orderings (from_values_of vs ind val).ind (from_values_of vs ind val).val
