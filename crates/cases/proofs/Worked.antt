-- The table holds: the bit cases by laws, the sparse ones computed, and those of the pass because the real board plays them as the rules' board does,
-- which is computed too.
use Rattle.std.specs.Prelude.{refl}
use Rattle.offset.specs.Places.{clip, span_of}
use Rattle.order.specs.Order.{swapped, all_b, inverse_b, counted}
use Rattle.decimal.specs.Decimal.{digits, natural, decimal}
use Rattle.rules.specs.Pass.{pass, raises, step1, step2}
use Rattle.rules.specs.Cases.{from, seven, eight, nine, ten, eleven, unjoined}
use Rattle.sparse_inner.specs.Set.{held_b, bounds_b, fits_b, sound_b, verdict_of, is_held, set_of}
use Rattle.sparse_inner.specs.Change.{highest, low_from, lowest, resized, dropped, drop_at, drop_where, alone, only_at}
use Rattle.sparse_make.specs.Calls.{room_for, between_of, new_of, sifted_of, from_values_of}
use Rattle.sparse.specs.Calls.{min_of, max_of, save_of, remove_of, remove_all_but_of, restore_of}
use Rattle.sparse_text.specs.Text.{before, listed, closing, text_of, write_text_of}
use Rattle.cases.specs.Worked.{bits, upper, middle, Worked}
use Rattle.cases.proofs.Bits.{size_is, fixed-is, bits-well, bits-held, upper-well, upper-held, middle-well, middle-held, wide, none_told}
use Rattle.cases.proofs.Board.{plays}

pub worked : Worked
unfolding span_of clip pass raises step1 step2 swapped all_b inverse_b counted digits natural decimal held_b bounds_b fits_b sound_b verdict_of is_held set_of highest low_from lowest resized dropped drop_at drop_where alone only_at room_for between_of new_of sifted_of from_values_of min_of max_of save_of remove_of remove_all_but_of restore_of before listed closing text_of write_text_of
worked = record {
  case-1 = size_is (bits 0 127) (from 128 0) bits-well bits-held;
  case-2 = rw wide none_told;
  case-3 = (size_is upper (from 64 64) upper-well upper-held, fixed-is middle (from 1 64) middle-well middle-held);
  case-4 = refl;
  case-5 = (refl, refl);
  case-6 = (refl, refl, refl, refl);
  case-7 = plays seven tt refl;
  case-8 = plays eight tt refl;
  case-9 = plays nine tt refl;
  case-10 = plays ten tt refl;
  case-11 = plays eleven tt refl;
  beside = plays unjoined tt refl;
}
