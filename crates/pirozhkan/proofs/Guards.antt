-- Each by-value call hands a board that isn't well formed back as it came, and refuses it by number 1. Assumes nothing.
use Rattle.std.specs.Prelude.{◌≡◌, false, List, ℕ, ℤ}
use Rattle.rules.specs.Board as rules
use Rattle.rules.specs.declared.Refusal.TheVariants.{Broken}
use Rattle.board.specs.Well.{well_board}
use Rattle.board.specs.declared.Board.{Board}
use Rattle.board_enter.specs.Enter.{enter_of}
use Rattle.board_close.specs.Close.{close_of, reset_of, changed_of}
use Rattle.board_ask.specs.Names.{ids_into_of}
use Rattle.board_ask.specs.Questions.{domain_size_of, is_assigned_of, assigned_value_of, is_inconsistent_of, get_bounds_of, get_into_of}
use Rattle.board_ask.specs.Ready.{ready_of}
use Rattle.board_spread.specs.Spread.{spread_of}
use Rattle.trial.specs.Marks.{mark_of, restore_of, keep_of}
use Rattle.reply.specs.Told.{coded}
use Rattle.reply.specs.Through.{left, Guarded, Refuses}
use Rattle.pirozhkan.specs.Calls.{ranging, listing, closing, resetting, spreading, marking, restoring, keeping, whether_ready, sizing, whether_assigned, assigned_to, whether_inconsistent, whether_changed, bounds_into, values_into, ids_into}

-- ---- calls that change the board

pub ranging-guarded : (id : ℕ) (min max : ℤ) → Guarded (ranging id min max)
unfolding enter_of
ranging-guarded id min max b e = rw e

pub listing-guarded : (id : ℕ) (values : List ℤ) → Guarded (listing id values)
unfolding enter_of
listing-guarded id values b e = rw e

pub closing-guarded : (k : rules.Kind) (id : ℕ) (v : ℤ) → Guarded (closing k id v)
unfolding close_of
closing-guarded k id v b e = rw e

pub resetting-guarded : Guarded resetting
unfolding reset_of
resetting-guarded b e = rw e

pub spreading-guarded : (is : List ℕ) → Guarded (spreading is)
unfolding spread_of
spreading-guarded is b e = rw e

pub marking-guarded : Guarded marking
unfolding mark_of
marking-guarded b e = rw e

pub restoring-guarded : Guarded restoring
unfolding restore_of
restoring-guarded b e = rw e

pub keeping-guarded : Guarded keeping
unfolding keep_of
keeping-guarded b e = rw e

-- ---- questions

pub ready-refuses : (is : List ℕ) → Refuses (whether_ready is)
unfolding ready_of
ready-refuses is b e = rw e

pub size-refuses : (id : ℕ) → Refuses (sizing id)
unfolding domain_size_of
size-refuses id b e = rw e

pub assigned-refuses : (id : ℕ) → Refuses (whether_assigned id)
unfolding is_assigned_of
assigned-refuses id b e = rw e

pub value-refuses : (id : ℕ) → Refuses (assigned_to id)
unfolding assigned_value_of
value-refuses id b e = rw e

pub inconsistent-refuses : (id : ℕ) → Refuses (whether_inconsistent id)
unfolding is_inconsistent_of
inconsistent-refuses id b e = rw e

pub changed-refuses : Refuses whether_changed
unfolding changed_of
changed-refuses b e = rw e

pub bounds-refuses : (id : ℕ) (cells : List ℤ) (b : Board) → well_board b ≡ false → bounds_into id cells b ≡ left (coded (rules.denied Broken)) cells
unfolding get_bounds_of
bounds-refuses id cells b e = rw e

pub values-refuses : (id : ℕ) (cells : List ℤ) (b : Board) → well_board b ≡ false → values_into id cells b ≡ left (coded (rules.denied Broken)) cells
unfolding get_into_of
values-refuses id cells b e = rw e

pub ids-refuses : (cells : List ℕ) (b : Board) → well_board b ≡ false → ids_into cells b ≡ left (coded (rules.denied Broken)) cells
unfolding ids_into_of
ids-refuses cells b e = rw e
