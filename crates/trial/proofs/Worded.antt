-- Mark, restore and keep leave words of 64 bits, on every input: they move whole masks.
use Rattle.std.specs.Prelude.{Bool, true, false, cond, List, ℕ, zero, suc, ◌-◌, ltb}
use Rattle.mask.specs.Words.{Words}
use Rattle.rules.specs.declared.Refusal.{Refusal}
use Rattle.rules.specs.declared.Refusal.TheVariants.{Broken, TooDeep, NoMark}
use Rattle.saved.specs.Saved.{saved_at}
use Rattle.saved.proofs.SavedLaws.{put-words, saved-fit}
use Rattle.board.specs.Rows.{domain_at}
use Rattle.board.specs.Well.{well_board}
use Rattle.board.specs.Answers.{done, denied}
use Rattle.board.specs.Worded.{Fitting, Worded}
use Rattle.board.specs.declared.Row.{Row}
use Rattle.board.specs.declared.Board.{Board}
use Rattle.board.proofs.WordLaws.{fit_at, with-fit}
use Rattle.trial.specs.Marks.{saving, masked, bringing, marked, restored, released, mark_of, restore_of, keep_of}

saving-words : (rows : List Row) (m n : ℕ) (ws : List ℕ) → Fitting rows → Words ws → Words (saving rows m n ws)
saving-words rows m zero ws f h = h
saving-words rows m (suc n) ws f h = put-words (saving rows m n ws) m n (domain_at rows n).mask (saving-words rows m n ws f h) (fit_at rows n f)

bringing-fit : (ws : List ℕ) (m n : ℕ) (rows : List Row) → Words ws → Fitting rows → Fitting (bringing ws m n rows)
bringing-fit ws m zero rows h f = f
bringing-fit ws m (suc n) rows h f =
    let now = bringing ws m n rows in
    with-fit now n (masked (domain_at now n) (saved_at ws m n)) (bringing-fit ws m n rows h f) (saved-fit ws m n h)

-- what a call's accepted board has, and the board that it was given, it hands back however it answers
either : (b c : Board) (r : Refusal) → Worded b → Worded c → (x y : Bool) → Worded (cond x (cond y (done c) (denied b r)) (denied b Broken)).board
either b c r h k true true = k
either b c r h k true false = h
either b c r h k false y = h

module _ (b : Board) (h : Worded b) where
  pub mark-worded : Worded (mark_of b).board
  unfolding mark_of
  mark-worded = either b (marked b) TooDeep h (record { rows = h.rows; saved = saving-words b.rows b.marks b.count b.saved h.rows h.saved }) (well_board b) (ltb b.marks 8)

  pub restore-worded : Worded (restore_of b).board
  unfolding restore_of
  restore-worded = either b (restored b) NoMark h (record { rows = bringing-fit b.saved (b.marks - 1) b.count b.rows h.saved h.rows; saved = h.saved }) (well_board b) (ltb 0 b.marks)

  pub keep-worded : Worded (keep_of b).board
  unfolding keep_of
  keep-worded = either b (released b) NoMark h (record { rows = h.rows; saved = h.saved }) (well_board b) (ltb 0 b.marks)
