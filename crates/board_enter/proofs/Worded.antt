-- A new board is of words of 64 bits, and a registration leaves such words, on every input.
use Rattle.std.specs.Prelude.{Bool, true, false, cond, ℕ, zero, suc, ◌+◌, eqb, ltb, replicate}
use Rattle.std.proofs.Common.{lit<}
use Rattle.mask.specs.Val.{Fit}
use Rattle.mask.specs.Words.{Words}
use Rattle.rules.specs.Sets.{Chutes}
use Rattle.rules.specs.declared.Refusal.TheVariants.{Broken, Full, TrialOpen}
use Rattle.rules.specs.declared.Variable.{Variable}
use Rattle.rules.specs.declared.Value.{Value}
use Rattle.domain.specs.Calls.{new_of}
use Rattle.domain.specs.declared.BitDomain.{BitDomain}
use Rattle.domain.proofs.Theorems.{new-fit}
use Rattle.domain_values.specs.Calls.{from_values_of}
use Rattle.domain_values.proofs.Theorems.{from-fit}
use Rattle.board.specs.Rows.{row0, nowhere, seat}
use Rattle.board.specs.Well.{well_board}
use Rattle.board.specs.Answers.{done, denied}
use Rattle.board.specs.Worded.{Fitting, Worded}
use Rattle.board.specs.declared.Board.{Board}
use Rattle.board.proofs.WordLaws.{set-fit}
use Rattle.board_enter.specs.Enter.{blank, entered, enter_of}

blank-rows : (n : ℕ) → Fitting (replicate n row0)
blank-rows zero = tt
blank-rows (suc n) = ((lit< tt, (lit< tt, tt)), blank-rows n)

blank-words : (n : ℕ) → Words (replicate n 0)
blank-words zero = tt
blank-words (suc n) = (lit< tt, blank-words n)

pub blank-worded : Worded blank
unfolding blank
blank-worded = record { rows = blank-rows 64; saved = blank-words 1024 }

module _ (b : Board) (id : Variable) (h : Worded b) where
  pub enter-worded : (d : BitDomain) → Fit d.mask → Worded (enter_of b id d).board
  unfolding enter_of
  enter-worded d f = go (well_board b) (eqb b.marks 0) (ltb (seat b id.0) nowhere) (ltb b.count 64)
    where
      lodges : (p n : ℕ) → Worded (entered b id d p n)
      lodges p n = record { rows = set-fit b.rows p (record { id = id; domain = d }) h.rows f; saved = h.saved }

      go : (w x y z : Bool) → Worded (cond w (cond x (cond y (done (entered b id d (seat b id.0) b.count)) (cond z (done (entered b id d b.count (b.count + 1))) (denied b Full))) (denied b TrialOpen)) (denied b Broken)).board
      go true true true z = lodges (seat b id.0) b.count
      go true true false true = lodges b.count (b.count + 1)
      go true true false false = h
      go true false y z = h
      go false x y z = h

  pub add-worded : (lo hi : Value) → Worded (enter_of b id (new_of true lo hi)).board
  add-worded lo hi = enter-worded (new_of true lo hi) (new-fit true lo hi)

  pub add-any-worded : (vs : Chutes) → Worded (enter_of b id (from_values_of vs)).board
  add-any-worded vs = enter-worded (from_values_of vs) (from-fit vs)
