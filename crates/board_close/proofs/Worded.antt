-- A closing and the flag's reset leave words of 64 bits, on every input: the mask of the row that is closed is made of them, and no other word changes.
use Rattle.std.specs.Prelude.{Bool, true, false, cond, ltb}
use Rattle.mask.specs.Val.{mask-fit}
use Rattle.rules.specs.Sets.{keep}
use Rattle.rules.specs.Board as rules
use Rattle.rules.specs.declared.Refusal.TheVariants.{Broken}
use Rattle.rules.specs.declared.Variable.{Variable}
use Rattle.rules.specs.declared.Value.{Value}
use Rattle.domain.specs.Set.{set_of, bits_of}
use Rattle.domain.specs.declared.BitDomain.{BitDomain}
use Rattle.board.specs.Rows.{domain_at, nowhere, seat, with_rows}
use Rattle.board.specs.Well.{well_board}
use Rattle.board.specs.Answers.{said, unsaid, done, denied}
use Rattle.board.specs.Worded.{Worded}
use Rattle.board.specs.declared.Board.{Board}
use Rattle.board.proofs.WordLaws.{with-fit}
use Rattle.board_close.specs.Close.{left, close_at, close_of, reset_of}

pub close-worded : (k : rules.Kind) (b : Board) (id : Variable) (v : Value) → Worded b → Worded (close_of k b id v).board
unfolding close_of
close-worded k b id v h = go (well_board b) (ltb (seat b id.0) nowhere)
  where
    d : BitDomain
    d = domain_at b.rows (seat b id.0)

    go : (x y : Bool) → Worded (cond x (cond y (close_at k b v.0 (seat b id.0)) (said b false)) (unsaid b Broken)).board
    go true true = record {
      rows = with-fit b.rows (seat b id.0) (left k v.0 d) h.rows (mask-fit (bits_of d.min (keep (rules.leaves k v.0) (set_of d))));
      saved = h.saved;
    }
    go true false = h
    go false y = h

pub reset-worded : (b : Board) → Worded b → Worded (reset_of b).board
unfolding reset_of
reset-worded b h = go (well_board b)
  where
    go : (x : Bool) → Worded (cond x (done (with_rows b b.rows false)) (denied b Broken)).board
    go true = record { rows = h.rows; saved = h.saved }
    go false = h
