-- The library's calls on a board in lent words: where the by-value call is refused, or the words are no board's, every word is as it came.
use Rattle.std.specs.Prelude.{◌≡◌, List, ◌++◌, ℕ, ltb, length, drop}
use Rattle.std.proofs.Common.{ap, ◌∙◌, ltb-false}
use Rattle.rules.specs.Board as rules
use Rattle.rules.specs.declared.Refusal.{Refusal}
use Rattle.board.specs.Well.{well_board}
use Rattle.board.specs.declared.Board.{Board}
use Rattle.saved.proofs.UptoLaws.{and-says}
use Rattle.state.specs.Layout.{size, fits_of, read_of, written_of}
use Rattle.state.specs.Typed.{Words}
use Rattle.state.proofs.Theorems.{written_back}
use Rattle.reply.specs.Lent.{through as lending}
use Rattle.reply.specs.Through.{good, lent_to, Reply, through}
use Rattle.demand.specs.Script.{Made, board_of, answer_of}
use Rattle.refusals.proofs.Reading.{split}
use Rattle.refusals.proofs.Boards.{refused-same}

-- the by-value call m, as the library makes it
abbrev pub reply_of : Made → Board → Reply
reply_of m b = record { state = board_of m b; answer = answer_of m b }

pub words_same : (m : Made) (ws : List ℕ) → Words ws → (r : Refusal) → lent_to ws (λ a. a) (answer_of m) ≡ rules.denied r → (through (reply_of m) ws).cells ≡ ws
unfolding lending
words_same m ws fit r e =
    split (ltb (length ws) size)
    (λ few. rw few)
    (λ few. split (good ws)
    (λ g. rw (few, g)
    (ap (λ (b : Board). written_of b ++ drop size ws) (refused-same m (read_of ws) r (rw (few, g) at e))
    ∙ written_back ws (ltb-false (length ws) size few) fit (and-says (fits_of ws) (well_board (read_of ws)) g).0))
    (λ g. rw (few, g)))
