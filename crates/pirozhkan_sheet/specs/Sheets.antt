-- The text of a wave sheet's board in lent bytes.
use Rattle.std.specs.Prelude.{List, ℕ}
use Rattle.domain_text.specs.Text.{Written}
use Rattle.board_ask.specs.Answers.{count_of}
use Rattle.reply.specs.Told.{coded}
use Rattle.reply.specs.Through.{Left, left}

abbrev pub texted : Written → Left (List ℕ)
texted w = left (coded (count_of w.answer)) w.cells
