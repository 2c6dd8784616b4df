-- `pirozhkan::make::pirozhkan_new` meets its contract: an empty board is written, if there is room. Assumes nothing.
use Rattle.std.specs.Prelude.{◌++◌, ℕ, drop}
use Rattle.std.proofs.Common.{ap, ◌∙◌}
use Rattle.board.specs.declared.Board.{Board}
use Rattle.board_enter.specs.Enter.{blank}
use Rattle.state.specs.Layout.{size, written_of}
use Rattle.reply.specs.Told.{coded}
use Rattle.reply.specs.Through.{left}
use Rattle.reply.proofs.ThroughLaws.{begun-short, begun-long}
use Rattle.pirozhkan.proofs.make.pirozhkan_new.Goals as goal

pub returns-then-ws-lt-WORDS : goal.returns-then-ws-lt-WORDS
unfolding coded
returns-then-ws-lt-WORDS c = ap (λ (n : ℕ). left n c.args.ws.now) c.refusal.ensures ∙ begun-short blank c.args.ws.now c.if-ws-lt-WORDS.true

pub returns : goal.returns
returns c =
    let a = c.args in
    begun-long blank a.ws.now c.write.new.ws c.if-ws-lt-WORDS.false (c.write.ensures ∙ ap (λ (b : Board). written_of b ++ drop size a.ws.now) c.new.ensures)
