-- `wave::put_ran` meets its contract: the rows and answers that the counts tell are lent.
use Rattle.std.specs.Prelude.{◌≡◌, length, take}
use Rattle.std.proofs.Common.{ap, ◌∙◌, arith, rules}
use Rattle.decimal.specs.Put.{put_of}
use Rattle.rules.specs.Board as rules·of
use Rattle.board.proofs.ViewLaws.{mapped}
use Rattle.wave_print.specs.Print.{printed}
use Rattle.wave.proofs.Writing.{rows_front}
use Rattle.wave.proofs.put_ran.Goals as goal

pub put_board-requires : goal.put_board-requires
put_board-requires c =
    let ran = c.args.ran in
    let n : length ran.rows ≡ 64 = search (rules, mapped) in
    let e = rows_front ran.rows ran.count (omega arith) in
    omega (arith, ap (λ (rs : rules·of.Rows). length (printed rs (take ran.ln ran.lines))) e)

pub returns : goal.returns
returns c =
    let ran = c.args.ran in
    let n : length ran.rows ≡ 64 = search (rules, mapped) in
    c.put_board.ensures ∙ ap (λ (rs : rules·of.Rows). put_of (printed rs (take ran.ln ran.lines)) c.args.out.now 0) (rows_front ran.rows ran.count (omega arith))
