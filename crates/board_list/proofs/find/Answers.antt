-- `board_list::find` meets its contract: none of the ids passed, from the last one down, is the one sought. Assumes nothing.
use Rattle.std.specs.Prelude.{◌≡◌, ℕ, ◌+◌, ◌-◌, get_or}
use Rattle.std.proofs.Common.{sym, ap, ◌∙◌, arith}
use Rattle.board.specs.Rows.{seat_in}
use Rattle.board.proofs.Seats.{seat-hit, seat-miss}
use Rattle.board_list.proofs.find.Goals as goal

pub returns-then-ids-i : goal.returns-then-ids-i
returns-then-ids-i c =
    let a = c.args in
    let f : ℕ → ℕ = λ j. get_or a.ids.now j 0 in
    let j = c.loop-i.i - 1 in
    let e : c.loop-i.i ≡ j + 1 = omega arith in
    sym (seat-hit f j a.id c.if-ids-i.true) ∙ ap (λ (n : ℕ). seat_in f n a.id) (sym e) ∙ c.loop-i.invariant

pub loop-i-preserved : goal.loop-i-preserved
loop-i-preserved c =
    let a = c.args in
    let f : ℕ → ℕ = λ j. get_or a.ids.now j 0 in
    let j = c.loop-i.i - 1 in
    let e : c.loop-i.i ≡ j + 1 = omega arith in
    sym (seat-miss f j a.id c.if-ids-i.false) ∙ ap (λ (n : ℕ). seat_in f n a.id) (sym e) ∙ c.loop-i.invariant
