-- `wave_print::put_lines` meets its contract: putting what is left where the text ends so far gives what putting all at the start gives. Assumes nothing.
use Rattle.std.specs.Prelude.{◌≡◌, List, ◌++◌, ℕ, ◌+◌, ◌≤◌, ◌<◌, length, get_or}
use Rattle.std.proofs.Common.{sym, ap, ◌∙◌, subst, arith}
use Rattle.decimal.specs.Put.{put_of}
use Rattle.wave_print.specs.Print.{line_text_by}
use Rattle.wave_print.proofs.Pieces.{first-room, rest-room}
use Rattle.wave_print.proofs.Runs.{Said, run_on, lines_left, lines_next, lines_end, put_all}
use Rattle.wave_print.proofs.put_lines.Goals as goal

-- the line that the code has is the next one
next-is : {R : Type 0} (number place : R → ℕ) (lines : List (Said R)) (i : ℕ) (l : Said R) → i < length lines → l ≡ get_or lines i l
    → lines_left number place lines i ≡ line_text_by number place i l ++ lines_left number place lines (i + 1)
next-is number place lines i l h e =
    lines_next number place lines i l h ∙ ap (λ (x : Said _). line_text_by number place i x ++ lines_left number place lines (i + 1)) (sym e)

pub put_line-at-requires : goal.put_line-at-requires
put_line-at-requires g c =
    let t = c.loop-i in
    let lines = c.args.lines.now in
    let number = g.R.Reason.number in
    let place = g.R.Reason.place in
    let asked = subst (λ (x : List ℕ). t.at + length x ≤ length t.out) (next-is number place lines t.i c.index-lines-i.result c.loop-i-test.true c.index-lines-i.is) t.invariant.0 in
    first-room (line_text_by number place t.i c.index-lines-i.result) (lines_left number place lines (t.i + 1)) t.at asked

pub loop-i-preserved : goal.loop-i-preserved
loop-i-preserved g c =
    let t = c.loop-i in
    let lines = c.args.lines.now in
    let number = g.R.Reason.number in
    let place = g.R.Reason.place in
    let line = line_text_by number place t.i c.index-lines-i.result in
    let rest = lines_left number place lines (t.i + 1) in
    let next = next-is number place lines t.i c.index-lines-i.result c.loop-i-test.true c.index-lines-i.is in
    let asked = subst (λ (x : List ℕ). t.at + length x ≤ length t.out) next t.invariant.0 in (
      rest-room line t.out t.at c.put_line-at.ensures rest asked,
      run_on line rest t.out t.at c.put_line-at.ensures ∙ ap (λ (x : List ℕ). put_of x t.out t.at) (sym next) ∙ t.invariant.1,
    )

pub returns : goal.returns
returns g c =
    let t = c.loop-i in
    let e : t.i ≡ length c.args.lines.now = omega arith in
    put_all t.out t.at (lines_end g.R.Reason.number g.R.Reason.place c.args.lines.now t.i e) ∙ t.invariant.1
