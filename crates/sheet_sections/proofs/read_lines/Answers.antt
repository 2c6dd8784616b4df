-- `sheet_sections::read_lines` meets its contract. The invariant: the rows read so far fill the array from the front. Assumes nothing.
use Rattle.std.specs.Prelude.{◌≡◌, ℕ, List, [], ◌∷◌, ◌++◌, length, replicate, set}
use Rattle.std.specs.declared.result.Result.TheVariants.{Ok}
use Rattle.std.proofs.Common.{ap, sym, ◌∙◌, arith}
use Rattle.sheet_form.specs.Held.{filled, held}
use Rattle.sheet_number.specs.Number.{Got, got}
use Rattle.sheet_number.specs.Reader.{each}
use Rattle.sheet_number.specs.Told.{answer}
use Rattle.sheet_number.proofs.Readers.{passed, answer-fault, answer-got}
use Rattle.sheet_sections.proofs.Arrays.{filled_more, sofar-none, sofar-fault, sofar-more, sofar-all}
use Rattle.sheet_sections.proofs.read_lines.Goals as goal

made : {A : Type 0} (n : ℕ) (blank : A) (g : Got (List A)) (rows : List A) (count place : ℕ) (ds : List A) → rows ≡ filled n blank ds → count ≡ length ds → g ≡ got ds place
    → Ok (record { rows = rows; count = count }, place) ≡ answer (held n blank) g
made n blank g rows count place ds e f h = (λ i. Ok (record { rows = e i; count = f i }, place)) ∙ answer-got (held n blank) g ds place h

pub loop-i-init : goal.loop-i-init
unfolding filled
loop-i-init g c =
    let a = c.args in
    ([], sofar-none (λ j. g.T.Line.reader) a.s.now a.at a.count, λ i. replicate g.row.N (c.blank-rows.ensures i))

pub returns-in_err-row : goal.returns-in_err-row
returns-in_err-row g c =
    let e = c.in_err-row.field-0.0 in
    passed c.from_residual.result e c.from_residual.ensures.1
    ∙ answer-fault (held g.row.N g.T.Line.nothing) (each (λ j. g.T.Line.reader) c.args.count c.args.s.now c.args.at) e.fault e.at
    (sofar-fault c.loop-i.invariant.1 (omega arith) e.fault e.at (sym c.in_err-row.ensures))

pub loop-i-preserved : goal.loop-i-preserved
loop-i-preserved g c =
    let l = c.loop-i in
    let v = l.invariant in
    let d = c.in_ok-row.row in (
      v.0 ++ (d ∷ []),
      sofar-more v.1 (omega arith) d c.in_ok-row.e (sym c.in_ok-row.ensures),
      ap (λ (x : List _). set x l.i d) v.2 ∙ filled_more g.row.N g.T.Line.nothing v.0 l.i d v.1.many,
    )

pub returns : goal.returns
returns g c =
    let l = c.loop-i in
    let e = sofar-all l.invariant.1 (omega arith) in
    made g.row.N g.T.Line.nothing (each (λ j. g.T.Line.reader) c.args.count c.args.s.now c.args.at) l.rows c.args.count l.place l.invariant.0 l.invariant.2 e.1 e.0
