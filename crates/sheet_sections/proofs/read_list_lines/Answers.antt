-- `sheet_sections::read_list_lines` meets its contract. The invariant: the lists read so far lie in one run, where their spans say, and what
-- all the lines give is these and what the lines to come give. Assumes nothing.
use Rattle.std.specs.Prelude.{ℕ, ◌≤◌, ◌+◌, ◌*◌, ◌≡◌, refl, List, [], ◌∷◌, ◌++◌, length, set, Result}
use Rattle.std.proofs.Common.{ap, ap₂, sym, ◌∙◌, arith, length-append}
use Rattle.std.proofs.lemmas.List.Edits.{sets}
use Rattle.sheet_form.specs.declared.Span.{Span}
use Rattle.sheet_form.specs.Held.{filled, joined, spans, no_span}
use Rattle.std.specs.declared.result.Result.TheVariants.{Ok}
use Rattle.sheet_number.proofs.Readers.{passed}
use Rattle.sheet_number.specs.declared.Stop.{Stop}
use Rattle.sheet_sections.specs.Sections.{listed, list}
use Rattle.sheet_sections.specs.Rows.{lists_of}
use Rattle.sheet_sections.specs.declared.Lists.{Lists}
use Rattle.sheet_sections.proofs.Arrays.{filled_more, each-length, sofar-none, sofar-fault, sofar-more, sofar-all}
use Rattle.sheet_sections.proofs.OneRun.{count-few, list-fault, list-got, stored_at, stored-bad, filled-append, joined_snoc, spans-snoc, spans-length, span_at}
use Rattle.sheet_sections.proofs.read_list_lines.Goals as goal

abbrev made : List Span → ℕ → List ℕ → ℕ → Result (Lists × ℕ) Stop
made r n ids e = Ok (record { spans = record { rows = r; count = n }; ids = ids }, e)

pub loop-i-init : goal.loop-i-init
unfolding filled joined spans
loop-i-init c =
    let a = c.args in
    ([], sofar-none (λ j. list) a.s.now a.at a.count, refl, omega arith, refl, refl)

pub returns-in_err-n : goal.returns-in_err-n
returns-in_err-n c =
    let l = c.loop-i in
    let e = c.in_err-n.field-0.0 in
    passed c.from_residual.result e c.from_residual.ensures.1
    ∙ ap lists_of (sym (sofar-fault l.invariant.1 (omega arith) e.fault e.at (list-fault c.args.s.now l.place e.fault e.at (sym c.in_err-n.ensures))))

pub read_ids-requires : goal.read_ids-requires
read_ids-requires c =
    let l = c.loop-i in
    let a = c.args in
    let s = a.s.now in
    let v = l.invariant in
    let q = sym c.in_ok-n.ensures in
    let m = count-few s l.place c.in_ok-n.n c.in_ok-n.e q in
    omega (arith, v.3)

pub returns-in_err-place : goal.returns-in_err-place
returns-in_err-place c =
    let l = c.loop-i in
    let s = c.args.s.now in
    let e = c.in_err-place.field-0.0 in
    let r = stored-bad c.in_ok-n.n s c.in_ok-n.e l.ids l.used _ e c.in_err-place.ensures in
    passed c.from_residual-in_err-place.result e c.from_residual-in_err-place.ensures.1
    ∙ ap lists_of (sym (sofar-fault l.invariant.1 (omega arith) e.fault e.at (list-got s l.place c.in_ok-n.n c.in_ok-n.e (sym c.in_ok-n.ensures) ∙ r)))

pub overflow_add-used : goal.overflow_add-used
overflow_add-used c =
    let l = c.loop-i in
    let a = c.args in
    let s = a.s.now in
    let v = l.invariant in
    let q = sym c.in_ok-n.ensures in
    let m = count-few s l.place c.in_ok-n.n c.in_ok-n.e q in
    omega (arith, v.3)

pub loop-i-preserved : goal.loop-i-preserved
loop-i-preserved c =
    let l = c.loop-i in
    let a = c.args in
    let s = a.s.now in
    let v = l.invariant in
    let q = sym c.in_ok-n.ensures in
    let m = count-few s l.place c.in_ok-n.n c.in_ok-n.e q in
    let r = stored_at c.in_ok-n.n s c.in_ok-n.e l.ids l.used _ c.in_ok-place.place c.in_ok-place.ensures in
    let x = r.0 in
    let n : length x ≡ c.in_ok-n.n = each-length listed c.in_ok-n.n s c.in_ok-n.e x c.in_ok-place.place r.1 in
    let u : l.used ≡ 0 + length (joined v.0) = omega (arith, v.2) in
    let j = joined_snoc v.0 x in
    let y : l.used + c.in_ok-n.n ≡ length (joined (v.0 ++ (x ∷ []))) = omega (arith, ap length j, length-append (joined v.0) x, n, v.2) in
    let z : l.used + c.in_ok-n.n ≤ 64 * (l.i + 1) = omega (arith, v.3) in (
      v.0 ++ (x ∷ []),
      sofar-more v.1 (omega arith) x c.in_ok-place.place (list-got s l.place c.in_ok-n.n c.in_ok-n.e q ∙ r.1),
      y,
      z,
      ap₂ (λ (t : List Span) (w : Span). set t l.i w) v.4 (ap₂ span_at u (sym n))
          ∙ filled_more 16 no_span (spans 0 v.0) l.i (span_at (0 + length (joined v.0)) (length x)) (spans-length v.0 0 ∙ v.1.many)
          ∙ ap (filled 16 no_span) (sym (spans-snoc v.0 x 0)),
      r.2 ∙ ap (λ (t : List ℕ). sets t l.used x) v.5 ∙ filled-append 1024 0 (joined v.0) x l.used v.2 ∙ ap (filled 1024 0) (sym j),
    )

pub returns : goal.returns
returns c =
    let l = c.loop-i in
    let v = l.invariant in
    let e = sofar-all v.1 (omega arith) in
    ap₂ (λ (r : List Span) (k : ℕ). made r k l.ids l.place) v.4 e.1
    ∙ ap (λ (x : List ℕ). made (filled 16 no_span (spans 0 v.0)) (length v.0) x l.place) v.5
    ∙ ap lists_of (sym e.0)
