-- `domain_values::cursor::next` meets its contract: the lowest offset's value is the first that is left, and the mask without it is the
-- mask of the others. Assumes nothing.
use Rattle.std.specs.Prelude.{◌≡◌, ℤ, pos, ◌+ℤ◌, not}
use Rattle.std.specs.declared.result.Result.TheVariants.{Ok}
use Rattle.std.specs.declared.option.Option.TheVariants.{Some}
use Rattle.std.proofs.Common.{sym, ap, ◌∙◌, SFits, to_z, of_z, eqb-true, rules}
use Rattle.std.specs.Int.{w32}
use Rattle.std.proofs.lemmas.Bool.{not-false, eqb-false}
use Rattle.mask.specs.Bit.{pos-of-ne}
use Rattle.mask.specs.Val.{val, Fit}
use Rattle.domain.proofs.Signed.{read}
use Rattle.domain_values.proofs.Walk.{value-fits, next-end, next_more}
use Rattle.domain_values.proofs.cursor.next.Goals as goal

pub returns-then-is_none : goal.returns-then-is_none
returns-then-is_none c =
    let a = c.args.c in
    next-end a (sym c.is_well.ensures ∙ not-false c.is_well.result (ap not c.if-not-is_well.false)) (eqb-true (val a.mask) 0 (sym c.is_none.ensures ∙ c.if-is_none.true))

pub lowest-requires : goal.lowest-requires
lowest-requires c =
    let m = c.args.c.mask in
    pos-of-ne (val m) (eqb-false (val m) 0 (sym c.is_none.ensures ∙ c.if-is_none.false))

pub value-requires : goal.value-requires
value-requires c =
    let a = c.args.c in
    let f : SFits w32 a.min = search rules in
    let w = sym c.is_well.ensures ∙ not-false c.is_well.result (ap not c.if-not-is_well.false) in
    rw (read a.min f) (value-fits a w f c.lowest.result c.lowest.ensures.0.set)

pub returns : goal.returns
returns c =
    let a = c.args.c in
    let k = c.lowest.result in
    let r = c.rest-mask in
    let f : SFits w32 a.min = search rules in
    let g : Fit r.result = search rules in
    let w = sym c.is_well.ensures ∙ not-false c.is_well.result (ap not c.if-not-is_well.false) in
    let at : c.value.result ≡ a.min +ℤ pos k = c.value.ensures ∙ ap (λ (z : ℤ). z +ℤ pos k) (read a.min f) in
    let z : to_z w32 (of_z w32 c.value.result) ≡ a.min +ℤ pos k = ap (λ (z : ℤ). to_z w32 (of_z w32 z)) at ∙ read (a.min +ℤ pos k) (value-fits a w f k c.lowest.ensures.0.set) in
    (λ i. record { cursor = record { mask = r.result; min = read a.min f i }; answer = Ok (Some (record { 0 = z i })) })
    ∙ next_more a w k r.result c.lowest.ensures.0 g (r.ensures k c.lowest.ensures.0)
