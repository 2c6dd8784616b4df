-- `mask::is_one` meets its contract: a set has one member just where it has a lowest, and none besides. Says nothing of how many words there are. Assumes nothing.
use Rattle.std.specs.Prelude.{◌≡◌, ℕ, eqb}
use Rattle.std.specs.Int.Count.{ones}
use Rattle.std.proofs.Common.{eqb-true, ne_eqb, sym, ap, ◌∙◌, arith}
use Rattle.std.proofs.lemmas.Bool.{eqb-false}
use Rattle.mask.specs.Bit.{pos-of-ne, has-lowest}
use Rattle.mask.specs.Sets.{ones_none, one-test}
use Rattle.mask.specs.Val.{val}
use Rattle.mask.proofs.is_one.Goals as goal

pub returns-then-is_none : goal.returns-then-is_none
returns-then-is_none c =
    let n = val c.args.m in
    let e : ones n ≡ 0 = ap ones (eqb-true n 0 (sym c.is_none.ensures ∙ c.if-is_none.true)) ∙ ones_none in
    sym (ne_eqb (ones n) 1 (λ q. omega arith))

pub rest-requires : goal.rest-requires
rest-requires c =
    let n = val c.args.m in
    pos-of-ne n (eqb-false n 0 (sym c.is_none.ensures ∙ c.if-is_none.false))

pub returns : goal.returns
returns c =
    let s = c.before.before in
    let n = val s.args.m in
    let t = has-lowest n (rest-requires s) in
    c.is_none-2.ensures ∙ ap (λ (x : ℕ). eqb x 0) (c.rest.ensures t.0 t.1) ∙ one-test n t.0 t.1
