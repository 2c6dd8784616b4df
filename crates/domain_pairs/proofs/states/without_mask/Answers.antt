-- `domain_pairs::states::without_mask` meets its contract: striking a mask's bits strikes its values, and changes the mask just where one of them was held. Assumes nothing.
use Rattle.std.specs.Prelude.{◌≡◌, not, eqb, ℕ}
use Rattle.std.specs.declared.result.Result.TheVariants.{Ok}
use Rattle.std.proofs.Common.{rules, ap, ◌∙◌}
use Rattle.mask.specs.Val.{val}
use Rattle.rules.specs.Sets.{Chutes, strike}
use Rattle.domain.specs.Set.{values_of, set_of, holding}
use Rattle.domain.proofs.Checked.{passed}
use Rattle.domain.proofs.Places.{is-holding}
use Rattle.domain_pairs.proofs.Masks.{minus-bits, some-values}
use Rattle.domain_pairs.proofs.states.without_mask.Goals as goal

pub returns : goal.returns
returns c =
    let a = c.args in
    let d = a.d in
    let v = c.minus-left.ensures in
    let m = c.with_mask.ensures in
    let s : Chutes = strike (values_of d.min a.m) (set_of d) in
    let h : c.with_mask.result ≡ holding d s = is-holding d c.with_mask.result s (search rules) m.1 m.2 (ap val m.0 ∙ v ∙ minus-bits d.min d.mask a.m) in
    let t = ap not (c.same.ensures ∙ ap (λ (n : ℕ). eqb n (val d.mask)) v) ∙ some-values d.min d.mask a.m in
    rw (passed d c.in_ok-check.ensures) (λ i. Ok (h i, t i))
