-- `batch_runs::judge` meets its contract: the place that it finds is that of the first number that is no kind. Assumes nothing.
use Rattle.std.specs.Prelude.{◌≡◌, true, false, ◌+◌, length}
use Rattle.std.proofs.Common.{◌∙◌, arith, rules}
use Rattle.std.proofs.option.Match.{if_some, if_none}
use Rattle.std.proofs.lemmas.Iterator.{IsFirst-from_position, YieldsList-from_slice}
use Rattle.std.specs.List.{AllWithin}
use borrow.Author.Tests.{tests}
use Rattle.batch_runs.specs.Runs.{is_kind}
use Rattle.batch_runs.proofs.RunLaws.{form-ids, form-values, form-long, form-kinds, kinds-all, kinds-first}
use Rattle.batch_runs.proofs.judge.Goals as goal
use Rattle.batch_runs.proofs.judge.Goals.{then-ids-n-via-then-ids-n, then-ids-n-via-else-ids-n+then-values-n}

pub returns-then-ids-n : goal.returns-then-ids-n
returns-then-ids-n c =
    elim c.then-ids-n.branch [
      | then-ids-n-via-then-ids-n w ↦ form-ids _ _ _ w.if-ids-n.true
      | then-ids-n-via-else-ids-n+then-values-n w ↦ form-values _ _ _ w.if-values-n.true
    ]

pub returns-then-n-gt256 : goal.returns-then-n-gt256
returns-then-n-gt256 c = form-long _ _ _ c.if-ids-n.false c.if-values-n.false c.if-n-gt256.true

pub returns-in-Some : goal.returns-in-Some
returns-in-Some c =
    let ks = c.args.kinds.now in
    let p = c.in-Some.place in
    let first = if_some _ _ _ c.in-Some.is (IsFirst-from_position _ _ _ (λ k. is_kind k ≡ false) (λ k. is_kind k ≡ true) c.position.ensures.ran (YieldsList-from_slice _ c.iter.ensures.rest) (λ x q k. search (rules, tests)) (λ x q k. search (rules, tests))) in
    let z : 0 + p ≡ p = omega arith in
    kinds-first 0 p p ks first.0 z (first.1 0) (λ k l. first.2 k 0 (omega arith) l)
    ∙ form-kinds _ _ _ c.if-ids-n.false c.if-values-n.false c.if-n-gt256.false

pub returns-in-None : goal.returns-in-None
returns-in-None c =
    let ks = c.args.kinds.now in
    let none = if_none (AllWithin (λ k. is_kind k ≡ true) ks 0 (length ks)) _ c.in-None.is (IsFirst-from_position _ _ _ (λ k. is_kind k ≡ false) (λ k. is_kind k ≡ true) c.position.ensures.ran (YieldsList-from_slice _ c.iter.ensures.rest) (λ x q k. search (rules, tests)) (λ x q k. search (rules, tests))) in
    kinds-all 0 ks (λ k l. none k 0 (omega arith) l)
    ∙ form-kinds _ _ _ c.if-ids-n.false c.if-values-n.false c.if-n-gt256.false
