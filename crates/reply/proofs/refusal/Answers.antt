-- `reply::refusal` meets its contract: the number is below a byte, so that the sum fits. Assumes nothing.
use Rattle.std.specs.Prelude.{ℕ, ◌+◌, ◌<◌, ◌^◌}
use Rattle.std.proofs.Common.{sym, ap, ◌∙◌, subst, arith}
use Rattle.reply.specs.Told.{packed, coded}
use Rattle.reply.proofs.ToldLaws.{number-range, code_fits}
use Rattle.reply.proofs.refusal.Goals as goal

pub overflow_add-result : goal.overflow_add-result
overflow_add-result c =
    let n = c.number-number in
    let r = c.args.r in
    record { fits = subst (λ (x : ℕ). n.result + x < 2 ^ 64) (sym c.pack.ensures) (code_fits n.result c.place-place.result (omega (arith, n.ensures, (number-range r).1))) }

pub returns : goal.returns
unfolding coded
returns c =
    let n = c.number-number.ensures in
    let p = c.pack.ensures ∙ ap packed c.place-place.ensures in
    λ t. n t + p t
