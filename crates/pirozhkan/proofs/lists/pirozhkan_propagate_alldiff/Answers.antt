-- `pirozhkan::lists::pirozhkan_propagate_alldiff` meets its contract: it is the by-value call between reading and writing. Assumes nothing.
use Rattle.std.specs.Prelude.{ℕ}
use Rattle.std.proofs.Common.{sym, ap, ◌∙◌}
use Rattle.reply.specs.Through.{left, spread}
use Rattle.reply.proofs.ThroughLaws.{through-refused, through-passed}
use Rattle.pirozhkan.specs.Calls.{spreading}
use Rattle.pirozhkan.proofs.Guards.{spreading-guarded}
use Rattle.pirozhkan.proofs.lists.pirozhkan_propagate_alldiff.Goals as goal

pub returns-in-Err : goal.returns-in-Err
returns-in-Err c =
    let a = c.args in
    ap (λ (n : ℕ). left n a.ws.now) c.refusal.ensures ∙ through-refused (spreading a.list.now) a.ws.now c.in-Err.why (sym c.in-Err.ensures.0)

pub returns-in-Ok : goal.returns-in-Ok
returns-in-Ok c =
    let a = c.args in
    (λ t. left (c.pair.ensures t) (c.write.ensures t))
    ∙ through-passed (spreading a.list.now) a.ws.now (spreading-guarded a.list.now) c.in-Ok.ensures.1 (sym c.in-Ok.ensures.0) (spread c.propagate_alldiff-after.result) (ap spread c.propagate_alldiff-after.ensures ∙ ap (spreading a.list.now) c.read.ensures)
