-- `pirozhkan::batches::close_all` meets its contract: it is the by-value call between reading and writing. Assumes nothing.
use Rattle.std.specs.Prelude.{ℕ, take}
use Rattle.std.proofs.Common.{sym, ap, ◌∙◌}
use Rattle.reply.specs.Through.{left}
use Rattle.reply.proofs.ThroughLaws.{through-refused, through-passed}
use Rattle.pirozhkan.specs.Batches.{batched, batching}
use Rattle.pirozhkan.proofs.Batching.{batching-guarded}
use Rattle.pirozhkan.proofs.batches.close_all.Goals as goal

pub returns-in-Err : goal.returns-in-Err
returns-in-Err c =
    let a = c.args in
    ap (λ (n : ℕ). left n a.ws.now) c.refusal.ensures ∙ through-refused (batching (take a.n a.cs)) a.ws.now c.in-Err.why (sym c.in-Err.ensures.0)

pub returns-in-Ok : goal.returns-in-Ok
returns-in-Ok c =
    let a = c.args in
    (λ t. left (c.counted.ensures t) (c.write.ensures t))
    ∙ through-passed (batching (take a.n a.cs)) a.ws.now (batching-guarded (take a.n a.cs)) c.in-Ok.ensures.1 (sym c.in-Ok.ensures.0) (batched c.close_many-after.result) (ap batched c.close_many-after.ensures ∙ ap (batching (take a.n a.cs)) c.read.ensures)
