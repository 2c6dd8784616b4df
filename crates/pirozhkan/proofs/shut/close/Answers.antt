-- `pirozhkan::shut::close` meets its contract: it is the by-value call between reading and writing. Assumes nothing.
use Rattle.std.specs.Prelude.{ℕ}
use Rattle.std.proofs.Common.{sym, ap, ◌∙◌}
use Rattle.reply.specs.Through.{left, closed}
use Rattle.reply.proofs.ThroughLaws.{through-refused, through-passed}
use Rattle.offset.specs.Wide.{read32}
use Rattle.closing.specs.Kinds.{kind_of}
use Rattle.pirozhkan.specs.Calls.{closing}
use Rattle.pirozhkan.proofs.Guards.{closing-guarded}
use Rattle.pirozhkan.proofs.shut.close.Goals as goal

pub returns-in-Err : goal.returns-in-Err
returns-in-Err c =
    let a = c.args in
    ap (λ (n : ℕ). left n a.ws.now) c.refusal.ensures ∙ through-refused (closing (kind_of a.kind) a.id a.value) a.ws.now c.in-Err.why (sym c.in-Err.ensures.0)

pub returns-in-Ok : goal.returns-in-Ok
returns-in-Ok c =
    let a = c.args in
    (λ t. left (c.told.ensures t) (c.write.ensures t))
    ∙ through-passed (closing (kind_of a.kind) a.id a.value) a.ws.now (closing-guarded (kind_of a.kind) a.id a.value) c.in-Ok.ensures.1 (sym c.in-Ok.ensures.0) (closed c.close-after.result) (ap closed c.close-after.ensures ∙ λ t. closing (kind_of a.kind) a.id (read32 c.ranges.value t) (c.read.ensures t))
