-- `pirozhkan::inner::ask` meets its contract: words that pass the first test are read, and the question answers. Assumes nothing.
use Rattle.std.proofs.Common.{sym, ap, ◌∙◌}
use Rattle.reply.proofs.ThroughLaws.{answered-refused, answered-passed}
use Rattle.pirozhkan.proofs.inner.ask.Goals as goal

pub returns-in-Err : goal.returns-in-Err
returns-in-Err g c = λ f refuses is. c.refusal.ensures ∙ answered-refused f c.args.ws.now c.in-Err.why (sym c.in-Err.ensures.0)

pub returns-in-Ok : goal.returns-in-Ok
returns-in-Ok g c =
    λ f refuses is.
    is c.read.result c.question.result c.read.ensures c.question.ensures
    ∙ answered-passed f c.args.ws.now refuses (sym c.in-Ok.ensures.0) (f c.read.result) (ap f c.read.ensures)
