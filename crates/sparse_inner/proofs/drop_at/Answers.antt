-- `sparse_inner::drop_at` meets its contract: the offset is exchanged with the last held one, and a bound is looked for where it was one. Assumes nothing.
use Rattle.std.specs.Prelude.{◌≡◌, true, ◌-◌}
use Rattle.std.proofs.Common.{sym, ◌∙◌}
use Rattle.sparse_inner.specs.Set.{full, held_b}
use Rattle.sparse_inner.proofs.Sets.{held_of, last-in, spans-left}
use Rattle.sparse_inner.proofs.Exchanged.{val-now}
use Rattle.sparse_inner.proofs.Drops.{dropped-is, drop-none}
use Rattle.sparse_inner.proofs.drop_at.Goals as goal

pub returns-then-not-holds : goal.returns-then-not-holds
returns-then-not-holds c = sym (drop-none (full c.args.s c.args.ind.now c.args.val.now) c.args.o (sym c.holds.ensures ∙ c.if-not-holds.true))

pub new_min-min-requires-clause-spans : goal.new_min-min-requires-clause-spans
new_min-min-requires-clause-spans c h =
    let a = c.args in
    rw c.exchange.ensures.ind_after (spans-left a.s a.ind.now a.val.now c.requires a.o (held_of a.ind.now a.s.n a.s.size a.o (sym c.holds.ensures ∙ c.if-not-holds.false)) h)

pub new_max-max-requires-clause-spans : goal.new_max-max-requires-clause-spans
new_max-max-requires-clause-spans c h =
    let a = c.args in
    rw c.exchange.ensures.ind_after (spans-left a.s a.ind.now a.val.now c.requires a.o (held_of a.ind.now a.s.n a.s.size a.o (sym c.holds.ensures ∙ c.if-not-holds.false)) h)

pub returns : goal.returns
returns c =
    let a = c.args in
    let yes : held_b a.ind.now a.s.n a.s.size a.o ≡ true = sym c.holds.ensures ∙ c.if-not-holds.false in
    let held = held_of a.ind.now a.s.n a.s.size a.o yes in
    rw c.resized.ensures (dropped-is a.s a.ind.now a.val.now a.o _ _ _ _ yes c.exchange.ensures.ind_after
    (val-now a.s a.ind.now a.val.now c.requires a.o (a.s.size - 1) held.in-universe (last-in a.s a.ind.now a.val.now c.requires a.o held) _ c.exchange.ensures.val_after)
    c.new_min-min.ensures c.new_max-max.ensures)
