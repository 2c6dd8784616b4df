-- `sparse_inner::only_at` meets its contract: the offset is exchanged with the one in cell 0. Assumes nothing.
use Rattle.std.specs.Prelude.{◌≡◌, true}
use Rattle.std.proofs.Common.{sym, ◌∙◌}
use Rattle.sparse_inner.specs.Set.{full, held_b}
use Rattle.sparse_inner.specs.Change.{only_at, alone}
use Rattle.sparse_inner.proofs.Sets.{held_of}
use Rattle.sparse_inner.proofs.Only.{some-cell}
use Rattle.sparse_inner.proofs.Exchanged.{val-now}
use Rattle.sparse_inner.proofs.only_at.Goals as goal

pub returns-then-not-holds : goal.returns-then-not-holds
unfolding only_at
returns-then-not-holds c = rw (c.emptied.ensures, sym c.holds.ensures ∙ c.if-not-holds.true)

pub returns : goal.returns
unfolding only_at alone
returns c =
    let a = c.args in
    let yes : held_b a.ind.now a.s.n a.s.size a.o ≡ true = sym c.holds.ensures ∙ c.if-not-holds.false in
    let held = held_of a.ind.now a.s.n a.s.size a.o yes in
    let v = val-now a.s a.ind.now a.val.now c.requires a.o 0 held.in-universe (some-cell a.s a.ind.now a.val.now c.requires a.o held) _ c.exchange.ensures.val_after in
    rw yes (λ i. full (c.resized.ensures i) (c.exchange.ensures.ind_after i) (v i))
