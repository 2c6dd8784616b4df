-- `sparse_inner::add_at` meets its contract: the offset is exchanged with the cell at the size. Assumes nothing.
use Rattle.std.specs.Prelude.{◌≡◌, false, ◌≤◌, ◌<◌, get_or}
use Rattle.std.proofs.Common.{sym, ◌∙◌}
use Rattle.sparse_inner.specs.Set.{held_b}
use Rattle.sparse_inner.proofs.Adds.{room, not-held, outside, already, added_is, least-with, greatest-with}
use Rattle.sparse_inner.proofs.Exchanged.{val-now}
use Rattle.sparse_inner.proofs.add_at.Goals as goal
use Rattle.sparse_inner.proofs.add_at.Goals.{then-o-n-via-then-o-n, then-o-n-via-else-o-n+then-holds}

pub returns-then-o-n : goal.returns-then-o-n
returns-then-o-n c =
    let a = c.args in
    elim c.then-o-n.branch [
      | then-o-n-via-then-o-n w ↦ outside a.s a.ind.now a.val.now a.o w.if-o-n.true
      | then-o-n-via-else-o-n+then-holds w ↦ already a.s a.ind.now a.val.now a.o w.if-o-n.false (sym w.holds.ensures ∙ w.if-holds.true)
    ]

pub returns : goal.returns
returns c =
    let a = c.args in
    let in-u : a.o < a.s.n = c.if-o-n.false in
    let no-held : held_b a.ind.now a.s.n a.s.size a.o ≡ false = sym c.holds.ensures ∙ c.if-holds.false in
    let out : a.s.size ≤ get_or a.ind.now a.o 0 = not-held a.s a.ind.now a.val.now a.o in-u no-held in
    let free : a.s.size < a.s.n = room a.s a.ind.now a.val.now c.requires a.o in-u out in
    rw c.resized.ensures (added_is a.s a.ind.now a.val.now a.o _ _ _ _ in-u no-held c.exchange.ensures.ind_after
    (val-now a.s a.ind.now a.val.now c.requires a.o a.s.size in-u free _ c.exchange.ensures.val_after)
    (rw c.low_with-min.ensures (least-with a.s a.ind.now a.val.now c.requires a.o in-u out))
    (rw c.high_with-max.ensures (greatest-with a.s a.ind.now a.val.now c.requires a.o in-u out)))
