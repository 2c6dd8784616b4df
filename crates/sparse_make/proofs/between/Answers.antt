-- `sparse_make::between` meets its contract: a universe with room, all held, is a well-formed set. Assumes nothing.
use Rattle.std.specs.Prelude.{◌≡◌, true, pos, ◌+ℤ◌}
use Rattle.std.specs.Int.Signed.{le_z}
use Rattle.std.proofs.Common.{sym, subst, rules}
use Rattle.sparse_inner.specs.Set.{full, WellF}
use Rattle.sparse_make.specs.Calls.{filled}
use Rattle.sparse_make.proofs.Makes.{Room, span-far, filled-well}
use Rattle.sparse_make.proofs.between.Goals as goal

pub returns-clause-well : goal.returns-clause-well
returns-clause-well c =
    let a = c.args in
    let n = c.span-n.result in
    let r = c.in_ok-room_for.ensures.room in
    let room : Room n a.ind.now a.val.now = record { narrow = r.0; in-ind = r.1; in-val = r.2 } in
    let begun : full c.whole.result c.fill.new.ind c.fill.new.val ≡ filled a.lo n a.ind.now a.val.now = search rules in
    let far : le_z (a.lo +ℤ pos n) (pos 2147483648) ≡ true = search (rules, span-far) in
    subst WellF (sym begun) (filled-well a.lo n a.ind.now a.val.now room far)
