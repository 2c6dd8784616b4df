-- `sparse_inner::all_between` meets its contract: so far it says whether every cell below k has a number between the two. Assumes nothing.
use Rattle.std.specs.Prelude.{Bool, ◌&&◌, ℕ}
use Rattle.std.proofs.Common.{sym, ap, ◌∙◌}
use Rattle.order.proofs.Orders.{all_none, all-next}
use Rattle.sparse_inner.specs.Set.{between}
use Rattle.sparse_inner.proofs.all_between.Goals as goal

pub loop-k-init : goal.loop-k-init
loop-k-init c = sym (all_none _)

pub loop-k-preserved : goal.loop-k-preserved
loop-k-preserved c =
    let p : ℕ → Bool = between c.args.val.now c.args.min c.args.max in
    ap (λ (b : Bool). b && p c.loop-k.k) c.loop-k.invariant ∙ sym (all-next p c.loop-k.k)
