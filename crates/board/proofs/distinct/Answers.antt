-- `board::distinct` meets its contract: the ids so far differ, and each has marked its cell; so an id whose cell isn't marked is new. Assumes nothing.
use Rattle.std.specs.Prelude.{◌≡◌, refl, true, ℕ, not, get_or}
use Rattle.std.proofs.Common.{sym, ap, ◌∙◌, not-suc-le-zero, add-one, length-set, rules}
use Rattle.board.specs.Well.{new_to, differ}
use Rattle.rules.proofs.Tests.{fails, passes}
use Rattle.saved.proofs.UptoLaws.{one-fails}
use Rattle.board.proofs.Seats.{cell-new, cell-marked}
use Rattle.board.proofs.distinct.Goals as goal
use Rattle.board.proofs.distinct.Goals.{else-met-h-ne0-via-then-met-h-ne0+else-not-is_new, else-met-h-ne0-via-else-met-h-ne0}

pub loop-i-init : goal.loop-i-init
loop-i-init c = (refl, refl, λ k l. absurd (not-suc-le-zero l))

pub returns-then-not-is_new : goal.returns-then-not-is_new
returns-then-not-is_new c =
    let f : ℕ → ℕ = λ k. get_or c.args.ids.now k 0 in
    sym (one-fails (λ i. new_to f i (f i)) c.args.count c.loop-i.i (search rules) (fails c.is_new.ensures (ap not c.if-not-is_new.true)))

pub loop-i-preserved : goal.loop-i-preserved
loop-i-preserved c =
    let f : ℕ → ℕ = λ k. get_or c.args.ids.now k 0 in
    let s = c.loop-i.invariant in
    let new : new_to f c.loop-i.i (f c.loop-i.i) ≡ true =
    elim c.else-met-h-ne0.branch [ else-met-h-ne0-via-then-met-h-ne0+else-not-is_new w ↦ passes w.is_new.ensures (ap not w.if-not-is_new.false) | else-met-h-ne0-via-else-met-h-ne0 w ↦ cell-new f c.loop-i.met c.loop-i.i s.2 w.if-met-h-ne0.false ] in (
      rw length-set s.0,
      ap (differ f) (add-one c.loop-i.i) ∙ rw new s.1,
      cell-marked f c.loop-i.met c.loop-i.i s.2 s.0,
    )
