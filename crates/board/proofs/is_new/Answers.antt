-- `board::is_new` meets its contract: nothing was met so far exactly if each number so far passes. Assumes nothing.
use Rattle.std.specs.Prelude.{◌≡◌, refl, Bool, true, false, not, ◌&&◌, ◌||◌, ℕ, eqb, get_or}
use Rattle.std.proofs.Common.{sym, ap, ◌∙◌, add-one}
use Rattle.board.specs.Well.{new_to}
use Rattle.board.proofs.is_new.Goals as goal

turn : (m e t : Bool) → not m ≡ t → not (m || e) ≡ not e && t
turn true true t q = refl
turn true false t q = q
turn false true t q = refl
turn false false t q = q

pub loop-j-preserved : goal.loop-j-preserved
loop-j-preserved c =
    let f : ℕ → ℕ = λ k. get_or c.args.ids.now k 0 in
    turn c.loop-j.met (eqb (f c.loop-j.j) c.args.n) (new_to f c.loop-j.j c.args.n) c.loop-j.invariant
    ∙ ap (λ (k : ℕ). new_to f k c.args.n) (sym (add-one c.loop-j.j))
