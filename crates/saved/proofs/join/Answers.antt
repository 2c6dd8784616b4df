-- `saved::join` meets its contract: what is joined so far is below a limit exactly if x and each mask so far are. Assumes nothing.
use Rattle.std.specs.Prelude.{◌≡◌, refl, Bool, true, false, ◌&&◌, ℕ, ◌^◌, ltb}
use Rattle.std.specs.Int.Bits.{bit_or}
use Rattle.std.proofs.Common.{sym, ap, ◌∙◌, add-one}
use Rattle.mask.specs.Val.{val}
use Rattle.saved.specs.Saved.{saved_at, fit_under}
use Rattle.saved.proofs.SavedLaws.{or-limit}
use Rattle.saved.proofs.join.Goals as goal

and-true : (b : Bool) → b ≡ b && true
and-true true = refl
and-true false = refl

-- one mask more
turn : (p q r : Bool) → (p && q) && r ≡ p && (r && q)
turn true true true = refl
turn true true false = refl
turn true false true = refl
turn true false false = refl
turn false q r = refl

pub loop-m-init : goal.loop-m-init
loop-m-init c k = and-true (ltb (val c.args.x) (2 ^ k))

pub loop-m-preserved : goal.loop-m-preserved
loop-m-preserved c k =
    let a = c.args in
    let w = a.ws.now in
    let i = c.loop-m in
    ap (λ (n : ℕ). ltb n (2 ^ k)) (c.or-all.ensures ∙ ap (λ x. bit_or (val i.all) (val x)) c.at.ensures)
    ∙ or-limit (val i.all) (val (saved_at w i.m a.i)) k
    ∙ ap (λ (b : Bool). b && ltb (val (saved_at w i.m a.i)) (2 ^ k)) (i.invariant k)
    ∙ turn (ltb (val a.x) (2 ^ k)) (fit_under w i.m a.i k) (ltb (val (saved_at w i.m a.i)) (2 ^ k))
    ∙ ap (λ (n : ℕ). ltb (val a.x) (2 ^ k) && fit_under w n a.i k) (sym (add-one i.m))
