-- `sparse_make::new` meets its contract: the ends are taken in order. Assumes nothing.
use Rattle.std.specs.Prelude.{◌≡◌, refl, Bool, true, false, cond, List, ℕ, ℤ}
use Rattle.std.specs.Int.{int_min, int_max}
use Rattle.std.specs.Int.Signed.{lt_z}
use Rattle.std.proofs.Common.{◌∙◌, rules}
use Rattle.sparse_make.specs.Calls.{making, between_of, new_of}
use Rattle.sparse_make.proofs.new.Goals as goal

in_order : (t : Bool) (a b : ℤ) (ind val : List ℕ) → between_of (cond t b a) (cond t a b) ind val ≡ cond t (between_of b a) (between_of a b) ind val
in_order true a b ind val = refl
in_order false a b ind val = refl

pub returns : goal.returns
unfolding new_of
returns c =
    let a = c.args.a.0 in
    let b = c.args.b.0 in
    let lo : c.min.result ≡ int_min a b = search rules in
    let hi : c.max.result ≡ int_max a b = search rules in
    let made : making c.between.result c.between.new.ind c.between.new.val ≡ between_of c.min.result c.max.result c.args.ind.now c.args.val.now = search rules in
    made ∙ (λ i. between_of (lo i) (hi i) c.args.ind.now c.args.val.now) ∙ in_order (lt_z b a) a b c.args.ind.now c.args.val.now
