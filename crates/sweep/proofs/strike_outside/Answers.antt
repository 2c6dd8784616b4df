-- `sweep::strike_outside` meets its contract: turn by turn it is the sweep of the places outside the subset. Assumes nothing.
use Rattle.std.specs.Prelude.{◌≡◌, ℕ, ◌%◌, ◌<◌, ℤ, pos, eqb, get_or}
use Rattle.std.proofs.Common.{rules, sym, ap, ◌∙◌, subst, arith, add-one, ne_eqb, eq-eqb}
use Rattle.std.proofs.lemmas.Bool.{not-true, not-false}
use Rattle.offset.specs.Wide.{read32}
use Rattle.rules.specs.Sets.{strike}
use Rattle.rules.specs.Pass.{sweep}
use Rattle.rules.specs.Table.{bits}
use Rattle.domain.specs.Set.{values_of}
use Rattle.masks.specs.Cells.{mask_at}
use Rattle.sweep.specs.Listed.{listed}
use Rattle.sweep.proofs.Turns.{So, over, on, stop, done, left-more, bits-length, bits_at, next-half}
use Rattle.sweep.proofs.strike_outside.Goals as goal
use Rattle.sweep.proofs.strike_outside.Goals.{then-inside-ne1+else-not-did, else-inside-ne1}

pub returns-then-not-did : goal.returns-then-not-did
returns-then-not-did c =
    let a = c.args in
    let i = c.loop-q in
    let u = a.vals.now in
    let lo = get_or a.mins.now i.q (pos 0) in
    let m = bits a.n a.set in
    let s = c.leave-did.ensures u lo (subst (λ (z : ℤ). values_of z c.less.result ≡ strike u (values_of z (mask_at i.ms i.q))) (read32 (search rules)) c.less.ensures) in
    let h : i.q < a.n = search rules in
    let out = bits_at a.n a.set i.q h ∙ ap (λ (x : ℕ). eqb (x % 2) 1) (sym i.invariant.0) ∙ ne_eqb (i.inside % 2) 1 (search rules) in (
      left-more a.n i.q a.ms.now i.ms c.leave-did.new.ms u lo c.leave-did.result h i.invariant.1 s,
      sym (stop m u (sweep m u (listed a.mins.now a.ms.now a.n)) a.mins.now a.n i.q i.changed (bits-length a.n a.set) h i.ms i.invariant.2 c.leave-did.new.ms c.leave-did.result s out (not-true c.leave-did.result.consistent c.if-not-did.true)),
    )

pub loop-q-preserved : goal.loop-q-preserved
loop-q-preserved c =
    let a = c.args in
    let i = c.loop-q in
    let u = a.vals.now in
    let lo = get_or a.mins.now i.q (pos 0) in
    let m = bits a.n a.set in
    let all = sweep m u (listed a.mins.now a.ms.now a.n) in
    let h : i.q < a.n = search rules in
    let at = bits_at a.n a.set i.q h ∙ ap (λ (x : ℕ). eqb (x % 2) 1) (sym i.invariant.0) in
    elim c.if-inside-ne1.branch [
      | then-inside-ne1+else-not-did w ↦
          let k = w.leave-did in
          let s = k.ensures u lo (subst (λ (z : ℤ). values_of z w.less.result ≡ strike u (values_of z (mask_at i.ms i.q))) (read32 (search rules)) w.less.ensures) in
          rw (w.ms-is, w.changed-is, add-one) (
            next-half i.inside a.set i.q i.invariant.0,
            left-more a.n i.q a.ms.now i.ms k.new.ms u lo k.result h i.invariant.1 s,
            on m u all a.mins.now a.n i.q i.changed (bits-length a.n a.set) h i.ms i.invariant.2 k.new.ms k.result s (at ∙ ne_eqb (i.inside % 2) 1 (search rules)) (not-false k.result.consistent w.if-not-did.false),
          )
      | else-inside-ne1 w ↦
          rw (w.ms-is, w.changed-is, add-one)
          (next-half i.inside a.set i.q i.invariant.0, i.invariant.1, over m u all a.mins.now a.n i.q i.changed (bits-length a.n a.set) h i.ms i.invariant.2 (at ∙ eq-eqb (i.inside % 2) 1 (search rules)))
    ]

pub returns : goal.returns
returns c =
    let a = c.args in
    let i = c.loop-q in
    let u = a.vals.now in
    let m = bits a.n a.set in
    let all = sweep m u (listed a.mins.now a.ms.now a.n) in
    let end : i.q ≡ a.n = omega arith in
    (i.invariant.1, sym (done m u all a.mins.now a.n i.changed i.ms (subst (λ (q : ℕ). So m u (listed a.mins.now i.ms a.n) i.changed q all) end i.invariant.2) (bits-length a.n a.set)))
