-- `sweep::less` meets its contract: value after value is struck. Assumes nothing.
use Rattle.std.specs.Prelude.{List, [], ◌∷◌, ℕ, ◌+◌, ◌<◌, ℤ, pos, length, take, ◌≡◌, get_or}
use Rattle.std.specs.Int.{w32}
use Rattle.std.proofs.Common.{add-one, take-suc, take_all, of_z, to_z, rules, sym, ap, ◌∙◌, arith}
use Rattle.offset.specs.Wide.{read32}
use Rattle.rules.specs.Sets.{Chutes, strike}
use Rattle.domain.specs.Set.{values_of}
use Rattle.sweep.proofs.Values.{strike-more, strike-nothing}
use Rattle.sweep.proofs.less.Goals as goal

-- one value more
more : (vals : List ℤ) (j : ℕ) (v : ℤ) (e d s : Chutes) → j < length vals → v ≡ get_or vals j (pos 0) → e ≡ strike (v ∷ []) d → d ≡ strike (take j vals) s → e ≡ strike (take (j + 1) vals) s
more vals j v e d s h q f g = f ∙ ap (strike (v ∷ [])) g ∙ strike-more v (take j vals) s ∙ rw (add-one, take-suc vals j (pos 0) h, q)

pub loop-v-init : goal.loop-v-init
loop-v-init c = sym (strike-nothing (values_of (to_z w32 (of_z w32 c.args.min)) c.args.m))

pub loop-v-preserved : goal.loop-v-preserved
loop-v-preserved c =
    let a = c.args in
    let j = c.loop-v.v-index in
    let z = to_z w32 (of_z w32 a.min) in
    let v = to_z w32 (of_z w32 (get_or a.vals.now j (pos 0))) in
    more a.vals.now j v (values_of z c.without-rest.result) (values_of z c.loop-v.rest) (values_of z a.m) (omega arith) (read32 (search rules)) c.without-rest.ensures c.loop-v.invariant

pub returns : goal.returns
returns c =
    let vals = c.args.vals.now in
    let e : to_z w32 (of_z w32 c.args.min) ≡ c.args.min = read32 c.ranges.min in
    let k : c.loop-v.v-index ≡ length vals = omega arith in
    rw (e, k, take_all (length vals) vals (omega arith)) at c.loop-v.invariant
