-- `domain_values::list::write` meets its contract: the lowest offset's value is the next. Assumes nothing.
use Rattle.std.specs.Prelude.{◌≡◌, refl, ◌∷◌, take, ◌++◌, List, ℕ, ℤ, pos, ◌+ℤ◌, length, drop}
use Rattle.std.proofs.Common.{sym, ap, ◌∙◌, subst, arith, SFits, to_z, of_z, rules}
use Rattle.std.proofs.lemmas.List.{length-take-le}
use Rattle.std.specs.Int.{w32}
use Rattle.mask.specs.Val.{val}
use Rattle.mask.specs.Sets.{In, in_without, pos-of-ones}
use Rattle.offset.specs.Universe.{value_in}
use Rattle.domain.specs.Set.{values_of, set_of}
use Rattle.domain.proofs.Places.{well-in}
use Rattle.domain.proofs.Signed.{read}
use Rattle.domain.proofs.Ends.{values-first, size-ones}
use Rattle.domain_values.proofs.Filled.{left_over, all-written, one_written}
use Rattle.domain_values.proofs.list.write.Goals as goal

pub loop-cell-init : goal.loop-cell-init
loop-cell-init c = record { inside = well-in c.args.d c.requires.0; is = refl }

pub lowest-requires : goal.lowest-requires
lowest-requires c =
    let at = c.loop-cell in
    let d = c.args.d in
    let n = left_over at.cell-items (values_of d.min at.rest) (set_of d) at.cell-index at.invariant.is (omega arith) in
    pos-of-ones (val at.rest) (omega (arith, size-ones d.min at.rest, n, length-take-le c.args.n c.args.cells.now c.requires.2))

-- the value at the lowest offset is an i32
pub value-requires : goal.value-requires
value-requires c =
    let d = c.args.d in
    let f : SFits w32 d.min = search rules in
    rw (read d.min f) (value_in d.min d.max c.lowest.result f (search rules) (c.loop-cell.invariant.inside c.lowest.result c.lowest.ensures.0.set))

pub loop-cell-preserved : goal.loop-cell-preserved
loop-cell-preserved c =
    let d = c.args.d in
    let at = c.loop-cell in
    let k = c.lowest.result in
    let p = c.lowest.ensures.0 in
    let e = c.rest-rest.ensures k p in
    let vals = values_of d.min c.rest-rest.result in
    let first = values-first d.min at.rest c.rest-rest.result k p e in
    let f : SFits w32 d.min = search rules in
    let z : to_z w32 (of_z w32 c.value.result) ≡ d.min +ℤ pos k = read c.value.result (search rules) ∙ c.value.ensures ∙ ap (λ (z : ℤ). z +ℤ pos k) (read d.min f) in
    record {
      inside = λ j h. at.invariant.inside j ((in_without (val at.rest) k j).0 (subst (λ (n : ℕ). In n j) e h)).0;
      is = one_written at.cell-items vals (set_of d) (to_z w32 (of_z w32 c.value.result)) at.cell-index (omega arith)
          ((λ i. take at.cell-index at.cell-items ++ (z i ∷ vals)) ∙ ap (λ (l : List ℤ). take at.cell-index at.cell-items ++ l) (sym first) ∙ at.invariant.is);
    }

pub returns : goal.returns
returns c =
    let d = c.args.d in
    let at = c.loop-cell in
    let vals = values_of d.min at.rest in
    let n = left_over at.cell-items vals (set_of d) at.cell-index at.invariant.is (omega arith) in
    let none : length vals ≡ 0 = omega (arith, n, length-take-le c.args.n c.args.cells.now c.requires.2) in
    ap (λ (l : List ℤ). l ++ drop c.args.n c.args.cells.now) (all-written at.cell-items vals (set_of d) at.cell-index at.invariant.is (omega arith) none)
