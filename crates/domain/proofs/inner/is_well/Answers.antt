-- `domain::inner::is_well` meets its contract: where there is a universe the mask decides, and else the bounds do. Assumes nothing.
use Rattle.std.proofs.Common.{rules, true≢false, sym, ap, ◌∙◌, to_z, of_z}
use Rattle.offset.specs.Universe.{le_not_lt}
use Rattle.std.specs.Prelude.{◌≡◌, not, pos, Bool, ◌&&◌, eqb, ◌-ℤ◌}
use Rattle.std.specs.Int.{w64}
use Rattle.mask.specs.Val.{val}
use Rattle.offset.specs.Wide.{gap_is}
use Rattle.domain.proofs.Tested.{up-well, none-well, ends-well}
use Rattle.domain.proofs.inner.is_well.Goals as goal
use Rattle.domain.proofs.inner.is_well.Goals.{then-last-lt0, else-last-lt0}

pub returns-then-ends_by : goal.returns-then-ends_by
returns-then-ends_by c =
    let d = c.args.d in
    let g = to_z w64 (of_z w64 c.gap-last.result) in
    let e : d.max -ℤ d.min ≡ g = sym (gap_is {a = d.max} {b = d.min} c.gap-last.ensures (search rules) (search rules)) in
    c.if-ends_by.true ∙ ends-well d g e (sym c.ends_by.ensures ∙ c.if-ends_by.true)

pub returns-then-is_pair : goal.returns-then-is_pair
returns-then-is_pair c =
    let d = c.args.d in
    let g = to_z w64 (of_z w64 c.gap-last.result) in
    let e : d.max -ℤ d.min ≡ g = sym (gap_is {a = d.max} {b = d.min} c.gap-last.ensures (search rules) (search rules)) in
    elim c.if-last-lt0.branch [
      | then-last-lt0 w ↦
          c.is_none.ensures ∙ ap (λ (x : Bool). x && eqb (val d.mask) 0) (sym c.if-is_pair.true ∙ w.value-is ∙ w.is_pair.ensures) ∙ none-well d g e (le_not_lt (pos 0) g ∙ ap not w.if-last-lt0.true)
      | else-last-lt0 w ↦ absurd (true≢false (sym c.if-is_pair.true ∙ w.value-is ∙ w.if-last-lt0.false))
    ]

pub returns-else-is_pair : goal.returns-else-is_pair
returns-else-is_pair c =
    let d = c.args.d in
    let g = to_z w64 (of_z w64 c.gap-last.result) in
    let e : d.max -ℤ d.min ≡ g = sym (gap_is {a = d.max} {b = d.min} c.gap-last.ensures (search rules) (search rules)) in
    c.if-is_pair.false
    ∙ elim c.if-last-lt0.branch [
      | then-last-lt0 w ↦
          ap (λ (x : Bool). x && eqb (val d.mask) 0) (sym c.if-is_pair.false ∙ w.value-is ∙ w.is_pair.ensures) ∙ none-well d g e (le_not_lt (pos 0) g ∙ ap not w.if-last-lt0.true)
      | else-last-lt0 w ↦ sym c.if-ends_by.false ∙ c.ends_by.ensures ∙ up-well d g e (le_not_lt (pos 0) g ∙ ap not w.if-last-lt0.false)
    ]
