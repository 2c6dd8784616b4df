-- `wave_print::put_bounds` meets its contract: four fixed bytes where the mask is empty, else the values of its lowest and its highest offset.
use Rattle.std.specs.Prelude.{◌≡◌, List, [], ◌∷◌, ◌++◌, ℕ, ◌+◌, ◌≤◌, ℤ, length}
use Rattle.std.proofs.Common.{sym, ap, ap₂, ◌∙◌, subst, arith, rules, to_z, of_z, length-set}
use Rattle.std.specs.Int.{w32, w64}
use Rattle.decimal.specs.Decimal.{decimal}
use Rattle.decimal.specs.Put.{put_of}
use Rattle.domain.specs.Set.{values_of}
use Rattle.domain_text.proofs.Values.{some, again, read-value}
use Rattle.offset.specs.Wide.{read32}
use Rattle.wave_print.specs.Print.{spaced, bounds_text}
use Rattle.wave_print.proofs.Pieces.{first-room, rest-room, then, four}
use Rattle.wave_print.proofs.Bounds.{none, bounds}
use Rattle.wave_print.proofs.put_bounds.Statement.{statement}
use Rattle.wave_print.proofs.put_bounds.Tie as tie

-- the text of the bounds, where there are none
blank : (c : tie.Then-is_none) → bounds_text (values_of c.args.min c.args.m) ≡ 32 ∷ 45 ∷ 32 ∷ 45 ∷ []
blank c = none c.args.min c.args.m c.is_none.ensures c.if-is_none.true

room : (c : tie.Then-is_none) → c.args.at + 4 ≤ length c.args.out.now
room c = omega (arith, c.requires, ap length (blank c))

is-none-requires : tie.Need-is_none-requires
is-none-requires c κs = search rules

slice-write-out : tie.Need-bounds-out-at
slice-write-out c = omega (arith, room c)

add-out : tie.Need-overflow_add-out
add-out c = search rules

slice-write-out-2 : tie.Need-bounds-out-at-then-is_none
slice-write-out-2 c = simp length-set (omega (arith, room c))

add-out-2 : tie.Need-overflow_add-out-then-is_none
add-out-2 c = search rules

slice-write-out-3 : tie.Need-bounds-out-at-then-is_none-2
slice-write-out-3 c = simp length-set (omega (arith, room c))

add-out-3 : tie.Need-overflow_add-out-then-is_none-2
add-out-3 c = search rules

slice-write-out-4 : tie.Need-bounds-out-at-then-is_none-3
slice-write-out-4 c = simp length-set (omega (arith, room c))

add-result : tie.Need-overflow_add-result
add-result c = search rules

same_length : tie.Need-shape_of-out-then-is_none
same_length c = search rules

returns : tie.Need-returns-then-is_none
returns c =
    let a = c.args in
    four a.out.now a.at 32 45 32 45 ∙ ap (λ (t : List ℕ). put_of t a.out.now a.at) (sym (blank c))

-- the values that are put, as the machine reads them
abbrev read : ℤ → ℤ
read x = to_z w64 (of_z w64 x)

both : (c : tie.After-value-high) → bounds_text (values_of c.args.min c.args.m) ≡ spaced (decimal (read c.value-low.result)) ++ spaced (decimal (read c.value-high.result))
both c =
    let lo = to_z w32 (of_z w32 c.args.min) in
    let k = c.lowest in
    let j = c.highest in
    ap (λ (z : ℤ). bounds_text (values_of z c.args.m)) (sym (read32 c.ranges.min))
    ∙ bounds lo c.args.m k.ensures.0 j.ensures.0
    ∙ sym
    (ap₂ (λ (y z : ℤ). spaced (decimal y) ++ spaced (decimal z))
    (read-value (again c.ranges.min) k.ensures.1 c.value-low.ensures)
    (read-value (again c.ranges.min) j.ensures.1 c.value-high.ensures))

asked : (c : tie.After-value-high) → c.args.at + length (spaced (decimal (read c.value-low.result)) ++ spaced (decimal (read c.value-high.result))) ≤ length c.args.out.now
asked c =
    subst (λ (t : List ℕ). c.args.at + length t ≤ length c.args.out.now) (both c) c.requires

lowest-requires : tie.Need-lowest-requires
lowest-requires c κs = some c.args.m c.is_none.ensures c.if-is_none.false

value-requires : tie.Need-value-low-requires
value-requires c κs = search rules

highest-requires : tie.Need-highest-requires
highest-requires c κs = some c.args.m c.is_none.ensures c.if-is_none.false

value-requires-2 : tie.Need-value-high-requires
value-requires-2 c κs = search rules

put-signed-requires : tie.Need-put_signed-next-requires
put-signed-requires c κs =
    first-room (spaced (decimal (read c.value-low.result))) (spaced (decimal (read c.value-high.result))) c.args.at (asked c.before)

put-signed-requires-2 : tie.Need-put_signed-requires
put-signed-requires-2 c κs =
    rest-room (spaced (decimal (read c.value-low.result))) c.args.out.now c.args.at c.put_signed-next.ensures (spaced (decimal (read c.value-high.result))) (asked c.before.before.before.before.before)

same-length-2 : tie.Need-shape_of-out
same-length-2 c = search rules

returns-2 : tie.Need-returns
returns-2 c =
    let low = spaced (decimal (read c.value-low.result)) in
    let high = spaced (decimal (read c.value-high.result)) in
    then low c.args.out.now c.args.at c.put_signed-next.ensures high c.put_signed.ensures
    ∙ ap (λ (t : List ℕ). put_of t c.args.out.now c.args.at) (sym (both c.before.before.before.before.before.before.before.before))

pub put_bounds_spec : {M : Type 1} → statement M
put_bounds_spec =
    tie.close
    (tie.spec
    is-none-requires
    slice-write-out
    add-out
    slice-write-out-2
    add-out-2
    slice-write-out-3
    add-out-3
    slice-write-out-4
    add-result
    same_length
    returns
    lowest-requires
    value-requires
    highest-requires
    value-requires-2
    put-signed-requires
    put-signed-requires-2
    same-length-2
    returns-2)
