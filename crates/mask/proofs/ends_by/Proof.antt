-- `mask::ends_by` meets its contract: the word of the offset k has nothing above it, and every word past that one is 0. Assumes nothing.
use Rattle.std.proofs.Common.{rules, sym, ap, ◌∙◌, arith, to_z-of_z, to_z, of_z}
use Rattle.std.specs.Prelude.{◌≡◌, Bool, false, true, ℕ, eqb, ℤ}
use Rattle.std.specs.Int.{w64}
use lib.Bits.{bit_or}
use Rattle.mask.specs.Ends.{is_between, between-up, ends_by, ends_low, ends-high, ends-none}
use Rattle.mask.proofs.ends_by.Statement.{statement}
use Rattle.mask.proofs.ends_by.Tie as tie

-- k, as it is read
abbrev at : tie.Start → ℤ
at s = to_z w64 (of_z w64 s.args.k)

low : (c : tie.After-is_between) (b : Bool) → c.is_between.result ≡ b → is_between 0 64 (at c.before) ≡ b
low c b e = sym c.is_between.ensures ∙ e

high : (c : tie.After-is_between-2) (b : Bool) → c.is_between-2.result ≡ b → is_between 64 128 (at c.before.before.before) ≡ b
high c b e = sym c.is_between-2.ensures ∙ e

cast-above : tie.Need-overflow_cast-k
cast-above c =
    let u = between-up 0 64 (at c.before.before) (low c.before true c.if-is_between.true) in
    (u.0, record { fits = omega (arith, u.1.1) })

above-requires : tie.Need-above-requires
above-requires c κs = (between-up 0 64 (at c.before.before) (low c.before true c.if-is_between.true)).1.1

returns : tie.Need-returns-then-is_between
returns c =
    let s = c.before.before.before.before in
    ap (λ (w : ℕ). eqb (bit_or w s.args.m.hi) 0) c.before.above.ensures
    ∙ ends_low s.args.m (search rules) (at s) (low c.before.before.before true c.before.before.if-is_between.true)
    ∙ ap (ends_by s.args.m) (to_z-of_z s.ranges.k)

cast-above-2 : tie.Need-overflow_cast-k-then-is_between-2
cast-above-2 c =
    let u = between-up 64 128 (at c.before.before.before.before) (high c.before true c.if-is_between-2.true) in
    (u.0, record { fits = omega (arith, u.1.1) })

sub-above : tie.Need-overflow_sub-k
sub-above c = (between-up 64 128 (at c.before.before.before.before) (high c.before true c.if-is_between-2.true)).1.0

above-requires-2 : tie.Need-above-requires-then-is_between-2
above-requires-2 c κs =
    let u = between-up 64 128 (at c.before.before.before.before) (high c.before true c.if-is_between-2.true) in
    omega (arith, u.1.1)

returns-2 : tie.Need-returns-then-is_between-2
returns-2 c =
    let s = c.before.before.before.before.before in
    ap (λ (w : ℕ). eqb w 0) c.above-then-is_between-2.ensures
    ∙ ends-high s.args.m (search rules) (at s) (high c.before.before true c.before.if-is_between-2.true)
    ∙ ap (ends_by s.args.m) (to_z-of_z s.ranges.k)

returns-3 : tie.Need-returns
returns-3 c =
    let s = c.before.before.before.before in
    ends-none s.args.m (search rules) (at s) (low c.before.before.before false c.before.before.if-is_between.false) (high c.before false c.if-is_between-2.false)
    ∙ ap (ends_by s.args.m) (to_z-of_z s.ranges.k)

pub ends_by_spec : {M : Type 1} → statement M
ends_by_spec =
    tie.close
    (tie.spec
    (λ c κs. search rules)
    cast-above
    above-requires
    returns
    (λ c κs. search rules)
    cast-above-2
    sub-above
    above-requires-2
    returns-2
    returns-3)
