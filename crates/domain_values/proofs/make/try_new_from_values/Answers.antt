-- `domain_values::make::try_new_from_values` meets its contract: the branches are those of the definition, and the values stand from
-- their smallest to their largest. Assumes nothing.
use Rattle.std.specs.Prelude.{◌≡◌, true, length}
use Rattle.std.specs.declared.result.Result.TheVariants.{Ok, Err}
use Rattle.std.specs.Int.{w32}
use Rattle.std.proofs.Common.{sym, ap, ◌∙◌, arith, to_z, of_z, le-leb, eqb-true, rules}
use Rattle.std.proofs.lemmas.Bool.{lt-leb, eqb-false}
use Rattle.mask.specs.Val.{offsets}
use Rattle.offset.specs.Places.{span_of}
use Rattle.rules.specs.declared.Refusal.TheVariants.{TooWide}
use Rattle.domain.specs.Calls.{narrow}
use Rattle.domain.proofs.Signed.{read}
use Rattle.domain_values.specs.Calls.{among, try_from_values_of}
use Rattle.ends.specs.Ends.{smallest_of, largest_of}
use Rattle.domain_values.proofs.Spread.{spread-within, spread_none, spread-some}
use Rattle.domain_values.proofs.make.try_new_from_values.Goals as goal

pub returns-then-is_empty : goal.returns-then-is_empty
unfolding try_from_values_of
returns-then-is_empty c =
    let l = c.args.values.now in
    ap Ok c.nothing.ensures ∙ sym (spread_none Ok (Err TooWide) l (eqb-true (length l) 0 (sym c.is_empty.ensures ∙ c.if-is_empty.true)))

pub returns-then-span-gt-OFFSETS : goal.returns-then-span-gt-OFFSETS
unfolding try_from_values_of
returns-then-span-gt-OFFSETS c =
    let l = c.args.values.now in
    let lo : to_z w32 (of_z w32 c.smallest-min.result) ≡ smallest_of l = read c.smallest-min.result (search rules) ∙ c.smallest-min.ensures in
    let hi : to_z w32 (of_z w32 c.largest-max.result) ≡ largest_of l = read c.largest-max.result (search rules) ∙ c.largest-max.ensures in
    let span = c.span.ensures ∙ (λ i. span_of (lo i) (hi i)) in
    rw (spread-some Ok (Err TooWide) l (eqb-false (length l) 0 (sym c.is_empty.ensures ∙ c.if-is_empty.false)), lt-leb (span_of (smallest_of l) (largest_of l)) offsets (omega (arith, span, c.if-span-gt-OFFSETS.true)))

pub gathered-requires : goal.gathered-requires
gathered-requires c =
    let l = c.args.values.now in
    let lo : to_z w32 (of_z w32 c.smallest-min.result) ≡ smallest_of l = read c.smallest-min.result (search rules) ∙ c.smallest-min.ensures in
    let hi : to_z w32 (of_z w32 c.largest-max.result) ≡ largest_of l = read c.largest-max.result (search rules) ∙ c.largest-max.ensures in
    let span = c.span.ensures ∙ (λ i. span_of (lo i) (hi i)) in
    rw (lo, hi) (le-leb (span_of (smallest_of l) (largest_of l)) offsets (omega (arith, span, c.if-span-gt-OFFSETS.false)), spread-within l)

pub returns : goal.returns
unfolding try_from_values_of
returns c =
    let l = c.args.values.now in
    let lo : to_z w32 (of_z w32 c.smallest-min.result) ≡ smallest_of l = read c.smallest-min.result (search rules) ∙ c.smallest-min.ensures in
    let hi : to_z w32 (of_z w32 c.largest-max.result) ≡ largest_of l = read c.largest-max.result (search rules) ∙ c.largest-max.ensures in
    let span = c.span.ensures ∙ (λ i. span_of (lo i) (hi i)) in
    let n : narrow (smallest_of l) (largest_of l) ≡ true = le-leb (span_of (smallest_of l) (largest_of l)) offsets (omega (arith, span, c.if-span-gt-OFFSETS.false)) in
    rw (spread-some Ok (Err TooWide) l (eqb-false (length l) 0 (sym c.is_empty.ensures ∙ c.if-is_empty.false)), n)
    (ap Ok (c.gathered.ensures ∙ (λ i. among (lo i) (hi i) l)))
