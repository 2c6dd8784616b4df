-- `domain_values::make::offsets_of` meets its contract: each value's offset is that of the universe. Assumes nothing.
use Rattle.std.specs.Prelude.{pos}
use Rattle.std.proofs.Common.{sym, ◌∙◌, arith, SFits, leb-true, rules}
use Rattle.std.specs.Int.{w32}
use lib.ListN.{get_or}
use Rattle.mask.specs.Val.{val, offsets}
use Rattle.offset.specs.Places.{span_of}
use Rattle.domain.proofs.Signed.{read}
use Rattle.domain_values.proofs.Spread.{at_lt, bits-more, bits-end, place-is}
use Rattle.domain_values.proofs.make.offsets_of.Goals as goal

pub with-m-requires : goal.with-m-requires
with-m-requires c =
    let a = c.args in
    let l = a.values.now in
    let i = c.loop-v.v-index in
    let p = place-is a.min a.max (get_or l i (pos 0)) c.span-n.result c.place.result (search rules) (search rules) (search rules) c.span-n.ensures c.place.ensures in
    omega (arith, p, at_lt a.min a.max l c.requires.1 i c.loop-v-test.true, leb-true (span_of a.min a.max) offsets c.requires.0)

pub loop-v-preserved : goal.loop-v-preserved
loop-v-preserved c =
    let a = c.args in
    let l = a.values.now in
    let at = c.loop-v in
    let i = at.v-index in
    let f : SFits w32 a.min = search rules in
    let p = place-is a.min a.max (get_or l i (pos 0)) c.span-n.result c.place.result f (search rules) (search rules) c.span-n.ensures c.place.ensures in
    rw (c.with-m.ensures, p, read a.min f) (sym (bits-more a.min a.max l c.requires.1 (val at.m) i c.loop-v-test.true) ∙ rw (read a.min f) at at.invariant)

pub returns : goal.returns
returns c =
    let a = c.args in
    let f : SFits w32 a.min = search rules in
    sym (bits-end a.min a.values.now (val c.loop-v.m) c.loop-v.v-index c.loop-v-test.false) ∙ rw (read a.min f) at c.loop-v.invariant
