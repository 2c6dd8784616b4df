-- `domain::inner::value` meets its contract: what stands below the universe's width is an i32. Assumes nothing.
use Rattle.std.specs.Int.{w32}
use Rattle.std.proofs.Common.{rules, SFits}
use Rattle.domain.proofs.Signed.{read}
use Rattle.offset.specs.Universe.{value_in}
use Rattle.domain.proofs.inner.value.Goals as goal

pub value-requires : goal.value-requires
value-requires c =
    let a = c.args in
    let f : SFits w32 a.d.min = search rules in
    rw (read a.d.min f) (value_in a.d.min a.d.max a.k f (search rules) c.requires)
