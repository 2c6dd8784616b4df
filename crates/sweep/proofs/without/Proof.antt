-- `sweep::without` meets its contract: the bit of the value is cleared, and outside the offsets there is none. Assumes nothing.
use Rattle.std.specs.Prelude.{◌-ℤ◌, ◌≡◌}
use Rattle.std.proofs.Common.{sym, ap, ◌∙◌, arith, rules}
use Rattle.mask.specs.Val.{offsets}
use Rattle.offset.specs.Places.{place_of}
use Rattle.offset.specs.Wide.{read-diff}
use Rattle.sweep.proofs.Values.{strike-at, strike-none, outside, stands}
use Rattle.sweep.proofs.without.Statement.{statement}
use Rattle.sweep.proofs.without.Tie as tie

-- the offset that was found is the value's
found : (c : tie.After-place-k) → c.place-k.result ≡ place_of offsets (c.args.v -ℤ c.args.min)
found c = c.place-k.ensures ∙ ap (place_of offsets) (read-diff c.ranges.v c.ranges.min)

returns : tie.Need-returns-then-k-ge-OFFSETS
returns c =
    let a = c.args in
    sym (strike-none a.min a.v a.m (outside a.min a.v a.m (search rules) (omega (arith, found c.before))))

returns-2 : tie.Need-returns
returns-2 c =
    let a = c.args in
    let s = c.before.before in
    strike-at a.min a.v a.m c.without.result s.place-k.result (stands a.min a.v a.m s.place-k.result (found s) (search rules)) c.without.ensures

pub without_spec : {M : Type 1} → statement M
without_spec =
    tie.close
    (tie.spec
    (λ c κs. search rules)
    returns
    (λ c κs. search rules)
    returns-2)
