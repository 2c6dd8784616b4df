-- `state::half_of` meets its contract: every i32 has a place in half a word. Assumes nothing.
use Rattle.std.specs.Prelude.{◌≡◌, ℕ, ◌<◌, ◌^◌}
use Rattle.std.proofs.Common.{sym, ap, ◌∙◌, subst}
use Rattle.offset.specs.Wide.{read32}
use Rattle.state.specs.Layout.{half}
use Rattle.state.proofs.Halves.{half-small}
use Rattle.state.proofs.half_of.Goals as goal

pub returns : goal.returns
returns c =
    let e : c.place.result ≡ half c.args.v = c.place.ensures ∙ ap half (read32 c.ranges.v) in
    (e, subst (λ (n : ℕ). n < 2 ^ 32) (sym e) (half-small c.args.v c.ranges.v))
