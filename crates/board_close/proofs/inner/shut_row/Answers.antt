-- `board_close::inner::shut_row` meets its contract: the mask changes exactly if the closing takes a chute. Assumes nothing.
use Rattle.std.specs.Prelude.{not, eqb}
use Rattle.std.proofs.Common.{ap, ◌∙◌}
use Rattle.mask.specs.Val.{val}
use Rattle.domain.specs.declared.BitDomain.{BitDomain}
use Rattle.closing.specs.Kinds.{kind_of}
use Rattle.board_close.proofs.Closing.{took}
use Rattle.board_close.proofs.inner.shut_row.Goals as goal

pub returns : goal.returns
returns c =
    let d = c.args.row.domain in
    let yes =
    ap not (c.same.ensures ∙ ap (λ (e : BitDomain). eqb (val e.mask) (val d.mask)) c.narrowed-e.ensures)
    ∙ took (kind_of c.args.kind) c.args.v.0 d c.requires in
    λ i. record { row = record { id = c.args.row.id; domain = c.narrowed-e.ensures i }; yes = yes i }
