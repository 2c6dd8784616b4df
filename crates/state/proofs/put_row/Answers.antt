-- `state::put_row` meets its contract: four stores, one after the other. Assumes nothing.
use Rattle.std.specs.Prelude.{[], ◌∷◌, ℕ, ◌≡◌}
use Rattle.std.specs.Int.{w32}
use Rattle.std.proofs.Common.{ap, SFits, ◌∙◌, rules}
use Rattle.std.proofs.lemmas.List.Edits.{sets}
use Rattle.offset.specs.Wide.{read32}
use Rattle.state.specs.Layout.{start, ends_word}
use Rattle.state.proofs.Runs.{four-sets}
use Rattle.state.proofs.put_row.Goals as goal

pub returns : goal.returns
returns c =
    let a = c.args in
    let d = a.row.domain in
    let w = a.ws.now in
    let f : SFits w32 d.min = search rules in
    let g : SFits w32 d.max = search rules in
    let ends : c.ends_word.result ≡ ends_word d.min d.max = c.ends_word.ensures ∙ λ t. ends_word (read32 f t) (read32 g t) in
    four-sets w (start a.i) a.row.id.0 c.ends_word.result d.mask.lo d.mask.hi
    ∙ ap (λ (e : ℕ). sets w (start a.i) (a.row.id.0 ∷ e ∷ d.mask.lo ∷ d.mask.hi ∷ [])) ends
