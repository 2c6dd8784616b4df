-- `state::write` meets its contract: its stores, one after the other, are those of the words from the first on. Assumes nothing.
use Rattle.std.specs.Prelude.{[], ◌∷◌, List, ℕ}
use Rattle.std.proofs.Common.{ap, ◌∙◌, rules}
use Rattle.std.proofs.lemmas.List.Edits.{sets}
use Rattle.board.specs.Obeys.{Whole}
use Rattle.board.proofs.ViewLaws.{mapped}
use Rattle.state.specs.Layout.{rows_words}
use Rattle.state.proofs.Halves.{flag-from}
use Rattle.state.proofs.Theorems.{stores}
use Rattle.state.proofs.write.Goals as goal

pub returns : goal.returns
returns c =
    let b = c.args.b in
    let w = c.args.ws.now in
    let whole : Whole b = record { rows = search (rules, mapped); saved = search rules } in
    c.put_saved.ensures
    ∙ ap (λ (l : List ℕ). sets l 259 b.saved) c.put_rows.ensures
    ∙ ap (λ (x : ℕ). sets (sets (sets w 0 (b.count ∷ b.marks ∷ x ∷ [])) 3 (rows_words b.rows)) 259 b.saved) (c.from.ensures ∙ flag-from b.changed)
    ∙ stores b w whole c.requires
