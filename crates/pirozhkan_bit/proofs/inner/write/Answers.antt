-- `pirozhkan_bit::inner::write` meets its contract: three stores, one after the other. Assumes nothing.
use Rattle.std.specs.Prelude.{◌≡◌, [], ◌∷◌, ◌++◌, ℕ, drop}
use Rattle.std.specs.Int.{w32}
use Rattle.std.proofs.Common.{ap, ◌∙◌, arith, SFits, rules}
use Rattle.std.proofs.lemmas.List.Edits.{sets-eq}
use Rattle.offset.specs.Wide.{read32}
use Rattle.state.specs.Layout.{ends_word}
use Rattle.pirozhkan_bit.proofs.inner.write.Goals as goal

pub returns : goal.returns
returns c =
    let a = c.args in
    let d = a.d in
    let f : SFits w32 d.min = search rules in
    let g : SFits w32 d.max = search rules in
    let ends : c.ends_word.result ≡ ends_word d.min d.max = c.ends_word.ensures ∙ λ t. ends_word (read32 f t) (read32 g t) in
    sets-eq (c.ends_word.result ∷ d.mask.lo ∷ d.mask.hi ∷ []) a.ws.now 0 (omega arith)
    ∙ ap (λ (e : ℕ). (e ∷ d.mask.lo ∷ d.mask.hi ∷ []) ++ drop 3 a.ws.now) ends
