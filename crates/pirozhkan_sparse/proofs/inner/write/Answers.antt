-- `pirozhkan_sparse::inner::write` meets its contract: five stores, one after the other. Assumes nothing.
use Rattle.std.specs.Prelude.{[], ◌∷◌, ◌++◌, ℕ, drop}
use Rattle.std.specs.Int.{w32}
use Rattle.std.proofs.Common.{ap, ◌∙◌, arith, length-set, SFits, rules}
use Rattle.std.proofs.lemmas.List.Edits.{sets-eq}
use Rattle.offset.specs.Wide.{read32}
use Rattle.state.specs.Layout.{half}
use Rattle.pirozhkan_sparse.proofs.inner.write.Goals as goal

pub bounds-ws-1 : goal.bounds-ws-1
bounds-ws-1 c = simp length-set (omega arith)

pub bounds-ws-2 : goal.bounds-ws-2
bounds-ws-2 c = simp length-set (omega arith)

pub bounds-ws-3 : goal.bounds-ws-3
bounds-ws-3 c = simp length-set (omega arith)

pub bounds-ws-4 : goal.bounds-ws-4
bounds-ws-4 c = simp length-set (omega arith)

pub returns : goal.returns
returns c =
    let a = c.args in
    let s = a.s in
    let f : SFits w32 s.off = search rules in
    sets-eq (c.half_of.result ∷ s.n ∷ s.size ∷ s.min ∷ s.max ∷ []) a.ws.now 0 (omega arith)
    ∙ ap (λ (o : ℕ). (o ∷ s.n ∷ s.size ∷ s.min ∷ s.max ∷ []) ++ drop 5 a.ws.now) (c.half_of.ensures.0 ∙ ap half (read32 f))
