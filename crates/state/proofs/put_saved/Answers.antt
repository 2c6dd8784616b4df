-- `state::put_saved` meets its contract: the saved words are one run of the words. Assumes nothing.
use Rattle.std.specs.Prelude.{◌++◌, ℕ, ◌+◌, take, drop}
use Rattle.std.proofs.Common.{sym, ap, ◌∙◌, append_assoc, arith, drop-drop}
use Rattle.std.proofs.lemmas.List.Edits.{sets-eq}
use Rattle.state.proofs.put_saved.Goals as goal

pub returns : goal.returns
returns c =
    let s = c.args.saved.now in
    let w = c.args.ws.now in
    (λ t. take 259 w ++ (c.copy_from_slice.ensures.after t ++ drop-drop 1024 259 w t))
    ∙ sym (sets-eq s w 259 (omega arith) ∙ ap (λ (k : ℕ). (take 259 w ++ s) ++ drop (259 + k) w) c.requires.0 ∙ append_assoc (take 259 w) s (drop 1283 w))
