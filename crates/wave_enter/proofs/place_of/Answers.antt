-- `wave_enter::place_of` meets its contract: an id whose cell isn't set is none of those before, and any other is sought. Assumes nothing.
use Rattle.std.specs.Prelude.{false, ℕ, ◌%◌, get_or}
use Rattle.std.proofs.Common.{sym, ap, ◌∙◌}
use Rattle.std.proofs.lemmas.Bool.{false≢true}
use Rattle.board.proofs.Seats.{seat-none}
use Rattle.wave_enter.specs.Registered.{place_for}
use Rattle.wave_enter.proofs.place_of.Goals as goal

pub returns-then-not-met-id : goal.returns-then-not-met-id
returns-then-not-met-id c =
    let a = c.args in
    let f : ℕ → ℕ = λ j. get_or a.ids.now j 0 in
    sym
    (ap (λ (p : ℕ). place_for p a.count)
    (seat-none f a.count a.id (λ k l q. false≢true (sym c.if-not-met-id.true ∙ sym (ap (λ (m : ℕ). get_or a.met.now (m % 1024) false) q) ∙ c.requires.1 k l))))
