-- `board_close::close` meets its contract: `look_among` tells a board that isn't well formed, an id that isn't registered, and the row of one that is. Assumes nothing.
use Rattle.std.specs.Prelude.{◌≡◌, false, ℕ, Option, Result}
use Rattle.std.specs.declared.result.Result.TheVariants.{Ok, Err}
use Rattle.rules.specs.declared.Refusal.{Refusal}
use Rattle.std.proofs.Common.{sym, ap, ◌∙◌}
use Rattle.rules.proofs.Tests.{or-false}
use Rattle.closing.specs.Kinds.{kind_of}
use Rattle.board.specs.Rows.{with_rows}
use Rattle.board.specs.Answers.{said, unsaid}
use Rattle.board_close.proofs.Closing.{row-well, closed-row, closed-none, closed-broken}
use Rattle.board_close.proofs.close.Goals as goal
use Rattle.board_close.proofs.close.Goals.{in-Ok+in-Some, in-Ok+in_default-place, in_default}

not-both : {r : Result (Option ℕ) Refusal} {o : Option ℕ} {e : Refusal} → r ≡ Ok o → r ≡ Err e → ⊥
not-both p q = let z = sym p ∙ q in absurd (cc)

pub shut_row-s-requires : goal.shut_row-s-requires
shut_row-s-requires c = row-well c.args.b c.args.id c.in-Ok.place c.in-Ok.ensures c.in-Some.at c.in-Some.is

pub returns-in-Ok-looked : goal.returns-in-Ok-looked
returns-in-Ok-looked c =
    let a = c.args in
    elim c.match-looked.branch [
      | in-Ok+in-Some w ↦ rw (w.rows-is, w.yes-is) (closed-row a.b a.id w.in-Ok.place w.in-Ok.ensures (kind_of a.kind) a.v w.in-Some.at w.in-Some.is w.shut_row-s.result w.shut_row-s.ensures)
      | in-Ok+in_default-place w ↦ rw (w.rows-is, w.yes-is)
          (ap (λ y. said (with_rows a.b a.b.rows y) false) (or-false a.b.changed) ∙ closed-none a.b a.id w.in-Ok.place w.in-Ok.ensures (kind_of a.kind) a.v w.in_default-place.is)
      | in_default w ↦ absurd (not-both c.in-Ok-looked.is (w.looked-is ∙ w.in_default.is))
    ]

pub returns-in-Err : goal.returns-in-Err
returns-in-Err c =
    let a = c.args in
    elim c.match-looked.branch [
      | in-Ok+in-Some w ↦ absurd (not-both w.looked-is c.in-Err.is)
      | in-Ok+in_default-place w ↦ absurd (not-both w.looked-is c.in-Err.is)
      | in_default w ↦ rw (w.rows-is, w.yes-is)
          (ap (λ y. unsaid (with_rows a.b a.b.rows y) c.in-Err.r) (or-false a.b.changed) ∙ closed-broken (kind_of a.kind) a.b a.id a.v c.in-Err.r (sym c.in-Err.is ∙ w.looked-is ∙ c.look_among-looked.ensures))
    ]
