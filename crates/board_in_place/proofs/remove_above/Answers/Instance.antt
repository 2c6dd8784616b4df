-- `board_in_place::remove_above` is an instance of `in_place`'s law `thin`, at `board_close::remove_above`. Assumes nothing.
use Rattle.std.specs.Prelude.{refl, [], ◌∷◌}
use base.Logic.{emp}
use contract.Monad.{fact_i}
use Rattle.in_place.proofs.Contracts.{HoldsBehind}
use Rattle.in_place.proofs.Thin.{thin}
use Rattle.rules.specs.Board.{above}
use Rattle.board_close.specs.Close.{close_of}
use Rattle.board_close.proofs.remove_above.Symbol as callee
use Rattle.board_close.proofs.remove_above.Met.{met}
use Rattle.board_in_place.proofs.Data.{board, told, both_told, variable, value}
use Rattle.board_in_place.specs.contracts.remove_above.{clauses}
use Rattle.board_in_place.specs.contracts.remove_above.Key as call
use Rattle.board_in_place.proofs.remove_above.Statement.{statement}
use Rattle.board_in_place.proofs.remove_above.Code as code

holds : HoldsBehind board told both_told (variable ∷ value ∷ []) (close_of above) (λ M 𝓤 𝓛. clauses 𝓛)
holds M 𝓤 𝓛 m run κs a g r ws e = fact_i 𝓤 _ (emp 𝓤) e

pub remove_above_is_thin : {M : Type 1} → statement M
remove_above_is_thin 𝓤 𝓛 𝓜 𝓡 wired =
    thin board told both_told (variable ∷ value ∷ []) callee.name (close_of above) (λ M 𝓤 𝓛. clauses 𝓛) holds 𝓛 𝓜 𝓡
    𝓡.env call.name (code.unfolded 𝓤 𝓛.H 𝓜 𝓡 wired) (𝓡.env callee.name) refl (met 𝓤 𝓛 𝓜 𝓡 (code.calls-board_close::remove_above 𝓡.env wired))
