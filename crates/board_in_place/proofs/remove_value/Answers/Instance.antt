-- `board_in_place::remove_value` is an instance of `in_place`'s law `thin`, at `board_close::remove_value`. Assumes nothing.
use Rattle.std.specs.Prelude.{refl, [], ◌∷◌}
use base.Logic.{emp}
use contract.Monad.{fact_i}
use Rattle.in_place.proofs.Contracts.{HoldsBehind}
use Rattle.in_place.proofs.Thin.{thin}
use Rattle.rules.specs.Board.{remove}
use Rattle.board_close.specs.Close.{close_of}
use Rattle.board_close.proofs.remove_value.Symbol as callee
use Rattle.board_close.proofs.remove_value.Met.{met}
use Rattle.board_in_place.proofs.Data.{board, told, both_told, variable, value}
use Rattle.board_in_place.specs.contracts.remove_value.{clauses}
use Rattle.board_in_place.specs.contracts.remove_value.Key as call
use Rattle.board_in_place.proofs.remove_value.Statement.{statement}
use Rattle.board_in_place.proofs.remove_value.Code as code

holds : HoldsBehind board told both_told (variable ∷ value ∷ []) (close_of remove) (λ M 𝓤 𝓛. clauses 𝓛)
holds M 𝓤 𝓛 m run κs a g r ws e = fact_i 𝓤 _ (emp 𝓤) e

pub remove_value_is_thin : {M : Type 1} → statement M
remove_value_is_thin 𝓤 𝓛 𝓜 𝓡 wired =
    thin board told both_told (variable ∷ value ∷ []) callee.name (close_of remove) (λ M 𝓤 𝓛. clauses 𝓛) holds 𝓛 𝓜 𝓡
    𝓡.env call.name (code.unfolded 𝓤 𝓛.H 𝓜 𝓡 wired) (𝓡.env callee.name) refl (met 𝓤 𝓛 𝓜 𝓡 (code.calls-board_close::remove_value 𝓡.env wired))
