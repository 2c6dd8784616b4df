-- `board_in_place::assign_variable` is an instance of `in_place`'s law `thin`, at `board_close::assign_variable`. Assumes nothing.
use Rattle.std.specs.Prelude.{refl, [], ◌∷◌}
use base.Logic.{emp}
use contract.Monad.{fact_i}
use Rattle.in_place.proofs.Contracts.{HoldsBehind}
use Rattle.in_place.proofs.Thin.{thin}
use Rattle.rules.specs.Board.{assign}
use Rattle.board_close.specs.Close.{close_of}
use Rattle.board_close.proofs.assign_variable.Symbol as callee
use Rattle.board_close.proofs.assign_variable.Met.{met}
use Rattle.board_in_place.proofs.Data.{board, told, both_told, variable, value}
use Rattle.board_in_place.specs.contracts.assign_variable.{clauses}
use Rattle.board_in_place.specs.contracts.assign_variable.Key as call
use Rattle.board_in_place.proofs.assign_variable.Statement.{statement}
use Rattle.board_in_place.proofs.assign_variable.Code as code

holds : HoldsBehind board told both_told (variable ∷ value ∷ []) (close_of assign) (λ M 𝓤 𝓛. clauses 𝓛)
holds M 𝓤 𝓛 m run κs a g r ws e = fact_i 𝓤 _ (emp 𝓤) e

pub assign_variable_is_thin : {M : Type 1} → statement M
assign_variable_is_thin 𝓤 𝓛 𝓜 𝓡 wired =
    thin board told both_told (variable ∷ value ∷ []) callee.name (close_of assign) (λ M 𝓤 𝓛. clauses 𝓛) holds 𝓛 𝓜 𝓡
    𝓡.env call.name (code.unfolded 𝓤 𝓛.H 𝓜 𝓡 wired) (𝓡.env callee.name) refl (met 𝓤 𝓛 𝓜 𝓡 (code.calls-board_close::assign_variable 𝓡.env wired))
