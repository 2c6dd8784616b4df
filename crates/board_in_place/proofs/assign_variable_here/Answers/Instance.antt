-- `board_in_place::assign_variable_here` is an instance of `in_place`'s law `here`, at `board_in_place::assign_variable`. Assumes nothing.
use Rattle.std.specs.Prelude.{refl, [], ◌∷◌}
use base.Logic.{emp}
use contract.Monad.{fact_i}
use Rattle.in_place.proofs.Contracts.{Holds}
use Rattle.in_place.proofs.Here.{here}
use Rattle.rules.specs.Board.{assign}
use Rattle.board_close.specs.Close.{close_of}
use Rattle.board_in_place.proofs.assign_variable.Symbol as callee
use Rattle.board_in_place.proofs.assign_variable.Met.{met}
use Rattle.board_in_place.proofs.Data.{board, told, both_told, variable, value}
use Rattle.board_in_place.specs.contracts.assign_variable_here.{clauses}
use Rattle.board_in_place.specs.contracts.assign_variable_here.Key as call
use Rattle.board_in_place.proofs.assign_variable_here.Statement.{statement}
use Rattle.board_in_place.proofs.assign_variable_here.Code as code

holds : Holds board told both_told (variable ∷ value ∷ []) (close_of assign) (λ M 𝓤 𝓛. clauses 𝓛)
holds M 𝓤 𝓛 m run κs a g r ws e = fact_i 𝓤 _ (emp 𝓤) e

pub assign_variable_here_is_here : {M : Type 1} → statement M
assign_variable_here_is_here 𝓤 𝓛 𝓜 𝓡 wired =
    here board told both_told (variable ∷ value ∷ []) callee.name (close_of assign) (λ M 𝓤 𝓛. clauses 𝓛) holds 𝓛 𝓜 𝓡
    𝓡.env call.name (code.unfolded 𝓤 𝓛.H 𝓜 𝓡 wired) (𝓡.env callee.name) refl (met 𝓤 𝓛 𝓜 𝓡 (code.calls-board_in_place::assign_variable 𝓡.env wired))
