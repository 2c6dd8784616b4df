-- `board_in_place::remove_below_here` is an instance of `in_place`'s law `here`, at `board_in_place::remove_below`. Assumes nothing.
use Rattle.std.specs.Prelude.{refl, [], ◌∷◌}
use base.Logic.{emp}
use contract.Monad.{fact_i}
use Rattle.in_place.proofs.Contracts.{Holds}
use Rattle.in_place.proofs.Here.{here}
use Rattle.rules.specs.Board.{below}
use Rattle.board_close.specs.Close.{close_of}
use Rattle.board_in_place.proofs.remove_below.Symbol as callee
use Rattle.board_in_place.proofs.remove_below.Met.{met}
use Rattle.board_in_place.proofs.Data.{board, told, both_told, variable, value}
use Rattle.board_in_place.specs.contracts.remove_below_here.{clauses}
use Rattle.board_in_place.specs.contracts.remove_below_here.Key as call
use Rattle.board_in_place.proofs.remove_below_here.Statement.{statement}
use Rattle.board_in_place.proofs.remove_below_here.Code as code

holds : Holds board told both_told (variable ∷ value ∷ []) (close_of below) (λ M 𝓤 𝓛. clauses 𝓛)
holds M 𝓤 𝓛 m run κs a g r ws e = fact_i 𝓤 _ (emp 𝓤) e

pub remove_below_here_is_here : {M : Type 1} → statement M
remove_below_here_is_here 𝓤 𝓛 𝓜 𝓡 wired =
    here board told both_told (variable ∷ value ∷ []) callee.name (close_of below) (λ M 𝓤 𝓛. clauses 𝓛) holds 𝓛 𝓜 𝓡
    𝓡.env call.name (code.unfolded 𝓤 𝓛.H 𝓜 𝓡 wired) (𝓡.env callee.name) refl (met 𝓤 𝓛 𝓜 𝓡 (code.calls-board_in_place::remove_below 𝓡.env wired))
