-- `board_in_place::remove_below` is an instance of `in_place`'s law `thin`, at `board_close::remove_below`. Assumes nothing.
use Rattle.std.specs.Prelude.{refl, [], ◌∷◌}
use base.Logic.{emp}
use contract.Monad.{fact_i}
use Rattle.in_place.proofs.Contracts.{HoldsBehind}
use Rattle.in_place.proofs.Thin.{thin}
use Rattle.rules.specs.Board.{below}
use Rattle.board_close.specs.Close.{close_of}
use Rattle.board_close.proofs.remove_below.Symbol as callee
use Rattle.board_close.proofs.remove_below.Met.{met}
use Rattle.board_in_place.proofs.Data.{board, told, both_told, variable, value}
use Rattle.board_in_place.specs.contracts.remove_below.{clauses}
use Rattle.board_in_place.specs.contracts.remove_below.Key as call
use Rattle.board_in_place.proofs.remove_below.Statement.{statement}
use Rattle.board_in_place.proofs.remove_below.Code as code

holds : HoldsBehind board told both_told (variable ∷ value ∷ []) (close_of below) (λ M 𝓤 𝓛. clauses 𝓛)
holds M 𝓤 𝓛 m run κs a g r ws e = fact_i 𝓤 _ (emp 𝓤) e

pub remove_below_is_thin : {M : Type 1} → statement M
remove_below_is_thin 𝓤 𝓛 𝓜 𝓡 wired =
    thin board told both_told (variable ∷ value ∷ []) callee.name (close_of below) (λ M 𝓤 𝓛. clauses 𝓛) holds 𝓛 𝓜 𝓡
    𝓡.env call.name (code.unfolded 𝓤 𝓛.H 𝓜 𝓡 wired) (𝓡.env callee.name) refl (met 𝓤 𝓛 𝓜 𝓡 (code.calls-board_close::remove_below 𝓡.env wired))
