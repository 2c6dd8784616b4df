-- `domain_in_place::remove_here` is an instance of `in_place`'s law `here`, at `domain_in_place::remove`. Assumes nothing.
use Rattle.std.specs.Prelude.{refl, [], ◌∷◌}
use base.Logic.{emp}
use contract.Monad.{fact_i}
use Rattle.in_place.proofs.Contracts.{Holds}
use Rattle.in_place.proofs.Here.{here}
use Rattle.domain.specs.Calls.{remove_of}
use Rattle.domain_in_place.proofs.remove.Symbol as callee
use Rattle.domain_in_place.proofs.remove.Met.{met}
use Rattle.domain_in_place.proofs.Data.{domain, told, both_told, value}
use Rattle.domain_in_place.specs.contracts.remove_here.{clauses}
use Rattle.domain_in_place.specs.contracts.remove_here.Key as call
use Rattle.domain_in_place.proofs.remove_here.Statement.{statement}
use Rattle.domain_in_place.proofs.remove_here.Code as code

holds : Holds domain told both_told (value ∷ []) remove_of (λ M 𝓤 𝓛. clauses 𝓛)
holds M 𝓤 𝓛 m run κs a g r ws e = fact_i 𝓤 _ (emp 𝓤) e

pub remove_here_is_here : {M : Type 1} → statement M
remove_here_is_here 𝓤 𝓛 𝓜 𝓡 wired =
    here domain told both_told (value ∷ []) callee.name remove_of (λ M 𝓤 𝓛. clauses 𝓛) holds 𝓛 𝓜 𝓡
    𝓡.env call.name (code.unfolded 𝓤 𝓛.H 𝓜 𝓡 wired) (𝓡.env callee.name) refl (met 𝓤 𝓛 𝓜 𝓡 (code.calls-domain_in_place::remove 𝓡.env wired))
