-- `domain_in_place::remove` is an instance of `in_place`'s law `thin`, at `domain::remove`. Assumes nothing.
use Rattle.std.specs.Prelude.{refl, [], ◌∷◌}
use base.Logic.{emp}
use contract.Monad.{fact_i}
use Rattle.in_place.proofs.Contracts.{HoldsBehind}
use Rattle.in_place.proofs.Thin.{thin}
use Rattle.domain.specs.Calls.{remove_of}
use Rattle.domain.proofs.change.remove.Symbol as callee
use Rattle.domain.proofs.change.remove.Met.{met}
use Rattle.domain_in_place.proofs.Data.{domain, told, both_told, value}
use Rattle.domain_in_place.specs.contracts.remove.{clauses}
use Rattle.domain_in_place.specs.contracts.remove.Key as call
use Rattle.domain_in_place.proofs.remove.Statement.{statement}
use Rattle.domain_in_place.proofs.remove.Code as code

holds : HoldsBehind domain told both_told (value ∷ []) remove_of (λ M 𝓤 𝓛. clauses 𝓛)
holds M 𝓤 𝓛 m run κs a g r ws e = fact_i 𝓤 _ (emp 𝓤) e

pub remove_is_thin : {M : Type 1} → statement M
remove_is_thin 𝓤 𝓛 𝓜 𝓡 wired =
    thin domain told both_told (value ∷ []) callee.name remove_of (λ M 𝓤 𝓛. clauses 𝓛) holds 𝓛 𝓜 𝓡
    𝓡.env call.name (code.unfolded 𝓤 𝓛.H 𝓜 𝓡 wired) (𝓡.env callee.name) refl (met 𝓤 𝓛 𝓜 𝓡 (code.calls-domain::change::remove 𝓡.env wired))
