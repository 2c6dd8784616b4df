-- `domain_in_place::insert` is an instance of `in_place`'s law `thin`, at `domain::insert`. Assumes nothing.
use Rattle.std.specs.Prelude.{refl, [], ◌∷◌}
use base.Logic.{emp}
use contract.Monad.{fact_i}
use Rattle.in_place.proofs.Contracts.{HoldsBehind}
use Rattle.in_place.proofs.Thin.{thin}
use Rattle.domain.specs.Calls.{insert_of}
use Rattle.domain.proofs.change.insert.Symbol as callee
use Rattle.domain.proofs.change.insert.Met.{met}
use Rattle.domain_in_place.proofs.Data.{domain, told, both_told, value}
use Rattle.domain_in_place.specs.contracts.insert.{clauses}
use Rattle.domain_in_place.specs.contracts.insert.Key as call
use Rattle.domain_in_place.proofs.insert.Statement.{statement}
use Rattle.domain_in_place.proofs.insert.Code as code

holds : HoldsBehind domain told both_told (value ∷ []) insert_of (λ M 𝓤 𝓛. clauses 𝓛)
holds M 𝓤 𝓛 m run κs a g r ws e = fact_i 𝓤 _ (emp 𝓤) e

pub insert_is_thin : {M : Type 1} → statement M
insert_is_thin 𝓤 𝓛 𝓜 𝓡 wired =
    thin domain told both_told (value ∷ []) callee.name insert_of (λ M 𝓤 𝓛. clauses 𝓛) holds 𝓛 𝓜 𝓡
    𝓡.env call.name (code.unfolded 𝓤 𝓛.H 𝓜 𝓡 wired) (𝓡.env callee.name) refl (met 𝓤 𝓛 𝓜 𝓡 (code.calls-domain::change::insert 𝓡.env wired))
