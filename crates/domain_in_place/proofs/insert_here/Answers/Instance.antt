-- `domain_in_place::insert_here` is an instance of `in_place`'s law `here`, at `domain_in_place::insert`. Assumes nothing.
use Rattle.std.specs.Prelude.{refl, [], ◌∷◌}
use base.Logic.{emp}
use contract.Monad.{fact_i}
use Rattle.in_place.proofs.Contracts.{Holds}
use Rattle.in_place.proofs.Here.{here}
use Rattle.domain.specs.Calls.{insert_of}
use Rattle.domain_in_place.proofs.insert.Symbol as callee
use Rattle.domain_in_place.proofs.insert.Met.{met}
use Rattle.domain_in_place.proofs.Data.{domain, told, both_told, value}
use Rattle.domain_in_place.specs.contracts.insert_here.{clauses}
use Rattle.domain_in_place.specs.contracts.insert_here.Key as call
use Rattle.domain_in_place.proofs.insert_here.Statement.{statement}
use Rattle.domain_in_place.proofs.insert_here.Code as code

holds : Holds domain told both_told (value ∷ []) insert_of (λ M 𝓤 𝓛. clauses 𝓛)
holds M 𝓤 𝓛 m run κs a g r ws e = fact_i 𝓤 _ (emp 𝓤) e

pub insert_here_is_here : {M : Type 1} → statement M
insert_here_is_here 𝓤 𝓛 𝓜 𝓡 wired =
    here domain told both_told (value ∷ []) callee.name insert_of (λ M 𝓤 𝓛. clauses 𝓛) holds 𝓛 𝓜 𝓡
    𝓡.env call.name (code.unfolded 𝓤 𝓛.H 𝓜 𝓡 wired) (𝓡.env callee.name) refl (met 𝓤 𝓛 𝓜 𝓡 (code.calls-domain_in_place::insert 𝓡.env wired))
