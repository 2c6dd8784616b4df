-- A case of the pass on the real board: its domains are registered, the flag is reset, the list is propagated, and each destination asked what it holds.
use Rattle.std.specs.Prelude.{◌≡◌, List, [], ◌∷◌, ◌++◌, map, ℕ, suc}
use Rattle.rules.specs.Sets.{Chutes}
use Rattle.rules.specs.Board as rules
use Rattle.rules.specs.Cases.{Case}
use Rattle.board_enter.specs.Enter.{blank}
use Rattle.trial.specs.Calls.{answers}
use Rattle.demand.specs.Script.{Made, add_values, propagate, reset_changed_flag, domains_changed, get_domain_values, steps}

-- the destinations from i on, one for each domain
abbrev pub ids_from : ℕ → List Chutes → List ℕ
ids_from i [] = []
ids_from i (d ∷ ds) = i ∷ ids_from (suc i) ds

abbrev pub enters : ℕ → List Chutes → List Made
enters i [] = []
enters i (d ∷ ds) = add_values (record { 0 = i }) d ∷ enters (suc i) ds

abbrev pub asks : ℕ → List Chutes → List Made
asks i [] = []
asks i (d ∷ ds) = get_domain_values (record { 0 = i }) ∷ asks (suc i) ds

-- the calls once the domains are registered
abbrev pub run_of : List Chutes → List Made
run_of ds = reset_changed_flag ∷ propagate (ids_from 0 ds) ∷ domains_changed ∷ asks 0 ds

abbrev pub script : List Chutes → List Made
script ds = enters 0 ds ++ run_of ds

-- what they must answer: each registration is accepted, then the reset, the pair, the flag, and what each destination holds
abbrev pub wanted : Case → List rules.Answer
wanted c = map (λ d. rules.done) c.given ++ (rules.done ∷ rules.outcome c.changed c.consistent ∷ rules.said c.flag ∷ map rules.held c.then)

abbrev pub Plays : Case → Type 0
Plays c = answers (steps (script c.given) blank) ≡ wanted c
