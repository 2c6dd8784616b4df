-- The real board plays a case as the rules' board does, where its domains are near enough to each other to be bit domains.
use Rattle.std.specs.Prelude.{◌≡◌, refl, Bool, List, [], ◌∷◌, ◌++◌, map, ℕ, suc, T}
use Rattle.std.proofs.Common.{◌∙◌}
use Rattle.ends.specs.Ends.{smallest_of, largest_of}
use Rattle.rules.specs.Sets.{Chutes, ascending, every}
use Rattle.rules.specs.Board as rules
use Rattle.rules.specs.Cases.{Case}
use Rattle.rules.proofs.Tests.{and_left, and_right, is_true}
use Rattle.domain.specs.Calls.{narrow}
use Rattle.domain_values.proofs.Theorems.{from-set}
use Rattle.board_enter.specs.Enter.{blank}
use Rattle.board_enter.proofs.Theorems.{blank-well, blank-whole, blank-view}
use Rattle.demand.specs.Script.{Made, call_of}
use Rattle.demand.proofs.Demand.{run-answers}
use Rattle.cases.specs.Played.{enters, run_of, script, wanted, Plays}

abbrev pub near : Chutes → Bool
near d = narrow (smallest_of d) (largest_of d)

-- the registrations, in the words of the rules
abbrev pub registers : ℕ → List Chutes → List rules.Call
registers i [] = []
registers i (d ∷ ds) = rules.register i (ascending d) ∷ registers (suc i) ds

calls_are : (i : ℕ) (ds : List Chutes) (ms : List Made) → T (every near ds) → map call_of (enters i ds ++ ms) ≡ registers i ds ++ map call_of ms
calls_are i [] ms h = refl
calls_are i (d ∷ ds) ms h =
    let e = from-set d (is_true (near d) (and_left (near d) (every near ds) h)) in
    let rest = calls_are (suc i) ds ms (and_right (near d) (every near ds) h) in
    λ t. rules.register i (e t) ∷ rest t

pub plays : (c : Case) → T (every near c.given) → rules.answers (registers 0 c.given ++ map call_of (run_of c.given)) rules.blank ≡ wanted c → Plays c
plays c h e =
    let cs = calls_are 0 c.given (run_of c.given) h in
    run-answers (script c.given) blank blank-whole blank-well ∙ (λ t. rules.answers (cs t) (blank-view t)) ∙ e
