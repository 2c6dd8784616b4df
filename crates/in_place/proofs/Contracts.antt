-- The contracts of a call on a state d with further parameters x, by value and through a reference, for a definition f. They are what the
-- contracts `result ≡ f d x` and `both d.new result ≡ f d.old x` of a program mean.
--     Answers, AnswersBehind           what each tells
--     ByValue, Behind                  the same as triples: all that a caller knows of its callee
--     Holds, HoldsBehind, as-stated    the clauses that a program states follow from what is told, so a run that tells it meets them
-- `as-stated` assumes `Logic`. All else assumes nothing.
use Rattle.std.specs.Prelude.{◌≡◌, List, [], ◌∷◌}
use mir.Val.{Val}
use seplogic.Ra.Ura.{Ura}
use base.Logic.{SProp, ent, emp, id⊢, via, mono_r}
use prog.Memory.{Memory}
use prog.Routine.{Routine}
use types.Logic.{Logic, sem}
use contract.Monad.{Fun, Mono, fact, fact_i, fact_use, top}
use contract.Lifetimes.{Lfts}
use denote.Exit.{yes as kept}
use denote.Signature.{Signature, plain, mut_ref_to}
use denote.Triple.Entry.{Args, Res}
use denote.Triple.Statement.{Contract}
use denote.Triple.Spec.{triple_of, Meets}
use denote.Triple.Clauses.{Ended, Lasts, AtExit, at_exit, lasts, Clauses, closing}
use denote.Triple.Weaken.{weaken_under}
use Rattle.in_place.proofs.PlainData.{Kind, row, Two, result}
use Rattle.in_place.proofs.Parameters.{Curried, apply, slots, keeps, of}

-- ---- a contract with no `requires` that tells Φ, of any signature, and the clauses that a program's module states
module _ (T : Ended) where
  abbrev pub Stated : Type 2
  Stated = (M : Type 1) (𝓤 : Ura M) (𝓛 : Logic 𝓤) → (Memory → SProp 𝓤) → (Routine → Fun 𝓤) → Clauses 𝓤 T

  module _ (Φ : (κs : Lfts T.signature.lifetimes) (a : Args T.signature κs) → Res T.signature κs → AtExit T κs → Type 0) where
    abbrev pub telling : {M : Type 1} (𝓤 : Ura M) → Clauses 𝓤 T
    telling 𝓤 κs a = record { ghost = Unit {0}; requires = λ g. emp 𝓤; ensures = λ g r e. fact 𝓤 (Φ κs a r e) }

    -- what is stated holds of what is told
    abbrev pub HoldsOf : Stated → Type 2
    HoldsOf c = (M : Type 1) (𝓤 : Ura M) (𝓛 : Logic 𝓤) (m : Memory → SProp 𝓤) (run : Routine → Fun 𝓤) (κs : Lfts T.signature.lifetimes) (a : Args T.signature κs) (g : (c M 𝓤 𝓛 m run κs a).ghost) (r : Res T.signature κs) (ws : Lasts T κs a)
        → Φ κs a r (at_exit T κs a ws) → ent 𝓤 (emp 𝓤) ((c M 𝓤 𝓛 m run κs a).ensures g r (at_exit T κs a ws))

    -- so a run that tells Φ meets what is stated, whatever that requires
    pub as-stated : (c : Stated) → HoldsOf c → {M : Type 1} {𝓤 : Ura M} (𝓛 : Logic 𝓤) (m : Memory → SProp 𝓤) (runs : Routine → Fun 𝓤) (run : Fun 𝓤) → ((vs : List Val) → Mono 𝓤 (run vs))
        → Meets 𝓛 T.signature run (closing 𝓛 T (telling 𝓤)) → Meets 𝓛 T.signature run (closing 𝓛 T (c M 𝓤 𝓛 m runs))
    as-stated c holds {M} {𝓤 = 𝓤} 𝓛 m runs =
        let stated : Clauses 𝓤 T = c M 𝓤 𝓛 m runs in
        weaken_under 𝓛 T (telling 𝓤) stated (λ κs a g. tt) (λ κs a g. Unit {0}) (λ κs a g. fact_i 𝓤 (Unit {0}) ((stated κs a).requires g) tt) (λ κs a g _. top 𝓤 ((stated κs a).requires g))
        (λ κs a g _ r ws. mono_r 𝓤 (sem 𝓛 (lasts T κs a ws)) (fact_use 𝓤 (Φ κs a r (at_exit T κs a ws)) (id⊢ 𝓤 _) (λ e. via 𝓤 (emp 𝓤) (top 𝓤 (fact 𝓤 (Φ κs a r (at_exit T κs a ws)))) (holds M 𝓤 𝓛 m runs κs a g r ws e))))

-- ---- of a call on a state, with the parameters Ps
module _ (T O : Kind) (R : Two T O) (Ps : List Kind) where
  abbrev pub by_value : Signature
  by_value = record { lifetimes = 0; outlives = []; params = plain (λ _. row T) ∷ slots 0 Ps; result = plain (λ _. result T O R) }

  abbrev pub by-value-ended : Ended
  by-value-ended = record { signature = by_value; kept = (kept, keeps 0 Ps) }

  abbrev pub behind : Signature
  behind = record { lifetimes = 1; outlives = []; params = mut_ref_to (0 ∷ []) tt (plain (λ _. row T)) ∷ slots 1 Ps; result = plain (λ _. row O) }

  abbrev pub behind-ended : Ended
  behind-ended = record { signature = behind; kept = (kept, keeps 1 Ps) }

  module _ (f : T.D → Curried Ps R.D) where
    -- by value the result is f's; behind a reference the last value and the answer, taken together, are
    abbrev pub Answers : (κs : Lfts 0) (a : Args by_value κs) → R.D → AtExit by-value-ended κs → Type 0
    Answers κs a r e = r ≡ apply Ps (f a.0) (of 0 κs Ps a.1)

    abbrev pub AnswersBehind : (κs : Lfts 1) (a : Args behind κs) → O.D → AtExit behind-ended κs → Type 0
    AnswersBehind κs a r e = R.both e.0.now r ≡ apply Ps (f a.0.now) (of 1 κs Ps a.1)

    abbrev pub Holds : Stated by-value-ended → Type 2
    Holds = HoldsOf by-value-ended Answers

    abbrev pub HoldsBehind : Stated behind-ended → Type 2
    HoldsBehind = HoldsOf behind-ended AnswersBehind

    module _ {M : Type 1} (𝓤 : Ura M) where
      abbrev pub by-value-clauses : Clauses 𝓤 by-value-ended
      by-value-clauses = telling by-value-ended Answers 𝓤

      abbrev pub behind-clauses : Clauses 𝓤 behind-ended
      behind-clauses = telling behind-ended AnswersBehind 𝓤

      module _ (𝓛 : Logic 𝓤) where
        abbrev pub ByValue : Contract 𝓤
        ByValue = triple_of 𝓛 by_value (closing 𝓛 by-value-ended by-value-clauses)

        abbrev pub Behind : Contract 𝓤
        Behind = triple_of 𝓛 behind (closing 𝓛 behind-ended behind-clauses)
