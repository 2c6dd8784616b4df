-- Trials: the work in force since a mark, the ways to give each destination one chute, and what it is that a trial keeps exactly.
use Rattle.std.specs.Prelude.{cond, List, [], ◌∷◌, ◌++◌, map, ◌↔◌, ℕ, T, ℤ}
use Rattle.rules.specs.Sets.{has, keep, Every, Different}
use Rattle.rules.specs.Board.{Rows, known, domain, leaves, Closing, Call, register, close, batch, spread, ready, mark, restore, release, reset, ask, Board, taken, act, run}

-- ---- the work in force

-- what narrows domains: a closing, or a list that was propagated
pub data Work : Type 0 where
  closing : Closing → Work
  listed : List ℕ → Work

-- closings of ids that aren't registered close nothing
abbrev pub closings : Rows → List Closing → List Work
closings rs ks = map closing (keep (λ k. known rs k.id) ks)

-- the work since each mark that is open, from the trial's own on, the newest mark first. No mark: the trial is over
abbrev pub Log : Type 0
Log = List (List Work)

-- an accepted call is noted. Restoring a mark undoes the work since; keeping one leaves it to the next older mark
abbrev pub note : Call → Rows → Log → Log
note c rs [] = []
note (register i vs) rs (f ∷ l) = f ∷ l
note (close k) rs (f ∷ l) = (closings rs (k ∷ []) ++ f) ∷ l
note (batch ks) rs (f ∷ l) = (closings rs ks ++ f) ∷ l
note (spread is) rs (f ∷ l) = (listed is ∷ f) ∷ l
note (ready is) rs (f ∷ l) = f ∷ l
note mark rs (f ∷ l) = [] ∷ f ∷ l
note restore rs (f ∷ l) = l
note release rs (f ∷ []) = []
note release rs (f ∷ g ∷ l) = (f ++ g) ∷ l
note reset rs (f ∷ l) = f ∷ l
note (ask q) rs (f ∷ l) = f ∷ l

-- the calls noted one after another; a refused one is left out
abbrev pub log : List Call → Board → Log → Log
log [] b l = l
log (c ∷ cs) b l = log cs (act c b) (cond (taken c b) (note c b.now l) l)

-- a trial: a mark on b, and then the calls cs; the board after them, and what is noted
abbrev pub after : Board → List Call → Board
after b cs = run cs (act mark b)

abbrev pub trial : Board → List Call → Log
trial b cs = log cs (act mark b) ([] ∷ [])

abbrev pub in_force : Log → List Work
in_force [] = []
in_force (f ∷ l) = f ++ in_force l

-- ---- ways to give each destination one chute

abbrev pub Way : Type 0
Way = ℕ → ℤ

abbrev pub Allowed : Rows → Way → Type 0
Allowed rs w = (i : ℕ) → T (known rs i) → T (has (w i) (domain rs i))

-- a closing permits a way that gives its destination a chute that it leaves open
abbrev pub Permits : Way → Work → Type 0
Permits w (closing k) = T (leaves k.kind k.value (w k.id))
Permits w (listed is) = Unit {0}

-- different chutes on a list
abbrev pub Differs : Way → Work → Type 0
Differs w (closing k) = Unit {0}
Differs w (listed is) = Different (map w is)

-- of the ways with different chutes on every list of f, rs allows exactly those that rs₀ allows and every closing of f permits
abbrev pub Follows : Rows → List Work → Rows → Type 0
Follows rs₀ f rs = (w : Way) → Every (Differs w) f → Allowed rs w ↔ (Allowed rs₀ w × Every (Permits w) f)
