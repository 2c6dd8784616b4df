-- The board by example: what the calls answer and leave, one after another.
use Rattle.std.specs.Prelude.{◌≡◌, refl, true, false, List, [], ◌∷◌, map, ℕ, zero, suc, ℤ, pos, negsuc}
use Rattle.rules.specs.declared.Refusal.TheVariants.{Full, TrialOpen, TooDeep, NoMark, Unknown, Repeated, TooLong, Empty}
use Rattle.rules.specs.Pass.{pass, raises, step1, step2}
use Rattle.rules.specs.Cases.{from, times}
use Rattle.rules.specs.Board.{Row, Board, blank, Kind, remove, assign, below, above, Closing, size_of, bounds_of, assigned, value_of, inconsistent, values_of, variables, domains_changed, Call, register, close, batch, spread, ready, mark, restore, release, reset, ask, Answer, done, said, outcome, count, chute, ends, held, named, denied, answer, run, answers}
use Rattle.rules.specs.Trial.{closing, listed, trial}

abbrev pub shutting : Kind → ℕ → ℤ → Closing
shutting k i v = record { kind = k; id = i; value = v }

-- a call, and what it must answer
pub record Step : Type 0 where
  pub call : Call
  pub tells : Answer

abbrev pub calls : List Step → List Call
calls ss = map (λ (s : Step). s.call) ss

abbrev pub wanted : List Step → List Answer
wanted ss = map (λ (s : Step). s.tells) ss

infix 20 ◌⇒◌
abbrev pub ◌⇒◌ : Call → Answer → Step
c ⇒ a = record { call = c; tells = a }

-- ---- the wave of 01's sheet: its registrations, its closings as one batch, its lists

unfoldable pub wave : List Step
wave =
    (register 20 (from 3 1) ⇒ done)
    ∷ (register 21 (from 3 1) ⇒ done)
    ∷ (register 22 (from 2 1) ⇒ done)
    ∷ (register 23 (from 1 7) ⇒ done)
    ∷ (batch (shutting remove 20 (pos 3) ∷ shutting assign 21 (pos 2) ∷ []) ⇒ count 2)
    ∷ (spread (20 ∷ 21 ∷ 22 ∷ []) ⇒ outcome true false)
    ∷ (spread (20 ∷ 99 ∷ []) ⇒ denied (Unknown 1))
    ∷ []

pub wave-answers : answers (calls wave) blank ≡ wanted wave
unfolding wave pass raises step1 step2
wave-answers = refl

pub wave-leaves : map (λ (r : Row). r.chutes) (run (calls wave) blank).now ≡ from 1 1 ∷ from 1 2 ∷ [] ∷ from 1 7 ∷ []
unfolding wave pass raises step1 step2
wave-leaves = refl

-- ---- each call

unfoldable pub day : List Step
day =
    -- values come out ascending, each once, and ids in order of first registration, also after one is registered anew
    (register 7 (pos 4 ∷ negsuc 0 ∷ pos 9 ∷ pos 4 ∷ []) ⇒ done)
    ∷ (register 5 (from 3 1) ⇒ done)
    ∷ (register 7 (pos 4 ∷ negsuc 0 ∷ pos 9 ∷ pos 4 ∷ []) ⇒ done)
    ∷ (ask variables ⇒ named (7 ∷ 5 ∷ []))
    ∷ (ask (values_of 7) ⇒ held (negsuc 0 ∷ pos 4 ∷ pos 9 ∷ []))
    ∷ (ask (size_of 7) ⇒ count 3)
    ∷ (ask (bounds_of 7) ⇒ ends (negsuc 0) (pos 9))
    -- closings answer whether something changed, and the flag follows
    ∷ (ask domains_changed ⇒ said true)
    ∷ (reset ⇒ done)
    ∷ (close (shutting remove 7 (pos 5)) ⇒ said false)
    ∷ (close (shutting below 7 (negsuc 0)) ⇒ said false)
    ∷ (ask domains_changed ⇒ said false)
    ∷ (close (shutting above 7 (pos 8)) ⇒ said true)
    ∷ (ask domains_changed ⇒ said true)
    ∷ (ask (assigned 7) ⇒ said false)
    ∷ (ask (value_of 7) ⇒ denied Empty)
    -- in a batch each closing meets what those before it left
    ∷ (batch (shutting below 7 (pos 0) ∷ shutting assign 7 (pos 4) ∷ shutting remove 99 (pos 1) ∷ shutting remove 5 (pos 2) ∷ []) ⇒ count 2)
    ∷ (ask (assigned 7) ⇒ said true)
    ∷ (ask (value_of 7) ⇒ chute (pos 4))
    ∷ (ready (7 ∷ []) ⇒ said true)
    ∷ (ready (7 ∷ 5 ∷ []) ⇒ said false)
    ∷ (ready [] ⇒ said true)
    -- what isn't held
    ∷ (close (shutting assign 7 (pos 6)) ⇒ said true)
    ∷ (ask (inconsistent 7) ⇒ said true)
    ∷ (ask (bounds_of 7) ⇒ denied Empty)
    ∷ (spread (7 ∷ []) ⇒ outcome false true)
    -- an id that isn't registered
    ∷ (close (shutting remove 99 (pos 1)) ⇒ said false)
    ∷ (ask (size_of 99) ⇒ count 0)
    ∷ (ask (values_of 99) ⇒ held [])
    ∷ (ask (assigned 99) ⇒ said false)
    ∷ (ask (inconsistent 99) ⇒ said true)
    ∷ (ask (bounds_of 99) ⇒ denied Empty)
    ∷ (ask (value_of 99) ⇒ denied Empty)
    -- the leftmost offending place, and no mark
    ∷ (spread (5 ∷ 7 ∷ 5 ∷ 99 ∷ []) ⇒ denied (Repeated 2))
    ∷ (ready (5 ∷ 99 ∷ 5 ∷ []) ⇒ denied (Unknown 1))
    ∷ (restore ⇒ denied NoMark)
    ∷ (release ⇒ denied NoMark)
    -- a trial: restore gives back the domains and leaves the flag
    ∷ (reset ⇒ done)
    ∷ (mark ⇒ done)
    ∷ (close (shutting assign 5 (pos 1)) ⇒ said true)
    ∷ (register 8 (from 1 1) ⇒ denied TrialOpen)
    ∷ (restore ⇒ done)
    ∷ (ask (values_of 5) ⇒ held (pos 1 ∷ pos 3 ∷ []))
    ∷ (ask domains_changed ⇒ said true)
    ∷ []

pub day-answers : answers (calls day) blank ≡ wanted day
unfolding day pass raises step1 step2
day-answers = refl

-- ---- limits

-- the n ids below n
abbrev pub first : ℕ → List ℕ
first zero = []
first (suc n) = n ∷ first n

-- a board of n destinations with nothing held, and m open marks
abbrev pub crowd : ℕ → ℕ → Board
crowd n m =
    let rs : List Row = map (λ i. record { id = i; chutes = [] }) (first n) in
    record { now = rs; saved = times m rs; changed = false }

-- the last that is taken and the first that is refused; and TrialOpen before Full
pub limits : answer (register 63 []) (crowd 63 0) ∷ answer (register 64 []) (crowd 64 0) ∷ answer (register 63 []) (crowd 64 0) ∷ answer (register 64 []) (crowd 64 1) ∷ answer mark (crowd 1 7) ∷ answer mark (crowd 1 8) ∷ answer (ready (first 64)) (crowd 64 0) ∷ answer (ready (first 65)) (crowd 64 0) ∷ [] ≡ done ∷ denied Full ∷ done ∷ denied TrialOpen ∷ done ∷ denied TooDeep ∷ said false ∷ denied TooLong ∷ []
limits = refl

-- ---- the work in force

unfoldable pub start : Board
start = run (calls wave) blank

-- close a chute; in an inner mark assign and propagate, and undo both; a list that is refused; in another inner mark a batch, one closing of which
-- names no destination, and a list, both kept; a registration that is refused
unfoldable pub attempt : List Call
attempt =
    close (shutting remove 23 (pos 8))
    ∷ mark ∷ close (shutting assign 21 (pos 2)) ∷ spread (20 ∷ 21 ∷ []) ∷ restore
    ∷ spread (20 ∷ 99 ∷ [])
    ∷ mark ∷ batch (shutting above 20 (pos 1) ∷ shutting remove 99 (pos 1) ∷ []) ∷ spread (23 ∷ 20 ∷ []) ∷ release
    ∷ register 24 (from 1 1)
    ∷ []

pub in-force : trial start attempt ≡ (listed (23 ∷ 20 ∷ []) ∷ closing (shutting above 20 (pos 1)) ∷ closing (shutting remove 23 (pos 8)) ∷ []) ∷ []
unfolding start attempt wave pass raises step1 step2
in-force = refl
