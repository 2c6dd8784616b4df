-- The board of 01, "Board and pass", at the level of sets: its calls, when each is refused, what each answers and what it leaves.
-- Refusal 1 and the universes belong to the board's representation, and have no place here.
use Rattle.std.specs.Prelude.{◌≡◌, Bool, true, false, not, ◌&&◌, ◌||◌, cond, List, [], ◌∷◌, ◌++◌, map, ℕ, zero, suc, ◌≤◌, T, eqb, leb, ltb, length, ℤ}
use Rattle.std.specs.Int.Signed.{le_z}
use Rattle.rules.specs.declared.Refusal.{Refusal}
use Rattle.rules.specs.declared.Refusal.TheVariants.{Full, TrialOpen, TooDeep, NoMark, Unknown, Repeated, TooLong, Empty}
use Rattle.rules.specs.Sets.{Chutes, same, has, keep, some, every, ascending, smallest, largest, Every, Ascending}
use Rattle.rules.specs.Pass.{lost, pass, raises}

-- ---- destinations and their domains

pub record Row : Type 0 where
  pub id : ℕ
  pub chutes : Chutes

-- in order of first registration
abbrev pub Rows : Type 0
Rows = List Row

abbrev pub ids : Rows → List ℕ
ids rs = map (λ (r : Row). r.id) rs

abbrev pub among : ℕ → List ℕ → Bool
among i [] = false
among i (j ∷ is) = eqb i j || among i is

abbrev pub known : Rows → ℕ → Bool
known [] i = false
known (r ∷ rs) i = eqb i r.id || known rs i

-- a destination's domain: no chutes where it isn't registered
abbrev pub domain : Rows → ℕ → Chutes
domain [] i = []
domain (r ∷ rs) i = cond (eqb i r.id) r.chutes (domain rs i)

-- the same rows, with another domain for a registered destination
abbrev pub put : Rows → ℕ → Chutes → Rows
put [] i d = []
put (r ∷ rs) i d = cond (eqb i r.id) (record { id = r.id; chutes = d } ∷ rs) (r ∷ put rs i d)

-- and others for several, one after another
abbrev pub puts : Rows → List ℕ → List Chutes → Rows
puts rs [] ds = rs
puts rs (i ∷ is) [] = rs
puts rs (i ∷ is) (d ∷ ds) = put (puts rs is ds) i d

-- registering a known id replaces its domain, and a new one stands last
abbrev pub enter : Rows → ℕ → Chutes → Rows
enter rs i d = cond (known rs i) (put rs i d) (rs ++ (record { id = i; chutes = d } ∷ []))

-- the domains now, those that each open mark saved, the newest first, and `domains_changed`
pub record Board : Type 0 where
  pub now : Rows
  pub saved : List Rows
  pub changed : Bool

abbrev pub blank : Board
blank = record { now = []; saved = []; changed = false }

-- ---- closings

pub data Kind : Type 0 where
  remove assign below above : Kind

-- whether a closing by v leaves the chute x open
abbrev pub leaves : Kind → ℤ → ℤ → Bool
leaves remove v x = not (same x v)
leaves assign v x = same x v
leaves below v x = le_z v x
leaves above v x = le_z x v

-- whether it changes a domain: for remove its membership, else its size
abbrev pub closes : Kind → ℤ → Chutes → Bool
closes remove v d = has v d
closes assign v d = lost (keep (leaves assign v) d) d
closes below v d = lost (keep (leaves below v) d) d
closes above v d = lost (keep (leaves above v) d) d

pub record Closing : Type 0 where
  pub kind : Kind
  pub id : ℕ
  pub value : ℤ

-- what a closing answers; of an id that isn't registered there is nothing to change
abbrev pub tells : Closing → Rows → Bool
tells k rs = closes k.kind k.value (domain rs k.id)

-- the rows after a closing, and the board, whose flag it sets if it answers yes
abbrev pub shut : Closing → Rows → Rows
shut k rs = put rs k.id (keep (leaves k.kind k.value) (domain rs k.id))

abbrev pub shut_on : Closing → Board → Board
shut_on k b = record { now = shut k b.now; saved = b.saved; changed = b.changed || tells k b.now }

-- a batch: its closings in order, and how many of them answer yes
abbrev pub shut_all : List Closing → Board → Board
shut_all [] b = b
shut_all (k ∷ ks) b = shut_all ks (shut_on k b)

abbrev pub yeses : List Closing → Board → ℕ
yeses [] b = zero
yeses (k ∷ ks) b = let n = yeses ks (shut_on k b) in cond (tells k b.now) (suc n) n

-- ---- the calls

pub data Question : Type 0 where
  size_of bounds_of assigned value_of inconsistent values_of : ℕ → Question
  variables domains_changed : Question

-- every public call. `spread` is `propagate_alldiff`, `release` is keep, and `reset` is `reset_changed_flag`
pub data Call : Type 0 where
  register : ℕ → Chutes → Call
  close : Closing → Call
  batch : List Closing → Call
  spread : List ℕ → Call
  ready : List ℕ → Call
  mark restore release reset : Call
  ask : Question → Call

-- ---- refusals

pub data Verdict : Type 0 where
  accepted : Verdict
  refused : Refusal → Verdict

-- refused by r unless the test holds, and else as v says: the order of these tests is 01's order
abbrev pub unless : Bool → Refusal → Verdict → Verdict
unless t r v = cond t v (refused r)

-- the leftmost of a list's ids that isn't registered, or stood earlier: `seen` are those before place p
abbrev pub scan : Rows → List ℕ → ℕ → List ℕ → Verdict
scan rs seen p [] = accepted
scan rs seen p (i ∷ is) = unless (known rs i) (Unknown p) (unless (not (among i seen)) (Repeated p) (scan rs (i ∷ seen) (suc p) is))

-- a list that is propagated, or asked whether it is ready
abbrev pub listing : List ℕ → Rows → Verdict
listing is rs = unless (leb (length is) 64) TooLong (scan rs [] 0 is)

abbrev pub single : Chutes → Bool
single d = eqb (length d) 1

abbrev pub asking : Question → Rows → Verdict
asking (size_of i) rs = accepted
asking (bounds_of i) rs = unless (some (domain rs i)) Empty accepted
asking (assigned i) rs = accepted
asking (value_of i) rs = unless (single (domain rs i)) Empty accepted
asking (inconsistent i) rs = accepted
asking (values_of i) rs = accepted
asking variables rs = accepted
asking domains_changed rs = accepted

abbrev pub refusal : Call → Board → Verdict
refusal (register i vs) b = unless (not (some b.saved)) TrialOpen (unless (known b.now i || ltb (length b.now) 64) Full accepted)
refusal (close k) b = accepted
refusal (batch ks) b = accepted
refusal (spread is) b = listing is b.now
refusal (ready is) b = listing is b.now
refusal mark b = unless (ltb (length b.saved) 8) TooDeep accepted
refusal restore b = unless (some b.saved) NoMark accepted
refusal release b = unless (some b.saved) NoMark accepted
refusal reset b = accepted
refusal (ask q) b = asking q b.now

-- ---- answers

-- nothing; yes or no; (changed, consistent); a number; a chute; the smallest and the largest; chutes; destinations; a refusal
pub data Answer : Type 0 where
  done : Answer
  said : Bool → Answer
  outcome : Bool → Bool → Answer
  count : ℕ → Answer
  chute : ℤ → Answer
  ends : ℤ → ℤ → Answer
  held : Chutes → Answer
  named : List ℕ → Answer
  denied : Refusal → Answer

abbrev pub ends_of : Chutes → Answer
ends_of [] = denied Empty
ends_of (x ∷ s) = ends (smallest x s) (largest x s)

abbrev pub only_of : Chutes → Answer
only_of [] = denied Empty
only_of (x ∷ []) = chute x
only_of (x ∷ y ∷ s) = denied Empty

abbrev pub told : Question → Board → Answer
told (size_of i) b = count (length (domain b.now i))
told (bounds_of i) b = ends_of (domain b.now i)
told (assigned i) b = said (single (domain b.now i))
told (value_of i) b = only_of (domain b.now i)
told (inconsistent i) b = said (not (some (domain b.now i)))
told (values_of i) b = held (domain b.now i)
told variables b = named (ids b.now)
told domains_changed b = said b.changed

-- the domains of a list, in its order
abbrev pub domains : Rows → List ℕ → List Chutes
domains rs is = map (domain rs) is

-- what an accepted call answers
abbrev pub reply : Call → Board → Answer
reply (register i vs) b = done
reply (close k) b = said (tells k b.now)
reply (batch ks) b = count (yeses ks b)
reply (spread is) b = let r = pass (domains b.now is) in outcome r.changed r.consistent
reply (ready is) b = said (every single (domains b.now is))
reply mark b = done
reply restore b = done
reply release b = done
reply reset b = done
reply (ask q) b = told q b

abbrev pub judged : Verdict → Answer → Answer
judged accepted a = a
judged (refused r) a = denied r

abbrev pub answer : Call → Board → Answer
answer c b = judged (refusal c b) (reply c b)

-- ---- what a call leaves

-- what the newest mark saved, and rs where there is none; the marks but the newest
abbrev pub newest : Rows → List Rows → Rows
newest rs [] = rs
newest rs (t ∷ s) = t

abbrev pub older : List Rows → List Rows
older [] = []
older (t ∷ s) = s

-- what an accepted call leaves
abbrev pub effect : Call → Board → Board
effect (register i vs) b = record { now = enter b.now i (ascending vs); saved = b.saved; changed = true }
effect (close k) b = shut_on k b
effect (batch ks) b = shut_all ks b
effect (spread is) b =
    let ds = domains b.now is in
    record { now = puts b.now is (pass ds).domains; saved = b.saved; changed = b.changed || raises ds }
effect (ready is) b = b
effect mark b = record { now = b.now; saved = b.now ∷ b.saved; changed = b.changed }
effect restore b = record { now = newest b.now b.saved; saved = older b.saved; changed = b.changed }
effect release b = record { now = b.now; saved = older b.saved; changed = b.changed }
effect reset b = record { now = b.now; saved = b.saved; changed = false }
effect (ask q) b = b

abbrev pub accepts : Verdict → Bool
accepts accepted = true
accepts (refused r) = false

abbrev pub taken : Call → Board → Bool
taken c b = accepts (refusal c b)

-- a refused call changes nothing
abbrev pub act : Call → Board → Board
act c b = cond (taken c b) (effect c b) b

-- calls one after another, each on the board as the last one left it, and what they answer
abbrev pub run : List Call → Board → Board
run [] b = b
run (c ∷ cs) b = run cs (act c b)

abbrev pub answers : List Call → Board → List Answer
answers [] b = []
answers (c ∷ cs) b = answer c b ∷ answers cs (act c b)

-- ---- well formed

abbrev pub distinct : List ℕ → Bool
distinct [] = true
distinct (i ∷ is) = not (among i is) && distinct is

abbrev pub Ordered : Rows → Type 0
Ordered rs = Every (λ (r : Row). Ascending r.chutes) rs

-- ids differ, counts are within limits, every mark saved a domain for each destination and no other, and domains ascend
pub record Well (b : Board) : Type 0 where
  pub differ : T (distinct (ids b.now))
  pub few-rows : length b.now ≤ 64
  pub few-marks : length b.saved ≤ 8
  pub aligned : Every (λ rs. ids rs ≡ ids b.now) b.saved
  pub ordered : Ordered b.now × Every Ordered b.saved
