-- A call on a bit domain that stands in lent words: the words are read as a domain, the by-value call is made, and the domain that it
-- hands back is written. Fewer than three words are refused as they came. A domain that isn't well formed is refused by the by-value call,
-- and is written as it was read, which is cell for cell as it came (`Theorems.broken-back`).
use Rattle.std.specs.Prelude.{◌≡◌, true, List, Result, ◌++◌, ℕ, length, drop}
use Rattle.rules.specs.Board as rules
use Rattle.rules.specs.declared.Refusal.{Refusal}
use Rattle.domain.specs.declared.BitDomain.{BitDomain}
use Rattle.domain.specs.declared.Answered.{Answered}
use Rattle.domain.specs.Calls.{Changed, Narrowed}
use Rattle.board.specs.Obeys.{told_of, outcome_of}
use Rattle.reply.specs.Told.{coded}
use Rattle.reply.specs.Lent as lent
use Rattle.reply.specs.Lent.{Layout, Left}
use Rattle.pirozhkan_bit.specs.Layout.{size, read_of, written_of}

abbrev pub words : Layout (List ℕ) BitDomain
words = record { size = size; many = length; good = λ _. true; read = read_of; write = λ d ws. written_of d ++ drop size ws }

abbrev pub lent_to : {A : Type 0} → List ℕ → (rules.Answer → A) → (BitDomain → A) → A
lent_to ws refused f = lent.lent_to words ws refused f

abbrev pub Reply : Type 0
Reply = lent.Reply BitDomain

abbrev pub changed : Changed → Reply
changed r = record { state = r.domain; answer = told_of r.answer }

abbrev pub narrowed : Narrowed → Reply
narrowed r = record { state = r.domain; answer = outcome_of r.answer }

abbrev pub written : List ℕ → Reply → Left (List ℕ)
written ws r = lent.written words ws r

abbrev pub through : (BitDomain → Reply) → List ℕ → Left (List ℕ)
through f ws = lent.through words f ws

-- a new domain is written whatever the words are
abbrev pub begun : BitDomain → List ℕ → Left (List ℕ)
begun d = through (λ _. record { state = d; answer = rules.done })

-- questions: nothing is written but the answer's own cells
abbrev pub answered : (BitDomain → rules.Answer) → List ℕ → ℕ
answered f ws = lent.answered words f ws

abbrev pub shown : {C : Type 0} → (BitDomain → Left C) → List ℕ → C → Left C
shown f ws cells = lent.shown words f ws cells

-- ---- what an exported call is, whatever by-value call it makes: post says what that may answer or hand back, and told what is told of that

abbrev pub Asks : (BitDomain → ℕ → Type 0) → List ℕ → ℕ → Type 0
Asks post ws n = (f : BitDomain → rules.Answer) → ((d : BitDomain) (r : ℕ) → d ≡ read_of ws → post d r → r ≡ coded (f d)) → n ≡ answered f ws

abbrev pub Makes : {T : Type 0} → (BitDomain → Answered T → Type 0) → (Result T Refusal → ℕ → Type 0) → List ℕ → Left (List ℕ) → Type 0
Makes {T} post told ws out =
    (f : BitDomain → Reply)
    → ((d : BitDomain) (s : Answered T) (n : ℕ) → d ≡ read_of ws → post d s → told s.answer n → (n ≡ coded (f d).answer) × (s.domain ≡ (f d).state))
    → out ≡ through f ws
