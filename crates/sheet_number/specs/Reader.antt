-- Readers: what is read from a place of a text on, one thing after the other. The first fault ends the reading. Assumes nothing.
use Rattle.std.specs.Prelude.{ℕ, zero, suc, List, [], ◌∷◌, ℤ, pos, negsuc, nat_abs}
use Rattle.sheet_number.specs.Number.{Got, got, fault, number_at, byte_at}

abbrev pub Reader : Type 0 → Type 0
Reader A = List ℕ → ℕ → Got A

module _ {A B : Type 0} where
  abbrev pub after : Got A → (A → ℕ → Got B) → Got B
  after (got a e) f = f a e
  after (fault k p) f = fault k p

  infixl 20 ◌>>=◌
  abbrev pub ◌>>=◌ : Reader A → (A → Reader B) → Reader B
  ◌>>=◌ m f = λ s at. after (m s at) (λ a e. f a s e)

abbrev pub pure : {A : Type 0} → A → Reader A
pure a = λ s at. got a at

-- a number from low to high
abbrev pub number : ℤ → ℤ → Reader ℤ
number low high = λ s at. number_at s at low high

-- the byte b
abbrev pub byte : ℕ → Reader Unit
byte b = λ s at. byte_at s at b

unfoldable pub natural : ℕ → ℕ → Reader ℕ
natural low high = do
  z ← number (pos low) (pos high)
  pure (nat_abs z)

-- an i32
unfoldable pub value : Reader ℤ
value = number (negsuc 2147483647) (pos 2147483647)

-- what m reads, and then the byte b
unfoldable pub field : {A : Type 0} → Reader A → ℕ → Reader A
field m b = do
  a ← m
  u ← byte b
  pure a

-- n things one after the other, each read by f of how many are to come after it
unfoldable pub each : {A : Type 0} → (ℕ → Reader A) → ℕ → Reader (List A)
each f zero = pure []
each f (suc n) = do
  a ← f n
  l ← each f n
  pure (a ∷ l)

-- n times what m reads
abbrev pub times : {A : Type 0} → ℕ → Reader A → Reader (List A)
times n m = each (λ j. m) n
