-- What a wave sheet says, as plain lists. Assumes nothing.
use Rattle.std.specs.Prelude.{ℕ, ◌≤◌, List, [], ◌∷◌, length}
use Rattle.closing.specs.declared.Closing.{Closing}
use Rattle.sheet_form.specs.declared.Destination.{Destination}

pub record Sheet : Type 0 where
  pub destinations : List Destination
  pub closings : List Closing
  pub lists : List (List ℕ)

-- a property of every element
unfoldable pub All : {A : Type 0} → (A → Type 0) → List A → Type 0
All P [] = Unit
All P (a ∷ l) = P a × All P l

-- no more of anything than 01 allows
pub record Few (sh : Sheet) : Type 0 where
  pub destinations : length sh.destinations ≤ 64
  pub closings : length sh.closings ≤ 256
  pub lists : length sh.lists ≤ 16
  pub ids : All (λ (l : List ℕ). length l ≤ 64) sh.lists
