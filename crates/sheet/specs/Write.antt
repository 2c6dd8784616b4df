-- The text of a sheet, and which sheets have one. Assumes nothing.
use Rattle.std.specs.Prelude.{ℕ, ◌<◌, ◌^◌, List, [], ◌∷◌, ◌++◌, length, ℤ, pos}
use Rattle.std.specs.Int.{w32}
use Rattle.std.proofs.Common.{SFits}
use Rattle.decimal.specs.Decimal.{decimal}
use Rattle.closing.specs.declared.Kind.{Kind}
use Rattle.closing.specs.declared.Kind.TheVariants.{Remove, Assign, Below, Above}
use Rattle.closing.specs.declared.Closing.{Closing}
use Rattle.sheet_form.specs.declared.Destination.{Destination}
use Rattle.sheet_form.specs.Sheet.{Sheet, All, Few}
use Rattle.sheet_sections.specs.Sections.{space, newline, gap}

-- a number and the byte after it
abbrev pub write_field : ℤ → ℕ → List ℕ
write_field z b = decimal z ++ (b ∷ [])

abbrev pub write_id : ℕ → ℕ → List ℕ
write_id n b = write_field (pos n) b

unfoldable pub write_destination : Destination → List ℕ
write_destination d = write_id d.id.0 space ++ (write_field d.min.0 space ++ (write_field d.max.0 newline ++ []))

abbrev pub number_for : Kind → ℕ
number_for Remove = 1
number_for Assign = 2
number_for Below = 3
number_for Above = 4

unfoldable pub write_closing : Closing → List ℕ
write_closing c = write_id (number_for c.kind) space ++ (write_id c.id.0 space ++ (write_field c.value.0 newline ++ []))

-- one after the other, each written by w of how many are to come after it
unfoldable pub write_each : {A : Type 0} → (ℕ → A → List ℕ) → List A → List ℕ
write_each w [] = []
write_each w (a ∷ l) = w (length l) a ++ (write_each w l ++ [])

unfoldable pub write_list : List ℕ → List ℕ
write_list l = write_id (length l) (gap (length l)) ++ write_each (λ n i. write_id i (gap n)) l

unfoldable pub write_section : {A : Type 0} → (A → List ℕ) → List A → List ℕ
write_section w l = write_id (length l) newline ++ write_each (λ n a. w a) l

unfoldable pub write_sheet : Sheet → List ℕ
write_sheet sh =
    write_section write_destination sh.destinations ++ (write_section write_closing sh.closings ++ (write_section write_list sh.lists ++ []))

-- ---- each number within its field's type, and no more of anything than 01 allows

pub record GoodDestination (d : Destination) : Type 0 where
  pub id : d.id.0 < 2 ^ 32
  pub min : SFits w32 d.min.0
  pub max : SFits w32 d.max.0

pub record GoodClosing (c : Closing) : Type 0 where
  pub id : c.id.0 < 2 ^ 32
  pub value : SFits w32 c.value.0

pub record Good (sh : Sheet) : Type 0 where
  pub destinations : All GoodDestination sh.destinations
  pub closings : All GoodClosing sh.closings
  pub lists : All (All (λ (i : ℕ). i < 2 ^ 32)) sh.lists
  pub few : Few sh
