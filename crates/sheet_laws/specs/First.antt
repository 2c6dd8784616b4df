-- Where the place of a bad sheet is, said of texts alone: nothing is read here. Assumes nothing.
use Rattle.std.specs.Prelude.{ℕ, zero, suc, ◌≡◌, List, [], ◌∷◌, Bool, false, cond, ◌&&◌, get_or, take, drop}
use Rattle.sheet_form.specs.Sheet.{Sheet}
use Rattle.sheet_number.specs.Number.{in_run, run}
use Rattle.sheet.specs.Write.{write_sheet, Good}

-- what a text begins with: a whole run of digits and minus signs, or one other byte, or nothing
unfoldable pub token : List ℕ → List ℕ
token [] = []
token (b ∷ s) = cond (in_run b) (run (b ∷ s)) (b ∷ [])

-- the place p cuts a run of s in two: the byte before p and the byte at p are of one (past the end stands 0, which is of none)
unfoldable pub cuts_run : List ℕ → ℕ → Bool
cuts_run s zero = false
cuts_run s (suc p) = in_run (get_or s p 0) && in_run (get_or s (suc p) 0)

-- a good sheet whose text is s up to the place p, and is cut there in no run
pub record Begun (s : List ℕ) (p : ℕ) : Type 0 where
  pub sheet : Sheet
  pub good : Good sheet
  pub same : take p (write_sheet sheet) ≡ take p s
  pub whole : cuts_run (write_sheet sheet) p ≡ false

-- reading left to right, p is the first place at which s can't be the text of a good sheet
pub record First (s : List ℕ) (p : ℕ) : Type 0 where
  -- up to p it can be
  pub begun : Begun s p
  -- with what stands at p it can't
  pub wrong : (sheet : Sheet) → Good sheet → take p (write_sheet sheet) ≡ take p s → token (drop p (write_sheet sheet)) ≡ token (drop p s) → ⊥
  -- and that is a whole run, one other byte, or the end
  pub whole : cuts_run s p ≡ false
