-- "Worked on paper": the eleven cases of 01 as one table, each in 01's words and then as the calls' definitions have it, and beside them the one that
-- they leave out, an id that becomes assigned as step 1 runs. The cases of the pass are played on the real board; their numbers stand in rules, Cases.
use Rattle.std.specs.Prelude.{◌≡◌, true, List, [], ◌∷◌, ℕ, pos, length, replicate, Result}
use Rattle.std.specs.declared.result.Result.TheVariants.{Ok, Err}
use Rattle.rules.specs.declared.Refusal.{Refusal}
use Rattle.sparse_inner.specs.declared.Sparse.{Sparse}
use Rattle.rules.specs.Sets.{ascending}
use Rattle.rules.specs.Board.{below, above}
use Rattle.rules.specs.Cases.{from, seven, eight, nine, ten, eleven, unjoined}
use Rattle.rules.specs.declared.Value.{Value}
use Rattle.domain.specs.Calls as bit
use Rattle.domain.specs.declared.BitDomain.{BitDomain}
use Rattle.sparse_inner.specs.Set.{Full, full, set_of}
use Rattle.sparse_inner.specs.declared.SparseState.{SparseState}
use Rattle.sparse_make.specs.Calls as make
use Rattle.sparse.specs.Calls as sparse
use Rattle.sparse_text.specs.Text.{written, write_text_of}
use Rattle.cases.specs.Played.{Plays}

abbrev pub num : ℕ → Value
num n = record { 0 = pos n }

-- ---- bit domains

abbrev pub bits : ℕ → ℕ → BitDomain
bits lo hi = bit.new_of true (num lo) (num hi)

-- 0..127 without what lies below 64, and then without what lies above
abbrev pub upper : BitDomain
upper = (bit.close_of below (bits 0 127) (num 64)).domain

abbrev pub middle : BitDomain
middle = (bit.close_of above upper (num 64)).domain

-- ---- sparse sets over two lent orderings of six cells

abbrev pub cells : List ℕ
cells = replicate 6 9

-- what a call made, or nothing over no cells where it refused
abbrev pub set_by : Result Sparse Refusal → List ℕ → List ℕ → Full
set_by (Ok s) ind val = full s ind val
set_by (Err r) ind val = full (make.whole (pos 0) 0) [] []

abbrev pub set_on : make.Making → Full
set_on m = set_by m.answer m.ind m.val

abbrev pub state_by : Result SparseState Refusal → SparseState
state_by (Ok t) = t
state_by (Err r) = record { size = 0; min = 0; max = 0 }

-- the text call, lent as many bytes as the text has, writes it
abbrev pub Shows : Full → List ℕ → Type 0
Shows f text = write_text_of f (replicate (length text) 0) ≡ written (Ok (length text)) text

-- from 1, 3, 6
abbrev pub few : Full
few = set_on (make.from_values_of (pos 1 ∷ pos 3 ∷ pos 6 ∷ []) cells cells)

-- 0..hi
abbrev pub up_to : ℕ → Full
up_to hi = set_on (make.new_of (num 0) (num hi) cells cells)

-- without v; all but v
abbrev pub less : Full → ℕ → Full
less f v = (sparse.remove_of f (num v)).left

abbrev pub only : Full → ℕ → Full
only f v = (sparse.remove_all_but_of f (num v)).left

-- 0..5 saved, then without 5 and 0, then restored
abbrev pub again : sparse.After (Result Unit Refusal)
again = sparse.restore_of (less (less (up_to 5) 5) 0) (state_by (sparse.save_of (up_to 5)))

-- ---- the table

pub record Worked : Type 0 where
  -- 1. Bit 0..127: size 128
  pub case-1 : bit.size_of (bits 0 127) ≡ Ok 128
  -- 2. Bit 0..128: (1, 0), size 0
  pub case-2 : (bit.min_universe_of (bits 0 128) ≡ bit.at (pos 1)) × (bit.max_universe_of (bits 0 128) ≡ bit.at (pos 0)) × (bit.size_of (bits 0 128) ≡ Ok 0)
  -- 3. Bit 0..127, below 64: size 64; then above 64: fixed at 64
  pub case-3 : (bit.size_of upper ≡ Ok 64) × (bit.fixed_value_of middle ≡ bit.at (pos 64))
  -- 4. Sparse from 1, 3, 6: `[1,6,3|5,4,2]`
  pub case-4 : Shows few (91 ∷ 49 ∷ 44 ∷ 54 ∷ 44 ∷ 51 ∷ 124 ∷ 53 ∷ 44 ∷ 52 ∷ 44 ∷ 50 ∷ 93 ∷ [])
  -- 5. Sparse 0..3, remove 3: `[0,1,2|3]`; then all but 1: `[1|0,2,3]`
  pub case-5 : Shows (less (up_to 3) 3) (91 ∷ 48 ∷ 44 ∷ 49 ∷ 44 ∷ 50 ∷ 124 ∷ 51 ∷ 93 ∷ []) × Shows (only (less (up_to 3) 3) 1) (91 ∷ 49 ∷ 124 ∷ 48 ∷ 44 ∷ 50 ∷ 44 ∷ 51 ∷ 93 ∷ [])
  -- 6. Sparse 0..5, save, remove 5 and 0, restore: 0..5 with bounds 0 and 5
  pub case-6 : (again.answer ≡ Ok tt) × (ascending (set_of again.left) ≡ from 6 0) × (sparse.min_of again.left ≡ Ok (num 0)) × (sparse.max_of again.left ≡ Ok (num 5))
  -- 7. Two ids fixed at 5: (true, false), second empty
  pub case-7 : Plays seven
  -- 8. Domains 1..2, 1..2, 1..4: third becomes 3, 4; (true, true)
  pub case-8 : Plays eight
  -- 9. Three of 1..2: third empty, (false, false)
  pub case-9 : Plays nine
  -- 10. Six ids, two of 1..2, four of 1..9: those four become 3..9, (true, true)
  pub case-10 : Plays ten
  -- 11. The same with seven ids, five of 1..9: nothing removed, (false, true)
  pub case-11 : Plays eleven
  -- an id that becomes assigned as step 1 runs does not join its list
  pub beside : Plays unjoined
