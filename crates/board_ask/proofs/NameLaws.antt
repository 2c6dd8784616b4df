-- The ids of rows: how many they are, and written one by one.
use Rattle.std.specs.Prelude.{◌≡◌, List, [], ◌++◌, ℕ, suc, ◌+◌, ◌-◌, ◌<◌, ◌≤◌, length, set, drop}
use Rattle.std.proofs.Common.{sym, ap, ◌∙◌, zero-add, add-one, arith}
use Rattle.std.proofs.lemmas.List.{length-map}
use Rattle.std.proofs.lemmas.List.Edits.{sets, sets-eq}
use Rattle.rules.specs.Board as rules
use Rattle.board.specs.View.{rows_from}
use Rattle.board.proofs.RowLaws.{rows-length}
use Rattle.board_ask.specs.Names.{names_of}

module _ (id : ℕ → ℕ) where
  pub names-length : (k n : ℕ) → length (names_of id k n) ≡ n
  names-length k n = length-map (rows_from id (λ i. []) k n) (λ (r : rules.Row). r.id) ∙ rows-length id n (λ i. []) k

  -- with the ids from i on still to be written
  module _ (count i : ℕ) (cells : List ℕ) where
    pub written-more : i < count → sets (set cells i (id i)) (i + 1) (names_of id (i + 1) (count - (i + 1))) ≡ sets cells i (names_of id i (count - i))
    written-more l =
        let e : count - i ≡ suc (count - (i + 1)) = omega arith in
        (λ t. sets (set cells i (id i)) (add-one i t) (names_of id (add-one i t) (count - (i + 1))))
        ∙ ap (λ (m : ℕ). sets cells i (names_of id i m)) (sym e)

    pub written_all : count ≤ i → sets cells i (names_of id i (count - i)) ≡ cells
    written_all h = let e : count - i ≡ 0 = omega arith in ap (λ (m : ℕ). sets cells i (names_of id i m)) e

  pub names-front : (count : ℕ) (cells : List ℕ) → count ≤ length cells → sets cells 0 (names_of id 0 count) ≡ names_of id 0 count ++ drop count cells
  names-front count cells h =
      let n = names-length 0 count in
      sets-eq (names_of id 0 count) cells 0 (omega (arith, n))
      ∙ ap (λ (k : ℕ). names_of id 0 count ++ drop k cells) (zero-add (length (names_of id 0 count)) ∙ n)
