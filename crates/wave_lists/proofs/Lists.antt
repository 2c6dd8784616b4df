-- Lists one by one: what the loop holds after some of them, and that rows alone are propagated as their board is.
use Rattle.std.specs.Prelude.{◌≡◌, refl, Bool, true, false, List, [], ◌∷◌, ◌++◌, map, ℕ, suc, ◌+◌, ◌<◌, ◌≤◌, min, ltb, length, get_or, set, take, replicate, Result}
use Rattle.std.proofs.Common.{sym, ap, ◌∙◌, subst, arith, ltb-true, ltb-false, take_all, length-take-le}
use Rattle.std.proofs.lemmas.List.{length-map}
use Rattle.std.proofs.lemmas.List.Edits.{sets}
use lib.ListN.{get_or-map}
use lib.Seq.{take-length}
use Rattle.board.specs.declared.Board.{Board}
use Rattle.board.specs.declared.Row.{Row}
use Rattle.board_spread.specs.Spread.{Pruned, pruned, pruned_of}
use Rattle.rules.specs.declared.Pair.{Pair}
use Rattle.rules.specs.declared.Refusal.{Refusal}
use Rattle.alldiff.specs.declared.Passed.{Passed}
use Rattle.std.specs.Result.{MatchResult, IsOkAnd}
use Rattle.std.specs.declared.result.Result.TheVariants.{Ok, Err}
use Rattle.board_spread.specs.declared.Spread.{Spread}
use Rattle.board_spread.proofs.Spreading.{spread-well}
use Rattle.board_spread.proofs.Theorems.{spread-obeys}
use Rattle.sheet_form.specs.Held.{no_span, filled}
use Rattle.sheet_form.specs.declared.Span.{Span}
use Rattle.wave_form.specs.Wave.{each, told, spreading, answering, no_line, part}
use Rattle.wave_form.proofs.Each.{each_more, told_more, told-length}
use Rattle.wave_form.proofs.Theorems.{Good}
use Rattle.wave_lists.specs.Listed.{pruning, prune_answers, listed_of}

-- how `search (needs, all-spans)` finds that an array of spans has all its cells
pub all-spans : (Y : Type 0) (g : Span → Y) (l : List Span) (n : ℕ) → length (map g l) ≡ n → length l ≡ n
all-spans Y g l n e = sym (length-map l g) ∙ e

-- ---- a part of a run

module _ {A : Type 0} (k : ℕ) (l : List A) where
  least-cases : (P : ℕ → Type 0) → (k < length l → P k) → (length l ≤ k → P (length l)) → P (min k (length l))
  least-cases P less more = go (ltb k (length l)) refl
    where
      go : (t : Bool) → ltb k (length l) ≡ t → P (min k (length l))
      go true e = let h = ltb-true k (length l) e in let z : k ≡ min k (length l) = omega arith in subst P z (less h)
      go false e = let h = ltb-false k (length l) e in let z : length l ≡ min k (length l) = omega arith in subst P z (more h)

  -- no more can be taken or dropped than there is
  pub take-least : take (min k (length l)) l ≡ take k l
  take-least = least-cases (λ n. take n l ≡ take k l) (λ h. refl) (λ h. take-length l ∙ sym (take_all k l h))

-- the list at place i
pub list_at : (ids : List ℕ) (spans : List Span) (i : ℕ) → get_or (map (part ids) spans) i (part ids no_span) ≡ part ids (get_or spans i no_span)
list_at ids spans i = get_or-map (part ids) spans i no_span

-- ---- one line more

sets_last : {A : Type 0} (l : List A) (i k : ℕ) (vs : List A) (x : A) → i + length vs ≡ k → sets l i (vs ++ (x ∷ [])) ≡ set (sets l i vs) k x
sets_last l i k [] x e = let z : i ≡ k = omega arith in ap (λ (j : ℕ). set l j x) z
sets_last l i k (v ∷ vs) x e = sets_last (set l i v) (suc i) k vs x (omega arith)

filled_more : {A : Type 0} (n : ℕ) (blank : A) (l : List A) (x : A) (k : ℕ) → length l ≡ k → filled n blank (l ++ (x ∷ [])) ≡ set (filled n blank l) k x
unfolding filled
filled_more n blank l x k e = sets_last (replicate n blank) 0 k l x (omega arith)

-- ---- one list more

-- what a list is answered
abbrev pub Said : Type 0
Said = Result Pair Refusal

-- what stands behind the reference, and the pair of what the pass tells
pub pruned-rows : (rows : List Row) (o : Result Passed Refusal) → (pruned rows o).rows ≡ rows
pruned-rows rows (Ok p) = refl
pruned-rows rows (Err r) = refl

pub pruned-said : (rows : List Row) (o : Result Passed Refusal) (a : Said) (Q : Passed → Pair → Type 0) → ((p : Passed) (y : Pair) → Q p y → y ≡ p.answer) → MatchResult o (λ p. IsOkAnd a (Q p)) (λ e. a ≡ Err e) → (pruned rows o).answer ≡ a
pruned-said rows (Ok p) (Ok y) Q q m = ap Ok (sym (q p y m))
pruned-said rows (Ok p) (Err r) Q q m = absurd m
pruned-said rows (Err r) a Q q m = sym m

-- what the loop holds after these lists
pub record Turned (count : ℕ) (ls : List (List ℕ)) (rows₀ rows : List Row) (lines : List Said) : Type 0 where
  pub held : rows ≡ each (pruning count) ls rows₀
  pub noted : lines ≡ filled 16 no_line (told (pruning count) (prune_answers count) ls rows₀)

pub turned-start : (count : ℕ) (rows : List Row) → Turned count [] rows rows (replicate 16 no_line)
unfolding each told filled
turned-start count rows = record { held = refl; noted = refl }

pub turned-end : (count : ℕ) (ls : List (List ℕ)) (rows₀ rows : List Row) (lines : List Said) → Turned count ls rows₀ rows lines → record { rows = rows; lines = lines } ≡ listed_of rows₀ count ls
unfolding listed_of
turned-end count ls rows₀ rows lines o = λ t. record { rows = o.held t; lines = o.noted t }

module _ (count : ℕ) (ls : List (List ℕ)) (rows₀ rows : List Row) (lines : List Said) (i : ℕ) (l : i < length ls) (o : Turned count (take i ls) rows₀ rows lines) where
  abbrev before : List Row
  before = each (pruning count) (take i ls) rows₀

  abbrev said : List Said
  said = told (pruning count) (prune_answers count) (take i ls) rows₀

  said-length : length said ≡ i
  said-length = told-length (pruning count) (prune_answers count) (take i ls) rows₀ ∙ length-take-le i ls (omega arith)

  pub turned_more : (d is : List ℕ) → get_or ls i d ≡ is → (did : Pruned) → did ≡ pruned_of rows count is → Turned count (take (i + 1) ls) rows₀ did.rows (set lines i did.answer)
  turned_more d is e did f =
      let done : did ≡ pruned_of before count (get_or ls i d) = f ∙ (λ t. pruned_of (o.held t) count (sym e t)) in
      record {
        held = ap (λ (p : Pruned). p.rows) done ∙ sym (each_more (pruning count) ls i d rows₀ l);
        noted = ap (λ (k : List Said). set k i did.answer) o.noted
            ∙ sym
            (ap (filled 16 no_line) (told_more (pruning count) (prune_answers count) ls i d rows₀ l)
            ∙ ap (λ (p : Pruned). filled 16 no_line (said ++ (p.answer ∷ []))) (sym done)
            ∙ filled_more 16 no_line said did.answer i said-length);
      }

-- ---- on a board

-- the rows of a well-formed board are propagated as the board is
pub lists-on : (ls : List (List ℕ)) (b : Board) → Good b → (each (pruning b.count) ls b.rows ≡ (each spreading ls b).rows) × (told (pruning b.count) (prune_answers b.count) ls b.rows ≡ told spreading answering ls b) × ((each spreading ls b).count ≡ b.count)
unfolding each told
lists-on [] b g = (refl, refl, refl)
lists-on (l ∷ ls) b g =
    let h = spread-well b l g.1 in
    let o = spread-obeys b l g.0 g.1 in
    let ih = lists-on ls (spreading l b) (o.whole, o.well) in
    let rest = ap (λ (s : Spread). told (pruning s.board.count) (prune_answers s.board.count) ls s.board.rows) (sym h) ∙ ih.1 in (
      ap (λ (s : Spread). each (pruning s.board.count) ls s.board.rows) (sym h) ∙ ih.0,
      λ t. (sym h t).answer ∷ rest t,
      ih.2 ∙ ap (λ (s : Spread). s.board.count) h,
    )
