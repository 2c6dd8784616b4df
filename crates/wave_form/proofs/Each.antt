-- What holds of calls one after another, whichever they are: one more stands last, and the rules tell the board after them.
use Rattle.std.specs.Prelude.{◌≡◌, refl, true, List, [], ◌∷◌, ◌++◌, map, ℕ, suc, ◌+◌, ◌<◌, length, get_or, take}
use Rattle.std.proofs.Common.{ap, ◌∙◌, add-one, take-suc}
use Rattle.rules.specs.Board as rules
use Rattle.board.specs.Well.{well_board}
use Rattle.board.specs.View.{view}
use Rattle.board.specs.Obeys.{Whole, Obeys}
use Rattle.board.specs.declared.Board.{Board}
use Rattle.wave_form.specs.Wave.{each, told}

module _ {A S : Type 0} (f : A → S → S) where
  each_last : (l : List A) (a : A) (s : S) → each f (l ++ (a ∷ [])) s ≡ f a (each f l s)
  unfolding each
  each_last [] a s = refl
  each_last (x ∷ l) a s = each_last l a (f x s)

  -- the call at place i follows those before it
  pub each_more : (l : List A) (i : ℕ) (d : A) (s : S) → i < length l → each f (take (i + 1) l) s ≡ f (get_or l i d) (each f (take i l) s)
  each_more l i d s h =
      ap (λ (n : ℕ). each f (take n l) s) (add-one i) ∙ ap (λ (k : List A). each f k s) (take-suc l i d h) ∙ each_last (take i l) (get_or l i d) s

  -- what every call keeps
  pub each_keeps : (P : S → Type 0) → ((a : A) (s : S) → P s → P (f a s)) → (l : List A) (s : S) → P s → P (each f l s)
  unfolding each
  each_keeps P h [] s p = p
  each_keeps P h (a ∷ l) s p = each_keeps P h l (f a s) (h a s p)

  module _ {R : Type 0} (g : A → S → R) where
    told-last : (l : List A) (a : A) (s : S) → told f g (l ++ (a ∷ [])) s ≡ told f g l s ++ (g a (each f l s) ∷ [])
    unfolding each told
    told-last [] a s = refl
    told-last (x ∷ l) a s = ap (λ (k : List R). g x s ∷ k) (told-last l a (f x s))

    -- and its answer follows theirs
    pub told_more : (l : List A) (i : ℕ) (d : A) (s : S) → i < length l → told f g (take (i + 1) l) s ≡ told f g (take i l) s ++ (g (get_or l i d) (each f (take i l) s) ∷ [])
    told_more l i d s h =
        ap (λ (n : ℕ). told f g (take n l) s) (add-one i) ∙ ap (λ (k : List A). told f g k s) (take-suc l i d h) ∙ told-last (take i l) (get_or l i d) s

    pub told-length : (l : List A) (s : S) → length (told f g l s) ≡ length l
    unfolding told
    told-length [] s = refl
    told-length (a ∷ l) s = ap suc (told-length l (f a s))

-- calls of the board that do as the rules say
module _ {A : Type 0} (f : A → Board → Board) (call : A → rules.Call) (reply : A → Board → rules.Answer) (obeys : (a : A) (b : Board) → Whole b → well_board b ≡ true → Obeys (call a) b (f a b) (reply a b)) where
  pub each-good : (l : List A) (b : Board) → Whole b × (well_board b ≡ true) → Whole (each f l b) × (well_board (each f l b) ≡ true)
  each-good = each_keeps f (λ (b : Board). Whole b × (well_board b ≡ true)) (λ a b g. let o = obeys a b g.0 g.1 in (o.whole, o.well))

  pub each-view : (l : List A) (b : Board) → Whole b × (well_board b ≡ true) → view (each f l b) ≡ rules.run (map call l) (view b)
  unfolding each
  each-view [] b g = refl
  each-view (a ∷ l) b g =
      let o = obeys a b g.0 g.1 in
      each-view l (f a b) (o.whole, o.well) ∙ ap (rules.run (map call l)) o.acts

-- calls in two parts
pub run-append : (cs ds : List rules.Call) (b : rules.Board) → rules.run (cs ++ ds) b ≡ rules.run ds (rules.run cs b)
run-append [] ds b = refl
run-append (c ∷ cs) ds b = run-append cs ds (rules.act c b)
