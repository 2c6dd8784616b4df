-- How a contract and a line of a table are read. A contract is one equation: the outcomes that it admits coincide. A line `unless t r v` is refused by s
-- exactly if t fails and r is s, or t holds and v is refused by s.
use Rattle.std.specs.Prelude.{◌≡◌, refl, Bool, true, false, ◌↔◌, ◌⊎◌, ℕ, leb, ltb}
use Rattle.std.proofs.Common.{sym, ap, ◌∙◌, inl, inr, arith, ltb-true, ltb-false, le-leb}
use Rattle.std.proofs.lemmas.Bool.{lt-leb}
use Rattle.rules.specs.Board.{Verdict, accepted, refused, unless}
use Rattle.rules.specs.declared.Refusal.{Refusal}

-- two outcomes r and s that the equation to x admits, and each part of them: the answer, the state, lent cells
pub coincide : {A : Type 0} {x r s : A} → r ≡ x → s ≡ x → r ≡ s
coincide p q = p ∙ sym q

pub parts-coincide : {A B : Type 0} (part : A → B) {x r s : A} → r ≡ x → s ≡ x → part r ≡ part s
parts-coincide part p q = ap part (coincide p q)

pub reads : (t : Bool) (r s : Refusal) (v : Verdict) → (unless t r v ≡ refused s) ↔ (((t ≡ false) × (r ≡ s)) ⊎ ((t ≡ true) × (v ≡ refused s)))
reads true r s v = (λ e. inr (refl, e), into)
  where
    into : ((true ≡ false) × (r ≡ s)) ⊎ ((true ≡ true) × (v ≡ refused s)) → v ≡ refused s
    into (inl h) = let e = h.0 in cc
    into (inr h) = h.1
reads false r s v = (λ e. inl (refl, cc), into)
  where
    into : ((false ≡ false) × (r ≡ s)) ⊎ ((false ≡ true) × (v ≡ refused s)) → refused r ≡ refused s
    into (inl h) = let e = h.1 in cc
    into (inr h) = let e = h.0 in cc

-- an accepted call isn't refused
pub taken : (s : Refusal) → accepted ≡ refused s → ⊥
taken s e = let z : ◌≡◌ {A = ℕ} 0 1 = cc in omega arith

-- by what a test answers
pub split : {A : Type 0} (t : Bool) → (t ≡ true → A) → (t ≡ false → A) → A
split true h k = h refl
split false h k = k refl

-- enough cells for n values, and fewer cells
pub enough : {A : Type 0} (m n : ℕ) → (ltb m n ≡ true → leb n m ≡ false → A) → (ltb m n ≡ false → leb n m ≡ true → A) → A
enough m n h k = split (ltb m n) (λ e. h e (lt-leb n m (ltb-true m n e))) (λ e. k e (le-leb n m (ltb-false m n e)))
