-- Runs and lists of values, one value at a time, and how many bytes they take. Assumes nothing.
use Rattle.std.specs.Prelude.{◌≡◌, refl, Bool, true, false, cond, [], ◌∷◌, ◌++◌, ℕ, zero, suc, ◌+◌, ◌-◌, ◌≤◌, T, ℤ, pos, ◌+ℤ◌, length, take, drop}
use Rattle.std.proofs.Common.{sym, ap, ap₂, ◌∙◌, subst, arith, length-append, length-drop, length-take-le}
use lib.IntN.{+ℤ_assoc, pos-+ℤ-pos}
use Rattle.decimal.specs.Decimal.{decimal}
use Rattle.offset.specs.Universe.{value_inj}
use Rattle.rules.specs.Sets.{Chutes, same}
use Rattle.rules.proofs.SetLaws.{same→eq, same_refl}
use Rattle.domain_text.specs.Text.{commaed, listed, follow, first_run, text_of, sizes}

-- ---- a value and the next

after : (lo : ℤ) (j : ℕ) → (lo +ℤ pos j) +ℤ pos 1 ≡ lo +ℤ pos (j + 1)
after lo j = +ℤ_assoc lo (pos j) (pos 1) ∙ ap (λ (x : ℤ). lo +ℤ x) (pos-+ℤ-pos j 1)

cond_yes : (b : Bool) (x y : ℕ) → T b → cond b x y ≡ x
cond_yes true x y t = refl
cond_yes false x y t = absurd t

cond_no : (b : Bool) (x y : ℕ) → (T b → ⊥) → cond b x y ≡ y
cond_no true x y f = absurd (f tt)
cond_no false x y f = refl

follow-next : (lo : ℤ) (j k : ℕ) (s : Chutes) → k ≡ j + 1 → follow (lo +ℤ pos j) ((lo +ℤ pos k) ∷ s) ≡ suc (follow (lo +ℤ pos k) s)
unfolding follow
follow-next lo j k s e =
    let x : ℤ = lo +ℤ pos k in
    let p : x ≡ (lo +ℤ pos j) +ℤ pos 1 = ap (λ (i : ℕ). lo +ℤ pos i) e ∙ sym (after lo j) in
    cond_yes (same x ((lo +ℤ pos j) +ℤ pos 1)) (suc (follow x s)) 0 (subst (λ (y : ℤ). T (same x y)) p (same_refl x))

follow-gap : (lo : ℤ) (j k : ℕ) (s : Chutes) → (k ≡ j + 1 → ⊥) → follow (lo +ℤ pos j) ((lo +ℤ pos k) ∷ s) ≡ 0
unfolding follow
follow-gap lo j k s f =
    let x : ℤ = lo +ℤ pos k in
    cond_no (same x ((lo +ℤ pos j) +ℤ pos 1)) (suc (follow x s)) 0
    (λ t. f (value_inj lo k (j + 1) (same→eq x ((lo +ℤ pos j) +ℤ pos 1) t ∙ after lo j)))

follow-le : (x : ℤ) (s : Chutes) → follow x s ≤ length s
unfolding follow
follow-le x [] = omega arith
follow-le x (y ∷ s) = go (same y (x +ℤ pos 1)) (follow-le y s)
  where
    go : (b : Bool) → follow y s ≤ length s → cond b (suc (follow y s)) 0 ≤ suc (length s)
    go true h = omega arith
    go false h = omega arith

pub run-le : (s : Chutes) → first_run s ≤ length s
unfolding first_run
run-le [] = omega arith
run-le (x ∷ s) = omega (arith, follow-le x s)

-- ---- the first run, walked: s is what is left past the value at offset last, and count values are passed

-- counted on from here, the run is as long as from the start, and the same values lie past it
pub record Ahead (lo : ℤ) (last₀ : ℕ) (s₀ : Chutes) (count₀ last : ℕ) (s : Chutes) (count : ℕ) : Type 0 where
  pub run : count + follow (lo +ℤ pos last) s ≡ count₀ + follow (lo +ℤ pos last₀) s₀
  pub others : drop (follow (lo +ℤ pos last) s) s ≡ drop (follow (lo +ℤ pos last₀) s₀) s₀

pub ahead-start : (lo : ℤ) (last : ℕ) (s : Chutes) (count : ℕ) → Ahead lo last s count last s count
ahead-start lo last s count = record { run = refl; others = refl }

module _ {lo : ℤ} {last₀ : ℕ} {s₀ : Chutes} {last count : ℕ} {s : Chutes} (a : Ahead lo last₀ s₀ 1 last s count) where
  pub ahead-next : {k : ℕ} {t : Chutes} → s ≡ (lo +ℤ pos k) ∷ t → k ≡ last + 1 → Ahead lo last₀ s₀ 1 k t (count + 1)
  ahead-next {k} {t} e n =
      let f : follow (lo +ℤ pos last) s ≡ suc (follow (lo +ℤ pos k) t) = ap (follow (lo +ℤ pos last)) e ∙ follow-next lo last k t n in
      record { run = omega (arith, a.run); others = sym (ap₂ drop f e) ∙ a.others }

  done : follow (lo +ℤ pos last) s ≡ 0 → {v : Chutes} → v ≡ (lo +ℤ pos last₀) ∷ s₀ → (count ≡ first_run v) × (s ≡ drop count v)
  unfolding first_run
  done z {v} e =
      let n : count ≡ suc (follow (lo +ℤ pos last₀) s₀) = omega (arith, a.run) in
      (n ∙ ap first_run (sym e), ap (λ (j : ℕ). drop j s) (sym z) ∙ a.others ∙ sym (ap₂ drop n e))

  pub ahead-end : s ≡ [] → {v : Chutes} → v ≡ (lo +ℤ pos last₀) ∷ s₀ → (count ≡ first_run v) × (s ≡ drop count v)
  unfolding follow
  ahead-end e = done (ap (follow (lo +ℤ pos last)) e)

  pub ahead-gap : {k : ℕ} {t : Chutes} → s ≡ (lo +ℤ pos k) ∷ t → (k ≡ last + 1 → ⊥) → {v : Chutes} → v ≡ (lo +ℤ pos last₀) ∷ s₀ → (count ≡ first_run v) × (s ≡ drop count v)
  ahead-gap {k} {t} e f = done (ap (follow (lo +ℤ pos last)) e ∙ follow-gap lo last k t f)

pub run_none : {v : Chutes} → v ≡ [] → (0 ≡ first_run v) × (v ≡ drop 0 v)
unfolding first_run
run_none e = (sym (ap first_run e), refl)

-- ---- how many bytes

commaed-size : (s : Chutes) → length (commaed s) ≡ sizes s + length s
unfolding commaed sizes
commaed-size [] = refl
commaed-size (x ∷ s) = omega (arith, length-append (decimal x) (commaed s), commaed-size s)

listed-size : (s : Chutes) → length (listed s) ≡ sizes s + (length s - 1)
unfolding listed sizes
listed-size [] = refl
listed-size (x ∷ s) = omega (arith, length-append (decimal x) (commaed s), commaed-size s)

sizes-split : (n : ℕ) (s : Chutes) → sizes (take n s) + sizes (drop n s) ≡ sizes s
unfolding sizes
sizes-split zero s = omega arith
sizes-split (suc n) [] = refl
sizes-split (suc n) (x ∷ s) = omega (arith, sizes-split n s)

-- the brackets and the bar are three
pub text-parts : (s : Chutes) → length (text_of s) ≡ 3 + length (listed (take (first_run s) s)) + length (listed (drop (first_run s) s))
unfolding text_of
text-parts s =
    let run = listed (take (first_run s) s) in
    let others = listed (drop (first_run s) s) in
    omega (arith, length-append run (124 ∷ (others ++ (93 ∷ []))), length-append others (93 ∷ []))

pub text-size : (s : Chutes) → length (text_of s) ≡ 3 + sizes s + (first_run s - 1) + (length s - first_run s - 1)
text-size s =
    let n = first_run s in
    omega (
      arith,
      text-parts s,
      listed-size (take n s),
      listed-size (drop n s),
      sizes-split n s,
      length-take-le n s (run-le s),
      length-drop n s,
    )
