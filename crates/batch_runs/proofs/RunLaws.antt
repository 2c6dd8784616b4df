-- Runs of numbers, place by place. Assumes nothing.
use Rattle.std.specs.Prelude.{◌≡◌, refl, Bool, true, false, List, [], ◌∷◌, ◌++◌, ℕ, zero, suc, ◌+◌, ◌≤◌, ◌<◌, eqb, ltb, ℤ, pos, length, get_or, take, set}
use Rattle.std.proofs.Common.{sym, ap, ◌∙◌, not-suc-le-zero, le_of_suc-le-suc, add-one, arith, take-suc, take-suc-set, take_all, eq-eqb, ne_eqb, lt-ltb, le-ltb, eqb-true, ltb-false}
use Rattle.rules.proofs.Tests.{and-false}
use Rattle.closing.specs.declared.Closing.{Closing}
use Rattle.batch_runs.specs.declared.Fault.TheVariants.{Uneven, Long, Bad}
use Rattle.std.specs.declared.result.Result.TheVariants.{Ok, Err}
use Rattle.batch_runs.specs.Runs.{is_kind, kinds_form, form_of, closing_at, closings_of}

-- ---- the form

pub form-ids : (ks : List ℕ) (n m : ℕ) → (n ≡ length ks → ⊥) → Err Uneven ≡ form_of ks n m
unfolding form_of
form-ids ks n m ne = rw (ne_eqb n (length ks) ne)

pub form-values : (ks : List ℕ) (n m : ℕ) → (m ≡ length ks → ⊥) → Err Uneven ≡ form_of ks n m
unfolding form_of
form-values ks n m ne = rw (ne_eqb m (length ks) ne, and-false (eqb n (length ks)))

pub form-long : (ks : List ℕ) (n m : ℕ) → n ≡ length ks → m ≡ length ks → 256 < length ks → Err Long ≡ form_of ks n m
unfolding form_of
form-long ks n m p q l = rw (eq-eqb n (length ks) p, eq-eqb m (length ks) q, lt-ltb 256 (length ks) l)

pub form-kinds : (ks : List ℕ) (n m : ℕ) → n ≡ length ks → m ≡ length ks → length ks ≤ 256 → kinds_form 0 ks ≡ form_of ks n m
unfolding form_of
form-kinds ks n m p q l = rw (eq-eqb n (length ks) p, eq-eqb m (length ks) q, le-ltb 256 (length ks) l)

-- every number is a kind, or the first that is none is found
pub kinds-all : (p : ℕ) (ks : List ℕ) → ((k : ℕ) → k < length ks → is_kind (get_or ks k 0) ≡ true) → Ok tt ≡ kinds_form p ks
kinds-all p [] h = refl
kinds-all p (k ∷ ks) h = kinds-all (suc p) ks (λ j l. h (suc j) (omega arith)) ∙ sym (rw (h 0 (omega arith)))

pub kinds-first : (p i q : ℕ) (ks : List ℕ) → i < length ks → p + i ≡ q → is_kind (get_or ks i 0) ≡ false → ((k : ℕ) → k < i → is_kind (get_or ks k 0) ≡ true) → Err (Bad q) ≡ kinds_form p ks
kinds-first p i q [] l e bad h = absurd (not-suc-le-zero l)
kinds-first p zero q (k ∷ ks) l e bad h = let z : p ≡ q = omega arith in sym (rw bad (ap (λ n. Err (Bad n)) z))
kinds-first p (suc i) q (k ∷ ks) l e bad h =
    kinds-first (suc p) i q ks (le_of_suc-le-suc l) (omega arith) bad (λ j m. h (suc j) (omega arith)) ∙ sym (rw (h 0 (omega arith)))

-- what is written as a batch has one length, and that is at most 256
pub formed : (ks : List ℕ) (n m : ℕ) → form_of ks n m ≡ Ok tt → (n ≡ length ks) × (m ≡ length ks) × (length ks ≤ 256)
unfolding form_of
formed ks n m e = go (eqb n (length ks)) refl (eqb m (length ks)) refl (ltb 256 (length ks)) refl
  where
    go : (p : Bool) → eqb n (length ks) ≡ p → (q : Bool) → eqb m (length ks) ≡ q → (r : Bool) → ltb 256 (length ks) ≡ r → (n ≡ length ks) × (m ≡ length ks) × (length ks ≤ 256)
    go true p true q false r = (eqb-true n (length ks) p, eqb-true m (length ks) q, ltb-false 256 (length ks) r)
    go true p true q true r = absurd (let z : Err Long ≡ Ok tt = sym (rw (p, q, r)) ∙ e in cc)
    go true p false q r z = absurd (let y : Err Uneven ≡ Ok tt = sym (rw (p, q)) ∙ e in cc)
    go false p q u r z = absurd (let y : Err Uneven ≡ Ok tt = sym (rw p) ∙ e in cc)

-- ---- the closings

pub closings-length : (ks is : List ℕ) (vs : List ℤ) → length is ≡ length ks → length vs ≡ length ks → length (closings_of ks is vs) ≡ length ks
closings-length [] is vs p q = refl
closings-length (k ∷ ks) [] vs p q = absurd (let z : ◌≡◌ {A = ℕ} 0 (suc (length ks)) = p in omega arith)
closings-length (k ∷ ks) (i ∷ is) [] p q = absurd (let z : ◌≡◌ {A = ℕ} 0 (suc (length ks)) = q in omega arith)
closings-length (k ∷ ks) (i ∷ is) (v ∷ vs) p q = ap suc (closings-length ks is vs (omega arith) (omega arith))

closing_at_lem : (c : Closing) (ks is : List ℕ) (vs : List ℤ) (j : ℕ) → j < length ks → length is ≡ length ks → length vs ≡ length ks → get_or (closings_of ks is vs) j c ≡ closing_at (get_or ks j 0) (get_or is j 0) (get_or vs j (pos 0))
closing_at_lem c [] is vs j l p q = absurd (not-suc-le-zero l)
closing_at_lem c (k ∷ ks) [] vs j l p q = absurd (let z : ◌≡◌ {A = ℕ} 0 (suc (length ks)) = p in omega arith)
closing_at_lem c (k ∷ ks) (i ∷ is) [] j l p q = absurd (let z : ◌≡◌ {A = ℕ} 0 (suc (length ks)) = q in omega arith)
closing_at_lem c (k ∷ ks) (i ∷ is) (v ∷ vs) zero l p q = refl
closing_at_lem c (k ∷ ks) (i ∷ is) (v ∷ vs) (suc j) l p q = closing_at_lem c ks is vs j (le_of_suc-le-suc l) (omega arith) (omega arith)

-- a closing more
pub closing-more : (ks is : List ℕ) (vs : List ℤ) (cs : List Closing) (i : ℕ) → i < length ks → i < length cs → length is ≡ length ks → length vs ≡ length ks → (c : Closing) → c ≡ closing_at (get_or ks i 0) (get_or is i 0) (get_or vs i (pos 0)) → take i cs ≡ take i (closings_of ks is vs) → take (i + 1) (set cs i c) ≡ take (i + 1) (closings_of ks is vs)
closing-more ks is vs cs i l m p q c e so =
    let all = closings_of ks is vs in
    let n : i < length all = omega (arith, closings-length ks is vs p q) in
    ap (λ (k : ℕ). take k (set cs i c)) (add-one i)
    ∙ take-suc-set cs i c m
    ∙ (λ t. so t ++ ((e ∙ sym (closing_at_lem c ks is vs i l p q)) t ∷ []))
    ∙ sym (take-suc all i c n)
    ∙ ap (λ (k : ℕ). take k all) (sym (add-one i))

pub closings-all : (ks is : List ℕ) (vs : List ℤ) → length is ≡ length ks → length vs ≡ length ks → take (length ks) (closings_of ks is vs) ≡ closings_of ks is vs
closings-all ks is vs p q = take_all (length ks) (closings_of ks is vs) (omega (arith, closings-length ks is vs p q))
