-- A list is refused by 8 exactly if it has more than 64 ids; else by 6 or 7 exactly at the leftmost place whose id isn't registered, or stood earlier.
use Rattle.std.specs.Prelude.{◌≡◌, refl, List, [], ◌↔◌, ◌⊎◌, ℕ, zero, suc, ◌+◌, ◌<◌, ◌≤◌, leb, length, get_or, take}
use Rattle.std.proofs.Common.{sym, ◌∙◌, inl, inr, arith, leb-true, leb-false, le-leb}
use Rattle.std.proofs.lemmas.Bool.{lt-leb}
use Rattle.rules.specs.Board.{Rows, known, among, refused, scan, listing}
use Rattle.rules.specs.declared.Refusal.{Refusal}
use Rattle.rules.specs.declared.Refusal.TheVariants.{TooLong}
use Rattle.rules.proofs.Loops.{scan_at, scan-unknown, scan-repeated, scan-next, scan-end}
use Rattle.refusals.specs.Boards.{Fine, Leftmost, Amiss}
use Rattle.refusals.proofs.Reading.{taken, split}

module _ (rs : Rows) (is : List ℕ) where
  -- places before p are fine, and one more
  more : (p : ℕ) → ((q : ℕ) → q < p → Fine rs is q) → Fine rs is p → (q : ℕ) → q < suc p → Fine rs is q
  more p h f q l = split (leb p q) (λ e. let k = leb-true p q e in let z : p ≡ q = omega arith in rw (sym z) f) (λ e. h q (let k = leb-false p q e in omega arith))

  -- a scan that is refused came to the first place that isn't fine
  found : (n p : ℕ) → p + n ≡ length is → ((q : ℕ) → q < p → Fine rs is q) → (r : Refusal) → scan_at rs is p ≡ refused r → (q : ℕ) × (q < length is) × ((k : ℕ) → k < q → Fine rs is k) × Amiss rs is q r
  found zero p e h r s = let z : p ≡ length is = omega arith in absurd (taken r (sym (scan-end rs is) ∙ (rw z at s)))
  found (suc n) p e h r s =
      let l : p < length is = omega arith in
      split (known rs (get_or is p 0))
      (λ y. split (among (get_or is p 0) (take p is))
      (λ a. let t = sym s ∙ scan-repeated rs is p l y a in (p, l, h, inr (cc, y, a)))
      (λ a. found n (suc p) (omega arith) (more p h (record { known = y; fresh = a })) r (sym (scan-next rs is p l y a) ∙ s)))
      (λ y. let t = sym s ∙ scan-unknown rs is p l y in (p, l, h, inl (cc, y)))

  -- and where all places before p are fine, it comes to p
  comes : (p : ℕ) → p ≤ length is → ((q : ℕ) → q < p → Fine rs is q) → scan_at rs is 0 ≡ scan_at rs is p
  comes zero l h = refl
  comes (suc p) l h =
      comes p (omega arith) (λ q k. h q (omega arith))
      ∙ scan-next rs is p (omega arith) (h p (omega arith)).known (h p (omega arith)).fresh

  pub long-exactly : (listing is rs ≡ refused TooLong) ↔ (64 < length is)
  long-exactly = (into, from)
    where
      into : listing is rs ≡ refused TooLong → 64 < length is
      into e = split (leb (length is) 64) (λ k. absurd (scan-long (rw k at e))) (λ k. leb-false (length is) 64 k)
        where
          scan-long : scan rs [] 0 is ≡ refused TooLong → ⊥
          scan-long s = not-long (found (length is) 0 (omega arith) (λ q l. absurd (omega arith)) TooLong s).3
            where
              not-long : {q : ℕ} → Amiss rs is q TooLong → ⊥
              not-long (inl h) = let f = h.0 in let z : ◌≡◌ {A = ℕ} 0 1 = cc in omega arith
              not-long (inr h) = let f = h.0 in let z : ◌≡◌ {A = ℕ} 0 1 = cc in omega arith

      from : 64 < length is → listing is rs ≡ refused TooLong
      from h = rw (lt-leb (length is) 64 h)

  -- the leftmost place that isn't fine, and what is amiss there
  pub place-exactly : (r : Refusal) → (listing is rs ≡ refused r) ↔ (((r ≡ TooLong) × (64 < length is)) ⊎ ((p : ℕ) × Leftmost rs is p × Amiss rs is p r))
  place-exactly r = (into, from)
    where
      into : listing is rs ≡ refused r → ((r ≡ TooLong) × (64 < length is)) ⊎ ((p : ℕ) × Leftmost rs is p × Amiss rs is p r)
      into e =
          split (leb (length is) 64)
          (λ k. let f = found (length is) 0 (omega arith) (λ q l. absurd (omega arith)) r (rw k at e) in
          inr (f.0, record { short = leb-true (length is) 64 k; within = f.1; before = f.2 }, f.3))
          (λ k. let t : refused TooLong ≡ refused r = rw k at e in inl (cc, leb-false (length is) 64 k))

      from : ((r ≡ TooLong) × (64 < length is)) ⊎ ((p : ℕ) × Leftmost rs is p × Amiss rs is p r) → listing is rs ≡ refused r
      from (inl h) = rw (lt-leb (length is) 64 h.1, h.0)
      from (inr h) = rw (le-leb (length is) 64 h.1.short) (comes h.0 (let l = h.1.within in omega arith) h.1.before ∙ there h.2)
        where
          there : Amiss rs is h.0 r → scan_at rs is h.0 ≡ refused r
          there (inl a) = scan-unknown rs is h.0 h.1.within a.1 ∙ let f = a.0 in cc
          there (inr a) = scan-repeated rs is h.0 h.1.within a.1 a.2 ∙ let f = a.0 in cc
