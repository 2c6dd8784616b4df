-- What saving changes and leaves of the saved masks, and what bringing back changes and leaves of the rows, place by place.
use Rattle.std.specs.Prelude.{◌≡◌, refl, List, ◌∷◌, ℕ, zero, suc, ◌<◌, ◌≤◌, length}
use Rattle.std.proofs.Common.{sym, ap, ◌∙◌, ⊎_elim, eq-or-lt_of_le, le_of_suc-le-suc, not-suc-le-zero, arith, length-set}
use Rattle.std.proofs.Math.Decide.{ℕ_discrete}
use Rattle.domain.specs.Set.{values_of}
use Rattle.domain.specs.declared.BitDomain.{BitDomain}
use Rattle.saved.specs.Saved.{saved_at, put_at}
use Rattle.saved.proofs.SavedLaws.{put-here, put-there, put-length}
use Rattle.board.specs.Rows.{id_at, domain_at, with_domain}
use Rattle.board.specs.View.{rows_of, saved_in, marks_of}
use Rattle.board.specs.declared.Row.{Row}
use Rattle.board.proofs.RowLaws.{rows_agree}
use Rattle.board.proofs.ViewLaws.{with-here, with-other, with-id, with_each}
use Rattle.trial.specs.Marks.{saving, masked, bringing}

strictly : (i n : ℕ) → i < suc n → (i ≡ n → ⊥) → i < n
strictly i n l ne = ⊎_elim (λ (e : i ≡ n). absurd (ne e)) (λ k. k) (eq-or-lt_of_le (le_of_suc-le-suc l))

-- ---- saving the masks of the first n rows at mark m

module _ (rows : List Row) (m : ℕ) (ws : List ℕ) where
  pub saving-length : (n : ℕ) → length (saving rows m n ws) ≡ length ws
  saving-length zero = refl
  saving-length (suc n) = put-length (saving rows m n ws) m n (domain_at rows n).mask ∙ saving-length n

  -- no other mark is touched
  pub saving-other : (n k i : ℕ) → n ≤ 64 → i < 64 → (m ≡ k → ⊥) → saved_at (saving rows m n ws) k i ≡ saved_at ws k i
  saving-other zero k i h l ne = refl
  saving-other (suc n) k i h l ne =
      put-there (saving rows m n ws) m n (domain_at rows n).mask k i (omega arith) l (λ e f. ne e)
      ∙ saving-other n k i (omega arith) l ne

  pub saving-here : (n i : ℕ) → n ≤ 64 → i < n → m < 8 → length ws ≡ 1024 → saved_at (saving rows m n ws) m i ≡ (domain_at rows i).mask
  saving-here zero i h l d long = absurd (not-suc-le-zero l)
  saving-here (suc n) i h l d long = go (λ k. saving-here n i (omega arith) k d long) (ℕ_discrete i n)
    where
      was : List ℕ
      was = saving rows m n ws

      go : (i < n → saved_at was m i ≡ (domain_at rows i).mask) → Dec (i ≡ n) → saved_at (put_at was m n (domain_at rows n).mask) m i ≡ (domain_at rows i).mask
      go ih (yes e) = rw e (put-here was m n (domain_at rows n).mask (rw (saving-length n) (omega arith)))
      go ih (no ne) =
          let k : i < n = strictly i n l ne in
          put-there was m n (domain_at rows n).mask m i (omega arith) (omega arith) (λ e f. ne (sym f)) ∙ ih k

-- ---- bringing back the masks of the first n rows

module _ (ws : List ℕ) (m : ℕ) (rows : List Row) where
  pub bringing-length : (n : ℕ) → length (bringing ws m n rows) ≡ length rows
  bringing-length zero = refl
  bringing-length (suc n) = rw length-set (bringing-length n)

  pub bringing-id : (n i : ℕ) → n ≤ length rows → id_at (bringing ws m n rows) i ≡ id_at rows i
  bringing-id zero i h = refl
  bringing-id (suc n) i h =
      let was = bringing ws m n rows in
      with-id was n (masked (domain_at was n) (saved_at ws m n)) (rw (bringing-length n) h) i ∙ bringing-id n i (omega arith)

  -- the universes stay
  pub bringing-min : (n i : ℕ) → n ≤ length rows → (domain_at (bringing ws m n rows) i).min ≡ (domain_at rows i).min
  bringing-min zero i h = refl
  bringing-min (suc n) i h =
      let was = bringing ws m n rows in
      with_each was n (masked (domain_at was n) (saved_at ws m n)) (rw (bringing-length n) h) (λ j d. d.min ≡ (domain_at rows j).min) (bringing-min n n (omega arith)) i (bringing-min n i (omega arith))

  pub bringing-max : (n i : ℕ) → n ≤ length rows → (domain_at (bringing ws m n rows) i).max ≡ (domain_at rows i).max
  bringing-max zero i h = refl
  bringing-max (suc n) i h =
      let was = bringing ws m n rows in
      with_each was n (masked (domain_at was n) (saved_at ws m n)) (rw (bringing-length n) h) (λ j d. d.max ≡ (domain_at rows j).max) (bringing-max n n (omega arith)) i (bringing-max n i (omega arith))

  -- each of the first n rows has the mask that was saved for it
  pub bringing-mask : (n i : ℕ) → n ≤ length rows → i < n → (domain_at (bringing ws m n rows) i).mask ≡ saved_at ws m i
  bringing-mask zero i h l = absurd (not-suc-le-zero l)
  bringing-mask (suc n) i h l = go (λ k. bringing-mask n i (omega arith) k) (ℕ_discrete i n)
    where
      was : List Row
      was = bringing ws m n rows

      new : BitDomain
      new = masked (domain_at was n) (saved_at ws m n)

      room : n < length was
      room = rw (bringing-length n) h

      go : (i < n → (domain_at was i).mask ≡ saved_at ws m i) → Dec (i ≡ n) → (domain_at (with_domain was n new) i).mask ≡ saved_at ws m i
      go ih (yes e) = rw e (ap (λ (d : BitDomain). d.mask) (with-here was n new room))
      go ih (no ne) = ap (λ (d : BitDomain). d.mask) (with-other was n new room i ne) ∙ ih (strictly i n l ne)

  -- so each of them is its domain with that mask
  pub bringing-domain : (n i : ℕ) → n ≤ length rows → i < n → domain_at (bringing ws m n rows) i ≡ masked (domain_at rows i) (saved_at ws m i)
  bringing-domain n i h l =
      let x = bringing-mask n i h l in
      let lo = bringing-min n i h in
      let hi = bringing-max n i h in
      λ t. record { mask = x t; min = lo t; max = hi t }

-- ---- what marks saved, as the rules see it, goes by the ids, the universes and the saved masks alone

pub marks-agree : (rows rows' : List Row) (count : ℕ) (ws ws' : List ℕ) (m : ℕ) → ((i : ℕ) → i < count → id_at rows i ≡ id_at rows' i) → ((i : ℕ) → i < count → (domain_at rows i).min ≡ (domain_at rows' i).min) → ((k i : ℕ) → k < m → i < count → saved_at ws k i ≡ saved_at ws' k i) → marks_of rows count ws m ≡ marks_of rows' count ws' m
marks-agree rows rows' count ws ws' zero a b c = refl
marks-agree rows rows' count ws ws' (suc m) a b c =
    let rest = marks-agree rows rows' count ws ws' m a b (λ k i p q. c k i (omega arith) q) in
    let here : rows_of rows count (saved_in rows ws m) ≡ rows_of rows' count (saved_in rows' ws' m) =
    rows_agree (id_at rows) (id_at rows') (saved_in rows ws m) (saved_in rows' ws' m) 0 count
    (λ i p q. a i (omega arith))
    (λ i p q. let e = b i (omega arith) in let f = c m i (omega arith) (omega arith) in λ t. values_of (e t) (f t)) in
    λ t. here t ∷ rest t
