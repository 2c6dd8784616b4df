-- What is below a limit, of two masks together; what a put changes and leaves of the saved masks; and that words stay words.
use Rattle.std.specs.Prelude.{◌≡◌, refl, Bool, true, false, ◌&&◌, List, [], ◌∷◌, ℕ, zero, suc, ◌+◌, ◌^◌, ◌≤◌, ◌<◌, T, ltb, length, get_or, set}
use Rattle.std.specs.Int.Bits.{bit_or}
use Rattle.std.proofs.Common.{◌∙◌, inl, inr, le_antisymm, arith, ltb→lt, length-set, ltb-true, ltb-false, lt-ltb}
use lib.Seq.{get_or-set_same, get_or-set_other}
use Rattle.mask.specs.Sets.{In, in-or, fits_in, or-below}
use Rattle.mask.specs.Val.{Fit}
use Rattle.mask.specs.Words.{Words, word_lt}
use Rattle.mask.specs.declared.Mask.{Mask}
use Rattle.saved.specs.Saved.{start, saved_at, put_at}

-- ---- what is below a limit

is_false : (b : Bool) → (T b → ⊥) → b ≡ false
is_false true f = absurd (f tt)
is_false false f = refl

pub or-limit : (a b k : ℕ) → ltb (bit_or a b) (2 ^ k) ≡ ltb a (2 ^ k) && ltb b (2 ^ k)
or-limit a b k = go (ltb a (2 ^ k)) refl (ltb b (2 ^ k)) refl
  where
    clash : (x y : ℕ) → y ≤ x → x < y → ⊥
    clash x y h l = omega arith

    past : (x : ℕ) → ltb x (2 ^ k) ≡ false → ((j : ℕ) → In x j → In (bit_or a b) j) → ltb (bit_or a b) (2 ^ k) ≡ false
    past x e f = is_false (ltb (bit_or a b) (2 ^ k)) (λ t. clash x (2 ^ k) (ltb-false x (2 ^ k) e) ((fits_in x k).1 (λ j h. (fits_in (bit_or a b) k).0 (ltb→lt (bit_or a b) (2 ^ k) t) j (f j h))))

    go : (s : Bool) → ltb a (2 ^ k) ≡ s → (t : Bool) → ltb b (2 ^ k) ≡ t → ltb (bit_or a b) (2 ^ k) ≡ s && t
    go true p true q = lt-ltb (bit_or a b) (2 ^ k) (or-below a b k (ltb-true a (2 ^ k) p) (ltb-true b (2 ^ k) q))
    go true p false q = past b q (λ j h. (in-or a b j).1 (inr h))
    go false p t q = past a p (λ j h. (in-or a b j).1 (inl h))

-- ---- a put

module _ (ws : List ℕ) (m i : ℕ) (x : Mask) (room : start m i + 1 < length ws) where
  pub put-here : saved_at (put_at ws m i x) m i ≡ x
  unfolding saved_at put_at
  put-here =
      let lo : get_or (set (set ws (start m i) x.lo) (start m i + 1) x.hi) (start m i) 0 ≡ x.lo =
      get_or-set_other (set ws (start m i) x.lo) (start m i + 1) (start m i) x.hi 0 (λ e. omega arith)
      ∙ get_or-set_same ws (start m i) x.lo 0 (omega arith) in
      let hi : get_or (set (set ws (start m i) x.lo) (start m i + 1) x.hi) (start m i + 1) 0 ≡ x.hi =
      get_or-set_same (set ws (start m i) x.lo) (start m i + 1) x.hi 0 (rw length-set room) in
      λ t. record { lo = lo t; hi = hi t }

pub put-there : (ws : List ℕ) (m i : ℕ) (x : Mask) (n j : ℕ) → i < 64 → j < 64 → (m ≡ n → i ≡ j → ⊥) → saved_at (put_at ws m i x) n j ≡ saved_at ws n j
unfolding saved_at put_at
put-there ws m i x n j p q ne =
    let at : (k : ℕ) → (k ≡ start m i → ⊥) → (k ≡ start m i + 1 → ⊥) → get_or (set (set ws (start m i) x.lo) (start m i + 1) x.hi) k 0 ≡ get_or ws k 0 =
    λ k a b. get_or-set_other (set ws (start m i) x.lo) (start m i + 1) k x.hi 0 b ∙ get_or-set_other ws (start m i) k x.lo 0 a in
    let apart : (start n j ≡ start m i) → ⊥ =
    λ e. let z : m ≡ n = le_antisymm (omega arith) (omega arith) in ne z (omega arith) in
    λ t. record {
      lo = at (start n j) apart (λ e. omega arith) t;
      hi = at (start n j + 1) (λ e. omega arith) (λ e. apart (omega arith)) t;
    }

pub put-length : (ws : List ℕ) (m i : ℕ) (x : Mask) → length (put_at ws m i x) ≡ length ws
unfolding put_at
put-length ws m i x = rw (length-set, length-set)

-- ---- words of 64 bits

set_words : (ws : List ℕ) (i x : ℕ) → Words ws → x < 2 ^ 64 → Words (set ws i x)
set_words [] i x h l = tt
set_words (w ∷ ws) zero x h l = (l, h.1)
set_words (w ∷ ws) (suc i) x h l = (h.0, set_words ws i x h.1 l)

pub put-words : (ws : List ℕ) (m i : ℕ) (x : Mask) → Words ws → Fit x → Words (put_at ws m i x)
unfolding put_at
put-words ws m i x h f = set_words (set ws (start m i) x.lo) (start m i + 1) x.hi (set_words ws (start m i) x.lo h f.0) f.1.0

-- of such words every saved mask fits
pub saved-fit : (ws : List ℕ) (m i : ℕ) → Words ws → Fit (saved_at ws m i)
unfolding saved_at
saved-fit ws m i h = (word_lt ws (start m i) h, (word_lt ws (start m i + 1) h, tt))
