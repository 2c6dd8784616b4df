-- Runs and tokens of a text, and the places between them. Assumes nothing.
use Rattle.std.specs.Prelude.{ℕ, zero, suc, ◌≤◌, ◌≡◌, refl, List, [], ◌∷◌, ◌++◌, Bool, true, false, cond, ◌&&◌, length, get_or, take, drop}
use Rattle.std.proofs.Common.{ap, ap₂, sym, ◌∙◌, arith}
use Rattle.std.proofs.Math.Option.{Option, some, none}
use Rattle.sheet_number.specs.Number.{in_run, is_digit, run}
use Rattle.sheet_laws.specs.First.{token, cuts_run}

-- ---- a token tells the run, and the first byte

twice-by : (t : Bool) (b : ℕ) (l : List ℕ) → in_run b ≡ t → run (run l) ≡ run l → run (cond t (b ∷ run l) []) ≡ cond t (b ∷ run l) []
unfolding run
twice-by true b l e ih = ap (λ (t : Bool). cond t (b ∷ run (run l)) []) e ∙ ap (λ (x : List ℕ). b ∷ x) ih
twice-by false b l e ih = refl

run-run : (l : List ℕ) → run (run l) ≡ run l
unfolding run
run-run [] = refl
run-run (b ∷ l) = twice-by (in_run b) b l refl (run-run l)

run_by : (t : Bool) (b : ℕ) (x : List ℕ) → in_run b ≡ t → run (cond t (run (b ∷ x)) (b ∷ [])) ≡ run (b ∷ x)
unfolding run
run_by true b x e = run-run (b ∷ x)
run_by false b x e = rw e

run-token : (x : List ℕ) → run (token x) ≡ run x
unfolding token
run-token [] = refl
run-token (b ∷ x) = run_by (in_run b) b x refl

pub token-run : (x y : List ℕ) → token y ≡ token x → run y ≡ run x
token-run x y e = sym (run-token y) ∙ ap run e ∙ run-token x

abbrev pub head : List ℕ → Option ℕ
head [] = none
head (b ∷ x) = some b

head-by : (t : Bool) (b : ℕ) (x : List ℕ) → in_run b ≡ t → head (cond t (run (b ∷ x)) (b ∷ [])) ≡ some b
unfolding run
head-by true b x e = rw e
head-by false b x e = refl

head-token : (x : List ℕ) → head (token x) ≡ head x
unfolding token
head-token [] = refl
head-token (b ∷ x) = head-by (in_run b) b x refl

pub token-head : (x y : List ℕ) → token y ≡ token x → head y ≡ head x
token-head x y e = sym (head-token y) ∙ ap head e ∙ head-token x

-- ---- a text is its first run and a rest that begins with none

pub record Split (l : List ℕ) : Type 0 where
  pub rest : List ℕ
  pub is : l ≡ run l ++ rest
  pub stops : run rest ≡ []

split_by : (t : Bool) (b : ℕ) (l : List ℕ) → in_run b ≡ t → Split l → Split (b ∷ l)
unfolding run
split_by true b l e ih =
    record {
      rest = ih.rest;
      is = ap (λ (x : List ℕ). b ∷ x) ih.is ∙ ap (λ (t : Bool). cond t (b ∷ run l) [] ++ ih.rest) (sym e);
      stops = ih.stops;
    }
split_by false b l e ih =
    record {
      rest = b ∷ l;
      is = ap (λ (t : Bool). cond t (b ∷ run l) [] ++ (b ∷ l)) (sym e);
      stops = ap (λ (t : Bool). cond t (b ∷ run l) []) e;
    }

pub split : (l : List ℕ) → Split l
unfolding run
split [] = record { rest = []; is = refl; stops = refl }
split (b ∷ l) = split_by (in_run b) b l refl (split l)

-- ---- a byte of a run at the start, and at the end

abbrev pub begins_run : List ℕ → Bool
begins_run y = in_run (get_or y 0 0)

nought : in_run 0 ≡ false
unfolding in_run is_digit
nought = refl

stops-by : (t : Bool) (b : ℕ) (l : List ℕ) → cond t (b ∷ l) [] ≡ [] → t ≡ false
stops-by true b l e = let z : ◌≡◌ {A = ℕ} 0 1 = cc in absurd (omega arith)
stops-by false b l e = refl

pub stops-begins : (y : List ℕ) → run y ≡ [] → begins_run y ≡ false
unfolding run
stops-begins [] e = nought
stops-begins (b ∷ y) e = stops-by (in_run b) b (run y) e

begins-stops : (y : List ℕ) → begins_run y ≡ false → run y ≡ []
unfolding run
begins-stops [] e = refl
begins-stops (b ∷ y) e = ap (λ (t : Bool). cond t (b ∷ run y) []) e

-- the last byte of w is of a run; t where there is none
unfoldable pub ends_run : Bool → List ℕ → Bool
ends_run t [] = t
ends_run t (b ∷ w) = ends_run (in_run b) w

ends-append : (t : Bool) (w v : List ℕ) → ends_run t (w ++ v) ≡ ends_run (ends_run t w) v
unfolding ends_run
ends-append t [] v = refl
ends-append t (b ∷ w) v = ends-append (in_run b) w v

pub ends-then : (w v : List ℕ) → ends_run false w ≡ false → ends_run false (w ++ v) ≡ ends_run false v
ends-then w v e = ends-append false w v ∙ ap (λ (t : Bool). ends_run t v) e

pub ends-byte : (w : List ℕ) (b : ℕ) → in_run b ≡ false → ends_run false (w ++ (b ∷ [])) ≡ false
unfolding ends_run
ends-byte w b e = ends-append false w (b ∷ []) ∙ e

pub and_none : (a b : Bool) → b ≡ false → a && b ≡ false
and_none true b e = e
and_none false b e = refl

-- ---- inside a run, where two texts meet

seam-from : (w : List ℕ) (b : ℕ) (y : List ℕ) → cuts_run (b ∷ (w ++ y)) (suc (length w)) ≡ ends_run (in_run b) w && begins_run y
unfolding cuts_run ends_run
seam-from [] b y = refl
seam-from (c ∷ w) b y = seam-from w c y

pub inside-seam : (w y : List ℕ) → cuts_run (w ++ y) (length w) ≡ ends_run false w && begins_run y
unfolding cuts_run ends_run
inside-seam [] y = refl
inside-seam (b ∷ w) y = seam-from w b y

-- ---- texts that are the same up to a place, and of which it cuts no run, have the same tokens before it

cond_same : (t : Bool) (b c : ℕ) (l k : List ℕ) → b ≡ c → (t ≡ true → l ≡ k) → cond t (b ∷ l) [] ≡ cond t (c ∷ k) []
cond_same true b c l k e h = ap₂ (λ (x : ℕ) (y : List ℕ). x ∷ y) e (h refl)
cond_same false b c l k e h = refl

run-same : (b c : ℕ) (s t : List ℕ) → b ≡ c → (in_run b ≡ true → run s ≡ run t) → run (b ∷ s) ≡ run (c ∷ t)
unfolding run
run-same b c s t e h = cond_same (in_run b) b c (run s) (run t) e h ∙ ap (λ (x : ℕ). cond (in_run x) (c ∷ run t) []) e

last-by : (t u : Bool) → t && u ≡ false → t ≡ true → u ≡ false
last-by true u e h = e
last-by false u e h = let z : ◌≡◌ {A = ℕ} 0 1 = cc in absurd (omega arith)

same-run : (q : ℕ) (s t : List ℕ) → take (suc q) s ≡ take (suc q) t → cuts_run s (suc q) ≡ false → cuts_run t (suc q) ≡ false → run s ≡ run t
unfolding cuts_run
same-run q [] [] e h k = refl
same-run q [] (c ∷ t) e h k = let z : ◌≡◌ {A = ℕ} 0 1 = cc in absurd (omega arith)
same-run q (b ∷ s) [] e h k = let z : ◌≡◌ {A = ℕ} 0 1 = cc in absurd (omega arith)
same-run zero (b ∷ s) (c ∷ t) e h k =
    let i : b ≡ c = cc in
    run-same b c s t i
    (λ r. begins-stops s (last-by (in_run b) (begins_run s) h r) ∙ sym (begins-stops t (last-by (in_run c) (begins_run t) k (ap in_run (sym i) ∙ r))))
same-run (suc q) (b ∷ s) (c ∷ t) e h k =
    let i : b ≡ c = cc in
    let j : take (suc q) s ≡ take (suc q) t = cc in
    run-same b c s t i (λ r. same-run q s t j h k)

pub same-token : (p q : ℕ) (s t : List ℕ) → p ≤ q → take (suc q) s ≡ take (suc q) t → cuts_run s (suc q) ≡ false → cuts_run t (suc q) ≡ false
    → token (drop p s) ≡ token (drop p t)
unfolding cuts_run token
same-token zero q [] [] l e h k = refl
same-token zero q [] (c ∷ t) l e h k = let z : ◌≡◌ {A = ℕ} 0 1 = cc in absurd (omega arith)
same-token zero q (b ∷ s) [] l e h k = let z : ◌≡◌ {A = ℕ} 0 1 = cc in absurd (omega arith)
same-token zero q (b ∷ s) (c ∷ t) l e h k =
    let i : b ≡ c = cc in
    ap₂ (λ (x : ℕ) (r : List ℕ). cond (in_run x) r (x ∷ [])) i (same-run q (b ∷ s) (c ∷ t) e h k)
same-token (suc p) zero s t l e h k = absurd (omega arith)
same-token (suc p) (suc q) [] [] l e h k = refl
same-token (suc p) (suc q) [] (c ∷ t) l e h k = let z : ◌≡◌ {A = ℕ} 0 1 = cc in absurd (omega arith)
same-token (suc p) (suc q) (b ∷ s) [] l e h k = let z : ◌≡◌ {A = ℕ} 0 1 = cc in absurd (omega arith)
same-token (suc p) (suc q) (b ∷ s) (c ∷ t) l e h k =
    let j : take (suc q) s ≡ take (suc q) t = cc in
    same-token p q s t (omega arith) j h k
