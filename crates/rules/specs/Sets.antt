-- Finite sets of chutes as lists of ℤ. What is said of them goes by membership: the pass and the trials ask neither that a list ascend nor that
-- it hold a chute once. A registered domain does both (`ascending`), so that its length is its size.
use Rattle.std.specs.Prelude.{◌≡◌, refl, Bool, true, false, not, ◌&&◌, ◌||◌, cond, List, [], ◌∷◌, ◌++◌, T, eqb, ℤ, pos, negsuc}
use Rattle.std.specs.Int.Signed.{lt_z}

abbrev pub same : ℤ → ℤ → Bool
same (pos a) (pos b) = eqb a b
same (pos a) (negsuc b) = false
same (negsuc a) (pos b) = false
same (negsuc a) (negsuc b) = eqb a b

abbrev pub Chutes : Type 0
Chutes = List ℤ

abbrev pub has : ℤ → Chutes → Bool
has x [] = false
has x (y ∷ s) = same x y || has x s

abbrev pub some : {A : Type 0} → List A → Bool
some [] = false
some (x ∷ s) = true

abbrev pub every : {A : Type 0} → (A → Bool) → List A → Bool
every p [] = true
every p (x ∷ s) = p x && every p s

-- those of a list that pass a test
abbrev pub keep : {A : Type 0} → (A → Bool) → List A → List A
keep p [] = []
keep p (x ∷ s) = cond (p x) (x ∷ keep p s) (keep p s)

-- s without the members of u
abbrev pub strike : Chutes → Chutes → Chutes
strike u s = keep (λ x. not (has x u)) s

-- each member once
abbrev pub once : Chutes → Chutes
once [] = []
once (x ∷ s) = cond (has x s) (once s) (x ∷ once s)

-- the members of several sets, with repeats
abbrev pub all : List Chutes → Chutes
all [] = []
all (s ∷ ss) = s ++ all ss

-- the union of several sets, each member once: its length is its size
abbrev pub union : List Chutes → Chutes
union ss = once (all ss)

-- ---- in order

-- x in its place among ascending chutes, unless it is there
abbrev pub insert : ℤ → Chutes → Chutes
insert x [] = x ∷ []
insert x (y ∷ s) = cond (lt_z x y) (x ∷ y ∷ s) (cond (same x y) (y ∷ s) (y ∷ insert x s))

-- the same members, ascending, each once
abbrev pub ascending : Chutes → Chutes
ascending [] = []
ascending (x ∷ s) = insert x (ascending s)

-- every chute is smaller than all that follow
abbrev pub Ascending : Chutes → Type 0
Ascending [] = Unit {0}
Ascending (x ∷ s) = ((y : ℤ) → T (has y s) → T (lt_z x y)) × Ascending s

-- the smallest of x and the chutes of s; the largest
abbrev pub smallest : ℤ → Chutes → ℤ
smallest x [] = x
smallest x (y ∷ s) = smallest (cond (lt_z y x) y x) s

abbrev pub largest : ℤ → Chutes → ℤ
largest x [] = x
largest x (y ∷ s) = largest (cond (lt_z x y) y x) s

-- ---- by example

pub struck : strike (pos 2 ∷ pos 9 ∷ []) (pos 1 ∷ pos 2 ∷ pos 3 ∷ []) ≡ pos 1 ∷ pos 3 ∷ []
struck = refl

pub joined : union ((pos 1 ∷ pos 2 ∷ []) ∷ (pos 2 ∷ pos 3 ∷ []) ∷ []) ≡ pos 1 ∷ pos 2 ∷ pos 3 ∷ []
joined = refl

pub sorted : ascending (pos 3 ∷ negsuc 0 ∷ pos 3 ∷ pos 0 ∷ []) ≡ negsuc 0 ∷ pos 0 ∷ pos 3 ∷ []
sorted = refl

pub least : smallest (pos 3) (negsuc 0 ∷ negsuc 4 ∷ []) ≡ negsuc 4
least = refl

pub most : largest (negsuc 4) (negsuc 0 ∷ negsuc 8 ∷ []) ≡ negsuc 0
most = refl

-- ---- what is said of lists and sets

abbrev pub Every : {A : Type 0} → (A → Type 0) → List A → Type 0
Every P [] = Unit {0}
Every P (x ∷ s) = P x × Every P s

abbrev pub Different : Chutes → Type 0
Different [] = Unit {0}
Different (x ∷ s) = T (not (has x s)) × Different s

abbrev pub Within : Chutes → Chutes → Type 0
Within s t = (x : ℤ) → T (has x s) → T (has x t)
