-- The pass of 01, "Board and pass", over the listed domains alone, in the list's order: so what it answers depends on nothing else.
use Rattle.std.specs.Prelude.{Bool, true, false, not, ◌&&◌, ◌||◌, cond, List, [], ◌∷◌, ◌++◌, map, ℕ, zero, suc, T, eqb, leb, ltb, length, ℤ}
use Rattle.rules.specs.Sets.{Chutes, has, some, strike, union}

-- ---- subsets of the list, by place

-- some of the listed places: true for each place that is inside
abbrev pub Places : Type 0
Places = List Bool

-- what stands at the places inside
abbrev pub pick : {A : Type 0} → Places → List A → List A
pick [] l = []
pick (b ∷ m) [] = []
pick (true ∷ m) (x ∷ l) = x ∷ pick m l
pick (false ∷ m) (x ∷ l) = pick m l

-- all choices of k of n places, in lexicographic order: of three places two are 0 1, 0 2, 1 2
abbrev pub choose : ℕ → ℕ → List Places
choose zero zero = [] ∷ []
choose zero (suc k) = []
choose (suc n) zero = map (λ m. false ∷ m) (choose n zero)
choose (suc n) (suc k) = map (λ m. true ∷ m) (choose n k) ++ map (λ m. false ∷ m) (choose n (suc k))

-- the subsets of step 2, in its order: of size 2, then 3, then 4. There are none that are larger than the list
abbrev pub rounds : ℕ → List Places
rounds n = choose n 2 ++ choose n 3 ++ choose n 4

-- ---- removals

-- the domains after some removals; whether there was one; and false where the last one emptied a domain, which stops the pass
pub record Swept : Type 0 where
  pub domains : List Chutes
  pub changed : Bool
  pub consistent : Bool

abbrev pub still : List Chutes → Swept
still ds = record { domains = ds; changed = false; consistent = true }

-- whether e, what is left of d, has fewer chutes
abbrev pub lost : Chutes → Chutes → Bool
lost e d = ltb (length e) (length d)

-- remove u from each domain outside m, in list order, up to the first that this empties. A domain that was empty before stops nothing
abbrev pub sweep : Places → Chutes → List Chutes → Swept
sweep [] u ds = still ds
sweep (b ∷ m) u [] = still []
sweep (true ∷ m) u (d ∷ ds) =
    let r = sweep m u ds in
    record { domains = d ∷ r.domains; changed = r.changed; consistent = r.consistent }
sweep (false ∷ m) u (d ∷ ds) =
    let e = strike u d in
    let r = sweep m u ds in
    cond (lost e d && not (some e))
    (record { domains = e ∷ ds; changed = true; consistent = false })
    (record { domains = e ∷ r.domains; changed = lost e d || r.changed; consistent = r.consistent })

-- one more step, unless the pass has stopped
abbrev pub next : Swept → (List Chutes → Swept) → Swept
next r f =
    let q = f r.domains in
    cond r.consistent (record { domains = q.domains; changed = r.changed || q.changed; consistent = q.consistent }) r

-- a step for each subset in turn, up to the first that stops
abbrev pub chain : {M : Type 0} → (M → List Chutes → Swept) → List M → List Chutes → Swept
chain f [] ds = still ds
chain f (m ∷ ms) ds = next (f m ds) (λ es. chain f ms es)

-- the domains inside m have as many values in all as m has ids: for one id, that it is assigned
abbrev pub tight : Places → List Chutes → Bool
tight m ds = eqb (length (union (pick m ds))) (length (pick m ds))

-- Hall's rule: if m is tight in ds, remove the values that it has there from what is outside m in es
abbrev pub hall : Places → List Chutes → List Chutes → Swept
hall m ds es = cond (tight m ds) (sweep m (union (pick m ds)) es) (still es)

-- ---- the two steps

-- what step 1 does for m: by the domains as they were at entry, ds. An id that becomes assigned meanwhile is not taken up
abbrev pub noted : List Chutes → Places → List Chutes → Swept
noted ds m es = hall m ds es

-- what step 2 does for m: by the present domains
abbrev pub present : Places → List Chutes → Swept
present m es = hall m es es

-- step 1: each id that is assigned at entry, in list order
unfoldable pub step1 : List Chutes → Swept
step1 ds = chain (noted ds) (choose (length ds) 1) ds

-- step 2, of a list of at most 6 ids: each of the subsets
unfoldable pub step2 : List Chutes → Swept
step2 ds = let r = chain present (rounds (length ds)) ds in cond (leb (length ds) 6) r (still ds)

-- a list of at most one id: nothing, even with an empty domain. After a stop in step 2 `changed` tells of step 1 only
unfoldable pub pass : List Chutes → Swept
pass ds =
    let r = step1 ds in
    let h = step2 r.domains in
    let both : Swept = record { domains = h.domains; changed = r.changed || (h.consistent && h.changed); consistent = h.consistent } in
    cond (leb (length ds) 1) (still ds) (cond r.consistent both r)

-- whether the pass sets the board's `domains_changed`: step 1 does when it removes a value, step 2 never
unfoldable pub raises : List Chutes → Bool
raises ds = cond (leb (length ds) 1) false (step1 ds).changed

-- ---- ways

-- the chutes w, one for each domain, are allowed
abbrev pub Fits : List Chutes → List ℤ → Type 0
Fits [] [] = Unit {0}
Fits [] (x ∷ w) = ⊥
Fits (d ∷ ds) [] = ⊥
Fits (d ∷ ds) (x ∷ w) = T (has x d) × Fits ds w
