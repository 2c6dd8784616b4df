-- Laws of rows: what a put changes and what it leaves, and which lists are accepted.
use Rattle.std.specs.Prelude.{◌≡◌, refl, Bool, true, false, not, ◌&&◌, ◌||◌, cond, List, [], ◌∷◌, ◌⊎◌, ℕ, suc, T, eqb, leb, length}
use Rattle.std.proofs.Common.{subst, sym, ap, ◌∙◌, inl, inr, ⊎_elim, arith, eqb→eq, T_not}
use lib.Dec.{eqb_refl, not_T}
use Rattle.rules.specs.declared.Refusal.TheVariants.{Unknown, Repeated, TooLong}
use Rattle.rules.specs.Sets.{Chutes, Every, Ascending}
use Rattle.rules.specs.Board.{Rows, ids, among, known, domain, put, puts, domains, accepted, unless, scan, listing, accepts, Ordered}
use Rattle.rules.proofs.Tests.{or_cases, or_left, or_right, and_left, and_right, and_both, is_true, true-is, on-cond}

-- ---- one row

pub known_among : (rs : Rows) (i : ℕ) → known rs i ≡ among i (ids rs)
known_among [] i = refl
known_among (r ∷ rs) i = ap (λ (b : Bool). eqb i r.id || b) (known_among rs i)

pub put-cases : (rs : Rows) (i : ℕ) (d : Chutes) (j : ℕ) → ((j ≡ i) × (domain (put rs i d) j ≡ d)) ⊎ (domain (put rs i d) j ≡ domain rs j)
put-cases [] i d j = inr refl
put-cases (r ∷ rs) i d j = go (put-cases rs i d j) (eqb i r.id) refl (eqb j r.id) refl
  where
    Goal : Rows → Type 0
    Goal rs' = ((j ≡ i) × (domain rs' j ≡ d)) ⊎ (domain rs' j ≡ domain (r ∷ rs) j)

    go : ((j ≡ i) × (domain (put rs i d) j ≡ d)) ⊎ (domain (put rs i d) j ≡ domain rs j) → (b : Bool) → eqb i r.id ≡ b → (c : Bool) → eqb j r.id ≡ c → Goal (cond b (record { id = r.id; chutes = d } ∷ rs) (r ∷ put rs i d))
    go ih true e true f = inl (eqb→eq j r.id (true-is f) ∙ sym (eqb→eq i r.id (true-is e)), rw f)
    go ih true e false f = inr (rw f)
    go ih false e true f = inr (rw f)
    go ih false e false f = rw f ih

pub put_same : (rs : Rows) (i : ℕ) (d : Chutes) → T (known rs i) → domain (put rs i d) i ≡ d
put_same [] i d k = absurd k
put_same (r ∷ rs) i d k = go (put_same rs i d) (eqb i r.id) refl k
  where
    go : (T (known rs i) → domain (put rs i d) i ≡ d) → (b : Bool) → eqb i r.id ≡ b → T (b || known rs i) → domain (cond b (record { id = r.id; chutes = d } ∷ rs) (r ∷ put rs i d)) i ≡ d
    go ih true e t = rw e
    go ih false e t = rw e (ih t)

-- a put to an id that isn't registered changes nothing
pub put-unknown : (rs : Rows) (i : ℕ) (d : Chutes) → known rs i ≡ false → put rs i d ≡ rs
put-unknown [] i d k = refl
put-unknown (r ∷ rs) i d k = go (put-unknown rs i d) (eqb i r.id) k
  where
    go : (known rs i ≡ false → put rs i d ≡ rs) → (b : Bool) → b || known rs i ≡ false → cond b (record { id = r.id; chutes = d } ∷ rs) (r ∷ put rs i d) ≡ r ∷ rs
    go ih true e = cc
    go ih false e = ap (λ (t : Rows). r ∷ t) (ih e)

-- the ids and their order stay
pub ids-put : (rs : Rows) (i : ℕ) (d : Chutes) → ids (put rs i d) ≡ ids rs
ids-put [] i d = refl
ids-put (r ∷ rs) i d = go (ids-put rs i d) (eqb i r.id)
  where
    go : ids (put rs i d) ≡ ids rs → (b : Bool) → ids (cond b (record { id = r.id; chutes = d } ∷ rs) (r ∷ put rs i d)) ≡ r.id ∷ ids rs
    go ih true = refl
    go ih false = ap (λ (l : List ℕ). r.id ∷ l) ih

pub ids-puts : (rs : Rows) (is : List ℕ) (ds : List Chutes) → ids (puts rs is ds) ≡ ids rs
ids-puts rs [] ds = refl
ids-puts rs (i ∷ is) [] = refl
ids-puts rs (i ∷ is) (d ∷ ds) = ids-put (puts rs is ds) i d ∙ ids-puts rs is ds

-- so the same ids are known
pub same_known : (rs ts : Rows) → ids rs ≡ ids ts → (j : ℕ) → known rs j ≡ known ts j
same_known rs ts e j = known_among rs j ∙ ap (among j) e ∙ sym (known_among ts j)

pub known-put : (rs : Rows) (i : ℕ) (d : Chutes) (j : ℕ) → known (put rs i d) j ≡ known rs j
known-put rs i d j = same_known (put rs i d) rs (ids-put rs i d) j

pub known-puts : (rs : Rows) (is : List ℕ) (ds : List Chutes) (j : ℕ) → known (puts rs is ds) j ≡ known rs j
known-puts rs is ds j = same_known (puts rs is ds) rs (ids-puts rs is ds) j

pub domain-unknown : (rs : Rows) (i : ℕ) → known rs i ≡ false → domain rs i ≡ []
domain-unknown [] i k = refl
domain-unknown (r ∷ rs) i k = go (domain-unknown rs i) (eqb i r.id) k
  where
    go : (known rs i ≡ false → domain rs i ≡ []) → (b : Bool) → b || known rs i ≡ false → cond b r.chutes (domain rs i) ≡ []
    go ih true e = cc
    go ih false e = ih e

-- ---- lists that are accepted

-- ids that are registered, each once
abbrev pub proper : Rows → List ℕ → Bool
proper rs [] = true
proper rs (i ∷ is) = known rs i && (not (among i is) && proper rs is)

scan-proper : (rs : Rows) (seen : List ℕ) (p : ℕ) (is : List ℕ) → T (accepts (scan rs seen p is)) → T (proper rs is) × ((j : ℕ) → T (among j is) → T (among j seen) → ⊥)
scan-proper rs seen p [] t = (tt, λ j h k. h)
scan-proper rs seen p (i ∷ is) t = go (known rs i) refl (among i seen) refl (λ h. scan-proper rs (i ∷ seen) (suc p) is h) t
  where
    Goal : Type 0
    Goal = T (proper rs (i ∷ is)) × ((j : ℕ) → T (among j (i ∷ is)) → T (among j seen) → ⊥)

    go : (a : Bool) → known rs i ≡ a → (b : Bool) → among i seen ≡ b → (T (accepts (scan rs (i ∷ seen) (suc p) is)) → T (proper rs is) × ((j : ℕ) → T (among j is) → T (among j (i ∷ seen)) → ⊥)) → T (accepts (unless a (Unknown p) (unless (not b) (Repeated p) (scan rs (i ∷ seen) (suc p) is)))) → Goal
    go false e b f ih h = absurd h
    go true e true f ih h = absurd h
    go true e false f ih h =
        let r = ih h in
        let new : T (not (among i is)) = not_T (among i is) (λ k. r.1 i k (or_left (eqb i i) (among i seen) (eqb_refl i))) in (
          rw e (and_both (not (among i is)) (proper rs is) new r.0),
          λ j k l.
              ⊎_elim
              (λ q. let z : T (among i seen) = rw (eqb→eq j i q) at l in rw f at z)
              (λ m. r.1 j m (or_right (eqb j i) (among j seen) l))
              (or_cases (eqb j i) (among j is) k),
        )

proper-scan : (rs : Rows) (seen : List ℕ) (p : ℕ) (is : List ℕ) → T (proper rs is) → ((j : ℕ) → T (among j is) → T (among j seen) → ⊥) → scan rs seen p is ≡ accepted
proper-scan rs seen p [] t h = refl
proper-scan rs seen p (i ∷ is) t h =
    let more = and_right (known rs i) (not (among i is) && proper rs is) t in
    let new = not_T (among i seen) (h i (or_left (eqb i i) (among i is) (eqb_refl i))) in
    let alone = T_not (among i is) (and_left (not (among i is)) (proper rs is) more) in
    rw (is_true (known rs i) (and_left (known rs i) (not (among i is) && proper rs is) t), is_true (not (among i seen)) new)
    (proper-scan rs (i ∷ seen) (suc p) is (and_right (not (among i is)) (proper rs is) more)
    (λ j k l.
    ⊎_elim (λ q. alone (rw (eqb→eq j i q) at k)) (λ m. h j (or_right (eqb j i) (among j is) k) m) (or_cases (eqb j i) (among j seen) l)))

-- a list is accepted exactly if it has at most 64 ids, all registered, each once
pub listing-proper : (is : List ℕ) (rs : Rows) → T (accepts (listing is rs)) → T (leb (length is) 64) × T (proper rs is)
listing-proper is rs t = go (leb (length is) 64) t
  where
    go : (y : Bool) → T (accepts (unless y TooLong (scan rs [] 0 is))) → T y × T (proper rs is)
    go true h = (tt, (scan-proper rs [] 0 is h).0)
    go false h = absurd h

pub proper-listing : (is : List ℕ) (rs : Rows) → T (leb (length is) 64) → T (proper rs is) → listing is rs ≡ accepted
proper-listing is rs t h = rw (is_true (leb (length is) 64) t) (proper-scan rs [] 0 is h (λ j k l. l))

-- ---- several rows: only the listed ones change, and those become what is put

pub puts-other : (rs : Rows) (is : List ℕ) (ds : List Chutes) (j : ℕ) → T (not (among j is)) → domain (puts rs is ds) j ≡ domain rs j
puts-other rs [] ds j t = refl
puts-other rs (i ∷ is) [] j t = refl
puts-other rs (i ∷ is) (d ∷ ds) j t =
    ⊎_elim
    (λ c. absurd (T_not (among j (i ∷ is)) t (subst (λ (n : ℕ). T (among n (i ∷ is))) (sym c.0) (or_left (eqb i i) (among i is) (eqb_refl i)))))
    (λ c. c ∙ puts-other rs is ds j (not_T (among j is) (λ h. T_not (among j (i ∷ is)) t (or_right (eqb j i) (among j is) h))))
    (put-cases (puts rs is ds) i d j)

put-others : (rs : Rows) (i : ℕ) (d : Chutes) (is : List ℕ) → T (not (among i is)) → domains (put rs i d) is ≡ domains rs is
put-others rs i d [] t = refl
put-others rs i d (j ∷ is) t =
    let n = T_not (among i (j ∷ is)) t in
    let e : domain (put rs i d) j ≡ domain rs j =
    ⊎_elim (λ c. absurd (n (rw c.0 (or_left (eqb i i) (among i is) (eqb_refl i))))) (λ c. c) (put-cases rs i d j) in
    rw (e, put-others rs i d is (not_T (among i is) (λ h. n (or_right (eqb i j) (among i is) h))))

pub puts-listed : (rs : Rows) (is : List ℕ) (ds : List Chutes) → T (proper rs is) → length ds ≡ length is → domains (puts rs is ds) is ≡ ds
puts-listed rs [] [] t e = refl
puts-listed rs [] (d ∷ ds) t e = absurd (omega arith)
puts-listed rs (i ∷ is) [] t e = absurd (omega arith)
puts-listed rs (i ∷ is) (d ∷ ds) t e =
    let r = and_right (known rs i) (not (among i is) && proper rs is) t in
    let k : T (known (puts rs is ds) i) = rw known-puts (and_left (known rs i) (not (among i is) && proper rs is) t) in
    let ih = puts-listed rs is ds (and_right (not (among i is)) (proper rs is) r) (omega arith) in
    rw (put_same (puts rs is ds) i d k, put-others (puts rs is ds) i d is (and_left (not (among i is)) (proper rs is) r), ih)

-- ---- domains that ascend

pub ordered-domain : (rs : Rows) (i : ℕ) → Ordered rs → Ascending (domain rs i)
ordered-domain [] i h = tt
ordered-domain (r ∷ rs) i h = on-cond Ascending (eqb i r.id) (λ t. h.0) (ordered-domain rs i h.1)

pub ordered-domains : (rs : Rows) (is : List ℕ) → Ordered rs → Every Ascending (domains rs is)
ordered-domains rs [] h = tt
ordered-domains rs (i ∷ is) h = (ordered-domain rs i h, ordered-domains rs is h)

pub ordered-put : (rs : Rows) (i : ℕ) (d : Chutes) → Ascending d → Ordered rs → Ordered (put rs i d)
ordered-put [] i d a h = tt
ordered-put (r ∷ rs) i d a h = on-cond Ordered (eqb i r.id) (λ t. (a, h.1)) (h.0, ordered-put rs i d a h.1)

pub ordered-puts : (rs : Rows) (is : List ℕ) (ds : List Chutes) → Every Ascending ds → Ordered rs → Ordered (puts rs is ds)
ordered-puts rs [] ds a h = h
ordered-puts rs (i ∷ is) [] a h = h
ordered-puts rs (i ∷ is) (d ∷ ds) a h = ordered-put (puts rs is ds) i d a.0 (ordered-puts rs is ds a.1 h)
