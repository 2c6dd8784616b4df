-- Laws for the code's loops: the sweep place by place, subsets of one place, the chain over the table, the size of a union however it is
-- gathered, and a list's ids place by place.
use Rattle.std.specs.Prelude.{◌≡◌, refl, Bool, true, false, not, ◌&&◌, ◌||◌, cond, List, [], ◌∷◌, ◌++◌, map, ℕ, zero, suc, ◌≤◌, ◌<◌, eqb, length, get_or, take, drop, set}
use Rattle.std.proofs.Common.{sym, ap, ◌∙◌, append-nil, le_refl, not-suc-le-zero, le_of_suc-le-suc, drop_of_length-le, take-suc, drop-cons, take-suc-set, drop-set-lt}
use Rattle.std.proofs.lemmas.Simd.{map-map}
use Rattle.std.proofs.lemmas.List.{set_split}
use lib.Seq.{append_snoc}
use Rattle.rules.specs.declared.Refusal.TheVariants.{Unknown, Repeated}
use Rattle.rules.specs.Sets.{Chutes, has, keep, some, strike, all, union, Different, Within}
use Rattle.rules.specs.Pass.{Places, pick, choose, Swept, still, lost, sweep, next, chain, tight}
use Rattle.rules.specs.Board.{Rows, among, known, Verdict, accepted, refused, unless, scan}
use Rattle.rules.proofs.Tests.{or_left, or_right, or_assoc, or-true}
use Rattle.rules.proofs.SetLaws.{has-append, has-once, once-same, pigeon}

-- ---- a sweep, place by place

-- what is done already, and what is still to come
abbrev pub ahead : List Chutes → Bool → Swept → Swept
ahead pre c r = record { domains = pre ++ r.domains; changed = c || r.changed; consistent = r.consistent }

-- at place j, of m and of the domains ds as they then are
module _ (m : Places) (u : Chutes) (ds : List Chutes) (j : ℕ) (c : Bool) (hm : j < length m) (hd : j < length ds) where
  pub sweep-inside : get_or m j false ≡ true → ahead (take j ds) c (sweep (drop j m) u (drop j ds)) ≡ ahead (take (suc j) ds) c (sweep (drop (suc j) m) u (drop (suc j) ds))
  sweep-inside e = rw (drop-cons m j false hm, e, drop-cons ds j [] hd, take-suc ds j [] hd, append_snoc)

  pub sweep-outside : (e : Chutes) (hit : Bool) → get_or m j false ≡ false → strike u (get_or ds j []) ≡ e → lost e (get_or ds j []) ≡ hit → hit && not (some e) ≡ false → ahead (take j ds) c (sweep (drop j m) u (drop j ds)) ≡ ahead (take (suc j) (set ds j e)) (c || hit) (sweep (drop (suc j) m) u (drop (suc j) (set ds j e)))
  sweep-outside e hit p q r s = rw (drop-cons m j false hm, p, drop-cons ds j [] hd, q, r, s, take-suc-set ds j e hd, drop-set-lt (suc j) ds j e (le_refl (suc j)), append_snoc, or_assoc)

  pub sweep-stop : (e : Chutes) → get_or m j false ≡ false → strike u (get_or ds j []) ≡ e → lost e (get_or ds j []) && not (some e) ≡ true → ahead (take j ds) c (sweep (drop j m) u (drop j ds)) ≡ record { domains = set ds j e; changed = true; consistent = false }
  sweep-stop e p q s = rw (drop-cons m j false hm, p, drop-cons ds j [] hd, q, s, set_split ds j e hd, or-true)

-- ---- a subset of one place

abbrev pub none : ℕ → Places
none zero = []
none (suc n) = false ∷ none n

abbrev pub only : ℕ → ℕ → Places
only zero i = []
only (suc n) zero = true ∷ none n
only (suc n) (suc i) = false ∷ only n i

abbrev pub up_to : ℕ → List ℕ
up_to zero = []
up_to (suc n) = zero ∷ map suc (up_to n)

choose-zero : (n : ℕ) → choose n 0 ≡ none n ∷ []
choose-zero zero = refl
choose-zero (suc n) = rw (choose-zero n)

pub choose_one : (n : ℕ) → choose n 1 ≡ map (only n) (up_to n)
choose_one zero = refl
choose_one (suc n) = rw (choose-zero n, choose_one n) (ap (λ (r : List Places). (true ∷ none n) ∷ r) (map-map (λ p. false ∷ p) (only n) (up_to n) ∙ sym (map-map (only (suc n)) suc (up_to n))))

pick-none : {A : Type 0} (n : ℕ) (l : List A) → pick (none n) l ≡ []
pick-none zero l = refl
pick-none (suc n) [] = refl
pick-none (suc n) (x ∷ l) = pick-none n l

pick-only : (ds : List Chutes) (i : ℕ) → i < length ds → pick (only (length ds) i) ds ≡ get_or ds i [] ∷ []
pick-only [] i h = absurd (not-suc-le-zero h)
pick-only (d ∷ ds) zero h = rw (pick-none (length ds) ds)
pick-only (d ∷ ds) (suc i) h = pick-only ds i (le_of_suc-le-suc h)

-- it is tight exactly if the place is assigned, and its union is the domain
pub union-only : (ds : List Chutes) (i : ℕ) → i < length ds → Different (get_or ds i []) → union (pick (only (length ds) i) ds) ≡ get_or ds i []
union-only ds i h d = rw (pick-only ds i h, append-nil) (once-same (get_or ds i []) d)

pub tight-only : (ds : List Chutes) (i : ℕ) → i < length ds → Different (get_or ds i []) → tight (only (length ds) i) ds ≡ eqb (length (get_or ds i [])) 1
tight-only ds i h d = rw (union-only ds i h d, pick-only ds i h)

-- ---- the chain over the table

-- a chain over the table, idle at what does not belong, is the chain over what belongs
pub chain-keep : {M : Type 0} (p : M → Bool) (f : M → List Chutes → Swept) (ms : List M) (ds : List Chutes) → chain (λ m es. cond (p m) (f m es) (still es)) ms ds ≡ chain f (keep p ms) ds
chain-keep p f [] ds = refl
chain-keep p f (m ∷ ms) ds = go (λ es. chain-keep p f ms es) (p m)
  where
    go : ((es : List Chutes) → chain (λ m es. cond (p m) (f m es) (still es)) ms es ≡ chain f (keep p ms) es) → (b : Bool) → next (cond b (f m ds) (still ds)) (λ es. chain (λ m es. cond (p m) (f m es) (still es)) ms es) ≡ chain f (cond b (m ∷ keep p ms) (keep p ms)) ds
    go ih true = simp ih
    go ih false = ih ds

pub chain-map : {L M : Type 0} (g : L → M) (f : M → List Chutes → Swept) (ms : List L) (ds : List Chutes) → chain f (map g ms) ds ≡ chain (λ l. f (g l)) ms ds
chain-map g f [] ds = refl
chain-map g f (m ∷ ms) ds = ap (λ (k : List Chutes → Swept). next (f (g m) ds) k) (λ i es. chain-map g f ms es i)

-- ---- the size of a union

within_all : (ds : List Chutes) (i : ℕ) → i < length ds → Within (get_or ds i []) (all ds)
within_all [] i h x k = absurd (not-suc-le-zero h)
within_all (d ∷ ds) zero h x k = rw has-append (or_left (has x d) (has x (all ds)) k)
within_all (d ∷ ds) (suc i) h x k = rw has-append (or_right (has x d) (has x (all ds)) (within_all ds i (le_of_suc-le-suc h) x k))

-- a union has at least the values of each of its sets: so a subset with a larger domain than it has ids is not tight
pub union-least : (ds : List Chutes) (i : ℕ) → i < length ds → Different (get_or ds i []) → length (get_or ds i []) ≤ length (union ds)
union-least ds i h d = pigeon (get_or ds i []) (union ds) d (λ x k. rw has-once (within_all ds i h x k))

-- ---- a list's ids, place by place

among-snoc : (j i : ℕ) (is : List ℕ) → among j (i ∷ is) ≡ among j (is ++ (i ∷ []))
among-snoc j i [] = refl
among-snoc j i (k ∷ is) = go (eqb j i) (eqb j k) (among-snoc j i is)
  where
    go : (x y : Bool) → x || among j is ≡ among j (is ++ (i ∷ [])) → x || (y || among j is) ≡ y || among j (is ++ (i ∷ []))
    go true true e = refl
    go true false e = e
    go false true e = refl
    go false false e = e

scan-seen : (rs : Rows) (s t : List ℕ) → ((j : ℕ) → among j s ≡ among j t) → (p : ℕ) (is : List ℕ) → scan rs s p is ≡ scan rs t p is
scan-seen rs s t h p [] = refl
scan-seen rs s t h p (i ∷ is) =
    λ k. unless (known rs i) (Unknown p) (unless (not (h i k)) (Repeated p) (scan-seen rs (i ∷ s) (i ∷ t) (λ j. ap (λ (b : Bool). eqb j i || b) (h j)) (suc p) is k))

-- the scan that has come to place p: at place 0 it is the whole
abbrev pub scan_at : Rows → List ℕ → ℕ → Verdict
scan_at rs is p = scan rs (take p is) p (drop p is)

module _ (rs : Rows) (is : List ℕ) (p : ℕ) (h : p < length is) where
  pub scan-unknown : known rs (get_or is p 0) ≡ false → scan_at rs is p ≡ refused (Unknown p)
  scan-unknown e = rw (drop-cons is p 0 h, e)

  pub scan-repeated : known rs (get_or is p 0) ≡ true → among (get_or is p 0) (take p is) ≡ true → scan_at rs is p ≡ refused (Repeated p)
  scan-repeated e f = rw (drop-cons is p 0 h, e, f)

  pub scan-next : known rs (get_or is p 0) ≡ true → among (get_or is p 0) (take p is) ≡ false → scan_at rs is p ≡ scan_at rs is (suc p)
  scan-next e f =
      rw (drop-cons is p 0 h, e, f, take-suc is p 0 h)
      (scan-seen rs (get_or is p 0 ∷ take p is) (take p is ++ (get_or is p 0 ∷ [])) (λ j. among-snoc j (get_or is p 0) (take p is)) (suc p) (drop (suc p) is))

pub scan-end : (rs : Rows) (is : List ℕ) → scan_at rs is (length is) ≡ accepted
scan-end rs is = rw (drop_of_length-le is (le_refl (length is)))
