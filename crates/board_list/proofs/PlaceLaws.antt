-- A list's ids place by place: the cells written so far, the rows used so far, and the verdict that is still open.
use Rattle.std.specs.Prelude.{◌≡◌, refl, Bool, true, false, ◌||◌, List, [], ◌∷◌, ◌++◌, map, ℕ, suc, ◌+◌, ◌^◌, ◌<◌, ◌≤◌, eqb, length, get_or, set, take}
use Rattle.std.specs.declared.result.Result.TheVariants.{Ok, Err}
use Rattle.std.specs.Int.Bits.{bit_or}
use Rattle.std.proofs.Common.{sym, ap, ◌∙◌, inl, inr, ⊎_elim, arith, take-suc, length-take-le, eqb-true, eq-eqb, ne_eqb, le-leb}
use Rattle.std.proofs.lemmas.List.{map-append, length-map}
use Rattle.std.proofs.lemmas.List.Edits.{sets}
use Rattle.std.proofs.lemmas.Bool.{eqb-false, lt-leb}
use Rattle.mask.specs.Bit.{bit}
use Rattle.mask.specs.Sets.{in-none, in-with}
use Rattle.mask.specs.Tests.{eqb-iff}
use Rattle.rules.specs.Board as rules
use Rattle.rules.specs.declared.Refusal.TheVariants.{Unknown, Repeated, TooLong}
use Rattle.rules.proofs.Tests.{or-false}
use Rattle.rules.proofs.Loops.{scan_at, scan-unknown, scan-repeated, scan-next, scan-end}
use Rattle.board.specs.Rows.{seat_in}
use Rattle.board.specs.View.{rows_from}
use Rattle.board.proofs.Seats.{seated, unseated, seat-agree}
use Rattle.board.proofs.RowLaws.{known_at, known-none, rows_agree}
use Rattle.board_list.specs.Places.{placed, placed_by, places_of}

-- ---- of any list

among-last : (j i : ℕ) (is : List ℕ) → rules.among j (is ++ (i ∷ [])) ≡ rules.among j is || eqb j i
among-last j i [] = or-false (eqb j i)
among-last j i (k ∷ is) = go (eqb j k) (among-last j i is)
  where
    go : (b : Bool) → rules.among j (is ++ (i ∷ [])) ≡ rules.among j is || eqb j i → b || rules.among j (is ++ (i ∷ [])) ≡ (b || rules.among j is) || eqb j i
    go true e = refl
    go false e = e

sets_last : (l : List ℕ) (i k : ℕ) (vs : List ℕ) (x : ℕ) → i + length vs ≡ k → sets l i (vs ++ (x ∷ [])) ≡ set (sets l i vs) k x
sets_last l i k [] x e = let z : i ≡ k = omega arith in ap (λ (j : ℕ). set l j x) z
sets_last l i k (v ∷ vs) x e = sets_last (set l i v) (suc i) k vs x (omega arith)

with-test : (n k j : ℕ) → eqb (bit (bit_or n (2 ^ k)) j) 1 ≡ eqb (bit n j) 1 || eqb j k
with-test n k j = go (eqb (bit n j) 1) refl (eqb j k) refl
  where
    go : (a : Bool) → eqb (bit n j) 1 ≡ a → (b : Bool) → eqb j k ≡ b → eqb (bit (bit_or n (2 ^ k)) j) 1 ≡ a || b
    go true p b q = eq-eqb (bit (bit_or n (2 ^ k)) j) 1 ((in-with n k j).1 (inl (eqb-true (bit n j) 1 p)))
    go false p true q = eq-eqb (bit (bit_or n (2 ^ k)) j) 1 ((in-with n k j).1 (inr (eqb-true j k q)))
    go false p false q = ne_eqb (bit (bit_or n (2 ^ k)) j) 1 (λ e. ⊎_elim (eqb-false (bit n j) 1 p) (eqb-false j k q) ((in-with n k j).0 e))

-- ---- among the first n ids

module _ (id : ℕ → ℕ) (n : ℕ) where
  abbrev seat : ℕ → ℕ
  seat x = seat_in id n x

  abbrev rows : rules.Rows
  rows = rows_from id (λ i. []) 0 n

  -- the rows used by the ids of a list
  abbrev pub Used : ℕ → List ℕ → Type 0
  Used u is = (x : ℕ) → seat x < 64 → eqb (bit u (seat x)) 1 ≡ rules.among x is

  pub used-none : (u : ℕ) → u ≡ 0 → Used u []
  used-none u z x h = rw z (ne_eqb (bit 0 (seat x)) 1 (in-none (seat x)))

  one-seat : (x y : ℕ) → seat x < 64 → seat y < 64 → eqb (seat x) (seat y) ≡ eqb x y
  one-seat x y p q = eqb-iff (seat x) (seat y) x y (λ e. sym (seated id n x p).1 ∙ ap id e ∙ (seated id n y q).1) (λ e. ap (seat_in id n) e)

  pub used-more : (u i : ℕ) (is : List ℕ) → seat i < 64 → Used u is → Used (bit_or u (2 ^ seat i)) (is ++ (i ∷ []))
  used-more u i is l h x k =
      with-test u (seat i) (seat x) ∙ (λ t. h x k t || one-seat x i k l t) ∙ sym (among-last x i is)

  -- the place that a list has come to
  pub record Open (is at₀ at : List ℕ) (u p : ℕ) : Type 0 where
    pub most : p ≤ length is
    pub cells : at ≡ sets at₀ 0 (map (seat_in id n) (take p is))
    pub used : Used u (take p is)
    pub rest : scan_at rows is p ≡ rules.scan rows [] 0 is

  pub open-start : (is at : List ℕ) (u : ℕ) → u ≡ 0 → Open is at at u 0
  open-start is at u z = record { most = omega arith; cells = refl; used = used-none u z; rest = refl }

  pub too_long : (is at : List ℕ) → 64 < length is → placed (Err TooLong) at ≡ places_of id n is at
  unfolding places_of
  too_long is at h = rw (lt-leb (length is) 64 h)

  module _ (is at₀ at : List ℕ) (u p : ℕ) (short : length is ≤ 64) (o : Open is at₀ at u p) where
    ended : (v : rules.Verdict) → scan_at rows is p ≡ v → places_of id n is at₀ ≡ placed_by v (seat_in id n) is at₀
    unfolding places_of
    ended v e =
        let whole : rules.listing is rows ≡ v = rw (le-leb (length is) 64 short) (sym o.rest ∙ e) in
        ap (λ (w : rules.Verdict). placed_by w (seat_in id n) is at₀) whole

    module _ (l : p < length is) where
      -- the id at this place isn't registered
      pub unknown-here : n ≤ 64 → 64 ≤ seat (get_or is p 0) → placed (Err (Unknown p)) at ≡ places_of id n is at₀
      unknown-here few h =
          ap (placed (Err (Unknown p))) o.cells
          ∙ sym (ended (rules.refused (Unknown p)) (scan-unknown rows is p l (known-none id n (λ i. []) (get_or is p 0) (unseated id n (get_or is p 0) few h))))

      module _ (k : seat (get_or is p 0) < 64) where
        here : rules.known rows (get_or is p 0) ≡ true
        here = let s = seated id n (get_or is p 0) k in known_at id n (λ i. []) (get_or is p 0) (seat (get_or is p 0)) s.0 s.1

        -- it stood earlier
        pub repeated-here : eqb (bit u (seat (get_or is p 0))) 1 ≡ true → placed (Err (Repeated p)) at ≡ places_of id n is at₀
        repeated-here e =
            ap (placed (Err (Repeated p))) o.cells
            ∙ sym (ended (rules.refused (Repeated p)) (scan-repeated rows is p l here (sym (o.used (get_or is p 0) k) ∙ e)))

        -- it is taken
        pub open_more : eqb (bit u (seat (get_or is p 0))) 1 ≡ false → (v : ℕ) → v ≡ bit_or u (2 ^ seat (get_or is p 0)) → Open is at₀ (set at p (seat (get_or is p 0))) v (suc p)
        open_more e v g = record {
          most = l;
          cells = ap (λ (c : List ℕ). set c p (seat (get_or is p 0))) o.cells ∙ sym (sets_last at₀ 0 p (map (seat_in id n) (take p is)) (seat (get_or is p 0)) count) ∙ ap (sets at₀ 0) written;
          used = rw (g, take-suc is p 0 l) (used-more u (get_or is p 0) (take p is) k o.used);
          rest = sym (scan-next rows is p l here (sym (o.used (get_or is p 0) k) ∙ e)) ∙ o.rest;
        }
          where
            count : 0 + length (map (seat_in id n) (take p is)) ≡ p
            count = let z : length (map (seat_in id n) (take p is)) ≡ p = length-map (take p is) (seat_in id n) ∙ length-take-le p is o.most in omega arith

            written : map (seat_in id n) (take p is) ++ (seat (get_or is p 0) ∷ []) ≡ map (seat_in id n) (take (suc p) is)
            written = sym (ap (map (seat_in id n)) (take-suc is p 0 l) ∙ map-append (seat_in id n) (take p is) (get_or is p 0 ∷ []))

    pub all_here : p ≡ length is → placed (Ok tt) at ≡ places_of id n is at₀
    all_here e =
        ap (placed (Ok tt)) (o.cells ∙ ap (λ (k : ℕ). sets at₀ 0 (map (seat_in id n) (take k is))) e)
        ∙ sym (ended rules.accepted (ap (scan_at rows is) e ∙ scan-end rows is))

-- the same ids have the same places
pub places-agree : (f g : ℕ → ℕ) (n : ℕ) → ((k : ℕ) → k < n → f k ≡ g k) → (is at : List ℕ) → places_of f n is at ≡ places_of g n is at
unfolding places_of
places-agree f g n h is at =
    let rs : rows_from f (λ i. []) 0 n ≡ rows_from g (λ i. []) 0 n = rows_agree f g (λ i. []) (λ i. []) 0 n (λ i l m. h i (omega arith)) (λ i l m. refl) in
    λ t. placed_by (rules.listing is (rs t)) (λ x. seat-agree f g n x h t) is at
