-- A list is refused as the rules say; the cells of one that isn't are the seats of its ids, which are registered and differ.
use Rattle.std.specs.Prelude.{◌≡◌, refl, Bool, true, false, not, ◌&&◌, List, [], ◌∷◌, map, ℕ, zero, suc, ◌+◌, ◌<◌, ◌≤◌, T, eqb, ltb, leb, length, get_or, take, drop}
use Rattle.std.proofs.Common.{sym, ap, ◌∙◌, subst, not-suc-le-zero, le_of_suc-le-suc, arith, leb→le, T_not, ltb-true, ltb-false}
use Rattle.std.proofs.Math.Decide.{ℕ_discrete}
use Rattle.std.proofs.lemmas.List.{length-map}
use Rattle.std.proofs.lemmas.List.Edits.{sets, sets-eq}
use lib.Dec.{eqb_refl}
use lib.ListN.{get_or-append}
use lib.Seq.{length-sets, take-length}
use Rattle.rules.specs.Board as rules
use Rattle.rules.specs.declared.Refusal.TheVariants.{Unknown, Repeated, TooLong}
use Rattle.rules.proofs.Tests.{or_left, or_right, and_left, and_right, is_true}
use Rattle.rules.proofs.RowLaws.{proper, listing-proper, same_known}
use Rattle.domain.specs.Set.{set_of}
use Rattle.board.specs.Rows.{id_at, domain_at, seat}
use Rattle.board.specs.Well.{well_board}
use Rattle.board.specs.View.{rows_from, view}
use Rattle.board.specs.declared.Board.{Board}
use Rattle.board.proofs.RowLaws.{rows-ids}
use Rattle.board.proofs.ViewLaws.{seat-below, seat-id, view-unknown}
use Rattle.board_list.specs.Places.{verdict_of, passed, placed_by, places_of}

-- ---- rows with the same ids refuse the same lists

scan-same : (rs ts : rules.Rows) → ((j : ℕ) → rules.known rs j ≡ rules.known ts j) → (seen : List ℕ) (p : ℕ) (is : List ℕ) → rules.scan rs seen p is ≡ rules.scan ts seen p is
scan-same rs ts h seen p [] = refl
scan-same rs ts h seen p (i ∷ is) =
    λ k. rules.unless (h i k) (Unknown p) (rules.unless (not (rules.among i seen)) (Repeated p) (scan-same rs ts h (i ∷ seen) (suc p) is k))

pub listing-same : (rs ts : rules.Rows) → rules.ids rs ≡ rules.ids ts → (is : List ℕ) → rules.listing is rs ≡ rules.listing is ts
listing-same rs ts e is = ap (rules.unless (leb (length is) 64) TooLong) (scan-same rs ts (same_known rs ts e) [] 0 is)

-- ---- lists of registered ids, each once

among-at : (is : List ℕ) (p : ℕ) → p < length is → T (rules.among (get_or is p 0) is)
among-at [] p l = absurd (not-suc-le-zero l)
among-at (i ∷ is) zero l = or_left (eqb i i) (rules.among i is) (eqb_refl i)
among-at (i ∷ is) (suc p) l = or_right (eqb (get_or is p 0) i) (rules.among (get_or is p 0) is) (among-at is p (le_of_suc-le-suc l))

module _ (rs : rules.Rows) where
  proper-known : (is : List ℕ) → T (proper rs is) → (p : ℕ) → p < length is → rules.known rs (get_or is p 0) ≡ true
  proper-known [] t p l = absurd (not-suc-le-zero l)
  proper-known (i ∷ is) t zero l = is_true (rules.known rs i) (and_left (rules.known rs i) (not (rules.among i is) && proper rs is) t)
  proper-known (i ∷ is) t (suc p) l =
      proper-known is (and_right (not (rules.among i is)) (proper rs is) (and_right (rules.known rs i) (not (rules.among i is) && proper rs is) t)) p (le_of_suc-le-suc l)

  proper-once : (is : List ℕ) → T (proper rs is) → (p q : ℕ) → p < q → q < length is → get_or is p 0 ≡ get_or is q 0 → ⊥
  proper-once [] t p q l m e = not-suc-le-zero m
  proper-once (i ∷ is) t p zero l m e = not-suc-le-zero l
  proper-once (i ∷ is) t zero (suc q) l m e =
      T_not (rules.among i is) (and_left (not (rules.among i is)) (proper rs is) (and_right (rules.known rs i) (not (rules.among i is) && proper rs is) t))
      (subst (λ (j : ℕ). T (rules.among j is)) (sym e) (among-at is q (le_of_suc-le-suc m)))
  proper-once (i ∷ is) t (suc p) (suc q) l m e =
      proper-once is (and_right (not (rules.among i is)) (proper rs is) (and_right (rules.known rs i) (not (rules.among i is) && proper rs is) t)) p q (le_of_suc-le-suc l) (le_of_suc-le-suc m) e

pub map_at : {A B : Type 0} (f : A → B) (l : List A) (p : ℕ) (a : A) (b : B) → p < length l → get_or (map f l) p b ≡ f (get_or l p a)
map_at f [] p a b h = absurd (not-suc-le-zero h)
map_at f (x ∷ l) zero a b h = refl
map_at f (x ∷ l) (suc p) a b h = map_at f l p a b (le_of_suc-le-suc h)

-- ---- on a board

module _ (b : Board) (is at : List ℕ) where
  -- the verdict on a list is the rules'
  pub verdict-view : verdict_of (id_at b.rows) b.count is ≡ rules.listing is (view b).now
  verdict-view = listing-same (rows_from (id_at b.rows) (λ i. []) 0 b.count) (view b).now (rows-ids (id_at b.rows) b.count (λ i. []) (λ i. set_of (domain_at b.rows i)) 0) is

  pub seats-view : places_of (id_at b.rows) b.count is at ≡ placed_by (rules.listing is (view b).now) (seat b) is at
  unfolding places_of
  seats-view = ap (λ (v : rules.Verdict). placed_by v (seat b) is at) verdict-view

  pub seats-length : length (places_of (id_at b.rows) b.count is at).at ≡ length at
  unfolding places_of
  seats-length = length-sets at 0 (map (seat b) (take (passed (verdict_of (id_at b.rows) b.count is) (length is)) is))

  module _ (ok : rules.listing is (view b).now ≡ rules.accepted) where
    accepts : T (rules.accepts (rules.listing is (view b).now))
    accepts = rw ok tt

    pub listed-few : length is ≤ 64
    listed-few = leb→le (length is) 64 (listing-proper is (view b).now accepts).0

    -- the cells hold the seats of the ids
    pub seats-at : (p : ℕ) → p < length is → length is ≤ length at → get_or (places_of (id_at b.rows) b.count is at).at p 0 ≡ seat b (get_or is p 0)
    seats-at p l m =
        let vs = map (seat b) is in
        let n : length vs ≡ length is = length-map is (seat b) in
        ap (λ r. get_or r.at p 0) (seats-view ∙ ap (λ (v : rules.Verdict). placed_by v (seat b) is at) ok)
        ∙ ap (λ (l : List ℕ). get_or (sets at 0 (map (seat b) l)) p 0) (take-length is)
        ∙ ap (λ (l : List ℕ). get_or l p 0) (sets-eq vs at 0 (omega arith))
        ∙ get_or-append vs (drop (0 + length vs) at) 0 p (omega arith)
        ∙ map_at (seat b) is p 0 0 l

    module _ (w : well_board b ≡ true) where
      -- they are registered
      pub listed-seat : (p : ℕ) → p < length is → seat b (get_or is p 0) < 64
      listed-seat p l = go (ltb (seat b (get_or is p 0)) 64) refl
        where
          go : (t : Bool) → ltb (seat b (get_or is p 0)) 64 ≡ t → seat b (get_or is p 0) < 64
          go true e = ltb-true (seat b (get_or is p 0)) 64 e
          go false e =
              let z : true ≡ false = sym (proper-known (view b).now is (listing-proper is (view b).now accepts).1 p l) ∙ view-unknown b w (get_or is p 0) (ltb-false (seat b (get_or is p 0)) 64 e) in
              let y : ◌≡◌ {A = ℕ} 0 1 = cc in
              absurd (omega arith)

      pub listed_below : (p : ℕ) → p < length is → seat b (get_or is p 0) < b.count
      listed_below p l = seat-below b w (get_or is p 0) (listed-seat p l)

      -- and differ
      pub listed-apart : (p q : ℕ) → p < length is → q < length is → seat b (get_or is p 0) ≡ seat b (get_or is q 0) → p ≡ q
      listed-apart p q l m e = go (ℕ_discrete p q) (ltb p q) refl
        where
          same : get_or is p 0 ≡ get_or is q 0
          same = sym (seat-id b w (get_or is p 0) (listed-seat p l)) ∙ ap (id_at b.rows) e ∙ seat-id b w (get_or is q 0) (listed-seat q m)

          once : (i j : ℕ) → i < j → j < length is → get_or is i 0 ≡ get_or is j 0 → ⊥
          once = proper-once (view b).now is (listing-proper is (view b).now accepts).1

          go : Dec (p ≡ q) → (t : Bool) → ltb p q ≡ t → p ≡ q
          go (yes z) t h = z
          go (no z) true h = absurd (once p q (ltb-true p q h) m same)
          go (no z) false h = absurd (once q p (omega (arith, ltb-false p q h)) l (sym same))
