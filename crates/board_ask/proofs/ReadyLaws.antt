-- What the places of a list tell of it: its verdict, and whether every id in it is assigned.
use Rattle.std.specs.Prelude.{◌≡◌, refl, Bool, true, List, [], ◌∷◌, ℕ, zero, suc, ◌<◌, ◌≤◌, length, get_or, Result}
use Rattle.std.specs.declared.result.Result.TheVariants.{Ok, Err}
use Rattle.std.proofs.Common.{sym, ap, ◌∙◌, not-suc-le-zero, le_of_suc-le-suc, arith, lt-ltb}
use Rattle.mask.specs.Tests.{same_test}
use Rattle.rules.specs.Board as rules
use Rattle.rules.specs.Sets.{every}
use Rattle.rules.specs.declared.Refusal.{Refusal}
use Rattle.saved.specs.Upto.{upto}
use Rattle.saved.proofs.UptoLaws.{and-says, all, each, agree}
use Rattle.board.specs.Rows.{id_at, domain_at, seat, nowhere}
use Rattle.board.specs.Well.{well_board}
use Rattle.board.specs.View.{view}
use Rattle.board.specs.declared.Board.{Board}
use Rattle.board.proofs.WellLaws.{says-and}
use Rattle.board_list.specs.Places.{Placed, answer_of, placed, places_of}
use Rattle.board_list.proofs.Theorems.{seats-view, listed-few, seats-at, listed-seat}
use Rattle.board_ask.specs.Domains.{domain_of}
use Rattle.board_ask.specs.Ready.{assigned, judge, ready_of}

-- ---- every id of a list, place by place

module _ (g : ℕ → Bool) where
  every-says : (is : List ℕ) → every g is ≡ true → (p : ℕ) → p < length is → g (get_or is p 0) ≡ true
  every-says [] e p l = absurd (not-suc-le-zero l)
  every-says (i ∷ is) e zero l = (and-says (g i) (every g is) e).0
  every-says (i ∷ is) e (suc p) l = every-says is (and-says (g i) (every g is) e).1 p (le_of_suc-le-suc l)

  says-every : (is : List ℕ) → ((p : ℕ) → p < length is → g (get_or is p 0) ≡ true) → every g is ≡ true
  says-every [] h = refl
  says-every (i ∷ is) h = says-and (g i) (every g is) (h 0 (omega arith)) (says-every is (λ p l. h (suc p) (omega arith)))

  pub upto-every : (is : List ℕ) → upto (λ p. g (get_or is p 0)) (length is) ≡ every g is
  upto-every is =
      same_test (upto (λ p. g (get_or is p 0)) (length is)) (every g is)
      (λ e. says-every is (each (λ p. g (get_or is p 0)) (length is) e))
      (λ e. all (λ p. g (get_or is p 0)) (length is) (every-says is e))

-- ---- a list whose places were looked for

module _ (b : Board) (w : well_board b ≡ true) (is at₀ at : List ℕ) (long : length at₀ ≡ 64) (o : Result Unit Refusal) (e : placed o at ≡ places_of (id_at b.rows) b.count is at₀) where
  answer-is : o ≡ answer_of (rules.listing is (view b).now)
  answer-is = ap (λ (r : Placed). r.answer) (e ∙ seats-view b is at₀)

  -- it is refused as the rules say
  pub ready_refused : (r : Refusal) → o ≡ Err r → Err r ≡ ready_of b is
  unfolding ready_of
  ready_refused r q = rw w (go (rules.listing is (view b).now) (sym q ∙ answer-is))
    where
      go : (v : rules.Verdict) → Err r ≡ answer_of v → Err r ≡ judge v (every (λ i. assigned (domain_of b i)) is)
      go rules.accepted p = let z : ◌≡◌ {A = ℕ} 0 1 = cc in absurd (omega arith)
      go (rules.refused s) p = cc

  module _ (q : o ≡ Ok tt) where
    taken : rules.listing is (view b).now ≡ rules.accepted
    taken = go (rules.listing is (view b).now) (sym q ∙ answer-is)
      where
        go : (v : rules.Verdict) → Ok tt ≡ answer_of v → v ≡ rules.accepted
        go rules.accepted p = refl
        go (rules.refused s) p = let z : ◌≡◌ {A = ℕ} 0 1 = cc in absurd (omega arith)

    pub ready-few : length is ≤ 64
    ready-few = listed-few b is at₀ taken

    cell-is : (p : ℕ) → p < length is → get_or at p 0 ≡ seat b (get_or is p 0)
    cell-is p l = ap (λ (r : Placed). get_or r.at p 0) e ∙ seats-at b is at₀ taken p l (omega (arith, ready-few))

    pub ready-below : (p : ℕ) → p < length is → get_or at p 0 < 64
    ready-below p l = rw (cell-is p l) (listed-seat b is at₀ taken w p l)

    -- and else it is told whether every id in it is assigned
    pub ready-told : (y : Bool) → y ≡ upto (λ p. assigned (domain_at b.rows (get_or at p 0))) (length is) → Ok y ≡ ready_of b is
    unfolding ready_of
    ready-told y h =
        rw (w, taken)
        (ap Ok
        (h
        ∙ agree (λ p. assigned (domain_at b.rows (get_or at p 0))) (λ p. assigned (domain_of b (get_or is p 0))) (length is) (λ p l. ap assigned (here p l))
        ∙ upto-every (λ i. assigned (domain_of b i)) is))
      where
        here : (p : ℕ) → p < length is → domain_at b.rows (get_or at p 0) ≡ domain_of b (get_or is p 0)
        here p l =
            ap (domain_at b.rows) (cell-is p l)
            ∙ rw (lt-ltb (seat b (get_or is p 0)) nowhere (listed-seat b is at₀ taken w p l))
