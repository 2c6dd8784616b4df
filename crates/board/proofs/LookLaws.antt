-- What a caller of `look`, or of `check`, learns from its answer.
use Rattle.std.specs.Prelude.{◌≡◌, refl, Bool, true, false, cond, ℕ, ◌≤◌, ◌<◌, ltb, Option, Result}
use Rattle.std.specs.declared.option.Option.TheVariants.{None, Some}
use Rattle.std.specs.declared.result.Result.TheVariants.{Ok, Err}
use Rattle.std.proofs.Common.{sym, ap, ◌∙◌, arith, ne_eqb, ltb-true, ltb-false}
use Rattle.rules.specs.declared.Refusal.{Refusal}
use Rattle.rules.specs.declared.Refusal.TheVariants.{Broken}
use Rattle.board.specs.Rows.{id_at, seat, nowhere}
use Rattle.board.specs.Well.{well_board, look_of, row_told, seen, checked_of}
use Rattle.board.specs.declared.Board.{Board}
use Rattle.board.proofs.Seats.{seat-least}
use Rattle.board.proofs.WellLaws.{well-says, look-broken, look-seat}

row-seen : (p : ℕ) → p ≤ 64 → seen p ≡ Ok (row_told p)
row-seen p h = rw (ne_eqb p 65 (λ q. omega arith))

-- a place that is told
row-told : (p q : ℕ) → Some p ≡ row_told q → (p ≡ q) × (q < 64)
row-told p q = go (ltb q nowhere) refl
  where
    go : (t : Bool) → ltb q nowhere ≡ t → Some p ≡ cond t (Some q) None → (p ≡ q) × (q < 64)
    go true h e = (cc, ltb-true q nowhere h)
    go false h e = absurd (cc)

none-told : (q : ℕ) → None ≡ row_told q → 64 ≤ q
none-told q = go (ltb q nowhere) refl
  where
    go : (t : Bool) → ltb q nowhere ≡ t → None ≡ cond t (Some q) None → 64 ≤ q
    go true h e = absurd (cc)
    go false h e = ltb-false q nowhere h

module _ (b : Board) (x : ℕ) where
  abbrev told : Result (Option ℕ) Refusal
  told = seen (look_of b.rows b.count b.saved b.marks x)

  pub look-refuses : well_board b ≡ false → told ≡ Err Broken
  look-refuses w = ap seen (look-broken b.rows b.count b.saved b.marks x w)

  pub look-tells : well_board b ≡ true → told ≡ Ok (row_told (seat b x))
  look-tells w =
      ap seen (look-seat b.rows b.count b.saved b.marks x w)
      ∙ row-seen (seat b x) (seat-least (id_at b.rows) b.count x (well-says b.rows b.count b.saved b.marks w).few-rows)

  -- by what `look` answered
  pub looked-broken : (r : Refusal) → Err r ≡ told → (well_board b ≡ false) × (r ≡ Broken)
  looked-broken r e = go (well_board b) refl
    where
      go : (t : Bool) → well_board b ≡ t → (well_board b ≡ false) × (r ≡ Broken)
      go true w = let z = e ∙ look-tells w in absurd (cc)
      go false w = let z = e ∙ look-refuses w in (w, cc)

  pub looked : (o : Option ℕ) → Ok o ≡ told → (well_board b ≡ true) × (o ≡ row_told (seat b x))
  looked o e = go (well_board b) refl
    where
      go : (t : Bool) → well_board b ≡ t → (well_board b ≡ true) × (o ≡ row_told (seat b x))
      go true w = let z = e ∙ look-tells w in (w, cc)
      go false w = let z = e ∙ look-refuses w in absurd (cc)

  module _ (o : Option ℕ) (e : Ok o ≡ told) where
    pub looked-row : (p : ℕ) → o ≡ Some p → (well_board b ≡ true) × (p ≡ seat b x) × (seat b x < 64)
    looked-row p q = let s = looked o e in let t = row-told p (seat b x) (sym q ∙ s.1) in (s.0, t.0, t.1)

    pub looked-none : o ≡ None → (well_board b ≡ true) × (64 ≤ seat b x)
    looked-none q = let s = looked o e in (s.0, none-told (seat b x) (sym q ∙ s.1))

-- by what `check` answered
module _ (b : Board) where
  pub checked-broken : (r : Refusal) → Err r ≡ checked_of b → (well_board b ≡ false) × (r ≡ Broken)
  checked-broken r = go (well_board b) refl
    where
      go : (t : Bool) → well_board b ≡ t → Err r ≡ cond t (Ok (tt {0})) (Err Broken) → (t ≡ false) × (r ≡ Broken)
      go true w e = absurd (cc)
      go false w e = (refl, cc)

  pub checked-well : Ok tt ≡ checked_of b → well_board b ≡ true
  checked-well = go (well_board b)
    where
      go : (t : Bool) → Ok (tt {0}) ≡ cond t (Ok (tt {0})) (Err Broken) → t ≡ true
      go true e = refl
      go false e = absurd (cc)
