-- A registration by the five ways through it: not well formed, a mark open, a known id, a new id with room, a new id on a full board.
use Rattle.std.specs.Prelude.{◌≡◌, refl, Bool, true, false, cond, ℕ, ◌+◌, ◌<◌, ◌≤◌, eqb, ltb}
use Rattle.std.specs.declared.result.Result.TheVariants.{Ok, Err}
use Rattle.std.proofs.Common.{sym, ap, ◌∙◌, arith, eqb-true, eq-eqb, ne_eqb, ltb-true, ltb-false, lt-ltb, le-ltb}
use Rattle.std.proofs.lemmas.Bool.{eqb-false}
use Rattle.rules.specs.declared.Refusal.{Refusal}
use Rattle.rules.specs.declared.Refusal.TheVariants.{Broken, Full, TrialOpen}
use Rattle.rules.specs.declared.Variable.{Variable}
use Rattle.domain.specs.declared.BitDomain.{BitDomain}
use Rattle.board.specs.Rows.{nowhere, seat}
use Rattle.board.specs.Well.{well_board}
use Rattle.board.specs.Answers.{done, denied}
use Rattle.board.specs.declared.Board.{Board}
use Rattle.board.proofs.ViewLaws.{seat-below}
use Rattle.board_enter.specs.Enter.{entered, enter_of, row_for}

-- ---- the definition, way by way

module _ (b : Board) (id : Variable) (d : BitDomain) where
  pub enter-broken : well_board b ≡ false → enter_of b id d ≡ denied b Broken
  unfolding enter_of
  enter-broken w = rw w

  module _ (w : well_board b ≡ true) where
    pub enter-open : (b.marks ≡ 0 → ⊥) → enter_of b id d ≡ denied b TrialOpen
    unfolding enter_of
    enter-open m = rw (w, ne_eqb b.marks 0 m)

    module _ (m : b.marks ≡ 0) where
      pub enter-known : seat b id.0 < 64 → enter_of b id d ≡ done (entered b id d (seat b id.0) b.count)
      unfolding enter_of
      enter-known h = rw (w, eq-eqb b.marks 0 m, lt-ltb (seat b id.0) nowhere h)

      pub enter-new : 64 ≤ seat b id.0 → b.count < 64 → enter_of b id d ≡ done (entered b id d b.count (b.count + 1))
      unfolding enter_of
      enter-new h l = rw (w, eq-eqb b.marks 0 m, le-ltb (seat b id.0) nowhere h, lt-ltb b.count 64 l)

      pub enter-full : 64 ≤ seat b id.0 → 64 ≤ b.count → enter_of b id d ≡ denied b Full
      unfolding enter_of
      enter-full h l = rw (w, eq-eqb b.marks 0 m, le-ltb (seat b id.0) nowhere h, le-ltb b.count 64 l)

-- ---- the row that a registration is given

module _ (b : Board) (id : Variable) where
  -- an accepted one has a row, by the two ways there are
  data Way (p : ℕ) : Type 0 where
    known : well_board b ≡ true → b.marks ≡ 0 → p ≡ seat b id.0 → seat b id.0 < 64 → Way p
    fresh : well_board b ≡ true → b.marks ≡ 0 → p ≡ b.count → 64 ≤ seat b id.0 → b.count < 64 → Way p

  way : (p : ℕ) → Ok p ≡ row_for b id → Way p
  way p = go (well_board b) refl (eqb b.marks 0) refl (ltb (seat b id.0) nowhere) refl (ltb b.count 64) refl
    where
      go : (x : Bool) → well_board b ≡ x → (y : Bool) → eqb b.marks 0 ≡ y → (z : Bool) → ltb (seat b id.0) nowhere ≡ z → (t : Bool) → ltb b.count 64 ≡ t
          → Ok p ≡ cond x (cond y (cond z (Ok (seat b id.0)) (cond t (Ok b.count) (Err Full))) (Err TrialOpen)) (Err Broken) → Way p
      go true e true f true g t h q = known e (eqb-true b.marks 0 f) (cc) (ltb-true (seat b id.0) nowhere g)
      go true e true f false g true h q = fresh e (eqb-true b.marks 0 f) (cc) (ltb-false (seat b id.0) nowhere g) (ltb-true b.count 64 h)
      go true e true f false g false h q = absurd (cc)
      go true e false f z g t h q = absurd (cc)
      go false e y f z g t h q = absurd (cc)

  module _ (d : BitDomain) where
    -- a registered id keeps its row, below the count, and a new one stands at the count
    pub entered-known : (p : ℕ) → Ok p ≡ row_for b id → (p ≡ b.count → ⊥) → done (entered b id d p b.count) ≡ enter_of b id d
    entered-known p q n = go (way p q)
      where
        go : Way p → done (entered b id d p b.count) ≡ enter_of b id d
        go (known w m e h) = ap (λ (i : ℕ). done (entered b id d i b.count)) e ∙ sym (enter-known b id d w m h)
        go (fresh w m e h l) = absurd (n e)

    pub entered-new : (p : ℕ) → Ok p ≡ row_for b id → p ≡ b.count → done (entered b id d p (b.count + 1)) ≡ enter_of b id d
    entered-new p q n = go (way p q)
      where
        go : Way p → done (entered b id d p (b.count + 1)) ≡ enter_of b id d
        go (known w m e h) = let l = seat-below b w id.0 h in absurd (omega arith)
        go (fresh w m e h l) = ap (λ (i : ℕ). done (entered b id d i (b.count + 1))) e ∙ sym (enter-new b id d w m h l)

    pub entered-refused : (r : Refusal) → Err r ≡ row_for b id → denied b r ≡ enter_of b id d
    entered-refused r = go (well_board b) refl (eqb b.marks 0) refl (ltb (seat b id.0) nowhere) refl (ltb b.count 64) refl
      where
        go : (x : Bool) → well_board b ≡ x → (y : Bool) → eqb b.marks 0 ≡ y → (z : Bool) → ltb (seat b id.0) nowhere ≡ z → (t : Bool) → ltb b.count 64 ≡ t
            → Err r ≡ cond x (cond y (cond z (Ok (seat b id.0)) (cond t (Ok b.count) (Err Full))) (Err TrialOpen)) (Err Broken) → denied b r ≡ enter_of b id d
        go true e true f true g t h q = absurd (cc)
        go true e true f false g true h q = absurd (cc)
        go true e true f false g false h q =
            let is : r ≡ Full = cc in
            ap (denied b) is ∙ sym (enter-full b id d e (eqb-true b.marks 0 f) (ltb-false (seat b id.0) nowhere g) (ltb-false b.count 64 h))
        go true e false f z g t h q = let is : r ≡ TrialOpen = cc in ap (denied b) is ∙ sym (enter-open b id d e (eqb-false b.marks 0 f))
        go false e y f z g t h q = let is : r ≡ Broken = cc in ap (denied b) is ∙ sym (enter-broken b id d e)
