-- The ways through the calls: a board that isn't well formed, marks that don't allow the call, and a call that is accepted.
use Rattle.std.specs.Prelude.{◌≡◌, refl, Bool, true, false, cond, ◌≤◌, ◌<◌, ltb, Result}
use Rattle.std.specs.declared.result.Result.TheVariants.{Ok, Err}
use Rattle.std.proofs.Common.{ap, arith, lt-ltb, le-ltb, ltb-true}
use Rattle.rules.specs.declared.Refusal.{Refusal}
use Rattle.rules.specs.declared.Refusal.TheVariants.{Broken, TooDeep, NoMark}
use Rattle.board.specs.Well.{well_board, checked_of}
use Rattle.board.specs.Answers.{settled, done, denied}
use Rattle.board.specs.declared.Board.{Board}
use Rattle.board.specs.declared.Settled.{Settled}
use Rattle.board.proofs.LookLaws.{checked-broken}
use Rattle.board.proofs.ViewLaws.{sound}
use Rattle.trial.specs.Marks.{bringing, marked, restored, released, mark_of, restore_of, keep_of}

module _ (b : Board) where
  -- by what `check` answered
  module _ (r : Refusal) (e : Err r ≡ checked_of b) where
    pub mark-broken : settled b (Err r) ≡ mark_of b
    unfolding mark_of
    mark-broken = let s = checked-broken b r e in rw (s.0, s.1)

    pub keep-broken : settled b (Err r) ≡ keep_of b
    unfolding keep_of
    keep-broken = let s = checked-broken b r e in rw (s.0, s.1)

  -- and by how many marks are open
  module _ (w : well_board b ≡ true) where
    pub few-rows : b.count ≤ 64
    few-rows = (sound b w).few-rows

    pub mark-deep : 8 ≤ b.marks → denied b TooDeep ≡ mark_of b
    unfolding mark_of
    mark-deep h = rw (w, le-ltb b.marks 8 h)

    pub mark-done : b.marks < 8 → done (marked b) ≡ mark_of b
    unfolding mark_of
    mark-done h = rw (w, lt-ltb b.marks 8 h)

    pub keep-none : b.marks ≡ 0 → denied b NoMark ≡ keep_of b
    unfolding keep_of
    keep-none h = rw (w, le-ltb 0 b.marks (omega arith))

    pub keep-done : (b.marks ≡ 0 → ⊥) → done (released b) ≡ keep_of b
    unfolding keep_of
    keep-done h = rw (w, lt-ltb 0 b.marks (omega arith))

  -- ---- by what the closing of the newest mark handed back

  abbrev closes : Bool → Bool → Settled
  closes t u = cond t (cond u (done (released b)) (denied b NoMark)) (denied b Broken)

  abbrev answer : Settled → Result Unit Refusal
  answer s = s.answer

  module _ (c : Board) where
    pub closed-is : settled c (Ok tt) ≡ keep_of b → (well_board b ≡ true) × (0 < b.marks) × (c ≡ released b)
    unfolding keep_of
    closed-is e = let k = go (well_board b) (ltb 0 b.marks) e in (k.0, ltb-true 0 b.marks k.1, k.2)
      where
        go : (t u : Bool) → settled c (Ok tt) ≡ closes t u → (t ≡ true) × (u ≡ true) × (c ≡ released b)
        go true true q = (refl, refl, ap (λ (s : Settled). s.board) q)
        go true false q = let z = ap answer q in absurd (cc)
        go false u q = let z = ap answer q in absurd (cc)

    -- the newest mark has a place, and so has every row that is registered
    pub room : settled c (Ok tt) ≡ keep_of b → (c.marks < 8) × (c.count ≤ 64)
    room e =
        let k = closed-is e in
        let s = sound b k.0 in
        rw k.2 (omega (arith, k.1, s.few-marks), s.few-rows)

    pub restore-refused : (r : Refusal) → settled c (Err r) ≡ keep_of b → settled c (Err r) ≡ restore_of b
    unfolding keep_of restore_of
    restore-refused r e = go (well_board b) (ltb 0 b.marks) e
      where
        go : (t u : Bool) → settled c (Err r) ≡ closes t u → settled c (Err r) ≡ cond t (cond u (done (restored b)) (denied b NoMark)) (denied b Broken)
        go true true q = let z = ap answer q in absurd (cc)
        go true false q = q
        go false u q = q

    pub restore-done : settled c (Ok tt) ≡ keep_of b → done (record c { rows = bringing c.saved c.marks c.count c.rows }) ≡ restore_of b
    unfolding restore_of
    restore-done e = let k = closed-is e in rw (k.2, k.0, lt-ltb 0 b.marks k.1)
