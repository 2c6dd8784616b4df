-- What holds of every chain of public calls, whichever they are: the rules tell the board after it and every answer, it stays well formed, and while a
-- mark is open the destinations, their order and their universes stay.
use Rattle.std.specs.Prelude.{◌≡◌, refl, Bool, true, false, List, [], ◌∷◌, ◌↔◌, ℕ, ◌<◌, T, ltb, ℤ}
use Rattle.std.proofs.Common.{sym, ap, ◌∙◌, subst, arith, ltb-true, ltb-false}
use Rattle.rules.specs.Sets.{has, Every, Different}
use Rattle.rules.specs.Pass.{pass, Fits}
use Rattle.rules.specs.Board as rules
use Rattle.rules.specs.Trial.{Way, Allowed}
use Rattle.rules.proofs.Tests.{true-is}
use Rattle.rules.proofs.Sound.{pass-refutes}
use Rattle.board.specs.Rows.{id_at, seat}
use Rattle.board.specs.Well.{well_board}
use Rattle.board.specs.View.{held_at, view}
use Rattle.board.specs.Obeys.{Whole, Alike, Obeys}
use Rattle.board.specs.declared.Board.{Board}
use Rattle.board.proofs.RowLaws.{known_at, domain-at}
use Rattle.board.proofs.ViewLaws.{sound, seat-below, seat-id, view-domain, view-unknown, alike_same, alike_then}
use Rattle.trial.specs.Calls.{Step, Chain, final, calls, answers, Allows}

pub chain-view : (b : Board) (ss : List Step) → Chain b ss → view (final b ss) ≡ rules.run (calls ss) (view b)
chain-view b [] ch = refl
chain-view b (s ∷ ss) ch = chain-view s.board ss ch.1 ∙ ap (rules.run (calls ss)) ch.0.acts

pub chain-answers : (b : Board) (ss : List Step) → Chain b ss → answers ss ≡ rules.answers (calls ss) (view b)
chain-answers b [] ch = refl
chain-answers b (s ∷ ss) ch =
    let rest = chain-answers s.board ss ch.1 ∙ ap (rules.answers (calls ss)) ch.0.acts in
    λ t. ch.0.answers t ∷ rest t

-- no call brings a board from well formed to not
pub chain-well : (b : Board) (ss : List Step) → Chain b ss → well_board b ≡ true → well_board (final b ss) ≡ true
chain-well b [] ch w = w
chain-well b (s ∷ ss) ch w = chain-well s.board ss ch.1 ch.0.well

pub chain-whole : (b : Board) (ss : List Step) → Chain b ss → Whole b → Whole (final b ss)
chain-whole b [] ch w = w
chain-whole b (s ∷ ss) ch w = chain-whole s.board ss ch.1 ch.0.whole

-- none changes the registered ids, their order or their universes while a mark is open
pub chain-alike : (b : Board) (ss : List Step) → Chain b ss → 0 < b.marks → Every (λ s. 0 < s.board.marks) ss → Alike b (final b ss)
chain-alike b [] ch m o = alike_same b
chain-alike b (s ∷ ss) ch m o = alike_then b s.board (final s.board ss) (ch.0.stays m) (chain-alike s.board ss ch.1 o.0 o.1)

-- ---- ways

pub allows-view : (b : Board) → well_board b ≡ true → (w : Way) → Allows b w ↔ Allowed (view b).now w
allows-view b wb w = (into, from)
  where
    into : Allows b w → Allowed (view b).now w
    into h x k = go (ltb (seat b x) 64) refl
      where
        go : (y : Bool) → ltb (seat b x) 64 ≡ y → T (has (w x) (rules.domain (view b).now x))
        go true e =
            let l = ltb-true (seat b x) 64 e in
            rw (view-domain b wb x l) (subst (λ (z : ℕ). T (has (w z) (held_at b.rows (seat b x)))) (seat-id b wb x l) (h (seat b x) (seat-below b wb x l)))
        go false e = absurd (rw (view-unknown b wb x (ltb-false (seat b x) 64 e)) at k)

    from : Allowed (view b).now w → Allows b w
    from h i l =
        let x = id_at b.rows i in
        rw (domain-at (id_at b.rows) b.count (held_at b.rows) x (sound b wb).apart i l refl) at (h x (true-is (known_at (id_at b.rows) b.count (held_at b.rows) x i l refl)))

-- a propagation that answers inconsistent: the domains that it was given hold no choice of different chutes for its list
pub spread-refutes : (b c : Board) (is : List ℕ) (y : Bool) → Obeys (rules.spread is) b c (rules.outcome y false) → (xs : List ℤ) → Different xs → Fits (rules.domains (view b).now is) xs → ⊥
spread-refutes b c is y ob xs d f = go (rules.refusal (rules.spread is) (view b)) (sym ob.answers)
  where
    go : (v : rules.Verdict) → rules.judged v (rules.reply (rules.spread is) (view b)) ≡ rules.outcome y false → ⊥
    go rules.accepted e = let z : (pass (rules.domains (view b).now is)).consistent ≡ false = cc in pass-refutes (rules.domains (view b).now is) (rw z tt) xs d f
    go (rules.refused r) e = let z : ◌≡◌ {A = ℕ} 0 1 = cc in omega arith
