-- A closing takes a chute from a domain exactly if it changes the mask; and what it leaves is a well-formed domain over the same universe.
use Rattle.std.specs.Prelude.{◌≡◌, refl, is_err, Option, Bool, true, false, not, ◌&&◌, ◌||◌, cond, ℕ, ◌<◌, ◌≤◌, T, eqb, ℤ, set}
use Rattle.std.specs.declared.option.Option.TheVariants.{None, Some}
use Rattle.std.specs.declared.result.Result.TheVariants.{Ok, Err}
use Rattle.std.proofs.Common.{sym, ap, ◌∙◌, subst, eqb-true, lt-ltb, le-ltb}
use Rattle.std.proofs.lemmas.Bool.{eqb-false}
use Rattle.mask.specs.Val.{val}
use Rattle.rules.specs.Sets.{Chutes, has, keep}
use Rattle.rules.specs.Pass.{lost}
use Rattle.rules.specs.Board as rules
use Rattle.rules.proofs.Tests.{true-is, and-true, and-false}
use Rattle.rules.proofs.SetLaws.{keep_all, lost-one, lost-same}
use Rattle.rules.proofs.CallLaws.{closes-lost}
use Rattle.domain.specs.Set.{set_of, well}
use Rattle.domain.specs.declared.BitDomain.{BitDomain}
use Rattle.domain.proofs.Laws.{same-values, same-mask}
use Rattle.domain.proofs.Theorems.{narrowed-set}
use Rattle.rules.specs.declared.Variable.{Variable}
use Rattle.rules.specs.declared.Value.{Value}
use Rattle.board.specs.Rows.{row_at, domain_at, nowhere, seat, with_rows}
use Rattle.board.specs.Well.{well_board, look_of, seen, checked_of}
use Rattle.board.specs.Answers.{said, unsaid, done, denied, settled}
use Rattle.board.specs.declared.Board.{Board}
use Rattle.board.proofs.LookLaws.{looked-broken, looked-row, looked-none}
use Rattle.board.proofs.ViewLaws.{domain-well, seat-below}
use Rattle.rules.specs.declared.Refusal.{Refusal}
use Rattle.rules.specs.declared.Refusal.TheVariants.{Broken}
use Rattle.board_close.specs.declared.Shut.{Shut}
use Rattle.board_close.specs.Close.{left, shut_of, close_at, close_of, reset_of}

-- ---- masks and their values

-- a set that loses nothing stays as it is
none-lost : (p : ℤ → Bool) (s : Chutes) → lost (keep p s) s ≡ false → keep p s ≡ s
none-lost p s e = keep_all p s (λ x h. go x h (p x) refl)
  where
    go : (x : ℤ) → T (has x s) → (b : Bool) → p x ≡ b → T (p x)
    go x h true q = true-is q
    go x h false q = let z : true ≡ false = sym (lost-one p x s h q) ∙ e in absurd (true-false z)
      where
        true-false : true ≡ false → ⊥
        true-false z = subst T z tt

-- a closing answers yes exactly if the mask changes
pub took : (k : rules.Kind) (v : ℤ) (d : BitDomain) → well d ≡ true → not (eqb (val (left k v d).mask) (val d.mask)) ≡ rules.closes k v (set_of d)
took k v d w = go (eqb (val (left k v d).mask) (val d.mask)) refl (lost (keep p (set_of d)) (set_of d)) refl ∙ sym (closes-lost k v (set_of d))
  where
    p : ℤ → Bool
    p = rules.leaves k v

    kept : set_of (left k v d) ≡ keep p (set_of d)
    kept = narrowed-set d w p

    go : (a : Bool) → eqb (val (left k v d).mask) (val d.mask) ≡ a → (c : Bool) → lost (keep p (set_of d)) (set_of d) ≡ c → not a ≡ lost (keep p (set_of d)) (set_of d)
    go true e c f =
        let z : keep p (set_of d) ≡ set_of d = sym kept ∙ same-mask d.min (left k v d).mask d.mask (eqb-true (val (left k v d).mask) (val d.mask) e) in
        sym (ap (λ (s : Chutes). lost s (set_of d)) z ∙ lost-same (set_of d))
    go false e true f = sym f
    go false e false f =
        absurd (eqb-false (val (left k v d).mask) (val d.mask) e (same-values d.min (left k v d).mask d.mask (kept ∙ none-lost p (set_of d) f)))

-- ---- the three ways through a closing

module _ (k : rules.Kind) (b : Board) (id : Variable) (v : Value) where
  pub close-broken : well_board b ≡ false → close_of k b id v ≡ unsaid b Broken
  unfolding close_of
  close-broken w = rw w

  module _ (w : well_board b ≡ true) where
    pub close-unknown : 64 ≤ seat b id.0 → close_of k b id v ≡ said b false
    unfolding close_of
    close-unknown h = rw (w, le-ltb (seat b id.0) nowhere h)

    pub close-known : seat b id.0 < 64 → close_of k b id v ≡ close_at k b v.0 (seat b id.0)
    unfolding close_of
    close-known h = rw (w, lt-ltb (seat b id.0) nowhere h)

-- ---- by what `look` answered: a closing of a row, and what comes back of a board that nothing was done to

module _ (b : Board) (id : Variable) (o : Option ℕ) (e : Ok o ≡ seen (look_of b.rows b.count b.saved b.marks id.0)) where
  pub row-well : (p : ℕ) → o ≡ Some p → well (domain_at b.rows p) ≡ true
  row-well p is = let s = looked-row b id.0 o e p is in domain-well b s.0 p (rw s.1 (seat-below b s.0 id.0 s.2))

  module _ (k : rules.Kind) (v : Value) where
    pub closed-row : (p : ℕ) → o ≡ Some p → (s : Shut) → s ≡ shut_of k v.0 (row_at b.rows p) → said (with_rows b (set b.rows p s.row) (b.changed || s.yes)) s.yes ≡ close_of k b id v
    closed-row p is s es =
        let q = looked-row b id.0 o e p is in
        ap (λ (t : Shut). said (with_rows b (set b.rows p t.row) (b.changed || t.yes)) t.yes) es ∙ ap (close_at k b v.0) q.1 ∙ sym (close-known k b id v q.0 q.2)

    pub closed-none : o ≡ None → said b false ≡ close_of k b id v
    closed-none is = let q = looked-none b id.0 o e is in sym (close-unknown k b id v q.0 q.1)

module _ (k : rules.Kind) (b : Board) (id : Variable) (v : Value) where
  pub closed-broken : (r : Refusal) → Err r ≡ seen (look_of b.rows b.count b.saved b.marks id.0) → unsaid b r ≡ close_of k b id v
  closed-broken r e = let q = looked-broken b id.0 r e in ap (unsaid b) q.1 ∙ sym (close-broken k b id v q.0)

-- ---- the flag

pub reset-is : (b : Board) → settled (with_rows b b.rows (b.changed && is_err (checked_of b))) (checked_of b) ≡ reset_of b
unfolding reset_of
reset-is b = go (well_board b)
  where
    go : (t : Bool) → settled (with_rows b b.rows (b.changed && is_err (cond t (Ok (tt {0})) (Err Broken)))) (cond t (Ok (tt {0})) (Err Broken)) ≡ cond t (done (with_rows b b.rows false)) (denied b Broken)
    go true = ap (λ (y : Bool). done (with_rows b b.rows y)) (and-false b.changed)
    go false = ap (λ (y : Bool). denied (with_rows b b.rows y) Broken) (and-true b.changed)
