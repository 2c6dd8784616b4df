-- What an exported call's code has to do to be the by-value call between reading and writing. Assumes nothing.
use Rattle.std.specs.Prelude.{◌≡◌, refl, Bool, true, false, ◌&&◌, cond, List, Result, ◌++◌, ℕ, ◌≤◌, ◌<◌, ltb, length, drop}
use Rattle.std.proofs.Common.{sym, ap, ◌∙◌, lt-ltb, le-ltb, ltb-false}
use Rattle.rules.specs.Board as rules
use Rattle.rules.specs.declared.Refusal.{Refusal}
use Rattle.rules.specs.declared.Refusal.TheVariants.{Broken, NoRoom}
use Rattle.std.specs.declared.result.Result.TheVariants.{Ok, Err}
use Rattle.board.specs.Well.{well_board}
use Rattle.board.specs.declared.Board.{Board}
use Rattle.state.specs.Layout.{size, fits_of, read_of, written_of}
use Rattle.state.specs.Typed.{Words}
use Rattle.state.proofs.Theorems.{written_back}
use Rattle.reply.specs.Told.{coded}
use Rattle.reply.specs.Lent as any
use Rattle.reply.specs.Through.{lent_to, Reply, Left, left, written, through, Guarded, Refuses, begun, answered, shown, judge_of}

-- ---- the first test

-- words that are refused by it are refused by the call
pub refused : {A : Type 0} (ws : List ℕ) (a : rules.Answer → A) (f : Board → A) (r : Refusal) → judge_of ws ≡ Err r → a (rules.denied r) ≡ lent_to ws a f
refused ws a f r e = go (ltb (length ws) size) refl (fits_of ws) refl
  where
    go : (t : Bool) → ltb (length ws) size ≡ t → (y : Bool) → fits_of ws ≡ y → a (rules.denied r) ≡ lent_to ws a f
    go true q y p = let z : Err NoRoom ≡ Err r = sym (rw q) ∙ e in let k : r ≡ NoRoom = cc in rw q (ap (λ x. a (rules.denied x)) k)
    go false q true p = absurd (let z : ◌≡◌ {A = Result Unit Refusal} (Ok tt) (Err r) = sym (rw (q, p)) ∙ e in cc)
    go false q false p = let z : Err Broken ≡ Err r = sym (rw (q, p)) ∙ e in let k : r ≡ Broken = cc in rw (q, p) (ap (λ x. a (rules.denied x)) k)

pub passed : (ws : List ℕ) → judge_of ws ≡ Ok tt → (size ≤ length ws) × (fits_of ws ≡ true)
passed ws e = go (ltb (length ws) size) refl (fits_of ws) refl
  where
    go : (t : Bool) → ltb (length ws) size ≡ t → (y : Bool) → fits_of ws ≡ y → (size ≤ length ws) × (fits_of ws ≡ true)
    go true q y p = absurd (let z : ◌≡◌ {A = Result Unit Refusal} (Err NoRoom) (Ok tt) = sym (rw q) ∙ e in cc)
    go false q true p = (ltb-false (length ws) size q, p)
    go false q false p = absurd (let z : ◌≡◌ {A = Result Unit Refusal} (Err Broken) (Ok tt) = sym (rw (q, p)) ∙ e in cc)

-- words that pass it are answered by f, if f refuses a board that isn't well formed as the definition does
pub lent : {A : Type 0} (ws : List ℕ) (r : rules.Answer → A) (f : Board → A) → judge_of ws ≡ Ok tt → (well_board (read_of ws) ≡ false → f (read_of ws) ≡ r (rules.denied Broken)) → f (read_of ws) ≡ lent_to ws r f
lent ws r f e h =
    let p = passed ws e in
    go (well_board (read_of ws)) refl ∙ sym (λ t. cond (le-ltb (length ws) size p.0 t) (r (rules.denied NoRoom)) (cond (p.1 t && well_board (read_of ws)) (f (read_of ws)) (r (rules.denied Broken))))
  where
    go : (w : Bool) → well_board (read_of ws) ≡ w → f (read_of ws) ≡ cond (well_board (read_of ws)) (f (read_of ws)) (r (rules.denied Broken))
    go true q = rw q
    go false q = h q ∙ rw q

-- ---- calls that change the board

pub through-refused : (f : Board → Reply) (ws : List ℕ) (r : Refusal) → judge_of ws ≡ Err r → left (coded (rules.denied r)) ws ≡ through f ws
unfolding any.through
through-refused f ws r e = refused ws (λ a. left (coded a) ws) (λ b. written ws (f b)) r e

-- words that pass the first test and aren't a well-formed board's are written as they were
pub through-passed : (f : Board → Reply) (ws : List ℕ) → Guarded f → Words ws → judge_of ws ≡ Ok tt → (r : Reply) → r ≡ f (read_of ws) → written ws r ≡ through f ws
unfolding any.through
through-passed f ws g fit e r q =
    let p = passed ws e in
    ap (written ws) q
    ∙ lent ws (λ a. left (coded a) ws) (λ b. written ws (f b)) e
    (λ bad. ap (written ws) (g (read_of ws) bad) ∙ ap (left (coded (rules.denied Broken))) (written_back ws p.0 fit p.1))

-- ---- questions

pub answered-refused : (f : Board → rules.Answer) (ws : List ℕ) (r : Refusal) → judge_of ws ≡ Err r → coded (rules.denied r) ≡ answered f ws
unfolding any.answered
answered-refused f ws r e = refused ws coded (λ b. coded (f b)) r e

pub answered-passed : (f : Board → rules.Answer) (ws : List ℕ) → Refuses f → judge_of ws ≡ Ok tt → (a : rules.Answer) → a ≡ f (read_of ws) → coded a ≡ answered f ws
unfolding any.answered
answered-passed f ws g e a q = ap coded q ∙ lent ws coded (λ b. coded (f b)) e (λ bad. ap coded (g (read_of ws) bad))

pub shown-refused : {C : Type 0} (f : Board → Left C) (ws : List ℕ) (cells : C) (r : Refusal) → judge_of ws ≡ Err r → left (coded (rules.denied r)) cells ≡ shown f ws cells
unfolding any.shown
shown-refused f ws cells r e = refused ws (λ a. left (coded a) cells) f r e

pub shown-passed : {C : Type 0} (f : Board → Left C) (ws : List ℕ) (cells : C) → ((b : Board) → well_board b ≡ false → f b ≡ left (coded (rules.denied Broken)) cells) → judge_of ws ≡ Ok tt → f (read_of ws) ≡ shown f ws cells
unfolding any.shown
shown-passed f ws cells g e = lent ws (λ a. left (coded a) cells) f e (g (read_of ws))

-- ---- a new board

pub begun-short : (b : Board) (ws : List ℕ) → length ws < size → left 14 ws ≡ begun b ws
unfolding begun coded
begun-short b ws l = rw (lt-ltb (length ws) size l)

pub begun-long : (b : Board) (ws out : List ℕ) → size ≤ length ws → out ≡ written_of b ++ drop size ws → left 0 out ≡ begun b ws
unfolding begun coded
begun-long b ws out l e = ap (left 0) e ∙ rw (le-ltb (length ws) size l)
