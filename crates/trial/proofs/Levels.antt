-- How deep a trial is: what the rules note of it has a part for each mark that is open, from the trial's own on; so while more marks are open than
-- before it, something is noted.
use Rattle.std.specs.Prelude.{◌≡◌, Bool, true, false, cond, List, [], ◌∷◌, ℕ, suc, ◌+◌, ◌<◌, T, length}
use Rattle.std.proofs.Common.{sym, ap, ◌∙◌, subst, arith}
use Rattle.rules.specs.Sets.{some, Every}
use Rattle.rules.specs.Board as rules
use Rattle.rules.specs.Trial.{Work, Log, note, log}
use Rattle.rules.proofs.CallLaws.{saved-batch}
use Rattle.board.specs.View.{view}
use Rattle.board.specs.declared.Board.{Board}
use Rattle.board.proofs.ViewLaws.{view-marks}
use Rattle.trial.specs.Calls.{Step, Chain, final, calls}

-- ---- one call; k marks were open before the trial's

older-length : (s : List rules.Rows) (n : ℕ) → length s ≡ suc n → length (rules.older s) ≡ n
older-length [] n e = absurd (omega arith)
older-length (r ∷ s) n e = omega arith

module _ (a : rules.Board) (f : List Work) (k : ℕ) where
  effect-level : (c : rules.Call) (l : Log) → length a.saved ≡ suc (length l) + k → length (rules.effect c a).saved ≡ length (note c a.now (f ∷ l)) + k
  effect-level (rules.register i vs) l e = e
  effect-level (rules.close c) l e = e
  effect-level (rules.batch ks) l e = ap length (saved-batch ks a) ∙ e
  effect-level (rules.spread is) l e = e
  effect-level (rules.ready is) l e = e
  effect-level rules.mark l e = omega arith
  effect-level rules.restore l e = older-length a.saved (length l + k) (omega arith)
  effect-level rules.release [] e = older-length a.saved (0 + k) (omega arith)
  effect-level rules.release (g ∷ l) e = older-length a.saved (suc (length l) + k) (omega arith)
  effect-level rules.reset l e = e
  effect-level (rules.ask q) l e = e

  pub act-level : (c : rules.Call) (l : Log) → length a.saved ≡ suc (length l) + k → length (rules.act c a).saved ≡ length (cond (rules.taken c a) (note c a.now (f ∷ l)) (f ∷ l)) + k
  act-level c l e = go (rules.taken c a)
    where
      go : (y : Bool) → length (cond y (rules.effect c a) a).saved ≡ length (cond y (note c a.now (f ∷ l)) (f ∷ l)) + k
      go true = effect-level c l e
      go false = e

-- ---- a chain of calls

pub some-long : {A : Type 0} (l : List A) → 0 < length l → T (some l)
some-long [] h = absurd (omega arith)
some-long (x ∷ l) h = tt

pub chain-level : (k : ℕ) (b : Board) (ss : List Step) → Chain b ss → Every (λ s. k < s.board.marks) ss → (l : Log) → T (some l) → length (view b).saved ≡ length l + k → T (some (log (calls ss) (view b) l)) × (length (view (final b ss)).saved ≡ length (log (calls ss) (view b) l) + k)
chain-level k b [] ch o l s e = (s, e)
chain-level k b (s ∷ ss) ch o [] y e = absurd y
chain-level k b (s ∷ ss) ch o (f ∷ l) y e =
    let next : Log = cond (rules.taken s.call (view b)) (note s.call (view b).now (f ∷ l)) (f ∷ l) in
    let level : length (view s.board).saved ≡ length next + k = ap (λ (a : rules.Board). length a.saved) ch.0.acts ∙ act-level (view b) f k s.call l e in
    let deep : k < length next + k = rw (sym (view-marks s.board) ∙ level) at o.0 in
    let ih = chain-level k s.board ss ch.1 o.1 next (some-long next (omega arith)) level in
    subst (λ (a : rules.Board). T (some (log (calls ss) a next)) × (length (view (final s.board ss)).saved ≡ length (log (calls ss) a next) + k)) ch.0.acts ih
