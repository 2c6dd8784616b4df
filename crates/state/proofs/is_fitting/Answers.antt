-- `state::is_fitting` meets its contract: the flag is in its range, and each id is. Assumes nothing.
use Rattle.std.specs.Prelude.{◌≡◌, refl, Bool, true, false, List, ℕ, ◌+◌, ◌<◌, ◌≤◌, ◌^◌, get_or}
use Rattle.std.specs.Bool.{MatchBool}
use Rattle.std.specs.List.{range_with_len, AllWithin, HoldsAt}
use Rattle.std.proofs.Common.{◌∙◌, subst, arith, le-ltb, rules}
use Rattle.std.proofs.lemmas.Iterator.{cases_from_all, YieldsList-from_range}
use Rattle.std.proofs.lemmas.List.FromFn.{get_or-range_with_len}
use borrow.Author.Tests.{tests}
use Rattle.state.specs.Layout.{start, fits_of}
use Rattle.state.proofs.Reading.{no_flag, no-id, all_fit}
use Rattle.state.proofs.is_fitting.Goals as goal

nth : (i : ℕ) → i < 64 → get_or (range_with_len 0 64) i 0 ≡ i
nth i l = let e : 0 + i ≡ i = omega arith in get_or-range_with_len 0 64 i 0 l ∙ e

-- what the test of all ids answered
fits_by : (ws : List ℕ) (r : Bool) → get_or ws 2 0 < 2 → MatchBool r (AllWithin (λ i. get_or ws (start i) 0 < 2 ^ 32) (range_with_len 0 64) 0 64) ((k : ℕ) × (k < 64) × HoldsAt (λ i. 2 ^ 32 ≤ get_or ws (start i) 0) (range_with_len 0 64) k) → r ≡ fits_of ws
fits_by ws true l h =
    all_fit ws l (λ i m. subst (λ (k : ℕ). get_or ws (start k) 0 < 2 ^ 32) (nth i m) (h i 0 (omega arith) m))
fits_by ws false l h =
    no-id ws h.0 h.1 (subst (λ (k : ℕ). 2 ^ 32 ≤ get_or ws (start k) 0) (nth h.0 h.1) (h.2 0))

pub returns-then-ws-lt2 : goal.returns-then-ws-lt2
returns-then-ws-lt2 c =
    let w = c.args.ws.now in
    fits_by w c.all.result c.if-ws-lt2.true
    (cases_from_all _ _ _ (λ i. get_or w (start i) 0 < 2 ^ 32) (λ i. 2 ^ 32 ≤ get_or w (start i) 0) c.all.ensures.ran (YieldsList-from_range 0 64 64 (cc) refl) (λ x q k. search (rules, tests)) (λ x q k. search (rules, tests)))

pub returns-else-ws-lt2 : goal.returns-else-ws-lt2
returns-else-ws-lt2 c =
    let w = c.args.ws.now in
    le-ltb (get_or w 2 0) 2 c.if-ws-lt2.false ∙ no_flag w c.if-ws-lt2.false
