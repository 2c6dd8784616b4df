-- What a list of at most 64 ids is answered is terse. Assumes nothing.
use Rattle.std.specs.Prelude.{Bool, not, List, [], ◌∷◌, map, ℕ, suc, ◌+◌, ◌≤◌, leb, length}
use Rattle.std.proofs.Common.{arith}
use Rattle.rules.specs.Sets.{Every}
use Rattle.rules.specs.Pass.{pass}
use Rattle.rules.specs.Board as rules
use Rattle.rules.proofs.Tests.{on-cond}
use Rattle.sheet_form.specs.Sheet.{All}
use Rattle.wave_form.specs.Wave.{line_by}
use Rattle.wave_print.proofs.Room.{Terse}

-- of a list whose verdict this is
abbrev Said : Bool → Bool → rules.Verdict → Type 0
Said changed consistent v = Terse (line_by (rules.judged v (rules.outcome changed consistent)))

module _ (y z : Bool) where
  scanned : (rs : rules.Rows) (seen : List ℕ) (p : ℕ) (is : List ℕ) → p + length is ≤ 64 → Said y z (rules.scan rs seen p is)
  scanned rs seen p [] h = tt
  scanned rs seen p (i ∷ is) h =
      on-cond (Said y z) (rules.known rs i)
      (λ t. on-cond (Said y z) (not (rules.among i seen)) (λ u. scanned rs (i ∷ seen) (suc p) is (omega arith)) (record { number = omega arith; place = omega arith }))
      (record { number = omega arith; place = omega arith })

  listed : (is : List ℕ) (rs : rules.Rows) → length is ≤ 64 → Said y z (rules.listing is rs)
  listed is rs h =
      on-cond (Said y z) (leb (length is) 64) (λ t. scanned rs [] 0 is (omega arith)) (record { number = omega arith; place = omega arith })

pub answers-terse : (ls : List (List ℕ)) (b : rules.Board) → All (λ (l : List ℕ). length l ≤ 64) ls → Every Terse (map line_by (rules.answers (map rules.spread ls) b))
unfolding All
answers-terse [] b h = tt
answers-terse (l ∷ ls) b h =
    let r = pass (rules.domains b.now l) in
    (listed r.changed r.consistent l b.now h.0, answers-terse ls (rules.act (rules.spread l) b) h.1)
