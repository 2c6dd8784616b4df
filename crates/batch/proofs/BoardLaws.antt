-- On a well-formed board a batch is the tally of its rows: the rest of the board stays, and the flag is set if one closing took a chute.
use Rattle.std.specs.Prelude.{◌≡◌, refl, Bool, true, false, ◌||◌, cond, List, [], ◌∷◌, ℕ, suc, ◌+◌, ◌≤◌, ltb, length}
use Rattle.std.proofs.Common.{sym, ap, ◌∙◌, subst, arith, lt-ltb, ltb-true, ltb-false}
use Rattle.rules.specs.Board as rules
use Rattle.rules.proofs.Tests.{or-false}
use Rattle.domain.specs.Set.{set_of}
use Rattle.closing.specs.Kinds.{kind_of}
use Rattle.closing.specs.declared.Closing.{Closing}
use Rattle.board.specs.Rows.{domain_at, nowhere, seat, with_domain, with_rows}
use Rattle.board.specs.Well.{well_board}
use Rattle.board.specs.Answers.{said}
use Rattle.board.specs.Obeys.{Whole, Obeys, told_of}
use Rattle.board.specs.declared.Board.{Board}
use Rattle.board.specs.declared.Closed.{Closed}
use Rattle.board.proofs.ViewLaws.{sound}
use Rattle.board_close.specs.Close.{left}
use Rattle.board_close.proofs.Closing.{close-known, close-unknown}
use Rattle.board_close.proofs.Theorems.{close-obeys}
use Rattle.batch.specs.Batch.{closed_by, closed_all, is_yes, more, yeses, closing_of}
use Rattle.batch.specs.Tallies.{Fit, shut_at, tells_at, tallied, tally, tally_of}
use Rattle.batch.proofs.TallyLaws.{more-most}

-- the rows of a well-formed board
pub board-fit : (b : Board) → well_board b ≡ true → Fit b.rows b.count
board-fit b w = let s = sound b w in record { few = s.few-rows; apart = s.apart; domains = s.domains }

-- ---- one closing

-- whether it takes a chute, and the board then
abbrev pub tells : Closing → Board → Bool
tells c b = tells_at c b.rows (seat b c.id.0)

abbrev pub shut : Closing → Board → Board
shut c b = with_rows b (shut_at c b.rows (seat b c.id.0)) (b.changed || tells c b)

module _ (c : Closing) (b : Board) (w : well_board b ≡ true) where
  pub closed_is : closed_by c b ≡ said (shut c b) (tells c b)
  closed_is = go (ltb p nowhere) refl
    where
      p : ℕ
      p = seat b c.id.0

      y : Bool
      y = rules.closes (kind_of c.kind) c.value.0 (set_of (domain_at b.rows p))

      go : (t : Bool) → ltb p nowhere ≡ t → closed_by c b ≡ said (with_rows b (cond t (with_domain b.rows p (left (kind_of c.kind) c.value.0 (domain_at b.rows p))) b.rows) (b.changed || cond t y false)) (cond t y false)
      go true q = close-known (kind_of c.kind) b c.id c.value w (ltb-true p nowhere q)
      go false q = close-unknown (kind_of c.kind) b c.id c.value w (ltb-false p nowhere q) ∙ λ i. said (with_rows b b.rows (sym (or-false b.changed) i)) false

  pub shut-obeys : Whole b → Obeys (rules.close (closing_of c)) b (shut c b) (rules.said (tells c b))
  shut-obeys whole =
      subst (λ (r : Closed). Obeys (rules.close (closing_of c)) b r.board (told_of r.answer)) closed_is
      (close-obeys (kind_of c.kind) b c.id c.value whole w)

  pub yeses-more : (cs : List Closing) → yeses (c ∷ cs) b ≡ more (tells c b) (yeses cs (shut c b))
  yeses-more cs = ap (λ (r : Closed). more (is_yes r.answer) (yeses cs r.board)) closed_is

-- ---- all of them

-- on any board no more of them answer yes than there are
pub yeses-most : (cs : List Closing) (b : Board) → yeses cs b ≤ length cs
yeses-most [] b = omega arith
yeses-most (c ∷ cs) b =
    let r = yeses-most cs (closed_by c b).board in
    let m = more-most (is_yes (closed_by c b).answer) (yeses cs (closed_by c b).board) in
    omega arith

flag : (x y : Bool) (n : ℕ) → (x || y) || ltb 0 n ≡ x || ltb 0 (more y n)
flag true y n = refl
flag false true n = sym (lt-ltb 0 (suc n) (omega arith))
flag false false n = refl

sums : (y : Bool) (k n m : ℕ) → m ≡ k + more y n → m ≡ more y k + n
sums true k n m e = omega arith
sums false k n m e = e

-- whatever number the tally begins with
pub tally-board : (cs : List Closing) (b : Board) → Whole b → well_board b ≡ true → (n : ℕ)
    → (closed_all cs b ≡ with_rows b (tally_of b.count (tally b.rows n) cs).rows (b.changed || ltb 0 (yeses cs b))) × ((tally_of b.count (tally b.rows n) cs).yes ≡ yeses cs b + n)
unfolding tallied
tally-board [] b whole w n = (λ i. with_rows b b.rows (sym (or-false b.changed) i), omega arith)
tally-board (c ∷ cs) b whole w n =
    let y = tells c b in
    let o = shut-obeys c b w whole in
    let rest = tally-board cs (shut c b) o.whole o.well (more y n) in
    let after : closed_all (c ∷ cs) b ≡ closed_all cs (shut c b) = ap (λ (r : Closed). closed_all cs r.board) (closed_is c b w) in
    let count : yeses (c ∷ cs) b ≡ more y (yeses cs (shut c b)) = yeses-more c b w cs in (
      after
          ∙ rest.0
          ∙ (λ i. with_rows b (tally_of b.count (tally (shut c b).rows (more y n)) cs).rows ((flag b.changed y (yeses cs (shut c b)) ∙ ap (λ (k : ℕ). b.changed || ltb 0 k) (sym count)) i)),
      sums y (yeses cs (shut c b)) n (tally_of b.count (tally (shut c b).rows (more y n)) cs).yes rest.1 ∙ ap (λ (k : ℕ). k + n) (sym count),
    )
