-- A propagation leaves words of 64 bits, on every input: the masks of the listed rows are made of them, and no other word changes.
use Rattle.std.specs.Prelude.{Bool, true, false, cond, List, [], ◌∷◌, map, ℕ}
use Rattle.mask.specs.Val.{mask-fit}
use Rattle.rules.specs.Sets.{Chutes}
use Rattle.rules.specs.Pass.{pass}
use Rattle.rules.specs.Board as rules
use Rattle.rules.specs.declared.Refusal.TheVariants.{Broken}
use Rattle.domain.specs.Set.{set_of, bits_of, holding}
use Rattle.board.specs.Rows.{id_at, domain_at, seat_in}
use Rattle.board.specs.Well.{well_board}
use Rattle.board.specs.Worded.{Fitting, Worded}
use Rattle.board.specs.declared.Row.{Row}
use Rattle.board.specs.declared.Board.{Board}
use Rattle.board.proofs.WordLaws.{with-fit}
use Rattle.board_list.specs.Places.{verdict_of}
use Rattle.board_spread.specs.Spread.{hold_all, pruned_by, pruned_of, handed, refused, spread_of}

hold-fit : (rows : List Row) (ps : List ℕ) (ds : List Chutes) → Fitting rows → Fitting (hold_all rows ps ds)
hold-fit rows [] ds h = h
hold-fit rows (p ∷ ps) [] h = h
hold-fit rows (p ∷ ps) (s ∷ ds) h = with-fit (hold_all rows ps ds) p (holding (domain_at rows p) s) (hold-fit rows ps ds h) (mask-fit (bits_of (domain_at rows p).min s))

pruned-fit : (v : rules.Verdict) (rows : List Row) (ps : List ℕ) → Fitting rows → Fitting (pruned_by v rows ps).rows
pruned-fit rules.accepted rows ps h = hold-fit rows ps (pass (map (λ p. set_of (domain_at rows p)) ps)).domains h
pruned-fit (rules.refused r) rows ps h = h

pub spread-worded : (b : Board) (is : List ℕ) → Worded b → Worded (spread_of b is).board
unfolding spread_of pruned_of
spread-worded b is h = go (well_board b)
  where
    go : (x : Bool) → Worded (cond x (handed b (pruned_by (verdict_of (id_at b.rows) b.count is) b.rows (map (seat_in (id_at b.rows) b.count) is))) (refused b Broken)).board
    go true = record { rows = pruned-fit (verdict_of (id_at b.rows) b.count is) b.rows (map (seat_in (id_at b.rows) b.count) is) h.rows; saved = h.saved }
    go false = h
