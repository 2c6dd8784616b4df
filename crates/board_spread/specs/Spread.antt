-- What a propagation answers and what board it hands back, on every input.
use Rattle.std.specs.Prelude.{Bool, false, ◌||◌, cond, List, [], ◌∷◌, map, ℕ, Result}
use Rattle.std.specs.declared.result.Result.TheVariants.{Ok, Err}
use Rattle.rules.specs.Sets.{Chutes}
use Rattle.rules.specs.Pass.{pass, raises}
use Rattle.rules.specs.Board as rules
use Rattle.rules.specs.declared.Refusal.{Refusal}
use Rattle.rules.specs.declared.Refusal.TheVariants.{Broken}
use Rattle.domain.specs.Set.{set_of, holding}
use Rattle.board.specs.Rows.{id_at, domain_at, seat_in, with_domain, with_rows}
use Rattle.board.specs.Well.{well_parts, well_board}
use Rattle.board.specs.declared.Board.{Board}
use Rattle.board.specs.declared.Row.{Row}
use Rattle.board_list.specs.Places.{verdict_of}
use Rattle.alldiff.specs.declared.Passed.{Passed}
use Rattle.board_spread.specs.declared.Spread.{Spread}
use Rattle.rules.specs.declared.Pair.{Pair}

-- ---- a list over well-formed rows

-- rows as a list leaves them, whether it raises the board's flag, and the pair
pub record Pruned : Type 0 where
  pub rows : List Row
  pub raised : Bool
  pub answer : Result Pair Refusal

-- what stands behind a reference at the end, and what the pass tells, or why there was none
abbrev pub pruned : List Row → Result Passed Refusal → Pruned
pruned rows (Ok p) = record { rows = rows; raised = p.raised; answer = Ok p.answer }
pruned rows (Err r) = record { rows = rows; raised = false; answer = Err r }

-- the rows at these places hold these chutes, each row over its own universe
abbrev pub hold_all : List Row → List ℕ → List Chutes → List Row
hold_all rows [] ds = rows
hold_all rows (p ∷ ps) [] = rows
hold_all rows (p ∷ ps) (s ∷ ds) = with_domain (hold_all rows ps ds) p (holding (domain_at rows p) s)

-- the pass is given what the rows at these places hold, and nothing else
abbrev pub pruned_at : List Row → List ℕ → Pruned
pruned_at rows ps =
    let ds = map (λ p. set_of (domain_at rows p)) ps in
    let r = pass ds in
    record { rows = hold_all rows ps r.domains; raised = raises ds; answer = Ok (record { changed = r.changed; consistent = r.consistent }) }

-- a list that is refused changes nothing
abbrev pub pruned_by : rules.Verdict → List Row → List ℕ → Pruned
pruned_by rules.accepted rows ps = pruned_at rows ps
pruned_by (rules.refused r) rows ps = record { rows = rows; raised = false; answer = Err r }

-- the verdict on the list is that of the rules
unfoldable pub pruned_of : List Row → ℕ → List ℕ → Pruned
pruned_of rows count is = pruned_by (verdict_of (id_at rows) count is) rows (map (seat_in (id_at rows) count) is)

-- rows that are well formed: they are those of a board with no mark
abbrev pub sound_rows : List Row → ℕ → Bool
sound_rows rows count = well_parts rows count [] 0

-- ---- the call

abbrev pub handed : Board → Pruned → Spread
handed b r = record { board = with_rows b r.rows (b.changed || r.raised); answer = r.answer }

-- what stands behind a reference at the end, and the answer, as a call by value hands them back
abbrev pub handed_back : Board → Result Pair Refusal → Spread
handed_back b a = record { board = b; answer = a }

abbrev pub refused : Board → Refusal → Spread
refused b r = record { board = b; answer = Err r }

unfoldable pub spread_of : Board → List ℕ → Spread
spread_of b is = cond (well_board b) (handed b (pruned_of b.rows b.count is)) (refused b Broken)

-- the answer, in the words of the rules
abbrev pub pair_of : Result Pair Refusal → rules.Answer
pair_of (Ok p) = rules.outcome p.changed p.consistent
pair_of (Err r) = rules.denied r
