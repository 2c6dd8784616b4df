-- What each closing answers and what board it hands back, on every input.
use Rattle.std.specs.Prelude.{false, ◌||◌, cond, ℕ, ltb, ℤ, Result, Bool}
use Rattle.std.specs.declared.result.Result.TheVariants.{Ok, Err}
use Rattle.rules.specs.declared.Refusal.{Refusal}
use Rattle.rules.specs.Sets.{keep}
use Rattle.rules.specs.Board as rules
use Rattle.rules.specs.declared.Refusal.TheVariants.{Broken}
use Rattle.rules.specs.declared.Value.{Value}
use Rattle.rules.specs.declared.Variable.{Variable}
use Rattle.domain.specs.Set.{set_of, holding}
use Rattle.domain.specs.declared.BitDomain.{BitDomain}
use Rattle.board.specs.Rows.{domain_at, nowhere, seat, with_domain, with_rows}
use Rattle.board.specs.Well.{well_board}
use Rattle.board.specs.Answers.{said, done, said_of, done_of}
use Rattle.board.specs.declared.Row.{Row}
use Rattle.board.specs.declared.Board.{Board}
use Rattle.board.specs.declared.Closed.{Closed}
use Rattle.board.specs.declared.Settled.{Settled}
use Rattle.board_close.specs.declared.Shut.{Shut}

-- what a closing leaves of a domain
abbrev pub left : rules.Kind → ℤ → BitDomain → BitDomain
left k v d = holding d (keep (rules.leaves k v) (set_of d))

-- a row after a closing, and whether that took a chute
abbrev pub shut_of : rules.Kind → ℤ → Row → Shut
shut_of k v row = record { row = record { id = row.id; domain = left k v row.domain }; yes = rules.closes k v (set_of row.domain) }

-- the row at p is closed, and the flag set if that took a chute
abbrev pub close_at : rules.Kind → Board → ℤ → ℕ → Closed
close_at k b v p =
    let d = domain_at b.rows p in
    let y = rules.closes k v (set_of d) in
    said (with_rows b (with_domain b.rows p (left k v d)) (b.changed || y)) y

-- of an id that isn't registered there is nothing to change
unfoldable pub close_of : rules.Kind → Board → Variable → Value → Closed
close_of k b id v =
    let p = seat b id.0 in
    said_of b (cond (ltb p nowhere) (close_at k b v.0 p) (said b false))

unfoldable pub reset_of : Board → Settled
reset_of b = done_of b (done (with_rows b b.rows false))

unfoldable pub changed_of : Board → Result Bool Refusal
changed_of b = cond (well_board b) (Ok b.changed) (Err Broken)
