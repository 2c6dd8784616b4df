-- What mark, restore and keep answer and what board each hands back, on every input.
use Rattle.std.specs.Prelude.{cond, List, ℕ, zero, suc, ◌+◌, ◌-◌, ltb}
use Rattle.mask.specs.declared.Mask.{Mask}
use Rattle.rules.specs.declared.Refusal.TheVariants.{TooDeep, NoMark}
use Rattle.domain.specs.declared.BitDomain.{BitDomain}
use Rattle.saved.specs.Saved.{saved_at, put_at}
use Rattle.board.specs.Rows.{domain_at, with_domain}
use Rattle.board.specs.Answers.{done, denied, done_of}
use Rattle.board.specs.declared.Row.{Row}
use Rattle.board.specs.declared.Board.{Board}
use Rattle.board.specs.declared.Settled.{Settled}

-- the saved words once mark m has the masks of the first n rows; every other word stays
abbrev pub saving : List Row → ℕ → ℕ → List ℕ → List ℕ
saving rows m zero ws = ws
saving rows m (suc n) ws = put_at (saving rows m n ws) m n (domain_at rows n).mask

-- a domain over the same universe, with another mask
abbrev pub masked : BitDomain → Mask → BitDomain
masked d x = record { mask = x; min = d.min; max = d.max }

-- the rows once the first n of them have the masks that mark m saved; every other row stays
abbrev pub bringing : List ℕ → ℕ → ℕ → List Row → List Row
bringing ws m zero rows = rows
bringing ws m (suc n) rows = let now = bringing ws m n rows in with_domain now n (masked (domain_at now n) (saved_at ws m n))

-- a mark more, with the domains as they are
abbrev pub marked : Board → Board
marked b = record { rows = b.rows; count = b.count; saved = saving b.rows b.marks b.count b.saved; marks = b.marks + 1; changed = b.changed }

-- the newest mark's domains brought back, and without that mark
abbrev pub restored : Board → Board
restored b = record { rows = bringing b.saved (b.marks - 1) b.count b.rows; count = b.count; saved = b.saved; marks = b.marks - 1; changed = b.changed }

-- without the newest mark
abbrev pub released : Board → Board
released b = record { rows = b.rows; count = b.count; saved = b.saved; marks = b.marks - 1; changed = b.changed }

unfoldable pub mark_of : Board → Settled
mark_of b = done_of b (cond (ltb b.marks 8) (done (marked b)) (denied b TooDeep))

unfoldable pub restore_of : Board → Settled
restore_of b = done_of b (cond (ltb 0 b.marks) (done (restored b)) (denied b NoMark))

unfoldable pub keep_of : Board → Settled
keep_of b = done_of b (cond (ltb 0 b.marks) (done (released b)) (denied b NoMark))
