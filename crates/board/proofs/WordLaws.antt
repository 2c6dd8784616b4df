-- Rows whose masks are of words, row by row.
use Rattle.std.specs.Prelude.{List, [], ◌∷◌, ℕ, zero, suc, set}
use Rattle.std.proofs.Common.{lit<}
use Rattle.mask.specs.Val.{Fit}
use Rattle.domain.specs.declared.BitDomain.{BitDomain}
use Rattle.board.specs.Rows.{row_at, domain_at, with_domain}
use Rattle.board.specs.Worded.{Fitting}
use Rattle.board.specs.declared.Row.{Row}

pub fit_at : (rows : List Row) (i : ℕ) → Fitting rows → Fit (domain_at rows i).mask
fit_at [] i h = (lit< tt, (lit< tt, tt))
fit_at (r ∷ rows) zero h = h.0
fit_at (r ∷ rows) (suc i) h = fit_at rows i h.1

-- another row
pub set-fit : (rows : List Row) (p : ℕ) (r : Row) → Fitting rows → Fit r.domain.mask → Fitting (set rows p r)
set-fit [] p r h f = tt
set-fit (q ∷ rows) zero r h f = (f, h.1)
set-fit (q ∷ rows) (suc p) r h f = (h.0, set-fit rows p r h.1 f)

-- another domain
pub with-fit : (rows : List Row) (p : ℕ) (d : BitDomain) → Fitting rows → Fit d.mask → Fitting (with_domain rows p d)
with-fit rows p d h f = set-fit rows p (record { id = (row_at rows p).id; domain = d }) h f
