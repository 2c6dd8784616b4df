use Rattle.std.specs.Prelude.{◌≡◌, List}
use Rattle.sheet_form.specs.Held.{filled}
use Rattle.sheet_sections.proofs.Arrays.{Sofar}
use Rattle.sheet_sections.proofs.read_lines.Given as goal

abbrev pub invariant-loop-i : goal.invariant-loop-i
invariant-loop-i g l =
    (ds : List g.row.T.Denot) × Sofar (λ j. g.T.Line.reader) l.s l.at l.count ds l.place l.i × (l.rows ≡ filled g.row.N g.T.Line.nothing ds)
