use Rattle.std.specs.Prelude.{ℕ, ◌≤◌, ◌*◌, ◌≡◌, List, length}
use Rattle.sheet_form.specs.Held.{filled, joined, spans, no_span}
use Rattle.sheet_sections.specs.Sections.{list}
use Rattle.sheet_sections.proofs.Arrays.{Sofar}
use Rattle.sheet_sections.proofs.read_list_lines.Given as goal

abbrev pub invariant-loop-i : goal.invariant-loop-i
invariant-loop-i l = (ls : List (List ℕ)) × Sofar (λ j. list) l.s l.at l.count ls l.place l.i × (l.used ≡ length (joined ls)) × (l.used ≤ 64 * l.i)
    × (l.rows ≡ filled 16 no_span (spans 0 ls)) × (l.ids ≡ filled 1024 0 (joined ls))
