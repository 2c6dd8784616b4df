use Rattle.std.specs.Prelude.{ℕ, ◌-◌, ◌≡◌, List, ◌++◌}
use Rattle.std.proofs.lemmas.List.Edits.{sets}
use Rattle.sheet_sections.specs.Sections.{listed}
use Rattle.sheet_sections.specs.Rows.{before}
use Rattle.sheet_sections.proofs.Arrays.{Sofar}
use Rattle.sheet_sections.proofs.read_ids.Given as goal

abbrev pub invariant-loop-i : goal.invariant-loop-i
invariant-loop-i l = (xs : List ℕ) × Sofar listed l.s l.at l.count xs l.place l.i × (l.ids ≡ sets l.initial.ids l.used xs)
    × (before listed l.count l.s l.at ≡ xs ++ before listed (l.count - l.i) l.s l.place)
