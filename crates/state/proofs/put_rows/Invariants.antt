use Rattle.std.specs.Prelude.{◌≡◌, length, drop}
use Rattle.std.proofs.lemmas.List.Edits.{sets}
use Rattle.state.specs.Layout.{start, rows_words}
use Rattle.state.proofs.put_rows.Given as goal

abbrev pub invariant-loop-i : goal.invariant-loop-i
invariant-loop-i l = (length l.ws ≡ length l.initial.ws) × (sets l.ws (start l.i) (rows_words (drop l.i l.rows)) ≡ sets l.initial.ws 3 (rows_words l.rows))
