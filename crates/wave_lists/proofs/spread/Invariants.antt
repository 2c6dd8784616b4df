use Rattle.std.specs.Prelude.{◌≡◌, true, map, length, take}
use Rattle.board_spread.specs.Spread.{sound_rows}
use Rattle.wave_form.specs.Wave.{part}
use Rattle.wave_lists.proofs.Lists.{Turned}
use Rattle.wave_lists.proofs.spread.Given as goal

abbrev pub invariant-loop-i : goal.invariant-loop-i
invariant-loop-i l =
    (length l.rows ≡ 64) × (length l.lines ≡ 16) × (sound_rows l.rows l.count ≡ true)
    × Turned l.count (take l.i (map (part l.ids) l.lists)) l.initial.rows l.rows l.lines
