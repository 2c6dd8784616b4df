-- `wave_probe::probe_wave` meets its contract: each turn answers one sheet, and stops before an answer could pass the end. Assumes nothing.
use Rattle.std.specs.Prelude.{◌≤◌, ◌-◌, ◌≡◌, length}
use Rattle.wave_probe.proofs.probe_wave.Given as goal

abbrev pub invariant-loop-at : goal.invariant-loop-at
invariant-loop-at l = (l.at ≤ length l.script) × (l.to ≤ length l.out) × (length l.out ≡ length l.initial.out)

abbrev pub decreases-loop-at : goal.decreases-loop-at
decreases-loop-at l = length l.script - l.at
