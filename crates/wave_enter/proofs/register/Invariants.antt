use Rattle.std.specs.Prelude.{◌≡◌, length, take}
use Rattle.wave_enter.proofs.Registers.{Open}
use Rattle.wave_enter.proofs.register.Given as goal

abbrev pub invariant-loop-d : goal.invariant-loop-d
invariant-loop-d l = (length l.rows ≡ 64) × (length l.ids ≡ 64) × (length l.met ≡ 1024) × Open (take l.d-index l.ds) l.rows l.count l.ids l.met
