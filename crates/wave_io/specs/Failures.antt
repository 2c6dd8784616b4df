-- Why no board was written, or not all of it. Assumes nothing.
use Rattle.wave_io.specs.declared.Failed.{Failed}
use Rattle.wave_io.specs.declared.Failed.TheVariants.{Read, Write}

-- where it was the reading that failed
abbrev pub OnRead : Failed → Type 0 → Type 0
OnRead (Read error) P = P
OnRead (Write error) P = Unit {0}
