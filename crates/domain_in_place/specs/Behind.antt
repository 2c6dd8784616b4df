-- What stands behind a reference at the end, and the answer, as the call by value hands them back.
use Rattle.std.specs.Prelude.{Result, Bool}
use Rattle.rules.specs.declared.Refusal.{Refusal}
use Rattle.domain.specs.Calls.{Changed, Narrowed}
use Rattle.domain.specs.declared.BitDomain.{BitDomain}

abbrev pub changed : BitDomain → Result Bool Refusal → Changed
changed d a = record { domain = d; answer = a }

abbrev pub narrowed : BitDomain → Result Unit Refusal → Narrowed
narrowed d a = record { domain = d; answer = a }
