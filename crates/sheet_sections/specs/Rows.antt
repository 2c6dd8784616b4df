-- What is read, as the code holds it: rows in arrays of fixed length, blank after the last; none on a fault. Assumes nothing.
use Rattle.std.specs.Prelude.{ℕ, zero, suc, List, [], ◌∷◌, Result}
use Rattle.std.proofs.lemmas.List.Edits.{sets}
use Rattle.closing.specs.declared.Closing.{Closing}
use Rattle.sheet_form.specs.declared.Destination.{Destination}
use Rattle.sheet_form.specs.declared.Rows.{Rows}
use Rattle.sheet_form.specs.Held.{no_destination, no_closing, held, held_spans, filled, joined}
use Rattle.std.specs.declared.result.Result.TheVariants.{Ok, Err}
use Rattle.sheet_number.specs.declared.Stop.{Stop}
use Rattle.sheet_number.specs.Number.{Got, got, fault}
use Rattle.sheet_number.specs.Told.{answer, stop}
use Rattle.sheet_number.specs.Reader.{Reader, each}
use Rattle.sheet_sections.specs.Sections.{listed}
use Rattle.sheet_sections.specs.declared.Lists.{Lists}

-- the place after what was read
abbrev pub step_of : {A : Type 0} → Got A → Result ℕ Stop
step_of (got a e) = Ok e
step_of (fault k p) = Err (stop k p)

abbrev pub destinations_of : Got (List Destination) → Result (Rows Destination 64 × ℕ) Stop
destinations_of = answer (held 64 no_destination)

abbrev pub closings_of : Got (List Closing) → Result (Rows Closing 256 × ℕ) Stop
closings_of = answer (held 256 no_closing)

-- ---- lists

abbrev pub ahead : {A : Type 0} → Got A → (A → ℕ → List A) → List A
ahead (got a e) f = f a e
ahead (fault k p) f = []

-- those of n things that stand before the first fault
unfoldable pub before : {A : Type 0} → (ℕ → Reader A) → ℕ → List ℕ → ℕ → List A
before f zero s at = []
before f (suc n) s at = ahead (f n s at) (λ a e. a ∷ before f n s e)

pub record Stored : Type 0 where
  pub end : Result ℕ Stop
  pub cells : List ℕ

-- the ids of a line put into the run of ids from the place used on
abbrev pub stored_ids : ℕ → List ℕ → ℕ → List ℕ → ℕ → Stored
stored_ids n s at run used = record { end = step_of (each listed n s at); cells = sets run used (before listed n s at) }

abbrev pub lists_of : Got (List (List ℕ)) → Result (Lists × ℕ) Stop
lists_of = answer (λ ls. record { spans = held_spans ls; ids = filled 1024 0 (joined ls) })
