-- A sheet as the code holds it: arrays of fixed length, filled from the front, blank after. Assumes nothing.
use Rattle.std.specs.Prelude.{ℕ, ◌+◌, List, [], ◌∷◌, ◌++◌, length, replicate, pos}
use Rattle.std.proofs.lemmas.List.Edits.{sets}
use Rattle.closing.specs.declared.Closing.{Closing}
use Rattle.closing.specs.declared.Kind.TheVariants.{Remove}
use Rattle.sheet_form.specs.declared.Destination.{Destination}
use Rattle.sheet_form.specs.declared.Span.{Span}
use Rattle.sheet_form.specs.declared.Rows.{Rows}
use Rattle.sheet_form.specs.declared.Parsed.{Parsed}
use Rattle.sheet_form.specs.Sheet.{Sheet}

abbrev pub no_destination : Destination
no_destination = record { id = record { 0 = 0 }; min = record { 0 = pos 0 }; max = record { 0 = pos 0 } }

abbrev pub no_closing : Closing
no_closing = record { kind = Remove; id = record { 0 = 0 }; value = record { 0 = pos 0 } }

abbrev pub no_span : Span
no_span = record { start = 0; len = 0 }

-- l, and blanks up to n
unfoldable pub filled : {A : Type 0} → ℕ → A → List A → List A
filled n blank l = sets (replicate n blank) 0 l

-- all the lists in one run
unfoldable pub joined : {A : Type 0} → List (List A) → List A
joined [] = []
joined (l ∷ ls) = l ++ joined ls

-- where in that run each list lies, the first of them from u on
unfoldable pub spans : {A : Type 0} → ℕ → List (List A) → List Span
spans u [] = []
spans u (l ∷ ls) = record { start = u; len = length l } ∷ spans (u + length l) ls

-- as the code holds the rows l, n at most
abbrev pub held : {A : Type 0} (n : ℕ) → A → List A → Rows A n
held n blank l = record { rows = filled n blank l; count = length l }

abbrev pub held_spans : List (List ℕ) → Rows Span 16
held_spans ls = record { rows = filled 16 no_span (spans 0 ls); count = length ls }

abbrev pub parsed_of : Sheet → Parsed
parsed_of sh =
    record {
      destinations = held 64 no_destination sh.destinations;
      closings = held 256 no_closing sh.closings;
      lists = held_spans sh.lists;
      ids = filled 1024 0 (joined sh.lists);
    }
