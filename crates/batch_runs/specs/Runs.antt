-- A batch out of three runs of numbers: which runs are one, and its closings.
use Rattle.std.specs.Prelude.{Bool, ◌&&◌, cond, List, [], ◌∷◌, ℕ, suc, eqb, ltb, ℤ, length, Result}
use Rattle.std.specs.declared.result.Result.TheVariants.{Ok, Err}
use Rattle.closing.specs.Kinds.{kind_for}
use Rattle.closing.specs.declared.Closing.{Closing}
use Rattle.batch_runs.specs.declared.Fault.{Fault}
use Rattle.batch_runs.specs.declared.Fault.TheVariants.{Uneven, Long, Bad}

abbrev pub is_kind : ℕ → Bool
is_kind n = ltb 0 n && ltb n 5

-- where the first number stands that is no kind, from place p on
abbrev pub kinds_form : ℕ → List ℕ → Result Unit Fault
kinds_form p [] = Ok tt
kinds_form p (k ∷ ks) = cond (is_kind k) (kinds_form (suc p) ks) (Err (Bad p))

-- runs of one length, at most 256 long, and kinds that are kinds
unfoldable pub form_of : List ℕ → ℕ → ℕ → Result Unit Fault
form_of kinds ids values = cond (eqb ids (length kinds) && eqb values (length kinds)) (cond (ltb 256 (length kinds)) (Err Long) (kinds_form 0 kinds)) (Err Uneven)

abbrev pub closing_at : ℕ → ℕ → ℤ → Closing
closing_at k i v = record { kind = kind_for k; id = record { 0 = i }; value = record { 0 = v } }

abbrev pub closings_of : List ℕ → List ℕ → List ℤ → List Closing
closings_of [] is vs = []
closings_of (k ∷ ks) [] vs = []
closings_of (k ∷ ks) (i ∷ is) [] = []
closings_of (k ∷ ks) (i ∷ is) (v ∷ vs) = closing_at k i v ∷ closings_of ks is vs
