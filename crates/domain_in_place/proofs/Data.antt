-- The types of the calls, as the laws of `in_place` take them. Assumes nothing.
use mathlib.Core.Path.{refl}
use denote.Builtin.{bool, unit}
use denote.Enum.Declared as ED
use denote.Enum.Enum as E
use denote.Enum.Laws as EL
use denote.Struct.Field.{bool-field, unit-field}
use denote.Struct.Laws.{bool-laws, bool-copy, bool-plain, unit-laws, unit-copy, unit-plain}
use Rattle.in_place.proofs.PlainData.{Kind, struct_kind, enum_kind, answer_type, answer_laws, answer_plain, Two, two}
use Rattle.domain_in_place.specs.Behind.{changed, narrowed}
use Rattle.rules.specs.contracts.Value as Val
use Rattle.rules.proofs.Value.TheLaws as Val'
use Rattle.rules.specs.contracts.Refusal as Ref
use Rattle.rules.proofs.Refusal.TheLaws as Ref'
use Rattle.domain.specs.contracts.BitDomain as Dom
use Rattle.domain.proofs.BitDomain.TheLaws as Dom'
use Rattle.domain.specs.contracts.Answered as Ans

abbrev pub value : Kind
value = struct_kind Val.the_type Val'.the_laws Val'.the_plain

abbrev pub domain : Kind
domain = struct_kind Dom.the_type Dom'.the_laws Dom'.the_plain

-- `Result<bool, Refusal>`
abbrev told_type : ED.Declared
told_type = answer_type bool-field Ref.the_row

abbrev told_laws : EL.Laws told_type
told_laws = answer_laws bool-field bool-laws bool-copy Ref.the_row Ref'.the_row_laws Ref'.the_told

abbrev told_plain : E.Plainss (ED.variants told_type)
told_plain = answer_plain bool-field bool-plain Ref.the_row Ref'.the_row_plain

abbrev pub told : Kind
told = enum_kind told_type told_laws tt told_plain

-- `Result<(), Refusal>`
abbrev outcome_type : ED.Declared
outcome_type = answer_type unit-field Ref.the_row

abbrev outcome_laws : EL.Laws outcome_type
outcome_laws = answer_laws unit-field unit-laws unit-copy Ref.the_row Ref'.the_row_laws Ref'.the_told

abbrev outcome_plain : E.Plainss (ED.variants outcome_type)
outcome_plain = answer_plain unit-field unit-plain Ref.the_row Ref'.the_row_plain

abbrev pub outcome : Kind
outcome = enum_kind outcome_type outcome_laws tt outcome_plain

-- the structs that the calls by value hand back
abbrev pub both_told : Two domain told
both_told =
    two Dom.the_type Dom'.the_laws Dom'.the_plain told_type told_laws tt told_plain (Ans.the_type bool).name (Ans.the_type bool).args (Ans.the_type bool).types (Ans.the_type bool).D (λ r. r.domain) (λ r. r.answer) (Ans.the_type bool).to_one changed
    (λ r. refl) (λ d a. refl) (λ d a. refl)

abbrev pub both_outcome : Two domain outcome
both_outcome =
    two Dom.the_type Dom'.the_laws Dom'.the_plain outcome_type outcome_laws tt outcome_plain (Ans.the_type unit).name (Ans.the_type unit).args (Ans.the_type unit).types (Ans.the_type unit).D (λ r. r.domain) (λ r. r.answer) (Ans.the_type unit).to_one narrowed
    (λ r. refl) (λ d a. refl) (λ d a. refl)
