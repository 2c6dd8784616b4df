-- The types of the calls, as the laws of `in_place` take them. Assumes nothing.
use Rattle.std.specs.Prelude.{refl}
use denote.Enum.Declared as ED
use denote.Enum.Enum as E
use denote.Enum.Laws as EL
use denote.Struct.Field.{bool-field}
use denote.Struct.Laws.{bool-laws, bool-copy, bool-plain}
use Rattle.in_place.proofs.PlainData.{Kind, struct_kind, enum_kind, answer_type, answer_laws, answer_plain, Two, two}
use Rattle.board_in_place.specs.Behind.{closed}
use Rattle.rules.specs.contracts.Variable as Var
use Rattle.rules.proofs.Variable.TheLaws as Var'
use Rattle.rules.specs.contracts.Value as Val
use Rattle.rules.proofs.Value.TheLaws as Val'
use Rattle.rules.specs.contracts.Refusal as Ref
use Rattle.rules.proofs.Refusal.TheLaws as Ref'
use Rattle.board.specs.contracts.Board as Boa
use Rattle.board.proofs.Board.TheLaws as Boa'
use Rattle.board.specs.contracts.Closed as Clo

abbrev pub variable : Kind
variable = struct_kind Var.the_type Var'.the_laws Var'.the_plain

abbrev pub value : Kind
value = struct_kind Val.the_type Val'.the_laws Val'.the_plain

abbrev pub board : Kind
board = struct_kind Boa.the_type Boa'.the_laws Boa'.the_plain

-- `Result<bool, Refusal>`
abbrev told_type : ED.Declared
told_type = answer_type bool-field Ref.the_row

abbrev told_laws : EL.Laws told_type
told_laws = answer_laws bool-field bool-laws bool-copy Ref.the_row Ref'.the_row_laws Ref'.the_told

abbrev told_plain : E.Plainss (ED.variants told_type)
told_plain = answer_plain bool-field bool-plain Ref.the_row Ref'.the_row_plain

abbrev pub told : Kind
told = enum_kind told_type told_laws tt told_plain

-- the struct that a call by value hands back
abbrev pub both_told : Two board told
both_told =
    two Boa.the_type Boa'.the_laws Boa'.the_plain told_type told_laws tt told_plain (Clo.the_type).name (Clo.the_type).args (Clo.the_type).types (Clo.the_type).D (λ r. r.board) (λ r. r.answer) (Clo.the_type).to_one closed
    (λ r. refl) (λ b a. refl) (λ b a. refl)
