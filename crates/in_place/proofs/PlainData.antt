-- What the laws of this crate take of a type, for types of any program.
--     Kind                     plain data with one machine value, seen at a function's exit as it was passed
--     row, makes               its row, by which Rattle knows a type: how its values lie in memory and what they own; and that this is had for nothing
--     Two                      a struct of two fields, a state and an answer
--     result, result-makes     its row, and the same of it
--     struct_kind, enum_kind, two     the kind of a declared struct, of a declared enum, and the struct that holds the two. At a type of a program the
--                              row that they give is the type's own, by computation
--     answer_type, answer_laws, answer_plain     the enum `Result<F, X>` of a built-in type F and a declared one X, as `enum_kind` and `two` take an enum
-- `typed` assumes `Logic`. All else assumes nothing.
use Rattle.std.specs.Prelude.{◌≡◌, refl, List, [], ◌∷◌, ◌++◌, ℕ}
use Rattle.std.proofs.Common.{sym, ◌∙◌, subst}
use mir.Syntax.{Sym, Ty, ty_struct, tcons, tnil, Lifetime, Written}
use mir.Val.{Val, vstruct, of_list}
use seplogic.Ra.Ura.{Ura}
use base.Stored.{Coded}
use base.Fml.{Fml, Lft}
use types.Logic.{Logic}
use denote.Exit.{unchanged}
use denote.RattleType.{RattleType}
use denote.Shadow.{shadow, Pure, makes_shadow}
use denote.Laws.{Typed, Is, Makes}
use denote.Struct.Struct as S
use denote.Struct.Recorded.{Recorded}
use denote.Struct.Declared as SD
use denote.Struct.Laws as SL
use denote.Enum.Enum as E
use denote.Enum.Declared as ED
use denote.Enum.Laws as EL
use denote.Struct.Field.{Field}
use denote.Param.Laws.{Laws, Told, of_field, field_told}
use denote.Param.Plain.{IsPlain}
use denote.Param.Shared.{copy_shared}
use Rattle.std.specs.contracts.result.Result as Res
use Rattle.std.proofs.result.Result.TheLaws as Res'

abbrev row_of : (D : Type 0) → Ty → Written → List (Written × List Ty) → Lft → (D → List Val → Fml) → Coded D → (D → ℕ → ℕ → Lft → Fml) → RattleType
row_of D τ w rs ls own c shr = record { Denot = D; mir = τ ∷ []; written = w; reaches = rs; lives = ls; own_val = own; exit = λ k. unchanged; coded = c; shr_at = shr }

pub record Kind : Type 2 where
  pub D : Type 0
  pub ty : Ty
  pub written : Written
  pub reaches : List (Written × List Ty)
  pub lives : Lft
  pub own : D → List Val → Fml
  pub coded : Coded D
  pub shr : D → ℕ → ℕ → Lft → Fml
  pub val : D → Val
  pub tells : (x : D) (vs : List Val) → shadow (own x vs) → vs ≡ val x ∷ []
  pub typed : {M : Type 1} {𝓤 : Ura M} (𝓛 : Logic 𝓤) → (x : D) (vs : List Val) → shadow (own x vs) → Typed (ty ∷ []) vs
  pub pure : (x : D) (vs : List Val) → Pure (own x vs)

abbrev pub row : Kind → RattleType
row K = row_of K.D K.ty K.written K.reaches K.lives K.own K.coded K.shr

pub makes : (K : Kind) {M : Type 1} {𝓤 : Ura M} (𝓛 : Logic 𝓤) → Makes 𝓛 (row K) (Is (row K))
makes K 𝓛 x vs = makes_shadow 𝓛 (K.own x vs) (K.pure x vs)

abbrev pub vals : (K : Kind) → K.D → List Val
vals K x = K.val x ∷ []

-- x stands at its own machine value
abbrev pub Good : (K : Kind) → K.D → Type 0
Good K x = Is (row K) x (vals K x)

abbrev pub struct_kind : (T : SD.Declared) → SL.Laws T → S.Plains (SD.fields T) → Kind
struct_kind T L pl = record {
  D = T.D;
  ty = S.layout (SD.shape T);
  written = (SD.row T).written;
  reaches = (SD.row T).reaches;
  lives = (SD.row T).lives;
  own = (SD.row T).own_val;
  coded = (SD.row T).coded;
  shr = (SD.row T).shr_at;
  val = SL.val T L;
  tells = SL.tells T L;
  typed = λ 𝓛. (SL.lawful T L 𝓛).typed;
  pure = λ d vs. S.Struct-Pure (SD.shape T) pl (T.to d) vs;
}

abbrev pub enum_kind : (T : ED.Declared) → EL.Laws T → E.Few (ED.shape T) → E.Plainss (ED.variants T) → Kind
enum_kind T L few pl = record {
  D = T.D;
  ty = E.layout (ED.shape T);
  written = (ED.row T).written;
  reaches = (ED.row T).reaches;
  lives = (ED.row T).lives;
  own = (ED.row T).own_val;
  coded = (ED.row T).coded;
  shr = (ED.row T).shr_at;
  val = EL.val T L;
  tells = EL.tells T L;
  typed = λ 𝓛. (EL.lawful T L 𝓛 few).typed;
  pure = EL.pure T pl;
}

-- ---- what a call answers: a value of a built-in type, or a refusal of a declared one
abbrev pub answer_type : Field → RattleType → ED.Declared
answer_type F X = Res.the_type F.row X

abbrev pub answer_laws : (F : Field) → SL.FLaws F → SL.Copyable F → (X : RattleType) → Laws X → Told X → EL.Laws (answer_type F X)
answer_laws F L C X LX tX = Res'.the_laws F.row X (of_field F L C.alone (copy_shared F C)) LX (field_told F L) tX

abbrev pub answer_plain : (F : Field) → SL.Plain F → (X : RattleType) → IsPlain X → E.Plainss (ED.variants (answer_type F X))
answer_plain F p X pX = Res'.the_plain F.row X p pX

-- ---- a struct of a state and an answer
abbrev pub pack : Val → Val → Val
pack v u = vstruct (of_list (v ∷ u ∷ []))

module _ (T O : Kind) where
  abbrev pair_ty : Sym → Ty
  pair_ty ν = ty_struct ν (tcons T.ty (tcons O.ty tnil))

  pub record Two : Type 2 where
    pub name : Sym
    pub D : Type 0
    pub written : Written
    pub reaches : List (Written × List Ty)
    pub lives : Lft
    pub own : D → List Val → Fml
    pub coded : Coded D
    pub shr : D → ℕ → ℕ → Lft → Fml
    pub state : D → T.D
    pub answer : D → O.D
    pub both : T.D → O.D → D
    pub eta : (r : D) → both (state r) (answer r) ≡ r
    pub parted : (r : D) (vs : List Val) → shadow (own r vs) → (vs ≡ pack (T.val (state r)) (O.val (answer r)) ∷ []) × (Good T (state r) × Good O (answer r))
    pub joined : (d : T.D) (a : O.D) → Good T d → Good O a → shadow (own (both d a) (pack (T.val d) (O.val a) ∷ []))
    pub typed : {M : Type 1} {𝓤 : Ura M} (𝓛 : Logic 𝓤) → (r : D) (vs : List Val) → shadow (own r vs) → Typed (pair_ty name ∷ []) vs
    pub pure : (r : D) (vs : List Val) → Pure (own r vs)

  abbrev pub result_ty : Two → Ty
  result_ty R = pair_ty R.name

  abbrev pub result : Two → RattleType
  result R = row_of R.D (result_ty R) R.written R.reaches R.lives R.own R.coded R.shr

  pub result-makes : (R : Two) {M : Type 1} {𝓤 : Ura M} (𝓛 : Logic 𝓤) → Makes 𝓛 (result R) (Is (result R))
  result-makes R 𝓛 r vs = makes_shadow 𝓛 (R.own r vs) (R.pure r vs)

-- a declared struct of the name ν, whose two fields are a declared struct and a declared enum: its record D, with the two fields' ways out and the way in
module _ (T : SD.Declared) (Lt : SL.Laws T) (p_t : S.Plains (SD.fields T)) (O : ED.Declared) (LO : EL.Laws O) (few : E.Few (ED.shape O)) (p_o : E.Plainss (ED.variants O)) where
  abbrev Tᵏ : Kind
  Tᵏ = struct_kind T Lt p_t

  abbrev Oᵏ : Kind
  Oᵏ = enum_kind O LO few p_o

  module _ (ν : Sym) (args : List Lifetime) (types : List RattleType) (D : Type 0) (state : D → T.D) (answer : D → O.D) where
    abbrev shape : S.Shape
    shape = record { name = ν; args = args; types = types; fields = S.Struct (SD.shape T) ∷ E.Enum (ED.shape O) ∷ [] }

    abbrev to : D → (S.Struct shape).Denot
    to r = (T.to (state r), (O.to (answer r), tt))

    module _ (one : (x y : D) → to x ≡ to y → x ≡ y) where
      abbrev the_row : RattleType
      the_row = Recorded (S.Struct shape) D to one

      pub parts : (r : D) (vs : List Val) → Is the_row r vs → (vs ≡ pack (SL.val T Lt (state r)) (EL.val O LO (answer r)) ∷ []) × (Good Tᵏ (state r) × Good Oᵏ (answer r))
      parts r vs p =
          let e : p.0.0 ≡ vals Tᵏ (state r) = SL.tells T Lt (state r) p.0.0 p.1.1.0 in
          let f : p.0.1.0 ≡ vals Oᵏ (answer r) = EL.tells O LO (answer r) p.0.1.0 p.1.1.1.0 in
          (p.1.0 ∙ (λ i. vstruct (of_list (e i ++ (f i ++ []))) ∷ []), (subst (Is (SD.row T) (state r)) e p.1.1.0, subst (Is (ED.row O) (answer r)) f p.1.1.1.0))

      module _ (both : T.D → O.D → D) (eta : (r : D) → both (state r) (answer r) ≡ r) (state-is : (d : T.D) (a : O.D) → state (both d a) ≡ d) (answer-is : (d : T.D) (a : O.D) → answer (both d a) ≡ a) where
        pub whole : (d : T.D) (a : O.D) → Good Tᵏ d → Good Oᵏ a → Is the_row (both d a) (pack (SL.val T Lt d) (EL.val O LO a) ∷ [])
        whole d a g h = ((vals Tᵏ d, (vals Oᵏ a, tt)), (refl, (subst (λ (x : T.D). Is (SD.row T) x (vals Tᵏ d)) (sym (state-is d a)) g, (subst (λ (x : O.D). Is (ED.row O) x (vals Oᵏ a)) (sym (answer-is d a)) h, tt))))

        abbrev pub two : Two Tᵏ Oᵏ
        two = record {
          name = ν;
          D = D;
          written = the_row.written;
          reaches = the_row.reaches;
          lives = the_row.lives;
          own = the_row.own_val;
          coded = the_row.coded;
          shr = the_row.shr_at;
          state = state;
          answer = answer;
          both = both;
          eta = eta;
          parted = parts;
          joined = whole;
          typed = λ 𝓛 r vs p. (S.Struct-Lawful 𝓛 shape (S.Struct-Lawful 𝓛 (SD.shape T) (SL.lawfuls 𝓛 T.parts Lt), (E.Enum-Lawful 𝓛 (ED.shape O) few (EL.lawfulss 𝓛 O.parts LO), tt))).typed (to r) vs p;
          pure = λ r vs. S.Struct-Pure shape (S.Struct-Pure (SD.shape T) p_t, (E.Enum-Pure (ED.shape O) p_o, tt)) (to r) vs;
        }
