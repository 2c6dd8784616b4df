-- Any number of parameters of plain data, Ps, taken together: in a function's signature, and among its locals, where a proof that goes through the
-- function's code by hand has them as one entry of its context.
--     Values Ps, Goods     their values, and that each stands at its own machine value
--     Curried, apply       a function of them, and its value at them
--     slots, keeps         in a signature of n lifetimes
--     of, to               the signature's own tuple of arguments, as values, and back
--     stays, goes, fins, fits, had     at exit: nothing has to be had of them
--     spells, tells, owned-all         on entry, and for a call: their machine values, and what they own
--     locals, Blocks, env, past        among a function's locals, at the blocks bs: `past Ps k` is the place k after them
--     rooms, cells         their locals, empty and filled, as one entry
--     alloc_all, pass_all, forget-all, free_all     the steps: they are made, filled, emptied and freed
--     operands, reads_all  the operands of a call that passes them on, the first being the local k
--     found                a local that lies after them
-- The steps assume `Logic`. All else assumes nothing.
use Rattle.std.specs.Prelude.{◌≡◌, refl, List, [], ◌∷◌, ℕ, zero, suc}
use Rattle.std.proofs.Common.{sym, subst}
use mir.Syntax.{Ty, Local, local, value_local, Opd as Operand, copy, place, Step as PStep}
use mir.Val.{Val}
use seplogic.Ra.Ura.{Ura}
use base.Fraction.{full_share}
use base.Logic.{SProp, ent, emp, sep, wand, ex, id⊢, via, comm∗, mono_r, wand_i, ex_i}
use base.Fml.{Share, ftrue, fat, froom, fdies}
use prog.Wp.{Heap, Env, Spot, spot_of}
use types.Logic.{Logic, sem}
use contract.Lifetimes.{Lfts}
use types.Kit.{Item, ‵, raw, mean, ⋆, nth, del, pull, unpull, Goal, allocs, passes, frees, Seq, Step, step, ◌⊛◌, ◌$◌, ◌∵◌, !, qed, move, drop, use0, split, join, fjoin, done}
use types.Run.{Reads, Walks, Finds, Opds, init, forget, stop, from, load, and_then, no_more, alloc1, pass1, pass0, free1}
use denote.RattleType.{Denots, flat, owns}
use denote.Laws.{Is, Ises, Are, Spells, valss, Tellss}
use denote.Signature.{Slot, plain, types_at}
use denote.Steps.{owned, nothing}
use denote.Exit.{yes as kept}
use denote.Triple.End.{Kepts, Fins}
use denote.Triple.Walked.{Stays, stay_dropped, AllGo, Goes-dropped, fits_of, has_of}
use Rattle.in_place.proofs.PlainData.{Kind, row, makes, vals, Good}

abbrev pub Values : List Kind → Type 0
Values [] = Unit {0}
Values (P ∷ Ps) = P.D × Values Ps

-- a function of them, one after another, at their values
abbrev pub Curried : List Kind → Type 0 → Type 0
Curried [] X = X
Curried (P ∷ Ps) X = P.D → Curried Ps X

abbrev pub apply : (Ps : List Kind) {X : Type 0} → Curried Ps X → Values Ps → X
apply [] f x = f
apply (P ∷ Ps) f x = apply Ps (f x.0) x.1

abbrev pub Goods : (Ps : List Kind) → Values Ps → Type 0
Goods [] x = Unit {0}
Goods (P ∷ Ps) x = Good P x.0 × Goods Ps x.1

-- ---- in a signature
module _ (n : ℕ) where
  abbrev pub slots : List Kind → List (Slot n)
  slots [] = []
  slots (P ∷ Ps) = plain (λ _. row P) ∷ slots Ps

  abbrev pub keeps : (Ps : List Kind) → Kepts (slots Ps)
  keeps [] = tt
  keeps (P ∷ Ps) = (kept, keeps Ps)

  abbrev pub stays : (Ps : List Kind) → Stays (slots Ps) (keeps Ps)
  stays [] = tt
  stays (P ∷ Ps) = (stay_dropped _ kept, stays Ps)

  pub goes : {M : Type 1} {𝓤 : Ura M} (𝓛 : Logic 𝓤) (Ps : List Kind) → AllGo 𝓛 n (slots Ps) (keeps Ps) (stays Ps)
  goes 𝓛 [] = tt
  goes 𝓛 (P ∷ Ps) = (Goes-dropped 𝓛 n (plain (λ _. row P)) kept (λ κs x f. refl), goes 𝓛 Ps)

  module _ (κs : Lfts n) where
    abbrev pub Args : List Kind → Type 0
    Args Ps = Denots (types_at (slots Ps) κs)

    abbrev pub of : (Ps : List Kind) → Args Ps → Values Ps
    of [] a = tt
    of (P ∷ Ps) a = (a.0, of Ps a.1)

    abbrev pub to : (Ps : List Kind) → Values Ps → Args Ps
    to [] x = tt
    to (P ∷ Ps) x = (x.0, to Ps x.1)

    pub of-to : (Ps : List Kind) (x : Values Ps) → of Ps (to Ps x) ≡ x
    of-to [] x = refl
    of-to (P ∷ Ps) x = λ i. (x.0, of-to Ps x.1 i)

    abbrev pub fins : (Ps : List Kind) (a : Args Ps) → Fins κs (slots Ps) (keeps Ps) a
    fins [] a = tt
    fins (P ∷ Ps) a = (tt, fins Ps a.1)

    pub fits : (Ps : List Kind) (a : Args Ps) → fits_of κs (slots Ps) (keeps Ps) (stays Ps) a (fins Ps a)
    fits [] a = tt
    fits (P ∷ Ps) a = (tt, fits Ps a.1)

    abbrev pub spells : (Ps : List Kind) → Spells (types_at (slots Ps) κs)
    spells [] = tt
    spells (P ∷ Ps) = (vals P, spells Ps)

    pub tells : (Ps : List Kind) → Tellss (types_at (slots Ps) κs) (Ises (types_at (slots Ps) κs)) (spells Ps)
    tells [] = tt
    tells (P ∷ Ps) = (P.tells, tells Ps)

    -- their machine values, in a row
    abbrev pub passed : (Ps : List Kind) → Args Ps → List Val
    passed Ps a = flat (types_at (slots Ps) κs) (valss (types_at (slots Ps) κs) (spells Ps) a)

    pub goods-of : (Ps : List Kind) (a : Args Ps) → Are (types_at (slots Ps) κs) (Ises (types_at (slots Ps) κs)) a (valss (types_at (slots Ps) κs) (spells Ps) a) → Goods Ps (of Ps a)
    goods-of [] a are = tt
    goods-of (P ∷ Ps) a are = (are.0, goods-of Ps a.1 are.1)

    module _ {M : Type 1} {𝓤 : Ura M} (𝓛 : Logic 𝓤) where
      pub had : (Ps : List Kind) (a : Args Ps) → ent 𝓤 (emp 𝓤) (sem 𝓛 (has_of κs (slots Ps) (keeps Ps) (stays Ps) a (fins Ps a) (valss (types_at (slots Ps) κs) (spells Ps) a)))
      had [] a = id⊢ 𝓤 (emp 𝓤)
      had (P ∷ Ps) a = qed 𝓛 [] ∵ use0 𝓛 (‵ (has_of κs (slots Ps) (keeps Ps) (stays Ps) a.1 (fins Ps a.1) (valss (types_at (slots Ps) κs) (spells Ps) a.1))) (had Ps a.1) $ nothing ! $ fjoin ! $ done !

      pub owned-all : (Ps : List Kind) (x : Values Ps) → Goods Ps x → ent 𝓤 (emp 𝓤) (sem 𝓛 (owns (types_at (slots Ps) κs) (to Ps x) (valss (types_at (slots Ps) κs) (spells Ps) (to Ps x))))
      owned-all [] x g = id⊢ 𝓤 (emp 𝓤)
      owned-all (P ∷ Ps) x g =
          qed 𝓛 [] ∵ use0 𝓛 (‵ (owns (types_at (slots Ps) κs) (to Ps x.1) (valss (types_at (slots Ps) κs) (spells Ps) (to Ps x.1)))) (owned-all Ps x.1 g.1) $ owned ! (row P) (Is (row P)) (makes P 𝓛) x.0 (vals P x.0) g.0 $ fjoin ! $ done !

-- ---- among a function's locals
abbrev pub locals : List Kind → List Local → List Local
locals [] ls = ls
locals (P ∷ Ps) ls = local P.ty value_local ∷ locals Ps ls

abbrev pub Blocks : List Kind → Type 0
Blocks [] = Unit {0}
Blocks (P ∷ Ps) = ℕ × Blocks Ps

abbrev pub env : (Ps : List Kind) → Blocks Ps → List (Ty × ℕ) → List (Ty × ℕ)
env [] bs E = E
env (P ∷ Ps) bs E = (P.ty, bs.0) ∷ env Ps bs.1 E

abbrev pub past : List Kind → ℕ → ℕ
past [] k = k
past (P ∷ Ps) k = suc (past Ps k)

abbrev pub operands : ℕ → List Kind → List Operand
operands k [] = []
operands k (P ∷ Ps) = copy (place k []) ∷ operands (suc k) Ps

module _ {M : Type 1} (𝓤 : Ura M) (H : Heap 𝓤) where
  pub spot_past : (Ps : List Kind) (bs : Blocks Ps) (E : Env 𝓤 H) (k : ℕ) → spot_of 𝓤 H (env Ps bs E) (past Ps k) ≡ spot_of 𝓤 H E k
  spot_past [] bs E k = refl
  spot_past (P ∷ Ps) bs E k = spot_past Ps bs.1 E k

  -- the local k, and those after it
  abbrev pub From : Env 𝓤 H → ℕ → (Ps : List Kind) → Blocks Ps → Type 0
  From E k [] bs = Unit {0}
  From E k (P ∷ Ps) bs = (spot_of 𝓤 H E k ≡ (P.ty, bs.0, zero)) × From E (suc k) Ps bs.1

  pub from-later : (e : Ty × ℕ) (E : Env 𝓤 H) (k : ℕ) (Ps : List Kind) (bs : Blocks Ps) → From E k Ps bs → From (e ∷ E) (suc k) Ps bs
  from-later e E k [] bs h = tt
  from-later e E k (P ∷ Ps) bs h = (h.0, from-later e E (suc k) Ps bs.1 h.1)

  pub from_start : (Ps : List Kind) (bs : Blocks Ps) (E : Env 𝓤 H) → From (env Ps bs E) zero Ps bs
  from_start [] bs E = tt
  from_start (P ∷ Ps) bs E = (refl, from-later (P.ty, bs.0) (env Ps bs.1 E) zero Ps bs.1 (from_start Ps bs.1 E))

module _ {M : Type 1} (𝓤 : Ura M) where
  abbrev pub rooms : (Ps : List Kind) → Blocks Ps → Item 𝓤
  rooms [] bs = ‵ ftrue
  rooms (P ∷ Ps) bs = (‵ (froom P.ty bs.0 zero) ⊛ ‵ (fdies P.ty bs.0)) ⊛ rooms Ps bs.1

  abbrev pub cells : (Ps : List Kind) → Blocks Ps → Values Ps → Item 𝓤
  cells [] bs x = ‵ ftrue
  cells (P ∷ Ps) bs x = (‵ (fat full_share P.ty bs.0 zero (P.val x.0)) ⊛ ‵ (fdies P.ty bs.0)) ⊛ cells Ps bs.1 x.1

-- P can be taken out of the context, which leaves X, and put back
record Inside {M : Type 1} {𝓤 : Ura M} (𝓛 : Logic 𝓤) (Γ : List (Item 𝓤)) (P X : SProp 𝓤) : Type 1 where
  out : ent 𝓤 (⋆ 𝓛 Γ) (sep 𝓤 P X)
  back : ent 𝓤 (sep 𝓤 P X) (⋆ 𝓛 Γ)

module _ {M : Type 1} {𝓤 : Ura M} {𝓛 : Logic 𝓤} {K : Type 0} where
  open 𝓛 use {H}

  pub alloc_all : K → (Ps : List Kind) {Γ : List (Item 𝓤)} {ls : List Local} {Kt : Env 𝓤 H → Goal 𝓤 H} → ((bs : Blocks Ps) → Seq K 𝓛 (rooms 𝓤 Ps bs ∷ Γ) (allocs ls (λ E. Kt (env Ps bs E)))) → Seq K 𝓛 Γ (allocs (locals Ps ls) Kt)
  alloc_all t [] k = nothing t $ k tt
  alloc_all t (P ∷ Ps) {Kt = Kt} k = alloc1 t (λ b. alloc_all t Ps {Kt = λ E. Kt ((P.ty, b) ∷ E)} (λ bs. move t (1 ∷ 2 ∷ 0 ∷ []) $ join t $ join t $ k (b, bs)))

  pub pass_all : K → (n : ℕ) (κs : Lfts n) (Ps : List Kind) (bs : Blocks Ps) (a : Args n κs Ps) → Goods Ps (of n κs Ps a) → (E : Env 𝓤 H) {Γ : List (Item 𝓤)} {g : Goal 𝓤 H}
      → Step K 𝓛 (cells 𝓤 Ps bs (of n κs Ps a) ∷ Γ) g (rooms 𝓤 Ps bs ∷ Γ) (passes (env Ps bs E) (passed n κs Ps a) g)
  pass_all t n κs [] bs a good E = step (λ s. pass0 t $ s)
  pass_all t n κs (P ∷ Ps) bs a good E = step (λ s. split t $ split t $ pass1 t (init t 0 refl (P.typed 𝓛 a.0 (vals P a.0) good.0).0) $ move t (2 ∷ 0 ∷ 1 ∷ []) $
      pass_all t n κs Ps bs.1 a.1 good.1 E $ move t (1 ∷ 2 ∷ 0 ∷ []) $ join t $ join t $ s)

  pub forget-all : K → (Ps : List Kind) (bs : Blocks Ps) (x : Values Ps) {Γ : List (Item 𝓤)} {G : Goal 𝓤 H} → Step K 𝓛 (rooms 𝓤 Ps bs ∷ Γ) G (cells 𝓤 Ps bs x ∷ Γ) G
  forget-all t [] bs x = step (λ s. s)
  forget-all t (P ∷ Ps) bs x = step (λ s. split t $ split t $ forget t 0 refl $ move t (2 ∷ 0 ∷ 1 ∷ []) $ forget-all t Ps bs.1 x.1 $ move t (1 ∷ 2 ∷ 0 ∷ []) $ join t $ join t $ s)

  pub free_all : K → (Ps : List Kind) (bs : Blocks Ps) {Γ : List (Item 𝓤)} {E : Env 𝓤 H} {g : Goal 𝓤 H} → Step K 𝓛 Γ (frees E g) (rooms 𝓤 Ps bs ∷ Γ) (frees (env Ps bs E) g)
  free_all t [] bs = step (λ s. drop t $ s)
  free_all t (P ∷ Ps) bs = step (λ s. split t $ split t $ free1 t $ free_all t Ps bs.1 $ s)

  -- a local at a spot that is known
  pub found : K → {Γ : List (Item 𝓤)} {E : Env 𝓤 H} {i : ℕ} {st : List PStep} {sp sp' : Spot 𝓤 H} → spot_of 𝓤 H E i ≡ sp → Walks K 𝓛 Γ E sp st sp' → Finds K 𝓛 Γ E (place i st) sp'
  found t {Γ} {E} {i} {st} {sp} {sp'} e w = from t (subst (λ (s : Spot 𝓤 H). Walks K 𝓛 Γ E s st sp') (sym e) w)

  read_at : K → (Γ : List (Item 𝓤)) (τ : Ty) (b : ℕ) (v : Val) (X : SProp 𝓤) → Inside 𝓛 Γ (H.at full_share τ b zero v) X → Reads K 𝓛 Γ τ b zero v
  read_at t Γ τ b v X at = record {
    go = λ Kt h.
        via 𝓤 (sep 𝓤 (H.at full_share τ b zero v) X) at.out
        (via 𝓤 (sep 𝓤 (H.at full_share τ b zero v) (wand 𝓤 (H.at full_share τ b zero v) (Kt v)))
        (mono_r 𝓤 (H.at full_share τ b zero v) (wand_i 𝓤 X (H.at full_share τ b zero v) (Kt v) (via 𝓤 (sep 𝓤 (H.at full_share τ b zero v) X) (comm∗ 𝓤 X (H.at full_share τ b zero v)) (via 𝓤 (⋆ 𝓛 Γ) at.back h))))
        (via 𝓤 (ex 𝓤 (λ (u : Val). sep 𝓤 (H.at full_share τ b zero u) (wand 𝓤 (H.at full_share τ b zero u) (Kt u))))
        (ex_i 𝓤 (λ (u : Val). sep 𝓤 (H.at full_share τ b zero u) (wand 𝓤 (H.at full_share τ b zero u) (Kt u))) v)
        (ex_i 𝓤 (λ (s : Share). ex 𝓤 (λ (u : Val). sep 𝓤 (H.at s τ b zero u) (wand 𝓤 (H.at s τ b zero u) (Kt u)))) full_share)));
  }

  each_read : K → (n : ℕ) (κs : Lfts n) (Γ : List (Item 𝓤)) (E : Env 𝓤 H) (k : ℕ) (Ps : List Kind) (bs : Blocks Ps) (x : Values Ps) (X : SProp 𝓤) → From 𝓤 H E k Ps bs → Inside 𝓛 Γ (mean 𝓛 (cells 𝓤 Ps bs x)) X
      → Opds K 𝓛 Γ E (operands k Ps) (passed n κs Ps (to n κs Ps x))
  each_read t n κs Γ E k [] bs x X are in-it = no_more t
  each_read t n κs Γ E k (P ∷ Ps) bs x X are in-it =
      let c : Item 𝓤 = ‵ (fat full_share P.ty bs.0 zero (P.val x.0)) in
      let d : Item 𝓤 = ‵ (fdies P.ty bs.0) in
      let cs : Item 𝓤 = cells 𝓤 Ps bs.1 x.1 in
      and_then t (load t (from t (stop t)) (subst (λ (s : Spot 𝓤 H). Reads K 𝓛 Γ s.0 s.1 s.2 (P.val x.0)) (sym are.0) (read_at t Γ P.ty bs.0 (P.val x.0) (⋆ 𝓛 (d ∷ cs ∷ raw X ∷ [])) (record {
        out = via 𝓤 (⋆ 𝓛 (((c ⊛ d) ⊛ cs) ∷ raw X ∷ [])) in-it.out (qed 𝓛 (((c ⊛ d) ⊛ cs) ∷ raw X ∷ []) ∵ split ! $ split ! $ done !);
        back = via 𝓤 (⋆ 𝓛 (((c ⊛ d) ⊛ cs) ∷ raw X ∷ [])) (qed 𝓛 (c ∷ d ∷ cs ∷ raw X ∷ []) ∵ join ! $ join ! $ done !) in-it.back;
      }))))
      (each_read t n κs Γ E (suc k) Ps bs.1 x.1 (⋆ 𝓛 ((c ⊛ d) ∷ raw X ∷ [])) are.1 (record {
        out = via 𝓤 (⋆ 𝓛 (((c ⊛ d) ⊛ cs) ∷ raw X ∷ [])) in-it.out (qed 𝓛 (((c ⊛ d) ⊛ cs) ∷ raw X ∷ []) ∵ split ! $ move ! (1 ∷ 0 ∷ []) $ done !);
        back = via 𝓤 (⋆ 𝓛 (((c ⊛ d) ⊛ cs) ∷ raw X ∷ [])) (qed 𝓛 (cs ∷ (c ⊛ d) ∷ raw X ∷ []) ∵ move ! (1 ∷ 0 ∷ []) $ join ! $ done !) in-it.back;
      }))

  -- entry m of the context is the parameters' locals
  pub reads_all : K → (m : ℕ) (n : ℕ) (κs : Lfts n) (k : ℕ) (Ps : List Kind) (bs : Blocks Ps) (x : Values Ps) {Γ : List (Item 𝓤)} {E : Env 𝓤 H} → From 𝓤 H E k Ps bs → nth 𝓛 m Γ ≡ cells 𝓤 Ps bs x
      → Opds K 𝓛 Γ E (operands k Ps) (passed n κs Ps (to n κs Ps x))
  reads_all t m n κs k Ps bs x {Γ} {E} are e = each_read t n κs Γ E k Ps bs x (⋆ 𝓛 (del 𝓛 m Γ)) are (record {
    out = subst (λ (j : Item 𝓤). ent 𝓤 (⋆ 𝓛 Γ) (sep 𝓤 (mean 𝓛 j) (⋆ 𝓛 (del 𝓛 m Γ)))) e (pull 𝓛 m Γ);
    back = subst (λ (j : Item 𝓤). ent 𝓤 (sep 𝓤 (mean 𝓛 j) (⋆ 𝓛 (del 𝓛 m Γ))) (⋆ 𝓛 Γ)) e (unpull 𝓛 m Γ);
  })
