-- `fn call(d: &mut T, x: .., y: ..) -> O { let r = callee(*d, x, y); *d = r.state; r.answer }` meets its contract, for any types, any number of further
-- parameters, and any callee that meets the contract by value. The proof goes through the function's MIR, its code as it is compiled, by hand: the
-- borrow is opened and stays open; the struct is copied out of its cell and passed by value to the callee, of which the proof knows only that it
-- meets its contract; the result's state is stored in the cell, and the borrow is closed at that value.
--
-- The steps of `walk` name the entries of their context by number, from 0 at its head. A comment in brackets lists them as they stand there, with
-- … for one that nothing needs before the locals are freed. Assumes nothing.
use Rattle.std.specs.Prelude.{◌≡◌, refl, [], ◌∷◌, List, ℕ, suc}
use Rattle.std.proofs.Common.{◌∙◌, ap}
use mir.Syntax.{Callee, Fn, Ty, ty_ref, mut, local, value_local, seq, assign, call, return, place, rv_opd, copy, deref, field, named}
use mir.Val.{Val, vptr}
use seplogic.Ra.Ura.{Ura}
use base.Fraction.{full_share}
use base.Logic.{SProp, ent, emp, via, fst∗, snd∗, ex_e, id⊢}
use base.Fml.{GName, Lft, Share, ftrue, fat, flft, fobs, fbor}
use prog.Model.{Model}
use prog.Routine.{Routine, Env}
use prog.Wp.{Calls, Loops, WpFn, Tables, Closed}
use types.Logic.{Logic, sem}
use contract.Monad.{fact}
use contract.Running.{Running, tables, tables_of}
use types.Kit.{‵, raw, ◌⊛◌, ⋆, some, later, ◌$◌, ◌∵◌, !, qed, by, move, keep, drop, use0, use1, split, join, pick, rewrite, fsplit, fsplit3, fjoin, fjoin3, feq_i, suffices, frame, await, done}
use types.Run.{look, look_raw, init, store_raw, forget, stop, hop, fld, from, load, of_opd, and_then, assigns, land, returns, enter, alloc1, alloc0, params1, pass1, free1, free0}
use types.Part.{whole, sub, look_in}
use types.SemTy.{Body as InMemory}
use sound.WpLaws.{FmC, fm_of, WpFn-mono}
use denote.RattleType.{owns}
use denote.Laws.{Is, shows, valss}
use denote.Memory.{mem, pointee}
use denote.Ref.{MutBor, MutRef, mut_vals, mut_Tells}
use denote.Signature.{plain, types_at}
use denote.Steps.{opens, closes, owned, peeks, heard, nothing, only}
use denote.Struct.Steps.{spelt}
use denote.Triple.Statement.{Triple}
use denote.Triple.Spec.{Meets, triple_of}
use denote.Triple.Call.{calls_at}
use denote.Triple.Entry.{Vals, on_entry}
use denote.Triple.Table.{entered, cited}
use denote.Triple.Walked.{says, Stays, stay_ref, walk_of, Goes-ref, Walks, ends_at, walked, walk_Meets, has_of}
use denote.Triple.Clauses.{ensured, lasts, closing}
use Rattle.in_place.proofs.PlainData.{Kind, row, makes, vals, Good, Two, result, result_ty}
use Rattle.in_place.proofs.Parameters.{Values, Curried, apply, Goods, slots, keeps, stays, goes, Args, of, to, of-to, fins, fits, spells, tells, passed, goods-of, had, owned-all, locals, env, past, operands, spot_past, from-later, from_start, alloc_all, pass_all, forget-all, free_all, found, reads_all}
use Rattle.in_place.proofs.Contracts.{by-value-ended, by-value-clauses, ByValue, behind, behind-ended, behind-clauses, AnswersBehind, Stated, HoldsBehind, as-stated}

-- the struct behind the reference, the answer, the callee's result that holds the two, the further parameters, and the callee
module _ (T O : Kind) (R : Two T O) (Ps : List Kind) (#callee : Callee) where
  -- the locals after the parameters: the callee's result, the copy that it is passed, and the state that is stored
  abbrev answered : ℕ
  answered = suc (suc (past Ps 0))

  abbrev copied : ℕ
  copied = suc (suc (past Ps 1))

  abbrev stored : ℕ
  stored = suc (suc (past Ps 2))

  abbrev after : ℕ → ℕ → ℕ → List (Ty × ℕ)
  after b c d = (result_ty T O R, b) ∷ (T.ty, c) ∷ (T.ty, d) ∷ []

  -- the function's MIR
  abbrev pub function : Fn
  function = record {
    lifetimes = 1;
    outlives = [];
    ty_params = [];
    givens = 0;
    params = suc (past Ps 0);
    locals = local O.ty value_local ∷ local (ty_ref (named 0) mut (pointee T.written)) value_local ∷ locals Ps (local (result_ty T O R) value_local ∷ local T.ty value_local ∷ local T.ty value_local ∷ []);
    body =
        seq (assign (place copied []) (rv_opd (copy (place 1 (deref T.ty ∷ [])))))
        (seq (call #callee (copy (place copied []) ∷ operands 2 Ps) (place answered []))
        (seq (assign (place stored []) (rv_opd (copy (place answered (field 0 ∷ [])))))
        (seq (assign (place 1 (deref T.ty ∷ [])) (rv_opd (copy (place stored []))))
        (seq (assign (place 0 []) (rv_opd (copy (place answered (field 1 ∷ []))))) return))));
  }

  -- the `&mut` is still owned at exit; of plain data nothing has to be had there
  abbrev stayed : Stays (behind T O R Ps).params (behind-ended T O R Ps).kept
  stayed = (stay_ref (0 ∷ []) tt (plain (λ _. row T)), stays 1 Ps)

  -- what the callee hands back
  module _ (f : T.D → Curried Ps R.D) where
    -- at a reference to cell o of block b, of lifetime κ and name γ, with h behind it; and at further arguments y
    module _ {M : Type 1} {𝓤 : Ura M} (𝓛 : Logic 𝓤) (κ : Lft) (q : Share) (b o : ℕ) (γ : GName) (h : T.D) (y : Args 1 (κ, tt) Ps) (iy : Goods Ps (of 1 (κ, tt) Ps y)) where
      -- the parameters' values
      open 𝓛 use {H}

      abbrev z : Values Ps
      z = of 1 (κ, tt) Ps y

      -- all arguments, and their machine values
      abbrev x : MutBor T.D × Args 1 (κ, tt) Ps
      x = (record { ref_ptr = (b, o); ghost_name = γ; now = h }, y)

      abbrev at : Vals (behind T O R Ps) (κ, tt)
      at = (vptr b o ∷ [], valss (types_at (slots 1 Ps) (κ, tt)) (spells 1 (κ, tt) Ps) y)

      -- what the callee is passed beside the state
      abbrev z₀ : Args 0 tt Ps
      z₀ = to 0 tt Ps z

      abbrev Post : Val → SProp 𝓤
      Post = (walk_of 𝓛 (behind-ended T O R Ps) stayed (behind-clauses T O R Ps f 𝓤)).post (((κ, tt), (q, tt), tt, x, at), tt)

      -- all that the callee is passed
      abbrev call_at : (ByValue T O R Ps f 𝓤 𝓛).Ghost
      call_at = ((tt, tt, tt, (h, z₀), (vals T h, valss (types_at (slots 0 Ps) tt) (spells 0 tt Ps) z₀)), tt)

      asked : Good T h → ent 𝓤 (emp 𝓤) ((ByValue T O R Ps f 𝓤 𝓛).pre call_at)
      asked is =
          qed 𝓛 [] ∵ use0 𝓛 (‵ (owns (types_at (slots 0 Ps) tt) z₀ (valss (types_at (slots 0 Ps) tt) (spells 0 tt Ps) z₀))) (owned-all 0 tt 𝓛 Ps z iy) $ owned ! (row T) (Is (row T)) (makes T 𝓛) h _ is $ fjoin ! $ nothing ! $ join ! $ nothing ! $ move ! (1 ∷ 0 ∷ []) $ join ! $ done !

      -- of the callee's `ensured`, the clause alone
      said : (r : R.D) → ent 𝓤 (ensured 𝓛 (by-value-ended T O R Ps) (by-value-clauses T O R Ps f 𝓤) tt (h, z₀) tt r) (fact 𝓤 (r ≡ apply Ps (f h) (of 0 tt Ps z₀)))
      said r = ex_e 𝓤 _ (λ ws. snd∗ 𝓤 (sem 𝓛 (lasts (by-value-ended T O R Ps) tt (h, z₀) ws)) (fact 𝓤 (r ≡ apply Ps (f h) (of 0 tt Ps z₀))))

      exits : (r : R.D) → r ≡ apply Ps (f h) (of 0 tt Ps z₀) → Good O (R.answer r) → ent 𝓤 (⋆ 𝓛 (‵ (fobs γ (T.coded.code (R.state r))) ∷ ‵ (fbor κ (InMemory (mem (row T)) b o γ)) ∷ ‵ (flft κ q) ∷ [])) (Post (O.val (R.answer r)))
      exits r e ia =
          qed 𝓛 (‵ (fobs γ (T.coded.code (R.state r))) ∷ ‵ (fbor κ (InMemory (mem (row T)) b o γ)) ∷ ‵ (flft κ q) ∷ []) ∵
          suffices ! _ (ends_at 𝓛 (behind-ended T O R Ps) stayed (behind-clauses T O R Ps f 𝓤) (((κ, tt), (q, tt), tt, x, at), tt) (O.val (R.answer r)) (R.answer r) (R.state r, fins 1 (κ, tt) Ps y) (tt, fits 1 (κ, tt) Ps y)) $
          says ! (R.eta r ∙ e ∙ ap (apply Ps (f h)) (of-to 0 tt Ps z)) $ nothing ! $ move ! (3 ∷ 0 ∷ []) $ join ! $
          frame ! $ feq_i ! (List Val) (vptr b o ∷ []) (vptr b o ∷ []) refl $ fjoin3 ! $ use0 𝓛 (‵ (has_of (κ, tt) (slots 1 Ps) (keeps 1 Ps) (stays 1 Ps) y (fins 1 (κ, tt) Ps y) at.1)) (had 1 (κ, tt) 𝓛 Ps y) $ move ! (1 ∷ 0 ∷ []) $ fjoin ! $
          owned ! (row O) (Is (row O)) (makes O 𝓛) (R.answer r) _ ia $ move ! (1 ∷ 0 ∷ []) $ done !

      module _ (C : Calls 𝓤 H) (Λ : Loops 𝓤 H) (fm : FmC 𝓤 H 𝓛.laws C) (known : Triple 𝓤 (C #callee) (ByValue T O R Ps f 𝓤 𝓛)) where
        walk : ent 𝓤 (on_entry 𝓛 (behind T O R Ps) (κ, tt) (q, tt) x at) (WpFn 𝓤 H C Λ function (vptr b o ∷ passed 1 (κ, tt) Ps y) Post)
        walk =
            qed 𝓛 ((‵ (flft κ q) ⊛ ‵ ftrue) ∷ ‵ (owns (MutRef (named 0) κ (row T) ∷ types_at (slots 1 Ps) (κ, tt)) x at) ∷ []) ∵ enter ! C Λ function (vptr b o ∷ passed 1 (κ, tt) Ps y) _ $
            alloc1 ! (λ l0. alloc1 ! (λ l1. alloc_all ! Ps (λ bs. alloc1 ! (λ l3. alloc1 ! (λ l4. alloc1 ! (λ l5. alloc0 ! $ params1 ! $ pass1 ! (init ! 7 refl (tt, tt)) $
            move ! (6 ∷ []) $ pass_all ! 1 (κ, tt) Ps bs y iy (after l3 l4 l5) $
            -- the borrow is opened
            move ! (12 ∷ []) $ fsplit ! $ fsplit3 ! $ drop ! $ move ! (14 ∷ []) $ split ! $ move ! (2 ∷ 3 ∷ 0 ∷ []) $
            opens ! tt (row T) {h = h} b o (λ vs. spelt ! (row T) (Is (row T)) (shows 𝓛 (row T)) (vals T) T.tells full_share h vs b o $
            move ! (1 ∷ []) $ peeks ! (row T) (Is (row T)) (shows 𝓛 (row T)) h (vals T h) (λ is. drop ! $
            -- [the struct's cell; the open borrow; the value behind it as seen, `fobs`; and as held, `fauth`; true; what the further parameters own; their locals; room for the state that is stored; …; the copy; …; the result; …; the reference; …; room for _0; …]
            assigns ! (of_opd ! (load ! (from ! (hop ! (look ! 13 refl) (stop !))) (look_raw ! 0 refl))) (found ! (spot_past 𝓤 H Ps bs (after l3 l4 l5) 1) (stop !)) (init ! 9 refl (T.typed 𝓛 h _ is).0) $
            use0 𝓛 (raw ((ByValue T O R Ps f 𝓤 𝓛).pre call_at)) (asked is) $
            calls_at ! fm (ByValue T O R Ps f 𝓤 𝓛) known call_at (and_then ! (load ! (found ! (spot_past 𝓤 H Ps bs (after l3 l4 l5) 1) (stop !)) (look ! 10 refl)) (reads_all ! 7 0 tt 2 Ps bs z (from-later 𝓤 H (O.ty, l0) ((ty_ref (named 0) mut (pointee T.written), l1) ∷ env Ps bs (after l3 l4 l5)) 1 Ps bs (from-later 𝓤 H (ty_ref (named 0) mut (pointee T.written), l1) (env Ps bs (after l3 l4 l5)) 0 Ps bs (from_start 𝓤 H Ps bs (after l3 l4 l5)))) refl)) (λ u.
            use1 𝓛 (later (some (λ (r : R.D). (‵ ftrue ⊛ ‵ (R.own r (u ∷ []))) ⊛ raw (ensured 𝓛 (by-value-ended T O R Ps) (by-value-clauses T O R Ps f 𝓤) tt (h, z₀) tt r)))) (id⊢ 𝓤 _) $ await ! tt $ pick ! (λ r.
            split ! $ move ! (1 ∷ []) $ use1 𝓛 (raw (fact 𝓤 (r ≡ apply Ps (f h) (of 0 tt Ps z₀)))) (said r) $ heard ! (r ≡ apply Ps (f h) (of 0 tt Ps z₀)) (λ e. split ! $ drop ! $
            peeks ! (result T O R) (Is (result T O R)) (shows 𝓛 (result T O R)) r (u ∷ []) (λ ir. drop ! $
            land ! (found ! (spot_past 𝓤 H Ps bs (after l3 l4 l5) 0) (stop !)) (init ! 11 refl (R.typed 𝓛 r _ ir).0) $
            rewrite ! 11 (λ (w : Val). ‵ (fat full_share (result_ty T O R) l3 0 w)) (ap only (R.parted r _ ir).0) refl $
            -- the result's field is stored in the cell, and the borrow is closed there
            assigns ! (of_opd ! (load ! (found ! (spot_past 𝓤 H Ps bs (after l3 l4 l5) 0) (fld ! refl (stop !))) (look_in ! 11 (sub ! 0 refl (whole !))))) (found ! (spot_past 𝓤 H Ps bs (after l3 l4 l5) 2) (stop !)) (init ! 7 refl (T.typed 𝓛 (R.state r) _ (R.parted r _ ir).1.0).0) $
            assigns ! (of_opd ! (load ! (found ! (spot_past 𝓤 H Ps bs (after l3 l4 l5) 2) (stop !)) (look ! 7 refl))) (from ! (hop ! (look ! 13 refl) (stop !))) (store_raw ! 0 refl (T.typed 𝓛 (R.state r) _ (R.parted r _ ir).1.0).0) $
            assigns ! (of_opd ! (load ! (found ! (spot_past 𝓤 H Ps bs (after l3 l4 l5) 0) (fld ! refl (stop !))) (look_in ! 11 (sub ! 1 refl (whole !))))) (from ! (stop !)) (init ! 15 refl (O.typed 𝓛 (R.answer r) _ (R.parted r _ ir).1.1).0) $
            owned ! (row T) (Is (row T)) (makes T 𝓛) (R.state r) _ (R.parted r _ ir).1.0 $ move ! (1 ∷ 0 ∷ []) $
            closes ! tt (row T) (R.state r) (vals T (R.state r)) b o $
            returns ! (look ! 14 refl) $ forget ! 6 refl $ forget ! 8 refl $ forget ! 10 refl $ forget ! 12 refl $ forget ! 14 refl $
            move ! (14 ∷ 15 ∷ []) $ free1 ! $ move ! (12 ∷ 13 ∷ []) $ free1 ! $ move ! (5 ∷ []) $ forget-all ! Ps bs z $ free_all ! Ps bs $ move ! (9 ∷ 10 ∷ []) $ free1 ! $ move ! (7 ∷ 8 ∷ []) $ free1 ! $ move ! (5 ∷ 6 ∷ []) $ free1 ! $ free0 ! $
            keep ! (0 ∷ 1 ∷ 2 ∷ []) $ by ! (exits r e (R.parted r _ ir).1.1)))))))))))))

    walks : {M : Type 1} {𝓤 : Ura M} (𝓛 : Logic 𝓤) (C : Calls 𝓤 𝓛.H) (Λ : Loops 𝓤 𝓛.H) → FmC 𝓤 𝓛.H 𝓛.laws C → Triple 𝓤 (C #callee) (ByValue T O R Ps f 𝓤 𝓛)
        → Walks 𝓛 (behind-ended T O R Ps) stayed (WpFn 𝓤 𝓛.H C Λ function) (behind-clauses T O R Ps f 𝓤)
    walks {𝓤 = 𝓤} 𝓛 C Λ fm known = walked 𝓛 (behind-ended T O R Ps) stayed (behind-clauses T O R Ps f 𝓤) (WpFn 𝓤 𝓛.H C Λ function) (λ κs. (mut_vals, spells 1 κs Ps)) (λ κs. (mut_Tells (named 0) κs.0 (row T), tells 1 κs Ps))
        (λ κs qs bounds a g are. via 𝓤 _ (fst∗ 𝓤 _ (emp 𝓤)) (walk 𝓛 κs.0 qs.0 a.0.ref_ptr.0 a.0.ref_ptr.1 a.0.ghost_name a.0.now a.1 (goods-of 1 κs Ps a.1 are.1) C Λ fm known))

    -- a function `call` with this code, where its callee's routine meets the contract by value: it meets the contract c that the program states, if c follows from what the callee tells
    pub thin : (c : Stated (behind-ended T O R Ps)) → HoldsBehind T O R Ps f c → {M : Type 1} {𝓤 : Ura M} (𝓛 : Logic 𝓤) (𝓜 : Model 𝓤 𝓛.H) (𝓡 : Running 𝓤 𝓛.H 𝓜) (γ : Env) (#call : Callee)
        → Closed 𝓤 𝓛.H (tables 𝓤 𝓛.H 𝓜 𝓡 γ).C (tables 𝓤 𝓛.H 𝓜 𝓡 γ).Λ #call function → (callee : Routine) → γ #callee ≡ callee → Triple 𝓤 (𝓡.run callee) (ByValue T O R Ps f 𝓤 𝓛)
        → Meets 𝓛 (behind T O R Ps) (𝓡.run (γ #call)) (closing 𝓛 (behind-ended T O R Ps) (c M 𝓤 𝓛 𝓜.mem 𝓡.returns))
    unfolding tables_of
    thin c holds {M} {𝓤 = 𝓤} 𝓛 𝓜 𝓡 γ #call unfolded callee is known =
        let 𝓣 : Tables 𝓤 𝓛.H = tables_of 𝓤 𝓛.H 𝓜 (tables 𝓤 𝓛.H 𝓜 𝓡 γ) in
        entered 𝓤 𝓛.H (triple_of 𝓛 (behind T O R Ps) (closing 𝓛 (behind-ended T O R Ps) (c M 𝓤 𝓛 𝓜.mem 𝓡.returns))) 𝓣.C 𝓣.Λ #call function unfolded
        (as-stated (behind-ended T O R Ps) (AnswersBehind T O R Ps f) c holds 𝓛 𝓜.mem 𝓡.returns (WpFn 𝓤 𝓛.H 𝓣.C 𝓣.Λ function) (WpFn-mono 𝓤 𝓛.H 𝓛.laws 𝓣 function)
        (walk_Meets 𝓛 (behind-ended T O R Ps) stayed (Goes-ref 𝓛 1 0 tt (plain (λ _. row T)), goes 1 𝓛 Ps) (behind-clauses T O R Ps f 𝓤) (WpFn 𝓤 𝓛.H 𝓣.C 𝓣.Λ function) (WpFn-mono 𝓤 𝓛.H 𝓛.laws 𝓣 function)
        (walks 𝓛 𝓣.C 𝓣.Λ (fm_of 𝓤 𝓛.H 𝓛.laws 𝓣) (cited 𝓤 𝓛.H (ByValue T O R Ps f 𝓤 𝓛) 𝓜 𝓡 γ #callee callee is known))))
