-- `fn call_here(d: T, x: .., y: ..) -> R { let mut e = d; let a = call(&mut e, x, y); R { state: e, answer: a } }` meets its contract, for any types, any
-- number of further parameters, and any callee that meets the contract through a reference. The proof goes through the function's MIR by hand, and
-- is written, as in Thin: a lifetime is made, a local is lent for it by `&mut`, the callee is called, the lifetime is ended, and the local is back
-- at the last value that the contract says; it and the answer are the result. Assumes nothing.
use Rattle.std.specs.Prelude.{◌≡◌, refl, [], ◌∷◌, List, ℕ, suc}
use Rattle.std.proofs.Common.{◌∙◌, ap, subst}
use mir.Syntax.{Callee, Fn, Ty, ty_ref, mut, local, value_local, memory_slot, seq, assign, call, return, place, rv_opd, addr_of, aggregate, copy, named, erased}
use mir.Val.{Val, vptr}
use seplogic.Ra.Ura.{Ura}
use base.Fraction.{full_share}
use base.Logic.{SProp, ent, emp, via, fst∗, guard, id⊢}
use base.Fml.{GName, ftrue, fat, fsep, flft, flent}
use prog.Model.{Model}
use prog.Routine.{Routine, Env}
use prog.Wp.{Calls, Loops, WpFn, Tables, Closed}
use types.Logic.{Logic, sem}
use contract.Monad.{fact}
use contract.Running.{Running, tables, tables_of}
use types.Kit.{‵, raw, given, ◌⊛◌, ⋆, some, later, ◌$◌, ◌∵◌, !, qed, by, move, keep, drop, use0, use1, use2, use3, split, join, pick, learn, check, rewrite, fsplit, fjoin, fpick, fpack, suffices, frame, await, done}
use types.Run.{look, init, forget, stop, from, load, of_opd, addr, and_then, no_more, assigns, land, returns, enter, alloc1, alloc0, params1, pass1, free1, free0}
use types.Part.{agg}
use types.SemTy.{Body as InMemory}
use types.Tokens.{lft_new, lft_end}
use sound.WpLaws.{FmC, fm_of, WpFn-mono}
use denote.RattleType.{Valss, owns}
use denote.Laws.{Is, shows, valss}
use denote.Lend.{lends_ref, ref_back}
use denote.Memory.{mem, cell_at, part_of, pointee}
use denote.Ref.{MutBor, MutRef}
use denote.Signature.{plain, types_at}
use denote.Steps.{owned, peeks, heard, nothing, only}
use denote.Struct.Steps.{spelt}
use denote.Triple.Statement.{Triple}
use denote.Triple.Spec.{Meets, triple_of}
use denote.Triple.Call.{calls_at}
use denote.Triple.Entry.{Vals, on_entry}
use denote.Triple.End.{Fins}
use denote.Triple.Table.{entered, cited}
use denote.Triple.Walked.{says, Stays, stay_dropped, walk_of, Goes-dropped, Walks, ends_at, walked, walk_Meets, has_of}
use denote.Triple.Clauses.{ensured, lasts, closing}
use denote.Exit.{yes as kept}
use Rattle.in_place.proofs.PlainData.{Kind, row, makes, vals, Good, Two, result, result_ty, result-makes, pack}
use Rattle.in_place.proofs.Parameters.{Values, Curried, apply, Goods, slots, keeps, stays, goes, Args, of, to, of-to, fins, fits, spells, tells, passed, goods-of, had, owned-all, locals, env, past, operands, spot_past, from-later, from_start, alloc_all, pass_all, forget-all, free_all, found, reads_all}
use Rattle.in_place.proofs.Contracts.{by_value, by-value-ended, by-value-clauses, Answers, behind-ended, behind-clauses, Behind, Stated, Holds, as-stated}

-- a local's cell is what is lent, and what comes back is a local's cell
module _ (T : Kind) {M : Type 1} {𝓤 : Ura M} (𝓛 : Logic 𝓤) (b : ℕ) (d : T.D) where
  open 𝓛 use {H}

  lies : Good T d → ent 𝓤 (H.at full_share T.ty b 0 (T.val d)) (sem 𝓛 ((mem (row T)).own_at d b 0))
  unfolding part_of
  lies is =
      qed 𝓛 (‵ (fat full_share T.ty b 0 (T.val d)) ∷ []) ∵ use1 𝓛 (‵ (cell_at full_share (row T).mir (vals T d) b 0)) (𝓛.laws.at_raw full_share T.ty b 0 (T.val d)) $
      owned ! (row T) (Is (row T)) (makes T 𝓛) d _ is $ move ! (1 ∷ 0 ∷ []) $ fjoin ! $
      fpack ! (List Val) (λ us. fsep (cell_at full_share (row T).mir us b 0) (T.own d us)) (vals T d) $ done !

  back : ent 𝓤 (sem 𝓛 ((mem (row T)).own_at d b 0)) (guard 𝓤 (Good T d) (H.at full_share T.ty b 0 (T.val d)))
  unfolding part_of
  back =
      qed 𝓛 (‵ ((mem (row T)).own_at d b 0) ∷ []) ∵ fpick ! (λ vs. fsplit ! $ spelt ! (row T) (Is (row T)) (shows 𝓛 (row T)) (vals T) T.tells full_share d vs b 0 $
      move ! (1 ∷ []) $ peeks ! (row T) (Is (row T)) (shows 𝓛 (row T)) d (vals T d) (λ is. drop ! $ use1 𝓛 (‵ (fat full_share T.ty b 0 (T.val d))) (𝓛.laws.raw_at full_share T.ty b 0 (T.val d)) $ check ! is $ done !))

-- the struct, the answer, the result that holds the two, the further parameters, and the callee
module _ (T O : Kind) (R : Two T O) (Ps : List Kind) (#callee : Callee) where
  -- the locals after the parameters: what is lent, the callee's answer, the reference, and a copy of what is back
  abbrev after : ℕ → ℕ → ℕ → ℕ → List (Ty × ℕ)
  after a b c d = (T.ty, a) ∷ (O.ty, b) ∷ (ty_ref erased mut (pointee T.written), c) ∷ (T.ty, d) ∷ []

  abbrev lent : ℕ
  lent = suc (suc (past Ps 0))

  abbrev answered : ℕ
  answered = suc (suc (past Ps 1))

  abbrev reference : ℕ
  reference = suc (suc (past Ps 2))

  abbrev copied : ℕ
  copied = suc (suc (past Ps 3))

  -- the function's MIR
  abbrev pub function : Fn
  function = record {
    lifetimes = 0;
    outlives = [];
    ty_params = [];
    givens = 0;
    params = suc (past Ps 0);
    locals = local (result_ty T O R) value_local ∷ local T.ty value_local ∷ locals Ps (local T.ty memory_slot ∷ local O.ty value_local ∷ local (ty_ref erased mut (pointee T.written)) value_local ∷ local T.ty value_local ∷ []);
    body =
        seq (assign (place lent []) (rv_opd (copy (place 1 []))))
        (seq (assign (place reference []) (addr_of (place lent [])))
        (seq (call #callee (copy (place reference []) ∷ operands 2 Ps) (place answered []))
        (seq (assign (place copied []) (rv_opd (copy (place lent []))))
        (seq (assign (place 0 []) (aggregate (copy (place copied []) ∷ copy (place answered []) ∷ []))) return))));
  }

  -- of plain data nothing has to be had at exit
  abbrev stayed : Stays (by_value T O R Ps).params (by-value-ended T O R Ps).kept
  stayed = (stay_dropped _ kept, stays 0 Ps)

  -- what the callee leaves behind the reference, and answers
  module _ (f : T.D → Curried Ps R.D) where
    -- at a struct d and further arguments y
    module _ {M : Type 1} {𝓤 : Ura M} (𝓛 : Logic 𝓤) (d : T.D) (is : Good T d) (y : Args 0 tt Ps) (iy : Goods Ps (of 0 tt Ps y)) where
      -- the parameters' values
      open 𝓛 use {H}

      abbrev z : Values Ps
      z = of 0 tt Ps y

      abbrev at : Vals (by_value T O R Ps) tt
      at = (vals T d, valss (types_at (slots 0 Ps) tt) (spells 0 tt Ps) y)

      abbrev Post : Val → SProp 𝓤
      Post = (walk_of 𝓛 (by-value-ended T O R Ps) stayed (by-value-clauses T O R Ps f 𝓤)).post ((tt, tt, tt, (d, y), at), tt)

      -- what the callee is passed, for a lifetime α and at a name γ: a reference to the local at l, and the parameters
      abbrev x : ℕ → GName → MutBor T.D
      x l γ = record { ref_ptr = (l, 0); ghost_name = γ; now = d }

      abbrev z₁ : (α : ℕ) → Args 1 (α ∷ [], tt) Ps
      z₁ α = to 1 (α ∷ [], tt) Ps z

      abbrev at₁ : (α : ℕ) → Valss (types_at (slots 1 Ps) (α ∷ [], tt))
      at₁ α = valss (types_at (slots 1 Ps) (α ∷ [], tt)) (spells 1 (α ∷ [], tt) Ps) (z₁ α)

      abbrev call_at : ℕ → ℕ → GName → (Behind T O R Ps f 𝓤 𝓛).Ghost
      call_at α l γ = (((α ∷ [], tt), (full_share, tt), tt, (x l γ, z₁ α), (vptr l 0 ∷ [], at₁ α)), tt)

      asked : (α l : ℕ) (γ : GName) → ent 𝓤 (⋆ 𝓛 (‵ (flft (α ∷ []) full_share) ∷ ‵ ((MutRef (named 0) (α ∷ []) (row T)).own_val (x l γ) (vptr l 0 ∷ [])) ∷ [])) ((Behind T O R Ps f 𝓤 𝓛).pre (call_at α l γ))
      asked α l γ =
          qed 𝓛 (‵ (flft (α ∷ []) full_share) ∷ ‵ ((MutRef (named 0) (α ∷ []) (row T)).own_val (x l γ) (vptr l 0 ∷ [])) ∷ []) ∵ use0 𝓛 (‵ (owns (types_at (slots 1 Ps) (α ∷ [], tt)) (z₁ α) (at₁ α))) (owned-all 1 (α ∷ [], tt) 𝓛 Ps z iy) $ move ! (2 ∷ 0 ∷ []) $ fjoin ! $
          nothing ! $ move ! (2 ∷ 0 ∷ []) $ join ! $ nothing ! $ move ! (1 ∷ 2 ∷ 0 ∷ []) $ join ! $ frame ! $ done !

      -- the result is made of its two fields
      exits : (w : T.D) (a : O.D) → R.both w a ≡ apply Ps (f d) z → Good T w → Good O a → ent 𝓤 (emp 𝓤) (Post (pack (T.val w) (O.val a)))
      exits w a e iw ia =
          qed 𝓛 [] ∵ suffices ! _ (ends_at 𝓛 (by-value-ended T O R Ps) stayed (by-value-clauses T O R Ps f 𝓤) ((tt, tt, tt, (d, y), at), tt) (pack (T.val w) (O.val a)) (R.both w a) (tt, fins 0 tt Ps y) (tt, fits 0 tt Ps y)) $ says ! e $
          owned ! (result T O R) (Is (result T O R)) (result-makes T O R 𝓛) (R.both w a) _ (R.joined w a iw ia) $ use0 𝓛 (‵ (has_of tt (slots 0 Ps) (keeps 0 Ps) (stays 0 Ps) y (fins 0 tt Ps y) at.1)) (had 0 tt 𝓛 Ps y) $ nothing ! $ fjoin ! $ nothing ! $ done !

      module _ (C : Calls 𝓤 H) (Λ : Loops 𝓤 H) (fm : FmC 𝓤 H 𝓛.laws C) (known : Triple 𝓤 (C #callee) (Behind T O R Ps f 𝓤 𝓛)) where
        walk : ent 𝓤 (on_entry 𝓛 (by_value T O R Ps) tt tt (d, y) at) (WpFn 𝓤 H C Λ function (T.val d ∷ passed 0 tt Ps y) Post)
        walk =
            qed 𝓛 (raw (on_entry 𝓛 (by_value T O R Ps) tt tt (d, y) at) ∷ []) ∵ drop ! $ enter ! C Λ function (T.val d ∷ passed 0 tt Ps y) _ $
            alloc1 ! (λ l₀. alloc1 ! (λ l₁. alloc_all ! Ps (λ bs. alloc1 ! (λ l₃. alloc1 ! (λ l₄. alloc1 ! (λ l₅. alloc1 ! (λ l₆. alloc0 ! $ params1 ! $
            pass1 ! (init ! 9 refl (T.typed 𝓛 d _ is).0) $ move ! (8 ∷ []) $ pass_all ! 0 tt Ps bs y iy (after l₃ l₄ l₅ l₆) $
            -- [the parameters' locals; the copy; …; the reference; …; the answer; …; what is lent; …; _1; …; room for _0; …]
            assigns ! (of_opd ! (load ! (from ! (stop !)) (look ! 9 refl))) (found ! (spot_past 𝓤 H Ps bs (after l₃ l₄ l₅ l₆) 0) (stop !)) (init ! 7 refl (T.typed 𝓛 d _ is).0) $
            assigns ! (addr ! (found ! (spot_past 𝓤 H Ps bs (after l₃ l₄ l₅ l₆) 0) (stop !))) (found ! (spot_past 𝓤 H Ps bs (after l₃ l₄ l₅ l₆) 2) (stop !)) (init ! 3 refl (tt, tt)) $
            -- a lifetime is made, and the local is lent for it
            move ! (7 ∷ []) $ use1 𝓛 (‵ ((mem (row T)).own_at d l₃ 0)) (lies T 𝓛 l₃ d is) $ lft_new ! tt (λ α. move ! (1 ∷ []) $
            use1 𝓛 (later (some (λ (γ : GName). ‵ ((MutRef (named 0) (α ∷ []) (row T)).own_val (x l₃ γ) (vptr l₃ 0 ∷ [])) ⊛ ‵ (flent (α ∷ []) (InMemory (mem (row T)) l₃ 0 γ))))) (lends_ref 𝓛 (row T) (named 0) (α ∷ []) d l₃ 0) $ await ! tt $ pick ! (λ γ. split ! $
            move ! (2 ∷ 0 ∷ []) $ use2 𝓛 (raw ((Behind T O R Ps f 𝓤 𝓛).pre (call_at α l₃ γ))) (asked α l₃ γ) $
            -- [what the callee asks; the lender's part; the parameters' locals; the copy; …; the reference; …; the answer; …; that what is lent dies; _1; …; room for _0; …]
            calls_at ! fm (Behind T O R Ps f 𝓤 𝓛) known (call_at α l₃ γ) (and_then ! (load ! (found ! (spot_past 𝓤 H Ps bs (after l₃ l₄ l₅ l₆) 2) (stop !)) (look ! 5 refl)) (reads_all ! 2 1 (α ∷ [], tt) 2 Ps bs z (from-later 𝓤 H (result_ty T O R, l₀) ((T.ty, l₁) ∷ env Ps bs (after l₃ l₄ l₅ l₆)) 1 Ps bs (from-later 𝓤 H (T.ty, l₁) (env Ps bs (after l₃ l₄ l₅ l₆)) 0 Ps bs (from_start 𝓤 H Ps bs (after l₃ l₄ l₅ l₆)))) refl)) (λ u.
            use1 𝓛 (later (some (λ (a : O.D). ((‵ (flft (α ∷ []) full_share) ⊛ ‵ ftrue) ⊛ ‵ (O.own a (u ∷ []))) ⊛ raw (ensured 𝓛 (behind-ended T O R Ps) (behind-clauses T O R Ps f 𝓤) (α ∷ [], tt) (x l₃ γ, z₁ α) tt a)))) (id⊢ 𝓤 _) $ await ! tt $ pick ! (λ a.
            -- what the callee ensures, at some last value; the borrow that it hands back is let go
            split ! $ move ! (1 ∷ []) $ use1 𝓛 (some (λ (ws : T.D × Fins (α ∷ [], tt) (slots 1 Ps) (keeps 1 Ps) (z₁ α)). ‵ (lasts (behind-ended T O R Ps) (α ∷ [], tt) (x l₃ γ, z₁ α) ws) ⊛ raw (fact 𝓤 (R.both ws.0 a ≡ apply Ps (f d) (of 1 (α ∷ [], tt) Ps (z₁ α)))))) (id⊢ 𝓤 _) $ pick ! (λ ws.
            split ! $ move ! (1 ∷ []) $ heard ! (R.both ws.0 a ≡ apply Ps (f d) (of 1 (α ∷ [], tt) Ps (z₁ α))) (λ e. fsplit ! $ fsplit ! $ move ! (1 ∷ []) $ drop ! $ move ! (2 ∷ []) $ split ! $ move ! (1 ∷ []) $
            peeks ! (row O) (Is (row O)) (shows 𝓛 (row O)) a (u ∷ []) (λ ib. drop ! $
            -- [the token; the last value; …; the lender's part; the parameters' locals; the copy; …; the reference; …; the answer; …; that what is lent dies; _1; …; room for _0; …]
            land ! (found ! (spot_past 𝓤 H Ps bs (after l₃ l₄ l₅ l₆) 1) (stop !)) (init ! 9 refl (O.typed 𝓛 a _ ib).0) $
            rewrite ! 9 (λ (w : Val). ‵ (fat full_share O.ty l₄ 0 w)) (ap only (O.tells a _ ib)) refl $
            -- the lifetime is ended, and the local is back
            split ! $ lft_end ! tt $ move ! (0 ∷ 4 ∷ 2 ∷ []) $ use3 𝓛 (later (‵ ((mem (row T)).own_at ws.0 l₃ 0))) (ref_back 𝓛 (row T) (α ∷ []) γ ws.0 l₃ 0) $ await ! tt $
            use1 𝓛 (given (Good T ws.0) (‵ (fat full_share T.ty l₃ 0 (T.val ws.0)))) (back T 𝓛 l₃ ws.0) $ learn ! (λ iw.
            -- [what was lent; …; …; the parameters' locals; the copy; …; the reference; …; the answer; …; that what was lent dies; _1; …; room for _0; …]
            assigns ! (of_opd ! (load ! (found ! (spot_past 𝓤 H Ps bs (after l₃ l₄ l₅ l₆) 0) (stop !)) (look ! 0 refl))) (found ! (spot_past 𝓤 H Ps bs (after l₃ l₄ l₅ l₆) 3) (stop !)) (init ! 4 refl (T.typed 𝓛 ws.0 _ iw).0) $
            assigns ! (agg ! (and_then ! (load ! (found ! (spot_past 𝓤 H Ps bs (after l₃ l₄ l₅ l₆) 3) (stop !)) (look ! 4 refl)) (and_then ! (load ! (found ! (spot_past 𝓤 H Ps bs (after l₃ l₄ l₅ l₆) 1) (stop !)) (look ! 8 refl)) (no_more !)))) (from ! (stop !))
            (init ! 13 refl (R.typed 𝓛 (R.both ws.0 a) _ (R.joined ws.0 a iw (subst (Is (row O) a) (O.tells a _ ib) ib))).0) $
            returns ! (look ! 13 refl) $ forget ! 0 refl $ forget ! 4 refl $ forget ! 6 refl $ forget ! 8 refl $ forget ! 11 refl $ forget ! 13 refl $
            move ! (13 ∷ 14 ∷ []) $ free1 ! $ move ! (11 ∷ 12 ∷ []) $ free1 ! $ move ! (3 ∷ []) $ forget-all ! Ps bs z $ free_all ! Ps bs $ move ! (0 ∷ 9 ∷ []) $ free1 ! $ move ! (6 ∷ 7 ∷ []) $ free1 ! $ move ! (4 ∷ 5 ∷ []) $ free1 ! $ move ! (2 ∷ 3 ∷ []) $ free1 ! $ free0 ! $
            keep ! [] $ by ! (exits ws.0 a (e ∙ ap (apply Ps (f d)) (of-to 1 (α ∷ [], tt) Ps z)) iw (subst (Is (row O) a) (O.tells a _ ib) ib)))))))))))))))))

    walks : {M : Type 1} {𝓤 : Ura M} (𝓛 : Logic 𝓤) (C : Calls 𝓤 𝓛.H) (Λ : Loops 𝓤 𝓛.H) → FmC 𝓤 𝓛.H 𝓛.laws C → Triple 𝓤 (C #callee) (Behind T O R Ps f 𝓤 𝓛)
        → Walks 𝓛 (by-value-ended T O R Ps) stayed (WpFn 𝓤 𝓛.H C Λ function) (by-value-clauses T O R Ps f 𝓤)
    walks {𝓤 = 𝓤} 𝓛 C Λ fm known = walked 𝓛 (by-value-ended T O R Ps) stayed (by-value-clauses T O R Ps f 𝓤) (WpFn 𝓤 𝓛.H C Λ function) (λ κs. (vals T, spells 0 κs Ps)) (λ κs. (T.tells, tells 0 κs Ps))
        (λ κs qs bounds a g are. via 𝓤 _ (fst∗ 𝓤 _ (emp 𝓤)) (walk 𝓛 a.0 are.0 a.1 (goods-of 0 κs Ps a.1 are.1) C Λ fm known))

    -- a function `call_here` with this code, where its callee's routine meets the contract through a reference: it meets the contract c that the program states, if c follows from what the callee tells
    pub here : (c : Stated (by-value-ended T O R Ps)) → Holds T O R Ps f c → {M : Type 1} {𝓤 : Ura M} (𝓛 : Logic 𝓤) (𝓜 : Model 𝓤 𝓛.H) (𝓡 : Running 𝓤 𝓛.H 𝓜) (γ : Env) (#call : Callee)
        → Closed 𝓤 𝓛.H (tables 𝓤 𝓛.H 𝓜 𝓡 γ).C (tables 𝓤 𝓛.H 𝓜 𝓡 γ).Λ #call function → (callee : Routine) → γ #callee ≡ callee → Triple 𝓤 (𝓡.run callee) (Behind T O R Ps f 𝓤 𝓛)
        → Meets 𝓛 (by_value T O R Ps) (𝓡.run (γ #call)) (closing 𝓛 (by-value-ended T O R Ps) (c M 𝓤 𝓛 𝓜.mem 𝓡.returns))
    unfolding tables_of
    here c holds {M} {𝓤 = 𝓤} 𝓛 𝓜 𝓡 γ #call unfolded callee is known =
        let 𝓣 : Tables 𝓤 𝓛.H = tables_of 𝓤 𝓛.H 𝓜 (tables 𝓤 𝓛.H 𝓜 𝓡 γ) in
        entered 𝓤 𝓛.H (triple_of 𝓛 (by_value T O R Ps) (closing 𝓛 (by-value-ended T O R Ps) (c M 𝓤 𝓛 𝓜.mem 𝓡.returns))) 𝓣.C 𝓣.Λ #call function unfolded
        (as-stated (by-value-ended T O R Ps) (Answers T O R Ps f) c holds 𝓛 𝓜.mem 𝓡.returns (WpFn 𝓤 𝓛.H 𝓣.C 𝓣.Λ function) (WpFn-mono 𝓤 𝓛.H 𝓛.laws 𝓣 function)
        (walk_Meets 𝓛 (by-value-ended T O R Ps) stayed (Goes-dropped 𝓛 0 (plain (λ _. row T)) kept (λ κs x f. refl), goes 0 𝓛 Ps) (by-value-clauses T O R Ps f 𝓤) (WpFn 𝓤 𝓛.H 𝓣.C 𝓣.Λ function) (WpFn-mono 𝓤 𝓛.H 𝓛.laws 𝓣 function)
        (walks 𝓛 𝓣.C 𝓣.Λ (fm_of 𝓤 𝓛.H 𝓛.laws 𝓣) (cited 𝓤 𝓛.H (Behind T O R Ps f 𝓤 𝓛) 𝓜 𝓡 γ #callee callee is known))))
