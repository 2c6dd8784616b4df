-- The sheet that was put into arrays is the one that they hold: each list is found where its own ids begin.
use Rattle.std.specs.Prelude.{◌≡◌, refl, List, [], ◌∷◌, ◌++◌, map, ℕ, suc, ◌+◌, ◌*◌, ◌≤◌, length, take, drop, replicate}
use Rattle.std.proofs.Common.{sym, ap, ◌∙◌, append_assoc, arith, length-append, drop_at}
use Rattle.std.proofs.lemmas.List.{length-replicate}
use Rattle.std.proofs.lemmas.List.Edits.{sets-eq}
use lib.Seq.{take-append_seam}
use Rattle.sheet_form.specs.Sheet.{Sheet, All, Few}
use Rattle.sheet_form.specs.Held.{no_destination, no_closing, no_span, filled, joined, spans, parsed_of}
use Rattle.wave_form.specs.Wave.{part, sheet_of, ran_of}

module _ {A : Type 0} where
  filled_is : (n : ℕ) (blank : A) (l : List A) → length l ≤ n → filled n blank l ≡ l ++ drop (0 + length l) (replicate n blank)
  unfolding filled
  filled_is n blank l h = sets-eq l (replicate n blank) 0 (omega (arith, length-replicate n blank))

  pub filled-front : (n : ℕ) (blank : A) (l : List A) → length l ≤ n → take (length l) (filled n blank l) ≡ l
  filled-front n blank l h = ap (take (length l)) (filled_is n blank l h) ∙ take-append_seam l (drop (0 + length l) (replicate n blank))

spans-length : (u : ℕ) (ls : List (List ℕ)) → length (spans u ls) ≡ length ls
unfolding spans
spans-length u [] = refl
spans-length u (l ∷ ls) = ap suc (spans-length (u + length l) ls)

joined-few : (ls : List (List ℕ)) → All (λ (l : List ℕ). length l ≤ 64) ls → length (joined ls) ≤ 64 * length ls
unfolding joined All
joined-few [] a = omega arith
joined-few (l ∷ ls) a = omega (arith, joined-few ls a.1, a.0, length-append l (joined ls))

-- the lists whose ids follow each other from u on
parts-back : (run : List ℕ) (ls : List (List ℕ)) (u : ℕ) (pre post : List ℕ) → run ≡ pre ++ (joined ls ++ post) → length pre ≡ u → map (part run) (spans u ls) ≡ ls
unfolding joined spans
parts-back run [] u pre post e n = refl
parts-back run (l ∷ ls) u pre post e n =
    let here : drop u run ≡ l ++ (joined ls ++ post) = ap (drop u) e ∙ drop_at pre ((l ++ joined ls) ++ post) u n ∙ append_assoc l (joined ls) post in
    let mine : take (length l) (drop u run) ≡ l = ap (take (length l)) here ∙ take-append_seam l (joined ls ++ post) in
    let on : run ≡ (pre ++ l) ++ (joined ls ++ post) = e ∙ ap (λ (k : List ℕ). pre ++ k) (append_assoc l (joined ls) post) ∙ sym (append_assoc pre l (joined ls ++ post)) in
    let rest = parts-back run ls (u + length l) (pre ++ l) post on (length-append pre l ∙ ap (λ (k : ℕ). k + length l) n) in
    λ t. mine t ∷ rest t

module _ (sh : Sheet) (few : Few sh) where
  lists_back : map (part (parsed_of sh).ids) (take (length sh.lists) (filled 16 no_span (spans 0 sh.lists))) ≡ sh.lists
  lists_back =
      let ls = sh.lists in
      let n = spans-length 0 ls in
      let k : length (joined ls) ≤ 1024 = omega (arith, joined-few ls few.ids, few.lists) in
      ap (λ (m : ℕ). map (part (parsed_of sh).ids) (take m (filled 16 no_span (spans 0 ls)))) (sym n)
      ∙ ap (map (part (parsed_of sh).ids)) (filled-front 16 no_span (spans 0 ls) (omega (arith, few.lists)))
      ∙ parts-back (parsed_of sh).ids ls 0 [] (drop (0 + length (joined ls)) (replicate 1024 0)) (filled_is 1024 0 (joined ls) k) refl

  pub sheet-back : sheet_of (parsed_of sh) ≡ sh
  unfolding sheet_of
  sheet-back =
      let ds = filled-front 64 no_destination sh.destinations few.destinations in
      let ks = filled-front 256 no_closing sh.closings few.closings in
      λ t. record { destinations = ds t; closings = ks t; lists = lists_back t }

  -- so what the arrays lead to is what the sheet leads to
  pub ran-back : ran_of (sheet_of (parsed_of sh)) ≡ ran_of sh
  ran-back = ap ran_of sheet-back
