-- Marks on a small board, run. Assumes nothing.
use Rattle.std.specs.Prelude.{◌≡◌, refl, true, false, [], ◌∷◌}
use Rattle.mask.specs.Val.{val}
use Rattle.offset.specs.Places.{span_of}
use Rattle.rules.specs.declared.Refusal.TheVariants.{Broken, TooDeep, NoMark}
use Rattle.domain.specs.Set.{well}
use Rattle.saved.specs.Saved.{saved_at, put_at}
use Rattle.board.specs.Well.{well_parts}
use Rattle.board.specs.Answers.{done, denied}
use Rattle.board.specs.Examples.{pair, two, ill}
use Rattle.board.specs.declared.Board.{Board}
use Rattle.trial.specs.Marks.{mark_of, restore_of, keep_of}

-- the domains of `two` are saved, a word at each second place
saved-both : mark_of two ≡ done (pair 7 3 1 (7 ∷ 0 ∷ 3 ∷ 0 ∷ []) false)
unfolding mark_of well_parts well span_of val put_at
saved-both = refl

-- after that mark 20 lost 2 and 21 both, and the flag was set
abbrev tried : Board
tried = pair 5 0 1 (7 ∷ 0 ∷ 3 ∷ 0 ∷ []) true

-- the domains come back, and the flag stays
undone : restore_of tried ≡ done (pair 7 3 0 (7 ∷ 0 ∷ 3 ∷ 0 ∷ []) true)
unfolding restore_of well_parts well span_of val saved_at
undone = refl

left_so : keep_of tried ≡ done (pair 5 0 0 (7 ∷ 0 ∷ 3 ∷ 0 ∷ []) true)
unfolding keep_of well_parts well span_of val saved_at
left_so = refl

no-mark : restore_of two ≡ denied two NoMark
unfolding restore_of well_parts well span_of val
no-mark = refl

nothing-kept : keep_of two ≡ denied two NoMark
unfolding keep_of well_parts well span_of val
nothing-kept = refl

-- eight marks that saved nothing
ninth : mark_of (pair 7 3 8 [] false) ≡ denied (pair 7 3 8 [] false) TooDeep
unfolding mark_of well_parts well span_of val saved_at
ninth = refl

-- broken comes before the marks' own refusals
refused : restore_of ill ≡ denied ill Broken
unfolding restore_of well_parts well span_of val
refused = refl
