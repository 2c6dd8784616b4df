-- A batch on a small board, run: each closing meets what those before it left. Assumes nothing.
use Rattle.std.specs.Prelude.{◌≡◌, refl, true, List, [], ◌∷◌, ℕ, pos, replicate}
use Rattle.std.specs.declared.result.Result.TheVariants.{Ok, Err}
use Rattle.mask.specs.Val.{val, mask_of}
use Rattle.mask.specs.Sets.{members_from, members_in}
use Rattle.offset.specs.Places.{span_of}
use Rattle.rules.specs.declared.Refusal.TheVariants.{Broken}
use Rattle.domain.specs.Set.{values_of, well, bits_of}
use Rattle.closing.specs.declared.Closing.{Closing}
use Rattle.closing.specs.declared.Kind.{Kind}
use Rattle.closing.specs.declared.Kind.TheVariants.{Remove, Assign, Below}
use Rattle.board.specs.Well.{well_parts}
use Rattle.board.specs.Examples.{pair, two, ill}
use Rattle.board_close.specs.Close.{close_of}
use Rattle.batch.specs.Batch.{batch_of}

abbrev closing : Kind → ℕ → ℕ → Closing
closing k i v = record { kind = k; id = record { 0 = i }; value = record { 0 = pos v } }

-- yes; no, for 1 is gone; no, for 99 isn't registered; yes
abbrev four : List Closing
four = closing Remove 20 1 ∷ closing Below 20 2 ∷ closing Remove 99 2 ∷ closing Assign 21 2 ∷ []

closed : batch_of two four ≡ record { board = pair 6 2 0 (replicate 4 0) true; answer = Ok 2 }
unfolding batch_of close_of well_parts well span_of val values_of bits_of mask_of members_from members_in
closed = refl

refused : batch_of ill four ≡ record { board = ill; answer = Err Broken }
unfolding batch_of well_parts well span_of val
refused = refl
