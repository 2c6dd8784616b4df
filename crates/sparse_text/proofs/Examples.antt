-- The texts at the ends: nothing held, all held, a universe of none. Assumes nothing.
use Rattle.std.specs.Prelude.{◌≡◌, refl, [], ◌∷◌, pos, negsuc}
use Rattle.decimal.specs.Decimal.{digits, natural, decimal}
use Rattle.sparse_inner.specs.Set.{full}
use Rattle.sparse_text.specs.Text.{before, listed, closing, text_of}

-- [|]
of_none : text_of (full (record { off = pos 5; n = 0; size = 0; min = 0; max = 0 }) [] []) ≡ 91 ∷ 124 ∷ 93 ∷ []
unfolding text_of listed before closing
of_none = refl

-- [|-1,0]
none-held : text_of (full (record { off = negsuc 0; n = 2; size = 0; min = 0; max = 1 }) (0 ∷ 1 ∷ []) (0 ∷ 1 ∷ [])) ≡ 91 ∷ 124 ∷ 45 ∷ 49 ∷ 44 ∷ 48 ∷ 93 ∷ []
unfolding text_of listed before closing decimal natural digits
none-held = refl

-- [-1,0|]
all_held : text_of (full (record { off = negsuc 0; n = 2; size = 2; min = 0; max = 1 }) (0 ∷ 1 ∷ []) (0 ∷ 1 ∷ [])) ≡ 91 ∷ 45 ∷ 49 ∷ 44 ∷ 48 ∷ 124 ∷ 93 ∷ []
unfolding text_of listed before closing decimal natural digits
all_held = refl
