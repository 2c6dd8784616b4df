-- The listed domains, as they are gathered: of each place the smallest value of its universe, and its mask.
use Rattle.std.specs.Prelude.{◌≡◌, refl, true, false, not, ◌&&◌, List, [], ◌∷◌, ℕ, zero, suc, ◌<◌, T, Option, eqb, get_or, ℤ, pos, negsuc, ◌+ℤ◌}
use Rattle.std.specs.Int.Count.{ones}
use Rattle.std.specs.Int.{w32}
use Rattle.std.proofs.Common.{SFits}
use Rattle.std.specs.declared.option.Option.TheVariants.{None, Some}
use Rattle.mask.specs.Val.{val, offsets}
use Rattle.mask.specs.declared.Mask.{Mask}
use Rattle.mask.specs.Sets.{In, members_from, members_in}
use Rattle.rules.specs.Sets.{Chutes, has, some, strike}
use Rattle.rules.specs.Pass.{Places, Swept, lost}
use Rattle.domain.specs.Set.{values_of}
use Rattle.masks.specs.Cells.{Room, mask_at, Same}
use Rattle.rules.specs.declared.Pair.{Pair}

-- f 0, f 1, .., of n places
abbrev pub tabulate : {A : Type 0} → (ℕ → A) → ℕ → List A
tabulate f zero = []
tabulate f (suc n) = f 0 ∷ tabulate (λ k. f (suc k)) n

-- the domain at a place
abbrev pub domain_at : List ℤ → List Mask → ℕ → Chutes
domain_at mins ws p = values_of (get_or mins p (pos 0)) (mask_at ws p)

-- the first n domains, in list order
unfoldable pub listed : List ℤ → List Mask → ℕ → List Chutes
listed mins ws n = tabulate (domain_at mins ws) n

-- the universes of the first n places start at lo
abbrev pub Level : ℤ → List ℤ → ℕ → Type 0
Level lo mins n = (p : ℕ) → p < n → get_or mins p (pos 0) ≡ lo

-- which of the first n places are assigned
unfoldable pub assigned : List Mask → ℕ → Places
assigned ws n = tabulate (λ p. eqb (ones (val (mask_at ws p))) 1) n

-- two masks of low words
abbrev low_two : List Mask
low_two = record { lo = 5; hi = 0 } ∷ record { lo = 2; hi = 0 } ∷ []

-- by example: 5 and 7, over a universe from 5 on, and 0, over one from -1 on
two-listed : listed (pos 5 ∷ negsuc 0 ∷ []) low_two 2 ≡ (pos 5 ∷ pos 7 ∷ []) ∷ (pos 0 ∷ []) ∷ []
unfolding listed values_of val members_from members_in
two-listed = refl

second-assigned : assigned low_two 2 ≡ false ∷ true ∷ []
unfolding assigned val ones
second-assigned = refl

-- what was swept: the domains, and what is told of it
abbrev pub swept : Pair → List Chutes → Swept
swept o ds = record { domains = ds; changed = o.changed; consistent = o.consistent }

-- each value of the first n domains is an i32
abbrev pub Within32 : List ℤ → List Mask → ℕ → Type 0
Within32 mins ws n = (p k : ℕ) → p < n → In (val (mask_at ws p)) k → SFits w32 (get_or mins p (pos 0) +ℤ pos k)

-- from place n on nothing has changed, and nowhere has a value come in
pub record Left (n : ℕ) (before after : List Mask) : Type 0 where
  pub room : Room after
  pub past : Same n after before
  pub fewer : (p k : ℕ) → In (val (mask_at after p)) k → In (val (mask_at before p)) k

-- v is held at an offset, over a universe from lo on, or isn't held
abbrev pub HeldAt : Mask → ℤ → ℤ → Option ℕ → Type 0
HeldAt m lo v (Some k) = (k < offsets) × (v ≡ lo +ℤ pos k) × In (val m) k
HeldAt m lo v None = T (has v (values_of lo m)) → ⊥

-- u was struck from the domain at place q, over a universe from lo on, and no other place has changed
pub record Struck (u : Chutes) (lo : ℤ) (q : ℕ) (before after : List Mask) (o : Pair) : Type 0 where
  pub room : Room after
  pub others : (p : ℕ) → (p ≡ q → ⊥) → mask_at after p ≡ mask_at before p
  pub left : values_of lo (mask_at after q) ≡ strike u (values_of lo (mask_at before q))
  pub changed : o.changed ≡ lost (values_of lo (mask_at after q)) (values_of lo (mask_at before q))
  pub consistent : o.consistent ≡ not (lost (values_of lo (mask_at after q)) (values_of lo (mask_at before q)) && not (some (values_of lo (mask_at after q))))
