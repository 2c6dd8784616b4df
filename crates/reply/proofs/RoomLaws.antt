-- Answers that have room in their code: a refusal whose place has, how many values a domain holds, and a value of a domain whose ends are i32
-- numbers. Assumes nothing.
use Rattle.std.specs.Prelude.{◌≡◌, true, [], ◌∷◌, ◌≤◌, ◌<◌, ◌^◌, T, ℤ, length}
use Rattle.std.specs.Int.{w32}
use Rattle.std.proofs.Common.{sym, subst, arith, SFits}
use Rattle.std.proofs.lemmas.Nat.{ones-le}
use Rattle.rules.specs.Board as rules
use Rattle.rules.specs.Sets.{Chutes, has}
use Rattle.rules.specs.Refusals.{place_of}
use Rattle.rules.specs.declared.Refusal.{Refusal}
use Rattle.rules.specs.declared.Refusal.TheVariants.{Broken, Empty}
use Rattle.rules.proofs.SetLaws.{has-head}
use Rattle.mask.specs.Val.{val}
use Rattle.offset.specs.Universe.{value_in}
use Rattle.domain.specs.Set.{set_of, width, well}
use Rattle.domain.specs.Calls.{only_of}
use Rattle.domain.specs.declared.BitDomain.{BitDomain}
use Rattle.domain.proofs.Laws.{values-offset}
use Rattle.domain.proofs.Places.{well-width, well-fits, well-in}
use Rattle.domain.proofs.Ends.{size-ones}
use Rattle.board_ask.specs.Answers.{chute_of}
use Rattle.reply.specs.Told.{Kind, chute, Of, chute-of, denied-of}

-- ---- refusals

pub refused-of : {k : Kind} (r : Refusal) → place_of r < 2 ^ 56 → Of k (rules.denied r)
refused-of r l = denied-of {r = r} l

pub broken-of : {k : Kind} → Of k (rules.denied Broken)
broken-of = refused-of Broken (omega arith)

-- ---- what a domain holds

pub few-held : (d : BitDomain) → well d ≡ true → length (set_of d) ≤ 128
few-held d w = omega (arith, size-ones d.min d.mask, ones-le (width d) (val d.mask) (well-fits d w), well-width d w)

-- its ends are i32 numbers, and so is each value
pub held_fits : (d : BitDomain) → well d ≡ true → SFits w32 d.min → SFits w32 d.max → (x : ℤ) → T (has x (set_of d)) → SFits w32 x
held_fits d w f g x h =
    let r = values-offset d.min d.mask x h in
    subst (λ (z : ℤ). SFits w32 z) (sym r.1) (value_in d.min d.max r.0 f g (well-in d w r.0 r.2))

pub only_of_lem : (s : Chutes) → ((x : ℤ) → T (has x s) → SFits w32 x) → Of chute (chute_of (only_of s))
only_of_lem [] fit = refused-of Empty (omega arith)
only_of_lem (x ∷ []) fit = chute-of {v = x} (fit x (has-head x []))
only_of_lem (x ∷ y ∷ s) fit = refused-of Empty (omega arith)
