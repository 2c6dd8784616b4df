-- Text put piece by piece, and the room that is left for the rest. Assumes nothing.
use Rattle.std.specs.Prelude.{ℕ, ◌+◌, ◌≤◌, ◌≡◌, refl, List, [], ◌∷◌, ◌++◌, length, set}
use Rattle.std.proofs.Common.{ap, ◌∙◌, arith, length-append}
use lib.Seq.{length-sets}
use Rattle.decimal.specs.Put.{Put, put_of}
use Rattle.decimal.proofs.Puts.{put-more}

-- the text stands at `at` of what were the bytes l: they are m now, and what follows goes to `next`
abbrev pub Puts : List ℕ → List ℕ → ℕ → ℕ → List ℕ → Type 0
Puts text l at next m = ◌≡◌ {A = Put} (record { next = next; cells = m }) (put_of text l at)

pub first-room : (a b : List ℕ) (at : ℕ) {k : ℕ} → at + length (a ++ b) ≤ k → at + length a ≤ k
first-room a b at h = omega (arith, length-append a b)

module _ (a l : List ℕ) (at : ℕ) {next : ℕ} {m : List ℕ} (p : Puts a l at next m) where
  pub next-is : next ≡ at + length a
  next-is = ap (λ (x : Put). x.next) p

  pub kept : length m ≡ length l
  kept = ap (λ (x : Put). length x.cells) p ∙ length-sets l at a

  pub rest-room : (b : List ℕ) → at + length (a ++ b) ≤ length l → next + length b ≤ length m
  rest-room b h = omega (arith, length-append a b, next-is, kept)

  pub then : (b : List ℕ) {end : ℕ} {n : List ℕ} → Puts b m next end n → Puts (a ++ b) l at end n
  then b q = q ∙ put-more a b l at p

-- four bytes
pub four : (l : List ℕ) (at a b c d : ℕ) → Puts (a ∷ b ∷ c ∷ d ∷ []) l at (at + 4) (set (set (set (set l at a) (at + 1) b) (at + 2) c) (at + 3) d)
four l at a b c d =
    let two : at + 2 ≡ at + 1 + 1 = omega arith in
    let three : at + 3 ≡ at + 1 + 1 + 1 = omega arith in
    let end : at + 4 ≡ at + 1 + 1 + 1 + 1 = omega arith in
    let l₁ = set l at a in
    let l₂ = set l₁ (at + 1) b in
    let l₃ = set l₂ (at + 1 + 1) c in
    (λ i. record { next = end i; cells = set (set l₂ (two i) c) (three i) d })
    ∙ then (a ∷ []) l at refl (b ∷ c ∷ d ∷ [])
    (then (b ∷ []) l₁ (at + 1) refl (c ∷ d ∷ []) (then (c ∷ []) l₂ (at + 1 + 1) refl (d ∷ []) refl))
