-- A text and lent bytes: what `writes` says where they don't suffice, and where they do. Assumes nothing.
use Rattle.std.specs.Prelude.{◌≡◌, List, ◌++◌, ℕ, ◌≤◌, ◌<◌, length, drop}
use Rattle.std.specs.declared.result.Result.TheVariants.{Ok}
use Rattle.std.proofs.Common.{ap, ◌∙◌, arith, le-leb}
use Rattle.std.proofs.lemmas.Bool.{lt-leb}
use Rattle.rules.specs.declared.Refusal.TheVariants.{NoRoom}
use Rattle.domain_text.specs.Text.{writes, refuses}

pub no_room : (text cells : List ℕ) {n : ℕ} → n ≡ length text → length cells < n → refuses NoRoom cells ≡ writes text cells
no_room text cells e h = rw (lt-leb (length text) (length cells) (omega arith))

pub room : (text cells : List ℕ) {n : ℕ} {m : List ℕ} → n ≡ length text → n ≤ length cells → m ≡ text ++ drop n cells → record { answer = Ok n; cells = m } ≡ writes text cells
room text cells {n} {m} e h p =
    let k : m ≡ text ++ drop (length text) cells = p ∙ ap (λ (j : ℕ). text ++ drop j cells) e in
    rw (le-leb (length text) (length cells) (omega arith)) (cc)
