-- A chain of steps, one after the other: what is done, and what is left. Assumes nothing.
use Rattle.std.specs.Prelude.{◌≡◌, Bool, true, false, ◌||◌, List, [], ◌∷◌}
use Rattle.std.proofs.Common.{sym, ap, ◌∙◌}
use Rattle.rules.specs.Sets.{Chutes}
use Rattle.rules.specs.Pass.{Swept, still, next, chain}
use Rattle.rules.proofs.Tests.{or-false, or_assoc}

-- what is still to come, after steps that have changed something or not
abbrev pub further : Bool → Swept → Swept
further c r = record { domains = r.domains; changed = c || r.changed; consistent = r.consistent }

module _ {M : Type 0} (f : M → List Chutes → Swept) (x : M) (xs : List M) (c : Bool) (all : Swept) (es : List Chutes) (so : all ≡ further c (chain f (x ∷ xs) es)) where
  pub idle : f x es ≡ still es → all ≡ further c (chain f xs es)
  idle e = so ∙ ap (λ (r : Swept). further c (next r (λ ds. chain f xs ds))) e

  module _ (r : Swept) (e : r ≡ f x es) where
    pub on : r.consistent ≡ true → all ≡ further (c || r.changed) (chain f xs r.domains)
    on t = so ∙ ap (λ (q : Swept). further c (next q (λ ds. chain f xs ds))) (sym e) ∙ rw (t, or_assoc)

    pub stop : r.consistent ≡ false → all ≡ record { domains = r.domains; changed = c || r.changed; consistent = false }
    stop t = so ∙ ap (λ (q : Swept). further c (next q (λ ds. chain f xs ds))) (sym e) ∙ rw t

pub end : {M : Type 0} (f : M → List Chutes → Swept) (c : Bool) (all : Swept) (es : List Chutes) → all ≡ further c (chain f [] es) → all ≡ record { domains = es; changed = c; consistent = true }
end f c all es so = so ∙ rw or-false
