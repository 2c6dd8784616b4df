-- The pass from its two steps, case by case. Assumes nothing.
use Rattle.std.specs.Prelude.{◌≡◌, Bool, true, false, ◌&&◌, ◌||◌, cond, List, ◌<◌, ◌≤◌, leb, length}
use Rattle.std.proofs.Common.{sym, ap, ◌∙◌, le-leb}
use Rattle.std.proofs.lemmas.Bool.{lt-leb}
use Rattle.rules.proofs.Tests.{or-false}
use Rattle.rules.specs.Sets.{Chutes}
use Rattle.rules.specs.Pass.{Swept, still, step1, step2, pass, raises}

-- the two steps together
abbrev joint : Swept → Swept → Swept
joint r h = record { domains = h.domains; changed = r.changed || (h.consistent && h.changed); consistent = h.consistent }

abbrev after : Swept → Swept
after r = cond r.consistent (joint r (step2 r.domains)) r

-- a list of more than 6 ids has no second step
pub long-list : (ds : List Chutes) → 6 < length ds → step2 ds ≡ still ds
unfolding step2
long-list ds h = let e : leb (length ds) 6 ≡ false = lt-leb (length ds) 6 h in rw e

module _ (ds : List Chutes) where
  -- at most one id
  pub short : length ds ≤ 1 → (pass ds ≡ still ds) × (raises ds ≡ false)
  unfolding pass raises
  short h = let e : leb (length ds) 1 ≡ true = le-leb (length ds) 1 h in (rw e, rw e)

  module _ (long : 1 < length ds) (one : Swept) (first : one ≡ step1 ds) where
    more : leb (length ds) 1 ≡ false
    more = lt-leb (length ds) 1 long

    steps : pass ds ≡ after one
    unfolding pass
    steps = ap (λ (b : Bool). cond b (still ds) (after (step1 ds))) more ∙ ap after (sym first)

    pub raised : raises ds ≡ one.changed
    unfolding raises
    raised = ap (λ (b : Bool). cond b false (step1 ds).changed) more ∙ ap (λ (r : Swept). r.changed) (sym first)

    pub stopped : one.consistent ≡ false → pass ds ≡ one
    stopped e = steps ∙ ap (λ (b : Bool). cond b (joint one (step2 one.domains)) one) e

    module _ (on : one.consistent ≡ true) where
      pub both : (two : Swept) → two ≡ step2 one.domains → pass ds ≡ joint one two
      both two second = steps ∙ ap (λ (b : Bool). cond b (joint one (step2 one.domains)) one) on ∙ ap (joint one) (sym second)

      -- a long list stays as step 1 left it
      pub long-stays : 6 < length one.domains → pass ds ≡ one
      long-stays h =
          let yes = sym on in
          both (still one.domains) (sym (long-list one.domains h)) ∙ (λ i. record { domains = one.domains; changed = or-false one.changed i; consistent = yes i })
