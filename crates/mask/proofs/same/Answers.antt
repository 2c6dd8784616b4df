-- `mask::same` meets its contract: two numbers are equal just where their words are. Assumes nothing.
use Rattle.std.specs.Prelude.{◌≡◌, refl, true, ◌&&◌, List, ℕ, eqb, get_or}
use Rattle.std.proofs.Common.{ap, ◌∙◌, rules, eqb-true, eq-eqb}
use Rattle.std.proofs.lemmas.Bool.{and_parts, and_from}
use Rattle.mask.specs.Tests.{same_test}
use Rattle.mask.specs.Val.{val, words_of}
use Rattle.mask.specs.Words.{Words, value_of, words-inj, cons-eq, last-eq}
use Rattle.mask.specs.declared.Mask.{Mask}
use Rattle.mask.proofs.same.Goals as goal

words_same : (m n : Mask) → Words (words_of m) → Words (words_of n) → (eqb m.lo n.lo && eqb m.hi n.hi) ≡ eqb (val m) (val n)
unfolding val
words_same m n hm hn = same_test (eqb m.lo n.lo && eqb m.hi n.hi) (eqb (val m) (val n)) there back
  where
    there : (eqb m.lo n.lo && eqb m.hi n.hi) ≡ true → eqb (val m) (val n) ≡ true
    there t =
        let both = and_parts (eqb m.lo n.lo) (eqb m.hi n.hi) t in
        eq-eqb (val m) (val n) (ap value_of (cons-eq (eqb-true m.lo n.lo both.0) (last-eq (eqb-true m.hi n.hi both.1))))

    back : eqb (val m) (val n) ≡ true → (eqb m.lo n.lo && eqb m.hi n.hi) ≡ true
    back t =
        let e : words_of m ≡ words_of n = words-inj (words_of m) (words_of n) refl hm hn (eqb-true (val m) (val n) t) in
        and_from (eqb m.lo n.lo) (eqb m.hi n.hi) (eq-eqb m.lo n.lo (ap (λ (l : List ℕ). get_or l 0 0) e)) (eq-eqb m.hi n.hi (ap (λ (l : List ℕ). get_or l 1 0) e))

pub returns : goal.returns
returns c = c.eq.ensures ∙ words_same c.args.m c.args.n (search rules) (search rules)
