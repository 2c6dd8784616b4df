-- `alldiff::turn` meets its contract: the subset is tight exactly if as many values are gathered as it has places. Assumes nothing.
use Rattle.std.specs.Prelude.{◌≡◌, true, false, ℕ, eqb, Option}
use Rattle.std.specs.Int.Count.{ones}
use Rattle.std.specs.Option.{option_eq}
use Rattle.std.specs.declared.option.Option.TheVariants.{None, Some}
use Rattle.std.proofs.Common.{sym, ap, ◌∙◌, subst, true≢false, eqb-true, eq-eqb, rules}
use Rattle.std.proofs.lemmas.Bool.{not-true, not-false}
use Rattle.rules.specs.Pass.{pick}
use Rattle.rules.specs.Table.{bits}
use Rattle.sweep.specs.Listed.{listed}
use Rattle.sweep.proofs.Turns.{listed-length, left-none}
use Rattle.alldiff.specs.Gather.{gathered, Holds}
use Rattle.alldiff.proofs.Tight.{other-size, same_size}
use Rattle.alldiff.proofs.turn.Goals as goal

-- what the comparison with a number found says
is_some : (o : Option ℕ) (n : ℕ) → option_eq eqb o (Some n) ≡ true → o ≡ Some n
is_some None n e = absurd (true≢false (sym e))
is_some (Some r) n e = ap Some (eqb-true r n e)

is-other : (o : Option ℕ) (n : ℕ) → option_eq eqb o (Some n) ≡ false → o ≡ Some n → ⊥
is-other o n e q = true≢false (sym (eq-eqb n n (λ i. n)) ∙ sym (ap (λ (x : Option ℕ). option_eq eqb x (Some n)) q) ∙ e)

pub returns-then-ne : goal.returns-then-ne
returns-then-ne c =
    let a = c.args in
    let o = c.gather.result in
    let ds = listed a.mins.now a.ms.now a.n in
    let f = λ (q : o ≡ Some (ones a.set)). is-other o a.k (not-true (option_eq eqb o (Some a.k)) (sym c.ne.ensures ∙ c.if-ne.true)) (q ∙ ap Some (sym c.requires.4)) in
    (left-none a.n a.ms.now c.requires.1, sym (other-size a.n a.set ds (listed-length a.mins.now a.ms.now a.n) (search rules) c.gather.new.vals (search rules) o c.gather.ensures f))

pub returns : goal.returns
returns c =
    let a = c.args in
    let o = c.gather.result in
    let vals = c.gather.new.vals in
    let ds = listed a.mins.now a.ms.now a.n in
    let e = is_some o a.k (not-false (option_eq eqb o (Some a.k)) (sym c.ne.ensures ∙ c.if-ne.false)) ∙ ap Some c.requires.4 in
    let g = subst (Holds (gathered (pick (bits a.n a.set) ds)) vals) e c.gather.ensures in
    (c.strike_outside.ensures.0, c.strike_outside.ensures.1 ∙ sym (same_size a.n a.set ds (listed-length a.mins.now a.ms.now a.n) (search rules) vals (search rules) g))
