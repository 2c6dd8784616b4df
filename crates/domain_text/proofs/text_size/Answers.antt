-- `domain_text::text_size` meets its contract: the text is the brackets, the bar, the values, and the commas of the two lists.
use Rattle.std.specs.Prelude.{◌≡◌, ℕ, ◌+◌, ◌-◌, ◌≤◌, ℤ, length}
use Rattle.std.proofs.Common.{sym, ap, ◌∙◌, arith, rules}
use Rattle.offset.specs.Wide.{read32}
use Rattle.rules.specs.Sets.{Chutes}
use Rattle.domain.specs.Set.{values_of}
use Rattle.domain.proofs.Ends.{size-ones}
use Rattle.domain_text.specs.Text.{first_run, text_of, sizes}
use Rattle.domain_text.proofs.Texts.{run-le, text-size}
use Rattle.domain_text.proofs.Room.{longest, text-few}
use Rattle.domain_text.proofs.text_size.Goals as goal

-- what each call counts, and how long the text is
pub record Counts (v : Chutes) (n run sum : ℕ) : Type 0 where
  pub all : n ≡ length v
  pub first : run ≡ first_run v
  pub fewer : first_run v ≤ length v
  pub bytes : sum ≡ sizes v
  pub text : length (text_of v) ≡ 3 + sizes v + (first_run v - 1) + (length v - first_run v - 1)
  pub few : length (text_of v) ≤ longest

counts : (c : goal.After-digits) → Counts (values_of c.args.min c.args.m) c.count-n.result c.first_run-run.result.count c.digits.result
counts c =
    let lo = c.args.min in
    record {
      all = c.count-n.ensures.0 ∙ sym (size-ones lo c.args.m);
      first = (c.first_run-run.ensures lo).0;
      fewer = run-le (values_of lo c.args.m);
      bytes = c.digits.ensures ∙ ap (λ (x : ℤ). sizes (values_of x c.args.m)) (read32 c.ranges.min);
      text = text-size (values_of lo c.args.m);
      few = text-few lo c.args.m c.ranges.min (search rules);
    }

pub overflow_add-result : goal.overflow_add-result
overflow_add-result c = let k = counts c in omega arith

pub overflow_add-result-2 : goal.overflow_add-result-2
overflow_add-result-2 c = let k = counts c.before in omega (arith, c.saturating_sub.ensures)

pub overflow_sub-n : goal.overflow_sub-n
overflow_sub-n c = let k = counts c.before.before in omega arith

pub overflow_add-result-3 : goal.overflow_add-result-3
overflow_add-result-3 c = let k = counts c.before.before.before in omega (arith, c.saturating_sub.ensures, c.saturating_sub-2.ensures)

pub returns : goal.returns
returns c = let k = counts c.before.before.before in omega (arith, c.saturating_sub.ensures, c.saturating_sub-2.ensures)
