-- `alldiff::size` meets its contract: the table goes by size, which is computed entry by entry. Assumes nothing.
use Rattle.std.specs.Prelude.{Bool, cond, ltb}
use Rattle.std.proofs.Common.{rules, sym, ap, ◌∙◌, lt-ltb, le-ltb}
use Rattle.alldiff.proofs.Table.{size-at}
use Rattle.alldiff.proofs.size.Goals as goal

pub returns-then-t-lt15 : goal.returns-then-t-lt15
returns-then-t-lt15 c = (sym (size-at c.args.t (search rules) ∙ ap (λ (b : Bool). cond b 2 (cond (ltb c.args.t 35) 3 4)) (lt-ltb c.args.t 15 (search rules))), search rules)

pub returns-then-t-lt35 : goal.returns-then-t-lt35
returns-then-t-lt35 c =
    let t = c.args.t in
    (sym (size-at t (search rules) ∙ rw (le-ltb t 15 (search rules), lt-ltb t 35 (search rules))), search rules)

pub returns : goal.returns
returns c =
    let t = c.args.t in
    (sym (size-at t (search rules) ∙ rw (le-ltb t 15 (search rules), le-ltb t 35 (search rules))), search rules)
