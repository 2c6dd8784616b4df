-- `decimal::put_natural` meets its contract: it recurses as the digits do, those of a tenth of n first, then the last.
use Rattle.std.specs.Prelude.{List, ℕ, ◌+◌, ◌/◌, ◌%◌, length}
use Rattle.std.proofs.Common.{ap, sym, ◌∙◌, arith}
use Rattle.decimal.specs.Decimal.{last_digit, natural}
use Rattle.decimal.specs.Put.{Put, put_of}
use Rattle.decimal.proofs.Digits.{natural-small, natural-step, size_step}
use Rattle.decimal.proofs.Puts.{put_byte, put-more}
use Rattle.decimal.proofs.+put_natural.Goals as goal

pub bounds-out-at : goal.bounds-out-at
bounds-out-at t c = omega (arith, ap length (natural-small c.args.n (omega arith)))

pub put_natural-last-requires : goal.put_natural-last-requires
put_natural-last-requires t c =
    let l = size_step c.args.n (omega arith) in
    (omega (arith, c.decreases), omega (arith, c.requires))

pub bounds-out-last : goal.bounds-out-last
bounds-out-last t c =
    let l = size_step c.args.n (omega arith) in
    omega (arith, c.requires, c.put_natural-last.auto.out, ap (λ (p : Put). p.next) c.put_natural-last.ensures)

pub overflow_add-result-else-n-lt10 : goal.overflow_add-result-else-n-lt10
overflow_add-result-else-n-lt10 t c =
    let l = size_step c.args.n (omega arith) in
    omega (arith, c.requires, c.well_formed, ap (λ (p : Put). p.next) c.put_natural-last.ensures)

pub returns-then-n-lt10 : goal.returns-then-n-lt10
returns-then-n-lt10 t c =
    let a = c.args in
    put_byte (48 + a.n) a.out.now a.at ∙ ap (λ (s : List ℕ). put_of s a.out.now a.at) (sym (natural-small a.n (omega arith)))

pub returns-else-n-lt10 : goal.returns-else-n-lt10
returns-else-n-lt10 t c =
    let a = c.args in
    let p = c.put_natural-last in
    put_byte (48 + a.n % 10) p.new.out p.result
    ∙ put-more (natural (a.n / 10)) (last_digit a.n) a.out.now a.at p.ensures
    ∙ ap (λ (s : List ℕ). put_of s a.out.now a.at) (sym (natural-step a.n (omega arith)))
