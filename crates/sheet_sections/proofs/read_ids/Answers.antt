-- `sheet_sections::read_ids` meets its contract. The invariant: the ids read so far stand in the run from `used` on, and what the whole line
-- gives is these and what the rest of it gives. Assumes nothing.
use Rattle.std.specs.Prelude.{ℕ, ◌-◌, ◌+◌, ◌≡◌, refl, List, [], ◌∷◌, ◌++◌, length, set, Result}
use Rattle.std.proofs.Common.{ap, ap₂, sym, ◌∙◌, arith}
use Rattle.std.proofs.Math.Nat.{sub-zero}
use Rattle.sheet_number.specs.Number.{got, fault}
use Rattle.sheet_number.specs.Reader.{natural, field}
use Rattle.sheet_number.proofs.Readers.{passed}
use Rattle.sheet_number.specs.declared.Stop.{Stop}
use Rattle.sheet_sections.specs.Sections.{listed}
use Rattle.sheet_sections.specs.Rows.{before}
use Rattle.sheet_sections.proofs.Arrays.{sets-snoc, sofar-none, sofar-fault, sofar-more, sofar-all}
use Rattle.sheet_sections.proofs.OneRun.{before_more, before-stop, before-done, stored_is}
use Rattle.sheet_sections.proofs.read_ids.Goals as goal

pub loop-i-init : goal.loop-i-init
loop-i-init c =
    let a = c.args in
    let s = a.s.now in (
      [],
      sofar-none listed s a.at a.count,
      refl,
      ap (λ (k : ℕ). before listed k s a.at) (sym (sub-zero a.count)),
    )

pub returns-in_err-n : goal.returns-in_err-n
returns-in_err-n c =
    let l = c.loop-i in
    let a = c.args in
    let s = a.s.now in
    let v = l.invariant in
    let e = c.in_err-n.field-0.0 in
    let f : listed (a.count - (l.i + 1)) s l.place ≡ fault e.fault e.at =
    ap (λ (b : ℕ). field (natural 0 4294967295) b s l.place) (sym c.gap_after-b.ensures) ∙ sym c.in_err-n.ensures in
    ap (λ (r : Result ℕ Stop). record { end = r; cells = l.ids }) (passed c.from_residual.result e c.from_residual.ensures.1)
    ∙ stored_is a.count s a.at a.ids.now a.used (fault e.fault e.at) l.ids v.0
    (sofar-fault v.1 (omega arith) e.fault e.at f)
    v.2
    (before-stop listed s _ a.count l.i v.0 l.place v.3 e.fault e.at (omega arith) f)

pub loop-i-preserved : goal.loop-i-preserved
loop-i-preserved c =
    let l = c.loop-i in
    let a = c.args in
    let s = a.s.now in
    let v = l.invariant in
    let f : listed (a.count - (l.i + 1)) s l.place ≡ got c.in_ok-n.n c.in_ok-n.e =
    ap (λ (b : ℕ). field (natural 0 4294967295) b s l.place) (sym c.gap_after-b.ensures) ∙ sym c.in_ok-n.ensures in
    let j : a.used + l.i ≡ a.used + length v.0 = omega (arith, v.1.many) in (
      v.0 ++ (c.in_ok-n.n ∷ []),
      sofar-more v.1 (omega arith) c.in_ok-n.n c.in_ok-n.e f,
      ap₂ (λ (x : List ℕ) (k : ℕ). set x k c.in_ok-n.n) v.2 j ∙ sets-snoc v.0 a.ids.now a.used c.in_ok-n.n,
      before_more listed s _ a.count l.i v.0 l.place v.3 c.in_ok-n.n c.in_ok-n.e (omega arith) f,
    )

pub returns : goal.returns
returns c =
    let a = c.args in
    let s = a.s.now in
    let l = c.loop-i in
    let v = l.invariant in
    stored_is a.count s a.at a.ids.now a.used (got v.0 l.place) l.ids v.0
    (sofar-all v.1 (omega arith)).0
    v.2
    (before-done listed s _ a.count l.i v.0 l.place v.3 (omega arith))
