-- `domain_text::put_text` meets its contract: a bracket, the values of the run, the bar, the values that are left without it, a bracket.
use Rattle.std.specs.Prelude.{◌≡◌, List, ℕ, ◌+◌, ◌≤◌, ℤ, length, set, take, drop}
use Rattle.std.specs.Int.Count.{ones}
use Rattle.std.proofs.Common.{sym, ap, ◌∙◌, subst, arith, to_z, of_z, SFits, length-set, take_all}
use Rattle.std.specs.Int.{w32}
use Rattle.decimal.specs.Put.{Put, put_of}
use Rattle.mask.specs.Val.{val}
use Rattle.mask.specs.declared.Mask.{Mask}
use Rattle.offset.specs.Wide.{read32}
use Rattle.rules.specs.Sets.{Chutes}
use Rattle.domain.specs.Set.{values_of}
use Rattle.domain.proofs.Ends.{size-ones}
use Rattle.domain_text.specs.Text.{listed, first_run, text_of}
use Rattle.domain_text.proofs.Texts.{run-le, text-parts}
use Rattle.domain_text.proofs.Puts.{put-brackets}
use Rattle.domain_text.proofs.put_text.Goals as goal

-- the smallest, as the machine reads it
abbrev low : ℤ → ℤ
low z = to_z w32 (of_z w32 z)

-- the room that is required is that of the parts
asked : (z : ℤ) (m : Mask) (out : List ℕ) → SFits w32 z → length (text_of (values_of z m)) ≤ length out → let v = values_of (low z) m in
    3 + length (listed (take (first_run v) v)) + length (listed (drop (first_run v) v)) ≤ length out
asked z m out f r = let p = text-parts (values_of (low z) m) in omega (arith, p, subst (λ (lo : ℤ). length (text_of (values_of lo m)) ≤ length out) (sym (read32 f)) r)

module _ (lo : ℤ) (m rest : Mask) (run : ℕ) (told : (lo : ℤ) → (run ≡ first_run (values_of lo m)) × (values_of lo rest ≡ drop run (values_of lo m))) where
  abbrev v : Chutes
  v = values_of lo m

  -- the values past the run are all of those that are left
  others : {n : ℕ} → n ≡ ones (val rest) → take n (values_of lo rest) ≡ drop (first_run v) v
  others {n} e = take_all n (values_of lo rest) (omega (arith, size-ones lo rest, e)) ∙ (told lo).1 ∙ ap (λ (k : ℕ). drop k v) (told lo).0

  first-put : (out : List ℕ) {p : Put} → p ≡ put_of (listed (take run v)) (set out 0 91) 1 → p ≡ put_of (listed (take (first_run v) v)) (set out 0 91) 1
  first-put out e = e ∙ ap (λ (n : ℕ). put_of (listed (take n v)) (set out 0 91) 1) (told lo).0

  second-put : (out : List ℕ) (bar : ℕ) {n : ℕ} {p : Put} → n ≡ ones (val rest) → p ≡ put_of (listed (take n (values_of lo rest))) (set out bar 124) (bar + 1)
      → p ≡ put_of (listed (drop (first_run v) v)) (set out bar 124) (bar + 1)
  second-put out bar e q = q ∙ ap (λ (x : Chutes). put_of (listed x) (set out bar 124) (bar + 1)) (others e)

pub bounds-out-0 : goal.bounds-out-0
bounds-out-0 c = let a = c.args in omega (arith, asked a.min a.m a.out.now c.ranges.min c.requires)

pub put_values-bar-requires : goal.put_values-bar-requires
put_values-bar-requires c =
    let a = c.args in
    let v = values_of (low a.min) a.m in
    let run = (c.first_run-run.ensures (low a.min)).0 in
    let n = ap (λ (n : ℕ). length (listed (take n v))) run in
    (omega (arith, run, run-le v), simp length-set (omega (arith, n, asked a.min a.m a.out.now c.ranges.min c.requires)))

pub bounds-out-bar : goal.bounds-out-bar
bounds-out-bar c =
    let a = c.args in
    let r = c.first_run-run in
    let p = first-put (low a.min) a.m r.result.rest r.result.count r.ensures a.out.now c.put_values-bar.ensures in
    omega (arith, asked a.min a.m a.out.now c.ranges.min c.requires, ap (λ (x : Put). x.next) p, c.put_values-bar.auto.out, length-set a.out.now 0 91)

pub overflow_add-bar : goal.overflow_add-bar
overflow_add-bar c =
    let a = c.args in
    let r = c.first_run-run in
    let p = first-put (low a.min) a.m r.result.rest r.result.count r.ensures a.out.now c.put_values-bar.ensures in
    omega (arith, asked a.min a.m a.out.now c.ranges.min c.requires, c.well_formed, ap (λ (x : Put). x.next) p)

pub put_values-end-requires : goal.put_values-end-requires
put_values-end-requires c =
    let a = c.args in
    let r = c.first_run-run in
    let bar = c.put_values-bar in
    let p = first-put (low a.min) a.m r.result.rest r.result.count r.ensures a.out.now bar.ensures in
    let n = ap (λ (x : Chutes). length (listed x)) (others (low a.min) a.m r.result.rest r.result.count r.ensures c.count.ensures.0) in (
      omega (arith, size-ones (low a.min) r.result.rest, c.count.ensures.0),
      simp length-set (omega (arith, n, asked a.min a.m a.out.now c.ranges.min c.requires, ap (λ (x : Put). x.next) p, bar.auto.out, length-set a.out.now 0 91)),
    )

pub bounds-out-end : goal.bounds-out-end
bounds-out-end c =
    let a = c.args in
    let r = c.first_run-run in
    let bar = c.put_values-bar in
    let p = first-put (low a.min) a.m r.result.rest r.result.count r.ensures a.out.now bar.ensures in
    let q = second-put (low a.min) a.m r.result.rest r.result.count r.ensures c.put_values-bar.new.out c.put_values-bar.result c.count.ensures.0 c.put_values-end.ensures in
    omega (
      arith,
      asked a.min a.m a.out.now c.ranges.min c.requires,
      ap (λ (x : Put). x.next) p,
      ap (λ (x : Put). x.next) q,
      bar.auto.out,
      length-set a.out.now 0 91,
      c.put_values-end.auto.out,
      length-set bar.new.out bar.result 124,
    )

pub returns : goal.returns
returns c =
    let a = c.args in
    let r = c.first_run-run in
    let p = first-put (low a.min) a.m r.result.rest r.result.count r.ensures a.out.now c.put_values-bar.ensures in
    let q = second-put (low a.min) a.m r.result.rest r.result.count r.ensures c.put_values-bar.new.out c.put_values-bar.result c.count.ensures.0 c.put_values-end.ensures in
    put-brackets (values_of (low a.min) a.m) a.out.now p q ∙ ap (λ (lo : ℤ). (put_of (text_of (values_of lo a.m)) a.out.now 0).cells) (read32 c.ranges.min)
