-- `alldiff::gather` meets its contract: domain after domain of the subset joins. Assumes nothing.
use Rattle.std.specs.Prelude.{◌≡◌, refl, true, false, List, [], ℕ, suc, ◌%◌, ◌<◌, eqb, ℤ, pos, length, take, drop, get_or}
use Rattle.std.specs.Int.{w32}
use Rattle.std.proofs.Common.{rules, sym, ap, ◌∙◌, add-one, arith, to_z, of_z, eq-eqb, ne_eqb}
use Rattle.mask.specs.declared.Mask.{Mask}
use Rattle.offset.specs.Wide.{read32}
use Rattle.rules.specs.Sets.{Chutes, all}
use Rattle.rules.specs.Pass.{pick}
use Rattle.rules.specs.Table.{bits}
use Rattle.domain.specs.Set.{values_of}
use Rattle.masks.specs.Cells.{mask_at}
use Rattle.sweep.specs.Listed.{listed}
use Rattle.sweep.proofs.Turns.{listed-length, listed_at, bits-length, bits_at, first-half, next-half}
use Rattle.alldiff.specs.Gather.{add_to, gathered}
use Rattle.alldiff.proofs.Gathers.{length-add, pick-in, pick_out, pick_end}
use Rattle.alldiff.proofs.gather.Goals as goal
use Rattle.alldiff.proofs.gather.Goals.{then-inside-eq1+in_ok-r, else-inside-eq1}

-- the domain that was read
read : (mins : List ℤ) (ws : List Mask) (n p : ℕ) (z : ℤ) (m : Mask) → p < n → z ≡ get_or mins p (pos 0) → m ≡ mask_at ws p → values_of z m ≡ get_or (listed mins ws n) p []
read mins ws n p z m h e f = (λ i. values_of (e i) (f i)) ∙ sym (listed_at mins ws n p h)

-- a turn at place p, whose domain is d
module _ (mins : List ℤ) (ws : List Mask) (n set : ℕ) (p : ℕ) (h : p < n) (s : Chutes) (so : gathered (pick (bits n set) (listed mins ws n)) ≡ add_to s (all (pick (drop p (bits n set)) (drop p (listed mins ws n))))) where
  abbrev ds : List Chutes
  ds = listed mins ws n

  abbrev rest : List Chutes
  rest = pick (drop (suc p) (bits n set)) (drop (suc p) ds)

  hm : p < length (bits n set)
  hm = omega (arith, bits-length n set)

  hd : p < length ds
  hd = omega (arith, listed-length mins ws n)

  outside : get_or (bits n set) p false ≡ false → gathered (pick (bits n set) ds) ≡ add_to s (all rest)
  outside e = so ∙ pick_out (bits n set) ds s p hm hd e

  module _ (d : Chutes) (e : get_or (bits n set) p false ≡ true) (at : d ≡ get_or ds p []) (vals : List ℤ) where
    inside : gathered (pick (bits n set) ds) ≡ add_to (add_to s d) (all rest)
    inside = so ∙ pick-in (bits n set) ds s p hm hd e ∙ ap (λ (x : Chutes). add_to (add_to s x) (all rest)) (sym at)

    joined : (r : ℕ) → take r vals ≡ add_to s d → gathered (pick (bits n set) ds) ≡ add_to (take r vals) (all rest)
    joined r k = inside ∙ ap (λ (x : Chutes). add_to x (all rest)) (sym k)

    full : length vals < length (add_to s d) → length vals < length (gathered (pick (bits n set) ds))
    full l = omega (arith, length-add (add_to s d) (all rest), ap length inside)

pub loop-p-init : goal.loop-p-init
loop-p-init c = (search rules, first-half c.args.set, refl)

pub returns-in_err-r : goal.returns-in_err-r
returns-in_err-r c =
    let a = c.args in
    let i = c.loop-p in
    let h : i.p < a.n = search rules in
    let z = to_z w32 (of_z w32 (get_or a.mins.now i.p (pos 0))) in
    let m = mask_at a.ms.now i.p in
    let e = bits_at a.n a.set i.p h ∙ ap (λ (x : ℕ). eqb (x % 2) 1) (sym i.invariant.1) ∙ eq-eqb (i.inside % 2) 1 (search rules) in
    rw c.from_residual.ensures
    (full a.mins.now a.ms.now a.n a.set i.p h (take i.r i.vals) i.invariant.2 (values_of z m) e (read a.mins.now a.ms.now a.n i.p z m h (read32 (search rules)) refl) c.add_all.new.vals c.in_err-r.ensures)

pub loop-p-preserved : goal.loop-p-preserved
loop-p-preserved c =
    let a = c.args in
    let i = c.loop-p in
    let h : i.p < a.n = search rules in
    let z = to_z w32 (of_z w32 (get_or a.mins.now i.p (pos 0))) in
    let m = mask_at a.ms.now i.p in
    let at = bits_at a.n a.set i.p h ∙ ap (λ (x : ℕ). eqb (x % 2) 1) (sym i.invariant.1) in
    let half = next-half i.inside a.set i.p i.invariant.1 in
    elim c.if-inside-eq1.branch [
      | then-inside-eq1+in_ok-r w ↦
          let q = w.in_ok-r.ensures in
          rw (w.vals-is, w.r-is, add-one) (
            q.0,
            half,
            joined a.mins.now a.ms.now a.n a.set i.p h (take i.r i.vals) i.invariant.2 (values_of z m) (at ∙ eq-eqb (i.inside % 2) 1 (search rules)) (read a.mins.now a.ms.now a.n i.p z m h (read32 (search rules)) refl) w.add_all.new.vals w.in_ok-r.r q.1,
          )
      | else-inside-eq1 w ↦
          rw (w.vals-is, w.r-is, add-one)
          (i.invariant.0, half, outside a.mins.now a.ms.now a.n a.set i.p h (take i.r i.vals) i.invariant.2 (at ∙ ne_eqb (i.inside % 2) 1 (search rules)))
    ]

pub returns : goal.returns
returns c =
    let a = c.args in
    let i = c.loop-p in
    let ds = listed a.mins.now a.ms.now a.n in
    (i.invariant.0, sym (i.invariant.2 ∙ pick_end (bits a.n a.set) ds (take i.r i.vals) i.p (omega (arith, bits-length a.n a.set))))
