-- `sparse_text::put_text` meets its contract: the text of the cells before k stands in the bytes before `at`. Assumes nothing.
use Rattle.std.specs.Prelude.{◌≡◌, List, [], ◌∷◌, ℕ, length, set}
use Rattle.std.specs.Int.{w64}
use Rattle.std.proofs.Common.{sym, ap, ◌∙◌, arith, length-set, to_z, of_z, rules}
use Rattle.decimal.specs.Put.{Put, put_of}
use Rattle.decimal.proofs.Puts.{put-append}
use Rattle.sparse_inner.specs.Set.{full}
use Rattle.sparse.specs.Calls.{in_cell}
use Rattle.sparse_text.proofs.Texts.{text-size, text-ahead, closing-all, closing-rest, put-none, put_next, put-close, close-ends}
use Rattle.sparse_text.proofs.put_text.Goals as goal
use Rattle.sparse_text.proofs.put_text.Goals.{then-s, else-s}

pub bounds-out-0 : goal.bounds-out-0
bounds-out-0 c = omega (arith, c.requires.val_in_bounds, text-size (full c.args.s c.args.ind.now c.args.val.now))

pub loop-k-init : goal.loop-k-init
loop-k-init c = put-none (full c.args.s c.args.ind.now c.args.val.now) _

pub put_before-at-requires : goal.put_before-at-requires
put_before-at-requires c =
    let f = full c.args.s c.args.ind.now c.args.val.now in
    omega (arith, ap (λ (p : Put). p.next) c.loop-k.invariant, text-ahead f c.loop-k.k c.loop-k-test.true, c.loop-k.auto.out, length-set c.args.out.now 0 91, c.requires.val_in_bounds)

pub put-at-requires : goal.put-at-requires
put-at-requires c =
    let f = full c.args.s c.args.ind.now c.args.val.now in
    let x : to_z w64 (of_z w64 c.long.result) ≡ in_cell f c.loop-k.k = search rules in
    rw x (omega (arith, ap (λ (p : Put). p.next) c.loop-k.invariant, ap (λ (p : Put). p.next) c.put_before-at.ensures, text-ahead f c.loop-k.k c.loop-k-test.true, c.put_before-at.auto.out, c.loop-k.auto.out, length-set c.args.out.now 0 91, c.requires.val_in_bounds))

pub loop-k-preserved : goal.loop-k-preserved
loop-k-preserved c =
    let f = full c.args.s c.args.ind.now c.args.val.now in
    let l = c.loop-k in
    let x : to_z w64 (of_z w64 c.long.result) ≡ in_cell f l.k = search rules in
    put_next f l.k (set c.args.out.now 0 91) l.out l.at l.invariant c.put_before-at.ensures (rw x at c.put-at.ensures)

pub bounds-out-at : goal.bounds-out-at
bounds-out-at c =
    let f = full c.args.s c.args.ind.now c.args.val.now in
    let l = c.loop-k in
    let k-is : l.k ≡ c.args.s.n = omega (arith, c.loop-k-test.false) in
    omega (arith, close-ends f (set c.args.out.now 0 91) l.out l.at (rw k-is at l.invariant), l.auto.out, length-set c.args.out.now 0 91, c.requires.val_in_bounds, ap length (closing-all c.args.s.size c.args.s.n c.if-s.true))

pub overflow_add-at : goal.overflow_add-at
overflow_add-at c = search (rules, bounds-out-at c)

pub bounds-out-at-2 : goal.bounds-out-at-2
bounds-out-at-2 c =
    let f = full c.args.s c.args.ind.now c.args.val.now in
    let l = c.loop-k in
    let k-is : l.k ≡ c.args.s.n = omega (arith, c.loop-k-test.false) in
    let ends = close-ends f (set c.args.out.now 0 91) l.out l.at (rw k-is at l.invariant) in
    elim c.if-s.branch [
      | then-s w ↦ omega (arith, ends, w.at-is, c.if-s.auto.out, l.auto.out, length-set c.args.out.now 0 91, c.requires.val_in_bounds, ap length (closing-all c.args.s.size c.args.s.n w.if-s.true))
      | else-s w ↦ omega (arith, ends, w.at-is, c.if-s.auto.out, l.auto.out, length-set c.args.out.now 0 91, c.requires.val_in_bounds, ap length (closing-rest c.args.s.size c.args.s.n w.if-s.false))
    ]

pub returns : goal.returns
returns c =
    let f = full c.args.s c.args.ind.now c.args.val.now in
    let l = c.loop-k in
    let k-is : l.k ≡ c.args.s.n = omega (arith, c.loop-k-test.false) in
    let closed = put-close f c.args.out.now l.out l.at (rw k-is at l.invariant) in
    elim c.if-s.branch [
      | then-s w ↦
          (λ i. set (w.out-is i) (w.at-is i) 93) ∙ ap (λ (p : Put). p.cells) (sym (put-append (124 ∷ []) (93 ∷ []) l.out l.at) ∙ ap (λ (t : List ℕ). put_of t l.out l.at) (closing-all c.args.s.size c.args.s.n w.if-s.true) ∙ closed)
      | else-s w ↦
          (λ i. set (w.out-is i) (w.at-is i) 93) ∙ ap (λ (p : Put). p.cells) (ap (λ (t : List ℕ). put_of t l.out l.at) (closing-rest c.args.s.size c.args.s.n w.if-s.false) ∙ closed)
    ]
