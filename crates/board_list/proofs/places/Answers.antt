-- `board_list::places` meets its contract: the scan has come to place p, whose id is unknown, stood earlier, or is taken. Assumes nothing.
use Rattle.std.specs.Prelude.{◌≡◌, ℕ, suc, ◌^◌, ◌≤◌, ◌<◌, eqb, length, set, get_or, bit_or}
use Rattle.std.proofs.Common.{sym, ap, ◌∙◌, subst, add-one, arith}
use Rattle.mask.specs.Bit.{bit}
use Rattle.mask.specs.Val.{val}
use Rattle.board.specs.Rows.{seat_in, nowhere}
use Rattle.board.proofs.Seats.{seat-least}
use Rattle.board_list.proofs.PlaceLaws.{Open, too_long, unknown-here, repeated-here, open_more, all_here}
use Rattle.board_list.proofs.places.Goals as goal

-- a row that was found is below 64
row_below : (id : ℕ → ℕ) (n x r : ℕ) → n ≤ 64 → r ≡ seat_in id n x → (r ≡ nowhere → ⊥) → r < 64
row_below id n x r few e h = let l = seat-least id n x few in omega arith

pub returns-then-list-gt64 : goal.returns-then-list-gt64
returns-then-list-gt64 c =
    let a = c.args in
    too_long (λ j. get_or a.ids.now j 0) a.count a.list.now a.at.now c.if-list-gt64.true

pub returns-then-row-eq-NOWHERE : goal.returns-then-row-eq-NOWHERE
returns-then-row-eq-NOWHERE c =
    let a = c.args in
    let s = c.loop-p in
    let h : 64 ≤ c.find_from-row.result = omega (arith, c.if-row-eq-NOWHERE.true) in
    unknown-here (λ j. get_or a.ids.now j 0) a.count a.list.now a.at.now s.at (val s.used) s.p (omega (arith, c.if-list-gt64.false)) s.invariant c.loop-p-test.true c.requires.0 (rw c.find_from-row.ensures at h)

pub has-requires : goal.has-requires
has-requires c =
    let a = c.args in
    let k = row_below (λ j. get_or a.ids.now j 0) a.count (get_or a.list.now c.loop-p.p 0) c.find_from-row.result c.requires.0 c.find_from-row.ensures c.if-row-eq-NOWHERE.false in
    omega arith

pub returns-then-has : goal.returns-then-has
returns-then-has c =
    let a = c.args in
    let s = c.loop-p in
    let e = c.find_from-row.ensures in
    let k = row_below (λ j. get_or a.ids.now j 0) a.count (get_or a.list.now s.p 0) c.find_from-row.result c.requires.0 e c.if-row-eq-NOWHERE.false in
    repeated-here (λ j. get_or a.ids.now j 0) a.count a.list.now a.at.now s.at (val s.used) s.p (omega (arith, c.if-list-gt64.false)) s.invariant c.loop-p-test.true (rw e at k)
    (ap (λ (r : ℕ). eqb (bit (val s.used) r) 1) (sym e) ∙ sym c.has.ensures ∙ c.if-has.true)

pub with-used-requires : goal.with-used-requires
with-used-requires c =
    let a = c.args in
    let k = row_below (λ j. get_or a.ids.now j 0) a.count (get_or a.list.now c.loop-p.p 0) c.find_from-row.result c.requires.0 c.find_from-row.ensures c.if-row-eq-NOWHERE.false in
    omega arith

pub overflow_add-next : goal.overflow_add-next
overflow_add-next c =
    let a = c.args in
    let k = row_below (λ j. get_or a.ids.now j 0) a.count (get_or a.list.now c.loop-p.p 0) c.find_from-row.result c.requires.0 c.find_from-row.ensures c.if-row-eq-NOWHERE.false in
    omega arith

pub loop-p-preserved : goal.loop-p-preserved
loop-p-preserved c =
    let a = c.args in
    let s = c.loop-p in
    let ids : ℕ → ℕ = λ j. get_or a.ids.now j 0 in
    let e = c.find_from-row.ensures in
    let k = row_below ids a.count (get_or a.list.now s.p 0) c.find_from-row.result c.requires.0 e c.if-row-eq-NOWHERE.false in
    let more = open_more ids a.count a.list.now a.at.now s.at (val s.used) s.p (omega (arith, c.if-list-gt64.false)) s.invariant c.loop-p-test.true (rw e at k)
    (ap (λ (r : ℕ). eqb (bit (val s.used) r) 1) (sym e) ∙ sym c.has.ensures ∙ c.if-has.false)
    (val c.with-used.result) (c.with-used.ensures ∙ ap (λ (r : ℕ). bit_or (val s.used) (2 ^ r)) e) in
    subst (Open ids a.count a.list.now a.at.now (set s.at s.p c.find_from-row.result) (val c.with-used.result)) (sym (add-one s.p))
    (subst (λ (r : ℕ). Open ids a.count a.list.now a.at.now (set s.at s.p r) (val c.with-used.result) (suc s.p)) (sym e) more)

pub returns : goal.returns
returns c =
    let a = c.args in
    let e : c.loop-p.p ≡ length a.list.now = omega (arith, c.loop-p.invariant.most, c.loop-p-test.false) in
    all_here (λ j. get_or a.ids.now j 0) a.count a.list.now a.at.now c.loop-p.at (val c.loop-p.used) c.loop-p.p (omega (arith, c.if-list-gt64.false)) c.loop-p.invariant e
