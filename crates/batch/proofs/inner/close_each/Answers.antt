-- `batch::inner::close_each` meets its contract: a closing moves no id, so that the ids gathered at first serve all of them. Assumes nothing.
use Rattle.std.specs.Prelude.{◌≡◌, true, false, Bool, List, ℕ, ◌+◌, ◌<◌, length, get_or, take}
use Rattle.std.proofs.Common.{sym, ap, ◌∙◌, subst, add-zero, add-one, arith, rules}
use Rattle.std.specs.Int.{from_bool}
use Rattle.closing.specs.declared.Closing.{Closing}
use Rattle.board.specs.Rows.{id_at, seat_in}
use Rattle.board.specs.declared.Row.{Row}
use Rattle.board.proofs.Seats.{seated, seat-agree, differ-agree}
use Rattle.board.proofs.ViewLaws.{mapped}
use Rattle.board_list.specs.Places.{Begins}
use Rattle.batch.specs.Batch.{more}
use Rattle.batch.specs.Tallies.{Fit, tally, untold, tallied, tally_of}
use Rattle.batch.proofs.TallyLaws.{none, more-most, tallied-known, tallied-unknown, Kept, kept-none, kept-all, tally-next}
use Rattle.batch.proofs.inner.close_each.Goals as goal
use Rattle.batch.proofs.inner.close_each.Goals.{then-at-lt-NOWHERE, else-at-lt-NOWHERE}

-- the rows and the count after the first i closings, and where the next one's id stands by the ids gathered at first
module _ (before : List Row) (count : ℕ) (cs : List Closing) (full : length before ≡ 64) (fit : Fit before count) (rows : List Row) (yes i : ℕ) (so_far : tally rows yes ≡ tally_of count (untold before) (take i cs)) where
  kept : Kept before count (tally rows yes)
  kept = subst (Kept before count) (sym so_far) (kept-all before count (untold before) (take i cs) (kept-none before count full fit))

  module _ (ids : List ℕ) (gathered : Begins (id_at before) count ids) (p x : ℕ) (found : p ≡ seat_in (λ j. get_or ids j 0) count x) where
    seat-is : p ≡ seat_in (id_at rows) count x
    seat-is = found ∙ seat-agree (λ j. get_or ids j 0) (id_at rows) count x (λ k l. gathered k l ∙ sym (kept.ids k))

    seat-below : p < 64 → p < count
    seat-below h =
        let e = seat-is in
        let l = (seated (id_at rows) count x (omega (arith, e, h))).0 in
        omega (arith, e, l)

-- a yes is one more
counted : (y : Bool) (n k : ℕ) → k ≡ from_bool y → n + k ≡ more y n
counted true n k e = rw e (add-one n)
counted false n k e = rw e (add-zero n)

pub find-at-requires : goal.find-at-requires
find-at-requires c =
    let fit = c.requires in
    (fit.few, differ-agree _ (id_at c.args.rows.now) c.args.count c.ids_of-ids.ensures ∙ fit.apart)

pub shut_row-s-requires : goal.shut_row-s-requires
shut_row-s-requires c =
    let a = c.args in
    let s = c.loop-c in
    let full : length a.rows.now ≡ 64 = search (rules, mapped) in
    (kept a.rows.now a.count a.cs.now full c.requires s.rows s.yes s.c-index s.invariant.1).domains c.find-at.result
    (seat-below a.rows.now a.count a.cs.now full c.requires s.rows s.yes s.c-index s.invariant.1 _ c.ids_of-ids.ensures c.find-at.result _ c.find-at.ensures c.if-at-lt-NOWHERE.true)

pub loop-c-preserved : goal.loop-c-preserved
loop-c-preserved c =
    let a = c.args in
    let s = c.loop-c in
    let full : length a.rows.now ≡ 64 = search (rules, mapped) in
    let here : Closing = get_or a.cs.now s.c-index none in
    let now = tally s.rows s.yes in
    let at = seat-is a.rows.now a.count a.cs.now full c.requires s.rows s.yes s.c-index s.invariant.1 _ c.ids_of-ids.ensures c.find-at.result here.id.0 c.find-at.ensures in
    let next : tallied a.count now here ≡ tally_of a.count (untold a.rows.now) (take (s.c-index + 1) a.cs.now) =
    ap (λ t. tallied a.count t here) s.invariant.1 ∙ tally-next a.count (untold a.rows.now) a.cs.now s.c-index c.loop-c-test.true in (
      elim c.if-at-lt-NOWHERE.branch [
        | then-at-lt-NOWHERE w ↦ omega (arith, w.yes-is ∙ counted w.shut_row-s.result.yes s.yes w.from-yes.result w.from-yes.ensures, more-most w.shut_row-s.result.yes s.yes)
        | else-at-lt-NOWHERE w ↦ omega arith
      ],
      elim c.if-at-lt-NOWHERE.branch [
        | then-at-lt-NOWHERE w ↦ (λ i. tally (w.rows-is i) ((w.yes-is ∙ counted w.shut_row-s.result.yes s.yes w.from-yes.result w.from-yes.ensures) i)) ∙ tallied-known a.count now here c.find-at.result at w.if-at-lt-NOWHERE.true w.shut_row-s.result w.shut_row-s.ensures
        | else-at-lt-NOWHERE w ↦ (λ i. tally (w.rows-is i) (w.yes-is i)) ∙ tallied-unknown a.count now here (let h = w.if-at-lt-NOWHERE.false in rw at at h)
      ]
          ∙ next,
    )
