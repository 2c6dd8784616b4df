-- `board_spread::inner::prune` meets its contract: the pass is given what the listed rows hold, and its masks go back to them. Assumes nothing.
use Rattle.std.specs.Prelude.{◌≡◌, refl, length}
use Rattle.std.proofs.Common.{rules}
use Rattle.std.proofs.lemmas.Result.{err_from_is_err_and}
use Rattle.board.proofs.ViewLaws.{mapped, sound}
use Rattle.board_spread.proofs.Gathers.{within_all}
use Rattle.board_spread.proofs.Spreading.{bare, list-refused, list-few, cell_below, cell-well, list-taken}
use Rattle.board_spread.proofs.inner.prune.Goals as goal

pub seats-requires : goal.seats-requires
seats-requires c =
    let s = sound (bare c.args.rows.now c.args.count) c.requires in
    (s.few-rows, s.apart)

pub returns-in_err-seats : goal.returns-in_err-seats
returns-in_err-seats c =
    let p = err_from_is_err_and c.from_residual.result c.from_residual.ensures.1 in
    rw (p.1, p.2)
    (list-refused (bare c.args.rows.now c.args.count) c.requires c.args.list.now _ c.seats.new.at refl _ c.in_err-seats.ensures c.in_err-seats.field-0.0 refl)

pub gather-requires : goal.gather-requires
gather-requires c =
    let b = bare c.args.rows.now c.args.count in
    let e = c.in_ok-seats.ensures in (
      list-few b c.requires c.args.list.now _ c.seats.new.at refl _ e refl,
      cell_below b c.requires c.args.list.now _ c.seats.new.at refl _ e refl,
      refl,
      c.none-ms.ensures,
    )

pub spread-did-requires : goal.spread-did-requires
spread-did-requires c =
    let b = bare c.args.rows.now c.args.count in
    let e = c.in_ok-seats.ensures in
    let g = c.gather.ensures in (
      list-few b c.requires c.args.list.now _ c.seats.new.at refl _ e refl,
      g.0,
      within_all c.args.rows.now c.seats.new.at c.gather.new.mins c.gather.new.ms (length c.args.list.now) (cell-well b c.requires c.args.list.now _ c.seats.new.at refl _ e refl) g.1 g.2,
    )

pub scatter-requires : goal.scatter-requires
scatter-requires c =
    let b = bare c.args.rows.now c.args.count in
    let e = c.in_ok-seats.ensures in (
      list-few b c.requires c.args.list.now _ c.seats.new.at refl _ e refl,
      cell_below b c.requires c.args.list.now _ c.seats.new.at refl _ e refl,
    )

pub returns : goal.returns
returns c =
    let b = bare c.args.rows.now c.args.count in
    let did = c.spread-did in
    let long : length c.args.rows.now ≡ 64 = search (rules, mapped) in
    list-taken b c.requires c.args.list.now _ c.seats.new.at refl _ c.in_ok-seats.ensures refl
    c.gather.new.mins c.gather.new.ms c.gather.ensures.1
    long did.new.ms did.result did.ensures.1 did.ensures.2 c.scatter.new.rows c.scatter.ensures
