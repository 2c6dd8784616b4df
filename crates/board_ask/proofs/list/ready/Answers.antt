-- `board_ask::list::ready` meets its contract: the places of the list tell its verdict, and its rows whether it is ready. Assumes nothing.
use Rattle.std.specs.Prelude.{refl}
use Rattle.std.proofs.lemmas.Result.{err_from_is_err_and}
use Rattle.board.proofs.LookLaws.{checked-broken, checked-well}
use Rattle.board.proofs.ViewLaws.{sound}
use Rattle.board_ask.specs.Ready.{ready_of}
use Rattle.board_ask.proofs.ReadyLaws.{ready_refused, ready-few, ready-below, ready-told}
use Rattle.board_ask.proofs.list.ready.Goals as goal

pub returns-in_err-check : goal.returns-in_err-check
unfolding ready_of
returns-in_err-check c =
    let p = err_from_is_err_and c.from_residual.result c.from_residual.ensures.1 in
    let s = checked-broken c.args.b c.in_err-check.field-0.0 c.in_err-check.ensures in
    rw (p.1, p.2, s.1, s.0)

pub seats-requires : goal.seats-requires
seats-requires c = let s = sound c.args.b (checked-well c.args.b c.in_ok-check.ensures) in (s.few-rows, s.apart)

pub returns-in_err-seats : goal.returns-in_err-seats
returns-in_err-seats c =
    let b = c.args.b in
    let p = err_from_is_err_and c.from_residual-in_err-seats.result c.from_residual-in_err-seats.ensures.1 in
    rw (p.1, p.2) (ready_refused b (checked-well b c.in_ok-check.ensures) c.args.list.now _ c.seats.new.at refl c.seats.result c.seats.ensures c.in_err-seats.field-0.0 c.in_err-seats.was)

pub all_assigned-requires : goal.all_assigned-requires
all_assigned-requires c =
    let b = c.args.b in
    let w = checked-well b c.in_ok-check.ensures in (
      ready-few b w c.args.list.now _ c.seats.new.at refl c.seats.result c.seats.ensures c.in_ok-seats.was,
      ready-below b w c.args.list.now _ c.seats.new.at refl c.seats.result c.seats.ensures c.in_ok-seats.was,
    )

pub returns : goal.returns
returns c =
    let b = c.args.b in
    ready-told b (checked-well b c.in_ok-check.ensures) c.args.list.now _ c.seats.new.at refl c.seats.result c.seats.ensures c.in_ok-seats.was c.all_assigned.result c.all_assigned.ensures
