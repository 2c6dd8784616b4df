-- As many bytes were read as `room` has.
use Rattle.std.proofs.Common.{◌≡◌, IfSome, rules, sym, subst, take}
use Rattle.wave_io.proofs.answer.Goals as goal

pub returns-clause-board : goal.returns-clause-board
returns-clause-board g c =
    let bytes = subst (λ n. IfSome (g.R.Read.remaining c.args.input) (λ xs. take c.in-Ok.n c.read_sheet.new.sheet ≡ take n xs)) (sym c.room-sheet.ensures) c.in-Ok.ensures.bytes in
    search rules
