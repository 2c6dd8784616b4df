-- `sheet::read_sheet` meets its contract: the sections are read one after the other, and each way out is a case of `read_sheet`. Assumes nothing.
use Rattle.std.specs.Prelude.{◌≤◌, length}
use Rattle.std.specs.declared.result.Result.TheVariants.{Ok}
use Rattle.std.proofs.Common.{ap, sym, ◌∙◌, arith}
use Rattle.sheet_number.proofs.Readers.{passed, answered, stopped}
use Rattle.sheet_sections.specs.Sections.{destination, closing, list, section}
use Rattle.sheet.specs.Whole.{read_of}
use Rattle.sheet.proofs.Sections.{sheet-long, sheet-first, sheet-second, sheet-third, sheet-more, sheet-read}
use Rattle.sheet.proofs.read_sheet.Goals as goal

pub returns-then-s-gt32768 : goal.returns-then-s-gt32768
returns-then-s-gt32768 c = ap read_of (sym (sheet-long c.args.s.now (omega arith)))

pub returns-in_err-destinations : goal.returns-in_err-destinations
returns-in_err-destinations c =
    let x = c.args.s.now in
    let sh : length x ≤ 32768 = omega arith in
    let w = c.in_err-destinations.field-0.0 in
    let k = stopped _ (section 64 destination x 0) w c.in_err-destinations.ensures in
    passed c.from_residual.result w c.from_residual.ensures.1 ∙ ap read_of (sym (sheet-first x sh w.fault w.at k))

pub returns-in_err-closings : goal.returns-in_err-closings
returns-in_err-closings c =
    let x = c.args.s.now in
    let sh : length x ≤ 32768 = omega arith in
    let d = answered _ (section 64 destination x 0) c.in_ok-destinations.destinations c.in_ok-destinations.e c.in_ok-destinations.ensures in
    let w = c.in_err-closings.field-0.0 in
    let k = stopped _ (section 256 closing x c.in_ok-destinations.e) w c.in_err-closings.ensures in
    passed c.from_residual-in_err-closings.result w c.from_residual-in_err-closings.ensures.1
    ∙ ap read_of (sym (sheet-second x sh d.0 c.in_ok-destinations.e d.1 w.fault w.at k))

pub returns-in_err-l : goal.returns-in_err-l
returns-in_err-l c =
    let x = c.args.s.now in
    let sh : length x ≤ 32768 = omega arith in
    let d = answered _ (section 64 destination x 0) c.in_ok-destinations.destinations c.in_ok-destinations.e c.in_ok-destinations.ensures in
    let q = answered _ (section 256 closing x c.in_ok-destinations.e) c.in_ok-closings.closings c.in_ok-closings.f c.in_ok-closings.ensures in
    let w = c.in_err-l.field-0.0 in
    let k = stopped _ (section 16 list x c.in_ok-closings.f) w c.in_err-l.ensures in
    passed c.from_residual-in_err-l.result w c.from_residual-in_err-l.ensures.1
    ∙ ap read_of (sym (sheet-third x sh d.0 c.in_ok-destinations.e d.1 q.0 c.in_ok-closings.f q.1 w.fault w.at k))

pub returns-then-g-s : goal.returns-then-g-s
returns-then-g-s c =
    let x = c.args.s.now in
    let sh : length x ≤ 32768 = omega arith in
    let d = answered _ (section 64 destination x 0) c.in_ok-destinations.destinations c.in_ok-destinations.e c.in_ok-destinations.ensures in
    let q = answered _ (section 256 closing x c.in_ok-destinations.e) c.in_ok-closings.closings c.in_ok-closings.f c.in_ok-closings.ensures in
    let l = answered _ (section 16 list x c.in_ok-closings.f) c.in_ok-l.l c.in_ok-l.g c.in_ok-l.ensures in
    ap read_of (sym (sheet-more x sh d.0 c.in_ok-destinations.e d.1 q.0 c.in_ok-closings.f q.1 l.0 c.in_ok-l.g l.1 (omega arith)))

pub returns : goal.returns
returns c =
    let x = c.args.s.now in
    let sh : length x ≤ 32768 = omega arith in
    let d = answered _ (section 64 destination x 0) c.in_ok-destinations.destinations c.in_ok-destinations.e c.in_ok-destinations.ensures in
    let q = answered _ (section 256 closing x c.in_ok-destinations.e) c.in_ok-closings.closings c.in_ok-closings.f c.in_ok-closings.ensures in
    let l = answered _ (section 16 list x c.in_ok-closings.f) c.in_ok-l.l c.in_ok-l.g c.in_ok-l.ensures in
    let e = sheet-read x sh d.0 c.in_ok-destinations.e d.1 q.0 c.in_ok-closings.f q.1 l.0 c.in_ok-l.g l.1 (omega arith) in
    (λ i. Ok (record { destinations = d.2 i; closings = q.2 i; lists = (l.2 i).spans; ids = (l.2 i).ids }, c.in_ok-l.g)) ∙ ap read_of (sym e)
