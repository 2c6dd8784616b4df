-- `wave_run::run` meets its contract: each step is given what the one before it left, and does on the rows what the public calls do on the board. Assumes nothing.
use Rattle.std.specs.Prelude.{◌≡◌, length}
use Rattle.std.proofs.Common.{rules}
use Rattle.wave_enter.proofs.Registers.{all-rows}
use Rattle.wave_lists.proofs.Lists.{all-spans}
use Rattle.batch.specs.Tallies.{tally}
use Rattle.batch.proofs.TallyLaws.{all-closings}
use Rattle.wave_run.proofs.Waves.{fit, sound, ran-is}
use Rattle.wave_run.proofs.run.Goals as goal

pub close_each-requires : goal.close_each-requires
close_each-requires c =
    let ds : length c.args.p.destinations.rows ≡ 64 = search (rules, all-rows) in
    fit c.args.p c.min.result c.min.ensures ds c.register-registered.result c.register-registered.ensures

pub spread-listed-requires : goal.spread-listed-requires
spread-listed-requires c =
    let ds : length c.args.p.destinations.rows ≡ 64 = search (rules, all-rows) in
    let ks : length c.args.p.closings.rows ≡ 256 = search (rules, all-closings) in
    (sound c.args.p c.min.result c.min.ensures ds c.register-registered.result c.register-registered.ensures c.min-2.result c.min-2.ensures ks (tally c.close_each.new.rows c.close_each.result) c.close_each.ensures.done, search rules)

pub returns : goal.returns
returns c =
    let ds : length c.args.p.destinations.rows ≡ 64 = search (rules, all-rows) in
    let ks : length c.args.p.closings.rows ≡ 256 = search (rules, all-closings) in
    let ls : length c.args.p.lists.rows ≡ 16 = search (rules, all-spans) in
    ran-is c.args.p c.min.result c.min.ensures ds c.register-registered.result c.register-registered.ensures c.min-2.result c.min-2.ensures ks (tally c.close_each.new.rows c.close_each.result) c.close_each.ensures.done
    c.min-ln.result c.min-ln.ensures ls c.spread-listed.result c.spread-listed.ensures
