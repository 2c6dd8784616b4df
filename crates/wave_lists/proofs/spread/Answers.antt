-- `wave_lists::spread` meets its contract: after some lists the rows and lines are those that these leave, and the rows are well formed again. Assumes nothing.
use Rattle.std.specs.Prelude.{false, ◌+◌, ◌<◌, map, length, set, take}
use Rattle.std.proofs.Common.{sym, ap, ◌∙◌, subst, arith, length-set, take_all, rules, refl}
use Rattle.std.proofs.lemmas.List.{length-map}
use Rattle.board.proofs.ViewLaws.{mapped}
use Rattle.board_spread.specs.Spread.{Pruned, pruned, sound_rows}
use Rattle.board_spread.proofs.Theorems.{pruned-sound}
use Rattle.sheet_form.specs.Held.{no_span}
use Rattle.wave_form.specs.Wave.{part}
use Rattle.wave_lists.specs.Listed.{listed_of}
use Rattle.wave_lists.proofs.Lists.{list_at, Turned, pruned-rows, pruned-said, turned-start, turned_more, turned-end}
use Rattle.wave_lists.proofs.spread.Goals as goal

pub loop-i-init : goal.loop-i-init
loop-i-init c = (search (rules, mapped), refl, c.requires.0, turned-start c.args.count c.args.rows)

pub loop-i-preserved : goal.loop-i-preserved
loop-i-preserved c =
    let a = c.args in
    let l = c.loop-i in
    let lists = map (part a.ids.now) a.lists.now in
    let reached : l.i < length lists = omega (arith, length-map a.lists.now (part a.ids.now)) in
    let did = c.prune-did in
    let rows = pruned-rows did.new.rows did.result in
    let said = pruned-said did.new.rows did.result c.map.result _ (λ p y q. search rules) c.map.ensures.cases in (
      did.array_long,
      rw length-set l.invariant.1,
      (λ t. sound_rows (sym rows t) a.count) ∙ ap (λ (p : Pruned). sound_rows p.rows a.count) did.ensures ∙ pruned-sound l.rows a.count c.list_of-list.result.now l.invariant.0 l.invariant.2,
      subst (λ (p : Pruned). Turned a.count (take (l.i + 1) lists) a.rows p.rows (set l.lines l.i p.answer)) (λ t. record { rows = rows t; raised = false; answer = said t })
          (turned_more a.count lists a.rows l.rows l.lines l.i reached l.invariant.3 (part a.ids.now no_span) c.list_of-list.result.now
          (list_at a.ids.now a.lists.now l.i ∙ sym c.list_of-list.ensures) (pruned did.new.rows did.result) did.ensures),
    )

pub returns : goal.returns
returns c =
    let a = c.args in
    let l = c.loop-i in
    let lists = map (part a.ids.now) a.lists.now in
    turned-end a.count _ a.rows l.rows l.lines l.invariant.3
    ∙ ap (listed_of a.rows a.count) (take_all l.i lists (omega (arith, length-map a.lists.now (part a.ids.now))))
