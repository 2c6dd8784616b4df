-- `wave_print::put_refusal` meets its contract: the letter and the number, the place, the end of the line. Assumes nothing.
use Rattle.std.specs.Prelude.{◌≡◌, refl, List, ◌++◌, ℕ, ◌+◌, ◌≤◌, length, set}
use Rattle.std.proofs.Common.{ap, ◌∙◌, arith}
use Rattle.decimal.specs.Decimal.{natural}
use Rattle.decimal.specs.Put.{put_of}
use Rattle.wave_print.specs.Print.{named, spaced, lf, refused_text}
use Rattle.wave_print.proofs.Pieces.{Puts, first-room, rest-room, kept, then}
use Rattle.wave_print.proofs.put_refusal.Goals as goal

-- what is put, by the number that the code has, and the room that is left
module _ (number place : ℕ) (out : List ℕ) (at : ℕ) (room : at + length (refused_text number place) ≤ length out) where
  abbrev begin : List ℕ
  begin = named 82 (natural number)

  abbrev then-place : List ℕ
  then-place = spaced (natural place)

  asked : at + length (begin ++ (then-place ++ lf)) ≤ length out
  unfolding refused_text
  asked = room

  number-room : (k : ℕ) → k ≡ number → at + length (named 82 (natural k)) ≤ length out
  number-room k e = omega (arith, first-room begin (then-place ++ lf) at asked, ap (λ (j : ℕ). length (natural j)) e)

  module _ {k : ℕ} (e : k ≡ number) {next : ℕ} {m : List ℕ} (p : Puts (named 82 (natural k)) out at next m) where
    first : Puts begin out at next m
    first = p ∙ ap (λ (j : ℕ). put_of (named 82 (natural j)) out at) e

    left : next + length (then-place ++ lf) ≤ length m
    left = rest-room begin out at first (then-place ++ lf) asked

    place-room : next + length then-place ≤ length m
    place-room = first-room then-place lf next left

    module _ {end : ℕ} {n : List ℕ} (q : Puts then-place m next end n) where
      end-room : end + 1 ≤ length n
      end-room = rest-room then-place m next q lf left

      same : length n ≡ length out
      same = kept then-place m next q ∙ kept begin out at first

      whole : Puts (refused_text number place) out at (end + 1) (set n end 10)
      unfolding refused_text
      whole = then begin out at first (then-place ++ lf) (then then-place m next q lf refl)

pub put_named-named-requires : goal.put_named-named-requires
put_named-named-requires c = number-room c.args.number c.args.place c.args.out.now c.args.at c.requires c.from.result c.from.ensures

pub put_spaced-end-requires : goal.put_spaced-end-requires
put_spaced-end-requires c = place-room c.args.number c.args.place c.args.out.now c.args.at c.requires c.from.ensures c.put_named-named.ensures

pub bounds-out-end : goal.bounds-out-end
bounds-out-end c =
    omega (arith, end-room c.args.number c.args.place c.args.out.now c.args.at c.requires c.from.ensures c.put_named-named.ensures c.put_spaced-end.ensures)

pub overflow_add-result : goal.overflow_add-result
overflow_add-result c =
    let a = c.args in
    let e = c.from.ensures in
    let p = c.put_named-named.ensures in
    let q = c.put_spaced-end.ensures in
    omega (arith, end-room a.number a.place a.out.now a.at c.requires e p q, same a.number a.place a.out.now a.at c.requires e p q, c.well_formed)

pub returns : goal.returns
returns c = whole c.args.number c.args.place c.args.out.now c.args.at c.requires c.from.ensures c.put_named-named.ensures c.put_spaced-end.ensures
