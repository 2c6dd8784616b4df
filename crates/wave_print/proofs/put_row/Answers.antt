-- `wave_print::put_row` meets its contract: the letter and the id, how many chutes are held, the bounds, the end of the line. Assumes nothing.
use Rattle.std.specs.Prelude.{◌≡◌, refl, List, ◌++◌, ℕ, ◌+◌, ◌≤◌, ℤ, length, set}
use Rattle.std.proofs.Common.{sym, ap, ◌∙◌, arith, rules}
use Rattle.decimal.specs.Decimal.{natural}
use Rattle.decimal.specs.Put.{put_of}
use Rattle.offset.specs.Wide.{read32}
use Rattle.board.specs.declared.Row.{Row}
use Rattle.domain.specs.Set.{values_of, set_of}
use Rattle.domain.proofs.Ends.{size-ones}
use Rattle.wave_print.specs.Print.{named, spaced, lf, bounds_text, row_text}
use Rattle.wave_print.proofs.Pieces.{Puts, first-room, rest-room, kept, then}
use Rattle.wave_print.proofs.put_row.Goals as goal

-- what is put, by the numbers that the code has, and the room that is left
module _ (row : Row) (out : List ℕ) (at : ℕ) (room : at + length (row_text row.id.0 (set_of row.domain)) ≤ length out) where
  abbrev id : List ℕ
  id = named 68 (natural row.id.0)

  abbrev size : List ℕ
  size = spaced (natural (length (set_of row.domain)))

  abbrev ends : List ℕ
  ends = bounds_text (set_of row.domain)

  asked : at + length (id ++ (size ++ (ends ++ lf))) ≤ length out
  unfolding row_text
  asked = room

  id-room : (k : ℕ) → k ≡ row.id.0 → at + length (named 68 (natural k)) ≤ length out
  id-room k e = omega (arith, first-room id (size ++ (ends ++ lf)) at asked, ap (λ (j : ℕ). length (natural j)) e)

  module _ {k : ℕ} (e : k ≡ row.id.0) {next : ℕ} {m : List ℕ} (p : Puts (named 68 (natural k)) out at next m) where
    first : Puts id out at next m
    first = p ∙ ap (λ (j : ℕ). put_of (named 68 (natural j)) out at) e

    first-left : next + length (size ++ (ends ++ lf)) ≤ length m
    first-left = rest-room id out at first (size ++ (ends ++ lf)) asked

    size-room : (n : ℕ) → n ≡ length (set_of row.domain) → next + length (spaced (natural n)) ≤ length m
    size-room n f = omega (arith, first-room size (ends ++ lf) next first-left, ap (λ (i : ℕ). length (natural i)) f)

    module _ {n : ℕ} (f : n ≡ length (set_of row.domain)) {then-at : ℕ} {o : List ℕ} (q : Puts (spaced (natural n)) m next then-at o) where
      second : Puts size m next then-at o
      second = q ∙ ap (λ (i : ℕ). put_of (spaced (natural i)) m next) f

      second-left : then-at + length (ends ++ lf) ≤ length o
      second-left = rest-room size m next second (ends ++ lf) first-left

      ends-room : (lo : ℤ) → lo ≡ row.domain.min → then-at + length (bounds_text (values_of lo row.domain.mask)) ≤ length o
      ends-room lo g = omega (arith, first-room ends lf then-at second-left, ap (λ (x : ℤ). length (bounds_text (values_of x row.domain.mask))) g)

      module _ {lo : ℤ} (g : lo ≡ row.domain.min) {end : ℕ} {l : List ℕ} (r : Puts (bounds_text (values_of lo row.domain.mask)) o then-at end l) where
        third : Puts ends o then-at end l
        third = r ∙ ap (λ (x : ℤ). put_of (bounds_text (values_of x row.domain.mask)) o then-at) g

        end-room : end + 1 ≤ length l
        end-room = rest-room ends o then-at third lf second-left

        same : length l ≡ length out
        same = kept ends o then-at third ∙ kept size m next second ∙ kept id out at first

        whole : Puts (row_text row.id.0 (set_of row.domain)) out at (end + 1) (set l end 10)
        unfolding row_text
        whole = then id out at first (size ++ (ends ++ lf)) (then size m next second (ends ++ lf) (then ends o then-at third lf refl))

pub put_named-named-requires : goal.put_named-named-requires
put_named-named-requires c = id-room c.args.row c.args.out.now c.args.at c.requires c.from.result c.from.ensures

pub put_spaced-counted-requires : goal.put_spaced-counted-requires
put_spaced-counted-requires c =
    let d = c.args.row.domain in
    size-room c.args.row c.args.out.now c.args.at c.requires c.from.ensures c.put_named-named.ensures c.count.result
    (c.count.ensures.0 ∙ sym (size-ones d.min d.mask))

pub put_bounds-end-requires : goal.put_bounds-end-requires
put_bounds-end-requires c =
    let d = c.args.row.domain in
    ends-room c.args.row c.args.out.now c.args.at c.requires c.from.ensures c.put_named-named.ensures (c.count.ensures.0 ∙ sym (size-ones d.min d.mask)) c.put_spaced-counted.ensures _
    (read32 (search rules))

pub bounds-out-end : goal.bounds-out-end
bounds-out-end c =
    let d = c.args.row.domain in
    omega (
      arith,
      end-room c.args.row c.args.out.now c.args.at c.requires c.from.ensures c.put_named-named.ensures (c.count.ensures.0 ∙ sym (size-ones d.min d.mask)) c.put_spaced-counted.ensures
          (read32 (search rules))
          c.put_bounds-end.ensures,
    )

pub overflow_add-result : goal.overflow_add-result
overflow_add-result c =
    let a = c.args in
    let d = a.row.domain in
    let n = c.count.ensures.0 ∙ sym (size-ones d.min d.mask) in
    omega (
      arith,
      end-room a.row a.out.now a.at c.requires c.from.ensures c.put_named-named.ensures n c.put_spaced-counted.ensures (read32 (search rules)) c.put_bounds-end.ensures,
      same a.row a.out.now a.at c.requires c.from.ensures c.put_named-named.ensures n c.put_spaced-counted.ensures (read32 (search rules)) c.put_bounds-end.ensures,
      c.well_formed,
    )

pub returns : goal.returns
returns c =
    let d = c.args.row.domain in
    whole c.args.row c.args.out.now c.args.at c.requires c.from.ensures c.put_named-named.ensures (c.count.ensures.0 ∙ sym (size-ones d.min d.mask)) c.put_spaced-counted.ensures
    (read32 (search rules))
    c.put_bounds-end.ensures
