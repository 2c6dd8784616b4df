-- `wave_print::put_line` meets its contract: the letter and the index, a space, then what the list was answered. Assumes nothing.
use Rattle.std.specs.Prelude.{◌≡◌, refl, List, [], ◌∷◌, ◌++◌, ℕ, ◌+◌, ◌≤◌, length, set}
use Rattle.std.proofs.Common.{sym, ap, ap₂, ◌∙◌, arith, length-set}
use Rattle.decimal.specs.Decimal.{natural}
use Rattle.decimal.specs.Put.{put_of}
use Rattle.std.specs.declared.result.Result.TheVariants.{Err}
use Rattle.wave_print.specs.Print.{named, spaced, refused_text, said_text_by, line_text_by}
use Rattle.wave_print.proofs.Pieces.{Puts, first-room, rest-room, kept, then}
use Rattle.wave_print.proofs.Runs.{Said}
use Rattle.wave_print.proofs.put_line.Goals as goal

module _ {R : Type 0} (number place : R → ℕ) (index : ℕ) (l : Said R) (out : List ℕ) (at : ℕ) (room : at + length (line_text_by number place index l) ≤ length out) where
  abbrev said : List ℕ
  said = said_text_by number place l

  abbrev begin : List ℕ
  begin = named 76 (natural index)

  asked : at + length (begin ++ spaced said) ≤ length out
  unfolding line_text_by
  asked = room

  begin-room : at + length begin ≤ length out
  begin-room = first-room begin (spaced said) at asked

  module _ {next : ℕ} {m : List ℕ} (p : Puts begin out at next m) where
    left : next + length (spaced said) ≤ length m
    left = rest-room begin out at p (spaced said) asked

    same : length m ≡ length out
    same = kept begin out at p

    -- what was answered, put after the space, makes the line
    said-room : (t : List ℕ) → said ≡ t → next + 1 + length t ≤ length (set m next 32)
    said-room t e = simp length-set (omega (arith, left, ap length e))

    whole : (t : List ℕ) → said ≡ t → {end : ℕ} {n : List ℕ} → Puts t (set m next 32) (next + 1) end n → Puts (line_text_by number place index l) out at end n
    unfolding line_text_by
    whole t e q =
        then begin out at p (spaced said)
        (then (32 ∷ []) m next refl said (q ∙ ap (λ (x : List ℕ). put_of x (set m next 32) (next + 1)) (sym e)))

-- a reason is told by the number and the place that the code has
told : {R : Type 0} (number place : R → ℕ) {l : Said R} {r : R} {n p : ℕ} → l ≡ Err r → n ≡ number r → p ≡ place r → said_text_by number place l ≡ refused_text n p
unfolding said_text_by
told number place e f g = ap (said_text_by number place) e ∙ sym (ap₂ refused_text f g)

pub put_named-named-requires : goal.put_named-named-requires
put_named-named-requires g c = begin-room g.R.Reason.number g.R.Reason.place c.args.index c.args.l c.args.out.now c.args.at c.requires

pub bounds-out-named : goal.bounds-out-named
bounds-out-named g c = omega (arith, left g.R.Reason.number g.R.Reason.place c.args.index c.args.l c.args.out.now c.args.at c.requires c.put_named-named.ensures)

pub overflow_add-named : goal.overflow_add-named
overflow_add-named g c =
    let a = c.args in
    omega (arith, left g.R.Reason.number g.R.Reason.place a.index a.l a.out.now a.at c.requires c.put_named-named.ensures, same g.R.Reason.number g.R.Reason.place a.index a.l a.out.now a.at c.requires c.put_named-named.ensures, c.well_formed)

pub put_pair-requires : goal.put_pair-requires
unfolding said_text_by
put_pair-requires g c = said-room g.R.Reason.number g.R.Reason.place c.args.index c.args.l c.args.out.now c.args.at c.requires c.put_named-named.ensures _ (ap (said_text_by g.R.Reason.number g.R.Reason.place) c.in-Ok.is)

pub returns-in-Ok : goal.returns-in-Ok
unfolding said_text_by
returns-in-Ok g c = whole g.R.Reason.number g.R.Reason.place c.args.index c.args.l c.args.out.now c.args.at c.requires c.put_named-named.ensures _ (ap (said_text_by g.R.Reason.number g.R.Reason.place) c.in-Ok.is) c.put_pair.ensures

pub overflow_add-named-in-Err : goal.overflow_add-named-in-Err
overflow_add-named-in-Err g c =
    let a = c.args in
    omega (arith, left g.R.Reason.number g.R.Reason.place a.index a.l a.out.now a.at c.requires c.put_named-named.ensures, same g.R.Reason.number g.R.Reason.place a.index a.l a.out.now a.at c.requires c.put_named-named.ensures, c.well_formed)

pub put_refusal-requires : goal.put_refusal-requires
put_refusal-requires g c = said-room g.R.Reason.number g.R.Reason.place c.args.index c.args.l c.args.out.now c.args.at c.requires c.put_named-named.ensures _ (told g.R.Reason.number g.R.Reason.place c.in-Err.is c.number.ensures c.place.ensures)

pub returns-in-Err : goal.returns-in-Err
returns-in-Err g c = whole g.R.Reason.number g.R.Reason.place c.args.index c.args.l c.args.out.now c.args.at c.requires c.put_named-named.ensures _ (told g.R.Reason.number g.R.Reason.place c.in-Err.is c.number.ensures c.place.ensures) c.put_refusal.ensures
