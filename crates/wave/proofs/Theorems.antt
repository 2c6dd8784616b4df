-- What the wave prints is what the rules of 01 say of its sheet; its text is never longer than `most`; it is refused exactly where the text doesn't
-- fit, so with that much room never. Assumes nothing.
use Rattle.std.specs.Prelude.{◌≡◌, refl, Bool, true, false, List, [], ◌∷◌, ◌++◌, map, ◌↔◌, ℕ, suc, ◌≤◌, ◌<◌, leb, length, take, drop, Result}
use Rattle.std.specs.declared.result.Result.TheVariants.{Ok}
use Rattle.std.proofs.Common.{sym, ap, ap₂, ◌∙◌, subst, arith, leb-true, leb-false}
use Rattle.std.proofs.lemmas.List.{length-map}
use Rattle.rules.specs.Board as rules
use Rattle.rules.specs.declared.Refusal.TheVariants.{NoRoom}
use Rattle.rules.proofs.WellFormed.{well-blank, well-run}
use Rattle.board.specs.View.{view}
use Rattle.board.proofs.WellLaws.{well-says}
use Rattle.domain_text.specs.Text.{Written, refuses}
use Rattle.domain_text.proofs.Writes.{room, no_room}
use Rattle.sheet_form.specs.declared.Destination.{Destination}
use Rattle.rules.specs.declared.Pair.{Pair}
use Rattle.rules.specs.declared.Refusal.{Refusal}
use Rattle.sheet_form.specs.Sheet.{Sheet, All, Few}
use Rattle.sheet_form.specs.Held.{filled}
use Rattle.sheet_number.specs.Number.{Got, got, fault}
use Rattle.sheet_number.specs.declared.Fault.{Fault}
use Rattle.sheet_number.specs.declared.Fault.TheVariants.{IllWritten, OutOfRange, Separator, Ended, Trailing, TooLong}
use Rattle.sheet.specs.Sheet.{read_sheet}
use Rattle.sheet.specs.Write.{GoodDestination, Good}
use Rattle.sheet_laws.proofs.Only.{only-good}
use Rattle.sheet_laws.proofs.Places.{fault-place}
use Rattle.sheet_laws.specs.First.{First}
use Rattle.sheet_laws.proofs.FaultFirst.{first-told}
use Rattle.wave_form.specs.Wave.{board_of, lines_of, line_by, opening_of, calls_of, ran_of, no_line}
use Rattle.wave_form.proofs.Theorems.{board-view, board-good, lines-answers}
use Rattle.wave_form.proofs.Back.{filled-front}
use Rattle.wave_print.specs.Print.{printed, refused_text, most}
use Rattle.wave_print.proofs.Room.{printed-few, bad-few}
use Rattle.wave.specs.Text.{told_of, wave_text, wave_of, ran_text}
use Rattle.wave.proofs.Small.{Within32, brief-run}
use Rattle.wave.proofs.Answers.{answers-terse}

-- ---- what is printed

-- the rules' board after the sheet's calls, and what they answer to each list
abbrev pub ruled : Sheet → List ℕ
ruled sh =
    printed (rules.run (calls_of sh) rules.blank).now
    (map line_by (rules.answers (map rules.spread sh.lists) (rules.run (opening_of sh) rules.blank)))

told-ruled : (sh : Sheet) (e : ℕ) → told_of (got sh e) ≡ ruled sh
unfolding told_of
told-ruled sh e = ap₂ (λ (b : rules.Board) (ls : List (Result Pair Refusal)). printed b.now ls) (board-view sh) (lines-answers sh)

pub prints-ruled : (bytes : List ℕ) (sh : Sheet) (e : ℕ) → read_sheet bytes ≡ got sh e → wave_text bytes ≡ ruled sh
unfolding wave_text
prints-ruled bytes sh e q = ap told_of q ∙ told-ruled sh e

pub told-bad : (why : Fault) (p : ℕ) → told_of (fault why p) ≡ refused_text 15 p
unfolding told_of
told-bad IllWritten p = refl
told-bad OutOfRange p = refl
told-bad Separator p = refl
told-bad Ended p = refl
told-bad Trailing p = refl
told-bad TooLong p = refl

pub prints-bad : (bytes : List ℕ) (why : Fault) (p : ℕ) → read_sheet bytes ≡ fault why p → wave_text bytes ≡ refused_text 15 p
unfolding wave_text
prints-bad bytes why p q = ap told_of q ∙ told-bad why p

-- the place that is printed, with no word of a reader: the first at which the bytes can't be a good sheet's text
pub prints-first : (bytes : List ℕ) (p : ℕ) → length bytes ≤ 32768 → First bytes p → wave_text bytes ≡ refused_text 15 p
prints-first bytes p h f = let k = first-told bytes p h f in prints-bad bytes k.0 p k.1

-- ---- how long it is

within : (ds : List Destination) → All GoodDestination ds → All Within32 ds
unfolding All
within [] h = tt
within (d ∷ ds) h = (record { id = h.0.id; min = h.0.min; max = h.0.max }, within ds h.1)

answers-length : (cs : List rules.Call) (b : rules.Board) → length (rules.answers cs b) ≡ length cs
answers-length [] b = refl
answers-length (c ∷ cs) b = ap suc (answers-length cs (rules.act c b))

pub lines-length : (sh : Sheet) → length (lines_of sh) ≡ length sh.lists
lines-length sh =
    let cs = map rules.spread sh.lists in
    let b = rules.run (opening_of sh) rules.blank in
    ap length (lines-answers sh) ∙ length-map (rules.answers cs b) line_by ∙ answers-length cs b ∙ length-map sh.lists rules.spread

good-few : (sh : Sheet) → Good sh → length (ruled sh) ≤ most
good-few sh g =
    printed-few (rules.run (calls_of sh) rules.blank).now (map line_by (rules.answers (map rules.spread sh.lists) (rules.run (opening_of sh) rules.blank)))
    (well-run (calls_of sh) rules.blank well-blank).few-rows
    (omega (arith, ap length (lines-answers sh), lines-length sh, g.few.lists))
    (brief-run sh (within sh.destinations g.destinations))
    (answers-terse sh.lists (rules.run (opening_of sh) rules.blank) g.few.ids)

-- no sheet's text is longer than `most`
pub text-few : (bytes : List ℕ) → length (wave_text bytes) ≤ most
text-few bytes = go (read_sheet bytes) refl
  where
    go : (g : Got Sheet) → read_sheet bytes ≡ g → length (wave_text bytes) ≤ most
    go (got sh e) q = subst (λ (t : List ℕ). length t ≤ most) (sym (prints-ruled bytes sh e q)) (good-few sh (only-good bytes sh e q).good)
    go (fault why p) q = subst (λ (t : List ℕ). length t ≤ most) (sym (prints-bad bytes why p q)) (bad-few p (omega (arith, fault-place bytes why p q)))

-- ---- where it fits

either : {A : Type 0} (m n : ℕ) → (m ≤ n → A) → (n < m → A) → A
either {A} m n f g = go (leb m n) refl
  where
    go : (b : Bool) → leb m n ≡ b → A
    go true e = f (leb-true m n e)
    go false e = g (leb-false m n e)

module _ (bytes cells : List ℕ) where
  -- the text in the first of the lent bytes, the others as they came, and how long it is
  abbrev pub text_first : Written
  text_first = record { answer = Ok (length (wave_text bytes)); cells = wave_text bytes ++ drop (length (wave_text bytes)) cells }

  fits : length (wave_text bytes) ≤ length cells → wave_of bytes cells ≡ text_first
  unfolding wave_of
  fits h = sym (room (wave_text bytes) cells refl h refl)

  refused : length cells < length (wave_text bytes) → wave_of bytes cells ≡ refuses NoRoom cells
  unfolding wave_of
  refused h = sym (no_room (wave_text bytes) cells refl h)

  apart : text_first ≡ refuses NoRoom cells → ⊥
  apart e = let f = ap (λ (w : Written). w.answer) e in let z : ◌≡◌ {A = ℕ} 0 1 = cc in omega arith

  -- the text is written exactly where it fits; it is NoRoom, and all lent bytes are as they came, exactly where it is longer
  pub room-exactly : ((wave_of bytes cells ≡ text_first) ↔ (length (wave_text bytes) ≤ length cells)) × ((wave_of bytes cells ≡ refuses NoRoom cells) ↔ (length cells < length (wave_text bytes)))
  room-exactly =
      either (length (wave_text bytes)) (length cells)
      (λ h. ((λ e. h, fits), (λ e. absurd (apart (sym (fits h) ∙ e)), λ k. absurd (omega arith))))
      (λ k. ((λ e. absurd (apart (sym e ∙ refused k)), λ h. absurd (omega arith)), (λ e. k, refused)))

  -- with as much room as `most` the wave is never refused
  pub always-room : most ≤ length cells → (wave_of bytes cells).answer ≡ Ok (length (wave_text bytes))
  always-room h = ap (λ (w : Written). w.answer) (room-exactly.0.1 (omega (arith, text-few bytes)))

-- ---- what the code comes to

pub ran-text : (sh : Sheet) (e : ℕ) → Few sh → ran_text (ran_of sh) ≡ told_of (got sh e)
unfolding ran_of told_of
ran-text sh e few =
    ap (printed (view (board_of sh)).now)
    (ap (λ (n : ℕ). take n (filled 16 no_line (lines_of sh))) (sym (lines-length sh)) ∙ filled-front 16 no_line (lines_of sh) (omega (arith, lines-length sh, few.lists)))

pub ran-fits : (sh : Sheet) → Few sh → ((ran_of sh).count ≤ 64) × ((ran_of sh).ln ≤ 16)
unfolding ran_of
ran-fits sh few = ((well-says (board_of sh).rows (board_of sh).count (board_of sh).saved (board_of sh).marks (board-good sh).1).few-rows, few.lists)
