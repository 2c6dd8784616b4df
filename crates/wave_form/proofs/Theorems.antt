-- What a sheet leads to is what the rules of 01 say: the board, and every list's answer. No registration is refused.
use Rattle.std.specs.Prelude.{◌≡◌, refl, Bool, true, false, cond, List, [], ◌∷◌, map, ℕ, ◌+◌, ◌<◌, ◌≤◌, eqb, ltb, length, take, Result}
use Rattle.std.specs.declared.result.Result.TheVariants.{Ok, Err}
use Rattle.std.proofs.Common.{sym, ap, ◌∙◌, arith, length-take-le, ltb-true, ltb-false}
use Rattle.rules.specs.Board as rules
use Rattle.rules.specs.declared.Refusal.TheVariants.{Broken, Full, TrialOpen}
use Rattle.domain.specs.Calls.{new_of}
use Rattle.closing.specs.Kinds.{kind_of}
use Rattle.closing.specs.declared.Closing.{Closing}
use Rattle.board.specs.Rows.{nowhere, seat}
use Rattle.board.specs.Well.{well_board}
use Rattle.board.specs.View.{view}
use Rattle.board.specs.Answers.{done, denied}
use Rattle.board.specs.Obeys.{told_of, outcome_of, Whole, Obeys}
use Rattle.board.specs.declared.Board.{Board}
use Rattle.board.specs.declared.Settled.{Settled}
use Rattle.board_enter.specs.Enter.{blank, entered, enter_of}
use Rattle.board_enter.proofs.Entering.{enter-known, enter-new}
use Rattle.board_enter.proofs.Theorems.{add-obeys, blank-well, blank-whole, blank-view}
use Rattle.board_close.specs.Close.{close_of}
use Rattle.board_close.proofs.Theorems.{close-obeys}
use Rattle.board_spread.specs.Spread.{spread_of, pair_of}
use Rattle.rules.specs.declared.Pair.{Pair}
use Rattle.board_spread.proofs.Theorems.{spread-obeys}
use Rattle.sheet_form.specs.Sheet.{Sheet, Few}
use Rattle.sheet_form.specs.declared.Destination.{Destination}
use Rattle.rules.specs.declared.Refusal.{Refusal}
use Rattle.wave_form.specs.Wave.{registering, closing, spreading, answering, each, told, closed_of, board_of, pairs_of, line_by, lines_of, registers, closes, opening_of, calls_of}
use Rattle.wave_form.proofs.Each.{each_keeps, each-good, each-view, run-append}

-- a board that every call takes
abbrev pub Good : Board → Type 0
Good b = Whole b × (well_board b ≡ true)

pub blank-good : Good blank
blank-good = (blank-whole, blank-well)

-- ---- each kind of call does as the rules say

register-obeys : (d : Destination) (b : Board) → Whole b → well_board b ≡ true → Obeys (registers d) b (registering d b) (outcome_of (enter_of b d.id (new_of true d.min d.max)).answer)
register-obeys d b whole w = add-obeys b d.id d.min d.max whole w

shut-obeys : (k : Closing) (b : Board) → Whole b → well_board b ≡ true → Obeys (closes k) b (closing k b) (told_of (close_of (kind_of k.kind) b k.id k.value).answer)
shut-obeys k b whole w = close-obeys (kind_of k.kind) b k.id k.value whole w

list-obeys : (l : List ℕ) (b : Board) → Whole b → well_board b ≡ true → Obeys (rules.spread l) b (spreading l b) (pair_of (spread_of b l).answer)
list-obeys l b whole w = spread-obeys b l whole w

pub registered-good : (ds : List Destination) (b : Board) → Good b → Good (each registering ds b)
registered-good = each-good registering registers (λ d b. outcome_of (enter_of b d.id (new_of true d.min d.max)).answer) register-obeys

pub closed-good : (ks : List Closing) (b : Board) → Good b → Good (each closing ks b)
closed-good = each-good closing closes (λ k b. told_of (close_of (kind_of k.kind) b k.id k.value).answer) shut-obeys

pub spread-good : (ls : List (List ℕ)) (b : Board) → Good b → Good (each spreading ls b)
spread-good = each-good spreading rules.spread (λ l b. pair_of (spread_of b l).answer) list-obeys

-- what the lists are answered is what the rules answer
pub pairs-answers : (ls : List (List ℕ)) (b : Board) → Good b → map pair_of (told spreading answering ls b) ≡ rules.answers (map rules.spread ls) (view b)
unfolding told
pairs-answers [] b g = refl
pairs-answers (l ∷ ls) b g =
    let o = list-obeys l b g.0 g.1 in
    let rest = pairs-answers ls (spreading l b) (o.whole, o.well) ∙ ap (rules.answers (map rules.spread ls)) o.acts in
    λ t. o.answers t ∷ rest t

line-by : (p : Result Pair Refusal) → p ≡ line_by (pair_of p)
line-by (Ok p) = refl
line-by (Err r) = refl

lines-by : (ps : List (Result Pair Refusal)) → ps ≡ map line_by (map pair_of ps)
lines-by [] = refl
lines-by (p ∷ ps) = λ t. line-by p t ∷ lines-by ps t

-- ---- a sheet

module _ (sh : Sheet) where
  abbrev ready : Board
  ready = each registering sh.destinations blank

  ready-good : Good ready
  ready-good = registered-good sh.destinations blank blank-good

  pub closed-view : view (closed_of sh) ≡ rules.run (opening_of sh) rules.blank
  unfolding closed_of
  closed-view =
      each-view closing closes (λ k b. told_of (close_of (kind_of k.kind) b k.id k.value).answer) shut-obeys sh.closings ready ready-good
      ∙ ap (rules.run (map closes sh.closings))
      (each-view registering registers (λ d b. outcome_of (enter_of b d.id (new_of true d.min d.max)).answer) register-obeys sh.destinations blank blank-good
      ∙ ap (rules.run (map registers sh.destinations)) blank-view)
      ∙ sym (run-append (map registers sh.destinations) (map closes sh.closings) rules.blank)

  pub closed-sheet-good : Good (closed_of sh)
  unfolding closed_of
  closed-sheet-good = closed-good sh.closings ready ready-good

  -- the board is seen to be the rules' board after the sheet's calls
  pub board-view : view (board_of sh) ≡ rules.run (calls_of sh) rules.blank
  unfolding board_of
  board-view =
      each-view spreading rules.spread (λ l b. pair_of (spread_of b l).answer) list-obeys sh.lists (closed_of sh) closed-sheet-good
      ∙ ap (rules.run (map rules.spread sh.lists)) closed-view
      ∙ sym (run-append (opening_of sh) (map rules.spread sh.lists) rules.blank)

  pub board-good : Good (board_of sh)
  unfolding board_of
  board-good = spread-good sh.lists (closed_of sh) closed-sheet-good

  -- each list is answered as the rules answer it, on the board as the calls before it left it
  pub lists-answers : map pair_of (pairs_of sh) ≡ rules.answers (map rules.spread sh.lists) (rules.run (opening_of sh) rules.blank)
  unfolding pairs_of
  lists-answers = pairs-answers sh.lists (closed_of sh) closed-sheet-good ∙ ap (rules.answers (map rules.spread sh.lists)) closed-view

  -- and so the rules tell each line
  pub lines-answers : lines_of sh ≡ map line_by (rules.answers (map rules.spread sh.lists) (rules.run (opening_of sh) rules.blank))
  lines-answers = lines-by (pairs_of sh) ∙ ap (map line_by) lists-answers

-- ---- no registration is refused

-- what a registration keeps, whichever way it goes
enter-either : (P : Settled → Type 0) (t : Bool) (x y : Settled) → P x → P y → P (cond t x y)
enter-either P true x y p q = p
enter-either P false x y p q = q

pub register-marks : (d : Destination) (b : Board) → b.marks ≡ 0 → (registering d b).marks ≡ 0
unfolding enter_of
register-marks d b m =
    let id = d.id in
    let e = new_of true d.min d.max in
    let p = seat b id.0 in
    let P : Settled → Type 0 = λ r. r.board.marks ≡ 0 in
    let room = cond (ltb b.count 64) (done (entered b id e b.count (b.count + 1))) (denied b Full) in
    let known = cond (ltb p nowhere) (done (entered b id e p b.count)) room in
    let free = cond (eqb b.marks 0) known (denied b TrialOpen) in
    enter-either P (well_board b) free (denied b Broken)
    (enter-either P (eqb b.marks 0) known (denied b TrialOpen)
    (enter-either P (ltb p nowhere) (done (entered b id e p b.count)) room m
    (enter-either P (ltb b.count 64) (done (entered b id e b.count (b.count + 1))) (denied b Full) m m)) m) m

pub register-count : (d : Destination) (b : Board) → (registering d b).count ≤ b.count + 1
unfolding enter_of
register-count d b =
    let id = d.id in
    let e = new_of true d.min d.max in
    let p = seat b id.0 in
    let n = b.count in
    let P : Settled → Type 0 = λ r. r.board.count ≤ n + 1 in
    let room = cond (ltb n 64) (done (entered b id e n (n + 1))) (denied b Full) in
    let known = cond (ltb p nowhere) (done (entered b id e p n)) room in
    let free = cond (eqb b.marks 0) known (denied b TrialOpen) in
    let same : n ≤ n + 1 = omega arith in
    let more : n + 1 ≤ n + 1 = omega arith in
    enter-either P (well_board b) free (denied b Broken)
    (enter-either P (eqb b.marks 0) known (denied b TrialOpen)
    (enter-either P (ltb p nowhere) (done (entered b id e p n)) room same
    (enter-either P (ltb n 64) (done (entered b id e n (n + 1))) (denied b Full) more same)) same) same

pub registered-marks : (ds : List Destination) → (each registering ds blank).marks ≡ 0
unfolding blank
registered-marks ds = each_keeps registering (λ (b : Board). b.marks ≡ 0) register-marks ds blank refl

-- no more rows than destinations
count-from : (ds : List Destination) (b : Board) → (each registering ds b).count ≤ b.count + length ds
unfolding each
count-from [] b = omega arith
count-from (d ∷ ds) b = omega (arith, count-from ds (registering d b), register-count d b)

pub registered-count : (ds : List Destination) → (each registering ds blank).count ≤ length ds
unfolding blank
registered-count ds = let n = count-from ds blank in omega arith

-- a destination that finds a row free, or its own
pub accepted : (d : Destination) (b : Board) → well_board b ≡ true → b.marks ≡ 0 → b.count < 64 → (enter_of b d.id (new_of true d.min d.max)).answer ≡ Ok tt
accepted d b w m n = go (ltb (seat b d.id.0) 64) refl
  where
    go : (t : Bool) → ltb (seat b d.id.0) 64 ≡ t → (enter_of b d.id (new_of true d.min d.max)).answer ≡ Ok tt
    go true e = ap (λ (r : Settled). r.answer) (enter-known b d.id (new_of true d.min d.max) w m (ltb-true (seat b d.id.0) 64 e))
    go false e = ap (λ (r : Settled). r.answer) (enter-new b d.id (new_of true d.min d.max) w m (ltb-false (seat b d.id.0) 64 e) n)

-- every registration of a sheet is accepted
pub registrations-accepted : (sh : Sheet) → Few sh → (i : ℕ) (d : Destination) → i < length sh.destinations → (enter_of (each registering (take i sh.destinations) blank) d.id (new_of true d.min d.max)).answer ≡ Ok tt
registrations-accepted sh few i d l =
    let ds = take i sh.destinations in
    let n = registered-count ds in
    let k : length ds ≡ i = length-take-le i sh.destinations (omega arith) in
    accepted d (each registering ds blank) (registered-good ds blank blank-good).1 (registered-marks ds) (omega (arith, few.destinations))
