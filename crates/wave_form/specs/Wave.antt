-- What a sheet leads to: the public calls that it asks for, one after another, from a blank board on. Assumes nothing.
use Rattle.std.specs.Prelude.{true, false, List, [], ◌∷◌, ◌++◌, map, ℕ, length, take, drop, Result}
use Rattle.rules.specs.Board as rules
use Rattle.std.specs.declared.result.Result.TheVariants.{Ok, Err}
use Rattle.rules.specs.declared.Refusal.{Refusal}
use Rattle.domain.specs.Set.{set_of}
use Rattle.domain.specs.Calls.{new_of}
use Rattle.closing.specs.Kinds.{kind_of}
use Rattle.closing.specs.declared.Closing.{Closing}
use Rattle.board.specs.declared.Board.{Board}
use Rattle.board_enter.specs.Enter.{blank, enter_of}
use Rattle.board_close.specs.Close.{close_of}
use Rattle.board_spread.specs.Spread.{spread_of}
use Rattle.rules.specs.declared.Pair.{Pair}
use Rattle.sheet_form.specs.Sheet.{Sheet}
use Rattle.sheet_form.specs.Held.{filled}
use Rattle.sheet_form.specs.declared.Destination.{Destination}
use Rattle.sheet_form.specs.declared.Span.{Span}
use Rattle.sheet_form.specs.declared.Parsed.{Parsed}
use Rattle.wave_form.specs.declared.Ran.{Ran}

-- ---- the public calls

abbrev pub registering : Destination → Board → Board
registering d b = (enter_of b d.id (new_of true d.min d.max)).board

abbrev pub closing : Closing → Board → Board
closing k b = (close_of (kind_of k.kind) b k.id k.value).board

abbrev pub spreading : List ℕ → Board → Board
spreading is b = (spread_of b is).board

abbrev pub answering : List ℕ → Board → Result Pair Refusal
answering is b = (spread_of b is).answer

-- each in order, on what the last one left; and what each answers
unfoldable pub each : {A S : Type 0} → (A → S → S) → List A → S → S
each f [] s = s
each f (a ∷ l) s = each f l (f a s)

unfoldable pub told : {A S R : Type 0} → (A → S → S) → (A → S → R) → List A → S → List R
told f g [] s = []
told f g (a ∷ l) s = g a s ∷ told f g l (f a s)

-- ---- a sheet

-- the board that the lists find: destinations registered, closings applied
unfoldable pub closed_of : Sheet → Board
closed_of sh = each closing sh.closings (each registering sh.destinations blank)

-- each list propagated once
unfoldable pub board_of : Sheet → Board
board_of sh = each spreading sh.lists (closed_of sh)

-- what each list is answered
unfoldable pub pairs_of : Sheet → List (Result Pair Refusal)
pairs_of sh = told spreading answering sh.lists (closed_of sh)

-- ---- what is told of it

abbrev pub no_line : Result Pair Refusal
no_line = Ok (record { changed = false; consistent = false })

-- the pair, or the refusal; a list is answered nothing else
abbrev pub line_by : rules.Answer → Result Pair Refusal
line_by (rules.outcome changed consistent) = Ok (record { changed = changed; consistent = consistent })
line_by (rules.denied r) = Err r
line_by rules.done = no_line
line_by (rules.said y) = no_line
line_by (rules.count n) = no_line
line_by (rules.chute v) = no_line
line_by (rules.ends lo hi) = no_line
line_by (rules.held vs) = no_line
line_by (rules.named is) = no_line

abbrev pub lines_of : Sheet → List (Result Pair Refusal)
lines_of sh = pairs_of sh

unfoldable pub ran_of : Sheet → Ran
ran_of sh = record { rows = (board_of sh).rows; count = (board_of sh).count; lines = filled 16 no_line (lines_of sh); ln = length sh.lists }

-- ---- the sheet that arrays hold: as much of each as its count says, each list from where its own ids begin

abbrev pub part : List ℕ → Span → List ℕ
part ids s = take s.len (drop s.start ids)

unfoldable pub sheet_of : Parsed → Sheet
sheet_of p =
    record {
      destinations = take p.destinations.count p.destinations.rows;
      closings = take p.closings.count p.closings.rows;
      lists = map (part p.ids) (take p.lists.count p.lists.rows);
    }

-- ---- in the words of the rules

abbrev pub registers : Destination → rules.Call
registers d = rules.register d.id.0 (set_of (new_of true d.min d.max))

abbrev pub closes : Closing → rules.Call
closes k = rules.close (record { kind = kind_of k.kind; id = k.id.0; value = k.value.0 })

-- the calls before the lists, and all of them
abbrev pub opening_of : Sheet → List rules.Call
opening_of sh = map registers sh.destinations ++ map closes sh.closings

abbrev pub calls_of : Sheet → List rules.Call
calls_of sh = opening_of sh ++ map rules.spread sh.lists
