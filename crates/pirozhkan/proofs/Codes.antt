-- Every answer of an exported call of the board has room in its code, so that `told_by` reads it back: a list that is looked at has at most 64 ids
-- and a batch at most 256 closings, so no place and no count comes near 2 ^ 56. Assumes nothing.
use Rattle.std.specs.Prelude.{◌≡◌, refl, Bool, true, false, not, cond, List, [], ◌∷◌, ◌++◌, map, ℕ, zero, suc, ◌+◌, ◌≤◌, ◌<◌, ◌^◌, eqb, leb, ltb, ℤ, length, drop, Result}
use Rattle.std.specs.declared.result.Result.TheVariants.{Ok, Err}
use Rattle.rules.specs.declared.Value.{Value}
use Rattle.std.specs.Int.{w32}
use Rattle.std.proofs.Common.{ap, arith, SFits, leb-true, ltb-true}
use Rattle.rules.specs.Board as rules
use Rattle.rules.specs.Pass.{pass}
use Rattle.rules.specs.Sets.{Chutes, every, some}
use Rattle.rules.specs.Refusals.{place_of}
use Rattle.rules.specs.declared.Refusal.{Refusal}
use Rattle.rules.specs.declared.Refusal.TheVariants.{Broken, Full, TrialOpen, TooDeep, NoMark, Unknown, Repeated, TooLong, NoRoom}
use Rattle.domain.specs.Set.{set_of, well}
use Rattle.domain.specs.Calls.{invalid, at, first_of, last_of, only_of, new_of, size_of, is_fixed_of, is_empty_of, fixed_value_of, min_of, max_of}
use Rattle.domain.specs.declared.BitDomain.{BitDomain}
use Rattle.domain_values.specs.Calls.{from_values_of, Written, in_front, to_vec_of}
use Rattle.domain_values.specs.Calls as written-values
use Rattle.closing.specs.declared.Closing.{Closing}
use Rattle.board.specs.Answers.{said, unsaid, done, denied}
use Rattle.board.specs.Obeys.{told_of, outcome_of}
use Rattle.board.specs.Rows.{id_at, domain_at, seat_in, seat, nowhere, with_rows}
use Rattle.board.specs.Well.{well_board}
use Rattle.board.specs.View.{view, rows_from}
use Rattle.board.specs.declared.Board.{Board}
use Rattle.board.proofs.WellLaws.{well-says}
use Rattle.board_enter.specs.Enter.{enter_of, entered}
use Rattle.board_close.specs.Close.{close_at, close_of, reset_of, changed_of}
use Rattle.board_list.specs.Places.{verdict_of}
use Rattle.board_ask.specs.Answers.{count_of, chute_of}
use Rattle.board_ask.specs.Domains.{domain_of}
use Rattle.board_ask.specs.Names.{names_of, Filled, filled, ids_into_of}
use Rattle.board_ask.specs.Questions.{domain_size_of, is_assigned_of, assigned_value_of, is_inconsistent_of, both, get_bounds_of, get_into_of}
use Rattle.board_ask.specs.Ready.{assigned, judge, ready_of}
use Rattle.board_spread.specs.Spread.{pair_of, pruned_by, pruned_of, handed, refused, spread_of}
use Rattle.trial.specs.Marks.{mark_of, restore_of, keep_of, marked, restored, released}
use Rattle.batch.specs.declared.Batched.{Batched}
use Rattle.batch.specs.Batch.{closed_all, yeses, batch_of}
use Rattle.batch.proofs.BoardLaws.{yeses-most}
use Rattle.state.specs.Layout.{read_of}
use Rattle.state.specs.Typed.{Typed}
use Rattle.reply.specs.Told.{Kind, nothing, yes_no, pair, number, told_by, Of, done-of, said_of, pair-of, count-of}
use Rattle.reply.specs.Told as kinds
use Rattle.reply.specs.Through.{boards, lent_to, Reply, through, answered}
use Rattle.reply.proofs.LentLaws as lent
use Rattle.reply.proofs.RoomLaws.{refused-of, broken-of, few-held, held_fits, only_of_lem}
use Rattle.pirozhkan.specs.Calls.{named, chute, ranging, listing, closing, resetting, spreading, marking, restoring, keeping, whether_ready, sizing, whether_assigned, assigned_to, whether_inconsistent, whether_changed}
use Rattle.pirozhkan.specs.Batches.{batching}

-- ---- what the code of a call tells, if its answers have room

pub answered-told : (k : Kind) (f : Board → rules.Answer) → ((b : Board) → Of k (f b)) → (ws : List ℕ) → told_by k (answered f ws) ≡ lent_to ws (λ a. a) f
answered-told k f room ws = lent.answered-told boards k f ws (room (read_of ws))

pub through-told : (k : Kind) (f : Board → Reply) → ((b : Board) → Of k (f b).answer) → (ws : List ℕ) → told_by k (through f ws).code ≡ lent_to ws (λ a. a) (λ b. (f b).answer)
through-told k f room ws = lent.through-told boards k f ws (room (read_of ws))

-- ---- the parts

entering : (d : BitDomain) (id : ℕ) (b : Board) → Of nothing (outcome_of (enter_of b (named id) d).answer)
unfolding enter_of
entering d id b = go (well_board b) (eqb b.marks 0) (ltb (seat b id) nowhere) (ltb b.count 64)
  where
    known : Board
    known = entered b (named id) d (seat b id) b.count

    new : Board
    new = entered b (named id) d b.count (b.count + 1)

    go : (w m p n : Bool) → Of nothing (outcome_of (cond w (cond m (cond p (done known) (cond n (done new) (denied b Full))) (denied b TrialOpen)) (denied b Broken)).answer)
    go true true true n = done-of
    go true true false true = done-of
    go true true false false = refused-of Full (omega arith)
    go true false p n = refused-of TrialOpen (omega arith)
    go false m p n = broken-of

trying : (w y : Bool) (c b : Board) (r : Refusal) → place_of r < 2 ^ 56 → Of nothing (outcome_of (cond w (cond y (done c) (denied b r)) (denied b Broken)).answer)
trying true true c b r l = done-of
trying true false c b r l = refused-of r l
trying false y c b r l = broken-of

telling : (w v y : Bool) → Of yes_no (told_of (cond w (cond v (Ok y) (Err Broken)) (Err Broken)))
telling true true y = said_of y
telling true false y = broken-of
telling false v y = broken-of

abbrev closes : rules.Kind → Board → ℤ → ℕ → Bool
closes k b v p = rules.closes k v (set_of (domain_at b.rows p))

-- a list of at most 64 ids names no place past them
abbrev verdict_place : rules.Verdict → ℕ
verdict_place rules.accepted = 0
verdict_place (rules.refused r) = place_of r

scan-near : (rs : rules.Rows) (seen : List ℕ) (p : ℕ) (is : List ℕ) → p + length is ≤ 64 → verdict_place (rules.scan rs seen p is) ≤ 64
scan-near rs seen p [] h = omega arith
scan-near rs seen p (i ∷ is) h = go (rules.known rs i) (not (rules.among i seen)) (scan-near rs (i ∷ seen) (suc p) is (omega arith))
  where
    rest : rules.Verdict
    rest = rules.scan rs (i ∷ seen) (suc p) is

    go : (a c : Bool) → verdict_place rest ≤ 64 → verdict_place (cond a (cond c rest (rules.refused (Repeated p))) (rules.refused (Unknown p))) ≤ 64
    go true true more = more
    go true false more = omega arith
    go false c more = omega arith

listing-near : (is : List ℕ) (rs : rules.Rows) → verdict_place (rules.listing is rs) ≤ 64
listing-near is rs = go (leb (length is) 64) refl
  where
    go : (t : Bool) → leb (length is) 64 ≡ t → verdict_place (cond t (rules.scan rs [] 0 is) (rules.refused TooLong)) ≤ 64
    go true e = scan-near rs [] 0 is (omega (arith, leb-true (length is) 64 e))
    go false e = omega arith

-- ---- calls that answer that they are done

pub ranging-of : (id : ℕ) (min max : ℤ) (b : Board) → Of nothing (ranging id min max b).answer
ranging-of id min max b = entering (new_of true (chute min) (chute max)) id b

pub listing-of : (id : ℕ) (values : List ℤ) (b : Board) → Of nothing (listing id values b).answer
listing-of id values b = entering (from_values_of values) id b

pub resetting-of : (b : Board) → Of nothing (resetting b).answer
unfolding reset_of
resetting-of b = go (well_board b)
  where
    go : (w : Bool) → Of nothing (outcome_of (cond w (done (with_rows b b.rows false)) (denied b Broken)).answer)
    go true = done-of
    go false = broken-of

pub marking-of : (b : Board) → Of nothing (marking b).answer
unfolding mark_of
marking-of b = trying (well_board b) (ltb b.marks 8) (marked b) b TooDeep (omega arith)

pub restoring-of : (b : Board) → Of nothing (restoring b).answer
unfolding restore_of
restoring-of b = trying (well_board b) (ltb 0 b.marks) (restored b) b NoMark (omega arith)

pub keeping-of : (b : Board) → Of nothing (keeping b).answer
unfolding keep_of
keeping-of b = trying (well_board b) (ltb 0 b.marks) (released b) b NoMark (omega arith)

-- ---- yes or no

pub closing-of : (k : rules.Kind) (id : ℕ) (v : ℤ) (b : Board) → Of yes_no (closing k id v b).answer
unfolding close_of
closing-of k id v b = go (well_board b) (ltb (seat b id) nowhere)
  where
    go : (w p : Bool) → Of yes_no (told_of (cond w (cond p (close_at k b v (seat b id)) (said b false)) (unsaid b Broken)).answer)
    go true true = said_of (closes k b v (seat b id))
    go true false = said_of false
    go false p = broken-of

pub assigned-of : (id : ℕ) (b : Board) → Of yes_no (whether_assigned id b)
unfolding is_assigned_of is_fixed_of
assigned-of id b = telling (well_board b) (well (domain_of b id)) (eqb (length (set_of (domain_of b id))) 1)

pub inconsistent-of : (id : ℕ) (b : Board) → Of yes_no (whether_inconsistent id b)
unfolding is_inconsistent_of is_empty_of
inconsistent-of id b = telling (well_board b) (well (domain_of b id)) (not (some (set_of (domain_of b id))))

pub changed-of : (b : Board) → Of yes_no (whether_changed b)
unfolding changed_of
changed-of b = go (well_board b)
  where
    go : (w : Bool) → Of yes_no (told_of (cond w (Ok b.changed) (Err Broken)))
    go true = said_of b.changed
    go false = broken-of

-- ---- lists

pub ready_of_lem : (is : List ℕ) (b : Board) → Of yes_no (whether_ready is b)
unfolding ready_of
ready_of_lem is b = go (well_board b) (rules.listing is (view b).now) (listing-near is (view b).now) (every (λ i. assigned (domain_of b i)) is)
  where
    go : (w : Bool) (v : rules.Verdict) → verdict_place v ≤ 64 → (y : Bool) → Of yes_no (told_of (cond w (judge v y) (Err Broken)))
    go true rules.accepted near y = said_of y
    go true (rules.refused r) near y = refused-of r (let z : place_of r ≤ 64 = near in omega arith)
    go false v near y = broken-of

pub spreading-of : (is : List ℕ) (b : Board) → Of pair (spreading is b).answer
unfolding spread_of pruned_of
spreading-of is b = go (well_board b) (verdict_of (id_at b.rows) b.count is) (listing-near is (rows_from (id_at b.rows) (λ i. []) 0 b.count))
  where
    ps : List ℕ
    ps = map (seat_in (id_at b.rows) b.count) is

    go : (w : Bool) (v : rules.Verdict) → verdict_place v ≤ 64 → Of pair (pair_of (cond w (handed b (pruned_by v b.rows ps)) (refused b Broken)).answer)
    go true rules.accepted near = pair-of (pass (map (λ p. set_of (domain_at b.rows p)) ps)).changed (pass (map (λ p. set_of (domain_at b.rows p)) ps)).consistent
    go true (rules.refused r) near = refused-of r (let z : place_of r ≤ 64 = near in omega arith)
    go false v near = broken-of

-- ---- how many

pub sizing-of : (id : ℕ) (b : Board) → Of number (sizing id b)
unfolding domain_size_of size_of
sizing-of id b = go (well_board b) (well (domain_of b id)) refl
  where
    d : BitDomain
    d = domain_of b id

    go : (w v : Bool) → well d ≡ v → Of number (count_of (cond w (cond v (Ok (length (set_of d))) (Err Broken)) (Err Broken)))
    go true true e = count-of {n = length (set_of d)} (omega (arith, few-held d e))
    go true false e = broken-of
    go false v e = broken-of

-- closings as many as a batch may have
pub batching-of : (cs : List Closing) → length cs ≤ 256 → (b : Board) → Of number (batching cs b).answer
unfolding batch_of
batching-of cs h b = go (well_board b)
  where
    go : (w : Bool) → Of number (count_of (cond {A = Batched} w (record { board = closed_all cs b; answer = Ok (yeses cs b) }) (record { board = b; answer = Err Broken })).answer)
    go true = count-of {n = yeses cs b} (omega (arith, yeses-most cs b))
    go false = broken-of

pub values_of : (id : ℕ) (cells : List ℤ) (b : Board) → Of number (count_of (get_into_of b (named id) cells).answer)
unfolding get_into_of to_vec_of
values_of id cells b = go (well_board b) (well d) refl (ltb (length cells) (length (set_of d)))
  where
    d : BitDomain
    d = domain_of b id

    go : (w v : Bool) → well d ≡ v → (t : Bool) → Of number (count_of (cond {A = Written} w (cond v (cond t (written-values.written (Err NoRoom) cells) (in_front (set_of d) cells)) (written-values.written (Err Broken) cells)) (written-values.written (Err Broken) cells)).answer)
    go true true e true = refused-of NoRoom (omega arith)
    go true true e false = count-of {n = length (set_of d)} (omega (arith, few-held d e))
    go true false e t = broken-of
    go false v e t = broken-of

names-length : (id : ℕ → ℕ) (k n : ℕ) → length (names_of id k n) ≡ n
names-length id k zero = refl
names-length id k (suc n) = ap suc (names-length id (suc k) n)

pub ids-of : (cells : List ℕ) (b : Board) → Of number (count_of (ids_into_of b cells).answer)
unfolding ids_into_of
ids-of cells b = go (well_board b) refl (ltb (length cells) (length names))
  where
    names : List ℕ
    names = names_of (id_at b.rows) 0 b.count

    go : (w : Bool) → well_board b ≡ w → (t : Bool) → Of number (count_of (cond {A = Filled} w (cond t (filled (Err NoRoom) cells) (filled (Ok (length names)) (names ++ drop (length names) cells))) (filled (Err Broken) cells)).answer)
    go true e true = refused-of NoRoom (omega arith)
    go true e false = count-of {n = length names} (omega (arith, names-length (id_at b.rows) 0 b.count, (well-says b.rows b.count b.saved b.marks e).few-rows))
    go false e t = broken-of

-- ---- a chute: an i32, since the ends of every universe are

-- a row's domain, or that of no row
ends-fit : (b : Board) (id : ℕ) → Typed b → SFits w32 (domain_of b id).min × SFits w32 (domain_of b id).max
ends-fit b id t = go (ltb (seat b id) nowhere) refl
  where
    go : (p : Bool) → ltb (seat b id) nowhere ≡ p → SFits w32 (cond p (domain_at b.rows (seat b id)) invalid).min × SFits w32 (cond p (domain_at b.rows (seat b id)) invalid).max
    go true e = let l = ltb-true (seat b id) nowhere e in (t.min (seat b id) l, t.max (seat b id) l)
    go false e = (record { sfits = omega arith }, record { sfits = omega arith })

pub value_of : (id : ℕ) (b : Board) → Typed b → Of kinds.chute (assigned_to id b)
unfolding assigned_value_of fixed_value_of
value_of id b t = go (well_board b) (well d) refl
  where
    d : BitDomain
    d = domain_of b id

    go : (w v : Bool) → well d ≡ v → Of kinds.chute (chute_of (cond w (cond v (only_of (set_of d)) (Err Broken)) (Err Broken)))
    go true true e = let f = ends-fit b id t in only_of_lem (set_of d) (held_fits d e f.0 f.1)
    go true false e = broken-of
    go false v e = broken-of

-- ---- both ends go into lent cells: a refusal names no place

abbrev pub bounds_place : Result (Value × Value) Refusal → ℕ
bounds_place (Err r) = place_of r
bounds_place (Ok (x, y)) = 0

pub bounds_of : (id : ℕ) (b : Board) → bounds_place (get_bounds_of b (named id)) ≡ 0
unfolding get_bounds_of min_of max_of
bounds_of id b = go (well_board b) (well (domain_of b id)) (set_of (domain_of b id))
  where
    go : (w v : Bool) (s : Chutes) → bounds_place (cond w (both (cond v (first_of s) (Err Broken)) (cond v (last_of s) (Err Broken))) (Err Broken)) ≡ 0
    go true true [] = refl
    go true true (x ∷ s) = last s
      where
        last : (s : Chutes) → bounds_place (both (at x) (last_of (x ∷ s))) ≡ 0
        last [] = refl
        last (y ∷ s) = ends y s
          where
            ends : (y : ℤ) (s : Chutes) → bounds_place (both (at x) (last_of (y ∷ s))) ≡ 0
            ends y [] = refl
            ends y (z ∷ s) = ends z s
    go true false s = refl
    go false v s = refl
