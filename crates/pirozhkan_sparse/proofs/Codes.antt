-- Every answer of an exported call has room in its code, so that `told_by` reads it back: no refusal names a place, a set holds at most 4,096
-- values, its text has at most 12 bytes for each value of the universe and 3 more, and a value is an i32. Assumes nothing.
use Rattle.std.specs.Prelude.{◌≡◌, refl, Bool, true, false, cond, ◌&&◌, List, [], ◌∷◌, ◌++◌, ℕ, zero, suc, ◌*◌, ◌^◌, ◌≤◌, ◌<◌, eqb, leb, ltb, ℤ, pos, ◌+ℤ◌, ◌-ℤ◌, length, get_or, drop, Result}
use Rattle.std.specs.declared.result.Result.TheVariants.{Ok, Err}
use Rattle.sparse_inner.specs.declared.Sparse.{Sparse}
use Rattle.std.specs.Int.Signed.{lt_z}
use Rattle.std.specs.Int.{w32}
use Rattle.std.proofs.Common.{subst, le_refl, arith, length-append, SFits}
use Rattle.std.proofs.lemmas.Bool.{eqb-false}
use Rattle.rules.specs.Board as rules
use Rattle.rules.specs.Refusals.{place_of}
use Rattle.rules.specs.declared.Refusal.{Refusal}
use Rattle.rules.specs.declared.Refusal.TheVariants.{TooWide, Short, Empty, BadState, NoRoom}
use Rattle.rules.specs.declared.Value.{Value}
use Rattle.ends.specs.Ends.{smallest_of, largest_of}
use Rattle.decimal.specs.Decimal.{decimal}
use Rattle.offset.specs.Places.{cut_of, span_of}
use Rattle.sparse_inner.specs.Set.{Full, widest, state_of, verdict, narrow_b, room_b, sound_b, verdict_of, both_of, fits_b, is_held, place_in, value_at, set_of, over}
use Rattle.sparse_inner.specs.Change.{drop_at, only_at, emptied, from_cut, under_cut}
use Rattle.sparse_inner.specs.declared.SparseState.{SparseState}
use Rattle.sparse_inner.proofs.Checks.{well-of, value-fits}
use Rattle.sparse.specs.Calls.{unless, in_cell, nothing, found_of, after, restated, size_of, contains_of, min_of, max_of, save_of, remove_of, remove_all_of, remove_all_but_of, remove_below_of, remove_above_of, restore_of}
use Rattle.sparse_make.specs.Calls as make
use Rattle.sparse_pairs.specs.Calls as pairs
use Rattle.sparse_values.specs.Calls as values
use Rattle.sparse_text.specs.Text as text
use Rattle.sparse_text.proofs.Texts.{before-few, value-few, text-size}
use Rattle.reply.specs.Told.{Kind, yes_no, number, told_by, Of, done-of, said_of, count-of, chute-of, denied-of}
use Rattle.reply.specs.Told as kinds
use Rattle.reply.proofs.LentLaws as lent
use Rattle.pirozhkan_sparse.specs.Lent.{told_of, count_of, value_of, outcome_of, Cells, full_in, sets, lent_to, Reply, through, answered, pared}
use Rattle.pirozhkan_sparse.specs.Calls.{removing, emptying, leaving_only, dropping_below, dropping_above, restoring, uniting, whether_held, sizing, smallest, largest}

no : {k : Kind} (r : Refusal) → place_of r ≡ 0 → Of k (rules.denied r)
no r e = denied-of {r = r} (omega arith)

-- ---- what the code of a call tells, if its answer has room

pub answered-told : (k : Kind) (f : Full → rules.Answer) (c : Cells) → Of k (f (full_in c)) → told_by k (answered f c) ≡ lent_to c (λ a. a) f
answered-told = lent.answered-told sets

pub through-told : (k : Kind) (f : Full → Reply) (c : Cells) → Of k (f (full_in c)).answer → told_by k (through f c).code ≡ lent_to c (λ a. a) (λ g. (f g).answer)
through-told = lent.through-told sets

-- ---- a verdict names no place

abbrev verdict_place : Result Unit Refusal → ℕ
verdict_place (Ok tt) = 0
verdict_place (Err r) = place_of r

verdict-near : (a b c : Bool) → verdict_place (verdict a b c) ≡ 0
verdict-near true true true = refl
verdict-near true true false = refl
verdict-near true false c = refl
verdict-near false b c = refl

one-near : (f : Full) → verdict_place (verdict_of f) ≡ 0
unfolding verdict_of
one-near f = verdict-near (narrow_b f) (room_b f) (sound_b f)

both-near : (f g : Full) → verdict_place (both_of f g) ≡ 0
unfolding both_of
both-near f g = verdict-near (narrow_b f && narrow_b g) (room_b f && room_b g) (sound_b f && sound_b g)

-- ---- yes or no, and done

-- a call that the verdict refuses, or lets answer
judged : {A : Type 0} {k : Kind} (told : A → rules.Answer) (refusing : Refusal → A) → ((r : Refusal) → rules.denied r ≡ told (refusing r)) → (v : Result Unit Refusal) → verdict_place v ≡ 0 → (a : A) → (v ≡ Ok tt → Of k (told a)) → Of k (told (unless v refusing a))
judged told refusing same (Ok tt) e a room = room refl
judged {k = k} told refusing same (Err r) e a room = subst (λ (x : rules.Answer). Of k x) (same r) (no r e)

settling : (v : Result Unit Refusal) → verdict_place v ≡ 0 → (f g : Full) → Of kinds.nothing (outcome_of (unless v (λ why. after (Err why) f) (after (Ok tt) g)).answer)
settling v e f g = judged (λ x. outcome_of x.answer) (λ why. after (Err why) f) (λ r. refl) v e (after (Ok tt) g) (λ _. done-of)

pub held_of : (v : ℤ) (f : Full) → Of yes_no (whether_held v f)
unfolding contains_of
held_of v f = judged told_of Err (λ r. refl) (verdict_of f) (one-near f) (Ok (is_held f v)) (λ _. said_of (is_held f v))

pub removing-of : (v : ℤ) (f : Full) → Of yes_no (removing v f).answer
unfolding remove_of
removing-of v f =
    judged (λ x. told_of x.answer) (λ why. after (Err why) f) (λ r. refl) (verdict_of f) (one-near f)
    (after (Ok (is_held f v)) (drop_at f (place_in f.set v))) (λ _. said_of (is_held f v))

pub emptying-of : (f : Full) → Of kinds.nothing (emptying f).answer
unfolding remove_all_of
emptying-of f = settling (verdict_of f) (one-near f) f (emptied f)

pub leaving-of : (v : ℤ) (f : Full) → Of kinds.nothing (leaving_only v f).answer
unfolding remove_all_but_of
leaving-of v f = settling (verdict_of f) (one-near f) f (only_at f (place_in f.set v))

pub below_of : (v : ℤ) (f : Full) → Of kinds.nothing (dropping_below v f).answer
unfolding remove_below_of
below_of v f = settling (verdict_of f) (one-near f) f (from_cut f (cut_of f.set.n (v -ℤ f.set.off)))

pub above_of : (v : ℤ) (f : Full) → Of kinds.nothing (dropping_above v f).answer
unfolding remove_above_of
above_of v f = settling (verdict_of f) (one-near f) f (under_cut f (cut_of f.set.n ((v -ℤ f.set.off) +ℤ pos 1)))

pub uniting-of : (f g : Full) → Of kinds.nothing (uniting f g).answer
unfolding pairs.union_of
uniting-of f g = settling (both_of f g) (both-near f g) f (pairs.add_each f (set_of g))

pub restoring-of : (t : SparseState) (f : Full) → Of kinds.nothing (restoring t f).answer
unfolding restore_of
restoring-of t f = go (verdict_of f) (one-near f) (fits_b f.ind f.val f.set.n t)
  where
    go : (w : Result Unit Refusal) → verdict_place w ≡ 0 → (y : Bool) → Of kinds.nothing (outcome_of (unless w (λ why. after (Err why) f) (cond y (after (Ok tt) (restated f t)) (after (Err BadState) f))).answer)
    go (Ok tt) e true = done-of
    go (Ok tt) e false = no BadState refl
    go (Err r) e y = no r e

pub parting-of : (f g : Full) (want : Bool) (scratch : List ℤ) → Of kinds.nothing (pared (pairs.part_of f g want scratch)).answer
unfolding pairs.part_of
parting-of f g want scratch = go (both_of f g) (both-near f g) (ltb (length scratch) f.set.size)
  where
    gone : List ℤ
    gone = pairs.parted f g want

    go : (w : Result Unit Refusal) → verdict_place w ≡ 0 → (t : Bool) → Of kinds.nothing (outcome_of (unless w (λ why. pairs.pared (Err why) f scratch) (cond t (pairs.pared (Err NoRoom) f scratch) (pairs.pared (Ok tt) (pairs.drop_each f gone) (over gone scratch)))).answer)
    go (Ok tt) e true = no NoRoom refl
    go (Ok tt) e false = done-of
    go (Err r) e t = no r e

-- ---- how many

few-held : (f : Full) → verdict_of f ≡ Ok tt → f.set.size < 2 ^ 56
few-held f q = let w = well-of f q in omega (arith, w.within, w.narrow)

pub sizing-of : (f : Full) → Of number (sizing f)
unfolding size_of
sizing-of f = judged count_of Err (λ r. refl) (verdict_of f) (one-near f) (Ok f.set.size) (λ q. count-of (few-held f q))

pub values_of : (out : List ℤ) (f : Full) → Of number (count_of (values.to_vec_of f out).answer)
unfolding values.to_vec_of
values_of out f = go (verdict_of f) refl (one-near f) (ltb (length out) f.set.size)
  where
    go : (w : Result Unit Refusal) → verdict_of f ≡ w → verdict_place w ≡ 0 → (t : Bool) → Of number (count_of (unless w (λ why. values.written (Err why) out) (cond t (values.written (Err NoRoom) out) (values.written (Ok f.set.size) (over (set_of f) out)))).answer)
    go (Ok tt) q e true = no NoRoom refl
    go (Ok tt) q e false = count-of (few-held f q)
    go (Err r) q e t = no r e

-- ---- values: i32 numbers, since the first of the universe is one

module _ (f : Full) (o : SFits w32 f.set.off) where
  bound_of : (q : verdict_of f ≡ Ok tt) (none : Bool) (k : ℕ) → (none ≡ false → k < f.set.n) → Of kinds.chute (value_of (found_of none (value_at f.set k)))
  bound_of q true k l = no Empty refl
  bound_of q false k l = chute-of {v = value_at f.set k} (value-fits f.set.off f.set.n k o (well-of f q).universe (l refl))

  some-held : nothing f ≡ false → 0 < f.set.size
  some-held e = let h = eqb-false f.set.size 0 e in go f.set.size h
    where
      go : (n : ℕ) → (n ≡ 0 → ⊥) → 0 < n
      go zero h = absurd (h refl)
      go (suc n) h = omega arith

  -- a bound of what is held
  finding : (k : ℕ) → ((q : verdict_of f ≡ Ok tt) → 0 < f.set.size → k < f.set.n) → Of kinds.chute (value_of (unless (verdict_of f) Err (found_of (nothing f) (value_at f.set k))))
  finding k l = judged value_of Err (λ r. refl) (verdict_of f) (one-near f) (found_of (nothing f) (value_at f.set k)) (λ q. bound_of q (nothing f) k (λ z. l q (some-held z)))

  pub smallest-of : Of kinds.chute (smallest f)
  unfolding min_of
  smallest-of = finding f.set.min (λ q z. ((well-of f q).bounds z).min-held.in-universe)

  pub largest-of : Of kinds.chute (largest f)
  unfolding max_of
  largest-of = finding f.set.max (λ q z. ((well-of f q).bounds z).max-held.in-universe)

  -- ---- the text

  listed-few : (q : verdict_of f ≡ Ok tt) (k : ℕ) → k ≤ f.set.n → length (text.listed f k) ≤ 12 * k
  unfolding text.listed
  listed-few q zero h = omega arith
  listed-few q (suc k) h =
      let w = well-of f q in
      let fit : SFits w32 (in_cell f k) = value-fits f.set.off f.set.n (get_or f.val k 0) o w.universe (w.inverse.val-lt k h) in
      omega (arith, listed-few q k (omega arith), length-append (text.listed f k) (text.before f.set.size k ++ decimal (in_cell f k)), length-append (text.before f.set.size k) (decimal (in_cell f k)), before-few f.set.size k, value-few (in_cell f k) fit)

  closing-few : (size n : ℕ) → length (text.closing size n) ≤ 2
  unfolding text.closing
  closing-few size n = go (eqb n size)
    where
      go : (b : Bool) → length {A = ℕ} (cond b (124 ∷ 93 ∷ []) (93 ∷ [])) ≤ 2
      go true = omega arith
      go false = omega arith

  pub text-of : (out : List ℕ) → Of number (count_of (text.write_text_of f out).answer)
  unfolding text.write_text_of
  text-of out = go (verdict_of f) refl (one-near f) (ltb (length out) (length all))
    where
      all : List ℕ
      all = text.text_of f

      go : (w : Result Unit Refusal) → verdict_of f ≡ w → verdict_place w ≡ 0 → (t : Bool) → Of number (count_of (unless w (λ why. text.written (Err why) out) (cond t (text.written (Err NoRoom) out) (text.written (Ok (length all)) (all ++ drop (length all) out)))).answer)
      go (Ok tt) q e true = no NoRoom refl
      go (Ok tt) q e false = let w = well-of f q in count-of {n = length all} (omega (arith, text-size f, listed-few q f.set.n (le_refl f.set.n), closing-few f.set.size f.set.n, w.narrow))
      go (Err r) q e t = no r e

-- ---- a saved state and a new set: their refusals name no place

abbrev pub kept_place : Result SparseState Refusal → ℕ
kept_place (Ok t) = 0
kept_place (Err r) = place_of r

pub saving-of : (f : Full) → kept_place (save_of f) ≡ 0
unfolding save_of
saving-of f = go (verdict_of f) (one-near f)
  where
    go : (w : Result Unit Refusal) → verdict_place w ≡ 0 → kept_place (unless w Err (Ok (state_of f.set))) ≡ 0
    go (Ok tt) e = refl
    go (Err r) e = e

abbrev pub made_place : Result Sparse Refusal → ℕ
made_place (Ok s) = 0
made_place (Err r) = place_of r

room-near : (n : ℕ) (ind val : List ℕ) → verdict_place (make.room_for n ind val) ≡ 0
unfolding make.room_for
room-near n ind val = go (leb n widest) (leb n (length ind) && leb n (length val))
  where
    go : (a b : Bool) → verdict_place (cond a (cond b (Ok tt) (Err Short)) (Err TooWide)) ≡ 0
    go true true = refl
    go true false = refl
    go false b = refl

making-near : (w : Result Unit Refusal) → verdict_place w ≡ 0 → (ind val : List ℕ) (f : Full) → made_place (make.unless w ind val f).answer ≡ 0
making-near (Ok tt) e ind val f = refl
making-near (Err r) e ind val f = e

pub new-of : (a b : Value) (ind val : List ℕ) → made_place (make.new_of a b ind val).answer ≡ 0
unfolding make.new_of make.between_of
new-of a b ind val = go (lt_z b.0 a.0)
  where
    between : (lo hi : ℤ) → made_place (make.between_of lo hi ind val).answer ≡ 0
    between lo hi = making-near (make.room_for (span_of lo hi) ind val) (room-near (span_of lo hi) ind val) ind val (make.filled lo (span_of lo hi) ind val)

    go : (t : Bool) → made_place (cond t (make.between_of b.0 a.0) (make.between_of a.0 b.0) ind val).answer ≡ 0
    go true = between b.0 a.0
    go false = between a.0 b.0

pub from-of : (vs : List ℤ) (ind val : List ℕ) → made_place (make.from_values_of vs ind val).answer ≡ 0
unfolding make.from_values_of
from-of [] ind val = refl
from-of (v ∷ vs) ind val =
    let lo = smallest_of (v ∷ vs) in
    let n = span_of lo (largest_of (v ∷ vs)) in
    making-near (make.room_for n ind val) (room-near n ind val) ind val (make.sifted_of (v ∷ vs) (make.filled lo n ind val))
