-- Every answer of an exported call has room in its code, so that `told_by` reads it back: no refusal names a place, a domain holds at most 128
-- values, its text has at most 1,538 bytes, and a value is an i32. Assumes nothing.
use Rattle.std.specs.Prelude.{◌≡◌, refl, Bool, true, false, not, cond, ◌&&◌, List, [], ◌∷◌, ◌++◌, ℕ, T, leb, ltb, ℤ, length, drop, Result}
use Rattle.std.specs.declared.result.Result.TheVariants.{Ok, Err}
use Rattle.rules.specs.declared.Refusal.{Refusal}
use Rattle.rules.specs.declared.Value.{Value}
use Rattle.std.specs.Int.{w32}
use Rattle.std.proofs.Common.{arith, SFits}
use Rattle.rules.specs.Board as rules
use Rattle.rules.specs.Sets.{Chutes, has}
use Rattle.rules.specs.declared.Refusal.TheVariants.{Broken, Empty, NoRoom}
use Rattle.rules.proofs.SetLaws.{has-head, has-tail}
use Rattle.mask.specs.Val.{Fit}
use Rattle.domain.specs.Set.{set_of, universe, well}
use Rattle.domain.specs.Calls.{first_of, last_of, only_of, insert_of, remove_of, remove_all_of, close_of, contains_of, size_of, fixed_value_of, min_of, max_of}
use Rattle.domain.specs.declared.BitDomain.{BitDomain}
use Rattle.domain_values.specs.Calls as values
use Rattle.domain_text.specs.Text as text
use Rattle.domain_text.proofs.Room.{text-few}
use Rattle.board.specs.Obeys.{told_of, outcome_of}
use Rattle.board_ask.specs.Answers.{count_of, chute_of}
use Rattle.reply.specs.Told.{Kind, nothing, yes_no, number, told_by, Of, done-of, said_of, count-of, chute-of}
use Rattle.reply.specs.Told as kinds
use Rattle.reply.proofs.LentLaws as lent
use Rattle.reply.proofs.RoomLaws.{refused-of, broken-of, few-held, held_fits, only_of_lem}
use Rattle.pirozhkan_bit.specs.Layout.{read_of}
use Rattle.pirozhkan_bit.specs.Lent.{words, lent_to, Reply, through, answered}
use Rattle.pirozhkan_bit.specs.Calls.{inserting, removing, emptying, closing, whether_held, sizing, fixed_at, smallest, largest}

-- ---- what the code of a call tells, if its answer has room

pub answered-told : (k : Kind) (f : BitDomain → rules.Answer) (ws : List ℕ) → Of k (f (read_of ws)) → told_by k (answered f ws) ≡ lent_to ws (λ a. a) f
answered-told = lent.answered-told words

pub through-told : (k : Kind) (f : BitDomain → Reply) (ws : List ℕ) → Of k (f (read_of ws)).answer → told_by k (through f ws).code ≡ lent_to ws (λ a. a) (λ d. (f d).answer)
through-told = lent.through-told words

-- ---- yes or no, and done

telling : (w y : Bool) → Of yes_no (told_of (cond w (Ok y) (Err Broken)))
telling true y = said_of y
telling false y = broken-of

settling : (w : Bool) → Of nothing (outcome_of (cond w (Ok tt) (Err Broken)))
settling true = done-of
settling false = broken-of

pub inserting-of : (v : ℤ) (d : BitDomain) → Of yes_no (inserting v d).answer
unfolding insert_of
inserting-of v d = telling (well d) (has v (universe d) && not (has v (set_of d)))

pub removing-of : (v : ℤ) (d : BitDomain) → Of yes_no (removing v d).answer
unfolding remove_of
removing-of v d = telling (well d) (has v (set_of d))

pub held_of : (v : ℤ) (d : BitDomain) → Of yes_no (whether_held v d)
unfolding contains_of
held_of v d = telling (well d) (has v (set_of d))

pub emptying-of : (d : BitDomain) → Of nothing (emptying d).answer
unfolding remove_all_of
emptying-of d = settling (well d)

pub closing-of : (k : rules.Kind) (v : ℤ) (d : BitDomain) → Of nothing (closing k v d).answer
unfolding close_of
closing-of k v d = settling (well d)

-- ---- how many

pub sizing-of : (d : BitDomain) → Of number (sizing d)
unfolding size_of
sizing-of d = go (well d) refl
  where
    go : (v : Bool) → well d ≡ v → Of number (count_of (cond v (Ok (length (set_of d))) (Err Broken)))
    go true e = count-of {n = length (set_of d)} (omega (arith, few-held d e))
    go false e = broken-of

pub values_of : (cells : List ℤ) (d : BitDomain) → Of number (count_of (values.to_vec_of d cells).answer)
unfolding values.to_vec_of
values_of cells d = go (well d) refl (ltb (length cells) (length (set_of d)))
  where
    go : (v : Bool) → well d ≡ v → (t : Bool) → Of number (count_of (cond {A = values.Written} v (cond t (values.written (Err NoRoom) cells) (values.in_front (set_of d) cells)) (values.written (Err Broken) cells)).answer)
    go true e true = refused-of NoRoom (omega arith)
    go true e false = count-of {n = length (set_of d)} (omega (arith, few-held d e))
    go false e t = broken-of

pub text-of : (bytes : List ℕ) (d : BitDomain) → SFits w32 d.min → Fit d.mask → Of number (count_of (text.write_text_of d bytes).answer)
unfolding text.write_text_of
text-of bytes d f h = go (well d) (leb (length all) (length bytes))
  where
    all : List ℕ
    all = text.text_of (set_of d)

    go : (v t : Bool) → Of number (count_of (cond {A = text.Written} v (cond t (record { answer = Ok (length all); cells = all ++ drop (length all) bytes }) (text.refuses NoRoom bytes)) (text.refuses Broken bytes)).answer)
    go true true = count-of {n = length all} (omega (arith, text-few d.min d.mask f h))
    go true false = refused-of NoRoom (omega arith)
    go false t = broken-of

-- ---- a value: an i32, since the ends of the universe are

module _ (d : BitDomain) (f : SFits w32 d.min) (g : SFits w32 d.max) where
  -- what is found among the values
  first-of : (s : Chutes) → ((x : ℤ) → T (has x s) → SFits w32 x) → Of kinds.chute (chute_of (first_of s))
  first-of [] fit = refused-of Empty (omega arith)
  first-of (x ∷ s) fit = chute-of {v = x} (fit x (has-head x s))

  last-of : (s : Chutes) → ((x : ℤ) → T (has x s) → SFits w32 x) → Of kinds.chute (chute_of (last_of s))
  last-of [] fit = refused-of Empty (omega arith)
  last-of (x ∷ []) fit = chute-of {v = x} (fit x (has-head x []))
  last-of (x ∷ y ∷ s) fit = last-of (y ∷ s) (λ z h. fit z (has-tail z x (y ∷ s) h))

  finding : (p : Chutes → Result Value Refusal) → ((s : Chutes) → ((x : ℤ) → T (has x s) → SFits w32 x) → Of kinds.chute (chute_of (p s))) → (v : Bool) → well d ≡ v → Of kinds.chute (chute_of (cond v (p (set_of d)) (Err Broken)))
  finding p room true e = room (set_of d) (held_fits d e f g)
  finding p room false e = broken-of

  pub smallest-of : Of kinds.chute (smallest d)
  unfolding min_of
  smallest-of = finding first_of first-of (well d) refl

  pub largest-of : Of kinds.chute (largest d)
  unfolding max_of
  largest-of = finding last_of last-of (well d) refl

  pub fixed_of : Of kinds.chute (fixed_at d)
  unfolding fixed_value_of
  fixed_of = finding only_of only_of_lem (well d) refl
