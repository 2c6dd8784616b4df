-- What an exported call's code has to do to be the by-value call between reading and writing, and what the number that it returns tells.
-- Assumes nothing.
use Rattle.std.specs.Prelude.{◌≡◌, Bool, true, false, cond, ◌≤◌, ◌<◌, ltb}
use Rattle.std.proofs.Common.{sym, ap, ◌∙◌, arith, lt-ltb, le-ltb}
use Rattle.rules.specs.Board as rules
use Rattle.rules.specs.declared.Refusal.TheVariants.{Broken, NoRoom}
use Rattle.reply.specs.Told.{coded, Kind, told_by, Of, denied-of}
use Rattle.reply.specs.Lent.{Layout, Reply, Left, lent_to, written, through, answered, shown}
use Rattle.reply.specs.Through.{left}
use Rattle.reply.proofs.ToldLaws.{told_back}

module _ {C S : Type 0} (l : Layout C S) where
  pub few : {A : Type 0} (c : C) (r : rules.Answer → A) (f : S → A) → l.many c < l.size → r (rules.denied NoRoom) ≡ lent_to l c r f
  few c r f h = sym (rw (lt-ltb (l.many c) l.size h))

  pub enough : {A : Type 0} (c : C) (r : rules.Answer → A) (f : S → A) → l.size ≤ l.many c → l.good c ≡ true → f (l.read c) ≡ lent_to l c r f
  enough c r f h g = sym (rw (le-ltb (l.many c) l.size h, g))

  pub through-few : (f : S → Reply S) (c : C) → l.many c < l.size → left 14 c ≡ through l f c
  unfolding through coded
  through-few f c h = few c (λ a. left (coded a) c) (λ s. written l c (f s)) h

  pub through-done : (f : S → Reply S) (c : C) → l.size ≤ l.many c → l.good c ≡ true → (r : Reply S) → r ≡ f (l.read c) → written l c r ≡ through l f c
  unfolding through
  through-done f c h g r e = ap (written l c) e ∙ enough c (λ a. left (coded a) c) (λ s. written l c (f s)) h g

  pub answered-few : (f : S → rules.Answer) (c : C) → l.many c < l.size → 14 ≡ answered l f c
  unfolding answered coded
  answered-few f c h = few c coded (λ s. coded (f s)) h

  pub answered-done : (f : S → rules.Answer) (c : C) → l.size ≤ l.many c → l.good c ≡ true → (a : rules.Answer) → a ≡ f (l.read c) → coded a ≡ answered l f c
  unfolding answered
  answered-done f c h g a e = ap coded e ∙ enough c coded (λ s. coded (f s)) h g

  pub shown-few : {O : Type 0} (f : S → Left O) (c : C) (out : O) → l.many c < l.size → left 14 out ≡ shown l f c out
  unfolding shown coded
  shown-few f c out h = few c (λ a. left (coded a) out) f h

  pub shown-done : {O : Type 0} (f : S → Left O) (c : C) (out : O) → l.size ≤ l.many c → l.good c ≡ true → (r : Left O) → r ≡ f (l.read c) → r ≡ shown l f c out
  unfolding shown
  shown-done f c out h g r e = e ∙ enough c (λ a. left (coded a) out) f h g

  -- ---- what the number tells, if the answer has room

  pub answered-told : (k : Kind) (f : S → rules.Answer) (c : C) → Of k (f (l.read c)) → told_by k (answered l f c) ≡ lent_to l c (λ a. a) f
  unfolding answered
  answered-told k f c room = go (ltb (l.many c) l.size) (l.good c)
    where
      go : (few fine : Bool) → told_by k (cond few (coded (rules.denied NoRoom)) (cond fine (coded (f (l.read c))) (coded (rules.denied Broken)))) ≡ cond few (rules.denied NoRoom) (cond fine (f (l.read c)) (rules.denied Broken))
      go true fine = told_back k (rules.denied NoRoom) (denied-of (omega arith))
      go false true = told_back k (f (l.read c)) room
      go false false = told_back k (rules.denied Broken) (denied-of (omega arith))

  pub through-told : (k : Kind) (f : S → Reply S) (c : C) → Of k (f (l.read c)).answer → told_by k (through l f c).code ≡ lent_to l c (λ a. a) (λ s. (f s).answer)
  unfolding through
  through-told k f c room = go (ltb (l.many c) l.size) (l.good c)
    where
      go : (few fine : Bool) → told_by k (cond few (left (coded (rules.denied NoRoom)) c) (cond fine (written l c (f (l.read c))) (left (coded (rules.denied Broken)) c))).code ≡ cond few (rules.denied NoRoom) (cond fine (f (l.read c)).answer (rules.denied Broken))
      go true fine = told_back k (rules.denied NoRoom) (denied-of (omega arith))
      go false true = told_back k (f (l.read c)).answer room
      go false false = told_back k (rules.denied Broken) (denied-of (omega arith))
