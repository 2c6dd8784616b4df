-- Laws of the board's calls: a refusal and a question change nothing, a closing of no destination neither, marks touch what they say and no more,
-- a batch is its closings, and a propagation touches the listed domains only.
use Rattle.std.specs.Prelude.{◌≡◌, refl, Bool, true, false, not, ◌||◌, cond, List, [], ◌∷◌, map, ℕ, suc, ◌+◌, T, length, ℤ}
use Rattle.std.proofs.Common.{sym, ap, ◌∙◌, arith, eqb→eq}
use Rattle.std.proofs.lemmas.List.{length-map}
use Rattle.rules.specs.declared.Refusal.{Refusal}
use Rattle.rules.specs.declared.Refusal.TheVariants.{TrialOpen, Empty}
use Rattle.rules.specs.Sets.{Chutes, keep, some}
use Rattle.rules.specs.Pass.{lost, pass}
use Rattle.rules.specs.Board.{among, known, domain, put, domains, Board, Kind, remove, assign, below, above, leaves, closes, Closing, tells, shut_on, shut_all, yeses, Question, size_of, bounds_of, assigned, value_of, inconsistent, values_of, variables, domains_changed, Call, register, close, batch, spread, ready, mark, restore, release, reset, ask, Verdict, accepted, refused, unless, single, asking, refusal, Answer, done, said, outcome, count, chute, ends, held, named, denied, ends_of, only_of, told, reply, judged, answer, effect, accepts, taken, act, run, answers}
use Rattle.rules.proofs.Tests.{or-false, is_true, is_false, on-cond}
use Rattle.rules.proofs.SetLaws.{lost-member}
use Rattle.rules.proofs.Sound.{sub-length, pass-sub}
use Rattle.rules.proofs.RowLaws.{put-unknown, domain-unknown, listing-proper, puts-other, puts-listed}

-- ---- refused and accepted

-- a refused call answers its refusal and changes nothing
pub refused-nothing : (c : Call) (b : Board) (r : Refusal) → refusal c b ≡ refused r → (act c b ≡ b) × (answer c b ≡ denied r)
refused-nothing c b r e = (rw e, rw e)

pub accepted-acts : (c : Call) (b : Board) → refusal c b ≡ accepted → (act c b ≡ effect c b) × (answer c b ≡ reply c b)
accepted-acts c b e = (rw e, rw e)

abbrev plain : Answer → Bool
plain done = true
plain (said y) = true
plain (outcome x y) = true
plain (count n) = true
plain (chute v) = true
plain (ends v w) = true
plain (held d) = true
plain (named is) = true
plain (denied r) = false

ends-plain : (d : Chutes) → T (accepts (unless (some d) Empty accepted)) → T (plain (ends_of d))
ends-plain [] t = t
ends-plain (x ∷ s) t = tt

only-plain : (d : Chutes) → T (accepts (unless (single d) Empty accepted)) → T (plain (only_of d))
only-plain [] t = t
only-plain (x ∷ []) t = tt
only-plain (x ∷ y ∷ s) t = rw (is_false (single (x ∷ y ∷ s)) (λ h. let z = eqb→eq (suc (suc (length s))) 1 h in omega arith)) at t

told-plain : (q : Question) (b : Board) → T (accepts (asking q b.now)) → T (plain (told q b))
told-plain (size_of i) b t = tt
told-plain (bounds_of i) b t = ends-plain (domain b.now i) t
told-plain (assigned i) b t = tt
told-plain (value_of i) b t = only-plain (domain b.now i) t
told-plain (inconsistent i) b t = tt
told-plain (values_of i) b t = tt
told-plain variables b t = tt
told-plain domains_changed b t = tt

reply-plain : (c : Call) (b : Board) → T (taken c b) → T (plain (reply c b))
reply-plain (register i vs) b t = tt
reply-plain (close k) b t = tt
reply-plain (batch ks) b t = tt
reply-plain (spread is) b t = tt
reply-plain (ready is) b t = tt
reply-plain mark b t = tt
reply-plain restore b t = tt
reply-plain release b t = tt
reply-plain reset b t = tt
reply-plain (ask q) b t = told-plain q b t

-- and only a refused call answers a refusal
pub denied-refused : (c : Call) (b : Board) (r : Refusal) → answer c b ≡ denied r → refusal c b ≡ refused r
denied-refused c b r e = go (refusal c b) (reply-plain c b) e
  where
    go : (v : Verdict) → (T (accepts v) → T (plain (reply c b))) → judged v (reply c b) ≡ denied r → v ≡ refused r
    go accepted k f = absurd (rw f at (k tt))
    go (refused s) k f = cc

-- a question changes nothing
pub asking-nothing : (q : Question) (b : Board) → act (ask q) b ≡ b
asking-nothing q b = on-cond (λ (a : Board). a ≡ b) (taken (ask q) b) (λ t. refl) refl

pub ready-nothing : (is : List ℕ) (b : Board) → act (ready is) b ≡ b
ready-nothing is b = on-cond (λ (a : Board). a ≡ b) (taken (ready is) b) (λ t. refl) refl

-- ---- closings

-- a closing answers yes exactly if its domain loses a chute
pub closes-lost : (k : Kind) (v : ℤ) (d : Chutes) → closes k v d ≡ lost (keep (leaves k v) d) d
closes-lost remove v d = sym (lost-member v d)
closes-lost assign v d = refl
closes-lost below v d = refl
closes-lost above v d = refl

closes-none : (k : Kind) (v : ℤ) → closes k v [] ≡ false
closes-none remove v = refl
closes-none assign v = refl
closes-none below v = refl
closes-none above v = refl

-- on an id that isn't registered it answers no and changes nothing
pub unknown-nothing : (k : Closing) (b : Board) → known b.now k.id ≡ false → (act (close k) b ≡ b) × (answer (close k) b ≡ said false)
unknown-nothing k b e =
    let d = domain b.now k.id in
    let n : tells k b.now ≡ false = ap (closes k.kind k.value) (domain-unknown b.now k.id e) ∙ closes-none k.kind k.value in
    let p : put b.now k.id (keep (leaves k.kind k.value) d) ≡ b.now = put-unknown b.now k.id (keep (leaves k.kind k.value) d) e in (
      λ i. record { now = p i; saved = b.saved; changed = (ap (λ (y : Bool). b.changed || y) n ∙ or-false b.changed) i },
      ap said n,
    )

-- ---- marks

-- registration is refused while any mark is open
pub register-open : (i : ℕ) (vs : Chutes) (b : Board) → T (some b.saved) → refusal (register i vs) b ≡ refused TrialOpen
register-open i vs b t = rw (is_true (some b.saved) t)

-- keep leaves every domain
pub release-keeps : (b : Board) → (act release b).now ≡ b.now
release-keeps b = on-cond (λ (a : Board). a.now ≡ b.now) (taken release b) (λ t. refl) refl

-- neither restore nor keep touches `domains_changed`
pub restore-unflagged : (b : Board) → (act restore b).changed ≡ b.changed
restore-unflagged b = on-cond (λ (a : Board). a.changed ≡ b.changed) (taken restore b) (λ t. refl) refl

pub release-unflagged : (b : Board) → (act release b).changed ≡ b.changed
release-unflagged b = on-cond (λ (a : Board). a.changed ≡ b.changed) (taken release b) (λ t. refl) refl

-- a restore right after a mark gives back the board
pub mark-restore : (b : Board) → T (taken mark b) → act restore (act mark b) ≡ b
mark-restore b t = rw (is_true (taken mark b) t)

-- ---- batches

-- a batch leaves what its closings leave one after another
pub batch_run : (ks : List Closing) (b : Board) → act (batch ks) b ≡ run (map close ks) b
batch_run [] b = refl
batch_run (k ∷ ks) b = batch_run ks (shut_on k b)

abbrev pub yes? : Answer → ℕ
yes? done = 0
yes? (said y) = cond y 1 0
yes? (outcome x y) = 0
yes? (count n) = 0
yes? (chute v) = 0
yes? (ends v w) = 0
yes? (held d) = 0
yes? (named is) = 0
yes? (denied r) = 0

abbrev pub said_yes : List Answer → ℕ
said_yes [] = 0
said_yes (a ∷ l) = yes? a + said_yes l

-- and answers how many of them answer yes
pub batch-yeses : (ks : List Closing) (b : Board) → yeses ks b ≡ said_yes (answers (map close ks) b)
batch-yeses [] b = refl
batch-yeses (k ∷ ks) b = go (batch-yeses ks (shut_on k b)) (tells k b.now)
  where
    go : yeses ks (shut_on k b) ≡ said_yes (answers (map close ks) (shut_on k b)) → (y : Bool) → cond y (suc (yeses ks (shut_on k b))) (yeses ks (shut_on k b)) ≡ cond y 1 0 + said_yes (answers (map close ks) (shut_on k b))
    go ih true = omega arith
    go ih false = omega arith

pub saved-batch : (ks : List Closing) (b : Board) → (shut_all ks b).saved ≡ b.saved
saved-batch [] b = refl
saved-batch (k ∷ ks) b = saved-batch ks (shut_on k b)

-- ---- a propagation

module _ (is : List ℕ) (b : Board) (t : T (taken (spread is) b)) where
  -- the pair and the listed domains are the pass's, which is given the listed domains alone
  pub spread-pair : answer (spread is) b ≡ outcome (pass (domains b.now is)).changed (pass (domains b.now is)).consistent
  spread-pair = go (refusal (spread is) b) t
    where
      go : (v : Verdict) → T (accepts v) → judged v (reply (spread is) b) ≡ reply (spread is) b
      go accepted h = refl
      go (refused r) h = absurd h

  pub spread-listed : domains (act (spread is) b).now is ≡ (pass (domains b.now is)).domains
  spread-listed =
      let ds = domains b.now is in
      rw (is_true (taken (spread is) b) t)
      (puts-listed b.now is (pass ds).domains (listing-proper is b.now t).1 (sub-length (pass ds).domains ds (pass-sub ds) ∙ length-map is (domain b.now)))

  -- no other domain and no mark is touched
  pub spread-others : (j : ℕ) → T (not (among j is)) → domain (act (spread is) b).now j ≡ domain b.now j
  spread-others j n = rw (is_true (taken (spread is) b) t) (puts-other b.now is (pass (domains b.now is)).domains j n)

  pub spread-marks : (act (spread is) b).saved ≡ b.saved
  spread-marks = rw (is_true (taken (spread is) b) t)
