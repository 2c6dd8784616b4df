-- Demand 3, over any run of calls: while a trial's mark is open, the domains allow exactly the ways that those at the mark allow and that the work
-- in force permits (`trial-exact`); restoring the mark gives back every domain (`trial-restored`); an inconsistent answer refutes (`trial-refutes`);
-- the destinations and their order stay (`trial-ids`).
use Rattle.std.specs.Prelude.{◌≡◌, refl, Bool, true, false, not, ◌&&◌, cond, List, [], ◌∷◌, ◌++◌, map, ℕ, T, length}
use Rattle.std.proofs.Common.{◌∙◌, ⊎_elim, arith}
use Rattle.rules.specs.Sets.{Chutes, has, keep, some, Every, Different, Within}
use Rattle.rules.specs.Pass.{pass, Fits}
use Rattle.rules.specs.Board.{Rows, ids, among, known, domain, puts, domains, Board, leaves, Closing, shut, shut_on, shut_all, Call, register, close, batch, spread, ready, mark, restore, release, reset, ask, Verdict, accepted, refused, refusal, outcome, reply, judged, answer, effect, accepts, taken, act, run, Well}
use Rattle.rules.specs.Trial.{Work, closing, listed, closings, Log, note, log, after, trial, in_force, Way, Allowed, Permits, Differs, Follows}
use Rattle.rules.proofs.Tests.{and_left, and_right, and_both, is_true, on-cond}
use Rattle.rules.proofs.SetLaws.{has-keep}
use Rattle.rules.proofs.Sound.{Sub, pass-sub, pass-keeps, pass-refutes}
use Rattle.rules.proofs.RowLaws.{put-cases, put_same, put-unknown, known-put, known-puts, same_known, proper, listing-proper}
use Rattle.rules.proofs.CallLaws.{register-open, saved-batch}
use Rattle.rules.proofs.WellFormed.{ids-shut, ids-stay, well-act}

-- ---- one closing

module _ (k : Closing) (rs : Rows) (there : T (known rs k.id)) (w : Way) where
  closed : Allowed (shut k rs) w → T (leaves k.kind k.value (w k.id))
  closed h =
      let d = domain rs k.id in
      let p = leaves k.kind k.value in
      and_right (has (w k.id) d) (p (w k.id))
      (rw has-keep at (rw (put_same rs k.id (keep p d) there) at (h k.id (rw known-put there))))

  wider : Allowed (shut k rs) w → Allowed rs w
  wider h j l =
      let d = domain rs k.id in
      let p = leaves k.kind k.value in
      let m = h j (rw known-put l) in
      ⊎_elim
      (λ c. rw c.0 (and_left (has (w k.id) d) (p (w k.id)) (rw has-keep at (rw (c.1, c.0) at m))))
      (λ c. rw c at m)
      (put-cases rs k.id (keep p d) j)

  narrower : Allowed rs w → T (leaves k.kind k.value (w k.id)) → Allowed (shut k rs) w
  narrower h y j l =
      let d = domain rs k.id in
      let p = leaves k.kind k.value in
      ⊎_elim
      (λ c. rw (c.1, c.0, has-keep) (and_both (has (w k.id) d) (p (w k.id)) (h k.id there) y))
      (λ c. rw c (h j (rw known-put at l)))
      (put-cases rs k.id (keep p d) j)

-- ---- works one after another

every-split : (P : Work → Type 0) (f g : List Work) → Every P (f ++ g) → Every P f × Every P g
every-split P [] g h = (tt, h)
every-split P (k ∷ f) g h = let r = every-split P f g h.1 in ((h.0, r.0), r.1)

every-join : (P : Work → Type 0) (f g : List Work) → Every P f → Every P g → Every P (f ++ g)
every-join P [] g h j = j
every-join P (k ∷ f) g h j = (h.0, every-join P f g h.1 j)

follows-nil : (rs : Rows) → Follows rs [] rs
follows-nil rs w a = (λ h. (h, tt), λ h. h.0)

-- the newer work first
follows-trans : (r s t : Rows) (f g : List Work) → Follows s f t → Follows r g s → Follows r (f ++ g) t
follows-trans r s t f g x y w a =
    let d = every-split (Differs w) f g a in (
      λ h. let i = (x w d.0).0 h in let j = (y w d.1).0 i.0 in (j.0, every-join (Permits w) f g i.1 j.1),
      λ h. let k = every-split (Permits w) f g h.1 in (x w d.0).1 ((y w d.1).1 (h.0, k.1), k.0),
    )

-- the older work first, as a batch has it
follows-cons : (r s t : Rows) (k : Work) (f : List Work) → Follows r (k ∷ []) s → Follows s f t → Follows r (k ∷ f) t
follows-cons r s t k f x y w a = (
  λ h. let i = (y w a.1).0 h in let j = (x w (a.0, tt)).0 i.0 in (j.0, (j.1.0, i.1)),
  λ h. (y w a.1).1 ((x w (a.0, tt)).1 (h.0, (h.1.0, tt)), h.1.1),
)

shut-follows : (k : Closing) (rs : Rows) → T (known rs k.id) → Follows rs (closing k ∷ []) (shut k rs)
shut-follows k rs t w a = (λ h. (wider k rs t w h, (closed k rs t w h, tt)), λ h. narrower k rs t w h.0 h.1.0)

-- a batch's closings, those of ids that aren't registered left out
batch-follows : (ks : List Closing) (b : Board) → Follows b.now (closings b.now ks) (shut_all ks b).now
batch-follows [] b = follows-nil b.now
batch-follows (k ∷ ks) b = go (known b.now k.id) refl (shut_all ks (shut_on k b)).now (rw same at (batch-follows ks (shut_on k b)))
  where
    there : List Closing
    there = keep (λ l. known b.now l.id) ks

    same : closings (shut k b.now) ks ≡ closings b.now ks
    same = λ i. map closing (keep (λ l. same_known (shut k b.now) b.now (ids-shut k b.now) l.id i) ks)

    go : (y : Bool) → known b.now k.id ≡ y → (ts : Rows) → Follows (shut k b.now) (map closing there) ts → Follows b.now (map closing (cond y (k ∷ there) there)) ts
    go true e ts h = follows-cons b.now (shut k b.now) ts (closing k) (map closing there) (shut-follows k b.now (rw e tt)) h
    go false e ts h = rw (put-unknown b.now k.id (keep (leaves k.kind k.value) (domain b.now k.id)) e) at h

-- ---- one propagation

puts-allowed : (rs : Rows) (is : List ℕ) (ds : List Chutes) (w : Way) → Allowed rs w → Fits ds (map w is) → Allowed (puts rs is ds) w
puts-allowed rs [] ds w h f j k = h j k
puts-allowed rs (i ∷ is) [] w h f j k = absurd f
puts-allowed rs (i ∷ is) (d ∷ ds) w h f j k =
    ⊎_elim
    (λ c. rw (c.1, c.0) f.0)
    (λ c. rw c (puts-allowed rs is ds w h f.1 j (rw known-put at k)))
    (put-cases (puts rs is ds) i d j)

puts-sub : (rs : Rows) (is : List ℕ) (ds : List Chutes) → Sub ds (domains rs is) → (j : ℕ) → Within (domain (puts rs is ds) j) (domain rs j)
puts-sub rs [] ds s j x h = h
puts-sub rs (i ∷ is) [] s j x h = h
puts-sub rs (i ∷ is) (d ∷ ds) s j x h =
    ⊎_elim
    (λ c. rw c.0 (s.0 x (rw c.1 at h)))
    (λ c. puts-sub rs is ds s.1 j x (rw c at h))
    (put-cases (puts rs is ds) i d j)

pub listed-fits : (rs : Rows) (is : List ℕ) (w : Way) → T (proper rs is) → Allowed rs w → Fits (domains rs is) (map w is)
listed-fits rs [] w t h = tt
listed-fits rs (i ∷ is) w t h = (
  h i (and_left (known rs i) (not (among i is) && proper rs is) t),
  listed-fits rs is w (and_right (not (among i is)) (proper rs is) (and_right (known rs i) (not (among i is) && proper rs is) t)) h,
)

spread-follows : (is : List ℕ) (rs : Rows) → T (proper rs is) → Follows rs (listed is ∷ []) (puts rs is (pass (domains rs is)).domains)
spread-follows is rs t w a =
    let ds = domains rs is in (
      λ h. (λ j l. puts-sub rs is (pass ds).domains (pass-sub ds) j (w j) (h j (rw known-puts l)), (tt, tt)),
      λ h. puts-allowed rs is (pass ds).domains w h.0 (pass-keeps ds (map w is) a.0 (listed-fits rs is w t h.0)).0,
    )

-- ---- the trial

-- the saved rows lead from those of the board b, where the trial's mark was made, to the present ones, by the work in force since each
abbrev Leads : Board → Rows → List Rows → Log → Type 0
Leads b n s [] = (n ≡ b.now) × (s ≡ b.saved)
Leads b n [] (f ∷ l) = ⊥
Leads b n (t ∷ s) (f ∷ l) = Follows t f n × Leads b t s l

abbrev WhileOpen : Board → Board → Log → Type 0
WhileOpen b a [] = Unit {0}
WhileOpen b a (f ∷ l) = Leads b a.now a.saved (f ∷ l)

-- more work since the newest mark
leads-more : (b : Board) (n m : Rows) (s : List Rows) (g f : List Work) (l : Log) → Follows n g m → Leads b n s (f ∷ l) → Leads b m s ((g ++ f) ∷ l)
leads-more b n m [] g f l x i = absurd i
leads-more b n m (t ∷ s) g f l x i = (follows-trans t n m g f x i.0, i.1)

-- the newest mark closes: by restore, by keep
leads-back : (b : Board) (n : Rows) (s : List Rows) (y : Bool) (f : List Work) (l : Log) → Leads b n s (f ∷ l) → WhileOpen b (effect restore (record { now = n; saved = s; changed = y })) l
leads-back b n [] y f l i = absurd i
leads-back b n (t ∷ s) y f [] i = tt
leads-back b n (t ∷ s) y f (g ∷ l) i = i.1

leads-kept : (b : Board) (n : Rows) (s : List Rows) (y : Bool) (f g : List Work) (l : Log) → Leads b n s (f ∷ g ∷ l) → WhileOpen b (effect release (record { now = n; saved = s; changed = y })) ((f ++ g) ∷ l)
leads-kept b n [] y f g l i = absurd i
leads-kept b n (t ∷ []) y f g l i = absurd i.1
leads-kept b n (t ∷ u ∷ s) y f g l i = (follows-trans u t n f g i.0 i.1.0, i.1.1)

leads-open : (b : Board) (n : Rows) (s : List Rows) (f : List Work) (l : Log) → Leads b n s (f ∷ l) → T (some s)
leads-open b n [] f l i = i
leads-open b n (t ∷ s) f l i = tt

effect-leads : (b : Board) (c : Call) (a : Board) (l : Log) → T (taken c a) → WhileOpen b a l → WhileOpen b (effect c a) (note c a.now l)
effect-leads b c a [] t i = tt
effect-leads b (register j vs) a (f ∷ l) t i = absurd (rw (register-open j vs a (leads-open b a.now a.saved f l i)) at t)
effect-leads b (close k) a (f ∷ l) t i = leads-more b a.now (shut k a.now) a.saved (closings a.now (k ∷ [])) f l (batch-follows (k ∷ []) a) i
effect-leads b (batch ks) a (f ∷ l) t i = rw (saved-batch ks a) (leads-more b a.now (shut_all ks a).now a.saved (closings a.now ks) f l (batch-follows ks a) i)
effect-leads b (spread is) a (f ∷ l) t i =
    leads-more b a.now (puts a.now is (pass (domains a.now is)).domains) a.saved (listed is ∷ []) f l
    (spread-follows is a.now (listing-proper is a.now t).1) i
effect-leads b (ready is) a (f ∷ l) t i = i
effect-leads b mark a (f ∷ l) t i = (follows-nil a.now, i)
effect-leads b restore a (f ∷ l) t i = leads-back b a.now a.saved a.changed f l i
effect-leads b release a (f ∷ []) t i = tt
effect-leads b release a (f ∷ g ∷ l) t i = leads-kept b a.now a.saved a.changed f g l i
effect-leads b reset a (f ∷ l) t i = i
effect-leads b (ask q) a (f ∷ l) t i = i

act-leads : (b : Board) (c : Call) (a : Board) (l : Log) → WhileOpen b a l → WhileOpen b (act c a) (cond (taken c a) (note c a.now l) l)
act-leads b c a l i = go (taken c a) (λ t. effect-leads b c a l t i)
  where
    go : (y : Bool) → (T y → WhileOpen b (effect c a) (note c a.now l)) → WhileOpen b (cond y (effect c a) a) (cond y (note c a.now l) l)
    go true k = k tt
    go false k = i

run-leads : (b : Board) (cs : List Call) (a : Board) (l : Log) → WhileOpen b a l → WhileOpen b (run cs a) (log cs a l)
run-leads b [] a l i = i
run-leads b (c ∷ cs) a l i = run-leads b cs (act c a) (cond (taken c a) (note c a.now l) l) (act-leads b c a l i)

start-leads : (b : Board) → T (taken mark b) → WhileOpen b (act mark b) ([] ∷ [])
start-leads b t = rw (is_true (taken mark b) t) (follows-nil b.now, (refl, refl))

leads-follows : (b : Board) (n : Rows) (s : List Rows) (l : Log) → Leads b n s l → Follows b.now (in_force l) n
leads-follows b n s [] i = rw i.0 (follows-nil b.now)
leads-follows b n [] (f ∷ l) i = absurd i
leads-follows b n (t ∷ s) (f ∷ l) i = follows-trans b.now t n f (in_force l) i.0 (leads-follows b t s l i.1)

open-follows : (b a : Board) (l : Log) → T (some l) → WhileOpen b a l → Follows b.now (in_force l) a.now
open-follows b a [] o i = absurd o
open-follows b a (f ∷ l) o i = leads-follows b a.now a.saved (f ∷ l) i

-- a propagation that answers inconsistent: the domains that it was given hold no choice of different chutes for its list
pub spread-refutes : (b : Board) (is : List ℕ) (y : Bool) → answer (spread is) b ≡ outcome y false → (w : Way) → Different (map w is) → Allowed b.now w → ⊥
spread-refutes b is y e w d h = go (refusal (spread is) b) (λ t. (listing-proper is b.now t).1) e
  where
    ds : List Chutes
    ds = domains b.now is

    go : (v : Verdict) → (T (accepts v) → T (proper b.now is)) → judged v (reply (spread is) b) ≡ outcome y false → ⊥
    go accepted k f = let z : (pass ds).consistent ≡ false = cc in pass-refutes ds (rw z tt) (map w is) d (listed-fits b.now is w (k tt) h)
    go (refused r) k f = let z : ◌≡◌ {A = ℕ} 0 1 = cc in omega arith

module _ (b : Board) (cs : List Call) (begun : T (taken mark b)) where
  trial-leads : WhileOpen b (after b cs) (trial b cs)
  trial-leads = run-leads b cs (act mark b) ([] ∷ []) (start-leads b begun)

  -- while the mark is open, the present domains allow what those at the mark allowed and the work in force permits
  pub trial-exact : T (some (trial b cs)) → Follows b.now (in_force (trial b cs)) (after b cs).now
  trial-exact o = open-follows b (after b cs) (trial b cs) o trial-leads

  -- where it is the newest, restoring it gives back every domain and the older marks
  pub trial-restored : length (trial b cs) ≡ 1 → ((act restore (after b cs)).now ≡ b.now) × ((act restore (after b cs)).saved ≡ b.saved)
  trial-restored e = go (after b cs).now (after b cs).saved (after b cs).changed (trial b cs) e trial-leads
    where
      go : (n : Rows) (s : List Rows) (y : Bool) (l : Log) → length l ≡ 1 → WhileOpen b (record { now = n; saved = s; changed = y }) l → ((act restore (record { now = n; saved = s; changed = y })).now ≡ b.now) × ((act restore (record { now = n; saved = s; changed = y })).saved ≡ b.saved)
      go n s y [] q i = absurd (omega arith)
      go n [] y (f ∷ l) q i = absurd i
      go n (t ∷ s) y (f ∷ []) q i = i.1
      go n (t ∷ s) y (f ∷ g ∷ l) q i = absurd (omega arith)

  -- an inconsistent answer while it is open: no way that the mark's domains allow and that the closings in force permit has different chutes on
  -- this list and on every list in force
  pub trial-refutes : T (some (trial b cs)) → (is : List ℕ) (y : Bool) → answer (spread is) (after b cs) ≡ outcome y false → (w : Way) → Different (map w is) → Every (Differs w) (in_force (trial b cs)) → Allowed b.now w → Every (Permits w) (in_force (trial b cs)) → ⊥
  trial-refutes o is y e w d ds h p = spread-refutes (after b cs) is y e w d ((trial-exact o w ds).1 (h, p))

-- ---- the destinations

-- a closed trial stays closed
closed-stays : (cs : List Call) (a : Board) → log cs a [] ≡ []
closed-stays [] a = refl
closed-stays (c ∷ cs) a = on-cond (λ (l : Log). log cs (act c a) l ≡ []) (taken c a) (λ t. closed-stays cs (act c a)) (closed-stays cs (act c a))

run-ids : (b : Board) (cs : List Call) (a : Board) (l : Log) → Well a → WhileOpen b a l → T (some (log cs a l)) → ids (run cs a).now ≡ ids a.now
run-ids b [] a l w i o = refl
run-ids b (c ∷ cs) a [] w i o = absurd (rw (closed-stays (c ∷ cs) a) at o)
run-ids b (c ∷ cs) a (f ∷ l) w i o =
    run-ids b cs (act c a) (cond (taken c a) (note c a.now (f ∷ l)) (f ∷ l)) (well-act c a w) (act-leads b c a (f ∷ l) i) o
    ∙ ids-stay c a w (leads-open b a.now a.saved f l i)

-- while the trial's mark is open, the destinations and their order are those at the mark
pub trial-ids : (b : Board) (cs : List Call) → T (taken mark b) → Well b → T (some (trial b cs)) → ids (after b cs).now ≡ ids b.now
trial-ids b cs t w o =
    run-ids b cs (act mark b) ([] ∷ []) (well-act mark b w) (start-leads b t) o
    ∙ on-cond (λ (a : Board). ids a.now ≡ ids b.now) (taken mark b) (λ y. refl) refl
