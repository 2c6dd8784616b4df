-- A well-formed board stays so under every call (`well-act`), and while a mark is open its ids and their order stay (`ids-stay`).
use Rattle.std.specs.Prelude.{◌≡◌, refl, Bool, true, false, not, ◌||◌, cond, List, [], ◌∷◌, ◌++◌, ◌⊎◌, ℕ, ◌≤◌, T, eqb, ltb, length}
use Rattle.std.proofs.Common.{sym, ap, ◌∙◌, inl, inr, ⊎_elim, arith, eqb→eq, ltb→lt, T_not, length-append}
use Rattle.std.proofs.lemmas.List.{length-map}
use lib.Dec.{eqb_refl, not_T}
use Rattle.rules.specs.declared.Refusal.{Refusal}
use Rattle.rules.specs.declared.Refusal.TheVariants.{Full, TrialOpen, TooDeep}
use Rattle.rules.specs.Sets.{Chutes, has, keep, some, ascending, Every, Ascending}
use Rattle.rules.specs.Pass.{pass, raises}
use Rattle.rules.specs.Board.{Row, Rows, ids, among, known, domain, put, puts, domains, Board, blank, leaves, Closing, tells, shut, shut_on, shut_all, Call, register, close, batch, spread, ready, mark, restore, release, reset, ask, accepted, unless, newest, older, effect, accepts, taken, act, run, distinct, Ordered, Well}
use Rattle.rules.proofs.Tests.{or_cases, or_left, or_right, and_left, and_right, and_both, on-cond}
use Rattle.rules.proofs.InOrder.{ascending-keep, ascending-is}
use Rattle.rules.proofs.Sound.{pass-every}
use Rattle.rules.proofs.CallLaws.{register-open}
use Rattle.rules.proofs.RowLaws.{known_among, ids-put, ids-puts, ordered-domain, ordered-domains, ordered-put, ordered-puts}

-- ---- rows and marks

every-imp : {A : Type 0} (P Q : A → Type 0) → ((x : A) → P x → Q x) → (s : List A) → Every P s → Every Q s
every-imp P Q f [] h = tt
every-imp P Q f (x ∷ s) h = (f x h.0, every-imp P Q f s h.1)

every-older : (P : Rows → Type 0) (s : List Rows) → Every P s → Every P (older s)
every-older P [] h = tt
every-older P (t ∷ s) h = h.1

length-older : (s : List Rows) → length (older s) ≤ length s
length-older [] = omega arith
length-older (t ∷ s) = omega arith

pub same_length : (rs ts : Rows) → ids rs ≡ ids ts → length rs ≡ length ts
same_length rs ts e = sym (length-map rs (λ (r : Row). r.id)) ∙ ap length e ∙ length-map ts (λ (r : Row). r.id)

-- ---- each call

-- other domains for the same ids
well-same : (b : Board) (rs : Rows) (s : List Rows) (y : Bool) → ids rs ≡ ids b.now → Ordered rs → length s ≤ 8 → Every (λ ts. ids ts ≡ ids b.now) s → Every Ordered s → Well b → Well (record { now = rs; saved = s; changed = y })
well-same b rs s y e o l m p w = record {
  differ = rw e w.differ;
  few-rows = rw (same_length rs b.now e) w.few-rows;
  few-marks = l;
  aligned = every-imp (λ ts. ids ts ≡ ids b.now) (λ ts. ids ts ≡ ids rs) (λ ts h. h ∙ sym e) s m;
  ordered = (o, p);
}

newest-ids : (rs : Rows) (s : List Rows) → Every (λ ts. ids ts ≡ ids rs) s → ids (newest rs s) ≡ ids rs
newest-ids rs [] h = refl
newest-ids rs (t ∷ s) h = h.0

newest-ordered : (rs : Rows) (s : List Rows) → Ordered rs → Every Ordered s → Ordered (newest rs s)
newest-ordered rs [] o h = o
newest-ordered rs (t ∷ s) o h = h.0

pub ids-shut : (k : Closing) (rs : Rows) → ids (shut k rs) ≡ ids rs
ids-shut k rs = ids-put rs k.id (keep (leaves k.kind k.value) (domain rs k.id))

well-shut : (k : Closing) (b : Board) → Well b → Well (shut_on k b)
well-shut k b w =
    let d = domain b.now k.id in
    well-same b (shut k b.now) b.saved (b.changed || tells k b.now) (ids-shut k b.now)
    (ordered-put b.now k.id (keep (leaves k.kind k.value) d)
    (ascending-keep (leaves k.kind k.value) d (ordered-domain b.now k.id w.ordered.0)) w.ordered.0) w.few-marks w.aligned w.ordered.1 w

well-batch : (ks : List Closing) (b : Board) → Well b → Well (shut_all ks b)
well-batch [] b w = w
well-batch (k ∷ ks) b w = well-batch ks (shut_on k b) (well-shut k b w)

passed : (y : Bool) (r : Refusal) → T (accepts (unless y r accepted)) → T y
passed true r t = tt
passed false r t = t

-- a new id, last
among-last : (j i : ℕ) (is : List ℕ) → T (among j (is ++ (i ∷ []))) → T (among j is) ⊎ (j ≡ i)
among-last j i [] t = ⊎_elim (λ q. inr (eqb→eq j i q)) (λ f. absurd f) (or_cases (eqb j i) false t)
among-last j i (k ∷ is) t =
    ⊎_elim (λ q. inl (or_left (eqb j k) (among j is) q))
    (λ h. ⊎_elim (λ a. inl (or_right (eqb j k) (among j is) a)) (λ e. inr e) (among-last j i is h))
    (or_cases (eqb j k) (among j (is ++ (i ∷ []))) t)

distinct-last : (i : ℕ) (is : List ℕ) → T (distinct is) → (T (among i is) → ⊥) → T (distinct (is ++ (i ∷ [])))
distinct-last i [] d n = tt
distinct-last i (k ∷ is) d n =
    and_both (not (among k (is ++ (i ∷ [])))) (distinct (is ++ (i ∷ [])))
    (not_T (among k (is ++ (i ∷ [])))
    (λ h. ⊎_elim (T_not (among k is) (and_left (not (among k is)) (distinct is) d)) (λ e. n (rw e (or_left (eqb i i) (among i is) (eqb_refl i)))) (among-last k i is h)))
    (distinct-last i is (and_right (not (among k is)) (distinct is) d) (λ a. n (or_right (eqb i k) (among i is) a)))

ids-last : (rs : Rows) (r : Row) → ids (rs ++ (r ∷ [])) ≡ ids rs ++ (r.id ∷ [])
ids-last [] r = refl
ids-last (s ∷ rs) r = ap (λ (l : List ℕ). s.id ∷ l) (ids-last rs r)

ordered-last : (rs : Rows) (r : Row) → Ordered rs → Ascending r.chutes → Ordered (rs ++ (r ∷ []))
ordered-last [] r o a = (a, tt)
ordered-last (s ∷ rs) r o a = (o.0, ordered-last rs r o.1 a)

well-enter : (i : ℕ) (vs : Chutes) (b : Board) → T (taken (register i vs) b) → Well b → Well (effect (register i vs) b)
well-enter i vs b t w = go (known b.now i) refl b.saved t w.aligned w.ordered.1
  where
    d : Chutes
    d = ascending vs

    go : (y : Bool) → known b.now i ≡ y → (s : List Rows) → T (accepts (unless (not (some s)) TrialOpen (unless (y || ltb (length b.now) 64) Full accepted))) → Every (λ ts. ids ts ≡ ids b.now) s → Every Ordered s → Well (record { now = cond y (put b.now i d) (b.now ++ (record { id = i; chutes = d } ∷ [])); saved = s; changed = true })
    go y e (r ∷ s) h m p = absurd h
    go true e [] h m p =
        well-same b (put b.now i d) [] true (ids-put b.now i d) (ordered-put b.now i d (ascending-is vs) w.ordered.0) (omega arith) tt tt w
    go false e [] h m p = record {
      differ = rw (ids-last b.now (record { id = i; chutes = d })) (distinct-last i (ids b.now) w.differ (λ a. rw e at (let k : T (known b.now i) = rw (known_among b.now i) a in k)));
      few-rows = rw (length-append b.now (record { id = i; chutes = d } ∷ [])) (omega (arith, ltb→lt (length b.now) 64 (passed (ltb (length b.now) 64) Full h)));
      few-marks = omega arith;
      aligned = tt;
      ordered = (ordered-last b.now (record { id = i; chutes = d }) w.ordered.0 (ascending-is vs), tt);
    }

well-effect : (c : Call) (b : Board) → T (taken c b) → Well b → Well (effect c b)
well-effect (register i vs) b t w = well-enter i vs b t w
well-effect (close k) b t w = well-shut k b w
well-effect (batch ks) b t w = well-batch ks b w
well-effect (spread is) b t w =
    let ds = domains b.now is in
    well-same b (puts b.now is (pass ds).domains) b.saved (b.changed || raises ds) (ids-puts b.now is (pass ds).domains)
    (ordered-puts b.now is (pass ds).domains (pass-every Ascending (λ u d a. ascending-keep (λ x. not (has x u)) d a) ds (ordered-domains b.now is w.ordered.0)) w.ordered.0)
    w.few-marks w.aligned w.ordered.1 w
well-effect (ready is) b t w = w
well-effect mark b t w =
    well-same b b.now (b.now ∷ b.saved) b.changed refl w.ordered.0 (ltb→lt (length b.saved) 8 (passed (ltb (length b.saved) 8) TooDeep t)) (refl, w.aligned) (w.ordered.0, w.ordered.1) w
well-effect restore b t w =
    well-same b (newest b.now b.saved) (older b.saved) b.changed (newest-ids b.now b.saved w.aligned)
    (newest-ordered b.now b.saved w.ordered.0 w.ordered.1) (omega (arith, length-older b.saved, w.few-marks))
    (every-older (λ ts. ids ts ≡ ids b.now) b.saved w.aligned) (every-older Ordered b.saved w.ordered.1) w
well-effect release b t w =
    well-same b b.now (older b.saved) b.changed refl w.ordered.0 (omega (arith, length-older b.saved, w.few-marks))
    (every-older (λ ts. ids ts ≡ ids b.now) b.saved w.aligned) (every-older Ordered b.saved w.ordered.1) w
well-effect reset b t w = well-same b b.now b.saved false refl w.ordered.0 w.few-marks w.aligned w.ordered.1 w
well-effect (ask q) b t w = w

pub well-blank : Well blank
well-blank = record { differ = tt; few-rows = omega arith; few-marks = omega arith; aligned = tt; ordered = (tt, tt) }

pub well-act : (c : Call) (b : Board) → Well b → Well (act c b)
well-act c b w = on-cond Well (taken c b) (λ t. well-effect c b t w) w

pub well-run : (cs : List Call) (b : Board) → Well b → Well (run cs b)
well-run [] b w = w
well-run (c ∷ cs) b w = well-run cs (act c b) (well-act c b w)

-- ---- while a mark is open, the ids and their order stay

ids-batch : (ks : List Closing) (b : Board) → ids (shut_all ks b).now ≡ ids b.now
ids-batch [] b = refl
ids-batch (k ∷ ks) b = ids-batch ks (shut_on k b) ∙ ids-shut k b.now

ids-effect : (c : Call) (b : Board) → T (taken c b) → T (some b.saved) → Well b → ids (effect c b).now ≡ ids b.now
ids-effect (register i vs) b t o w = absurd (rw (register-open i vs b o) at t)
ids-effect (close k) b t o w = ids-shut k b.now
ids-effect (batch ks) b t o w = ids-batch ks b
ids-effect (spread is) b t o w = ids-puts b.now is (pass (domains b.now is)).domains
ids-effect (ready is) b t o w = refl
ids-effect mark b t o w = refl
ids-effect restore b t o w = newest-ids b.now b.saved w.aligned
ids-effect release b t o w = refl
ids-effect reset b t o w = refl
ids-effect (ask q) b t o w = refl

pub ids-stay : (c : Call) (b : Board) → Well b → T (some b.saved) → ids (act c b).now ≡ ids b.now
ids-stay c b w o = on-cond (λ (a : Board). ids a.now ≡ ids b.now) (taken c b) (λ t. ids-effect c b t o w) refl
