-- Destinations stay brief, whatever the calls of a sheet: closings and passes only take chutes away. Assumes nothing.
use Rattle.std.specs.Prelude.{◌≡◌, refl, Bool, true, false, not, cond, List, [], ◌∷◌, ◌++◌, map, ℕ, zero, suc, ◌+◌, ◌^◌, ◌≤◌, ◌<◌, T, eqb, ℤ, pos, nat_abs, ◌+ℤ◌, length}
use Rattle.std.specs.Int.Signed.{lt_z}
use Rattle.std.specs.Int.{w32}
use Rattle.std.proofs.Common.{sym, ap, subst, append_assoc, suc-le-suc, arith, SFits, leb-true}
use lib.Signed.{nat_abs-le}
use Rattle.mask.specs.Val.{offsets}
use Rattle.offset.specs.Places.{span_of}
use Rattle.offset.specs.Wide.{mag-add}
use Rattle.rules.specs.Sets.{Chutes, has, keep, ascending, Every}
use Rattle.rules.specs.Pass.{pass}
use Rattle.rules.specs.Board as rules
use Rattle.rules.specs.declared.Value.{Value}
use Rattle.rules.proofs.Tests.{on-cond}
use Rattle.rules.proofs.SetLaws.{length-keep, keep-within}
use Rattle.rules.proofs.InOrder.{ascending-same}
use Rattle.rules.proofs.Sound.{pass-every}
use Rattle.domain.specs.Set.{set_of, stretch, range}
use Rattle.domain.specs.Calls.{narrow, invalid, filled, between_of, new_of}
use Rattle.domain.proofs.Laws.{stretch-offset}
use Rattle.domain.proofs.Theorems.{values-ascend, full-set, bare_set}
use Rattle.closing.specs.Kinds.{kind_of}
use Rattle.closing.specs.declared.Closing.{Closing}
use Rattle.sheet_form.specs.declared.Destination.{Destination}
use Rattle.sheet_form.specs.Sheet.{Sheet, All}
use Rattle.wave_form.specs.Wave.{registers, closes, calls_of}
use Rattle.wave_print.proofs.Room.{Brief}

pub record Small (s : Chutes) : Type 0 where
  pub size : length s < 10 ^ 3
  pub chutes : (x : ℤ) → T (has x s) → nat_abs x < 10 ^ 10

small-none : Small []
small-none = record { size = omega arith; chutes = λ x h. absurd h }

small-keep : (p : ℤ → Bool) (s : Chutes) → Small s → Small (keep p s)
small-keep p s h = record { size = omega (arith, length-keep p s, h.size); chutes = λ x k. h.chutes x (keep-within p s x k) }

-- ---- rows

brief-domain : (rs : rules.Rows) (i : ℕ) → Every Brief rs → Small (rules.domain rs i)
brief-domain [] i h = small-none
brief-domain (r ∷ rs) i h = on-cond Small (eqb i r.id) (λ t. record { size = h.0.size; chutes = h.0.chutes }) (brief-domain rs i h.1)

brief-domains : (rs : rules.Rows) (is : List ℕ) → Every Brief rs → Every Small (rules.domains rs is)
brief-domains rs [] h = tt
brief-domains rs (i ∷ is) h = (brief-domain rs i h, brief-domains rs is h)

brief-put : (rs : rules.Rows) (i : ℕ) (d : Chutes) → Small d → Every Brief rs → Every Brief (rules.put rs i d)
brief-put [] i d s h = tt
brief-put (r ∷ rs) i d s h =
    on-cond (Every Brief) (eqb i r.id) (λ t. (record { id = h.0.id; size = s.size; chutes = s.chutes }, h.1)) (h.0, brief-put rs i d s h.1)

brief-puts : (rs : rules.Rows) (is : List ℕ) (ds : List Chutes) → Every Small ds → Every Brief rs → Every Brief (rules.puts rs is ds)
brief-puts rs [] ds s h = h
brief-puts rs (i ∷ is) [] s h = h
brief-puts rs (i ∷ is) (d ∷ ds) s h = brief-put (rules.puts rs is ds) i d s.0 (brief-puts rs is ds s.1 h)

brief-last : (rs : rules.Rows) (r : rules.Row) → Brief r → Every Brief rs → Every Brief (rs ++ (r ∷ []))
brief-last [] r b h = (b, tt)
brief-last (s ∷ rs) r b h = (h.0, brief-last rs r b h.1)

brief-enter : (rs : rules.Rows) (i : ℕ) (d : Chutes) → i < 10 ^ 10 → Small d → Every Brief rs → Every Brief (rules.enter rs i d)
brief-enter rs i d l s h =
    on-cond (Every Brief) (rules.known rs i) (λ t. brief-put rs i d s h) (brief-last rs (record { id = i; chutes = d }) (record { id = l; size = s.size; chutes = s.chutes }) h)

-- ---- the calls of a sheet

acted : (c : rules.Call) (b : rules.Board) → (Every Brief b.now → Every Brief (rules.effect c b).now) → Every Brief b.now → Every Brief (rules.act c b).now
acted c b f h = on-cond (λ (a : rules.Board). Every Brief a.now) (rules.taken c b) (λ t. f h) h

registered : (i : ℕ) (vs : Chutes) (b : rules.Board) → i < 10 ^ 10 → Small (ascending vs) → Every Brief b.now → Every Brief (rules.act (rules.register i vs) b).now
registered i vs b l s = acted (rules.register i vs) b (brief-enter b.now i (ascending vs) l s)

closed : (k : rules.Closing) (b : rules.Board) → Every Brief b.now → Every Brief (rules.act (rules.close k) b).now
closed k b = acted (rules.close k) b (λ h. brief-put b.now k.id (keep p d) (small-keep p d (brief-domain b.now k.id h)) h)
  where
    d : Chutes
    d = rules.domain b.now k.id

    p : ℤ → Bool
    p = rules.leaves k.kind k.value

spread : (is : List ℕ) (b : rules.Board) → Every Brief b.now → Every Brief (rules.act (rules.spread is) b).now
spread is b = acted (rules.spread is) b (λ h. brief-puts b.now is (pass (rules.domains b.now is)).domains (pass-every Small (λ u d s. small-keep (λ x. not (has x u)) d s) (rules.domains b.now is) (brief-domains b.now is h)) h)

-- ---- a sheet's destinations

-- an id of 32 bits, and two chutes
pub record Within32 (d : Destination) : Type 0 where
  pub id : d.id.0 < 2 ^ 32
  pub min : SFits w32 d.min.0
  pub max : SFits w32 d.max.0

stretch-length : (lo : ℤ) (k n : ℕ) → length (stretch lo k n) ≡ n
stretch-length lo k zero = refl
stretch-length lo k (suc n) = ap suc (stretch-length lo (suc k) n)

range_small : (lo : ℤ) (n : ℕ) → SFits w32 lo → n ≤ offsets → Small (range lo n)
range_small lo n f h = record {
  size = omega (arith, stretch-length lo 0 n);
  chutes = λ x k. let r = stretch-offset lo 0 n x k in near x r.0 r.1 r.3;
}
  where
    near : (x : ℤ) (j : ℕ) → x ≡ lo +ℤ pos j → j < 0 + n → nat_abs x < 10 ^ 10
    near x j e l = subst (λ (y : ℤ). nat_abs y < 10 ^ 10) (sym e) (omega (arith, nat_abs-le (lo +ℤ pos j) (suc-le-suc (mag-add lo (pos j))), f.sfits))

between-small : (lo hi : ℤ) → SFits w32 lo → Small (set_of (between_of true lo hi))
unfolding between_of
between-small lo hi f = go (narrow lo hi) refl
  where
    go : (b : Bool) → narrow lo hi ≡ b → Small (set_of (cond b (filled true lo hi) invalid))
    go true e = subst Small (sym (full-set lo hi e)) (range_small lo (span_of lo hi) f (leb-true (span_of lo hi) offsets e))
    go false e = subst Small (sym (bare_set (pos 1) (pos 0))) small-none

pub new-small : (a b : Value) → SFits w32 a.0 → SFits w32 b.0 → Small (set_of (new_of true a b))
unfolding new_of
new-small a b f g = go (lt_z b.0 a.0)
  where
    go : (t : Bool) → Small (set_of (cond t (between_of true b.0 a.0) (between_of true a.0 b.0)))
    go true = between-small b.0 a.0 g
    go false = between-small a.0 b.0 f

-- ---- a sheet's calls in order

run-registers : (ds : List Destination) (cs : List rules.Call) (b : rules.Board) → All Within32 ds → ((c : rules.Board) → Every Brief c.now → Every Brief (rules.run cs c).now) → Every Brief b.now → Every Brief (rules.run (map registers ds ++ cs) b).now
unfolding All
run-registers [] cs b w f h = f b h
run-registers (d ∷ ds) cs b w f h =
    let v = set_of (new_of true d.min d.max) in
    let s = subst Small (sym (ascending-same v (values-ascend (new_of true d.min d.max).min (new_of true d.min d.max).mask))) (new-small d.min d.max w.0.min w.0.max) in
    run-registers ds cs (rules.act (registers d) b) w.1 f (registered d.id.0 v b (omega (arith, w.0.id)) s h)

run-closes : (ks : List Closing) (cs : List rules.Call) (b : rules.Board) → ((c : rules.Board) → Every Brief c.now → Every Brief (rules.run cs c).now) → Every Brief b.now → Every Brief (rules.run (map closes ks ++ cs) b).now
run-closes [] cs b f h = f b h
run-closes (k ∷ ks) cs b f h = run-closes ks cs (rules.act (closes k) b) f (closed (record { kind = kind_of k.kind; id = k.id.0; value = k.value.0 }) b h)

run-spreads : (ls : List (List ℕ)) (b : rules.Board) → Every Brief b.now → Every Brief (rules.run (map rules.spread ls) b).now
run-spreads [] b h = h
run-spreads (l ∷ ls) b h = run-spreads ls (rules.act (rules.spread l) b) (spread l b h)

pub brief-run : (sh : Sheet) → All Within32 sh.destinations → Every Brief (rules.run (calls_of sh) rules.blank).now
brief-run sh w =
    let ks = map closes sh.closings in
    let ls = map rules.spread sh.lists in
    subst (λ (cs : List rules.Call). Every Brief (rules.run cs rules.blank).now) (sym (append_assoc (map registers sh.destinations) ks ls))
    (run-registers sh.destinations (ks ++ ls) rules.blank w (λ b. run-closes sh.closings ls b (run-spreads sh.lists)) tt)
