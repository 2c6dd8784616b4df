-- A text that is read as a sheet is the text of that sheet, and the sheet is good. Assumes nothing.
use Rattle.std.specs.Prelude.{ℕ, zero, suc, ◌+◌, ◌-◌, ◌^◌, ◌≤◌, ◌<◌, ◌≡◌, refl, List, [], ◌∷◌, ◌++◌, Bool, true, false, cond, ◌&&◌, ltb, eqb, length, get_or, take, drop, ℤ, pos, negsuc, nat_abs}
use Rattle.std.specs.Int.Signed.{le_z}
use Rattle.std.specs.Int.{w32}
use Rattle.std.proofs.Common.{ap, ap₂, sym, ◌∙◌, subst, append_assoc, append-nil, arith, ltb-true, ltb-false, eqb-true, length-append, length-drop, take-append-drop, drop_of_length-le, drop-drop, drop-cons, SFits}
use Rattle.std.proofs.Math.Option.{Option, some, none}
use Rattle.closing.specs.declared.Closing.{Closing}
use Rattle.decimal.specs.Decimal.{decimal}
use Rattle.sheet_form.specs.declared.Destination.{Destination}
use Rattle.sheet_form.specs.Sheet.{Sheet, All, Few}
use Rattle.sheet_number.specs.declared.Fault.{Fault}
use Rattle.sheet_number.specs.Number.{Got, got, fault, number_at, byte_at, judged, fault_at, run, run_end, in_run, written}
use Rattle.sheet_number.specs.Reader.{Reader, after, natural, value, field, each}
use Rattle.sheet_number.proofs.Readers.{no-fault, field-parts, natural-got, value-fits, natural-bound}
use Rattle.closing.specs.Kinds.{kind_for}
use Rattle.sheet_sections.specs.Sections.{id, destination, closing, gap, count, listed, list, section}
use Rattle.sheet_sections.proofs.Arrays.{each-length}
use Rattle.sheet.specs.Sheet.{end, sheet, read_sheet}
use Rattle.sheet.specs.Write.{write_field, write_id, number_for, write_destination, write_closing, write_each, write_list, write_section, write_sheet, GoodDestination, GoodClosing, Good}
use Rattle.sheet_laws.proofs.Canonical.{written_is}
use Rattle.sheet_laws.proofs.Round.{GoodList, write_listed}

-- from the place at to the place e, s has the text w
record Has (s : List ℕ) (at e : ℕ) (w : List ℕ) : Type 0 where
  is : drop at s ≡ w ++ drop e s
  within : e ≤ length s

has-then : {s : List ℕ} {at d e : ℕ} {w v : List ℕ} → Has s at d w → Has s d e v → Has s at e (w ++ v)
has-then {s} {at} {d} {e} {w} {v} p q =
    record { is = p.is ∙ ap (λ (x : List ℕ). w ++ x) q.is ∙ sym (append_assoc w v (drop e s)); within = q.within }

has-none : (s : List ℕ) (at : ℕ) → at ≤ length s → Has s at at []
has-none s at h = record { is = refl; within = h }

-- what a bind gave
after-inv : {A B : Type 0} (g : Got A) (f : A → ℕ → Got B) (b : B) (e : ℕ) → after g f ≡ got b e → (a : A) × (d : ℕ) × (g ≡ got a d) × (f a d ≡ got b e)
after-inv (got a d) f b e q = (a, d, refl, q)
after-inv (fault k p) f b e q = let z : ◌≡◌ {A = ℕ} 0 1 = cc in absurd (omega arith)

pure-inv : {A : Type 0} (a b : A) (d e : ℕ) → got a d ≡ got b e → (a ≡ b) × (d ≡ e)
pure-inv a b d e q = (cc, cc)

-- ---- a number

front_by : (t : Bool) (b : ℕ) (r l : List ℕ) → r ≡ take (length r) l → cond t (b ∷ r) [] ≡ take (length (cond t (b ∷ r) [])) (b ∷ l)
front_by true b r l e = ap (λ (x : List ℕ). b ∷ x) e
front_by false b r l e = refl

run-front : (l : List ℕ) → run l ≡ take (length (run l)) l
unfolding run
run-front [] = refl
run-front (b ∷ l) = front_by (in_run b) b (run l) l (run-front l)

judged-by : (t : Bool) (y z : ℤ) (d e : ℕ) (f : Got ℤ) → (f ≡ got z e → ⊥) → cond t (got y d) f ≡ got z e → (y ≡ z) × (d ≡ e)
judged-by true y z d e f n q = pure-inv y z d e q
judged-by false y z d e f n q = absurd (n q)

judged-inv : (s : List ℕ) (at : ℕ) (low high : ℤ) (d : ℕ) (o : Option ℤ) (z : ℤ) (e : ℕ) → judged s at low high d o ≡ got z e → (o ≡ some z) × (d ≡ e)
judged-inv s at low high d none z e q = absurd (no-fault s at _ z e q)
judged-inv s at low high d (some y) z e q =
    let k = judged-by (le_z low y && le_z y high) y z d e (fault_at s at _) (no-fault s at _ z e) q in
    (ap (λ (x : ℤ). some x) k.0, k.1)

number-has : (s : List ℕ) (at : ℕ) (low high z : ℤ) (e : ℕ) → at ≤ length s → number_at s at low high ≡ got z e → Has s at e (decimal z)
unfolding number_at
number-has s at low high z e h q =
    let r : List ℕ = run (drop at s) in
    let k = judged-inv s at low high (run_end s at) (written r) z e q in
    let t : r ≡ decimal z = written_is r z k.0 in
    let f : drop at s ≡ r ++ drop (length r) (drop at s) = sym (take-append-drop (length r) (drop at s)) ∙ ap (λ (x : List ℕ). x ++ drop (length r) (drop at s)) (sym (run-front (drop at s))) in
    let g : drop (length r) (drop at s) ≡ drop e s = drop-drop (length r) at s ∙ ap (λ (x : ℕ). drop x s) k.1 in
    let n : length s - at ≡ length r + (length s - at - length r) = sym (length-drop at s) ∙ ap length f ∙ length-append r (drop (length r) (drop at s)) ∙ ap (λ (x : ℕ). length r + x) (length-drop (length r) (drop at s) ∙ ap (λ (x : ℕ). x - length r) (length-drop at s)) in
    record { is = f ∙ ap₂ (λ (x y : List ℕ). x ++ y) t g; within = omega (arith, k.1) }

byte-by : (t u : Bool) (at e : ℕ) (f : Got Unit) → (f ≡ got tt e → ⊥) → cond (t && u) (got tt (at + 1)) f ≡ got tt e → (t ≡ true) × (u ≡ true) × (at + 1 ≡ e)
byte-by true true at e f n q = (refl, refl, cc)
byte-by true false at e f n q = absurd (n q)
byte-by false u at e f n q = absurd (n q)

byte-has : (s : List ℕ) (at b e : ℕ) → byte_at s at b ≡ got tt e → Has s at e (b ∷ [])
unfolding byte_at
byte-has s at b e q =
    let k = byte-by (ltb at (length s)) (eqb (get_or s at 0) b) at e (fault_at s at _) (no-fault s at _ tt e) q in
    let l = ltb-true at (length s) k.0 in
    let g = eqb-true (get_or s at 0) b k.1 in
    let n : suc at ≡ e = omega (arith, k.2) in
    record { is = drop-cons s at 0 l ∙ ap₂ (λ (x y : ℕ). x ∷ drop y s) g n; within = omega arith }

-- ---- a field

natural-open : (low high : ℕ) (s : List ℕ) (at n e : ℕ) → natural low high s at ≡ got n e → number_at s at (pos low) (pos high) ≡ got (pos n) e
unfolding natural
natural-open low high s at n e q =
    let k = after-inv (number_at s at (pos low) (pos high)) (λ z d. got (nat_abs z) d) n e q in
    let j = natural-got s at low high k.0 k.1 k.2 in
    let i = pure-inv (nat_abs k.0) n k.1 e k.3 in
    let v : j.0 ≡ n = ap nat_abs (sym j.1) ∙ i.0 in
    k.2 ∙ ap₂ (λ (x : ℤ) (y : ℕ). got x y) (j.1 ∙ ap pos v) i.1

natural-has : (low high b : ℕ) (s : List ℕ) (at n f : ℕ) → at ≤ length s → field (natural low high) b s at ≡ got n f → (Has s at f (write_id n b)) × (low ≤ n) × (n ≤ high)
natural-has low high b s at n f l q =
    let k = field-parts (natural low high) b s at n f q in
    let r = natural-bound s at low high n k.0 k.1 in
    (has-then (number-has s at (pos low) (pos high) (pos n) k.0 l (natural-open low high s at n k.0 k.1)) (byte-has s k.0 b f k.2), r.0, r.1)

value-open : (s : List ℕ) (at : ℕ) (z : ℤ) (e : ℕ) → value s at ≡ got z e → number_at s at (negsuc 2147483647) (pos 2147483647) ≡ got z e
unfolding value
value-open s at z e q = q

value-has : (b : ℕ) (s : List ℕ) (at : ℕ) (z : ℤ) (f : ℕ) → at ≤ length s → field value b s at ≡ got z f → (Has s at f (write_field z b)) × SFits w32 z
value-has b s at z f l q =
    let k = field-parts value b s at z f q in
    (has-then (number-has s at (negsuc 2147483647) (pos 2147483647) z k.0 l (value-open s at z k.0 k.1)) (byte-has s k.0 b f k.2), value-fits s at z k.0 k.1)

-- ---- the lines

record Read {A : Type 0} (w : A → List ℕ) (P : A → Type 0) (s : List ℕ) (at e : ℕ) (a : A) : Type 0 where
  has : Has s at e (w a)
  good : P a

abbrev Writes : {A : Type 0} → Reader A → (A → List ℕ) → (A → Type 0) → Type 0
Writes {A} m w P = (s : List ℕ) (at : ℕ) (a : A) (e : ℕ) → at ≤ length s → m s at ≡ got a e → Read w P s at e a

abbrev destination_of : ℕ → ℤ → ℤ → Destination
destination_of i lo hi = record { id = record { 0 = i }; min = record { 0 = lo }; max = record { 0 = hi } }

made-destination : (s : List ℕ) (at e : ℕ) (i : ℕ) (lo hi : ℤ) (a b c : ℕ) → Has s at a (write_id i 32) → Has s a b (write_field lo 32) → Has s b c (write_field hi 10)
    → i ≤ 4294967295 → SFits w32 lo → SFits w32 hi → c ≡ e → Read write_destination GoodDestination s at e (destination_of i lo hi)
unfolding write_destination
made-destination s at e i lo hi a b c p q r u v w z =
    record {
      has = subst (λ (x : ℕ). Has s at x (write_destination (destination_of i lo hi))) z (has-then p (has-then q (has-then r (has-none s c r.within))));
      good = record { id = omega arith; min = v; max = w };
    }

destination-writes : Writes destination write_destination GoodDestination
unfolding destination
destination-writes s at d e l q =
    let k1 = after-inv (field id 32 s at) _ d e q in
    let h1 = natural-has 0 4294967295 32 s at k1.0 k1.1 l k1.2 in
    let k2 = after-inv (field value 32 s k1.1) _ d e k1.3 in
    let h2 = value-has 32 s k1.1 k2.0 k2.1 h1.0.within k2.2 in
    let k3 = after-inv (field value 10 s k2.1) _ d e k2.3 in
    let h3 = value-has 10 s k2.1 k3.0 k3.1 h2.0.within k3.2 in
    let i = pure-inv (destination_of k1.0 k2.0 k3.0) d k3.1 e k3.3 in
    subst (λ (x : Destination). Read write_destination GoodDestination s at e x) i.0
    (made-destination s at e k1.0 k2.0 k3.0 k1.1 k2.1 k3.1 h1.0 h2.0 h3.0 h1.2 h2.1 h3.1 i.1)

number-for : (k : ℕ) → 1 ≤ k → k ≤ 4 → number_for (kind_for k) ≡ k
number-for zero p q = absurd (omega arith)
number-for (suc zero) p q = unfold kind_for in refl
number-for (suc (suc zero)) p q = unfold kind_for in refl
number-for (suc (suc (suc zero))) p q = unfold kind_for in refl
number-for (suc (suc (suc (suc zero)))) p q = unfold kind_for in refl
number-for (suc (suc (suc (suc (suc k))))) p q = absurd (omega arith)

abbrev closing_of : ℕ → ℕ → ℤ → Closing
closing_of k i v = record { kind = kind_for k; id = record { 0 = i }; value = record { 0 = v } }

made-closing : (s : List ℕ) (at e : ℕ) (k i : ℕ) (v : ℤ) (a b c : ℕ) → Has s at a (write_id k 32) → Has s a b (write_id i 32) → Has s b c (write_field v 10)
    → 1 ≤ k → k ≤ 4 → i ≤ 4294967295 → SFits w32 v → c ≡ e → Read write_closing GoodClosing s at e (closing_of k i v)
unfolding write_closing
made-closing s at e k i v a b c p q r m n u w z =
    record {
      has =
          subst (λ (x : ℕ). Has s at x (write_closing (closing_of k i v))) z
          (subst (λ (x : ℕ). Has s at c (write_id x 32 ++ (write_id i 32 ++ (write_field v 10 ++ [])))) (sym (number-for k m n)) (has-then p (has-then q (has-then r (has-none s c r.within)))));
      good = record { id = omega arith; value = w };
    }

closing-writes : Writes closing write_closing GoodClosing
unfolding closing
closing-writes s at d e l q =
    let k1 = after-inv (field (natural 1 4) 32 s at) _ d e q in
    let h1 = natural-has 1 4 32 s at k1.0 k1.1 l k1.2 in
    let k2 = after-inv (field id 32 s k1.1) _ d e k1.3 in
    let h2 = natural-has 0 4294967295 32 s k1.1 k2.0 k2.1 h1.0.within k2.2 in
    let k3 = after-inv (field value 10 s k2.1) _ d e k2.3 in
    let h3 = value-has 10 s k2.1 k3.0 k3.1 h2.0.within k3.2 in
    let i = pure-inv (closing_of k1.0 k2.0 k3.0) d k3.1 e k3.3 in
    subst (λ (x : Closing). Read write_closing GoodClosing s at e x) i.0
    (made-closing s at e k1.0 k2.0 k3.0 k1.1 k2.1 k3.1 h1.0 h2.0 h3.0 h1.1 h1.2 h2.2 h3.1 i.1)

-- ---- several

module _ {A : Type 0} (f : ℕ → Reader A) (w : ℕ → A → List ℕ) (P : A → Type 0) (writes : (j : ℕ) → Writes (f j) (w j) P) where
  made_each : (s : List ℕ) (at d e : ℕ) (n : ℕ) (a : A) (l : List A) → Read (w n) P s at d a → Read (write_each w) (All P) s d e l → length l ≡ n
      → Read (write_each w) (All P) s at e (a ∷ l)
  unfolding write_each All
  made_each s at d e n a l p q h =
      record {
        has = subst (λ (x : ℕ). Has s at e (w x a ++ (write_each w l ++ []))) (sym h) (has-then p.has (has-then q.has (has-none s e q.has.within)));
        good = (p.good, q.good);
      }

  none_each : (s : List ℕ) (at e : ℕ) → at ≤ length s → at ≡ e → Read (write_each w) (All P) s at e []
  unfolding write_each All
  none_each s at e h q = subst (λ (x : ℕ). Read (write_each w) (All P) s at x []) q (record { has = has-none s at h; good = tt })

  each-writes : (n : ℕ) → Writes (each f n) (write_each w) (All P)
  unfolding each
  each-writes zero s at l e h q =
      let i = pure-inv [] l at e q in
      subst (λ (x : List A). Read (write_each w) (All P) s at e x) i.0 (none_each s at e h i.1)
  each-writes (suc n) s at l e h q =
      let k1 = after-inv (f n s at) _ l e q in
      let h1 = writes n s at k1.0 k1.1 h k1.2 in
      let k2 = after-inv (each f n s k1.1) _ l e k1.3 in
      let i = pure-inv (k1.0 ∷ k2.0) l k2.1 e k2.3 in
      let k3 : each f n s k1.1 ≡ got k2.0 e = k2.2 ∙ ap (λ (x : ℕ). got k2.0 x) i.1 in
      let h2 = each-writes n s k1.1 k2.0 e h1.has.within k3 in
      subst (λ (x : List A). Read (write_each w) (All P) s at e x) i.0
      (made_each s at k1.1 e n k1.0 k2.0 h1 h2 (each-length f n s k1.1 k2.0 e k3))

listed-writes : (j : ℕ) → Writes (listed j) (write_listed j) (λ (i : ℕ). i < 2 ^ 32)
listed-writes j s at i e h q =
    let k = natural-has 0 4294967295 (gap j) s at i e h q in
    record { has = k.0; good = omega (arith, k.2) }

count-has : (s : List ℕ) (at n e : ℕ) → at ≤ length s → count s at ≡ got n e → (Has s at e (write_id n (gap n))) × (n ≤ 64)
unfolding count
count-has s at n e h q =
    let k1 = after-inv (natural 0 64 s at) _ n e q in
    let k2 = after-inv (byte_at s k1.1 (gap k1.0)) _ n e k1.3 in
    let i = pure-inv k1.0 n k2.1 e k2.3 in
    let r = natural-bound s at 0 64 k1.0 k1.1 k1.2 in
    let h1 = number-has s at (pos 0) (pos 64) (pos k1.0) k1.1 h (natural-open 0 64 s at k1.0 k1.1 k1.2) in
    let h2 : Has s at k2.1 (write_id k1.0 (gap k1.0)) = has-then h1 (byte-has s k1.1 (gap k1.0) k2.1 k2.2) in
    (subst (λ (x : ℕ). Has s at x (write_id n (gap n))) i.1 (subst (λ (x : ℕ). Has s at k2.1 (write_id x (gap x))) i.0 h2), omega (arith, r.1, i.0))

made_list : (s : List ℕ) (at d e n : ℕ) (l : List ℕ) → Has s at d (write_id n (gap n)) → Read (write_each write_listed) (All (λ (i : ℕ). i < 2 ^ 32)) s d e l → length l ≡ n → n ≤ 64
    → Read write_list GoodList s at e l
unfolding write_list
made_list s at d e n l p q h u =
    record {
      has = subst (λ (x : ℕ). Has s at e (write_id x (gap x) ++ write_each write_listed l)) (sym h) (has-then p q.has);
      good = (omega arith, q.good);
    }

list-writes : Writes list write_list GoodList
unfolding list
list-writes s at l e h q =
    let k = after-inv (count s at) _ l e q in
    let p = count-has s at k.0 k.1 h k.2 in
    made_list s at k.1 e k.0 l p.0 (each-writes listed write_listed (λ (i : ℕ). i < 2 ^ 32) listed-writes k.0 s k.1 l e p.0.within k.3) (each-length listed k.0 s k.1 l e k.3) p.1

-- ---- the sections and the sheet

module _ {A : Type 0} (most : ℕ) (line : Reader A) (w : A → List ℕ) (P : A → Type 0) (writes : Writes line w P) where
  made-section : (s : List ℕ) (at d e n : ℕ) (l : List A) → Has s at d (write_id n 10) → Read (write_each (λ n a. w a)) (All P) s d e l → length l ≡ n
      → Has s at e (write_section w l)
  unfolding write_section
  made-section s at d e n l p q h =
      subst (λ (x : ℕ). Has s at e (write_id x 10 ++ write_each (λ n a. w a) l)) (sym h) (has-then p q.has)

  section-writes : (s : List ℕ) (at : ℕ) (l : List A) (e : ℕ) → at ≤ length s → section most line s at ≡ got l e → (Has s at e (write_section w l)) × (All P l) × (length l ≤ most)
  unfolding section
  section-writes s at l e h q =
      let k1 = after-inv (field (natural 0 most) 10 s at) _ l e q in
      let h1 = natural-has 0 most 10 s at k1.0 k1.1 h k1.2 in
      let n = each-length (λ j. line) k1.0 s k1.1 l e k1.3 in
      let h2 = each-writes (λ j. line) (λ n a. w a) P (λ j. writes) k1.0 s k1.1 l e h1.0.within k1.3 in
      (made-section s at k1.1 e k1.0 l h1.0 h2 n, h2.good, omega (arith, h1.2))

end_by : (t : Bool) (k : Fault) (at e : ℕ) → ◌≡◌ {A = Got (Unit {0})} (cond t (fault k at) (got tt at)) (got tt e) → (t ≡ false) × (at ≡ e)
end_by true k at e q = let z : ◌≡◌ {A = ℕ} 0 1 = cc in absurd (omega arith)
end_by false k at e q = (refl, cc)

end-open : (s : List ℕ) (at e : ℕ) → end s at ≡ got tt e → (length s ≤ at) × (at ≡ e)
unfolding end
end-open s at e q =
    let k = end_by (ltb at (length s)) _ at e q in
    (ltb-false at (length s) k.0, k.1)

all_left : {A : Type 0} (P Q : A → Type 0) (l : List A) → All (λ a. P a × Q a) l → All P l
unfolding All
all_left P Q [] g = tt
all_left P Q (a ∷ l) g = (g.0.0, all_left P Q l g.1)

all_right : {A : Type 0} (P Q : A → Type 0) (l : List A) → All (λ a. P a × Q a) l → All Q l
unfolding All
all_right P Q [] g = tt
all_right P Q (a ∷ l) g = (g.0.1, all_right P Q l g.1)

abbrev Short : List ℕ → Type 0
Short l = length l ≤ 64

abbrev Fitting : List ℕ → Type 0
Fitting l = All (λ (i : ℕ). i < 2 ^ 32) l

-- what is said of a text that is read
pub record Accepted (s : List ℕ) (sh : Sheet) (e : ℕ) : Type 0 where
  pub text : s ≡ write_sheet sh
  pub good : Good sh
  pub whole : e ≡ length s

abbrev sheet_of : List Destination → List Closing → List (List ℕ) → Sheet
sheet_of ds cs ls = record { destinations = ds; closings = cs; lists = ls }

made-whole : (s : List ℕ) (ds : List Destination) (cs : List Closing) (ls : List (List ℕ)) (a b c e : ℕ) → Has s 0 a (write_section write_destination ds) → Has s a b (write_section write_closing cs)
    → Has s b c (write_section write_list ls) → length s ≤ c → c ≡ e → Good (sheet_of ds cs ls) → Accepted s (sheet_of ds cs ls) e
unfolding write_sheet
made-whole s ds cs ls a b c e p q r h z g =
    let W : List ℕ = write_section write_destination ds ++ (write_section write_closing cs ++ (write_section write_list ls ++ [])) in
    let t : Has s 0 c W = has-then p (has-then q (has-then r (has-none s c r.within))) in
    record {
      text = t.is ∙ ap (λ (x : List ℕ). W ++ x) (drop_of_length-le s h) ∙ append-nil W;
      good = g;
      whole = omega (arith, t.within);
    }

pub sheet-writes : (s : List ℕ) (sh : Sheet) (e : ℕ) → sheet s 0 ≡ got sh e → Accepted s sh e
unfolding sheet
sheet-writes s sh e q =
    let k1 = after-inv (section 64 destination s 0) _ sh e q in
    let h1 = section-writes 64 destination write_destination GoodDestination destination-writes s 0 k1.0 k1.1 (omega arith) k1.2 in
    let k2 = after-inv (section 256 closing s k1.1) _ sh e k1.3 in
    let h2 = section-writes 256 closing write_closing GoodClosing closing-writes s k1.1 k2.0 k2.1 h1.0.within k2.2 in
    let k3 = after-inv (section 16 list s k2.1) _ sh e k2.3 in
    let h3 = section-writes 16 list write_list GoodList list-writes s k2.1 k3.0 k3.1 h2.0.within k3.2 in
    let k4 = after-inv (end s k3.1) _ sh e k3.3 in
    let n = end-open s k3.1 k4.1 k4.2 in
    let i = pure-inv (sheet_of k1.0 k2.0 k3.0) sh k4.1 e k4.3 in
    let few : Few (sheet_of k1.0 k2.0 k3.0) =
    record { destinations = h1.2; closings = h2.2; lists = h3.2; ids = all_left Short Fitting k3.0 h3.1 } in
    subst (λ (x : Sheet). Accepted s x e) i.0
    (made-whole s k1.0 k2.0 k3.0 k1.1 k2.1 k3.1 e h1.0 h2.0 h3.0 n.0 (n.1 ∙ i.1)
    (record { destinations = h1.1; closings = h2.1; lists = all_right Short Fitting k3.0 h3.1; few = few }))

pub long-by : (t : Bool) (k : Fault) (p : ℕ) (g : Got Sheet) (sh : Sheet) (e : ℕ) → cond t (fault k p) g ≡ got sh e → g ≡ got sh e
long-by true k p g sh e q = let z : ◌≡◌ {A = ℕ} 0 1 = cc in absurd (omega arith)
long-by false k p g sh e q = q

-- a text that is accepted is the text of the sheet that it is read as, all of it, and that sheet is good
pub only-good : (s : List ℕ) (sh : Sheet) (e : ℕ) → read_sheet s ≡ got sh e → Accepted s sh e
unfolding read_sheet
only-good s sh e q = sheet-writes s sh e (long-by (ltb 32768 (length s)) _ _ (sheet s 0) sh e q)

-- and no more of anything than 01 allows
pub accepted-few : (s : List ℕ) (sh : Sheet) (e : ℕ) → read_sheet s ≡ got sh e → Few sh
accepted-few s sh e q = (only-good s sh e q).good.few
