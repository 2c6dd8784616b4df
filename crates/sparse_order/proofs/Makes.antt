-- The order in which a set is made: ascending, and from values the absent ones are taken out of it in ascending order. Assumes nothing.
use Rattle.std.specs.Prelude.{◌≡◌, refl, Bool, true, not, List, [], ◌∷◌, ◌++◌, map, ℕ, zero, suc, ◌≤◌, T, ℤ, pos, ◌+ℤ◌, length, take, Result}
use Rattle.std.specs.declared.result.Result.TheVariants.{Ok, Err}
use Rattle.rules.specs.declared.Refusal.{Refusal}
use Rattle.std.specs.Int.Signed.{lt_z}
use Rattle.std.specs.Int.{w32}
use Rattle.std.proofs.Common.{sym, ap, ◌∙◌, subst, arith, drop_of_length-le, take-suc-set, length-take-le, SFits}
use Rattle.std.proofs.lemmas.List.{map-append}
use Rattle.ends.specs.Ends.{smallest_of, largest_of}
use Rattle.ends.proofs.Firsts.{first-in}
use Rattle.offset.specs.Places.{span_of}
use Rattle.order.specs.Order.{counted}
use Rattle.order.proofs.Counted.{length-counted}
use Rattle.rules.specs.Sets.{Chutes, has, keep}
use Rattle.rules.proofs.SetLaws.{keep-within}
use Rattle.rules.proofs.Tests.{is_true}
use Rattle.sparse_inner.specs.declared.Sparse.{Sparse}
use Rattle.sparse_inner.specs.Set.{Full, full, WellF, value_at, set_of}
use Rattle.sparse_inner.proofs.Runs.{Frame, where-well, where-frame}
use Rattle.sparse_make.specs.Calls.{Making, making, whole, unless, room_for, filled, between_of, sifted_of, from_values_of}
use Rattle.sparse_make.proofs.Makes.{Room, room_of, span-far, filled-well}
use Rattle.sparse_laws.proofs.Held.{members}
use Rattle.sparse_laws.proofs.Made.{from-values-holds}
use Rattle.sparse_laws.proofs.Theorems.{Holds}
use Rattle.sparse_order.specs.Order.{swap_outs, onto, up_from}
use Rattle.sparse_order.specs.Walk.{rest_of}
use Rattle.sparse_order.proofs.Lists.{keep_same}
use Rattle.sparse_order.proofs.Drops.{where-order}
use Rattle.sparse_order.proofs.Runs.{keep-picked}
use Rattle.sparse_order.proofs.Rest.{where-rest}

-- ---- all held
counted-list : (lo : ℤ) (n : ℕ) (xs : List ℕ) → n ≤ length xs → map (λ (o : ℕ). lo +ℤ pos o) (take n (counted n xs)) ≡ up_from lo n
unfolding counted up_from
counted-list lo zero xs h = refl
counted-list lo (suc n) xs h =
    ap (map (λ (o : ℕ). lo +ℤ pos o)) (take-suc-set (counted n xs) n n (omega (arith, length-counted n xs)))
    ∙ map-append (λ (o : ℕ). lo +ℤ pos o) (take n (counted n xs)) (n ∷ [])
    ∙ ap (λ (l : Chutes). l ++ ((lo +ℤ pos n) ∷ [])) (counted-list lo n xs (omega arith))

pub filled-order : (lo : ℤ) (n : ℕ) (ind val : List ℕ) → n ≤ length val → set_of (filled lo n ind val) ≡ up_from lo n
unfolding set_of
filled-order lo n ind val h = counted-list lo n val h

-- ---- the absent ones taken out
pub sifted-order : (vs : Chutes) (f : Full) → WellF f → set_of (sifted_of vs f) ≡ swap_outs (keep (λ z. not (has z vs)) (up_from f.set.off f.set.n)) (set_of f)
unfolding sifted_of
sifted-order vs f W =
    where-order (λ o. not (has (value_at f.set o) vs)) f 0 f.set.n W (omega arith)
    ∙ ap (λ (l : Chutes). swap_outs l (set_of f)) (sym (keep-picked (λ z. not (has z vs)) f.set.off (λ o. not (has (value_at f.set o) vs)) f.set.n (λ o l. refl)))

filled-rest : (lo : ℤ) (n : ℕ) (ind val : List ℕ) → n ≤ length val → rest_of (filled lo n ind val) ≡ []
unfolding rest_of
filled-rest lo n ind val h =
    ap (map (λ (o : ℕ). lo +ℤ pos o)) (drop_of_length-le (take n (counted n val)) {i = n} (omega (arith, length-take-le n (counted n val) (omega (arith, length-counted n val)))))

-- all of them were held
keep_all : (p : ℤ → Bool) (l : Chutes) → ((z : ℤ) → T (has z l) → p z ≡ true) → keep p l ≡ l
keep_all p l h = keep_same p (λ z. true) l h ∙ all l
  where
    all : (l : Chutes) → keep (λ z. true) l ≡ l
    all [] = refl
    all (x ∷ l) = ap (λ (u : Chutes). x ∷ u) (all l)

pub sifted-rest : (vs : Chutes) (lo : ℤ) (n : ℕ) (ind val : List ℕ) → n ≤ length val → WellF (filled lo n ind val) → rest_of (sifted_of vs (filled lo n ind val)) ≡ onto (keep (λ z. not (has z vs)) (up_from lo n)) []
unfolding sifted_of
sifted-rest vs lo n ind val h W =
    let q : ℤ → Bool = λ z. not (has z vs) in
    where-rest (λ o. not (has (lo +ℤ pos o) vs)) (filled lo n ind val) 0 n W (omega arith)
    ∙ (λ i. onto (keep (λ z. has z (filled-order lo n ind val h i)) (sym (keep-picked q lo (λ o. not (has (lo +ℤ pos o) vs)) n (λ o l. refl)) i)) (filled-rest lo n ind val h i))
    ∙ ap (λ (l : Chutes). onto l []) (keep_all (λ z. has z (up_from lo n)) (keep q (up_from lo n)) (λ z t. is_true (has z (up_from lo n)) (keep-within q (up_from lo n) z t)))

-- ---- what an accepted call made
-- of its universe g: the call found room, and left g
record Makes (n : ℕ) (ind val : List ℕ) (g h : Full) : Type 0 where
  room : Room n ind val
  is : g ≡ h

makes : (n : ℕ) (ind val : List ℕ) (g : Full) (s : Sparse) (ind' val' : List ℕ) → unless (room_for n ind val) ind val g ≡ making (Ok s) ind' val' → Makes n ind val g (full s ind' val')
makes n ind val g s ind' val' e = go (room_for n ind val) refl e
  where
    go : (w : Result Unit Refusal) → room_for n ind val ≡ w → unless w ind val g ≡ making (Ok s) ind' val' → Makes n ind val g (full s ind' val')
    go (Ok tt) p q =
        let a : Ok g.set ≡ Ok s = ap (λ (m : Making). m.answer) q in
        let b : g.set ≡ s = cc in
        record { room = room_of n ind val p; is = λ i. full (b i) (q i).ind (q i).val }
    go (Err why) p q =
        let a : Err why ≡ Ok s = ap (λ (m : Making). m.answer) q in
        absurd (let z : ◌≡◌ {A = ℕ} 0 1 = cc in omega arith)

-- ---- the whole universe, ascending
pub between-order : (lo hi : ℤ) (ind val : List ℕ) (s : Sparse) (ind' val' : List ℕ) → between_of lo hi ind val ≡ making (Ok s) ind' val' → set_of (full s ind' val') ≡ up_from lo (span_of lo hi)
unfolding between_of
between-order lo hi ind val s ind' val' e =
    let m = makes (span_of lo hi) ind val (filled lo (span_of lo hi) ind val) s ind' val' e in
    ap set_of (sym m.is) ∙ filled-order lo (span_of lo hi) ind val m.room.in-val

-- ---- some values
-- well formed, of the listed values; the absent ones taken out of the ascending universe in ascending order, and standing behind the held ones
pub record FromValues (vs : Chutes) (g : Full) : Type 0 where
  pub holds : Holds g (λ z. has z vs)
  pub order : set_of g ≡ swap_outs (keep (λ z. not (has z vs)) (up_from g.set.off g.set.n)) (up_from g.set.off g.set.n)
  pub rest : rest_of g ≡ onto (keep (λ z. not (has z vs)) (up_from g.set.off g.set.n)) []

sifted-well : (vs : Chutes) (f : Full) → WellF f → WellF (sifted_of vs f)
unfolding sifted_of
sifted-well vs f W = where-well (λ o. not (has (value_at f.set o) vs)) f 0 f.set.n W

sifted-frame : (vs : Chutes) (f : Full) → Frame f (sifted_of vs f)
unfolding sifted_of
sifted-frame vs f = where-frame (λ o. not (has (value_at f.set o) vs)) f 0 f.set.n

-- of no values, no universe
none : (ind val : List ℕ) → FromValues [] (full (whole (pos 0) 0) ind val)
unfolding counted up_from swap_outs onto set_of rest_of
none ind val =
    let W : WellF (full (whole (pos 0) 0) ind val) = filled-well (pos 0) 0 ind val (record { narrow = omega arith; in-ind = omega arith; in-val = omega arith }) refl in
    record { holds = record { well = W; is = λ z. refl }; rest = refl; order = refl }

made_none : (ind val : List ℕ) (s : Sparse) (ind' val' : List ℕ) → making (Ok (whole (pos 0) 0)) ind val ≡ making (Ok s) ind' val' → full (whole (pos 0) 0) ind val ≡ full s ind' val'
made_none ind val s ind' val' e =
    let a : Ok (whole (pos 0) 0) ≡ Ok s = ap (λ (m : Making). m.answer) e in
    let b : whole (pos 0) 0 ≡ s = cc in
    λ i. full (b i) (e i).ind (e i).val

module _ (v : ℤ) (vs : Chutes) (ind val : List ℕ) where
  abbrev low : ℤ
  low = smallest_of (v ∷ vs)

  abbrev wide : ℕ
  wide = span_of (smallest_of (v ∷ vs)) (largest_of (v ∷ vs))

  abbrev begun : Full
  begun = filled low wide ind val

  sifted : Room wide ind val → WellF begun → FromValues (v ∷ vs) (sifted_of (v ∷ vs) begun)
  sifted R W =
      let U = well in
      let F = frame in
      record {
        holds = record { well = U; is = λ z. members (sifted_of (v ∷ vs) begun) U z ∙ from-values-holds v vs ind val R W z };
        rest = sifted-rest (v ∷ vs) low wide ind val R.in-val W ∙ (λ i. onto (keep (λ z. not (has z (v ∷ vs))) (up_from (sym F.off i) (sym F.n i))) []);
        order = sifted-order (v ∷ vs) begun W ∙ (λ i. swap_outs (keep (λ z. not (has z (v ∷ vs))) (up_from (sym F.off i) (sym F.n i))) ((filled-order low wide ind val R.in-val ∙ (λ j. up_from (sym F.off j) (sym F.n j))) i));
      }
    where
      well : WellF (sifted_of (v ∷ vs) begun)
      well = sifted-well (v ∷ vs) begun W

      frame : Frame begun (sifted_of (v ∷ vs) begun)
      frame = sifted-frame (v ∷ vs) begun

pub from-values : (vs : Chutes) (ind val : List ℕ) (s : Sparse) (ind' val' : List ℕ) → ((z : ℤ) → T (has z vs) → SFits w32 z) → from_values_of vs ind val ≡ making (Ok s) ind' val' → FromValues vs (full s ind' val')
unfolding from_values_of
from-values [] ind val s ind' val' fits e = subst (FromValues []) (made_none ind val s ind' val' e) (none ind val)
from-values (v ∷ vs) ind val s ind' val' fits e =
    let lo = smallest_of (v ∷ vs) in
    let hi = largest_of (v ∷ vs) in
    let m = makes (span_of lo hi) ind val (sifted_of (v ∷ vs) (filled lo (span_of lo hi) ind val)) s ind' val' e in
    subst (FromValues (v ∷ vs)) m.is (sifted v vs ind val m.room (filled-well lo (span_of lo hi) ind val m.room (span-far lo hi (fits lo (first-in lt_z v vs)) (fits hi (first-in (λ y x. lt_z x y) v vs)))))

-- the universe goes from the smallest value to the largest
pub from-universe : (v : ℤ) (vs : Chutes) (ind val : List ℕ) (s : Sparse) (ind' val' : List ℕ) → from_values_of (v ∷ vs) ind val ≡ making (Ok s) ind' val' → (s.off ≡ smallest_of (v ∷ vs)) × (s.n ≡ span_of (smallest_of (v ∷ vs)) (largest_of (v ∷ vs)))
unfolding from_values_of
from-universe v vs ind val s ind' val' e =
    let lo = smallest_of (v ∷ vs) in
    let n = span_of lo (largest_of (v ∷ vs)) in
    let m = makes n ind val (sifted_of (v ∷ vs) (filled lo n ind val)) s ind' val' e in
    let F = sifted-frame (v ∷ vs) (filled lo n ind val) in
    (ap (λ (g : Full). g.set.off) (sym m.is) ∙ F.off, ap (λ (g : Full). g.set.n) (sym m.is) ∙ F.n)
