-- What 01 says of some calls in a sentence, as laws: ends given the other way round, a universe that is too wide or none, whether membership changed,
-- and what is left where a value isn't held.
use Rattle.std.specs.Prelude.{◌≡◌, refl, Bool, true, false, not, ◌&&◌, ◌||◌, cond, List, [], ◌∷◌, ℕ, ◌^◌, ◌<◌, T, ℤ, pos, negsuc, length}
use Rattle.std.specs.declared.result.Result.TheVariants.{Ok}
use Rattle.std.specs.Int.Signed.{lt_z}
use Rattle.std.proofs.Common.{sym, ap, ◌∙◌, subst, arith, le-leb}
use Rattle.std.proofs.lemmas.Bool.{lt-leb}
use Rattle.offset.specs.Places.{span_of}
use Rattle.offset.specs.Universe.{span-zero}
use Rattle.rules.specs.Sets.{Chutes, same, has, keep}
use Rattle.rules.specs.Board.{assign, leaves}
use Rattle.rules.specs.declared.Value.{Value}
use Rattle.rules.proofs.InOrder.{less-irrefl, less-trans}
use Rattle.rules.proofs.SetLaws.{same→eq, same_refl, has-head, has-keep}
use Rattle.rules.proofs.Tests.{is_true, is_false, true-is, and_left, and_right, and-true, and-false, or-true}
use Rattle.domain.specs.Set.{set_of, universe, well}
use Rattle.domain.specs.Calls as bit
use Rattle.domain.specs.Calls.{invalid, new_of, insert_of, remove_of, close_of}
use Rattle.domain.specs.declared.BitDomain.{BitDomain}
use Rattle.domain.proofs.Theorems.{set-within, insert-set, remove-set, close-set}
use Rattle.domain_values.specs.Calls.{from_values_of}
use Rattle.sparse_make.specs.Calls as make
use Rattle.order.specs.Order.{counted}
use Rattle.sparse_make.specs.Calls.{room_for, between_of, new_unchecked_of}

all-of-i32 : span_of (negsuc 2147483647) (pos 2147483647) ≡ 2 ^ 32
unfolding span_of
all-of-i32 = refl

-- ---- bit domains are made

-- "`new` exchanges its ends if reversed"
pub new-exchanges : (all : Bool) (a b : Value) → lt_z b.0 a.0 ≡ true → new_of all a b ≡ new_of all b a
unfolding new_of
new-exchanges all a b h =
    let k = is_false (lt_z a.0 b.0) (λ t. less-irrefl a.0 (less-trans a.0 b.0 a.0 t (true-is h))) in
    rw (h, k)

-- "over 128 values gives the invalid pair (min 1, max 0)"
pub new-wide : (all : Bool) (a b : Value) → lt_z b.0 a.0 ≡ false → 128 < span_of a.0 b.0 → new_of all a b ≡ invalid
unfolding new_of bit.between_of
new-wide all a b h w = rw (h, lt-leb (span_of a.0 b.0) 128 w)

pub invalid-pair : (invalid.min ≡ pos 1) × (invalid.max ≡ pos 0)
invalid-pair = (refl, refl)

-- "A universe of all i32 values: .. here invalid"
pub all-invalid : (all : Bool) → new_of all (record { 0 = negsuc 2147483647 }) (record { 0 = pos 2147483647 }) ≡ invalid
all-invalid all = new-wide all (record { 0 = negsuc 2147483647 }) (record { 0 = pos 2147483647 }) refl (span-wide (span_of (negsuc 2147483647) (pos 2147483647)) all-of-i32)
  where
    span-wide : (n : ℕ) → n ≡ 2 ^ 32 → 128 < n
    span-wide n e = omega arith

-- "`new_from_values` of nothing gives (0, -1)"
pub from_nothing : ((from_values_of []).min ≡ pos 0) × ((from_values_of []).max ≡ negsuc 0)
unfolding from_values_of
from_nothing = (refl, refl)

-- ---- and changed

-- held before and not after, or after and not before
abbrev pub turned : Bool → Bool → Bool
turned before after = cond before (not after) after

remove-tells : (d : BitDomain) → well d ≡ true → (v : Value) → (remove_of d v).answer ≡ Ok (has v.0 (set_of d))
unfolding remove_of
remove-tells d w v = rw w

insert-tells : (d : BitDomain) → well d ≡ true → (v : Value) → (insert_of d v).answer ≡ Ok (has v.0 (universe d) && not (has v.0 (set_of d)))
unfolding insert_of
insert-tells d w v = rw w

memberless : (s : Chutes) → ((x : ℤ) → T (has x s) → ⊥) → s ≡ []
memberless [] h = refl
memberless (x ∷ s) h = absurd (h x (has-head x s))

module _ (d : BitDomain) (w : well d ≡ true) (v : Value) where
  abbrev held : BitDomain → Bool
  held e = has v.0 (set_of e)

  equal : same v.0 v.0 ≡ true
  equal = is_true (same v.0 v.0) (same_refl v.0)

  removed : held (remove_of d v).domain ≡ false
  removed = ap (has v.0) (remove-set d w v) ∙ has-keep (λ x. not (same x v.0)) v.0 (set_of d) ∙ ap (λ (t : Bool). held d && not t) equal ∙ and-false (held d)

  inserted : held (insert_of d v).domain ≡ has v.0 (universe d)
  inserted =
      ap (has v.0) (insert-set d w v)
      ∙ has-keep (λ x. has x (set_of d) || same x v.0) v.0 (universe d)
      ∙ ap (λ (t : Bool). has v.0 (universe d) && (held d || t)) equal
      ∙ ap (λ (t : Bool). has v.0 (universe d) && t) (or-true (held d))
      ∙ and-true (has v.0 (universe d))

  -- "`insert` and `remove` answer whether membership changed"
  pub remove-turns : (remove_of d v).answer ≡ Ok (turned (held d) (held (remove_of d v).domain))
  remove-turns = remove-tells d w v ∙ ap Ok (off (held d)) ∙ ap (λ (t : Bool). Ok (turned (held d) t)) (sym removed)
    where
      off : (x : Bool) → x ≡ turned x false
      off true = refl
      off false = refl

  pub insert-turns : (insert_of d v).answer ≡ Ok (turned (held d) (held (insert_of d v).domain))
  insert-turns =
      insert-tells d w v
      ∙ ap Ok (on (held d) (has v.0 (universe d)) (set-within d w v.0))
      ∙ ap (λ (t : Bool). Ok (turned (held d) t)) (sym inserted)
    where
      on : (x u : Bool) → (T x → T u) → u && not x ≡ turned x u
      on true true h = refl
      on true false h = absurd (h tt)
      on false true h = refl
      on false false h = refl

  -- "`remove_all_but` of a value not held empties"
  pub missing-empties : held d ≡ false → set_of (close_of assign d v).domain ≡ []
  missing-empties h = close-set d w v assign ∙ memberless (keep (leaves assign v.0) (set_of d)) none
    where
      none : (x : ℤ) → T (has x (keep (leaves assign v.0) (set_of d))) → ⊥
      none x m =
          let k = rw has-keep at m in
          let e = same→eq x v.0 (and_right (has x (set_of d)) (same x v.0) k) in
          rw h at (subst (λ (y : ℤ). T (has y (set_of d))) e (and_left (has x (set_of d)) (same x v.0) k))

-- ---- sparse sets

-- "`new_unchecked` with reversed ends gives a universe of none at its first argument"
pub unchecked-none : (a b : Value) (ind val : List ℕ) → lt_z b.0 a.0 ≡ true → new_unchecked_of a b ind val ≡ make.making (Ok (make.whole a.0 0)) ind val
unfolding new_unchecked_of between_of room_for counted
unchecked-none a b ind val h = rw ((span-zero a.0 b.0).1 h, le-leb 0 (length ind) (omega arith), le-leb 0 (length val) (omega arith))
