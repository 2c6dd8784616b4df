-- An answer in one number: the lowest byte is the number of the refusal, 0 where the call was accepted; what stands above it is the
-- place that the refusal names, or what the call answers. `told_by` reads it back.
use Rattle.std.specs.Prelude.{◌≡◌, refl, Bool, true, false, cond, [], ◌∷◌, ℕ, ◌+◌, ◌-◌, ◌*◌, ◌/◌, ◌%◌, ◌^◌, ◌<◌, eqb, ℤ, negsuc, length, get_or}
use Rattle.std.specs.Int.{w32}
use Rattle.std.proofs.Common.{SFits}
use Rattle.offset.specs.Places.{clip}
use Rattle.rules.specs.Board as rules
use Rattle.rules.specs.Refusals as refusals
use Rattle.rules.specs.declared.Refusal.{Refusal}
use Rattle.rules.specs.declared.Refusal.TheVariants.{Broken, Full, TrialOpen, TooDeep, NoMark, Unknown, Repeated, TooLong, TooWide, Short, Empty, BadState, OtherUniverse, NoRoom, BadSheet}
use Rattle.state.specs.Layout.{flag_of, half, chute_at}

-- there is room for 56 bits
abbrev pub packed : ℕ → ℕ
packed n = n % 2 ^ 56 * 256

-- yes and no are 1 and 0; of a pair, `changed` is the lower bit; chutes and ids that go into lent cells are told by how many they are
unfoldable pub coded : rules.Answer → ℕ
coded rules.done = 0
coded (rules.said y) = packed (flag_of y)
coded (rules.outcome changed consistent) = packed (flag_of changed + 2 * flag_of consistent)
coded (rules.count n) = packed n
coded (rules.chute v) = packed (half v)
coded (rules.ends x y) = 0
coded (rules.held s) = packed (length s)
coded (rules.named is) = packed (length is)
coded (rules.denied r) = refusals.number_of r + packed (refusals.place_of r)

-- ---- read back

-- what a call may answer: nothing, yes or no, a pair, how many, a chute
pub data Kind : Type 0 where
  nothing yes_no pair number chute : Kind

abbrev pub refusal_at : ℕ → ℕ → Refusal
refusal_at n p =
    get_or
    (Broken ∷ Full ∷ TrialOpen ∷ TooDeep ∷ NoMark ∷ Unknown p ∷ Repeated p ∷ TooLong ∷ TooWide ∷ Short ∷ Empty ∷ BadState ∷ OtherUniverse ∷ NoRoom ∷ BadSheet p ∷ [])
    (n - 1)
    Broken

abbrev pub payload : Kind → ℕ → rules.Answer
payload nothing p = rules.done
payload yes_no p = rules.said (eqb p 1)
payload pair p = rules.outcome (eqb (p % 2) 1) (eqb (p / 2) 1)
payload number p = rules.count p
payload chute p = rules.chute (chute_at p)

abbrev pub told_by : Kind → ℕ → rules.Answer
told_by k n = cond (eqb (n % 256) 0) (payload k (n / 256)) (rules.denied (refusal_at (n % 256) (n / 256)))

-- an answer of that kind, or a refusal, whose numbers have room
pub data Of : Kind → rules.Answer → Type 0 where
  done-of : Of nothing rules.done
  said_of : (y : Bool) → Of yes_no (rules.said y)
  pair-of : (changed consistent : Bool) → Of pair (rules.outcome changed consistent)
  count-of : {n : ℕ} → n < 2 ^ 56 → Of number (rules.count n)
  chute-of : {v : ℤ} → SFits w32 v → Of chute (rules.chute v)
  denied-of : {k : Kind} {r : Refusal} → refusals.place_of r < 2 ^ 56 → Of k (rules.denied r)

-- ---- examples
unknown-second : coded (rules.denied (Unknown 1)) ≡ 262
unfolding coded
unknown-second = refl

changed-empty : told_by pair 256 ≡ rules.outcome true false
changed-empty = refl

minus_one : coded (rules.chute (negsuc 0)) ≡ 2147483647 * 256
unfolding coded clip
minus_one = refl
