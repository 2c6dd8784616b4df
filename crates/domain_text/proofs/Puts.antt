-- Values put one at a time. Assumes nothing.
use Rattle.std.specs.Prelude.{◌≡◌, refl, List, [], ◌∷◌, ◌++◌, ℕ, suc, ◌+◌, ◌-◌, ◌≤◌, ◌<◌, ℤ, length, set, take, drop}
use Rattle.std.proofs.Common.{sym, ap, ◌∙◌, arith, length-append}
use Rattle.std.proofs.Math.Nat.{sub-zero}
use Rattle.decimal.specs.Decimal.{decimal}
use Rattle.decimal.specs.Put.{Put, put_of}
use Rattle.decimal.proofs.Puts.{put-append, put-more, put-end}
use Rattle.rules.specs.Sets.{Chutes}
use Rattle.domain_text.specs.Text.{commaed, listed, first_run, text_of}

-- of n values i are put: the rest begin with the first of s
take_next : (n i : ℕ) {x : ℤ} {s t : Chutes} → i < n → s ≡ x ∷ t → take (n - i) s ≡ x ∷ take (n - (i + 1)) t
take_next n i {x} {s} {t} h e =
    let k : n - i ≡ suc (n - (i + 1)) = omega arith in
    ap (λ (j : ℕ). take j s) k ∙ ap (take (suc (n - (i + 1)))) e

module _ (n i : ℕ) {x : ℤ} {s t : Chutes} (h : i < n) (e : s ≡ x ∷ t) where
  pub comma-size : length (commaed (take (n - i) s)) ≡ 1 + length (decimal x) + length (commaed (take (n - (i + 1)) t))
  unfolding commaed
  comma-size = ap (λ (u : Chutes). length (commaed u)) (take_next n i h e) ∙ omega (arith, length-append (decimal x) (commaed (take (n - (i + 1)) t)))

  pub put-comma : (l : List ℕ) (at : ℕ) {m : List ℕ} {next : ℕ} → record { next = next; cells = m } ≡ put_of (decimal x) (set l at 44) (at + 1)
      → put_of (commaed (take (n - i) s)) l at ≡ put_of (commaed (take (n - (i + 1)) t)) m next
  unfolding commaed
  put-comma l at p =
      ap (λ (u : Chutes). put_of (commaed u) l at) (take_next n i h e)
      ∙ put-append (44 ∷ []) (decimal x ++ commaed (take (n - (i + 1)) t)) l at
      ∙ sym (put-more (decimal x) (commaed (take (n - (i + 1)) t)) (set l at 44) (at + 1) p)

pub comma-some : (n i : ℕ) (s : Chutes) → i < n → n - i ≤ length s → 1 ≤ length (commaed (take (n - i) s))
comma-some n i [] h g = absurd (omega arith)
comma-some n i (x ∷ t) h g = omega (arith, comma-size n i {x = x} {t = t} h refl)

take-first : (n : ℕ) {x : ℤ} {s t : Chutes} → 0 < n → s ≡ x ∷ t → take n s ≡ x ∷ take (n - 1) t
take-first n {x} {s} {t} h e = ap (λ (j : ℕ). take j s) (sym (sub-zero n)) ∙ take_next n 0 h e

module _ (n : ℕ) {x : ℤ} {s t : Chutes} (h : 0 < n) (e : s ≡ x ∷ t) where
  pub first-size : length (listed (take n s)) ≡ length (decimal x) + length (commaed (take (n - 1) t))
  unfolding listed
  first-size = ap (λ (u : Chutes). length (listed u)) (take-first n h e) ∙ length-append (decimal x) (commaed (take (n - 1) t))

  pub put_first : (l : List ℕ) (at : ℕ) {m : List ℕ} {next : ℕ} → record { next = next; cells = m } ≡ put_of (decimal x) l at
      → put_of (listed (take n s)) l at ≡ put_of (commaed (take (n - 1) t)) m next
  unfolding listed
  put_first l at p =
      ap (λ (u : Chutes). put_of (listed u) l at) (take-first n h e) ∙ sym (put-more (decimal x) (commaed (take (n - 1) t)) l at p)

pub put-none : (n : ℕ) (s : Chutes) (l : List ℕ) (at : ℕ) → n ≡ 0 → record { next = at; cells = l } ≡ put_of (listed (take n s)) l at
unfolding listed
put-none n s l at e = sym (ap (λ (j : ℕ). put_of (listed (take j s)) l at) e ∙ put-end l at)

pub put_all : (n i : ℕ) (s : Chutes) (l : List ℕ) (at : ℕ) → n ≤ i → record { next = at; cells = l } ≡ put_of (commaed (take (n - i) s)) l at
unfolding commaed
put_all n i s l at h =
    let z : n - i ≡ 0 = omega arith in
    sym (ap (λ (j : ℕ). put_of (commaed (take j s)) l at) z ∙ put-end l at)

-- ---- the text: a bracket, the run, the bar, the others, a bracket
pub put-brackets : (s : Chutes) (l : List ℕ) {m r : List ℕ} {bar end : ℕ} → record { next = bar; cells = m } ≡ put_of (listed (take (first_run s) s)) (set l 0 91) 1
    → record { next = end; cells = r } ≡ put_of (listed (drop (first_run s) s)) (set m bar 124) (bar + 1) → set r end 93 ≡ (put_of (text_of s) l 0).cells
unfolding text_of
put-brackets s l {m} {r} {bar} {end} p q =
    let run = listed (take (first_run s) s) in
    let others = listed (drop (first_run s) s) in
    sym (
    ap (λ (x : Put). x.cells)
    (put-append (91 ∷ []) (run ++ (124 ∷ (others ++ (93 ∷ [])))) l 0
    ∙ sym (put-more run (124 ∷ (others ++ (93 ∷ []))) (set l 0 91) 1 p)
    ∙ put-append (124 ∷ []) (others ++ (93 ∷ [])) m bar
    ∙ sym (put-more others (93 ∷ []) (set m bar 124) (bar + 1) q))
    )
