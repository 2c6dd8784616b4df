-- The loop's step: what was read stands behind what had been read before.
use Rattle.std.proofs.Common.{◌≡◌, ℕ, ◌+◌, ◌-◌, ◌≤◌, List, ◌++◌, rules, arith, length, take, drop, sym, ap, ◌∙◌, subst, le_refl, length-take, length-drop, drop_at, length-take-le}
use Rattle.std.proofs.lemmas.Slice.{take-put_mid_below}
use Rattle.std.specs.Io.KnownBytes.{Consumes}
use Rattle.std.proofs.KnownBytes.{Consumes-trans}
use borrow.Rule.Slice.PartMut.{put_mid, post_of, same_len_mid}
use lib.Seq.{take-add, take-append-le}
use Rattle.wave_io.proofs.read_sheet.Goals as goal

-- ---- a read into the part of xs from `at` on, which holds ys afterwards

module _ (xs ys : List ℕ) (at : ℕ) where
  abbrev after_read : List ℕ
  after_read = put_mid at (length xs - at) xs ys

  as_long : length ys ≡ length xs - at → length after_read ≡ length xs
  as_long long = same_len_mid at (length xs - at) xs ys (simp (length-take, length-drop) (omega arith))

  same_front : at ≤ length xs → take at after_read ≡ take at xs
  same_front within = take-put_mid_below at (length xs - at) xs ys at (le_refl _) within

  -- n bytes more stand after the front
  longer_front : (n : ℕ) → at ≤ length xs → n ≤ length ys → take (at + n) after_read ≡ take at xs ++ take n ys
  longer_front n within fits =
      let rest = post_of at (length xs - at) xs in
      take-add at n after_read ∙ ap (λ l. l ++ take n (drop at after_read)) (same_front within)
      ∙ ap (λ l. take at xs ++ take n l) (drop_at (take at xs) (ys ++ rest) at (length-take-le at xs within))
      ∙ ap (λ l. take at xs ++ l) (take-append-le n ys rest fits)

-- ---- the loop

pub loop-at-preserved : goal.loop-at-preserved
loop-at-preserved g c =
    let xs = c.loop-at.sheet in
    let ys = c.read.new.buf in
    let at = c.loop-at.at in
    let h = c.loop-at.invariant in
    let long = as_long xs ys at (search rules) in (
      omega (arith, long, c.in_ok-n.ensures.bound.0),
      subst (Consumes _ _) (sym (longer_front xs ys at c.in_ok-n.n h.0 c.in_ok-n.ensures.bound.0))
          (Consumes-trans _ _ _ _ _ h.1 c.in_ok-n.ensures.bytes.0),
    )
