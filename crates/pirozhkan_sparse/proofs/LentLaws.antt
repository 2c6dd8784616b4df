-- What an exported call's code has to do to be the by-value call between reading and writing. Assumes nothing.
use Rattle.std.specs.Prelude.{◌≡◌, refl, List, ℕ, ◌≤◌, ℤ, length}
use Rattle.std.proofs.Common.{ap, ◌∙◌}
use Rattle.sparse_inner.specs.Set.{Full}
use Rattle.sparse_pairs.specs.Calls.{Pared}
use Rattle.reply.specs.Told.{coded}
use Rattle.reply.specs.Through.{Left, left}
use Rattle.reply.proofs.LentLaws.{enough, through-done}
use Rattle.pirozhkan_sparse.specs.Layout.{size}
use Rattle.pirozhkan_sparse.specs.Lent.{Cells, cells, full_in, put, sets, lent_to, Reply, written, through, Worn, worn, with_scratch, pared, kept, same, parting, joining}

-- the cells, of which the state's were written last
abbrev wide : List ℕ → List ℕ → Left (List ℕ) → Left Cells
wide ind val r = left r.code (cells r.cells ind val)

pub through-wide : (f : Full → Reply) (c : Cells) → size ≤ length c.state → (r : Reply) → r ≡ f (full_in c) → (n : ℕ) (state : List ℕ) → left n state ≡ left (coded r.answer) (put r.state.set c.state) → left n (cells state r.state.ind r.state.val) ≡ through f c
through-wide f c l r e n state q = ap (wide r.state.ind r.state.val) q ∙ through-done sets f c l refl r e

-- ---- calls on two sets

module _ (f : Full → Full → Reply) (c d : Cells) where
  joined : Full → Left Cells
  joined g = lent_to d (same c) (λ h. written c (f g h))

  pub joining-done : size ≤ length c.state → size ≤ length d.state → (r : Reply) → r ≡ f (full_in c) (full_in d) → (n : ℕ) (state : List ℕ) → left n state ≡ left (coded r.answer) (put r.state.set c.state) → left n (cells state r.state.ind r.state.val) ≡ joining f c d
  unfolding joining joined
  joining-done l m r e n state q =
      ap (wide r.state.ind r.state.val) q
      ∙ ap (written c) e
      ∙ enough sets d (same c) (λ h. written c (f (full_in c) h)) m refl
      ∙ enough sets c (same c) joined l refl

module _ (f : Full → Full → List ℤ → Pared) (c d : Cells) (scratch : List ℤ) where
  parted : Full → Full → Left Worn
  parted g h = with_scratch (f g h scratch).scratch (written c (pared (f g h scratch)))

  pub parting-done : size ≤ length c.state → size ≤ length d.state → (r : Pared) → r ≡ f (full_in c) (full_in d) scratch → (n : ℕ) (state : List ℕ) → left n state ≡ left (coded (pared r).answer) (put r.left.set c.state) → left n (worn (cells state r.left.ind r.left.val) r.scratch) ≡ parting f c d scratch
  unfolding parting parted
  parting-done l m r e n state q =
      ap (λ (x : Left (List ℕ)). with_scratch r.scratch (wide r.left.ind r.left.val x)) q
      ∙ ap (λ (x : Pared). with_scratch x.scratch (written c (pared x))) e
      ∙ enough sets d (kept c scratch) (parted (full_in c)) m refl
      ∙ enough sets c (kept c scratch) (λ g. lent_to d (kept c scratch) (parted g)) l refl
