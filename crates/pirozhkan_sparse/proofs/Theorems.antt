-- What is written is read back as the same state, every five cells are the writing of exactly one, and a refused call leaves every cell.
-- Assumes nothing.
use Rattle.std.specs.Prelude.{◌≡◌, refl, List, ◌∷◌, ◌++◌, ℕ, ◌≤◌, ◌<◌, ◌^◌, ℤ, length, get_or, drop}
use Rattle.std.specs.declared.result.Result.TheVariants.{Err}
use Rattle.std.specs.Int.{w32}
use Rattle.std.proofs.Common.{sym, ap, ◌∙◌, arith, drop-cons, SFits}
use Rattle.rules.specs.Board as rules
use Rattle.rules.specs.declared.Refusal.{Refusal}
use Rattle.sparse_inner.specs.Set.{Full}
use Rattle.sparse_inner.specs.declared.Sparse.{Sparse}
use Rattle.sparse_pairs.specs.Calls as pairs
use Rattle.sparse_pairs.specs.Calls.{Pared}
use Rattle.state.proofs.Halves.{half_back, chute-half}
use Rattle.reply.specs.Told.{coded}
use Rattle.reply.specs.Through.{left}
use Rattle.pirozhkan_sparse.specs.Layout.{size, written_of, read_of}
use Rattle.pirozhkan_sparse.specs.Lent.{Cells, cells, full_in, put, Reply, written, through, worn, with_scratch, pared, parting, joining}
use Rattle.pirozhkan_sparse.proofs.LentLaws.{through-wide, joining-done, parting-done}

-- ---- written, and read back

pub read_back : (s : Sparse) (t : List ℕ) → SFits w32 s.off → read_of (written_of s ++ t) ≡ s
unfolding read_of
read_back s t f = λ i. record { off = half_back s.off f i; n = s.n; size = s.size; min = s.min; max = s.max }

-- ---- read, and written back

-- cells of 32 bits
abbrev pub Small : List ℕ → Type 0
Small cs = (i : ℕ) → get_or cs i 0 < 2 ^ 32

all-cells : (cs : List ℕ) → size ≤ length cs → get_or cs 0 0 ∷ get_or cs 1 0 ∷ get_or cs 2 0 ∷ get_or cs 3 0 ∷ get_or cs 4 0 ∷ drop 5 cs ≡ cs
all-cells cs h =
    let next : ℕ → List ℕ → List ℕ = λ k r. get_or cs k 0 ∷ r in
    sym
    (drop-cons cs 0 0 (omega arith)
    ∙ ap (next 0)
    (drop-cons cs 1 0 (omega arith)
    ∙ ap (next 1) (drop-cons cs 2 0 (omega arith) ∙ ap (next 2) (drop-cons cs 3 0 (omega arith) ∙ ap (next 3) (drop-cons cs 4 0 (omega arith))))))

pub written_back : (cs : List ℕ) → size ≤ length cs → Small cs → put (read_of cs) cs ≡ cs
unfolding read_of
written_back cs h fit =
    (λ i. chute-half (get_or cs 0 0) (fit 0) i ∷ get_or cs 1 0 ∷ get_or cs 2 0 ∷ get_or cs 3 0 ∷ get_or cs 4 0 ∷ drop 5 cs) ∙ all-cells cs h

-- and are the writing of no other state
pub only_one : (cs : List ℕ) (s : Sparse) → SFits w32 s.off → put s cs ≡ cs → s ≡ read_of cs
only_one cs s f e = sym (read_back s (drop size cs) f) ∙ ap read_of e

-- ---- a refused call, of a set that isn't well formed or of any other

-- the by-value call left all as it came: so does the exported one
pub refused-same : (f : Full → Reply) (c : Cells) (r : Refusal) → size ≤ length c.state → Small c.state → f (full_in c) ≡ record { state = full_in c; answer = rules.denied r } → through f c ≡ left (coded (rules.denied r)) c
refused-same f c r h fit e =
    let s = f (full_in c) in
    sym (through-wide f c h s refl (coded s.answer) (put s.state.set c.state) refl)
    ∙ ap (written c) e
    ∙ ap (λ (cs : List ℕ). left (coded (rules.denied r)) (cells cs c.ind c.val)) (written_back c.state h fit)

-- the same of two sets: the first is as it came, and the scratch
pub joining-same : (f : Full → Full → Reply) (c d : Cells) (r : Refusal) → size ≤ length c.state → size ≤ length d.state → Small c.state → f (full_in c) (full_in d) ≡ record { state = full_in c; answer = rules.denied r } → joining f c d ≡ left (coded (rules.denied r)) c
joining-same f c d r h m fit e =
    let s = f (full_in c) (full_in d) in
    sym (joining-done f c d h m s refl (coded s.answer) (put s.state.set c.state) refl)
    ∙ ap (written c) e
    ∙ ap (λ (cs : List ℕ). left (coded (rules.denied r)) (cells cs c.ind c.val)) (written_back c.state h fit)

pub parting-same : (f : Full → Full → List ℤ → Pared) (c d : Cells) (scratch : List ℤ) (r : Refusal) → size ≤ length c.state → size ≤ length d.state → Small c.state → f (full_in c) (full_in d) scratch ≡ pairs.pared (Err r) (full_in c) scratch → parting f c d scratch ≡ left (coded (rules.denied r)) (worn c scratch)
parting-same f c d scratch r h m fit e =
    let s = f (full_in c) (full_in d) scratch in
    sym (parting-done f c d scratch h m s refl (coded (pared s).answer) (put s.left.set c.state) refl)
    ∙ ap (λ (p : Pared). with_scratch p.scratch (written c (pared p))) e
    ∙ ap (λ (cs : List ℕ). left (coded (rules.denied r)) (worn (cells cs c.ind c.val) scratch)) (written_back c.state h fit)
