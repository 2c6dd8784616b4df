-- What is written is read back as the same domain, every three words are the writing of exactly one, and one that isn't well formed comes back
-- cell for cell. Assumes nothing.
use Rattle.std.specs.Prelude.{◌≡◌, refl, false, List, ◌∷◌, ◌++◌, ℕ, ◌≤◌, ℤ, length, get_or, drop}
use Rattle.std.specs.Int.{w32}
use Rattle.std.proofs.Common.{sym, ap, ◌∙◌, arith, drop-cons, SFits}
use Rattle.rules.specs.Board as rules
use Rattle.rules.specs.declared.Refusal.TheVariants.{Broken}
use Rattle.domain.specs.Set.{well}
use Rattle.domain.specs.Calls.{insert_of, remove_of, remove_all_of, close_of}
use Rattle.domain.specs.declared.BitDomain.{BitDomain}
use Rattle.state.specs.Typed.{Words}
use Rattle.state.proofs.Halves.{low-back, high-back, word_back}
use Rattle.reply.specs.Told.{coded}
use Rattle.reply.specs.Through.{left}
use Rattle.pirozhkan_bit.specs.Layout.{size, written_of, read_of}
use Rattle.pirozhkan_bit.specs.Lent.{words, Reply, written, through}
use Rattle.pirozhkan_bit.specs.Calls.{inserting, removing, emptying, closing}
use Rattle.reply.proofs.LentLaws.{through-done}

-- ---- written, and read back

pub read_back : (d : BitDomain) (t : List ℕ) → SFits w32 d.min → SFits w32 d.max → read_of (written_of d ++ t) ≡ d
unfolding read_of
read_back d t f g = λ s. record { mask = d.mask; min = low-back d.min d.max f s; max = high-back d.min d.max f g s }

-- ---- read, and written back

all_words : (ws : List ℕ) → size ≤ length ws → get_or ws 0 0 ∷ get_or ws 1 0 ∷ get_or ws 2 0 ∷ drop 3 ws ≡ ws
all_words ws h =
    sym
    (drop-cons ws 0 0 (omega arith)
    ∙ ap (λ (x : List ℕ). get_or ws 0 0 ∷ x) (drop-cons ws 1 0 (omega arith) ∙ ap (λ (x : List ℕ). get_or ws 1 0 ∷ x) (drop-cons ws 2 0 (omega arith))))

pub written_back : (ws : List ℕ) → size ≤ length ws → Words ws → written_of (read_of ws) ++ drop size ws ≡ ws
unfolding read_of
written_back ws h fit = (λ s. word_back (get_or ws 0 0) (fit 0) s ∷ get_or ws 1 0 ∷ get_or ws 2 0 ∷ drop 3 ws) ∙ all_words ws h

-- and are the writing of no other domain
pub only_one : (ws : List ℕ) (d : BitDomain) → SFits w32 d.min → SFits w32 d.max → written_of d ++ drop size ws ≡ ws → d ≡ read_of ws
only_one ws d f g e = sym (read_back d (drop size ws) f g) ∙ ap read_of e

-- ---- a domain that isn't well formed

-- what every by-value call does with it
abbrev pub Guarded : (BitDomain → Reply) → Type 0
Guarded f = (d : BitDomain) → well d ≡ false → f d ≡ record { state = d; answer = rules.denied Broken }

pub broken-back : (f : BitDomain → Reply) → Guarded f → (ws : List ℕ) → size ≤ length ws → Words ws → well (read_of ws) ≡ false → through f ws ≡ left 1 ws
unfolding coded
broken-back f g ws h fit bad =
    sym (through-done words f ws h refl (f (read_of ws)) (λ _. f (read_of ws)))
    ∙ ap (written ws) (g (read_of ws) bad)
    ∙ ap (left 1) (written_back ws h fit)

pub inserting-guarded : (v : ℤ) → Guarded (inserting v)
unfolding insert_of
inserting-guarded v d e = rw e

pub removing-guarded : (v : ℤ) → Guarded (removing v)
unfolding remove_of
removing-guarded v d e = rw e

pub emptying-guarded : Guarded emptying
unfolding remove_all_of
emptying-guarded d e = rw e

pub closing-guarded : (k : rules.Kind) (v : ℤ) → Guarded (closing k v)
unfolding close_of
closing-guarded k v d e = rw e
