-- What the one check of a question tells: a board that isn't well formed, or the domain that the question is about.
use Rattle.std.specs.Prelude.{◌≡◌, ℕ, Option}
use Rattle.std.specs.declared.option.Option.TheVariants.{None, Some}
use Rattle.std.specs.declared.result.Result.TheVariants.{Ok, Err}
use Rattle.std.proofs.Common.{ap, lt-ltb, le-ltb}
use Rattle.rules.specs.declared.Refusal.{Refusal}
use Rattle.domain.specs.Calls.{invalid}
use Rattle.board.specs.Rows.{domain_at, seat, nowhere}
use Rattle.board.specs.Well.{look_of, seen}
use Rattle.board.specs.declared.Board.{Board}
use Rattle.board.proofs.LookLaws.{looked-broken, looked-row, looked-none}
use Rattle.board_ask.specs.Domains.{sought_of}

-- ---- what `domain_of` finds

module _ (b : Board) (i : ℕ) where
  pub sought-broken : (r : Refusal) → Err r ≡ seen (look_of b.rows b.count b.saved b.marks i) → Err r ≡ sought_of b.rows b.count b.saved b.marks i
  unfolding sought_of
  sought-broken r e = let s = looked-broken b i r e in rw (s.1, s.0)

  module _ (o : Option ℕ) (e : Ok o ≡ seen (look_of b.rows b.count b.saved b.marks i)) where
    pub sought-none : o ≡ None → Ok invalid ≡ sought_of b.rows b.count b.saved b.marks i
    unfolding sought_of
    sought-none q = let s = looked-none b i o e q in rw (s.0, le-ltb (seat b i) nowhere s.1)

    pub sought-row : (p : ℕ) → o ≡ Some p → Ok (domain_at b.rows p) ≡ sought_of b.rows b.count b.saved b.marks i
    unfolding sought_of
    sought-row p q = let s = looked-row b i o e p q in rw (s.0, lt-ltb (seat b i) nowhere s.2) (ap (λ (k : ℕ). Ok (domain_at b.rows k)) s.1)
