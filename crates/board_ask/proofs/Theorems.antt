-- Every question answers as the rules say, on every well-formed board; one that isn't is refused.
use Rattle.std.specs.Prelude.{◌≡◌, refl, Bool, true, false, not, cond, List, [], ◌∷◌, ◌++◌, ℕ, zero, suc, ◌+◌, ◌<◌, ◌≤◌, ltb, ℤ, pos, length}
use Rattle.std.specs.declared.result.Result.TheVariants.{Ok, Err}
use Rattle.std.specs.declared.option.Option.TheVariants.{None, Some}
use Rattle.std.proofs.Common.{sym, ap, ◌∙◌, add-one, arith, ltb-true, ltb-false, le-leb}
use Rattle.std.proofs.lemmas.Bool.{lt-leb}
use Rattle.rules.specs.Board as rules
use Rattle.rules.specs.Sets.{Chutes, some, every}
use Rattle.rules.specs.declared.Refusal.TheVariants.{Broken, Empty}
use Rattle.rules.specs.declared.Variable.{Variable}
use Rattle.domain.specs.Set.{set_of, well}
use Rattle.domain.specs.Calls.{invalid, size_of, is_fixed_of, fixed_value_of, is_empty_of, min_of, max_of}
use Rattle.domain.specs.declared.BitDomain.{BitDomain}
use Rattle.domain.proofs.Theorems.{values-ascend, invalid-well, bare_set}
use Rattle.domain_values.specs.Calls.{written, iter_of, to_vec_of}
use Rattle.board.specs.Rows.{id_at, domain_at, row_at, seat, nowhere}
use Rattle.board.specs.Well.{well_board}
use Rattle.board.specs.View.{view}
use Rattle.board.specs.Obeys.{told_of}
use Rattle.board.specs.declared.Board.{Board}
use Rattle.board.proofs.ViewLaws.{domain-well, seat-below, view-domain, view-none}
use Rattle.board.proofs.RowLaws.{rows-ids}
use Rattle.board_ask.specs.Domains.{domain_of, asked}
use Rattle.board_ask.specs.Questions.{write_of, ends_of, domain_size_of, is_assigned_of, assigned_value_of, is_inconsistent_of, get_bounds_of, get_values_of, get_into_of}
use Rattle.board_ask.specs.Names.{names_of, named_by, yields, cursor_at, walk_of, next_id_of, filled, fill_of, ids_into_of}
use Rattle.board_ask.specs.Ready.{assigned, judge, ready_of}
use Rattle.board_ask.specs.Answers.{count_of, chute_of, ends_told, held_by}
use Rattle.board_ask.specs.declared.IdCursor.{IdCursor}
use Rattle.board_ask.proofs.EndLaws.{ends-are, only-is}

-- ---- a board that isn't well formed is refused, and no cell is written

module _ (b : Board) (w : well_board b ≡ false) (id : Variable) where
  pub size-refuses : domain_size_of b id ≡ Err Broken
  unfolding domain_size_of
  size-refuses = rw w

  pub assigned-refuses : is_assigned_of b id ≡ Err Broken
  unfolding is_assigned_of
  assigned-refuses = rw w

  pub value-refuses : assigned_value_of b id ≡ Err Broken
  unfolding assigned_value_of
  value-refuses = rw w

  pub inconsistent-refuses : is_inconsistent_of b id ≡ Err Broken
  unfolding is_inconsistent_of
  inconsistent-refuses = rw w

  pub bounds-refuses : get_bounds_of b id ≡ Err Broken
  unfolding get_bounds_of
  bounds-refuses = rw w

  pub values-refuses : get_values_of b id ≡ Err Broken
  unfolding get_values_of
  values-refuses = rw w

  pub into-refuses : (cells : List ℤ) → get_into_of b id cells ≡ written (Err Broken) cells
  unfolding get_into_of
  into-refuses cells = rw w

  pub variables-refuses : walk_of b ≡ Err Broken
  unfolding walk_of
  variables-refuses = rw w

  pub next-refuses : (c : IdCursor) → next_id_of b c ≡ record { cursor = c; answer = Err Broken }
  unfolding next_id_of
  next-refuses c = rw w

  pub ids-refuses : (cells : List ℕ) → ids_into_of b cells ≡ filled (Err Broken) cells
  unfolding ids_into_of
  ids-refuses cells = rw w

  pub ready-refuses : (is : List ℕ) → ready_of b is ≡ Err Broken
  unfolding ready_of
  ready-refuses is = rw w

-- ---- the domain that a question is about is the rules'

module _ (b : Board) (w : well_board b ≡ true) where
  module _ (i : ℕ) where
    chosen : (P : BitDomain → Type 0) → (seat b i < 64 → P (domain_at b.rows (seat b i))) → (64 ≤ seat b i → P invalid) → P (domain_of b i)
    chosen P known unknown = go (ltb (seat b i) nowhere) refl
      where
        go : (t : Bool) → ltb (seat b i) nowhere ≡ t → P (cond t (domain_at b.rows (seat b i)) invalid)
        go true e = known (ltb-true (seat b i) nowhere e)
        go false e = unknown (ltb-false (seat b i) nowhere e)

    pub domain-is : set_of (domain_of b i) ≡ rules.domain (view b).now i
    domain-is =
        chosen (λ d. set_of d ≡ rules.domain (view b).now i)
        (λ h. sym (view-domain b w i h)) (λ h. bare_set (pos 1) (pos 0) ∙ sym (view-none b w i h))

    pub domain-fine : well (domain_of b i) ≡ true
    domain-fine = chosen (λ d. well d ≡ true) (λ h. domain-well b w (seat b i) (seat-below b w i h)) (λ h. invalid-well)

  -- ---- questions of one destination

  module _ (id : Variable) where
    -- what is shown of a well-formed domain and of what it holds
    by-domain : {A : Type 0} (f : BitDomain → A) (stop : A) (P : A → Chutes → Type 0) → ((d : BitDomain) → well d ≡ true → P (f d) (set_of d)) → P (asked f stop b id) (rules.domain (view b).now id.0)
    by-domain f stop P h = rw (w, sym (domain-is id.0)) (h (domain_of b id.0) (domain-fine id.0))

    pub size-answers : count_of (domain_size_of b id) ≡ rules.answer (rules.ask (rules.size_of id.0)) (view b)
    unfolding domain_size_of size_of
    size-answers = by-domain size_of (Err Broken) (λ a s. count_of a ≡ rules.count (length s)) (λ d v. rw v)

    pub assigned-answers : told_of (is_assigned_of b id) ≡ rules.answer (rules.ask (rules.assigned id.0)) (view b)
    unfolding is_assigned_of is_fixed_of
    assigned-answers = by-domain is_fixed_of (Err Broken) (λ a s. told_of a ≡ rules.said (rules.single s)) (λ d v. rw v)

    pub value-answers : chute_of (assigned_value_of b id) ≡ rules.answer (rules.ask (rules.value_of id.0)) (view b)
    unfolding assigned_value_of fixed_value_of
    value-answers =
        by-domain fixed_value_of (Err Broken)
        (λ a s. chute_of a ≡ rules.judged (rules.unless (rules.single s) Empty rules.accepted) (rules.only_of s)) (λ d v. rw v (only-is (set_of d)))

    pub inconsistent-answers : told_of (is_inconsistent_of b id) ≡ rules.answer (rules.ask (rules.inconsistent id.0)) (view b)
    unfolding is_inconsistent_of is_empty_of
    inconsistent-answers = by-domain is_empty_of (Err Broken) (λ a s. told_of a ≡ rules.said (not (some s))) (λ d v. rw v)

    pub bounds-answers : ends_told (get_bounds_of b id) ≡ rules.answer (rules.ask (rules.bounds_of id.0)) (view b)
    unfolding get_bounds_of min_of max_of
    bounds-answers =
        by-domain ends_of (Err Broken)
        (λ a s. ends_told a ≡ rules.judged (rules.unless (some s) Empty rules.accepted) (rules.ends_of s))
        (λ d v. rw v (ends-are (set_of d) (values-ascend d.min d.mask)))

    -- the cursor has just the chutes to yield
    pub values-answers : held_by (get_values_of b id) ≡ rules.answer (rules.ask (rules.values_of id.0)) (view b)
    unfolding get_values_of iter_of
    values-answers = by-domain iter_of (Err Broken) (λ a s. held_by a ≡ rules.held s) (λ d v. rw v)

    -- the chutes are written, if there is room for them
    pub into-writes : (cells : List ℤ) → get_into_of b id cells ≡ write_of (rules.domain (view b).now id.0) cells
    unfolding get_into_of to_vec_of
    into-writes cells = by-domain (λ d. to_vec_of d cells) (written (Err Broken) cells) (λ a s. a ≡ write_of s cells) (λ d v. rw v)

  -- ---- ids in order of registration

  names-are : names_of (id_at b.rows) 0 b.count ≡ rules.ids (view b).now
  names-are = rows-ids (id_at b.rows) b.count (λ i. []) (λ i. set_of (domain_at b.rows i)) 0

  pub ids-write : (cells : List ℕ) → ids_into_of b cells ≡ fill_of (rules.ids (view b).now) cells
  unfolding ids_into_of
  ids-write cells = rw w (ap (λ (l : List ℕ). fill_of l cells) names-are)

  pub variables-begin : walk_of b ≡ Ok (cursor_at 0)
  unfolding walk_of
  variables-begin = rw w

  -- a walk tells the ids from its place on, and ends
  pub next-tells : (c : IdCursor) → c.at < b.count → next_id_of b c ≡ record { cursor = cursor_at (c.at + 1); answer = Ok (Some (row_at b.rows c.at).id) }
  unfolding next_id_of
  next-tells c l = rw (w, lt-leb b.count c.at l)

  pub next-ends : (c : IdCursor) → b.count ≤ c.at → next_id_of b c ≡ record { cursor = c; answer = Ok None }
  unfolding next_id_of
  next-ends c l = rw (w, le-leb b.count c.at l)

  steps-from : (n k : ℕ) → k + n ≤ b.count → yields b n (cursor_at k) ≡ names_of (id_at b.rows) k n
  steps-from zero k h = refl
  steps-from (suc n) k h =
      let e = next-tells (cursor_at k) (omega arith) in
      (λ t. named_by (e t).answer ++ yields b n (e t).cursor)
      ∙ (λ t. id_at b.rows k ∷ yields b n (cursor_at (add-one k t)))
      ∙ ap (λ (l : List ℕ). id_at b.rows k ∷ l) (steps-from n (suc k) (omega arith))

  pub walk-tells : yields b b.count (cursor_at 0) ≡ rules.ids (view b).now
  walk-tells = steps-from b.count 0 (omega arith) ∙ names-are

  pub variables-answers : rules.named (yields b b.count (cursor_at 0)) ≡ rules.answer (rules.ask rules.variables) (view b)
  variables-answers = ap rules.named walk-tells

  -- ---- a list

  every-domain : (is : List ℕ) → every (λ i. assigned (domain_of b i)) is ≡ every rules.single (rules.domains (view b).now is)
  every-domain [] = refl
  every-domain (i ∷ is) = rw (domain-is i, every-domain is)

  pub ready-answers : (is : List ℕ) → told_of (ready_of b is) ≡ rules.answer (rules.ready is) (view b)
  unfolding ready_of
  ready-answers is = rw (w, every-domain is) (go (rules.listing is (view b).now))
    where
      go : (v : rules.Verdict) → told_of (judge v (every rules.single (rules.domains (view b).now is))) ≡ rules.judged v (rules.said (every rules.single (rules.domains (view b).now is)))
      go rules.accepted = refl
      go (rules.refused r) = refl
