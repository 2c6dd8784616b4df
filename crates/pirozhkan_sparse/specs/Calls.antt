-- The by-value calls that the exported ones make on the set that they read, by their numbers and lists.
use Rattle.std.specs.Prelude.{cond, List, ◌++◌, ℕ, ltb, ℤ, length, drop, Result}
use Rattle.std.specs.declared.result.Result.TheVariants.{Ok, Err}
use Rattle.rules.specs.declared.Refusal.{Refusal}
use Rattle.rules.specs.Board as rules
use Rattle.rules.specs.declared.Refusal.TheVariants.{NoRoom}
use Rattle.rules.specs.declared.Value.{Value}
use Rattle.sparse_inner.specs.Set.{Full}
use Rattle.sparse_inner.specs.declared.SparseState.{SparseState}
use Rattle.sparse.specs.Calls.{size_of, contains_of, min_of, max_of, save_of, remove_of, remove_all_of, remove_all_but_of, remove_below_of, remove_above_of, restore_of}
use Rattle.sparse_pairs.specs.Calls.{union_of}
use Rattle.sparse_values.specs.Calls as values
use Rattle.sparse_text.specs.Text as text
use Rattle.reply.specs.Told.{coded}
use Rattle.reply.specs.Through.{Left, left}
use Rattle.pirozhkan_sparse.specs.Layout.{saved_of}
use Rattle.pirozhkan_sparse.specs.Lent.{told_of, count_of, value_of, Reply, changed, narrowed}

abbrev pub chute : ℤ → Value
chute v = record { 0 = v }

-- ---- change

abbrev pub removing : ℤ → Full → Reply
removing v f = changed (remove_of f (chute v))

abbrev pub emptying : Full → Reply
emptying f = narrowed (remove_all_of f)

abbrev pub leaving_only : ℤ → Full → Reply
leaving_only v f = narrowed (remove_all_but_of f (chute v))

abbrev pub dropping_below : ℤ → Full → Reply
dropping_below v f = narrowed (remove_below_of f (chute v))

abbrev pub dropping_above : ℤ → Full → Reply
dropping_above v f = narrowed (remove_above_of f (chute v))

abbrev pub saved : ℕ → ℕ → ℕ → SparseState
saved size min max = record { size = size; min = min; max = max }

abbrev pub restoring : SparseState → Full → Reply
restoring t f = narrowed (restore_of f t)

abbrev pub uniting : Full → Full → Reply
uniting f g = narrowed (union_of f g)

-- ---- ask

abbrev pub whether_held : ℤ → Full → rules.Answer
whether_held v f = told_of (contains_of f (chute v))

abbrev pub sizing : Full → rules.Answer
sizing f = count_of (size_of f)

abbrev pub smallest : Full → rules.Answer
smallest f = value_of (min_of f)

abbrev pub largest : Full → rules.Answer
largest f = value_of (max_of f)

-- ---- questions that are answered in lent cells

abbrev pub written_into : values.Written → Left (List ℤ)
written_into w = left (coded (count_of w.answer)) w.cells

abbrev pub values_into : List ℤ → Full → Left (List ℤ)
values_into out f = written_into (values.to_vec_of f out)

abbrev pub texted_into : text.Written → Left (List ℕ)
texted_into w = left (coded (count_of w.answer)) w.bytes

abbrev pub text_into : List ℕ → Full → Left (List ℕ)
text_into out f = texted_into (text.write_text_of f out)

-- size, min and max in the first three cells; nothing is written where there are not three
abbrev pub kept_into : List ℕ → Result SparseState Refusal → Left (List ℕ)
kept_into out (Err r) = left (coded (rules.denied r)) out
kept_into out (Ok t) = cond (ltb (length out) 3) (left (coded (rules.denied NoRoom)) out) (left (coded rules.done) (saved_of t ++ drop 3 out))

abbrev pub saving_into : List ℕ → Full → Left (List ℕ)
saving_into out f = kept_into out (save_of f)
