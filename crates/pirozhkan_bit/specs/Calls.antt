-- The by-value calls that the exported ones make on the domain that they read, by their numbers and lists.
use Rattle.std.specs.Prelude.{Bool, List, ℕ, ℤ}
use Rattle.rules.specs.Board as rules
use Rattle.rules.specs.declared.Value.{Value}
use Rattle.domain.specs.Calls.{new_of, insert_of, remove_of, remove_all_of, close_of, contains_of, size_of, fixed_value_of, min_of, max_of}
use Rattle.domain.specs.declared.BitDomain.{BitDomain}
use Rattle.domain_values.specs.Calls as values
use Rattle.domain_text.specs.Text as text
use Rattle.board.specs.Obeys.{told_of}
use Rattle.board_ask.specs.Answers.{count_of, chute_of}
use Rattle.reply.specs.Told.{coded}
use Rattle.reply.specs.Through.{Left, left}
use Rattle.pirozhkan_bit.specs.Lent.{Reply, changed, narrowed}

abbrev pub chute : ℤ → Value
chute v = record { 0 = v }

-- ---- make: the universe from min to max, all held or nothing

abbrev pub between : Bool → ℤ → ℤ → BitDomain
between all min max = new_of all (chute min) (chute max)

-- ---- change

abbrev pub inserting : ℤ → BitDomain → Reply
inserting v d = changed (insert_of d (chute v))

abbrev pub removing : ℤ → BitDomain → Reply
removing v d = changed (remove_of d (chute v))

abbrev pub emptying : BitDomain → Reply
emptying d = narrowed (remove_all_of d)

abbrev pub closing : rules.Kind → ℤ → BitDomain → Reply
closing k v d = narrowed (close_of k d (chute v))

-- ---- ask

abbrev pub whether_held : ℤ → BitDomain → rules.Answer
whether_held v d = told_of (contains_of d (chute v))

abbrev pub sizing : BitDomain → rules.Answer
sizing d = count_of (size_of d)

abbrev pub fixed_at : BitDomain → rules.Answer
fixed_at d = chute_of (fixed_value_of d)

abbrev pub smallest : BitDomain → rules.Answer
smallest d = chute_of (min_of d)

abbrev pub largest : BitDomain → rules.Answer
largest d = chute_of (max_of d)

-- ---- questions that are answered in lent cells

abbrev pub written_into : values.Written → Left (List ℤ)
written_into w = left (coded (count_of w.answer)) w.cells

abbrev pub values_into : List ℤ → BitDomain → Left (List ℤ)
values_into cells d = written_into (values.to_vec_of d cells)

abbrev pub texted_into : text.Written → Left (List ℕ)
texted_into w = left (coded (count_of w.answer)) w.cells

abbrev pub text_into : List ℕ → BitDomain → Left (List ℕ)
text_into bytes d = texted_into (text.write_text_of d bytes)
