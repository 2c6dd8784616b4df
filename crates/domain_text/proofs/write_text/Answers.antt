-- `domain_text::write_text` meets its contract: it tests in the definition's order, and the text that fits stands before what was there.
use Rattle.std.specs.Prelude.{◌≡◌, true, List, ◌++◌, ℕ, ◌≤◌, ℤ, length, drop}
use Rattle.std.specs.Int.{w32}
use Rattle.std.proofs.Common.{sym, ap, ◌∙◌, zero-add, arith, rules, SFits, to_z, of_z}
use Rattle.decimal.specs.Put.{put_of}
use Rattle.decimal.proofs.Puts.{put-cells}
use Rattle.offset.specs.Wide.{read32}
use Rattle.domain.specs.Set.{values_of, well}
use Rattle.domain.specs.declared.BitDomain.{BitDomain}
use Rattle.domain_text.specs.Text.{text_of, writes, write_text_of}
use Rattle.domain.proofs.Checked.{passed}
use Rattle.domain_text.proofs.Writes.{no_room, room}
use Rattle.domain_text.proofs.write_text.Goals as goal

-- the text of d, as the machine reads d's smallest
abbrev shown : BitDomain → List ℕ
shown d = text_of (values_of (to_z w32 (of_z w32 d.min)) d.mask)

sound : (d : BitDomain) (cells : List ℕ) → SFits w32 d.min → well d ≡ true → writes (shown d) cells ≡ write_text_of d cells
unfolding write_text_of
sound d cells f w = ap (λ (lo : ℤ). writes (text_of (values_of lo d.mask)) cells) (read32 f) ∙ rw w

-- what is put at the start is the text, and then what was there
put : (text cells : List ℕ) {n : ℕ} → n ≡ length text → n ≤ length cells → (put_of text cells 0).cells ≡ text ++ drop n cells
put text cells e h = put-cells text cells 0 (omega arith) ∙ ap (λ (j : ℕ). text ++ drop j cells) (zero-add (length text) ∙ sym e)

pub returns-then-out-n : goal.returns-then-out-n
returns-then-out-n c =
    let a = c.args in
    no_room (shown a.d) a.out.now c.text_size-n.ensures c.if-out-n.true ∙ sound a.d a.out.now (search rules) (passed a.d c.in_ok-check.ensures)

pub returns : goal.returns
returns c =
    let a = c.args in
    let fits = c.if-out-n.false in
    room (shown a.d) a.out.now c.text_size-n.ensures fits (c.put_text.ensures ∙ put (shown a.d) a.out.now c.text_size-n.ensures fits)
    ∙ sound a.d a.out.now (search rules) (passed a.d c.in_ok-check.ensures)
