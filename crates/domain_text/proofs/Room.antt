-- How long a text can be: a caller who lends this many bytes always has room. Assumes nothing.
use Rattle.std.specs.Prelude.{◌≡◌, refl, Bool, true, cond, List, ℕ, ◌≤◌, ℤ, length}
use Rattle.std.specs.declared.result.Result.TheVariants.{Ok}
use Rattle.std.specs.Int.{w32}
use Rattle.std.proofs.Common.{sym, ap, ◌∙◌, arith, SFits}
use Rattle.mask.specs.Val.{Fit}
use Rattle.mask.specs.declared.Mask.{Mask}
use Rattle.rules.specs.declared.Refusal.TheVariants.{Broken}
use Rattle.domain.specs.Set.{values_of, set_of, well}
use Rattle.domain.specs.declared.BitDomain.{BitDomain}
use Rattle.domain_text.specs.Text.{text_of, Written, writes, refuses, write_text_of}
use Rattle.domain_text.proofs.Values.{few, sizes-few}
use Rattle.domain_text.proofs.Texts.{run-le, text-size}
use Rattle.domain_text.proofs.Writes.{room}

-- 128 values of at most 11 bytes, 127 commas, the brackets and the bar
abbrev pub longest : ℕ
longest = 1538

pub text-few : (lo : ℤ) (m : Mask) → SFits w32 lo → Fit m → length (text_of (values_of lo m)) ≤ longest
text-few lo m f h = let v = values_of lo m in omega (arith, text-size v, run-le v, sizes-few lo m f h, few lo m h)

pub always-room : (d : BitDomain) (cells : List ℕ) → SFits w32 d.min → Fit d.mask → well d ≡ true → longest ≤ length cells → (write_text_of d cells).answer ≡ Ok (length (text_of (set_of d)))
unfolding write_text_of
always-room d cells f h w l =
    ap (λ (b : Bool). (cond b (writes (text_of (set_of d)) cells) (refuses Broken cells)).answer) w
    ∙ ap (λ (r : Written). r.answer) (sym (room (text_of (set_of d)) cells refl (omega (arith, text-few d.min d.mask f h)) refl))
