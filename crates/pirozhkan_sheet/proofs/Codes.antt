-- The length of a sheet's text has room in the code: no text has more than 2,816 bytes. Assumes nothing.
use Rattle.std.specs.Prelude.{◌≡◌, Bool, true, false, cond, List, ◌++◌, ℕ, leb, length, drop}
use Rattle.std.specs.declared.result.Result.TheVariants.{Ok, Err}
use Rattle.std.proofs.Common.{arith}
use Rattle.rules.specs.declared.Refusal.TheVariants.{NoRoom}
use Rattle.domain_text.specs.Text.{Written, refuses}
use Rattle.board_ask.specs.Answers.{count_of}
use Rattle.wave.specs.Text.{wave_text, wave_of}
use Rattle.wave.proofs.Theorems.{text-few}
use Rattle.reply.specs.Told.{number, told_by, Of, count-of, denied-of}
use Rattle.reply.proofs.ToldLaws.{told_back}
use Rattle.pirozhkan_sheet.specs.Sheets.{texted}

pub wave-of : (sheet out : List ℕ) → Of number (count_of (wave_of sheet out).answer)
unfolding wave_of
wave-of sheet out = go (leb (length text) (length out))
  where
    text : List ℕ
    text = wave_text sheet

    go : (t : Bool) → Of number (count_of (cond {A = Written} t (record { answer = Ok (length text); cells = text ++ drop (length text) out }) (refuses NoRoom out)).answer)
    go true = count-of {n = length text} (omega (arith, text-few sheet))
    go false = denied-of {r = NoRoom} (omega arith)

-- so the code tells it
pub wave-told : (sheet out : List ℕ) → told_by number (texted (wave_of sheet out)).code ≡ count_of (wave_of sheet out).answer
wave-told sheet out = told_back number (count_of (wave_of sheet out).answer) (wave-of sheet out)
