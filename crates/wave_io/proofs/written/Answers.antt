-- What the wave wrote lies within the bytes that it was lent, and with as much room as a text may need it is the board's text.
use Rattle.std.specs.Prelude.{◌≡◌, Bool, true, false, cond, List, ◌++◌, ℕ, ◌≤◌, length, take, drop, leb, Result}
use Rattle.std.specs.Result.{result_unwrap_or}
use Rattle.std.specs.declared.result.Result.TheVariants.{Ok, Err}
use Rattle.std.proofs.Common.{sym, ap, ◌∙◌, arith, length-append, take_at}
use Rattle.std.proofs.lemmas.List.{length-take-le}
use Rattle.rules.specs.declared.Refusal.{Refusal}
use Rattle.rules.specs.declared.Refusal.TheVariants.{NoRoom}
use Rattle.domain_text.specs.Text.{Written, writes, refuses}
use Rattle.wave_print.specs.Print.{most}
use Rattle.wave.specs.Text.{wave_text, wave_of}
use Rattle.wave.proofs.Theorems.{text-few, text_first, room-exactly}
use Rattle.wave_io.proofs.written.Goals as goal

-- ---- how long it is

fits : (t cells m : List ℕ) (n : ℕ) → record { answer = Ok n; cells = m } ≡ writes t cells → n ≤ length m
fits t cells m n e = go (leb (length t) (length cells)) e
  where
    go : (b : Bool) → record { answer = Ok n; cells = m } ≡ cond b (record { answer = Ok (length t); cells = t ++ drop (length t) cells }) (refuses NoRoom cells) → n ≤ length m
    go true h =
        let k : Ok n ≡ Ok (length t) = ap (λ (w : Written). w.answer) h in
        let l : m ≡ t ++ drop (length t) cells = ap (λ (w : Written). w.cells) h in
        let s : n ≡ length t = cc in
        omega (arith, ap length l, length-append t (drop (length t) cells))
    go false h =
        let k : Ok n ≡ (refuses NoRoom cells).answer = ap (λ (w : Written). w.answer) h in
        let z : ◌≡◌ {A = ℕ} 0 1 = cc in
        absurd (omega arith)

wave-fits : (s cells m : List ℕ) (n : ℕ) → record { answer = Ok n; cells = m } ≡ wave_of s cells → n ≤ length m
unfolding wave_of
wave-fits s cells m n e = fits (wave_text s) cells m n e

-- ---- what it is, with room for every text

module _ (s cells m : List ℕ) where
  -- the text, then the lent bytes as they came
  first : (r : Result ℕ Refusal) → record { answer = r; cells = m } ≡ wave_of s cells → most ≤ length cells → record { answer = r; cells = m } ≡ text_first s cells
  first r e h =
      let few = text-few s in
      e ∙ (room-exactly s cells).0.1 (omega (arith, few))

  text : (n : ℕ) → record { answer = Ok n; cells = m } ≡ wave_of s cells → most ≤ length cells → take n m ≡ wave_text s
  text n e h =
      let f = first (Ok n) e h in
      let k : Ok n ≡ Ok (length (wave_text s)) = ap (λ (w : Written). w.answer) f in
      let l : m ≡ wave_text s ++ drop (length (wave_text s)) cells = ap (λ (w : Written). w.cells) f in
      let q : length (wave_text s) ≡ n = cc in
      ap (take n) l ∙ take_at (wave_text s) (drop (length (wave_text s)) cells) n q

  never : (why : Refusal) → record { answer = Err why; cells = m } ≡ wave_of s cells → most ≤ length cells → ⊥
  never why e h =
      let k : Err why ≡ Ok (length (wave_text s)) = ap (λ (w : Written). w.answer) (first (Err why) e h) in
      let z : ◌≡◌ {A = ℕ} 0 1 = cc in
      omega arith

-- ---- nought, where the wave is refused

module _ (s cells m : List ℕ) where
  within : (r : Result ℕ Refusal) (k : ℕ) → record { answer = r; cells = m } ≡ wave_of s cells → k ≡ result_unwrap_or r 0 → k ≤ length m
  within (Ok n) k e u = omega (arith, wave-fits s cells m n e, u)
  within (Err why) k e u = omega (arith, u)

  whole : (r : Result ℕ Refusal) (k : ℕ) → record { answer = r; cells = m } ≡ wave_of s cells → k ≡ result_unwrap_or r 0 → most ≤ length cells → take k m ≡ wave_text s
  whole (Ok n) k e u h = ap (λ (j : ℕ). take j m) u ∙ text s cells m n e h
  whole (Err why) k e u h = absurd (never s cells m why e h)

pub returns-clause-within : goal.returns-clause-within
returns-clause-within c =
    let h = within c.args.sheet.now c.args.out.now c.wave.new.out c.wave.result c.unwrap_or.result c.wave.ensures c.unwrap_or.ensures in
    (h, sym (length-take-le c.unwrap_or.result c.wave.new.out h))

pub returns-clause-text : goal.returns-clause-text
returns-clause-text c h = whole c.args.sheet.now c.args.out.now c.wave.new.out c.wave.result c.unwrap_or.result c.wave.ensures c.unwrap_or.ensures h
