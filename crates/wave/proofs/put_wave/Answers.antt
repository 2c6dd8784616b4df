-- `wave::put_wave` meets its contract: what was read is told, a bad sheet by its refusal, a good one by what its run comes to.
use Rattle.std.specs.Prelude.{◌≡◌, List, ℕ, ◌≤◌, length}
use Rattle.std.specs.declared.result.Result.TheVariants.{Ok, Err}
use Rattle.std.proofs.Common.{sym, ap, ap₂, ◌∙◌, subst, arith}
use Rattle.decimal.specs.Put.{put_of}
use Rattle.rules.specs.Refusals.{number_of, place_of}
use Rattle.rules.specs.declared.Refusal.{Refusal}
use Rattle.sheet_form.specs.Held.{parsed_of}
use Rattle.sheet_form.specs.declared.Parsed.{Parsed}
use Rattle.sheet_number.specs.declared.Stop.{Stop}
use Rattle.sheet_number.proofs.Readers.{answered, stopped}
use Rattle.sheet.specs.Sheet.{read_sheet, refusal_of}
use Rattle.sheet.specs.Whole.{read_of}
use Rattle.sheet_laws.proofs.Only.{accepted-few}
use Rattle.wave_form.specs.Wave.{ran_of, sheet_of}
use Rattle.wave_form.specs.declared.Ran.{Ran}
use Rattle.wave_form.proofs.Back.{sheet-back}
use Rattle.wave_print.specs.Print.{refused_text}
use Rattle.wave.specs.Text.{told_of, wave_text, ran_text}
use Rattle.wave.proofs.Theorems.{text-few, ran-text, ran-fits}
use Rattle.wave.proofs.put_wave.Goals as goal

-- a bad sheet
bad : (s : List ℕ) (x : Stop) → Err x ≡ read_of (read_sheet s) → {r : Refusal} → r ≡ refusal_of x.fault x.at → {n p : ℕ} → n ≡ number_of r → p ≡ place_of r → refused_text n p ≡ wave_text s
unfolding wave_text told_of
bad s x q e f g = ap₂ refused_text f g ∙ ap (λ (r : Refusal). refused_text (number_of r) (place_of r)) e ∙ sym (ap told_of (stopped parsed_of (read_sheet s) x q))

-- a good one: the run's text, and that its counts are within limits
record Runs (r : Ran) (s : List ℕ) : Type 0 where
  text : ran_text r ≡ wave_text s
  rows : r.count ≤ 64
  lists : r.ln ≤ 16

runs : (s : List ℕ) (p : Parsed) (e : ℕ) → Ok (p, e) ≡ read_of (read_sheet s) → {r : Ran} → r ≡ ran_of (sheet_of p) → Runs r s
unfolding wave_text
runs s p e q {r} h =
    let k = answered parsed_of (read_sheet s) p e q in
    let few = accepted-few s k.0 e k.1 in
    let f = ran-fits k.0 few in
    let same : r ≡ ran_of k.0 = h ∙ ap (λ (p : Parsed). ran_of (sheet_of p)) k.2 ∙ ap ran_of (sheet-back k.0 few) in
    record {
      text = ap ran_text same ∙ ran-text k.0 e few ∙ sym (ap told_of k.1);
      rows = subst (λ (x : Ran). x.count ≤ 64) (sym same) f.0;
      lists = subst (λ (x : Ran). x.ln ≤ 16) (sym same) f.1;
    }

pub put_refusal-requires : goal.put_refusal-requires
put_refusal-requires c =
    let s = c.args.sheet.now in
    omega (arith, c.requires, text-few s, ap length (bad s c.in-Err.stop c.in-Err.ensures c.refusal-why.ensures c.number.ensures c.place.ensures))

pub returns-in-Err : goal.returns-in-Err
returns-in-Err c =
    let s = c.args.sheet.now in
    c.put_refusal.ensures ∙ ap (λ (t : List ℕ). put_of t c.args.out.now 0) (bad s c.in-Err.stop c.in-Err.ensures c.refusal-why.ensures c.number.ensures c.place.ensures)

pub put_ran-requires : goal.put_ran-requires
put_ran-requires c =
    let s = c.args.sheet.now in
    let k = runs s c.in-Ok.parsed c.in-Ok.field-0-1 c.in-Ok.ensures c.run.ensures in
    (k.rows, k.lists, omega (arith, c.requires, text-few s, ap length k.text))

pub returns-in-Ok : goal.returns-in-Ok
returns-in-Ok c =
    let s = c.args.sheet.now in
    c.put_ran.ensures ∙ ap (λ (t : List ℕ). put_of t c.args.out.now 0) (runs s c.in-Ok.parsed c.in-Ok.field-0-1 c.in-Ok.ensures c.run.ensures).text
