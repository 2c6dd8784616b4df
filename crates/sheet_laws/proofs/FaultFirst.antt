-- The place of a bad sheet is the first at which the text can't be that of a sheet; there is one such place, and no other is told. Assumes nothing.
use Rattle.std.specs.Prelude.{ℕ, zero, suc, ◌≤◌, ◌<◌, ◌≡◌, refl, List, [], ◌∷◌, ◌++◌, Bool, false, cond, ◌&&◌, ltb, length, take, drop}
use Rattle.std.proofs.Common.{ap, sym, ◌∙◌, subst, append-nil, arith, zero-add, lt-ltb, le-ltb, length-append, take-append-drop, take-take}
use Rattle.std.proofs.Math.Option.{some}
use Rattle.std.proofs.Math.Decide.{dec_lt}
use lib.Seq.{take-append_seam, drop-append_seam}
use Rattle.sheet_form.specs.Sheet.{Sheet}
use Rattle.sheet_number.specs.declared.Fault.{Fault}
use Rattle.sheet_number.specs.declared.Fault.TheVariants.{Trailing, TooLong}
use Rattle.sheet_number.specs.Number.{Got, got, fault}
use Rattle.sheet_number.specs.Reader.{after}
use Rattle.sheet_sections.specs.Sections.{destination, closing, list, section}
use Rattle.sheet.specs.Sheet.{end, sheet, read_sheet}
use Rattle.sheet.specs.Write.{write_sheet, Good}
use Rattle.sheet_laws.specs.First.{token, cuts_run, First}
use Rattle.sheet_laws.proofs.Only.{sheet-writes, long-by, only-good}
use Rattle.sheet_laws.proofs.Round.{Reads, good-back}
use Rattle.sheet_laws.proofs.Stops.{Outcome, taken, stopped, Taken, Stopped, b1, b2, b3, body, plain_body}
use Rattle.sheet_laws.proofs.Tokens.{head, token-head, begins_run, ends_run, inside-seam, same-token}

-- ---- the sheet is its body, and then the end

after-after : {A B C : Type 0} (g : Got A) (k : A → ℕ → Got B) (j : B → ℕ → Got C) → after g (λ a e. after (k a e) j) ≡ after (after g k) j
after-after (got a e) k j = refl
after-after (fault i p) k j = refl

after_same : {A B : Type 0} (g : Got A) (k j : A → ℕ → Got B) → ((a : A) (e : ℕ) → k a e ≡ j a e) → after g k ≡ after g j
after_same (got a e) k j h = h a e
after_same (fault i p) k j h = refl

abbrev ended : List ℕ → Sheet → ℕ → Got Sheet
ended s sh e = after (end s e) (λ u f. got sh f)

sheet-body : (s : List ℕ) (at : ℕ) → sheet s at ≡ after (body s at) (ended s)
unfolding sheet
sheet-body s at =
    after_same (section 64 destination s at) _ (λ ds e. after (b1 ds s e) (ended s))
    (λ ds e. after_same (section 256 closing s e) _ (λ cs f. after (b2 ds cs s f) (ended s))
    (λ cs f. after-after (section 16 list s f) (λ ls g. b3 ds cs ls s g) (ended s))
    ∙ after-after (section 256 closing s e) (λ cs f. b2 ds cs s f) (ended s))
    ∙ after-after (section 64 destination s at) (λ ds e. b1 ds s e) (ended s)

module _ (s : List ℕ) (e : ℕ) where
  end-there : length s ≤ e → end s e ≡ got tt e
  unfolding end
  end-there h = rw (le-ltb _ _ h)

  end_more : e < length s → end s e ≡ fault Trailing e
  unfolding end
  end_more h = rw (lt-ltb _ _ h)

module _ (s : List ℕ) where
  body-stops : (k : Fault) (p : ℕ) → body s 0 ≡ fault k p → sheet s 0 ≡ fault k p
  body-stops k p q = sheet-body s 0 ∙ ap (λ (g : Got Sheet). after g (ended s)) q

  body-whole : (sh : Sheet) → body s 0 ≡ got sh (length s) → sheet s 0 ≡ got sh (length s)
  body-whole sh q =
      sheet-body s 0 ∙ ap (λ (g : Got Sheet). after g (ended s)) q ∙ ap (λ (g : Got Unit). after g (λ u f. got sh f)) (end-there s (length s) (omega arith))

  body-trails : (sh : Sheet) (e : ℕ) → body s 0 ≡ got sh e → e < length s → sheet s 0 ≡ fault Trailing e
  body-trails sh e q h = sheet-body s 0 ∙ ap (λ (g : Got Sheet). after g (ended s)) q ∙ ap (λ (g : Got Unit). after g (λ u f. got sh f)) (end_more s e h)

reads_whole : (l : List ℕ) (sh : Sheet) → Reads body l sh → sheet l 0 ≡ got sh (length l)
reads_whole l sh r = body-whole l sh (ap (λ (x : List ℕ). body x 0) (sym (append-nil l)) ∙ r [] [] ∙ ap (λ (n : ℕ). got sh n) (zero-add (length l)))

-- ---- what is told of a bad text

no_both : (g : Got Sheet) (sh : Sheet) (e : ℕ) (k : Fault) (p : ℕ) → g ≡ got sh e → g ≡ fault k p → ⊥
no_both g sh e k p q r = let z : ◌≡◌ {A = ℕ} 0 1 = cc in omega arith

good-sheet : (sh : Sheet) → Good sh → sheet (write_sheet sh) 0 ≡ got sh (length (write_sheet sh))
unfolding read_sheet
good-sheet sh g = long-by (ltb 32768 (length (write_sheet sh))) _ _ (sheet (write_sheet sh) 0) sh (length (write_sheet sh)) (good-back sh g)

-- w could go on as r to the text of a sheet, and can't be one with the token that y begins with
module _ (w y r : List ℕ) (sh : Sheet) (reads : sheet (w ++ r) 0 ≡ got sh (length (w ++ r)))
    (stops : (v : List ℕ) → token v ≡ token y → (k : Fault) × (sheet (w ++ v) 0 ≡ fault k (length w)))
    (apart : ends_run false w && begins_run r ≡ false) (whole : ends_run false w && begins_run y ≡ false) where
  first-here : First (w ++ y) (length w)
  first-here =
      let n : ℕ = length w in
      let a = sheet-writes (w ++ r) sh (length (w ++ r)) reads in
      record {
        begun =
            record {
              sheet = sh;
              good = a.good;
              same = ap (λ (t : List ℕ). take n t) (sym a.text) ∙ take-append_seam w r ∙ sym (take-append_seam w y);
              whole = ap (λ (t : List ℕ). cuts_run t n) (sym a.text) ∙ inside-seam w r ∙ apart;
            };
        wrong =
            λ o g e i.
            let t : List ℕ = write_sheet o in
            let v : List ℕ = drop n t in
            let d : t ≡ w ++ v = sym (take-append-drop n t) ∙ ap (λ (x : List ℕ). x ++ v) (e ∙ take-append_seam w y) in
            let k = stops v (i ∙ ap token (drop-append_seam w y)) in
            no_both (sheet t 0) o (length t) k.0 n (good-sheet o g) (ap (λ (x : List ℕ). sheet x 0) d ∙ k.1);
        whole = inside-seam w y ∙ whole;
      }

  first-there : (s : List ℕ) (k : Fault) (p : ℕ) → s ≡ w ++ y → sheet s 0 ≡ fault k p → First s p
  first-there s k p e q =
      let j = stops y refl in
      let z : fault j.0 (length w) ≡ fault k p = sym j.1 ∙ ap (λ (x : List ℕ). sheet x 0) (sym e) ∙ q in
      let n : length w ≡ p = cc in
      subst (λ (l : List ℕ). First l p) (sym e) (subst (λ (i : ℕ). First (w ++ y) i) n first-here)

-- ---- the two ways to be bad: the body stops, or something follows it

stops_at : (s : List ℕ) (h : Stopped body s) (k : Fault) (p : ℕ) → sheet s 0 ≡ fault k p → First s p
stops_at s h k p q =
    let w : List ℕ = h.text in
    first-there w h.rest (h.next ∷ h.more) h.value (reads_whole (w ++ (h.next ∷ h.more)) h.value h.reads)
    (λ v e.
    let j = h.stops v e [] in
    (j.0, body-stops (w ++ v) j.0 (length w) (j.1 ∙ ap (λ (n : ℕ). fault j.0 n) (zero-add (length w)))))
    h.apart h.whole s k p h.is q

some_more : (v : List ℕ) (c : ℕ) → head v ≡ some c → 1 ≤ length v
some_more [] c e = let z : ◌≡◌ {A = ℕ} 0 1 = cc in absurd (omega arith)
some_more (b ∷ v) c e = omega arith

trails-by : (s : List ℕ) (h : Taken body s) (y : List ℕ) → h.rest ≡ y → (k : Fault) (p : ℕ) → sheet s 0 ≡ fault k p → First s p
trails-by s h [] i k p q =
    let w : List ℕ = h.text in
    let e : s ≡ w = h.is ∙ ap (λ (x : List ℕ). w ++ x) i ∙ append-nil w in
    absurd (no_both (sheet w 0) h.value (length w) k p (reads_whole w h.value h.reads) (ap (λ (x : List ℕ). sheet x 0) (sym e) ∙ q))
trails-by s h (c ∷ y) i k p q =
    let w : List ℕ = h.text in
    let sh : Sheet = h.value in
    first-there w (c ∷ y) [] sh (subst (λ (l : List ℕ). sheet l 0 ≡ got sh (length l)) (sym (append-nil w)) (reads_whole w sh h.reads))
    (λ v e.
    let m = some_more v c (token-head (c ∷ y) v e) in
    (Trailing, body-trails (w ++ v) sh (length w) (h.reads [] v ∙ ap (λ (n : ℕ). got sh n) (zero-add (length w))) (omega (arith, length-append w v))))
    (ap (λ (t : Bool). t && begins_run []) h.whole) (ap (λ (t : Bool). t && begins_run (c ∷ y)) h.whole) s k p (h.is ∙ ap (λ (x : List ℕ). w ++ x) i) q

first_by : (s : List ℕ) → Outcome body s → (k : Fault) (p : ℕ) → sheet s 0 ≡ fault k p → First s p
first_by s (taken h) k p q = trails-by s h h.rest refl k p q
first_by s (stopped h) k p q = stops_at s h k p q

-- the place of a fault is the first at which the text can't be that of a sheet
pub fault-first : (s : List ℕ) (k : Fault) (p : ℕ) → length s ≤ 32768 → read_sheet s ≡ fault k p → First s p
unfolding read_sheet
fault-first s k p h q =
    first_by s (plain_body.comes s) k p (ap (λ (t : Bool). cond t (fault TooLong 32768) (sheet s 0)) (sym (le-ltb _ _ h)) ∙ q)

-- ---- no other place is

no-later : (s : List ℕ) (p q : ℕ) → p < q → First s p → First s q → ⊥
no-later s p zero l f g = omega arith
no-later s p (suc q) l f g =
    let b = g.begun in
    let t : List ℕ = write_sheet b.sheet in
    let n : p ≤ suc q = omega arith in
    f.wrong b.sheet b.good (sym (take-take p (suc q) t n) ∙ ap (λ (x : List ℕ). take p x) b.same ∙ take-take p (suc q) s n)
    (same-token p q t s (omega arith) b.same b.whole g.whole)

-- a text has at most one such place
pub place-only : (s : List ℕ) (p q : ℕ) → First s p → First s q → p ≡ q
place-only s p q f g = by (dec_lt p q) (dec_lt q p)
  where
    by : Dec (p < q) → Dec (q < p) → p ≡ q
    by (yes l) m = absurd (no-later s p q l f g)
    by (no l) (yes m) = absurd (no-later s q p m g f)
    by (no l) (no m) = omega arith

told-by : (s : List ℕ) (p : ℕ) → length s ≤ 32768 → First s p → (r : Got Sheet) → read_sheet s ≡ r → (k : Fault) × (r ≡ fault k p)
told-by s p h f (got sh e) q =
    let a = only-good s sh e q in
    absurd (f.wrong sh a.good (ap (λ (x : List ℕ). take p x) (sym a.text)) (ap (λ (x : List ℕ). token (drop p x)) (sym a.text)))
told-by s p h f (fault k n) q = (k, ap (λ (i : ℕ). fault k i) (place-only s n p (fault-first s k n h q) f))

-- and where there is one, it is told
pub first-told : (s : List ℕ) (p : ℕ) → length s ≤ 32768 → First s p → (k : Fault) × (read_sheet s ≡ fault k p)
first-told s p h f = told-by s p h f (read_sheet s) refl
