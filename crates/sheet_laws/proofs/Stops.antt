-- What a reader makes of any text: either it reads a part of it, whatever follows; or it stops at a place. Up to that place the text could
-- still be read, if it went on otherwise; and it stops there whatever follows the token that stands there. Assumes nothing.
use Rattle.std.specs.Prelude.{ℕ, zero, suc, ◌+◌, ◌≤◌, ◌<◌, ◌≡◌, refl, List, [], ◌∷◌, ◌++◌, Bool, true, false, cond, ◌&&◌, eqb, length, get_or, drop, ℤ, pos, negsuc, nat_abs}
use Rattle.std.specs.Int.Signed.{le_z}
use Rattle.std.proofs.Common.{ap, ap₂, sym, ◌∙◌, subst, append_assoc, arith, add-zero, le-leb, eqb-true, length-append}
use Rattle.std.proofs.Math.Option.{Option, some, none}
use Rattle.std.proofs.lemmas.Bool.{eqb-false}
use lib.Seq.{drop-append_seam, get_or-append_seam}
use Rattle.closing.specs.declared.Closing.{Closing}
use Rattle.decimal.specs.Decimal.{decimal}
use Rattle.decimal.proofs.Digits.{natural-small}
use Rattle.sheet_form.specs.declared.Destination.{Destination}
use Rattle.sheet_form.specs.Sheet.{Sheet}
use Rattle.sheet_number.specs.declared.Fault.{Fault}
use Rattle.sheet_number.specs.declared.Fault.TheVariants.{OutOfRange, Separator, Ended}
use Rattle.sheet_number.specs.Number.{Got, got, fault, number_at, byte_at, judged, fault_at, run, run_end, in_run, written}
use Rattle.sheet_number.specs.Reader.{Reader, after, ◌>>=◌, pure, number, natural, value, field, each}
use Rattle.sheet_number.proofs.Readers.{byte-other, byte-ended, field-parts}
use Rattle.sheet_sections.specs.Sections.{id, destination, closing, gap, count, listed, list, section}
use Rattle.sheet.specs.Write.{write_field}
use Rattle.sheet_laws.specs.First.{token}
use Rattle.sheet_laws.proofs.Back.{number-back}
use Rattle.sheet_laws.proofs.Canonical.{written_is}
use Rattle.sheet_laws.proofs.Round.{Reads, reads-pure, goes_on, place-then, reads_then, reads-field, stop-space, stop-line, stop-gap, d1, d2, d3, c1, c2, c3}
use Rattle.sheet_laws.proofs.Tokens.{token-run, token-head, head, split, begins_run, ends_run, stops-begins, ends-then, ends-byte, and_none}

-- m stops after w if y follows, wherever they stand
abbrev pub Stops : {A : Type 0} → Reader A → List ℕ → List ℕ → Type 0
Stops m w y = (front : List ℕ) → (k : Fault) × (m (front ++ (w ++ y)) (length front) ≡ fault k (length front + length w))

pub record Taken {A : Type 0} (m : Reader A) (x : List ℕ) : Type 0 where
  pub text : List ℕ
  pub rest : List ℕ
  pub value : A
  pub is : x ≡ text ++ rest
  pub reads : Reads m text value
  pub whole : ends_run false text ≡ false

pub record Stopped {A : Type 0} (m : Reader A) (x : List ℕ) : Type 0 where
  pub text : List ℕ
  pub rest : List ℕ
  pub is : x ≡ text ++ rest
  pub stops : (y : List ℕ) → token y ≡ token rest → Stops m text y
  pub whole : ends_run false text && begins_run rest ≡ false
  -- what could have followed
  pub next : ℕ
  pub more : List ℕ
  pub value : A
  pub reads : Reads m (text ++ (next ∷ more)) value
  pub apart : ends_run false text && in_run next ≡ false

pub data Outcome {A : Type 0} (m : Reader A) (x : List ℕ) : Type 0 where
  taken : Taken m x → Outcome m x
  stopped : Stopped m x → Outcome m x

-- and there is some text that it reads
pub record Plain {A : Type 0} (m : Reader A) : Type 0 where
  pub comes : (x : List ℕ) → Outcome m x
  pub text : List ℕ
  pub value : A
  pub reads : Reads m text value

-- ---- composition

stops_first : {A B : Type 0} (m : Reader A) (f : A → Reader B) (w y : List ℕ) → Stops m w y → Stops (m >>= f) w y
stops_first m f w y h front =
    let k = h front in
    (k.0, ap (λ (g : Got _). after g (λ a e. f a (front ++ (w ++ y)) e)) k.1)

stops_then : {A B : Type 0} (m : Reader A) (f : A → Reader B) (w v y : List ℕ) (a : A) → Reads m w a → Stops (f a) v y → Stops (m >>= f) (w ++ v) y
stops_then m f w v y a p q front =
    let k = q (front ++ w) in
    (k.0, goes_on m f w v a p front y ∙ k.1 ∙ ap (λ (n : ℕ). fault k.0 n) (place-then front w v))

module _ {A B : Type 0} (m : Reader A) (f : A → Reader B) (p : Plain m) (q : (a : A) → Plain (f a)) where
  stop-first : (x : List ℕ) → Stopped m x → Stopped (m >>= f) x
  stop-first x h =
      let g = q h.value in
      record {
        text = h.text;
        rest = h.rest;
        is = h.is;
        stops = λ y e. stops_first m f h.text y (h.stops y e);
        whole = h.whole;
        next = h.next;
        more = h.more ++ g.text;
        value = g.value;
        reads =
            subst (λ (l : List ℕ). Reads (m >>= f) l g.value) (append_assoc h.text (h.next ∷ h.more) g.text)
            (reads_then m f (h.text ++ (h.next ∷ h.more)) g.text h.value g.value h.reads g.reads);
        apart = h.apart;
      }

  stop-then : (x : List ℕ) (h : Taken m x) → Stopped (f h.value) h.rest → Stopped (m >>= f) x
  stop-then x h g =
      let e = ends-then h.text g.text h.whole in
      record {
        text = h.text ++ g.text;
        rest = g.rest;
        is = h.is ∙ ap (λ (l : List ℕ). h.text ++ l) g.is ∙ sym (append_assoc h.text g.text g.rest);
        stops = λ y i. stops_then m f h.text g.text y h.value h.reads (g.stops y i);
        whole = ap (λ (t : Bool). t && begins_run g.rest) e ∙ g.whole;
        next = g.next;
        more = g.more;
        value = g.value;
        reads =
            subst (λ (l : List ℕ). Reads (m >>= f) l g.value) (sym (append_assoc h.text g.text (g.next ∷ g.more)))
            (reads_then m f h.text (g.text ++ (g.next ∷ g.more)) h.value g.value h.reads g.reads);
        apart = ap (λ (t : Bool). t && in_run g.next) e ∙ g.apart;
      }

  take-then : (x : List ℕ) (h : Taken m x) → Taken (f h.value) h.rest → Taken (m >>= f) x
  take-then x h g =
      record {
        text = h.text ++ g.text;
        rest = g.rest;
        value = g.value;
        is = h.is ∙ ap (λ (l : List ℕ). h.text ++ l) g.is ∙ sym (append_assoc h.text g.text g.rest);
        reads = reads_then m f h.text g.text h.value g.value h.reads g.reads;
        whole = ends-then h.text g.text h.whole ∙ g.whole;
      }

  comes-then : (x : List ℕ) → Outcome (m >>= f) x
  comes-then x = first (p.comes x)
    where
      second : (h : Taken m x) → Outcome (f h.value) h.rest → Outcome (m >>= f) x
      second h (taken g) = taken (take-then x h g)
      second h (stopped g) = stopped (stop-then x h g)

      first : Outcome m x → Outcome (m >>= f) x
      first (taken h) = second h ((q h.value).comes h.rest)
      first (stopped h) = stopped (stop-first x h)

  plain_then : Plain (m >>= f)
  plain_then =
      let g = q p.value in
      record { comes = comes-then; text = p.text ++ g.text; value = g.value; reads = reads_then m f p.text g.text p.value g.value p.reads g.reads }

plain-pure : {A : Type 0} (a : A) → Plain (pure a)
unfolding ends_run
plain-pure a =
    record {
      comes = λ x. taken (record { text = []; rest = x; value = a; is = refl; reads = reads-pure a; whole = refl });
      text = [];
      value = a;
      reads = reads-pure a;
    }

-- ---- a number, and the byte after it

-- what the number z is read as, if the byte b z follows it
abbrev entry : {A : Type 0} → ℤ → ℤ → (ℤ → ℕ) → (ℤ → A) → Reader A
entry low high b h = λ s at. after (number_at s at low high) (λ z e. after (byte_at s e (b z)) (λ u f. got (h z) f))

-- a run that writes no number from low to high
abbrev Bad : ℤ → ℤ → Option ℤ → Type 0
Bad low high o = (s : List ℕ) (at e : ℕ) → (k : Fault) × (judged s at low high e o ≡ fault k at)

data Number (low high : ℤ) (o : Option ℤ) : Type 0 where
  is : (z : ℤ) → o ≡ some z → le_z low z ≡ true → le_z z high ≡ true → Number low high o
  bad : Bad low high o → Number low high o

number_by : (t u : Bool) (low high z : ℤ) → le_z low z ≡ t → le_z z high ≡ u → Number low high (some z)
unfolding fault_at
number_by true true low high z p q = is z refl p q
number_by true false low high z p q = bad (λ s at e. (_, ap₂ (λ (x y : Bool). cond (x && y) (got z e) (fault_at s at OutOfRange)) p q))
number_by false u low high z p q = bad (λ s at e. (_, ap (λ (x : Bool). cond (x && le_z z high) (got z e) (fault_at s at OutOfRange)) p))

number_of : (low high : ℤ) (o : Option ℤ) → Number low high o
unfolding fault_at
number_of low high none = bad (λ s at e. (_, refl))
number_of low high (some z) = number_by (le_z low z) (le_z z high) low high z refl refl

number-stops : (low high : ℤ) (x y : List ℕ) → Bad low high (written (run x)) → token y ≡ token x → (front : List ℕ)
    → (k : Fault) × (number_at (front ++ y) (length front) low high ≡ fault k (length front))
unfolding number_at
number-stops low high x y n e front =
    let s : List ℕ = front ++ y in
    let k = n s (length front) (run_end s (length front)) in
    let r : run (drop (length front) s) ≡ run x = ap run (drop-append_seam front y) ∙ token-run x y e in
    (k.0, ap (λ (l : List ℕ). judged s (length front) low high (run_end s (length front)) (written l)) r ∙ k.1)

byte-stops : (b : ℕ) (y : List ℕ) → (head y ≡ some b → ⊥) → (front : List ℕ) (at : ℕ) → at ≡ length front
    → (k : Fault) × (byte_at (front ++ y) at b ≡ fault k at)
byte-stops b [] n front at e = (Ended, sym (byte-ended (front ++ []) at b (omega (arith, length-append front []))))
byte-stops b (c ∷ y) n front at e =
    let g : get_or (front ++ (c ∷ y)) at 0 ≡ c = ap (λ (k : ℕ). get_or (front ++ (c ∷ y)) k 0) e ∙ get_or-append_seam front c y 0 in
    (Separator, sym (byte-other (front ++ (c ∷ y)) at b (omega (arith, length-append front (c ∷ y))) (λ q. n (ap (λ (i : ℕ). some i) (sym g ∙ q)))))

-- n is a number of one digit from low to high
module _ {A : Type 0} (low high : ℤ) (b : ℤ → ℕ) (h : ℤ → A) (stop : (z : ℤ) → in_run (b z) ≡ false) (n : ℕ) (small : n < 10)
    (above : le_z low (pos n) ≡ true) (below : le_z (pos n) high ≡ true) where
  entry-reads : (z : ℤ) → le_z low z ≡ true → le_z z high ≡ true → Reads (entry low high b h) (write_field z (b z)) (h z)
  entry-reads z l k front rest =
      let w : List ℕ = write_field z (b z) in
      let s : List ℕ = front ++ (w ++ rest) in
      let r = reads-field (number low high) z low high z (b z) (λ s at e q. q) l k (stop z) front rest in
      let p = field-parts (number low high) (b z) s (length front) z (length front + length w) r in
      ap (λ (g : Got ℤ). after g (λ z e. after (byte_at s e (b z)) (λ u f. got (h z) f))) p.1 ∙ ap (λ (g : Got Unit). after g (λ u f. got (h z) f)) p.2

  digit : write_field (pos n) (b (pos n)) ≡ (48 + n) ∷ (b (pos n) ∷ [])
  unfolding decimal
  digit = ap (λ (l : List ℕ). l ++ (b (pos n) ∷ [])) (natural-small n small)

  entry_first : (x : List ℕ) → Bad low high (written (run x)) → Stopped (entry low high b h) x
  unfolding ends_run
  entry_first x i =
      record {
        text = [];
        rest = x;
        is = refl;
        stops = λ y e front.
            let k = number-stops low high x y i e front in
            (k.0, ap (λ (g : Got ℤ). after g (λ z e. after (byte_at (front ++ y) e (b z)) (λ u f. got (h z) f))) k.1 ∙ ap (λ (p : ℕ). fault k.0 p) (sym (add-zero (length front))));
        whole = refl;
        next = 48 + n;
        more = b (pos n) ∷ [];
        value = h (pos n);
        reads = subst (λ (l : List ℕ). Reads (entry low high b h) l (h (pos n))) digit (entry-reads (pos n) above below);
        apart = refl;
      }

  module _ (z : ℤ) (l : le_z low z ≡ true) (k : le_z z high ≡ true) where
    byte_next : (y : List ℕ) → run y ≡ [] → (head y ≡ some (b z) → ⊥) → Stops (entry low high b h) (decimal z) y
    byte_next y r i front =
        let s : List ℕ = front ++ (decimal z ++ y) in
        let at : ℕ = length front + length (decimal z) in
        let e : (front ++ decimal z) ++ y ≡ s = append_assoc front (decimal z) y in
        let j = byte-stops (b z) y i (front ++ decimal z) at (sym (length-append front (decimal z))) in (
          j.0,
          ap (λ (g : Got ℤ). after g (λ z e. after (byte_at s e (b z)) (λ u f. got (h z) f))) (number-back front y z low high l k r)
              ∙ ap (λ (x : List ℕ). after (byte_at x at (b z)) (λ u f. got (h z) f)) (sym e)
              ∙ ap (λ (g : Got Unit). after g (λ u f. got (h z) f)) j.1,
        )

    entry-byte : (x y : List ℕ) → x ≡ decimal z ++ y → run y ≡ [] → (head y ≡ some (b z) → ⊥) → Stopped (entry low high b h) x
    entry-byte x y e r i =
        record {
          text = decimal z;
          rest = y;
          is = e;
          stops = λ v q. byte_next v (token-run y v q ∙ r) (λ o. i (sym (token-head y v q) ∙ o));
          whole = and_none (ends_run false (decimal z)) (begins_run y) (stops-begins y r);
          next = b z;
          more = [];
          value = h z;
          reads = entry-reads z l k;
          apart = and_none (ends_run false (decimal z)) (in_run (b z)) (stop z);
        }

    entry-taken : (x y : List ℕ) → x ≡ decimal z ++ (b z ∷ y) → Taken (entry low high b h) x
    entry-taken x y e =
        record {
          text = write_field z (b z);
          rest = y;
          value = h z;
          is = e ∙ sym (append_assoc (decimal z) (b z ∷ []) y);
          reads = entry-reads z l k;
          whole = ends-byte (decimal z) (b z) (stop z);
        }

    byte-by : (t : Bool) (x : List ℕ) (c : ℕ) (y : List ℕ) → eqb c (b z) ≡ t → x ≡ decimal z ++ (c ∷ y) → run (c ∷ y) ≡ [] → Outcome (entry low high b h) x
    byte-by true x c y q e r = taken (entry-taken x y (e ∙ ap (λ (i : ℕ). decimal z ++ (i ∷ y)) (eqb-true c (b z) q)))
    byte-by false x c y q e r = stopped (entry-byte x (c ∷ y) e r (λ o. eqb-false c (b z) q (cc)))

    entry-rest : (x y : List ℕ) → x ≡ decimal z ++ y → run y ≡ [] → Outcome (entry low high b h) x
    entry-rest x [] e r = stopped (entry-byte x [] e r (λ o. let i : ◌≡◌ {A = ℕ} 0 1 = cc in omega arith))
    entry-rest x (c ∷ y) e r = byte-by (eqb c (b z)) x c y refl e r

  entry-comes : (x : List ℕ) → Number low high (written (run x)) → Outcome (entry low high b h) x
  entry-comes x (bad i) = stopped (entry_first x i)
  entry-comes x (is z o l k) =
      let p = split x in
      entry-rest z l k x p.rest (p.is ∙ ap (λ (w : List ℕ). w ++ p.rest) (written_is (run x) z o)) p.stops

  plain_entry : Plain (entry low high b h)
  plain_entry =
      record {
        comes = λ x. entry-comes x (number_of low high (written (run x)));
        text = write_field (pos n) (b (pos n));
        value = h (pos n);
        reads = entry-reads (pos n) above below;
      }

-- ---- the fields

plain-as : {A : Type 0} (m k : Reader A) → ((s : List ℕ) (at : ℕ) → m s at ≡ k s at) → Plain m → Plain k
plain-as {A} m k e p = subst (λ (r : Reader A). Plain r) (λ i s at. e s at i) p

natural-by : (g : Got ℤ) (s : List ℕ) (b : ℕ → ℕ)
    → after g (λ z e. after (byte_at s e (b (nat_abs z))) (λ u f. got (nat_abs z) f))
    ≡ after (after g (λ z e. got (nat_abs z) e)) (λ a e. after (byte_at s e (b a)) (λ u f. got a f))
natural-by (got z e) s b = refl
natural-by (fault k p) s b = refl

field-entry : (low high b : ℕ) (s : List ℕ) (at : ℕ) → entry (pos low) (pos high) (λ z. b) nat_abs s at ≡ field (natural low high) b s at
unfolding field natural
field-entry low high b s at = natural-by (number_at s at (pos low) (pos high)) s (λ n. b)

count-entry : (s : List ℕ) (at : ℕ) → entry (pos 0) (pos 64) (λ z. gap (nat_abs z)) nat_abs s at ≡ count s at
unfolding count natural
count-entry s at = natural-by (number_at s at (pos 0) (pos 64)) s gap

value-entry : (b : ℕ) (s : List ℕ) (at : ℕ) → entry (negsuc 2147483647) (pos 2147483647) (λ z. b) (λ z. z) s at ≡ field value b s at
unfolding field value
value-entry b s at = refl

plain-natural : (low high b : ℕ) → low < 10 → low ≤ high → in_run b ≡ false → Plain (field (natural low high) b)
plain-natural low high b p q stop =
    plain-as _ (field (natural low high) b) (field-entry low high b)
    (plain_entry (pos low) (pos high) (λ z. b) nat_abs (λ z. stop) low p (le-leb low low (omega arith)) (le-leb low high q))

plain_value : (b : ℕ) → in_run b ≡ false → Plain (field value b)
plain_value b stop =
    plain-as _ (field value b) (value-entry b)
    (plain_entry (negsuc 2147483647) (pos 2147483647) (λ z. b) (λ z. z) (λ z. stop) 0 (omega arith) refl refl)

plain-count : Plain count
plain-count =
    plain-as _ count count-entry
    (plain_entry (pos 0) (pos 64) (λ z. gap (nat_abs z)) nat_abs (λ z. stop-gap (nat_abs z)) 0 (omega arith) refl refl)

plain-id : (b : ℕ) → in_run b ≡ false → Plain (field id b)
plain-id b stop = plain-natural 0 4294967295 b (omega arith) (omega arith) stop

-- ---- the lines

plain-destination : Plain destination
unfolding destination
plain-destination =
    plain_then (field id 32) d1 (plain-id 32 stop-space)
    (λ i. plain_then (field value 32) (d2 i) (plain_value 32 stop-space)
    (λ lo. plain_then (field value 10) (d3 i lo) (plain_value 10 stop-line)
    (λ hi. plain-pure _)))

plain-closing : Plain closing
unfolding closing
plain-closing =
    plain_then (field (natural 1 4) 32) c1 (plain-natural 1 4 32 (omega arith) (omega arith) stop-space)
    (λ k. plain_then (field id 32) (c2 k) (plain-id 32 stop-space)
    (λ i. plain_then (field value 10) (c3 k i) (plain_value 10 stop-line)
    (λ v. plain-pure _)))

plain-each : {A : Type 0} (f : ℕ → Reader A) → ((n : ℕ) → Plain (f n)) → (n : ℕ) → Plain (each f n)
unfolding each
plain-each {A} f p zero = plain-pure {A = List A} []
plain-each {A} f p (suc n) =
    plain_then (f n) (λ a. each f n >>= λ l. pure (a ∷ l)) (p n)
    (λ a. plain_then (each f n) (λ l. pure (a ∷ l)) (plain-each f p n) (λ l. plain-pure (a ∷ l)))

plain-list : Plain list
unfolding list
plain-list = plain_then count (λ k. each listed k) plain-count (plain-each listed (λ n. plain-id (gap n) (stop-gap n)))

-- ---- the sections

plain-section : {A : Type 0} (most : ℕ) (line : Reader A) → Plain line → Plain (section most line)
unfolding section
plain-section most line p =
    plain_then (field (natural 0 most) 10) (λ n. each (λ j. line) n) (plain-natural 0 most 10 (omega arith) (omega arith) stop-line)
    (plain-each (λ j. line) (λ j. p))

-- the sheet, but for its end
abbrev pub b3 : List Destination → List Closing → List (List ℕ) → Reader Sheet
b3 ds cs ls = pure (record { destinations = ds; closings = cs; lists = ls })

abbrev pub b2 : List Destination → List Closing → Reader Sheet
b2 ds cs = section 16 list >>= b3 ds cs

abbrev pub b1 : List Destination → Reader Sheet
b1 ds = section 256 closing >>= b2 ds

abbrev pub body : Reader Sheet
body = section 64 destination >>= b1

pub plain_body : Plain body
plain_body =
    plain_then (section 64 destination) b1 (plain-section 64 destination plain-destination)
    (λ ds. plain_then (section 256 closing) (b2 ds) (plain-section 256 closing plain-closing)
    (λ cs. plain_then (section 16 list) (b3 ds cs) (plain-section 16 list plain-list)
    (λ ls. plain-pure _)))
