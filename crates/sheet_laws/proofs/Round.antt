-- The text of a good sheet is read back as that sheet. Assumes nothing.
use Rattle.std.specs.Prelude.{ℕ, zero, suc, ◌+◌, ◌*◌, ◌^◌, ◌≤◌, ◌<◌, ◌≡◌, refl, List, [], ◌∷◌, ◌++◌, true, false, length, get_or, ℤ, pos, negsuc, nat_abs}
use Rattle.std.specs.Int.Signed.{le_z}
use Rattle.std.specs.Int.{w32}
use Rattle.std.proofs.Common.{ap, ap₂, sym, ◌∙◌, subst, append_assoc, arith, add-zero, zero-add, mul-suc, le-leb, length-append, SFits}
use lib.Seq.{get_or-append_seam}
use Rattle.closing.specs.declared.Kind.{Kind}
use Rattle.closing.specs.declared.Kind.TheVariants.{Remove, Assign, Below, Above}
use Rattle.closing.specs.declared.Closing.{Closing}
use Rattle.decimal.specs.Decimal.{decimal}
use Rattle.decimal.proofs.Digits.{natural-few, decimal-few}
use Rattle.sheet_form.specs.declared.Destination.{Destination}
use Rattle.sheet_form.specs.Sheet.{Sheet, All}
use Rattle.sheet_number.specs.Number.{Got, got, number_at, byte_at, run, in_run, is_digit}
use Rattle.sheet_number.specs.Reader.{Reader, after, ◌>>=◌, pure, natural, value, field, each}
use Rattle.sheet_number.proofs.Readers.{byte-there, natural-value, field-got, field-parts}
use Rattle.closing.specs.Kinds.{kind_for}
use Rattle.sheet_sections.specs.Sections.{id, destination, closing, gap, count, listed, list, section}
use Rattle.sheet_sections.proofs.OneRun.{count-got}
use Rattle.sheet.specs.Sheet.{read_sheet}
use Rattle.sheet.specs.Write.{write_field, write_id, number_for, write_destination, write_closing, write_each, write_list, write_section, write_sheet, GoodDestination, GoodClosing, Good}
use Rattle.sheet.proofs.Sections.{sheet-read}
use Rattle.sheet_laws.proofs.Back.{number-back}

-- m reads w, wherever it stands and whatever follows, as a
abbrev pub Reads : {A : Type 0} → Reader A → List ℕ → A → Type 0
Reads m w a = (front rest : List ℕ) → m (front ++ (w ++ rest)) (length front) ≡ got a (length front + length w)

-- ---- composition

pub reads-pure : {A : Type 0} (a : A) → Reads (pure a) [] a
reads-pure a front rest = ap (λ (k : ℕ). got a k) (sym (add-zero (length front)))

pub place-then : (front w v : List ℕ) → length (front ++ w) + length v ≡ length front + length (w ++ v)
place-then front w v = omega (arith, length-append front w, length-append w v)

-- once m has read w as a, it is f a that goes on
pub goes_on : {A B : Type 0} (m : Reader A) (f : A → Reader B) (w v : List ℕ) (a : A) → Reads m w a → (front rest : List ℕ)
    → ◌>>=◌ m f (front ++ ((w ++ v) ++ rest)) (length front) ≡ f a ((front ++ w) ++ (v ++ rest)) (length (front ++ w))
goes_on m f w v a p front rest =
    let s : List ℕ = front ++ (w ++ (v ++ rest)) in
    let e : front ++ ((w ++ v) ++ rest) ≡ s = ap (λ (x : List ℕ). front ++ x) (append_assoc w v rest) in
    let g : s ≡ (front ++ w) ++ (v ++ rest) = sym (append_assoc front w (v ++ rest)) in
    let n : length front + length w ≡ length (front ++ w) = sym (length-append front w) in
    ap (λ (x : List ℕ). after (m x (length front)) (λ a e. f a x e)) e
    ∙ ap (λ (y : Got _). after y (λ a e. f a s e)) (p front (v ++ rest))
    ∙ ap₂ (λ (x : List ℕ) (y : ℕ). f a x y) g n

pub reads_then : {A B : Type 0} (m : Reader A) (f : A → Reader B) (w v : List ℕ) (a : A) (b : B) → Reads m w a → Reads (f a) v b → Reads (m >>= f) (w ++ v) b
reads_then m f w v a b p q front rest = goes_on m f w v a p front rest ∙ q (front ++ w) rest ∙ ap (λ (y : ℕ). got b y) (place-then front w v)

-- ---- a field

byte-back : (front rest : List ℕ) (b at : ℕ) → at ≡ length front → byte_at (front ++ (b ∷ rest)) at b ≡ got tt (at + 1)
byte-back front rest b at e =
    let l : at < length (front ++ (b ∷ rest)) = omega (arith, length-append front (b ∷ rest)) in
    let g : get_or (front ++ (b ∷ rest)) at 0 ≡ b = ap (λ (k : ℕ). get_or (front ++ (b ∷ rest)) k 0) e ∙ get_or-append_seam front b rest 0 in
    sym (byte-there (front ++ (b ∷ rest)) at b l g)

run_none : (b : ℕ) (rest : List ℕ) → in_run b ≡ false → run (b ∷ rest) ≡ []
unfolding run
run_none b rest e = rw e

module _ {A : Type 0} (m : Reader A) (z low high : ℤ) (a : A) (b : ℕ)
    (reads : (s : List ℕ) (at e : ℕ) → number_at s at low high ≡ got z e → m s at ≡ got a e)
    (above : le_z low z ≡ true) (below : le_z z high ≡ true) (stop : in_run b ≡ false) where
  pub reads-field : Reads (field m b) (write_field z b) a
  reads-field front rest =
      let e : front ++ ((decimal z ++ (b ∷ [])) ++ rest) ≡ front ++ (decimal z ++ (b ∷ rest)) = ap (λ (x : List ℕ). front ++ x) (append_assoc (decimal z) (b ∷ []) rest) in
      let g : front ++ (decimal z ++ (b ∷ rest)) ≡ (front ++ decimal z) ++ (b ∷ rest) = sym (append_assoc front (decimal z) (b ∷ rest)) in
      let n : length front + length (decimal z) ≡ length (front ++ decimal z) = sym (length-append front (decimal z)) in
      let k : length front + length (decimal z) + 1 ≡ length front + length (decimal z ++ (b ∷ [])) = omega (arith, length-append (decimal z) (b ∷ [])) in
      ap (λ (x : List ℕ). field m b x (length front)) e
      ∙ field-got m b (front ++ (decimal z ++ (b ∷ rest))) (length front) a (length front + length (decimal z)) (length front + length (decimal z) + 1)
      (reads (front ++ (decimal z ++ (b ∷ rest))) (length front) (length front + length (decimal z)) (number-back front (b ∷ rest) z low high above below (run_none b rest stop)))
      (ap (λ (x : List ℕ). byte_at x (length front + length (decimal z)) b) g ∙ byte-back (front ++ decimal z) rest b (length front + length (decimal z)) n)
      ∙ ap (λ (y : ℕ). got a y) k

reads-natural : (low high n b : ℕ) → low ≤ n → n ≤ high → in_run b ≡ false → Reads (field (natural low high) b) (write_id n b) n
reads-natural low high n b p q stop =
    reads-field (natural low high) (pos n) (pos low) (pos high) n b (λ s at e. natural-value s at low high (pos n) e) (le-leb low n p) (le-leb n high q) stop

value-above : (z : ℤ) → SFits w32 z → le_z (negsuc 2147483647) z ≡ true
value-above (pos n) f = refl
value-above (negsuc n) f = le-leb n 2147483647 (omega (arith, f.sfits))

value-below : (z : ℤ) → SFits w32 z → le_z z (pos 2147483647) ≡ true
value-below (pos n) f = le-leb n 2147483647 (omega (arith, f.sfits))
value-below (negsuc n) f = refl

value-number : (z : ℤ) (s : List ℕ) (at e : ℕ) → number_at s at (negsuc 2147483647) (pos 2147483647) ≡ got z e → value s at ≡ got z e
unfolding value
value-number z s at e q = q

reads-value : (z : ℤ) (b : ℕ) → SFits w32 z → in_run b ≡ false → Reads (field value b) (write_field z b) z
reads-value z b f stop =
    reads-field value z (negsuc 2147483647) (pos 2147483647) z b (value-number z) (value-above z f) (value-below z f) stop

pub stop-space : in_run 32 ≡ false
unfolding in_run is_digit
stop-space = refl

pub stop-line : in_run 10 ≡ false
unfolding in_run is_digit
stop-line = refl

pub stop-gap : (n : ℕ) → in_run (gap n) ≡ false
stop-gap zero = stop-line
stop-gap (suc n) = stop-space

-- ---- the lines

abbrev pub d3 : ℕ → ℤ → ℤ → Reader Destination
d3 i lo hi = pure (record { id = record { 0 = i }; min = record { 0 = lo }; max = record { 0 = hi } })

abbrev pub d2 : ℕ → ℤ → Reader Destination
d2 i lo = field value 10 >>= d3 i lo

abbrev pub d1 : ℕ → Reader Destination
d1 i = field value 32 >>= d2 i

reads-destination : (d : Destination) → GoodDestination d → Reads destination (write_destination d) d
unfolding destination write_destination
reads-destination d g =
    reads_then (field id 32) d1 (write_id d.id.0 32) (write_field d.min.0 32 ++ (write_field d.max.0 10 ++ [])) d.id.0 d
    (reads-natural 0 4294967295 d.id.0 32 (omega arith) (omega (arith, g.id)) stop-space)
    (reads_then (field value 32) (d2 d.id.0) (write_field d.min.0 32) (write_field d.max.0 10 ++ []) d.min.0 d (reads-value d.min.0 32 g.min stop-space)
    (reads_then (field value 10) (d3 d.id.0 d.min.0) (write_field d.max.0 10) [] d.max.0 d (reads-value d.max.0 10 g.max stop-line)
    (reads-pure d)))

kind-low : (a : Kind) → 1 ≤ number_for a
kind-low Remove = omega arith
kind-low Assign = omega arith
kind-low Below = omega arith
kind-low Above = omega arith

kind-high : (a : Kind) → number_for a ≤ 4
kind-high Remove = omega arith
kind-high Assign = omega arith
kind-high Below = omega arith
kind-high Above = omega arith

kind-back : (a : Kind) → kind_for (number_for a) ≡ a
unfolding kind_for
kind-back Remove = refl
kind-back Assign = refl
kind-back Below = refl
kind-back Above = refl

abbrev closing_of : Kind → ℕ → ℤ → Closing
closing_of a i v = record { kind = a; id = record { 0 = i }; value = record { 0 = v } }

abbrev pub c3 : ℕ → ℕ → ℤ → Reader Closing
c3 k i v = pure (closing_of (kind_for k) i v)

abbrev pub c2 : ℕ → ℕ → Reader Closing
c2 k i = field value 10 >>= c3 k i

abbrev pub c1 : ℕ → Reader Closing
c1 k = field id 32 >>= c2 k

reads-kind : (c : Closing) → Reads (c3 (number_for c.kind) c.id.0 c.value.0) [] c
reads-kind c front rest =
    reads-pure (closing_of (kind_for (number_for c.kind)) c.id.0 c.value.0) front rest
    ∙ ap (λ (a : Kind). got (closing_of a c.id.0 c.value.0) (length front + 0)) (kind-back c.kind)

reads-closing : (c : Closing) → GoodClosing c → Reads closing (write_closing c) c
unfolding closing write_closing
reads-closing c g =
    let k : ℕ = number_for c.kind in
    reads_then (field (natural 1 4) 32) c1 (write_id k 32) (write_id c.id.0 32 ++ (write_field c.value.0 10 ++ [])) k c
    (reads-natural 1 4 k 32 (kind-low c.kind) (kind-high c.kind) stop-space)
    (reads_then (field id 32) (c2 k) (write_id c.id.0 32) (write_field c.value.0 10 ++ []) c.id.0 c
    (reads-natural 0 4294967295 c.id.0 32 (omega arith) (omega (arith, g.id)) stop-space)
    (reads_then (field value 10) (c3 k c.id.0) (write_field c.value.0 10) [] c.value.0 c (reads-value c.value.0 10 g.value stop-line) (reads-kind c)))

-- ---- several

module _ {A : Type 0} (f : ℕ → Reader A) (w : ℕ → A → List ℕ) (P : A → Type 0) (reads : (n : ℕ) (a : A) → P a → Reads (f n) (w n a) a) where
  abbrev e2 : A → List A → Reader (List A)
  e2 a l = pure (a ∷ l)

  abbrev e1 : ℕ → A → Reader (List A)
  e1 n a = each f n >>= e2 a

  reads-each : (l : List A) → All P l → Reads (each f (length l)) (write_each w l) l
  unfolding each write_each All
  reads-each [] g = reads-pure []
  reads-each (a ∷ l) g =
      reads_then (f (length l)) (e1 (length l)) (w (length l) a) (write_each w l ++ []) a (a ∷ l) (reads (length l) a g.0)
      (reads_then (each f (length l)) (e2 a) (write_each w l) [] l (a ∷ l) (reads-each l g.1) (reads-pure (a ∷ l)))

abbrev pub write_listed : ℕ → ℕ → List ℕ
write_listed n i = write_id i (gap n)

reads-listed : (n i : ℕ) → i < 2 ^ 32 → Reads (listed n) (write_listed n i) i
reads-listed n i h = reads-natural 0 4294967295 i (gap n) (omega arith) (omega arith) (stop-gap n)

reads-count : (k : ℕ) → k ≤ 64 → Reads count (write_id k (gap k)) k
reads-count k h front rest =
    let w : List ℕ = write_id k (gap k) in
    let s : List ℕ = front ++ (w ++ rest) in
    let p = field-parts (natural 0 64) (gap k) s (length front) k (length front + length w) (reads-natural 0 64 k (gap k) (omega arith) h (stop-gap k) front rest) in
    count-got s (length front) k p.0 (length front + length w) p.1 p.2

abbrev pub GoodList : List ℕ → Type 0
GoodList l = (length l ≤ 64) × All (λ (i : ℕ). i < 2 ^ 32) l

abbrev l1 : ℕ → Reader (List ℕ)
l1 k = each listed k

reads-list : (l : List ℕ) → GoodList l → Reads list (write_list l) l
unfolding list write_list
reads-list l g =
    reads_then count l1 (write_id (length l) (gap (length l))) (write_each write_listed l) (length l) l
    (reads-count (length l) g.0)
    (reads-each listed write_listed (λ (i : ℕ). i < 2 ^ 32) reads-listed l g.1)

all_both : {A : Type 0} (P Q : A → Type 0) (l : List A) → All P l → All Q l → All (λ a. P a × Q a) l
unfolding All
all_both P Q [] p q = tt
all_both P Q (a ∷ l) p q = ((p.0, q.0), all_both P Q l p.1 q.1)

good-lists : (sh : Sheet) → Good sh → All GoodList sh.lists
good-lists sh g = all_both (λ (l : List ℕ). length l ≤ 64) (All (λ (i : ℕ). i < 2 ^ 32)) sh.lists g.few.ids g.lists

-- ---- the sections and the sheet

module _ {A : Type 0} (most : ℕ) (line : Reader A) (w : A → List ℕ) (P : A → Type 0) (reads : (a : A) → P a → Reads line (w a) a) where
  reads_section : (l : List A) → length l ≤ most → All P l → Reads (section most line) (write_section w l) l
  unfolding section write_section
  reads_section l h g =
      reads_then (field (natural 0 most) 10) (λ n. each (λ j. line) n) (write_id (length l) 10) (write_each (λ n a. w a) l) (length l) l
      (reads-natural 0 most (length l) 10 (omega arith) h stop-line)
      (reads-each (λ j. line) (λ n a. w a) P (λ n a. reads a) l g)

-- three texts in a row
three : (A B C : List ℕ) → length (A ++ (B ++ (C ++ []))) ≡ length A + length B + length C
three A B C = omega (arith, length-append A (B ++ (C ++ [])), length-append B (C ++ []), length-append C [])

sheet-back : (sh : Sheet) → Good sh → length (write_sheet sh) ≤ 32768 → read_sheet (write_sheet sh) ≡ got sh (length (write_sheet sh))
unfolding write_sheet
sheet-back sh g h =
    let D : List ℕ = write_section write_destination sh.destinations in
    let C : List ℕ = write_section write_closing sh.closings in
    let L : List ℕ = write_section write_list sh.lists in
    let s : List ℕ = D ++ (C ++ (L ++ [])) in
    let r1 = reads_section 64 destination write_destination GoodDestination reads-destination sh.destinations g.few.destinations g.destinations in
    let r2 = reads_section 256 closing write_closing GoodClosing reads-closing sh.closings g.few.closings g.closings in
    let r3 = reads_section 16 list write_list GoodList reads-list sh.lists g.few.lists (good-lists sh g) in
    let a1 : section 64 destination s 0 ≡ got sh.destinations (length D) = r1 [] (C ++ (L ++ [])) ∙ ap (λ (y : ℕ). got sh.destinations y) (zero-add (length D)) in
    let a2 : section 256 closing s (length D) ≡ got sh.closings (length D + length C) = r2 D (L ++ []) in
    let n : length D + length C ≡ length (D ++ C) = sym (length-append D C) in
    let k : length (D ++ C) + length L ≡ length s = omega (arith, length-append D C, three D C L) in
    let a3 : section 16 list s (length D + length C) ≡ got sh.lists (length s) =
    ap₂ (λ (x : List ℕ) (y : ℕ). section 16 list x y) (sym (append_assoc D C (L ++ []))) n ∙ r3 (D ++ C) [] ∙ ap (λ (y : ℕ). got sh.lists y) k in
    sheet-read s h sh.destinations (length D) a1 sh.closings (length D + length C) a2 sh.lists (length s) a3 (omega arith)

-- ---- the text of a good sheet is short

id-width : (k n b : ℕ) → n < 10 ^ suc k → length (write_id n b) ≤ suc k + 1
unfolding decimal
id-width k n b h = omega (arith, natural-few k n h, length-append (decimal (pos n)) (b ∷ []))

value-width : (z : ℤ) (b : ℕ) → SFits w32 z → length (write_field z b) ≤ 12
value-width z b f = omega (arith, decimal-few 9 z (size z f), length-append (decimal z) (b ∷ []))
  where
    size : (z : ℤ) → SFits w32 z → nat_abs z < 10 ^ 10
    size (pos n) f = omega (arith, f.sfits)
    size (negsuc n) f = omega (arith, f.sfits)

each_width : {A : Type 0} (w : ℕ → A → List ℕ) (P : A → Type 0) (m : ℕ) → ((n : ℕ) (a : A) → P a → length (w n a) ≤ m) → (l : List A) → All P l → length (write_each w l) ≤ m * length l
unfolding write_each All
each_width w P m h [] g = omega arith
each_width w P m h (a ∷ l) g =
    let i = each_width w P m h l g.1 in
    let j = h (length l) a g.0 in
    let e : m * suc (length l) ≡ m * length l + m = mul-suc m (length l) in
    subst (λ (x : ℕ). length (w (length l) a ++ (write_each w l ++ [])) ≤ x) (sym e)
    (omega (arith, length-append (w (length l) a) (write_each w l ++ []), length-append (write_each w l) []))

destination-width : (d : Destination) → GoodDestination d → length (write_destination d) ≤ 35
unfolding write_destination
destination-width d g =
    let A : List ℕ = write_id d.id.0 32 in
    let B : List ℕ = write_field d.min.0 32 in
    let C : List ℕ = write_field d.max.0 10 in
    omega (
      arith,
      three A B C,
      id-width 9 d.id.0 32 (omega (arith, g.id)),
      value-width d.min.0 32 g.min,
      value-width d.max.0 10 g.max,
    )

closing-width : (c : Closing) → GoodClosing c → length (write_closing c) ≤ 25
unfolding write_closing
closing-width c g =
    let k : ℕ = number_for c.kind in
    let A : List ℕ = write_id k 32 in
    let B : List ℕ = write_id c.id.0 32 in
    let C : List ℕ = write_field c.value.0 10 in
    omega (
      arith,
      three A B C,
      id-width 0 k 32 (omega (arith, kind-high c.kind)),
      id-width 9 c.id.0 32 (omega (arith, g.id)),
      value-width c.value.0 10 g.value,
    )

list-width : (l : List ℕ) → GoodList l → length (write_list l) ≤ 707
unfolding write_list
list-width l g =
    let A : List ℕ = write_id (length l) (gap (length l)) in
    omega (
      arith,
      g.0,
      length-append A (write_each write_listed l),
      id-width 1 (length l) (gap (length l)) (omega (arith, g.0)),
      each_width write_listed (λ (i : ℕ). i < 2 ^ 32) 11 (λ n i h. id-width 9 i (gap n) (omega arith)) l g.1,
    )

section-width : {A : Type 0} (w : A → List ℕ) (P : A → Type 0) (m : ℕ) → ((a : A) → P a → length (w a) ≤ m) → (l : List A) → length l < 1000 → All P l → length (write_section w l) ≤ 4 + m * length l
unfolding write_section
section-width w P m h l s g =
    let A : List ℕ = write_id (length l) 10 in
    omega (arith, length-append A (write_each (λ n a. w a) l), id-width 2 (length l) 10 s, each_width (λ n a. w a) P m (λ n a. h a) l g)

sheet-width : (sh : Sheet) → Good sh → length (write_sheet sh) ≤ 32768
unfolding write_sheet
sheet-width sh g =
    let D : List ℕ = write_section write_destination sh.destinations in
    let C : List ℕ = write_section write_closing sh.closings in
    let L : List ℕ = write_section write_list sh.lists in
    omega (
      arith,
      three D C L,
      g.few.destinations,
      g.few.closings,
      g.few.lists,
      section-width write_destination GoodDestination 35 destination-width sh.destinations (omega (arith, g.few.destinations)) g.destinations,
      section-width write_closing GoodClosing 25 closing-width sh.closings (omega (arith, g.few.closings)) g.closings,
      section-width write_list GoodList 707 list-width sh.lists (omega (arith, g.few.lists)) (good-lists sh g),
    )

-- no good sheet is refused: its text is read as that sheet, to its end
pub good-back : (sh : Sheet) → Good sh → read_sheet (write_sheet sh) ≡ got sh (length (write_sheet sh))
good-back sh g = sheet-back sh g (sheet-width sh g)
