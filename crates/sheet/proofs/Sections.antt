-- A whole sheet, by how far its sections can be read. Assumes nothing.
use Rattle.std.specs.Prelude.{ℕ, ◌≤◌, ◌<◌, ◌≡◌, List, length}
use Rattle.std.proofs.Common.{lt-ltb, le-ltb}
use Rattle.closing.specs.declared.Closing.{Closing}
use Rattle.sheet_form.specs.declared.Destination.{Destination}
use Rattle.sheet_form.specs.Sheet.{Sheet}
use Rattle.sheet_number.specs.declared.Fault.{Fault}
use Rattle.sheet_number.specs.declared.Fault.TheVariants.{Trailing, TooLong}
use Rattle.sheet_number.specs.Number.{got, fault}
use Rattle.sheet_sections.specs.Sections.{destination, closing, list, section}
use Rattle.sheet.specs.Sheet.{end, sheet, read_sheet}

-- ---- the sheet, by how far it can be read

abbrev pub whole : List Destination → List Closing → List (List ℕ) → Sheet
whole ds cs ls = record { destinations = ds; closings = cs; lists = ls }

module _ (s : List ℕ) where
  pub sheet-long : 32768 < length s → read_sheet s ≡ fault TooLong 32768
  unfolding read_sheet
  sheet-long h = rw (lt-ltb _ _ h)

  module _ (short : length s ≤ 32768) where
    pub sheet-first : (k : Fault) (p : ℕ) → section 64 destination s 0 ≡ fault k p → read_sheet s ≡ fault k p
    unfolding read_sheet sheet
    sheet-first k p h = rw (le-ltb _ _ short, h)

    module _ (ds : List Destination) (e : ℕ) (first : section 64 destination s 0 ≡ got ds e) where
      pub sheet-second : (k : Fault) (p : ℕ) → section 256 closing s e ≡ fault k p → read_sheet s ≡ fault k p
      unfolding read_sheet sheet
      sheet-second k p h = rw (le-ltb _ _ short, first, h)

      module _ (cs : List Closing) (f : ℕ) (second : section 256 closing s e ≡ got cs f) where
        pub sheet-third : (k : Fault) (p : ℕ) → section 16 list s f ≡ fault k p → read_sheet s ≡ fault k p
        unfolding read_sheet sheet
        sheet-third k p h = rw (le-ltb _ _ short, first, second, h)

        module _ (ls : List (List ℕ)) (g : ℕ) (third : section 16 list s f ≡ got ls g) where
          pub sheet-more : g < length s → read_sheet s ≡ fault Trailing g
          unfolding read_sheet sheet end
          sheet-more h = rw (le-ltb _ _ short, first, second, third, lt-ltb _ _ h)

          pub sheet-read : length s ≤ g → read_sheet s ≡ got (whole ds cs ls) g
          unfolding read_sheet sheet end
          sheet-read h = rw (le-ltb _ _ short, first, second, third, le-ltb _ _ h)
