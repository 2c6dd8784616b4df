-- `wave::wave` meets its contract: the text stands at the start of the call's own bytes, which it never passes, and is copied where it fits.
use Rattle.std.specs.Prelude.{◌≡◌, ◌++◌, ◌≤◌, List, ℕ, length, take, drop}
use Rattle.std.proofs.Common.{sym, ap, ◌∙◌, arith, length-take-le}
use Rattle.decimal.specs.Put.{Put, put_of}
use Rattle.domain_text.proofs.Writes.{no_room, room}
use Rattle.wave_print.proofs.Pieces.{kept}
use Rattle.wave.specs.Text.{wave_text, wave_of}
use Rattle.wave.proofs.Writing.{put-size, put_front}
use Rattle.wave.proofs.Theorems.{text-few}
use Rattle.wave.proofs.wave.Goals as goal

-- what was put in the call's own bytes
module _ (sheet page text : List ℕ) (n : ℕ) (long : 2816 ≡ length page) (put : ◌≡◌ {A = Put} (record { next = n; cells = text }) (put_of (wave_text sheet) page 0)) where
  size : n ≡ length (wave_text sheet)
  size = put-size (wave_text sheet) page put

  whole : n ≤ length text
  whole = omega (arith, size, text-few sheet, kept (wave_text sheet) page 0 put, long)

  front : take n text ≡ wave_text sheet
  front = put_front (wave_text sheet) page put (omega (arith, text-few sheet, long))

pub returns-then-out-n : goal.returns-then-out-n
unfolding wave_of
returns-then-out-n c =
    let s = c.args.sheet.now in
    no_room (wave_text s) c.args.out.now (size s c.page-text.result c.put_wave-n.new.out c.put_wave-n.result c.page-text.ensures c.put_wave-n.ensures) c.if-out-n.true

pub slice_bounds-text-end : goal.slice_bounds-text-end
slice_bounds-text-end c = whole c.args.sheet.now c.page-text.result c.put_wave-n.new.out c.put_wave-n.result c.page-text.ensures c.put_wave-n.ensures

pub slice_bounds-copy_from_slice-end-3 : goal.slice_bounds-copy_from_slice-end-3
slice_bounds-copy_from_slice-end-3 c =
    sym (length-take-le c.put_wave-n.result c.put_wave-n.new.out (whole c.args.sheet.now c.page-text.result c.put_wave-n.new.out c.put_wave-n.result c.page-text.ensures c.put_wave-n.ensures))

pub copy_from_slice-requires : goal.copy_from_slice-requires
copy_from_slice-requires c =
    let n = c.put_wave-n.result in
    let t = c.put_wave-n.new.out in
    length-take-le n c.args.out.now c.if-out-n.false
    ∙ sym (length-take-le n t (whole c.args.sheet.now c.page-text.result t n c.page-text.ensures c.put_wave-n.ensures))

pub returns : goal.returns
unfolding wave_of
returns c =
    let s = c.args.sheet.now in
    let n = c.put_wave-n.result in
    let t = c.put_wave-n.new.out in
    let p = c.page-text.result in
    let out = c.args.out.now in
    room (wave_text s) out (size s p t n c.page-text.ensures c.put_wave-n.ensures) c.if-out-n.false
    (ap (λ (x : List ℕ). x ++ drop n out) (c.copy_from_slice.ensures.after ∙ front s p t n c.page-text.ensures c.put_wave-n.ensures))
