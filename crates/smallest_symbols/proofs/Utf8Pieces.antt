-- The symbol of a part in UTF-8, after its header and its designator, is no smaller than the smallest
-- symbol of the part; and where a part is too long, no grid is read as it.
use Rattle.std.proofs.Common.{◌≡◌, ℕ, ◌+◌, ◌≤◌, Bool, List, ◌++◌, chars, length, inl, inr, refl}
use Rattle.std.proofs.Common.{sym, ap, subst, ◌∙◌, arith, length-append}
use Rattle.std.specs.Prelude.{None, Some}
use Rattle.std.specs.Str.{IsUtf8}
use Rattle.std.proofs.lemmas.Bool.{cases_lt}
use Rattle.qrcode_base.specs.declared.types.Color.{Color}
use Rattle.qrcode_base.specs.declared.types.EcLevel.{EcLevel}
use Rattle.qrcode_base.specs.declared.types.Version.{Version}
use Rattle.qrcode_bits.specs.Contents.{content_bits}
use Rattle.qrcode_bits.specs.Frame.{Header, IsFrame, front_bits, front_of, header_bits, spellings}
use Rattle.qrcode_bits.specs.Frame.{tail}
use Rattle.qrcode_bits.specs.Plans.{normal}
use Rattle.qrcode_bits.specs.declared.bits.front.Content.TheVariants.{Text}
use Rattle.qrcode_bits.proofs.Reading.{length-header}
use Rattle.qrcode_core.specs.Headline.{Reads, reading_of}
use Rattle.qrcode_grid.specs.declared.canvas.MaskPattern.{MaskPattern}
use Rattle.character_sets.specs.Reading.{Part}
use Rattle.text_plans.specs.Costs.{AreTextParts, bits_of_parts}
use Rattle.text_plans.specs.Manners.{ArePartsIn}
use Rattle.text_plans.specs.declared.rules.Manner.{Manner}
use Rattle.text_plans.specs.declared.rules.Manner.TheVariants.{Designated}
use Rattle.text_plans.proofs.Starts.{designated_parts}
use Rattle.smallest_symbols.proofs.Utf8Frames.{utf8_parts}
use Rattle.smallest_symbols.specs.TextParts.{IsTextPartTooLong, PartsFitAfterHeader}
use Rattle.smallest_symbols.specs.TextHeadline.{TextReading}
use Rattle.smallest_symbols.specs.TextPieces.{IsSmallestTextPart, NoGridReadsPiece}
use Rattle.smallest_symbols.proofs.TextFrames.{frame_fits, no_piece_frame}

-- Where no parts of a manner fit after a header, no grid is read as the text after one by such parts.
pub no_grid : (manner : Manner) (text : List ℕ) (level : EcLevel) (limit : ℕ) → IsTextPartTooLong manner text level limit →
    NoGridReadsPiece manner text level limit
no_grid manner text level limit none grid number payload mask header few reads known = no_piece_frame manner (none number few) reads.framed known

module _ (v : Version) (level : EcLevel) (header : Header) (bytes : List ℕ) (payload : ℕ) (bits : List Bool)
    (f : IsFrame v level (front_of (Some header) Text) bytes payload bits) where
  -- the header takes 20 bits of the payload
  headed : payload ≡ 20 + length (front_bits (front_of None Text) ++ spellings v f.pieces)
  headed = omega (
    arith,
    f.payload_is,
    length-header header,
    length-append (header_bits (Some header)) (content_bits Text),
    length-append (front_bits (front_of (Some header) Text)) (spellings v f.pieces),
    length-append (front_bits (front_of None Text)) (spellings v f.pieces),
  )

  -- the frame of the same pieces without the header
  unheaded : IsFrame v level (front_of None Text) bytes (length (front_bits (front_of None Text) ++ spellings v f.pieces))
      (front_bits (front_of None Text)
      ++ (spellings v f.pieces ++ tail v f.limit (length (front_bits (front_of None Text) ++ spellings v f.pieces))))
  unheaded = record {
    limit = f.limit;
    pieces = f.pieces;
    limit_is = f.limit_is;
    front_fits = (tt, f.front_fits.1);
    allowed = f.allowed;
    spellable = f.spellable;
    nonempty = f.nonempty;
    bytes_are = f.bytes_are;
    payload_is = refl;
    fits = omega (arith, headed, f.fits);
    bits_are = refl;
  }

  -- Its parts fit after the header, and take no more bits.
  pub headed_parts : IsUtf8 bytes →
      (parts : List Part) × PartsFitAfterHeader Designated v level (chars bytes) parts × (20 + bits_of_parts v parts ≤ payload)
  headed_parts utf8 =
      let w = utf8_parts v level bytes _ _ utf8 unheaded in
      let few : 20 + bits_of_parts v w.0 ≤ payload = omega (arith, headed, w.2) in
      let front = subst (λ (parts : List Part). AreTextParts v (chars bytes) parts) w.3.1 w.1.written in
      let known : ArePartsIn Designated v (chars bytes) w.0 =
      subst (λ (parts : List Part). ArePartsIn Designated v (chars bytes) parts) (sym w.3.1)
      (designated_parts v (chars bytes) 26 w.3.0 front) in
      (w.0, record { written = known; limit = f.limit; has_level = f.limit_is; within = omega (arith, few, f.fits) }, few)

pub utf8_no_smaller : (bytes : List ℕ) (level : EcLevel) (grid other : List Color) (mine theirs : Header) (number bits : ℕ) (mask : MaskPattern) →
    IsUtf8 bytes → (best : IsSmallestTextPart Designated mine (chars bytes) level grid) →
    Reads other (reading_of (normal number) level mask (front_of (Some theirs) Text) bytes bits) →
    (best.number ≤ number) × (number ≡ best.number → best.payload ≤ bits)
utf8_no_smaller bytes level grid other mine theirs number bits mask utf8 best reads =
    let w = headed_parts (normal number) level theirs bytes bits reads.frame reads.framed utf8 in
    let parts = best.reads.framed.parts in
    let version = ap (λ (r : TextReading). bits_of_parts r.version parts) best.says in
    let ahead = ap (λ (r : TextReading). length (header_bits r.header)) best.says ∙ length-header mine in
    let payload = ap (λ (r : TextReading). r.payload) best.says in
    let long : best.payload ≡ 20 + bits_of_parts (normal best.number) parts =
    omega (arith, payload, (frame_fits best.reads.framed).1, ahead, version) in (
      elim (cases_lt number best.number) [ inl below ↦ absurd (best.smallest number below w.0 w.1) | inr past ↦ past ],
      λ same.
          let written = subst (λ (n : ℕ). ArePartsIn Designated (normal n) (chars bytes) w.0) same w.1.written in
          let few = subst (λ (n : ℕ). 20 + bits_of_parts (normal n) w.0 ≤ bits) same w.2 in
          let least = best.least.bits w.0 written in
          omega (arith, long, least, few),
    )
