-- Frames without the Kanji mode: their pieces are those that fit, and are the only ones.
use Rattle.std.proofs.Common.{◌≡◌, ℕ, Bool, List, ◌++◌, refl, sym, subst, ◌∙◌, arith}
use Rattle.std.proofs.lemmas.Option.{same_Some}
use Rattle.qrcode_base.specs.declared.types.Color.{Color}
use Rattle.qrcode_base.specs.declared.types.EcLevel.{EcLevel}
use Rattle.qrcode_base.specs.declared.types.Version.{Version}
use Rattle.qrcode_bits.specs.Frame.{Front, IsFrame, no_front, spellings, tail}
use Rattle.qrcode_bits.specs.Spelling.{Piece}
use Rattle.qrcode_bits.proofs.Reading.{numbered, one_reading as one_list}
use Rattle.qrcode_core.specs.Headline.{Reading, Reads, reading_of}
use Rattle.qrcode_core.proofs.OneReading.{one_carried, one_reading}
use Rattle.qrcode_grid.specs.declared.canvas.MaskPattern.{MaskPattern}
use Rattle.smallest_symbols.specs.ByteHeadline.{HasNoKanji, ReadsWithoutKanji}
use Rattle.smallest_symbols.specs.BytePieces.{HaveNoKanji, NoPiecesFit, PiecesFit, bits_of_pieces}

-- The pieces of a frame without the Kanji mode fit its version, and have its payload.
pub frame_fits : {v : Version} {l : EcLevel} {bytes : List ℕ} {payload : ℕ} {bits : List Bool} → (f : IsFrame v l no_front bytes payload bits) →
    HaveNoKanji f.pieces → PiecesFit v l bytes f.pieces × (payload ≡ bits_of_pieces v f.pieces)
frame_fits f none = (
  record {
    pieces_are = record { message_is = sym f.bytes_are; spellable = f.spellable; nonempty = f.nonempty; no_kanji = none };
    limit = f.limit;
    has_level = f.limit_is;
    within = omega (arith, f.payload_is, f.fits);
  },
  f.payload_is,
)

-- Pieces that fit are those of a frame.
abbrev pub frame_of : (v : Version) (l : EcLevel) (bytes : List ℕ) (pieces : List Piece) → (fits : PiecesFit v l bytes pieces) →
    IsFrame v l no_front bytes (bits_of_pieces v pieces) (spellings v pieces ++ tail v fits.limit (bits_of_pieces v pieces))
frame_of v l bytes pieces fits = record {
  limit = fits.limit;
  pieces = pieces;
  limit_is = fits.has_level;
  front_fits = (tt, tt);
  allowed = tt;
  spellable = fits.pieces_are.spellable;
  nonempty = fits.pieces_are.nonempty;
  bytes_are = sym fits.pieces_are.message_is;
  payload_is = refl;
  fits = fits.within;
  bits_are = refl;
}

-- Where no pieces fit, no grid is read without the Kanji mode.
pub no_reading : {v : Version} {l : EcLevel} {bytes : List ℕ} {grid : List Color} {mask : MaskPattern} {payload : ℕ} → NoPiecesFit v l bytes →
    ReadsWithoutKanji grid (reading_of v l mask no_front bytes payload) → ⊥
no_reading none r = none r.reads.framed.pieces (frame_fits r.reads.framed r.no_kanji).0

-- ---- One list of pieces

-- The bits of a frame without a front are those of one list of pieces.
one_pieces : (v : Version) (l : EcLevel) (s t : List ℕ) (n m : ℕ) (bits : List Bool) → (f : IsFrame v l no_front s n bits) →
    (g : IsFrame v l no_front t m bits) → f.pieces ≡ g.pieces
one_pieces v l s t n m bits f g =
    let limits : f.limit ≡ g.limit = same_Some f.limit g.limit (sym f.limit_is ∙ g.limit_is) in
    let second = subst (λ (k : ℕ). bits ≡ spellings v g.pieces ++ tail v k m) (sym limits) g.bits_are in
    one_list v f.limit (numbered v l f.limit f.limit_is) 0 n m f.pieces g.pieces (λ k d i. (f.spellable k d i, f.nonempty k d i))
    (λ k d i. (g.spellable k d i, g.nonempty k d i)) (omega (arith, f.payload_is)) (omega (arith, g.payload_is)) f.fits
    (omega (arith, g.fits, limits)) (sym f.bits_are ∙ second)

-- A grid that is read without the Kanji mode is read so alone.
pub never_kanji : (grid : List Color) (r : Reading) (f : Reads grid r) → r.front ≡ no_front → HaveNoKanji f.framed.pieces → HasNoKanji grid
never_kanji grid r f bare none other g =
    let same : r ≡ other = one_reading grid r other f g in
    let frames = (one_carried grid r.version other.version r.level other.level r.mask other.mask f.frame g.frame f.carries g.carries).3 in
    subst (λ (s : Reading). (h : IsFrame s.version s.level s.front s.bytes s.payload g.frame) → HaveNoKanji h.pieces) same
    (subst (λ (bits : List Bool). (h : IsFrame r.version r.level r.front r.bytes r.payload bits) → HaveNoKanji h.pieces) frames
    (λ h. subst HaveNoKanji (same_pieces r.front bare f.framed h) none)) g.framed
  where
    same_pieces : (front : Front) → front ≡ no_front → (a b : IsFrame r.version r.level front r.bytes r.payload f.frame) → a.pieces ≡ b.pieces
    same_pieces front e =
        subst (λ (z : Front). (a b : IsFrame r.version r.level z r.bytes r.payload f.frame) → a.pieces ≡ b.pieces) (sym e)
        (λ a b. one_pieces r.version r.level r.bytes r.bytes r.payload r.payload f.frame a b)
