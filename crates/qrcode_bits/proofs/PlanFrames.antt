-- The parts of a plan that fits, spelled one after the other, are the front of a frame of
-- the bytes.
use Rattle.qrcode_bits.proofs.Prelude.{◌≡◌, ◌≢◌, ℕ, ◌+◌, ◌-◌, ◌<◌, List, [], ◌∷◌, ◌++◌, length, take, drop, refl, sym, ap, ◌∙◌, subst, arith, length-append}
use Rattle.qrcode_bits.proofs.Prelude.{All, slice_range, All-head, All-tail, All-take, All-drop, take-length, Version, EcLevel, Kanji, IsValid, Segment}
use Rattle.qrcode_bits.proofs.Prelude.{AreTexts, segment_bits, total_bits, Fits, spelling, segment_pieces, Front, HasFront, front_bits, Piece, spellings, ended}
use Rattle.qrcode_bits.proofs.Prelude.{IsFrame, IsSpellable, Content, Bytes, Text, flat_map, Elements, AreAllowed, AreDataOf, piece_data, parsed_bytes}
use Rattle.qrcode_bits.proofs.Prelude.{pieces_of, piece_text, common_steps, piece_of, All-map}
use Rattle.qrcode_bits.proofs.Contents.{length-parsed, slice-parsed, parsed-bytes, IsPlain, plain-no_pairs, written-valid, length-written, written-read}
use Rattle.qrcode_bits.proofs.Texts.{IsText, texts-each, texts-reach, texts-plan, slice-join, length-slice}
use Rattle.qrcode_bits.proofs.{Growth.fits-counts, Reading.length-spelling, Segments.length-character_bits, Frames.ended_frame}

whole_slice : (xs : List ℕ) → slice_range xs 0 (length xs) ≡ xs
whole_slice xs = grind (arith, common_steps, take-length)

-- the piece of a segment
abbrev pub own_piece : Content → List ℕ → Segment → Piece
own_piece c bytes x = piece_of x.mode (piece_text c x.mode (slice_range bytes x.begin x.end))

-- ---- Segments whose pieces are valid and as long as they are

module _ (v : Version) (c : Content) (s : List ℕ) where
  record Own (x : Segment) : Type 0 where
    some : x.begin < x.end
    valid : IsValid x.mode (own_piece c s x).text
    size : length (own_piece c s x).text ≡ x.end - x.begin

  own-bits : (x : Segment) → Own x → length (spelling v (own_piece c s x)) ≡ segment_bits v x
  own-bits x h = grind (arith, length-spelling v (own_piece c s x), length-character_bits x.mode (own_piece c s x).text h.valid, h.size)

  -- Their spellings take the bits of the segments.
  bits-own : (ss : List Segment) → All Own ss → length (spellings v (pieces_of c s ss)) ≡ total_bits v ss
  bits-own [] h = refl
  bits-own (x ∷ ss) h = omega (
    arith,
    length-append (spelling v (own_piece c s x)) (spellings v (pieces_of c s ss)),
    own-bits x (All-head Own x ss h),
    bits-own ss (All-tail Own x ss h),
  )

  own-some : (x : Segment) → Own x → (own_piece c s x).text ≢ []
  own-some x h e = let none : length (own_piece c s x).text ≡ 0 = ap (λ (z : List ℕ). length z) e in omega (arith, none, h.size, h.some)

-- The bits of segments that are texts are those of their spellings.
pub length-spelled : (v : Version) (bytes : List ℕ) (ss : List Segment) → AreTexts bytes 0 ss (length bytes) →
    length (spellings v (segment_pieces bytes ss)) ≡ total_bits v ss
length-spelled v bytes ss h = bits-own v Bytes bytes ss (λ k d within. let w = texts-each bytes 0 (length bytes) ss h (omega arith) k d within in
    record { some = w.0; valid = w.2; size = length-slice bytes _ _ (omega (arith, w.0)) w.1 })

-- ---- Segments that are texts of the parsed bytes, and the pieces of the data

module _ (c : Content) (s : List ℕ) (are : All (λ b. b < 256) s) where
  abbrev Whole : List ℕ
  Whole = parsed_bytes c s

  abbrev own_bytes : Segment → List ℕ
  own_bytes x = slice_range s x.begin x.end

  valid-own : (x : Segment) → IsText Whole x → IsValid x.mode (parsed_bytes c (own_bytes x))
  valid-own x h = subst (IsValid x.mode) (slice-parsed c s x.begin x.end) h.2

  own : (v : Version) (x : Segment) → IsText Whole x → Own v c s x
  own v x h = record {
    some = h.0;
    valid = written-valid c x.mode (own_bytes x)
        (All-take (λ b. b < 256) (x.end - x.begin) (drop x.begin s) (All-drop (λ b. b < 256) x.begin s are)) (valid-own x h);
    size = length-written c x.mode (own_bytes x) ∙ length-slice s x.begin x.end (omega (arith, h.0)) (omega (arith, h.1, length-parsed c s));
  }

  -- a segment of plain contents is not of the Kanji mode
  no_kanji : IsPlain c → (x : Segment) → IsText Whole x → x.mode ≢ Kanji
  no_kanji plain x h e =
      let none = plain-no_pairs c plain (own_bytes x) (subst (λ m. IsValid m (parsed_bytes c (own_bytes x))) e (valid-own x h)) in
      let empty : length (own_bytes x) ≡ 0 = ap (λ (z : List ℕ). length z) none in
      omega (arith, empty, length-slice s x.begin x.end (omega (arith, h.0)) (omega (arith, h.1, length-parsed c s)), h.0)

  data-own : AreDataOf c s → (from to : ℕ) (ss : List Segment) → AreTexts Whole from ss to → flat_map (piece_data c) (pieces_of c s ss) ≡ slice_range s from to
  data-own suited from to [] h = grind arith
  data-own suited from to (x ∷ ss) h =
      let reach = texts-reach Whole x.end to ss h.3 in
      let valid : IsValid x.mode (slice_range Whole x.begin x.end) = subst (λ (n : ℕ). IsValid x.mode (slice_range Whole n x.end)) (sym h.0) h.2 in
      let here = written-read c x.mode s x.begin x.end suited (subst (IsValid x.mode) (slice-parsed c s x.begin x.end) valid) in
      let join = slice-join s x.begin x.end to (omega (arith, h.0, h.1)) reach in
      rw (here, data-own suited x.end to ss h.3) (join ∙ ap (λ (n : ℕ). slice_range s n to) h.0)

allowed-own : (c : Content) (s : List ℕ) → All (λ b. b < 256) s → (ss : List Segment) → All (IsText (parsed_bytes c s)) ss → AreAllowed c (pieces_of c s ss)
allowed-own Bytes s are ss h = tt
allowed-own Text s are ss h = All-map (λ p. p.mode ≢ Kanji) (own_piece Text s) ss (λ k d within. no_kanji Text s are tt _ (h k d within))
allowed-own Elements s are ss h = All-map (λ p. p.mode ≢ Kanji) (own_piece Elements s) ss (λ k d within. no_kanji Elements s are tt _ (h k d within))

-- ---- The frame of a plan

-- The spellings of a plan of the parsed segments that fits.
pub record IsSpelledPlan (v : Version) (c : Content) (bytes : List ℕ) (plan : List Segment) : Type 0 where
  pub spellable : All (IsSpellable v) (pieces_of c bytes plan)
  pub nonempty : All (λ p. p.text ≢ []) (pieces_of c bytes plan)
  pub allowed : AreAllowed c (pieces_of c bytes plan)
  pub whole : flat_map (piece_data c) (pieces_of c bytes plan) ≡ bytes
  pub bits : length (spellings v (pieces_of c bytes plan)) ≡ total_bits v plan

pub spelled_plan : (front : ℕ) (v : Version) (l : EcLevel) (c : Content) (bytes : List ℕ) (plan : List Segment) → All (λ b. b < 256) bytes →
    AreDataOf c bytes → Fits front (parsed_bytes c bytes) v l plan → IsSpelledPlan v c bytes plan
spelled_plan front v l c bytes plan are suited fits =
    let whole = parsed_bytes c bytes in
    let texts = texts-plan whole (parsed-bytes c bytes are) plan fits.planned in
    let each = texts-each whole 0 (length whole) plan texts (omega arith) in
    let known : All (Own v c bytes) plan = λ k d within. own c bytes are v _ (each k d within) in
    let counted = fits-counts v l fits.limit plan fits.has_level (omega (arith, fits.within)) in
    record {
      spellable = All-map (IsSpellable v) (own_piece c bytes) plan (λ k d within. let w = known k d within in
          record { mode = fits.has_modes k d within; valid = w.valid; counted = rw w.size (counted k d within) });
      nonempty = All-map (λ p. p.text ≢ []) (own_piece c bytes) plan (λ k d within. own-some v c bytes _ (known k d within));
      allowed = allowed-own c bytes are plan each;
      whole = data-own c bytes are suited 0 (length whole) plan texts
          ∙ (ap (λ (n : ℕ). slice_range bytes 0 n) (length-parsed c bytes) ∙ whole_slice bytes);
      bits = bits-own v c bytes plan known;
    }

-- A plan of the parsed segments that fits, spelled after the front and ended at the capacity,
-- begins with a frame of the data. The payload is the bits of the front and of the plan.
pub plan_frame : (v : Version) (l : EcLevel) (f : Front) (bytes : List ℕ) (plan : List Segment) → All (λ b. b < 256) bytes → HasFront v f →
    AreDataOf f.content bytes → (fits : Fits (length (front_bits f)) (parsed_bytes f.content bytes) v l plan) →
    IsFrame v l f bytes (length (front_bits f) + total_bits v plan)
    (take fits.limit (ended v fits.limit (front_bits f ++ spellings v (pieces_of f.content bytes plan))))
plan_frame v l f bytes plan are has suited fits =
    let w = spelled_plan (length (front_bits f)) v l f.content bytes plan are suited fits in
    let pieces = pieces_of f.content bytes plan in
    let long : length (front_bits f ++ spellings v pieces) ≡ length (front_bits f) + total_bits v plan =
    length-append (front_bits f) (spellings v pieces) ∙ ap (λ (n : ℕ). length (front_bits f) + n) w.bits in
    subst (λ (n : ℕ). IsFrame v l f bytes n (take fits.limit (ended v fits.limit (front_bits f ++ spellings v pieces)))) long
    (subst (λ (z : List ℕ). IsFrame v l f z (length (front_bits f ++ spellings v pieces))
    (take fits.limit (ended v fits.limit (front_bits f ++ spellings v pieces))))
    w.whole (ended_frame v l fits.limit f pieces fits.has_level has w.allowed w.spellable w.nonempty (omega (arith, long, fits.within))))
