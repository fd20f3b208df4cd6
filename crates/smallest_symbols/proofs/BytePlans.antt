-- Pieces without the Kanji mode have a plan of the bytes as which a text is parsed, which takes no
-- more bits; and each plan of these is of such pieces.
use Rattle.std.proofs.Common.{◌≡◌, ◌≢◌, ℕ, ◌<◌, ◌≤◌, List, [], ◌∷◌, ◌++◌, get_or, length, map, refl}
use Rattle.std.proofs.Common.{sym, ap, subst, ◌∙◌, arith, length-append}
use Rattle.std.specs.Prelude.{All, Some}
use Rattle.std.proofs.lemmas.List.{get_or-map, length-map, map-append}
use Rattle.std.proofs.lemmas.List.Elements.{All-head, All-map, All-tail}
use Rattle.qrcode_base.specs.Modes.{HasMode, characters, data_bits}
use Rattle.qrcode_base.specs.Symbols.{capacity}
use Rattle.qrcode_base.specs.declared.types.EcLevel.{EcLevel}
use Rattle.qrcode_base.specs.declared.types.Mode.{Mode}
use Rattle.qrcode_base.specs.declared.types.Mode.TheVariants.{Kanji}
use Rattle.qrcode_base.specs.declared.types.Version.{Version}
use Rattle.qrcode_bits.specs.Contents.{parsed_bytes}
use Rattle.qrcode_bits.specs.Frame.{HasNoPair, message, spellings}
use Rattle.qrcode_bits.specs.Parsing.{parsed}
use Rattle.qrcode_bits.specs.Plans.{Fits, IsMergePlan, normal, total_bits}
use Rattle.qrcode_bits.specs.Spelling.{IsSpellable, Piece, character_bits, segment_piece}
use Rattle.qrcode_bits.specs.Spelling.{segment_pieces, spelling}
use Rattle.qrcode_bits.specs.declared.bits.front.Content.TheVariants.{Text}
use Rattle.qrcode_bits.specs.declared.optimize.Segment.{Segment}
use Rattle.qrcode_bits.proofs.Contents.{parsed-low, parsed-size, parsed_piece}
use Rattle.qrcode_bits.proofs.PlanFrames.{spelled_plan}
use Rattle.qrcode_bits.proofs.Reading.{length-spelling}
use Rattle.qrcode_bits.proofs.Segments.{length-character_bits}
use Rattle.qrcode_bits.proofs.Shortest.{low-no_lead, no_lead-no_pair, no_pair-kept, shortest}
use Rattle.smallest_symbols.specs.BytePieces.{ArePiecesOf, PiecesFit, bits_of_pieces}

-- ---- From pieces to a plan: the pieces as they would be of the parsed bytes

module _ (v : Version) where
  abbrev IsParsed : Piece → Type 0
  IsParsed p = IsSpellable v (parsed_piece Text p) × (length (spelling v (parsed_piece Text p)) ≡ length (spelling v p))

  piece_parsed : (p : Piece) → IsSpellable v p → p.mode ≢ Kanji → IsParsed p
  piece_parsed p h other =
      let w = parsed-size Text p.mode p.text tt h.valid other tt in
      let t = parsed_bytes Text p.text in
      let same : length (character_bits p.mode t) ≡ length (character_bits p.mode p.text) =
      length-character_bits p.mode t w.0 ∙ (ap (λ (n : ℕ). data_bits p.mode (characters p.mode n)) w.1 ∙ sym (length-character_bits p.mode p.text h.valid)) in (
        record { mode = h.mode; valid = w.0; counted = rw w.1 h.counted },
        omega (arith, length-spelling v (parsed_piece Text p), length-spelling v p, same),
      )

  spellings_parsed : (ps : List Piece) → All IsParsed ps → length (spellings v (map (parsed_piece Text) ps)) ≡ length (spellings v ps)
  spellings_parsed [] h = refl
  spellings_parsed (p ∷ ps) h = omega (
    arith,
    (All-head IsParsed p ps h).1,
    spellings_parsed ps (All-tail IsParsed p ps h),
    length-append (spelling v p) (spellings v ps),
    length-append (spelling v (parsed_piece Text p)) (spellings v (map (parsed_piece Text) ps)),
  )

parsed_append : (s t : List ℕ) → parsed_bytes Text s ++ parsed_bytes Text t ≡ parsed_bytes Text (s ++ t)
parsed_append s t = grind (arith, map-append)

-- the parsed pieces are a message of the parsed bytes
parsed_message : (ps : List Piece) → message (map (parsed_piece Text) ps) ≡ parsed_bytes Text (message ps)
parsed_message [] = refl
parsed_message (p ∷ ps) = rw (parsed_message ps) (parsed_append p.text (message ps))

-- Some plan of the parsed bytes takes no more bits than the pieces.
pub pieces_plan : (v : Version) (bytes : List ℕ) (pieces : List Piece) → ArePiecesOf v bytes pieces →
    (plan : List Segment) × IsMergePlan (parsed (parsed_bytes Text bytes)) plan × (total_bits v plan ≤ bits_of_pieces v pieces)
pieces_plan v bytes pieces are =
    let others = map (parsed_piece Text) pieces in
    let each : All (IsParsed v) pieces = λ k d w. piece_parsed v _ (are.spellable k d w) (are.no_kanji k d w) in
    let e : message others ≡ parsed_bytes Text bytes = parsed_message pieces ∙ ap (λ (z : List ℕ). parsed_bytes Text z) are.message_is in
    let apart : HasNoPair (parsed_bytes Text bytes) = no_lead-no_pair _ (λ k d w. low-no_lead _ (parsed-low Text tt bytes k d w)) in
    let w = shortest v others (All-map (IsSpellable v) (parsed_piece Text) pieces (λ k d w. (each k d w).0))
    (no_pair-kept others (subst HasNoPair (sym e) apart)) in
    (w.0, subst (λ (z : List ℕ). IsMergePlan (parsed z) w.0) e w.1, omega (arith, w.2, spellings_parsed v pieces each))

-- ---- From a plan to pieces

-- Normal versions have each mode.
pub has_modes : (n : ℕ) (plan : List Segment) → All (λ segment. HasMode (normal n) segment.mode) plan
has_modes n plan = λ k d within. has_mode n _
  where
    has_mode : (n : ℕ) (m : Mode) → HasMode (normal n) m
    has_mode n m = grind arith

-- Pieces that fit a version have a plan that fits it.
pub fits_plan : (n : ℕ) (l : EcLevel) (bytes : List ℕ) (pieces : List Piece) → PiecesFit (normal n) l bytes pieces →
    (plan : List Segment) × Fits 0 (parsed_bytes Text bytes) (normal n) l plan
fits_plan n l bytes pieces w =
    let plan = pieces_plan (normal n) bytes pieces w.pieces_are in (
      plan.0,
      record { planned = plan.1; limit = w.limit; has_level = w.has_level; has_modes = has_modes n plan.0; within = omega (arith, plan.2, w.within) },
    )

module _ (n : ℕ) (l : EcLevel) (limit : ℕ) (bytes : List ℕ) (plan : List Segment) (are : All (λ b. b < 256) bytes)
    (planned : IsMergePlan (parsed (parsed_bytes Text bytes)) plan) (known : capacity (normal n) l ≡ Some limit)
    (within : total_bits (normal n) plan ≤ limit) where
  fits : Fits 0 (parsed_bytes Text bytes) (normal n) l plan
  fits = record { planned = planned; limit = limit; has_level = known; has_modes = has_modes n plan; within = omega (arith, within) }

  -- The segments of a plan that fits are pieces of the bytes without the Kanji mode,
  pub plan_pieces : ArePiecesOf (normal n) bytes (segment_pieces bytes plan)
  plan_pieces =
      let w = spelled_plan 0 (normal n) l Text bytes plan are tt fits in
      record { message_is = w.whole; spellable = w.spellable; nonempty = w.nonempty; no_kanji = w.allowed }

  -- and take the bits of the plan.
  pub plan_size : bits_of_pieces (normal n) (segment_pieces bytes plan) ≡ total_bits (normal n) plan
  plan_size = (spelled_plan 0 (normal n) l Text bytes plan are tt fits).bits

-- ---- The pieces of segments, one after the other

-- The piece of the segment at a place.
pub spellable_at : (v : Version) (bytes : List ℕ) (plan : List Segment) (i : ℕ) (d : Segment) → i < length plan →
    All (IsSpellable v) (segment_pieces bytes plan) → IsSpellable v (segment_piece bytes (get_or plan i d))
spellable_at v bytes plan i d inside each =
    subst (IsSpellable v) (get_or-map (segment_piece bytes) plan i d (segment_piece bytes d) inside)
    (each i (segment_piece bytes d) (omega (arith, inside, length-map plan (segment_piece bytes))))
