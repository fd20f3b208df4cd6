-- Each frame whose pieces keep the parsed units has a plan that fits.
use Rattle.qrcode_bits.proofs.Prelude.{ℕ, ◌+◌, ◌≤◌, Bool, List, [], ◌∷◌, ◌++◌, length, sym, subst, arith, inl, inr, cases_lt, All, All-head, All-tail, All-nil}
use Rattle.qrcode_bits.proofs.Prelude.{All-cons, Option, map, length-append, Version, EcLevel, Mode, HasMode, IsWithin, same, digits, bytes, Segment, Class}
use Rattle.qrcode_bits.proofs.Prelude.{class_mode, class_size, units, parsed, All-append, flat_map, Piece, IsSpellable, spellings, message, Header, Front}
use Rattle.qrcode_bits.proofs.Prelude.{front_of, front_bits, IsFrame, IsMergePlan, total_bits, Fits, FitsNot, FitsNone, IsChoice, capacity, normal, micro, Some}
use Rattle.qrcode_bits.proofs.Prelude.{◌≡◌, zero, suc, slice_get_past, normal_blocks, ◌≢◌, refl, ap, ◌∙◌, map-append, spelling, Kanji, Content, Bytes, Text}
use Rattle.qrcode_bits.proofs.Prelude.{Elements, piece_data, character_bits, data_bits, characters, parsed_bytes, All-map, All-weaker, percent, KeepUnits}
use Rattle.qrcode_bits.proofs.Prelude.{HasNoPair, HasSingleUnits}
use Rattle.qrcode_bits.proofs.Choices.{fits_last, all_blocks, has_within, All-front, All-back, pieces-had}
use Rattle.qrcode_bits.proofs.{Reading.length-spelling, Segments.length-character_bits, Contents.IsPlain, Contents.map-parsed, Contents.parsed_piece}
use Rattle.qrcode_bits.proofs.{Contents.parsed-size, Contents.parsed-low, Shortest.low-no_lead, Shortest.no_lead-no_pair, Shortest.units_of}
use Rattle.qrcode_bits.proofs.{Shortest.units-up_to, Shortest.shortest, Shortest.no_pair-kept, Cuts.UpTo, Carrying.Added, Carrying.one_before}
use Rattle.qrcode_bits.proofs.{Carrying.one_longer, Carrying.units-added, Carrying.segments_of, CuttingPlans.chosen-least}

within_up_to : (j m : Mode) → UpTo j m → IsWithin j m
within_up_to j m h = grind (arith, same, digits, bytes)

module _ (v : Version) where
  abbrev Had : Segment → Type 0
  Had s = HasMode v s.mode

  abbrev HasUnit : Class → Type 0
  HasUnit c = HasMode v (class_mode c)

  pieces-units : (pieces : List Piece) → All (IsSpellable v) pieces → All HasUnit (units_of pieces)
  pieces-units [] h = All-nil HasUnit
  pieces-units (p ∷ ps) h =
      let first = All-head (IsSpellable v) p ps h in
      All-append HasUnit (units p.text) (units_of ps) (All-weaker (λ c. UpTo (class_mode c) p.mode) HasUnit
      (λ c w. has_within v (within_up_to (class_mode c) p.mode w) first.mode) (units p.text) (units-up_to p.mode p.text first.valid))
      (pieces-units ps (All-tail (IsSpellable v) p ps h))

  added-had : (a : Mode) (z : ℕ) (ss qs : List Segment) → Added a z ss qs → HasMode v a → All Had ss → All Had qs
  added-had a z ss _ (one_before {q = q} w) has h = All-cons Had q ss (subst (HasMode v) (sym w.mode) has) h
  added-had a z _ _ (one_longer {r = r} {q = q} {rs = rs} w) has h = All-cons Had q rs (subst (HasMode v) (sym w.mode) has) (All-tail Had r rs h)

  segments-had : (b : ℕ) (cs : List Class) → All HasUnit cs → All Had (segments_of b cs)
  segments-had b [] h = All-nil Had
  segments-had b (c ∷ cs) h = added-had (class_mode c) (class_size c) (segments_of (b + class_size c) cs) (segments_of b (c ∷ cs)) (units-added b c cs)
      (All-head HasUnit c cs h) (segments-had (b + class_size c) cs (All-tail HasUnit c cs h))

  plan-had : (pieces : List Piece) (plan : List Segment) → All (IsSpellable v) pieces → KeepUnits pieces →
      IsMergePlan (parsed (message pieces)) plan → All Had plan
  plan-had pieces plan spellable kept p =
      let all : All Had (parsed (message pieces)) = subst (λ cs. All Had (segments_of 0 cs)) (sym kept)
      (segments-had 0 (units_of pieces) (pieces-units pieces spellable)) in
      let apart = subst (λ ss. All Had ss) (sym p.whole) all in
      subst (λ ss. All Had ss) (sym p.merges) (pieces-had v p.pieces p.nonempty apart)

-- some plan of the parsed bytes fits after a front, and takes at most this many bits with it
abbrev Fitting : Version → EcLevel → ℕ → List ℕ → ℕ → Type 0
Fitting v l front s payload =
    (plan : List Segment) × Fits front s v l plan × (front + total_bits v plan ≤ payload)

-- pieces of which a message consists have a plan
pieces-plan : (v : Version) (l : EcLevel) (front limit payload : ℕ) (pieces : List Piece) → capacity v l ≡ Some limit → All (IsSpellable v) pieces →
    KeepUnits pieces → front + length (spellings v pieces) ≤ payload → payload ≤ limit → Fitting v l front (message pieces) payload
pieces-plan v l front limit payload pieces known spellable kept long fits =
    let w = shortest v pieces spellable kept in (
      w.0,
      record {
        planned = w.1;
        limit = limit;
        has_level = known;
        has_modes = plan-had v pieces w.0 spellable kept w.1;
        within = omega (arith, w.2, long, fits);
      },
      omega (arith, w.2, long),
    )

frame-long : (v : Version) (l : EcLevel) (f : Front) (s : List ℕ) (payload : ℕ) (bits : List Bool) → (frame : IsFrame v l f s payload bits) →
    length (front_bits f) + length (spellings v frame.pieces) ≤ payload
frame-long v l f s payload bits frame = omega (arith, frame.payload_is, length-append (front_bits f) (spellings v frame.pieces))

-- A frame of bytes whose pieces keep the parsed units has a plan.
pub frame-plan : (v : Version) (l : EcLevel) (header : Option Header) (s : List ℕ) (payload : ℕ) (bits : List Bool) →
    (frame : IsFrame v l (front_of header Bytes) s payload bits) → KeepUnits frame.pieces →
    Fitting v l (length (front_bits (front_of header Bytes))) s payload
frame-plan v l header s payload bits frame kept =
    subst (λ z. Fitting v l (length (front_bits (front_of header Bytes))) z payload) (sym frame.bytes_are)
    (pieces-plan v l (length (front_bits (front_of header Bytes))) frame.limit payload frame.pieces frame.limit_is frame.spellable kept
    (frame-long v l (front_of header Bytes) s payload bits frame) frame.fits)

-- ---- Frames of a text or of elements: the pieces as they would be of the parsed bytes

-- what is known of the parsed piece
abbrev IsParsed : Version → Content → Piece → Type 0
IsParsed v c p = IsSpellable v (parsed_piece c p) × (length (spelling v (parsed_piece c p)) ≡ length (spelling v p))

piece-parsed : (v : Version) (c : Content) (p : Piece) → IsPlain c → IsSpellable v p → p.mode ≢ Kanji → HasSingleUnits c (piece_data c p) → IsParsed v c p
piece-parsed v c p plain h other apart =
    let w = parsed-size c p.mode p.text plain h.valid other apart in
    let t = parsed_bytes c (piece_data c p) in
    let same : length (character_bits p.mode t) ≡ length (character_bits p.mode p.text) =
    length-character_bits p.mode t w.0 ∙ (ap (λ (n : ℕ). data_bits p.mode (characters p.mode n)) w.1 ∙ sym (length-character_bits p.mode p.text h.valid)) in (
      record { mode = h.mode; valid = w.0; counted = rw w.1 h.counted },
      omega (arith, length-spelling v (parsed_piece c p), length-spelling v p, same),
    )

spellings-parsed : (v : Version) (c : Content) (ps : List Piece) → All (IsParsed v c) ps →
    length (spellings v (map (parsed_piece c) ps)) ≡ length (spellings v ps)
spellings-parsed v c [] h = refl
spellings-parsed v c (p ∷ ps) h = omega (
  arith,
  (All-head (IsParsed v c) p ps h).1,
  spellings-parsed v c ps (All-tail (IsParsed v c) p ps h),
  length-append (spelling v p) (spellings v ps),
  length-append (spelling v (parsed_piece c p)) (spellings v (map (parsed_piece c) ps)),
)

-- the parsed pieces are a message of the parsed data
parsed-message : (c : Content) (ps : List Piece) → message (map (parsed_piece c) ps) ≡ parsed_bytes c (flat_map (piece_data c) ps)
parsed-message c [] = map-parsed c []
parsed-message c (p ∷ ps) = rw (parsed-message c ps) (parsed-append c (piece_data c p) (flat_map (piece_data c) ps)) where
  parsed-append : (c : Content) (s t : List ℕ) → parsed_bytes c s ++ parsed_bytes c t ≡ parsed_bytes c (s ++ t)
  parsed-append c s t = grind (arith, map-append)

plain-plan : (v : Version) (l : EcLevel) (header : Option Header) (c : Content) (s : List ℕ) (payload : ℕ) (bits : List Bool) →
    (frame : IsFrame v l (front_of header c) s payload bits) → IsPlain c → All (λ p. p.mode ≢ Kanji) frame.pieces →
    All (λ p. HasSingleUnits c (piece_data c p)) frame.pieces →
    Fitting v l (length (front_bits (front_of header c))) (parsed_bytes c (flat_map (piece_data c) frame.pieces)) payload
plain-plan v l header c s payload bits frame plain others apart =
    let front = length (front_bits (front_of header c)) in
    let pieces = map (parsed_piece c) frame.pieces in
    let each : All (IsParsed v c) frame.pieces = λ k d w. piece-parsed v c _ plain (frame.spellable k d w) (others k d w) (apart k d w) in
    let e = parsed-message c frame.pieces in
    subst (λ z. Fitting v l front z payload) e
    (pieces-plan v l front frame.limit payload pieces frame.limit_is (All-map (IsSpellable v) (parsed_piece c) frame.pieces (λ k d w. (each k d w).0))
    (no_pair-kept pieces (subst HasNoPair (sym e) (no_lead-no_pair _ (λ k d w. low-no_lead _
    (parsed-low c plain (flat_map (piece_data c) frame.pieces) k d w)))))
    (omega (arith, frame-long v l (front_of header c) s payload bits frame, spellings-parsed v c frame.pieces each)) frame.fits)

all-pieces : (P : ℕ → Type 0) (f : Piece → List ℕ) (ps : List Piece) → All P (flat_map f ps) → All (λ p. All P (f p)) ps
all-pieces P f [] h = All-nil (λ p. All P (f p))
all-pieces P f (p ∷ ps) h =
    All-cons (λ p. All P (f p)) p ps (All-front P (f p) (flat_map f ps) h) (all-pieces P f ps (All-back P (f p) (flat_map f ps) h))

content-plan : (v : Version) (l : EcLevel) (header : Option Header) (c : Content) (s : List ℕ) (payload : ℕ) (bits : List Bool) →
    (frame : IsFrame v l (front_of header c) s payload bits) → HasSingleUnits c (flat_map (piece_data c) frame.pieces) →
    Fitting v l (length (front_bits (front_of header c))) (parsed_bytes c (flat_map (piece_data c) frame.pieces)) payload
content-plan v l header Bytes s payload bits frame apart =
    subst (λ z. Fitting v l (length (front_bits (front_of header Bytes))) z payload) frame.bytes_are
    (frame-plan v l header s payload bits frame (no_pair-kept frame.pieces apart))
content-plan v l header Text s payload bits frame apart = plain-plan v l header Text s payload bits frame tt frame.allowed (λ k d w. tt)
content-plan v l header Elements s payload bits frame apart =
    plain-plan v l header Elements s payload bits frame tt frame.allowed (all-pieces (λ b. b ≢ percent) (piece_data Elements) frame.pieces apart)

pub apart-plan : (v : Version) (l : EcLevel) (f : Front) (s : List ℕ) (payload : ℕ) (bits : List Bool) → HasSingleUnits f.content s →
    IsFrame v l f s payload bits → Fitting v l (length (front_bits f)) (parsed_bytes f.content s) payload
apart-plan v l f s payload bits apart frame =
    subst (λ z. Fitting v l (length (front_bits f)) (parsed_bytes f.content z) payload) (sym frame.bytes_are)
    (content-plan v l f.header f.content s payload bits frame (subst (HasSingleUnits f.content) frame.bytes_are apart))

module _ (kind : ℕ → Version) (l : EcLevel) (f : Front) (s : List ℕ) (limit number : ℕ) (plan : List Segment) (apart : HasSingleUnits f.content s)
    (choice : IsChoice kind (length (front_bits f)) (parsed_bytes f.content s) l limit number plan) where
  pub frame-smallest : (smaller payload : ℕ) (bits : List Bool) → IsFrame (kind smaller) l f s payload bits → number ≤ smaller
  frame-smallest smaller payload bits frame = elim (cases_lt smaller number) [
    | inl below ↦ (let w = apart-plan (kind smaller) l f s payload bits apart frame in absurd (choice.smallest smaller below w.0 w.1))
    | inr past ↦ past
  ]

  pub frame-shortest : (payload : ℕ) (bits : List Bool) → IsFrame (kind number) l f s payload bits →
      length (front_bits f) + total_bits (kind number) plan ≤ payload
  frame-shortest payload bits frame =
      let w = apart-plan (kind number) l f s payload bits apart frame in
      omega (arith, chosen-least (parsed (parsed_bytes f.content s)) (kind number) plan w.0 choice.chosen w.1.planned, w.2)

no_row : (l : EcLevel) (i c : ℕ) → 40 ≤ i → capacity (normal (suc i)) l ≡ Some c → ⊥
no_row l i c past h =
    let none = slice_get_past (normal_blocks l) i (omega (arith, all_blocks l)) in
    let e = rw none at h in cc

-- there are 40 versions
pub up_to_last : (l : EcLevel) (n c : ℕ) → capacity (normal n) l ≡ Some c → n ≤ 40
up_to_last l zero c h = omega arith
up_to_last l (suc i) c h = elim (cases_lt i 40) [
  | inl below ↦ omega arith
  | inr past ↦ absurd (no_row l i c past h)
]

-- A plan that fits after some bits fits after fewer.
pub fits_fewer : (front fewer : ℕ) (s : List ℕ) (v : Version) (l : EcLevel) (plan : List Segment) → fewer ≤ front → Fits front s v l plan →
    Fits fewer s v l plan
fits_fewer front fewer s v l plan few f = record {
  planned = f.planned;
  limit = f.limit;
  has_level = f.has_level;
  has_modes = f.has_modes;
  within = omega (arith, f.within, few);
}

-- Data of which no plan fits version 40 have no frame with as many bits before them, or more.
pub too_long-no_frame : (l : EcLevel) (f : Front) (fewer : ℕ) (s : List ℕ) (n payload : ℕ) (bits : List Bool) → HasSingleUnits f.content s →
    fewer ≤ length (front_bits f) → FitsNot fewer (parsed_bytes f.content s) (normal 40) l → IsFrame (normal n) l f s payload bits → ⊥
too_long-no_frame l f fewer s n payload bits apart few none frame =
    let w = apart-plan (normal n) l f s payload bits apart frame in
    let parsed_s = parsed_bytes f.content s in
    none w.0 (fits_last fewer n parsed_s l w.0 (up_to_last l n w.1.limit w.1.has_level)
    (fits_fewer (length (front_bits f)) fewer parsed_s (normal n) l w.0 few w.1))

up_to_m4 : (l : EcLevel) (n c : ℕ) → capacity (micro n) l ≡ Some c → n ≤ 4
up_to_m4 l n c h = grind arith

-- Data of which no plan fits a Micro version have no frame of one.
pub too_long-no_micro_frame : (l : EcLevel) (f : Front) (s : List ℕ) (n payload : ℕ) (bits : List Bool) → HasSingleUnits f.content s →
    FitsNone micro 0 (parsed_bytes f.content s) l 4 → IsFrame (micro n) l f s payload bits → ⊥
too_long-no_micro_frame l f s n payload bits apart none frame =
    let w = apart-plan (micro n) l f s payload bits apart frame in
    none n (up_to_m4 l n w.1.limit w.1.has_level) w.0 (fits_fewer (length (front_bits f)) 0 (parsed_bytes f.content s) (micro n) l w.0 (omega arith) w.1)
