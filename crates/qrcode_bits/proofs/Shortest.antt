-- No segmentation that keeps the parsed units is shorter than the chosen plan.
use Rattle.qrcode_bits.proofs.Prelude.{◌≡◌, ℕ, ◌+◌, ◌<◌, ◌≤◌, Bool, true, false, List, [], ◌∷◌, ◌++◌, length, refl, sym, ap, ◌∙◌, subst, arith, inl, All}
use Rattle.qrcode_bits.proofs.Prelude.{All-head, All-tail, flat_map, Contains, alphabet, length-append, Version, Mode, Segment, Numeric, Alphanumeric, Byte}
use Rattle.qrcode_bits.proofs.Prelude.{Kanji, is_kanji_pair, IsDigit, IsKanjiText, IsValid, data_bits, characters, Class, Pair, class_of, class_mode, units}
use Rattle.qrcode_bits.proofs.Prelude.{parsed, Piece, IsSpellable, spelling, spellings, message, IsMergePlan, total_bits, get_or, nat_lt, ltb-true, map}
use Rattle.qrcode_bits.proofs.Prelude.{All-nil, All-cons, All-map, All-weaker, total_size, is_lead, KeepUnits, HasNoPair}
use Rattle.qrcode_base.proofs.Alphabet.{each_below, from_each_below, is_alphanumeric-from_inside}
use Rattle.qrcode_bits.proofs.{Characters.value_below, Characters.character_at_value, Cuts.UpTo, Cuts.bits_of, Cuts.piece_bits, Cuts.Parted, Cuts.none}
use Rattle.qrcode_bits.proofs.{Carrying.segments_of, Carrying.AreUpTo, Carrying.one_piece, Cuts.parted-merges, Adjoining.parsed-adjoin}
use Rattle.qrcode_bits.proofs.{Adjoining.units-size, Reading.length-spelling, Segments.length-character_bits}

-- ---- The units of a text are of classes that its mode can encode

pub units-alone : (a : ℕ) (w : List ℕ) → is_lead a ≡ false → units (a ∷ w) ≡ class_of a ∷ units w
units-alone a [] h = refl
units-alone a (b ∷ w) h = grind arith

-- bytes with which no pair begins are units one by one
pub units-single : (u : List ℕ) → All (λ a. is_lead a ≡ false) u → units u ≡ map class_of u
units-single [] h = refl
units-single (a ∷ u) h =
    units-alone a u (All-head (λ a. is_lead a ≡ false) a u h) ∙ ap (λ cs. class_of a ∷ cs) (units-single u (All-tail (λ a. is_lead a ≡ false) a u h))

abbrev IsUpTo : Mode → ℕ → Type 0
IsUpTo m a = (is_lead a ≡ false) × UpTo (class_mode (class_of a)) m

each-up_to : (m : Mode) (P : ℕ → Type 0) → ((a : ℕ) → P a → IsUpTo m a) → (u : List ℕ) → All P u → AreUpTo m (units u)
each-up_to m P each u h = subst (AreUpTo m) (sym (units-single u (All-weaker P (λ a. is_lead a ≡ false) (λ a p. (each a p).0) u h)))
    (All-map (λ c. UpTo (class_mode c) m) class_of u (All-weaker P (λ a. UpTo (class_mode (class_of a)) m) (λ a p. (each a p).1) u h))

digit-up_to : (a : ℕ) → IsDigit a → IsUpTo Numeric a
digit-up_to a d = grind arith

abbrev is_low_at : ℕ → Bool
is_low_at k = nat_lt (get_or alphabet k 0) 128

alphabet_low : each_below 45 is_low_at ≡ true
unfolding each_below
alphabet_low = refl

pub low-no_lead : (a : ℕ) → a < 128 → is_lead a ≡ false
low-no_lead a h = grind arith

pub sign-low : (a : ℕ) → Contains alphabet a → a < 128
sign-low a h = subst (λ z. z < 128) (character_at_value a h) (ltb-true _ _ (from_each_below 45 is_low_at alphabet_low _ (value_below a h)))

sign-up_to : (a : ℕ) → Contains alphabet a → IsUpTo Alphanumeric a
sign-up_to a h = let low = low-no_lead a (sign-low a h) in let sign = is_alphanumeric-from_inside a h in (low, grind arith)

byte-up_to : (c : Class) → UpTo (class_mode c) Byte
byte-up_to c = grind arith

pub units-pair : (a b : ℕ) (u : List ℕ) → is_kanji_pair a b ≡ true → units (a ∷ b ∷ u) ≡ Pair ∷ units u
units-pair a b u h = grind arith

pairs-up_to : (u : List ℕ) → IsKanjiText u → AreUpTo Kanji (units u)
pairs-up_to [] h = All-nil (λ c. UpTo (class_mode c) Kanji)
pairs-up_to (a ∷ []) h = absurd h
pairs-up_to (a ∷ b ∷ u) h = subst (AreUpTo Kanji) (sym (units-pair a b u h.0))
    (All-cons (λ c. UpTo (class_mode c) Kanji) Pair (units u) (inl refl) (pairs-up_to u h.1))

pub units-up_to : (m : Mode) (u : List ℕ) → IsValid m u → AreUpTo m (units u)
units-up_to Numeric u h = each-up_to Numeric IsDigit digit-up_to u h
units-up_to Alphanumeric u h = each-up_to Alphanumeric (λ c. Contains alphabet c) sign-up_to u h
units-up_to Byte u h = λ k d within. byte-up_to (get_or (units u) k d)
units-up_to Kanji u h = pairs-up_to u h

-- ---- Pieces

kanji-bits : (u : List ℕ) → IsKanjiText u → bits_of Kanji (length u) ≡ data_bits Kanji (characters Kanji (length u))
kanji-bits [] h = refl
kanji-bits (a ∷ []) h = absurd h
kanji-bits (a ∷ b ∷ u) h = omega (arith, kanji-bits u h.1)

valid-bits : (m : Mode) (u : List ℕ) → IsValid m u → bits_of m (length u) ≡ data_bits m (characters m (length u))
valid-bits m u h = grind (arith, kanji-bits)

piece_bits-length : (v : Version) (p : Piece) → IsValid p.mode p.text → piece_bits v p.mode (length p.text) ≡ length (spelling v p)
piece_bits-length v p h = omega (arith, length-spelling v p, length-character_bits p.mode p.text h, valid-bits p.mode p.text h)

abbrev pub units_of : List Piece → List Class
units_of pieces = flat_map (λ (piece : Piece). units piece.text) pieces

-- ---- Bundles

-- Units, and a mode in which they are one piece.
pub record Bundle : Type 0 where
  pub mode : Mode
  pub classes : List Class

-- each mode can encode its units
abbrev pub AreCoded : List Bundle → Type 0
AreCoded [] = Unit {0}
AreCoded (p ∷ ps) = AreUpTo p.mode p.classes × AreCoded ps

abbrev pub all_classes : List Bundle → List Class
all_classes bundles = flat_map (λ (p : Bundle). p.classes) bundles

abbrev pub bundle_bits : Version → List Bundle → ℕ
bundle_bits v [] = 0
bundle_bits v (p ∷ ps) = piece_bits v p.mode (total_size p.classes) + bundle_bits v ps

-- Some plan of the units takes no more bits than the bundles,
no_longer : (v : Version) (bundles : List Bundle) (b : ℕ) → AreCoded bundles →
    (bits : ℕ) × Parted v (segments_of b (all_classes bundles)) bits × (bits ≤ bundle_bits v bundles)
no_longer v [] b h = (0, none refl, omega arith)
no_longer v (p ∷ ps) b h =
    let rest = no_longer v ps (b + total_size p.classes) h.1 in
    let here = one_piece v p.mode rest.0 p.classes (all_classes ps) b h.0 rest.1 in (here.0, here.1, omega (arith, here.2, rest.2))

-- and so does some merge plan of bytes that have the units.
pub bundles-plan : (v : Version) (s : List ℕ) (bundles : List Bundle) → AreCoded bundles → all_classes bundles ≡ units s →
    (plan : List Segment) × IsMergePlan (parsed s) plan × (total_bits v plan ≤ bundle_bits v bundles)
bundles-plan v s bundles h same =
    let few = no_longer v bundles 0 h in
    let cut = subst (λ cs. Parted v (segments_of 0 cs) few.0) same few.1 in
    let plan = parted-merges v (parsed s) few.0 0 (length s) cut (parsed-adjoin s) in (plan.0, plan.1, omega (arith, plan.2, few.2))

abbrev bundles_of : List Piece → List Bundle
bundles_of pieces = map (λ (p : Piece). record { mode = p.mode; classes = units p.text }) pieces

pieces-bundled : (v : Version) (pieces : List Piece) → All (IsSpellable v) pieces → AreCoded (bundles_of pieces) ×
    (all_classes (bundles_of pieces) ≡ units_of pieces) × (bundle_bits v (bundles_of pieces) ≡ length (spellings v pieces))
pieces-bundled v [] h = (tt, refl, refl)
pieces-bundled v (p ∷ ps) h =
    let first = All-head (IsSpellable v) p ps h in
    let rest = pieces-bundled v ps (All-tail (IsSpellable v) p ps h) in
    let size = ap (piece_bits v p.mode) (units-size p.text) in (
      (units-up_to p.mode p.text first.valid, rest.0),
      ap (λ cs. units p.text ++ cs) rest.1,
      omega (arith, size, rest.2, piece_bits-length v p first.valid, length-append (spelling v p) (spellings v ps)),
    )

-- Some merge plan takes no more bits than the pieces.
pub shortest : (v : Version) (pieces : List Piece) → All (IsSpellable v) pieces → KeepUnits pieces →
    (plan : List Segment) × IsMergePlan (parsed (message pieces)) plan × (total_bits v plan ≤ length (spellings v pieces))
shortest v pieces spellable kept =
    let w = pieces-bundled v pieces spellable in
    let plan = bundles-plan v (message pieces) (bundles_of pieces) w.0 (w.1 ∙ sym kept) in (plan.0, plan.1, omega (arith, plan.2, w.2))

-- ---- If no two neighbouring bytes are a pair

pub units-apart : (a b : ℕ) (w : List ℕ) → is_kanji_pair a b ≡ false → units (a ∷ b ∷ w) ≡ class_of a ∷ units (b ∷ w)
units-apart a b w h = grind arith

units-append : (u w : List ℕ) → HasNoPair (u ++ w) → units (u ++ w) ≡ units u ++ units w
units-append [] w h = refl
units-append (a ∷ []) [] h = refl
units-append (a ∷ []) (b ∷ w) h = units-apart a b w h.0
units-append (a ∷ b ∷ u) w h =
    units-apart a b (u ++ w) h.0 ∙ (ap (λ cs. class_of a ∷ cs) (units-append (b ∷ u) w h.1) ∙ ap (λ cs. cs ++ units w) (sym (units-apart a b u h.0)))

no_pair-back : (u w : List ℕ) → HasNoPair (u ++ w) → HasNoPair w
no_pair-back [] w h = h
no_pair-back (a ∷ []) [] h = tt
no_pair-back (a ∷ []) (b ∷ w) h = h.1
no_pair-back (a ∷ b ∷ u) w h = no_pair-back (b ∷ u) w h.1

pub no_pair-kept : (pieces : List Piece) → HasNoPair (message pieces) → KeepUnits pieces
no_pair-kept [] h = refl
no_pair-kept (p ∷ ps) h =
    units-append p.text (message ps) h ∙ ap (λ cs. units p.text ++ cs) (no_pair-kept ps (no_pair-back p.text (message ps) h))

no_pair : (a b : ℕ) → is_lead a ≡ false → is_kanji_pair a b ≡ false
no_pair a b h = grind arith

pub no_lead-no_pair : (bytes : List ℕ) → All (λ c. is_lead c ≡ false) bytes → HasNoPair bytes
no_lead-no_pair [] h = tt
no_lead-no_pair (a ∷ []) h = tt
no_lead-no_pair (a ∷ b ∷ rest) h =
    (no_pair a b (All-head (λ c. is_lead c ≡ false) a (b ∷ rest) h), no_lead-no_pair (b ∷ rest) (All-tail (λ c. is_lead c ≡ false) a (b ∷ rest) h))
