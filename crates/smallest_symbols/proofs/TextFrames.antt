-- Text frames, after a header or without one: how long they are, which parts fit a version, and that
-- bits are one in at most one way.
use Rattle.std.proofs.Common.{◌≡◌, ◌≢◌, ℕ, ℤ, ◌+◌, ◌-◌, ◌*◌, ◌<◌, ◌≤◌, Bool, List, [], ◌∷◌, ◌++◌}
use Rattle.std.proofs.Common.{get_or, length, map, min, take}
use Rattle.std.proofs.Common.{refl, sym, ap, subst, ◌∙◌, arith, append_assoc, length-append}
use Rattle.std.specs.Prelude.{All, None, Option, Some}
use Rattle.std.proofs.lemmas.Grind.{flat_map-append}
use Rattle.std.proofs.lemmas.List.{get_or-map, length-map, map-append, take_more}
use Rattle.std.proofs.lemmas.List.Elements.{All-cons, All-head, All-nil, All-tail}
use Rattle.std.proofs.lemmas.Option.{same_Some}
use Rattle.qrcode_base.proofs.Fields.{count-fits}
use Rattle.qrcode_base.specs.Modes.{HasMode, characters, count_width, data_bits, indicator}
use Rattle.qrcode_base.specs.Modes.{indicator_width}
use Rattle.qrcode_base.specs.Numbers.{number_bits}
use Rattle.qrcode_base.specs.Symbols.{capacity}
use Rattle.qrcode_base.specs.declared.types.EcLevel.{EcLevel}
use Rattle.qrcode_base.specs.declared.types.Mode.{Mode}
use Rattle.qrcode_base.specs.declared.types.Version.{Version}
use Rattle.qrcode_base.specs.declared.types.Version.TheVariants.{Normal, Micro}
use Rattle.qrcode_bits.specs.Frame.{HasHeader, Header, header_bits, padding, tail}
use Rattle.qrcode_bits.specs.Spelling.{IsSpellable, Piece, piece_of, spelling}
use Rattle.qrcode_bits.proofs.Numbers.{length-number_bits, number_front, zero_front}
use Rattle.qrcode_bits.proofs.Reading.{IsNumbered, length-header, length-spelling, not_ended}
use Rattle.qrcode_bits.proofs.Reading.{numbered, spelling_front}
use Rattle.qrcode_bits.proofs.Segments.{length-character_bits}
use Rattle.qrcode_bits.proofs.Streams.{length-tail}
use Rattle.character_sets.specs.Reading.{Part, designator, segment, IsReadAs, has_kanji}
use Rattle.character_sets.specs.Reading.{has_no_designator}
use Rattle.text_plans.specs.Costs.{AreTextParts, HasPart, bits_of_part, bits_of_parts}
use Rattle.text_plans.specs.Manners.{ArePartsIn}
use Rattle.text_plans.specs.declared.rules.Manner.{Manner}
use Rattle.text_plans.proofs.Starts.{text_in}
use Rattle.smallest_symbols.specs.TextFrames.{IsCounted, IsPartSpelled, IsTextFrame, NoPartsFit}
use Rattle.smallest_symbols.specs.TextFrames.{PartsFit, headed_bits, part_spelling, part_spellings}
use Rattle.smallest_symbols.specs.TextParts.{NoPartsFitAfterHeader, PartsFitAfterHeader}
use Rattle.smallest_symbols.proofs.Valid.{IsSound, parts_characters, parts_sound}

-- ---- Parts that a version can have

-- A segment that a version can have.
pub has_segment : (v : Version) (m : Mode) (bytes : List ℕ) → HasPart v (segment m bytes) → HasMode v m × (bytes ≢ [])
has_segment (Normal k) m bytes h = h
has_segment (Micro k) m bytes h = h

abbrev pub AreSpelled : Version → List Part → Type 0
AreSpelled v parts = All (λ part. IsPartSpelled part v) parts

spelled : (v : Version) (part : Part) → HasPart v part → IsSound part → IsCounted v part → IsPartSpelled part v
spelled (Normal k) (designator number) has sound counted = sound
spelled (Micro k) (designator number) has sound counted = has
spelled v (segment mode bytes) has sound counted =
    let w = has_segment v mode bytes has in (record { mode = w.0; valid = sound; counted = counted }, w.1)

pub all_spelled : (v : Version) (parts : List Part) → All (HasPart v) parts → All IsSound parts → All (IsCounted v) parts → AreSpelled v parts
all_spelled v parts has sound counted = λ k d within. spelled v _ (has k d within) (sound k d within) (counted k d within)

-- The parts of a text are sound.
pub text_sound : (v : Version) (text : List ℕ) (parts : List Part) → AreTextParts v text parts → All IsSound parts
text_sound v text parts written = (parts_sound (has_no_designator parts) (has_kanji parts) None parts text written.read).0

-- ---- Lengths

length-part : (v : Version) (part : Part) → IsSound part → length (part_spelling v part) ≡ bits_of_part v part
length-part v (designator number) sound =
    omega (arith, length-append (number_bits 4 7) (number_bits 8 number), length-number_bits 4 7, length-number_bits 8 number)
length-part v (segment mode bytes) sound =
    omega (arith, length-spelling v (piece_of mode bytes), length-character_bits mode bytes sound)

pub length-parts : (v : Version) (parts : List Part) → All IsSound parts → length (part_spellings v parts) ≡ bits_of_parts v parts
length-parts v [] sound = refl
length-parts v (part ∷ parts) sound =
    omega (
      arith,
      length-append (part_spelling v part) (part_spellings v parts),
      length-part v part (All-head IsSound part parts sound),
      length-parts v parts (All-tail IsSound part parts sound),
    )

-- With the bits of a header, of which there are none or 20.
pub length-headed : (v : Version) (header : Option Header) (text : List ℕ) (parts : List Part) → AreTextParts v text parts →
    length (headed_bits v header parts) ≡ length (header_bits header) + bits_of_parts v parts
length-headed v header text parts written =
    omega (arith, length-append (header_bits header) (part_spellings v parts), length-parts v parts (text_sound v text parts written))

-- What fits a symbol has counts that fit their fields.
counted_part : (v : Version) (l : EcLevel) (limit : ℕ) (part : Part) → capacity v l ≡ Some limit → bits_of_part v part ≤ limit → IsCounted v part
counted_part v l limit (designator number) known fits = tt
counted_part v l limit (segment mode bytes) known fits = count-fits v l mode limit (length bytes) known fits

pub counted : (v : Version) (l : EcLevel) (limit : ℕ) (parts : List Part) → capacity v l ≡ Some limit → bits_of_parts v parts ≤ limit →
    All (IsCounted v) parts
counted v l limit [] known fits = All-nil (IsCounted v)
counted v l limit (part ∷ parts) known fits =
    All-cons (IsCounted v) part parts (counted_part v l limit part known (omega (arith, fits))) (counted v l limit parts known (omega (arith, fits)))

-- No mode takes fewer than ten bits for three characters.
part_dense : (v : Version) (m : Mode) (n : ℕ) → 10 * n ≤ 3 * data_bits m n
part_dense v m n = grind arith

pub parts_dense : (v : Version) (parts : List Part) → 10 * parts_characters parts ≤ 3 * bits_of_parts v parts
parts_dense v [] = omega arith
parts_dense v (designator number ∷ parts) = omega (arith, parts_dense v parts)
parts_dense v (segment mode bytes ∷ parts) = omega (arith, parts_dense v parts, part_dense v mode (characters mode (length bytes)))

-- With the header of a segment.
pub parts_headed : (v : Version) (header : ℕ) → ((m : Mode) → header ≤ indicator_width v + count_width v m) → (parts : List Part) → 0 < parts_characters parts →
    10 * parts_characters parts + 3 * header ≤ 3 * bits_of_parts v parts
parts_headed v header wide [] some = absurd (omega arith)
parts_headed v header wide (designator number ∷ parts) some = let k : 0 < parts_characters parts = omega (arith, some) in let rest = parts_headed v header wide parts k in omega (arith, rest)
parts_headed v header wide (segment mode bytes ∷ parts) some =
    omega (arith, parts_dense v parts, part_dense v mode (characters mode (length bytes)), wide mode)

-- ---- Frames and parts that fit

-- The parts of a frame fit its version, and its payload is theirs after the header.
pub frame_fits : {v : Version} {l : EcLevel} {header : Option Header} {text : List ℕ} {payload : ℕ} {bits : List Bool} →
    (f : IsTextFrame v l header text payload bits) →
    PartsFit v l text f.parts × (payload ≡ length (header_bits header) + bits_of_parts v f.parts)
frame_fits {v = v} {header = header} {text = text} f =
    let long = f.payload_is ∙ length-headed v header text f.parts f.written in
    (record { written = f.written; limit = f.limit; has_level = f.limit_is; within = omega (arith, long, f.fits) }, long)

-- Those of a manner fit it after a header.
pub piece_fits : {v : Version} {l : EcLevel} {header : Header} {text : List ℕ} {payload : ℕ} {bits : List Bool} →
    (f : IsTextFrame v l (Some header) text payload bits) → (manner : Manner) → ArePartsIn manner v text f.parts →
    PartsFitAfterHeader manner v l text f.parts
piece_fits {header = header} f manner known = record {
  written = known;
  limit = f.limit;
  has_level = f.limit_is;
  within = omega (arith, (frame_fits f).1, length-header header, f.fits);
}

-- A version holds the bits of a header, if there is one, and of parts.
abbrev pub HasRoom : Version → EcLevel → Option Header → List Part → Type 0
HasRoom v l header parts = (limit : ℕ) × (capacity v l ≡ Some limit) × (length (headed_bits v header parts) ≤ limit)

pub text_room : (v : Version) (l : EcLevel) (text : List ℕ) (parts : List Part) → PartsFit v l text parts → HasRoom v l None parts
text_room v l text parts fits = (fits.limit, fits.has_level, omega (arith, length-headed v None text parts fits.written, fits.within))

pub piece_room : (manner : Manner) (v : Version) (l : EcLevel) (header : Header) (text : List ℕ) (parts : List Part) →
    PartsFitAfterHeader manner v l text parts → HasRoom v l (Some header) parts
piece_room manner v l header text parts fits =
    let long = length-headed v (Some header) text parts (text_in manner v text parts fits.written) in
    (fits.limit, fits.has_level, omega (arith, long, length-header header, fits.within))

-- Parts that a version holds after a header or without one are those of a frame.
abbrev pub frame_of : (v : Version) (l : EcLevel) (header : Option Header) (text : List ℕ) (parts : List Part) → HasHeader v header →
    AreTextParts v text parts → (room : HasRoom v l header parts) →
    IsTextFrame v l header text (length (headed_bits v header parts))
    (headed_bits v header parts ++ tail v room.0 (length (headed_bits v header parts)))
frame_of v l header text parts has written room = record {
  limit = room.0;
  parts = parts;
  limit_is = room.1;
  has_header = has;
  written = written;
  counted = counted v l room.0 parts room.1 (omega (arith, length-headed v header text parts written, room.2));
  payload_is = refl;
  fits = room.2;
  bits_are = refl;
}

-- Where no parts fit there is no frame,
pub no_frame : {v : Version} {l : EcLevel} {header : Option Header} {text : List ℕ} {payload : ℕ} {bits : List Bool} → NoPartsFit v l text →
    IsTextFrame v l header text payload bits → ⊥
no_frame none f = none f.parts (frame_fits f).0

-- and where none of a manner fit after a header, there is none of the manner.
pub no_piece_frame : {v : Version} {l : EcLevel} {header : Header} {text : List ℕ} {payload : ℕ} {bits : List Bool} → (manner : Manner) →
    NoPartsFitAfterHeader manner v l text → (f : IsTextFrame v l (Some header) text payload bits) → ArePartsIn manner v text f.parts → ⊥
no_piece_frame manner none f known = none f.parts (piece_fits f manner known)

-- ---- Bits are spelled in one way

seven : (k : ℤ) (m : Mode) → ◌≡◌ {A = ℕ} 7 (indicator (Normal k) m) → ⊥
seven k m e = grind arith

designator_apart : (n : ℕ) (x : List Bool) → (number_bits 4 7 ++ number_bits 8 n) ++ x ≡ number_bits 4 7 ++ (number_bits 8 n ++ x)
designator_apart n x = append_assoc (number_bits 4 7) (number_bits 8 n) x

-- a spelling begins with its indicator
indicator_first : (k : ℤ) (m : Mode) (bytes : List ℕ) (x : List Bool) →
    (rest : List Bool) × (spelling (Normal k) (piece_of m bytes) ++ x ≡ number_bits 4 (indicator (Normal k) m) ++ rest)
indicator_first k m bytes x = (_, append_assoc (number_bits 4 (indicator (Normal k) m)) _ x)

no_segment : (k : ℤ) (n : ℕ) (m : Mode) (bytes : List ℕ) (x y : List Bool) → IsSpellable (Normal k) (piece_of m bytes) →
    (number_bits 4 7 ++ number_bits 8 n) ++ x ≡ spelling (Normal k) (piece_of m bytes) ++ y → ⊥
no_segment k n m bytes x y h e =
    let w = indicator_first k m bytes y in
    seven k m (number_front 4 7 (indicator (Normal k) m) _ _ (omega arith) h.mode (sym (designator_apart n x) ∙ (e ∙ w.1))).0

part_front : (v : Version) (p q : Part) (x y : List Bool) → IsPartSpelled p v → IsPartSpelled q v → part_spelling v p ++ x ≡ part_spelling v q ++ y →
    (p ≡ q) × (x ≡ y)
part_front (Normal k) (designator n) (designator m) x y hp hq h =
    let whole = sym (designator_apart n x) ∙ (h ∙ designator_apart m y) in
    let rest = (number_front 4 7 7 _ _ (omega arith) (omega arith) whole).1 in
    let last = number_front 8 n m x y (omega (arith, hp)) (omega (arith, hq)) rest in
    (ap designator last.0, last.1)
part_front (Normal k) (designator n) (segment m bytes) x y hp hq h = absurd (no_segment k n m bytes x y hq.0 h)
part_front (Normal k) (segment m bytes) (designator n) x y hp hq h = absurd (no_segment k n m bytes y x hp.0 (sym h))
part_front (Micro k) (designator n) q x y hp hq h = absurd hp
part_front (Micro k) (segment m bytes) (designator n) x y hp hq h = absurd hq
part_front v (segment m bytes) (segment n others) x y hp hq h =
    let w = spelling_front v (piece_of m bytes) (piece_of n others) x y hp.0 hq.0 h in
    (ap (λ (p : Piece). segment p.mode p.text) w.0, w.1)

-- what follows a payload is no part that fits
no_designator : (k : ℤ) (limit off n : ℕ) (x : List Bool) → off + 12 ≤ limit → (number_bits 4 7 ++ number_bits 8 n) ++ x ≡ tail (Normal k) limit off → ⊥
no_designator k limit off n x room h =
    let w = zero_front 4 7 (min 4 (limit - off)) (padding limit (off + min 4 (limit - off))) (number_bits 8 n ++ x) (omega arith) (omega arith)
    (sym h ∙ designator_apart n x) in
    omega (arith, w.0)

part_not_ended : (v : Version) (limit off : ℕ) (p : Part) (x : List Bool) → IsNumbered v → IsPartSpelled p v → off + length (part_spelling v p) ≤ limit →
    part_spelling v p ++ x ≡ tail v limit off → ⊥
part_not_ended (Normal k) limit off (designator n) x nv hp fits h =
    no_designator k limit off n x (omega (arith, fits, length-append (number_bits 4 7) (number_bits 8 n), length-number_bits 4 7, length-number_bits 8 n)) h
part_not_ended (Micro k) limit off (designator n) x nv hp fits h = hp
part_not_ended v limit off (segment m bytes) x nv hp fits h = not_ended v limit off (piece_of m bytes) x nv hp.0 hp.1 fits h

module _ (v : Version) (limit : ℕ) (nv : IsNumbered v) where
  abbrev Here : Part → Type 0
  Here part = IsPartSpelled part v

  -- one of two payloads ends where the other goes on
  goes_on : (off n m : ℕ) (p : Part) (ps : List Part) → AreSpelled v (p ∷ ps) → n ≡ off + length (part_spellings v (p ∷ ps)) → m ≡ off + 0 → n ≤ limit →
      part_spellings v (p ∷ ps) ++ tail v limit n ≡ tail v limit m → ⊥
  goes_on off n m p ps hp en em fits h =
      let long = length-append (part_spelling v p) (part_spellings v ps) in
      let same : m ≡ off = omega (arith, em) in
      part_not_ended v limit off p (part_spellings v ps ++ tail v limit n) nv (All-head Here p ps hp) (omega (arith, long, en, fits))
      (sym (append_assoc (part_spelling v p) (part_spellings v ps) (tail v limit n)) ∙ (h ∙ ap (λ (k : ℕ). tail v limit k) same))

  pub one_spelling : (off n m : ℕ) (ps qs : List Part) → AreSpelled v ps → AreSpelled v qs → n ≡ off + length (part_spellings v ps) →
      m ≡ off + length (part_spellings v qs) → n ≤ limit → m ≤ limit →
      part_spellings v ps ++ tail v limit n ≡ part_spellings v qs ++ tail v limit m → ps ≡ qs
  one_spelling off n m [] [] hp hq en em ln lm h = refl
  one_spelling off n m (p ∷ ps) [] hp hq en em ln lm h = absurd (goes_on off n m p ps hp en em ln h)
  one_spelling off n m [] (q ∷ qs) hp hq en em ln lm h = absurd (goes_on off m n q qs hq em en lm (sym h))
  one_spelling off n m (p ∷ ps) (q ∷ qs) hp hq en em ln lm h =
      let w = part_front v p q (part_spellings v ps ++ tail v limit n) (part_spellings v qs ++ tail v limit m) (All-head Here p ps hp) (All-head Here q qs hq)
      (sym (append_assoc (part_spelling v p) (part_spellings v ps) (tail v limit n)) ∙ (h ∙ append_assoc (part_spelling v q) (part_spellings v qs) (tail v limit m))) in
      let same = ap (λ (part : Part). length (part_spelling v part)) w.0 in
      let rest = one_spelling (off + length (part_spelling v p)) n m ps qs (All-tail Here p ps hp) (All-tail Here q qs hq)
      (omega (arith, en, length-append (part_spelling v p) (part_spellings v ps)))
      (omega (arith, em, same, length-append (part_spelling v q) (part_spellings v qs))) ln lm w.1 in
      cc (w.0, rest)

-- ---- Bits have one header, or none

-- the parts of a header, joined to the right
header_apart : (a : Header) (x : List Bool) → header_bits (Some a) ++ x ≡ number_bits 4 3
    ++ (number_bits 4 (a.place - 1) ++ (number_bits 4 (a.total - 1) ++ (number_bits 8 a.parity ++ x)))
header_apart a x = simp append_assoc

header_front : (v : Version) (a b : Header) (x y : List Bool) → HasHeader v (Some a) → HasHeader v (Some b) →
    header_bits (Some a) ++ x ≡ header_bits (Some b) ++ y → (a ≡ b) × (x ≡ y)
header_front (Normal k) a b x y ha hb h =
    let whole = sym (header_apart a x) ∙ (h ∙ header_apart b y) in
    let kind = number_front 4 3 3 _ _ (omega arith) (omega arith) whole in
    let places = number_front 4 (a.place - 1) (b.place - 1) _ _ (omega arith) (omega arith) kind.1 in
    let totals = number_front 4 (a.total - 1) (b.total - 1) _ _ (omega arith) (omega arith) places.1 in
    let parities = number_front 8 a.parity b.parity x y (omega arith) (omega arith) totals.1 in
    (grind (arith, places.0, totals.0, parities.0), parities.1)
header_front (Micro k) a b x y ha hb h = absurd ha

three : (k : ℤ) (m : Mode) → ◌≡◌ {A = ℕ} 3 (indicator (Normal k) m) → ⊥
three k m e = grind arith

-- the bits of a header do not begin parts, nor what follows them
no_header : (v : Version) (limit n : ℕ) (a : Header) (x : List Bool) (parts : List Part) → HasHeader v (Some a) → AreSpelled v parts → n ≤ limit →
    header_bits (Some a) ++ x ≡ part_spellings v parts ++ tail v limit n → ⊥
no_header (Micro k) limit n a x parts has spelled ln h = absurd has
no_header (Normal k) limit n a x [] has spelled ln h =
    let whole = sym (header_apart a x) ∙ h in
    let rest = number_bits 4 (a.place - 1) ++ (number_bits 4 (a.total - 1) ++ (number_bits 8 a.parity ++ x)) in
    let same : length (number_bits 4 3 ++ rest) ≡ length (tail (Normal k) limit n) = ap (λ (z : List Bool). length z) whole in
    let room : 4 ≤ limit - n = omega (arith, same, length-tail (Normal k) limit n ln, length-append (number_bits 4 3) rest, length-number_bits 4 3) in
    let w = zero_front 4 3 (min 4 (limit - n)) (padding limit (n + min 4 (limit - n))) rest (omega arith) (omega arith) (sym whole) in
    omega (arith, w.0)
no_header (Normal k) limit n a x (designator number ∷ parts) has spelled ln h =
    let rest = tail (Normal k) limit n in
    let first = append_assoc (part_spelling (Normal k) (designator number)) (part_spellings (Normal k) parts) rest in
    let whole = sym (header_apart a x) ∙ (h ∙ (first ∙ designator_apart number _)) in
    let e : ◌≡◌ {A = ℕ} 3 7 = (number_front 4 3 7 _ _ (omega arith) (omega arith) whole).0 in absurd (omega (arith, e))
no_header (Normal k) limit n a x (segment mode bytes ∷ parts) has spelled ln h =
    let here = All-head (λ part. IsPartSpelled part (Normal k)) (segment mode bytes) parts spelled in
    let rest = tail (Normal k) limit n in
    let first = append_assoc (spelling (Normal k) (piece_of mode bytes)) (part_spellings (Normal k) parts) rest in
    let w = indicator_first k mode bytes (part_spellings (Normal k) parts ++ rest) in
    let whole = sym (header_apart a x) ∙ (h ∙ (first ∙ w.1)) in
    three k mode (number_front 4 3 (indicator (Normal k) mode) _ _ (omega arith) here.0.mode whole).0

-- the headers are the same, and what follows them
module _ (v : Version) (limit n m : ℕ) (ps qs : List Part) (hp : AreSpelled v ps) (hq : AreSpelled v qs) (ln : n ≤ limit) (lm : m ≤ limit) where
  one_header : (a b : Option Header) → HasHeader v a → HasHeader v b →
      header_bits a ++ (part_spellings v ps ++ tail v limit n) ≡ header_bits b ++ (part_spellings v qs ++ tail v limit m) →
      (a ≡ b) × (part_spellings v ps ++ tail v limit n ≡ part_spellings v qs ++ tail v limit m)
  one_header None None ha hb h = (refl, h)
  one_header (Some a) (Some b) ha hb h = let w = header_front v a b _ _ ha hb h in (ap (λ (z : Header). Some z) w.0, w.1)
  one_header (Some a) None ha hb h = absurd (no_header v limit m a _ qs ha hq lm h)
  one_header None (Some b) ha hb h = absurd (no_header v limit n b _ ps hb hp ln (sym h))

-- ---- Bits are a frame in one way

-- In one version and at one level, two text frames with the same bits have the same header or none,
-- the same text and the same payload.
pub frame_one_text : (v : Version) (l : EcLevel) (a b : Option Header) (s t : List ℕ) (n m : ℕ) (bits : List Bool) → IsTextFrame v l a s n bits →
    IsTextFrame v l b t m bits → (a ≡ b) × (s ≡ t) × (n ≡ m)
frame_one_text v l a b s t n m bits f g =
    let limits : f.limit ≡ g.limit = same_Some f.limit g.limit (sym f.limit_is ∙ g.limit_is) in
    let hp = all_spelled v f.parts f.written.had (text_sound v s f.parts f.written) f.counted in
    let hq = all_spelled v g.parts g.written.had (text_sound v t g.parts g.written) g.counted in
    let lm : m ≤ f.limit = omega (arith, g.fits, limits) in
    let second = subst (λ (k : ℕ). bits ≡ headed_bits v b g.parts ++ tail v k m) (sym limits) g.bits_are in
    let split = one_header v f.limit n m f.parts g.parts hp hq f.fits lm a b f.has_header g.has_header
    (sym (append_assoc (header_bits a) (part_spellings v f.parts) (tail v f.limit n)) ∙ (sym f.bits_are ∙ (second
    ∙ append_assoc (header_bits b) (part_spellings v g.parts) (tail v f.limit m)))) in
    let mine = f.payload_is ∙ length-append (header_bits a) (part_spellings v f.parts) in
    let theirs = g.payload_is ∙ length-append (header_bits b) (part_spellings v g.parts) in
    let long : length (header_bits a) ≡ length (header_bits b) = ap (λ (h : Option Header). length (header_bits h)) split.0 in
    let parts = one_spelling v f.limit (numbered v l f.limit f.limit_is) (length (header_bits a)) n m f.parts g.parts hp hq mine
    (omega (arith, theirs, long)) f.fits lm split.1 in
    let read = subst (λ (parts : List Part). IsReadAs parts s) parts f.written.read in (
      split.0,
      same_Some s t (sym read ∙ g.written.read),
      omega (arith, mine, theirs, long, ap (λ (parts : List Part). length (part_spellings v parts)) parts),
    )

-- ---- Parts one after the other

-- One part more.
pub spellings_more : {A : Type 0} (v : Version) (f : A → Part) (xs : List A) (i : ℕ) (d : A) → i < length xs →
    part_spellings v (map f (take (i + 1) xs)) ≡ part_spellings v (map f (take i xs)) ++ part_spellings v (f (get_or xs i d) ∷ [])
spellings_more v f xs i d inside =
    ap (λ (ys : List _). part_spellings v (map f ys)) (take_more xs i d inside)
    ∙ ap (λ (ps : List Part). part_spellings v ps) (map-append f (take i xs) (get_or xs i d ∷ []))
    ∙ flat_map-append (part_spelling v) (map f (take i xs)) (f (get_or xs i d) ∷ [])

-- The part at a place.
pub spelled_at : {A : Type 0} (v : Version) (f : A → Part) (xs : List A) (i : ℕ) (d : A) → i < length xs → All (λ part. IsPartSpelled part v) (map f xs) →
    IsPartSpelled (f (get_or xs i d)) v
spelled_at v f xs i d inside each =
    subst (λ (part : Part). IsPartSpelled part v) (get_or-map f xs i d (f d) inside)
    (each i (f d) (omega (arith, inside, length-map xs f)))
