-- The least of the three ways is the least of all parts.
use Rattle.std.proofs.Common.{◌≡◌, ℕ, ◌+◌, ◌*◌, ◌/◌, ◌≤◌, ◌<◌, Bool, true, false, ◌||◌, ◌⊎◌, inl}
use Rattle.std.proofs.Common.{inr, List, [], ◌∷◌, ◌++◌, length, refl, ap, sym, ◌∙◌, subst, arith}
use Rattle.std.specs.Prelude.{Option, None, Some, All}
use Rattle.std.proofs.lemmas.Bool.{cond-true}
use Rattle.std.proofs.lemmas.Grind.{common_steps}
use Rattle.std.proofs.lemmas.List.Elements.{All-head, All-tail}
use Rattle.qrcode_base.specs.declared.types.Mode.{Mode}
use Rattle.qrcode_base.specs.declared.types.Mode.TheVariants.{Numeric, Alphanumeric, Byte, Kanji}
use Rattle.qrcode_base.specs.declared.types.Version.{Version}
use Rattle.qrcode_base.specs.declared.types.Version.TheVariants.{Normal, Micro}
use Rattle.character_sets.specs.Bytes.{ascii_character, common_character}
use Rattle.character_sets.specs.Reading.{Part, designator, segment, is_known, has_no_designator}
use Rattle.character_sets.specs.Reading.{has_kanji, joined, read_parts, read_segment, is_shift_jis}
use Rattle.character_sets.specs.Reading.{IsReadAs}
use Rattle.character_sets.specs.Reading.{each_of, read_bytes, read_kanji}
use Rattle.text_plans.specs.Costs.{HasPart, bits_of_part, bits_of_parts, AreTextParts, AreLeast}
use Rattle.text_plans.specs.Keeping.{TakesNoMore}
use Rattle.text_plans.specs.Lanes.{AreAllFacts, AreFacts, force_of}
use Rattle.text_plans.specs.Tables.{IsWeighed}
use Rattle.text_plans.specs.Ways.{AreRules, AreRulesOf, mixed_of, plain_of, weight_of}
use Rattle.text_plans.specs.declared.facts.Facts.{Facts}
use Rattle.text_plans.specs.declared.row.TheConstants.{BIT, LIMIT}
use Rattle.text_plans.specs.declared.rules.Rules.{Rules}
use Rattle.text_plans.specs.declared.rules.Way.{Way}
use Rattle.text_plans.proofs.Appends.{put_split, put_both}
use Rattle.text_plans.proofs.Begins.{if_list}
use Rattle.text_plans.proofs.Bounds.{Suits, parts_bound, joined_is, if_parts}
use Rattle.text_plans.proofs.Pairs.{IsNoPair, no_kanji}
use Rattle.text_plans.proofs.Rows.{entry}

-- ---- What is read more strictly is read

common_is : (byte c : ℕ) → common_character byte ≡ Some c → ascii_character byte ≡ Some c
common_is byte c h = grind (arith, common_steps)

each_more : (f g : ℕ → Option ℕ) → ((byte c : ℕ) → f byte ≡ Some c → g byte ≡ Some c) → (bytes text : List ℕ) →
    each_of f bytes ≡ Some text → each_of g bytes ≡ Some text
unfolding each_of
each_more f g more [] text h = h
each_more f g more (byte ∷ bytes) text h =
    let w = put_split (f byte) (each_of f bytes) text h in
    rw w.4 (put_both (g byte) (each_of g bytes) w.0 w.1 (more byte w.0 w.2) (each_more f g more bytes w.1 w.3))

bytes_more : (mixed had : Bool) (force : Option ℕ) (bytes text : List ℕ) → (had ≡ true → mixed ≡ true) →
    read_bytes mixed force bytes ≡ Some text → read_bytes had force bytes ≡ Some text
unfolding read_bytes
bytes_more true true None bytes text order h = h
bytes_more true false None bytes text order h = each_more common_character ascii_character common_is bytes text h
bytes_more false true None bytes text order h = absurd (let e : false ≡ true = order refl in cc)
bytes_more false false None bytes text order h = h
bytes_more mixed had (Some number) bytes text order h = h

segment_more : (plain bare mixed had : Bool) (force : Option ℕ) (mode : Mode) (bytes text : List ℕ) → (plain ≡ true → bare ≡ true) →
    (had ≡ true → mixed ≡ true) → read_segment plain mixed force mode bytes ≡ Some text → read_segment bare had force mode bytes ≡ Some text
unfolding read_segment
segment_more plain bare mixed had force Numeric bytes text p m h = h
segment_more plain bare mixed had force Alphanumeric bytes text p m h = h
segment_more plain bare mixed had force Byte bytes text p m h = bytes_more mixed had force bytes text m h
segment_more plain bare mixed had force Kanji bytes text p m h =
    let w = if_list (plain || is_shift_jis force) (read_kanji bytes) text h in
    let allowed : (bare || is_shift_jis force) ≡ true = either plain bare (is_shift_jis force) p w.0 in
    cond-true (bare || is_shift_jis force) (read_kanji bytes) None allowed ∙ w.1
  where
    either : (a b s : Bool) → (a ≡ true → b ≡ true) → (a || s) ≡ true → (b || s) ≡ true
    either a true s order h = refl
    either true false s order h = absurd (let e : false ≡ true = order refl in cc)
    either false false s order h = h

parts_more : (plain bare mixed had : Bool) → (plain ≡ true → bare ≡ true) → (had ≡ true → mixed ≡ true) →
    (force : Option ℕ) (parts : List Part) (text : List ℕ) →
    read_parts plain mixed force parts ≡ Some text → read_parts bare had force parts ≡ Some text
unfolding read_parts
parts_more plain bare mixed had p m force [] text h = h
parts_more plain bare mixed had p m force (designator number ∷ parts) text h =
    let w = if_parts (is_known number) (read_parts plain mixed (Some number) parts) text h in
    cond-true (is_known number) (read_parts bare had (Some number) parts) None w.0 ∙ parts_more plain bare mixed had p m (Some number) parts text w.1
parts_more plain bare mixed had p m force (segment mode bytes ∷ parts) text h =
    let w = joined_is (read_segment plain mixed force mode bytes) (read_parts plain mixed force parts) text h in
    let first = segment_more plain bare mixed had force mode bytes w.0 p m w.2 in
    let later = parts_more plain bare mixed had p m force parts w.1 w.3 in
    grind (arith, first, later, w.4)

-- Parts that are written in a way are read as the text.
pub reads_so : (plain mixed : Bool) (parts : List Part) (text : List ℕ) → read_parts plain mixed None parts ≡ Some text →
    (plain ≡ true → has_no_designator parts ≡ true) → (has_kanji parts ≡ true → mixed ≡ true) → IsReadAs parts text
reads_so plain mixed parts text h p m = parts_more plain (has_no_designator parts) mixed (has_kanji parts) p m None parts text h

-- ---- Each list of parts is written in one of the ways

module _ (version : Version) (plain mixed : Bool) (rules : Rules) (are : AreRules version plain mixed rules) where
  pub suits_plain : (parts : List Part) → has_no_designator parts ≡ true → plain ≡ true → mixed ≡ true → Suits rules rules.start parts
  unfolding has_no_designator
  suits_plain [] h e m = tt
  suits_plain (designator number ∷ parts) h e m = absurd (cc)
  suits_plain (segment mode bytes ∷ parts) h e m = (λ k. are.lanes.kanji_plain e m, suits_plain parts h e m)

  pub suits_bare : (parts : List Part) (lane : ℕ) → has_no_designator parts ≡ true → has_kanji parts ≡ false → Suits rules lane parts
  unfolding has_no_designator has_kanji
  suits_bare [] lane h k = tt
  suits_bare (designator number ∷ parts) lane h k = absurd (cc)
  suits_bare (segment Numeric bytes ∷ parts) lane h k = (λ e. absurd (cc), suits_bare parts lane h k)
  suits_bare (segment Alphanumeric bytes ∷ parts) lane h k = (λ e. absurd (cc), suits_bare parts lane h k)
  suits_bare (segment Byte bytes ∷ parts) lane h k = (λ e. absurd (cc), suits_bare parts lane h k)
  suits_bare (segment Kanji bytes ∷ parts) lane h k = absurd (cc)

  suits_unmixed : (parts : List Part) (lane : ℕ) → has_kanji parts ≡ false → plain ≡ false → All (HasPart version) parts → Suits rules lane parts
  unfolding has_kanji
  suits_unmixed [] lane h e had = tt
  suits_unmixed (designator number ∷ parts) lane h e had = (
    are.designator_is number e (All-head (HasPart version) (designator number) parts had),
    λ to is. suits_unmixed parts to h e (All-tail (HasPart version) (designator number) parts had),
  )
  suits_unmixed (segment Numeric bytes ∷ parts) lane h e had =
      (λ k. absurd (cc), suits_unmixed parts lane h e (All-tail (HasPart version) (segment Numeric bytes) parts had))
  suits_unmixed (segment Alphanumeric bytes ∷ parts) lane h e had =
      (λ k. absurd (cc), suits_unmixed parts lane h e (All-tail (HasPart version) (segment Alphanumeric bytes) parts had))
  suits_unmixed (segment Byte bytes ∷ parts) lane h e had =
      (λ k. absurd (cc), suits_unmixed parts lane h e (All-tail (HasPart version) (segment Byte bytes) parts had))
  suits_unmixed (segment Kanji bytes ∷ parts) lane h e had = absurd (cc)

  shift_jis_lane : (lane : ℕ) → is_shift_jis (force_of lane) ≡ true → 14 ≡ lane
  unfolding force_of
  shift_jis_lane lane h = grind (arith, common_steps)

  kanji_read : (lane : ℕ) (mode : Mode) (bytes text : List ℕ) → read_segment false mixed (force_of lane) mode bytes ≡ Some text → mode ≡ Kanji → 14 ≡ lane
  unfolding read_segment
  kanji_read lane Numeric bytes text h e = absurd (cc)
  kanji_read lane Alphanumeric bytes text h e = absurd (cc)
  kanji_read lane Byte bytes text h e = absurd (cc)
  kanji_read lane Kanji bytes text h e = shift_jis_lane lane (if_list (is_shift_jis (force_of lane)) (read_kanji bytes) text h).0

  pub suits_mixed : (parts : List Part) (lane : ℕ) (text : List ℕ) → plain ≡ false → mixed ≡ true → All (HasPart version) parts →
      read_parts false mixed (force_of lane) parts ≡ Some text → Suits rules lane parts
  unfolding read_parts
  suits_mixed [] lane text e m had h = tt
  suits_mixed (designator number ∷ parts) lane text e m had h = (
    are.designator_is number e (All-head (HasPart version) (designator number) parts had),
    λ to is. suits_mixed parts to text e m (All-tail (HasPart version) (designator number) parts had)
        (subst (λ (force : Option ℕ). read_parts false mixed force parts ≡ Some text) (sym is)
        (if_parts (is_known number) (read_parts false mixed (Some number) parts) text h).1),
  )
  suits_mixed (segment mode bytes ∷ parts) lane text e m had h =
      let w = joined_is (read_segment false mixed (force_of lane) mode bytes) (read_parts false mixed (force_of lane) parts) text h in (
        λ k. are.lanes.kanji_mixed e m ∙ kanji_read lane mode bytes w.0 w.2 k,
        suits_mixed parts lane w.1 e m (All-tail (HasPart version) (segment mode bytes) parts had) w.3,
      )

  -- What is looked for weighs no more.
  pub bound : (parts : List Part) (text : List ℕ) (all : List Facts) → AreAllFacts text all → All (HasPart version) parts → Suits rules rules.start parts →
      read_parts plain mixed None parts ≡ Some text → (entry rules all rules.start).fresh ≤ weight_of version parts
  bound parts text all known had suits h =
      parts_bound plain mixed rules version are.headers parts rules.start text all are.lanes.suits are.lanes.inside known had suits
      (subst (λ (force : Option ℕ). read_parts plain mixed force parts ≡ Some text) (sym are.lanes.no_force) h)

joined_more : (x y z : Option (List ℕ)) (text : List ℕ) → joined x y ≡ Some text → ((t : List ℕ) → y ≡ Some t → z ≡ Some t) →
    joined x z ≡ Some text
joined_more x y z text h more =
    let w = joined_is x y text h in
    let later = more w.1 w.3 in
    grind (arith, w.2, w.4, later)

-- Without Kanji segments it is all one whether there are designators.
no_kanji_read : (parts : List Part) (text : List ℕ) (force : Option ℕ) → has_no_designator parts ≡ true → has_kanji parts ≡ false →
    read_parts true false force parts ≡ Some text → read_parts false false force parts ≡ Some text
unfolding read_parts has_no_designator has_kanji read_segment
no_kanji_read [] text force p k h = h
no_kanji_read (designator number ∷ parts) text force p k h = absurd (cc)
no_kanji_read (segment Kanji bytes ∷ parts) text force p k h = absurd (cc)
no_kanji_read (segment Numeric bytes ∷ parts) text force p k h =
    joined_more _ _ _ text h (λ t e. no_kanji_read parts t force p k e)
no_kanji_read (segment Alphanumeric bytes ∷ parts) text force p k h =
    joined_more _ _ _ text h (λ t e. no_kanji_read parts t force p k e)
no_kanji_read (segment Byte bytes ∷ parts) text force p k h =
    joined_more _ _ _ text h (λ t e. no_kanji_read parts t force p k e)

-- ---- A text whose ASCII characters are the same in JIS X 0201

-- What a character is in ASCII it is in JIS X 0201.
abbrev IsAlike : ℕ → Type 0
IsAlike c = (byte : ℕ) → ascii_character byte ≡ Some c → common_character byte ≡ Some c

abbrev AreAlike : List ℕ → Type 0
AreAlike [] = Unit {0}
AreAlike (c ∷ cs) = IsAlike c × AreAlike cs

alike_both : (front later : List ℕ) → AreAlike (front ++ later) → AreAlike front × AreAlike later
alike_both [] later h = (tt, h)
alike_both (c ∷ front) later h = let w = alike_both front later h.1 in ((h.0, w.0), w.1)

ascii_read : (byte c : ℕ) → ascii_character byte ≡ Some c → read_bytes false (force_of 0) (byte ∷ []) ≡ Some (c ∷ [])
unfolding read_bytes force_of each_of
ascii_read byte c h = put_both (ascii_character byte) (Some []) c [] h refl

common_read : (bytes : List ℕ) (c : ℕ) → read_bytes true (force_of 16) bytes ≡ Some (c ∷ []) → (byte : ℕ) × (common_character byte ≡ Some c)
unfolding read_bytes force_of each_of
common_read [] c h = absurd (cc)
common_read (byte ∷ bytes) c h =
    let w = put_split (common_character byte) (each_of common_character bytes) (c ∷ []) h in
    let e : c ≡ w.0 = let l = w.4 in cc in (byte, w.2 ∙ ap (λ (x : ℕ). Some x) (sym e))

one_byte : (byte other c : ℕ) → ascii_character byte ≡ Some c → common_character other ≡ Some c → common_character byte ≡ Some c
one_byte byte other c h k = grind (arith, common_steps, h, k)

char_alike : (c : ℕ) (f : Facts) → AreFacts c f → TakesNoMore 16 0 f.sizes → IsAlike c
char_alike c f known more byte h =
    let there = (known.sizes 0 (omega arith)).front false (λ e. refl, λ e. absurd (omega arith)) (byte ∷ []) [] (ascii_read byte c h) in
    let w = (known.sizes 16 (omega arith)).some (more there.3).0 true (λ e. absurd (omega arith), λ e. refl) in
    let common = common_read w.0 c w.2 in one_byte byte common.0 c h common.1

text_alike : (text : List ℕ) (all : List Facts) → AreAllFacts text all → All (λ facts. TakesNoMore 16 0 facts.sizes) all → AreAlike text
text_alike [] all known more = tt
text_alike (c ∷ text) [] known more = absurd known
text_alike (c ∷ text) (f ∷ all) known more = (
  char_alike c f known.0 (All-head (λ (facts : Facts). TakesNoMore 16 0 facts.sizes) f all more),
  text_alike text all known.1 (All-tail (λ (facts : Facts). TakesNoMore 16 0 facts.sizes) f all more),
)

each_alike : (bytes text : List ℕ) → AreAlike text → each_of ascii_character bytes ≡ Some text → each_of common_character bytes ≡ Some text
unfolding each_of
each_alike [] text alike h = h
each_alike (byte ∷ bytes) text alike h =
    let w = put_split (ascii_character byte) (each_of ascii_character bytes) text h in
    let both = subst (λ (t : List ℕ). AreAlike t) w.4 alike in
    rw w.4
    (put_both (common_character byte) (each_of common_character bytes) w.0 w.1 (both.0 byte w.2) (each_alike bytes w.1 both.1 w.3))

segment_alike : (force : Option ℕ) (mode : Mode) (bytes text : List ℕ) → AreAlike text →
    read_segment false false force mode bytes ≡ Some text → read_segment false true force mode bytes ≡ Some text
unfolding read_segment read_bytes
segment_alike force Numeric bytes text alike h = h
segment_alike force Alphanumeric bytes text alike h = h
segment_alike None Byte bytes text alike h = each_alike bytes text alike h
segment_alike (Some number) Byte bytes text alike h = h
segment_alike force Kanji bytes text alike h = h

parts_alike : (force : Option ℕ) (parts : List Part) (text : List ℕ) → AreAlike text →
    read_parts false false force parts ≡ Some text → read_parts false true force parts ≡ Some text
unfolding read_parts
parts_alike force [] text alike h = h
parts_alike force (designator number ∷ parts) text alike h =
    let w = if_parts (is_known number) (read_parts false false (Some number) parts) text h in
    cond-true (is_known number) (read_parts false true (Some number) parts) None w.0 ∙ parts_alike (Some number) parts text alike w.1
parts_alike force (segment mode bytes ∷ parts) text alike h =
    let w = joined_is (read_segment false false force mode bytes) (read_parts false false force parts) text h in
    let both = alike_both w.0 w.1 (subst (λ (t : List ℕ). AreAlike t) w.4 alike) in
    let first = segment_alike force mode bytes w.0 both.0 w.2 in
    let later = parts_alike force parts w.1 both.1 w.3 in
    grind (arith, first, later, w.4)

-- Rules of a version and a way are those of theirs.
pub as_way : (rules : Rules) (version : Version) (way : Way) → rules.version ≡ version → rules.way ≡ way → AreRulesOf rules →
    AreRules version (plain_of way) (mixed_of way) rules
as_way rules version way v w h =
    subst (λ (x : Way). AreRules version (plain_of x) (mixed_of x) rules) w
    (subst (λ (x : Version). AreRules x (plain_of rules.way) (mixed_of rules.way) rules) v h)

-- The least weight of a way.
abbrev pub least_of : Rules → List Facts → ℕ
least_of rules all = (entry rules all rules.start).fresh

module _ (version : Version) (bare unmixed mixed : Rules) (b : AreRules version true true bare) (u : AreRules version false false unmixed) (m : AreRules version false true mixed) where
  by_flags : (parts : List Part) (text : List ℕ) (all : List Facts) (plain kanji : Bool) → AreAllFacts text all → All (HasPart version) parts →
      has_no_designator parts ≡ plain → has_kanji parts ≡ kanji → read_parts plain kanji None parts ≡ Some text →
      (least_of bare all ≤ weight_of version parts) ⊎ ((least_of unmixed all ≤ weight_of version parts) ⊎ (least_of mixed all ≤ weight_of version parts))
  by_flags parts text all true true known had p k h = inl (bound version true true bare b parts text all known had (suits_plain version true true bare b parts p refl refl) h)
  by_flags parts text all true false known had p k h =
      inr (inl (bound version false false unmixed u parts text all known had
      (suits_unmixed version false false unmixed u parts unmixed.start k refl had) (no_kanji_read parts text None p k h)))
  by_flags parts text all false false known had p k h =
      inr (inl (bound version false false unmixed u parts text all known had (suits_unmixed version false false unmixed u parts unmixed.start k refl had) h))
  by_flags parts text all false true known had p k h =
      inr (inr (bound version false true mixed m parts text all known had
      (suits_mixed version false true mixed m parts mixed.start text refl refl had
      (subst (λ (force : Option ℕ). read_parts false true force parts ≡ Some text) (sym m.lanes.no_force) h)) h))

  -- One of the three ways weighs no more than any parts.
  pub one_of : (parts : List Part) (text : List ℕ) (all : List Facts) → AreAllFacts text all → AreTextParts version text parts →
      (least_of bare all ≤ weight_of version parts) ⊎ ((least_of unmixed all ≤ weight_of version parts) ⊎ (least_of mixed all ≤ weight_of version parts))
  one_of parts text all known h = by_flags parts text all (has_no_designator parts) (has_kanji parts) known h.had refl refl h.read

module _ (version : Version) (bare mixed : Rules) (b : AreRules version true true bare) (m : AreRules version false true mixed) where
  without_kanji : (parts : List Part) (text : List ℕ) (all : List Facts) → AreAllFacts text all → All (λ facts. TakesNoMore 16 0 facts.sizes) all →
      All (HasPart version) parts → has_kanji parts ≡ false → read_parts false false None parts ≡ Some text → least_of mixed all ≤ weight_of version parts
  without_kanji parts text all known alike had k h =
      bound version false true mixed m parts text all known had (suits_unmixed version false true mixed m parts mixed.start k refl had)
      (parts_alike None parts text (text_alike text all known alike) h)

  by_two_flags : (parts : List Part) (text : List ℕ) (all : List Facts) (plain kanji : Bool) → AreAllFacts text all →
      All (λ facts. TakesNoMore 16 0 facts.sizes) all → All (HasPart version) parts → has_no_designator parts ≡ plain → has_kanji parts ≡ kanji →
      read_parts plain kanji None parts ≡ Some text → (least_of bare all ≤ weight_of version parts) ⊎ (least_of mixed all ≤ weight_of version parts)
  by_two_flags parts text all true true known alike had p k h =
      inl (bound version true true bare b parts text all known had (suits_plain version true true bare b parts p refl refl) h)
  by_two_flags parts text all true false known alike had p k h = inr (without_kanji parts text all known alike had k (no_kanji_read parts text None p k h))
  by_two_flags parts text all false false known alike had p k h = inr (without_kanji parts text all known alike had k h)
  by_two_flags parts text all false true known alike had p k h =
      inr (bound version false true mixed m parts text all known had
      (suits_mixed version false true mixed m parts mixed.start text refl refl had
      (subst (λ (force : Option ℕ). read_parts false true force parts ≡ Some text) (sym m.lanes.no_force) h)) h)

  -- Where its ASCII characters are the same in JIS X 0201, one of two ways weighs no more than any parts.
  pub one_of_two : (parts : List Part) (text : List ℕ) (all : List Facts) → AreAllFacts text all → All (λ facts. TakesNoMore 16 0 facts.sizes) all →
      AreTextParts version text parts → (least_of bare all ≤ weight_of version parts) ⊎ (least_of mixed all ≤ weight_of version parts)
  one_of_two parts text all known alike h = by_two_flags parts text all (has_no_designator parts) (has_kanji parts) known alike h.had refl refl h.read

-- Without pairs it is the way without Kanji segments that weighs no more.
pub of_no_pairs : (version : Version) (unmixed : Rules) → AreRules version false false unmixed → (parts : List Part) (text : List ℕ) (all : List Facts) →
    AreAllFacts text all → All IsNoPair all → AreTextParts version text parts → least_of unmixed all ≤ weight_of version parts
of_no_pairs version unmixed u parts text all known none h =
    let k = no_kanji version (has_no_designator parts) (has_kanji parts) None parts text all known none h.had h.read in
    let read = subst (λ (b : Bool). read_parts (has_no_designator parts) b None parts ≡ Some text) k h.read in
    by_plain (has_no_designator parts) refl k read
  where
    by_plain : (plain : Bool) → has_no_designator parts ≡ plain → has_kanji parts ≡ false → read_parts plain false None parts ≡ Some text →
        least_of unmixed all ≤ weight_of version parts
    by_plain true p k read =
        bound version false false unmixed u parts text all known h.had (suits_unmixed version false false unmixed u parts unmixed.start k refl h.had)
        (no_kanji_read parts text None p k read)
    by_plain false p k read =
        bound version false false unmixed u parts text all known h.had (suits_unmixed version false false unmixed u parts unmixed.start k refl h.had) read

-- ---- Bits and parts of a weight

part_some : (version : Version) (part : Part) → HasPart version part → 1 ≤ bits_of_part version part
part_some version (designator number) h = omega arith
part_some (Normal n) (segment mode bytes) h = omega arith
part_some (Micro n) (segment Numeric bytes) h = omega arith
part_some (Micro n) (segment Alphanumeric bytes) h = omega arith
part_some (Micro n) (segment Byte bytes) h = omega arith
part_some (Micro n) (segment Kanji bytes) h = grind (arith, common_steps, h.0)

-- Each part has a bit.
pub parts_some : (version : Version) (parts : List Part) → All (HasPart version) parts → length parts ≤ bits_of_parts version parts
parts_some version [] h = omega arith
parts_some version (part ∷ parts) h =
    omega (arith, part_some version part (All-head (HasPart version) part parts h), parts_some version parts (All-tail (HasPart version) part parts h))

pub small_bits : (b l c k : ℕ) → l ≤ b → k ≤ c → BIT * b + l < LIMIT → BIT * b + l ≤ BIT * c + k → b ≤ c
small_bits b l c k lb kc small h = omega arith

pub least_parts : (version : Version) (text : List ℕ) (parts : List Part) → AreTextParts version text parts → weight_of version parts < LIMIT →
    ((others : List Part) → AreTextParts version text others → weight_of version parts ≤ weight_of version others) → AreLeast version text parts
least_parts version text parts h small least = record {
  written = h;
  bits = λ others w.
      small_bits (bits_of_parts version parts) (length parts) (bits_of_parts version others) (length others) (parts_some version parts h.had)
      (parts_some version others w.had) small (least others w);
  fewest = λ others w e. let weight = least others w in omega arith;
}

-- A weight at the limit is that of many bits.
pub many_bits : (version : Version) (text : List ℕ) (parts : List Part) → AreTextParts version text parts → LIMIT ≤ weight_of version parts →
    32768 ≤ bits_of_parts version parts
many_bits version text parts h limit = omega (arith, parts_some version parts h.had)

pub quotient : (b l : ℕ) → l ≤ b → BIT * b + l < LIMIT → (BIT * b + l) / BIT ≡ b
quotient b l h small = omega arith

-- A plan of the least weight, and its bits.
pub weighed_least : (version : Version) (plain mixed : Bool) (text : List ℕ) (weight : ℕ) (parts : List Part) →
    IsWeighed version plain mixed text weight parts → weight < LIMIT →
    ((others : List Part) → AreTextParts version text others → weight ≤ weight_of version others) →
    AreLeast version text parts × (weight / BIT ≡ bits_of_parts version parts)
weighed_least version plain mixed text weight parts h small least =
    let written : AreTextParts version text parts = record {
      read = reads_so plain mixed parts text h.read h.plain_is h.mixed_is;
      had = h.had;
    } in (
      least_parts version text parts written (omega (arith, h.weight_is)) (λ others w. omega (arith, h.weight_is, least others w)),
      ap (λ (n : ℕ). n / BIT) (sym h.weight_is)
          ∙ quotient (bits_of_parts version parts) (length parts) (parts_some version parts h.had) (omega (arith, h.weight_is)),
    )
