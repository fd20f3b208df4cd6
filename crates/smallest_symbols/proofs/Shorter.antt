-- Parts of the beginning of a text, and of its end, that take no more bits than those of the text.
use Rattle.std.proofs.Common.{◌≡◌, ◌≢◌, ℕ, ◌≤◌, Bool, true, List, [], ◌∷◌, ◌++◌, length, refl, sym}
use Rattle.std.proofs.Common.{ap, subst, ◌∙◌, arith}
use Rattle.std.specs.Prelude.{All, Option, None, Some}
use Rattle.std.proofs.lemmas.Bool.{cond-true}
use Rattle.std.proofs.lemmas.List.Elements.{All-cons, All-head, All-nil, All-tail}
use Rattle.qrcode_base.specs.Modes.{HasMode, characters}
use Rattle.qrcode_base.specs.declared.types.Mode.{Mode}
use Rattle.qrcode_base.specs.declared.types.Mode.TheVariants.{Numeric, Alphanumeric, Byte, Kanji}
use Rattle.qrcode_base.specs.declared.types.Version.{Version}
use Rattle.qrcode_base.specs.declared.types.Version.TheVariants.{Normal, Micro}
use Rattle.character_sets.specs.Reading.{Part, designator, segment, is_known, has_kanji}
use Rattle.character_sets.specs.Reading.{has_no_designator, read_parts, read_segment}
use Rattle.text_plans.specs.Costs.{HasPart, bits_of_parts}
use Rattle.text_plans.specs.Manners.{ArePartsIn, BeginsAsIn, begins_with_designator, mixed_in}
use Rattle.text_plans.specs.Manners.{plain_in}
use Rattle.text_plans.specs.declared.rules.Manner.{Manner}
use Rattle.text_plans.specs.declared.rules.Manner.TheVariants.{Ascii, Paired, Designated}
use Rattle.text_plans.proofs.Bounds.{had_segment, if_parts, joined_is}
use Rattle.text_plans.proofs.Weights.{bits_rise}
use Rattle.smallest_symbols.proofs.Valid.{segment_valid}
use Rattle.smallest_symbols.proofs.Splits.{IsRead, segment_split}

-- ---- Texts one after the other

-- A text that is two pairs of texts, one after the other.
record HasSeam (s t front later : List ℕ) : Type 0 where
  s0 : List ℕ
  s1 : List ℕ
  t0 : List ℕ
  t1 : List ℕ
  s_is : s ≡ s0 ++ s1
  t_is : t ≡ t0 ++ t1
  front_is : front ≡ s0 ++ t0
  later_is : later ≡ s1 ++ t1

seam : (s t front later : List ℕ) → front ++ later ≡ s ++ t → HasSeam s t front later
seam [] t front later h = record { s0 = []; s1 = []; t0 = front; t1 = later; s_is = refl; t_is = sym h; front_is = refl; later_is = refl }
seam (c ∷ s) t [] later h = record { s0 = []; s1 = c ∷ s; t0 = []; t1 = t; s_is = refl; t_is = refl; front_is = refl; later_is = h }
seam (c ∷ s) t (d ∷ front) later h =
    let same : d ≡ c = cc in
    let tails : front ++ later ≡ s ++ t = cc in
    let w = seam s t front later tails in
    record {
      s0 = c ∷ w.s0;
      s1 = w.s1;
      t0 = w.t0;
      t1 = w.t1;
      s_is = ap (λ (x : List ℕ). c ∷ x) w.s_is;
      t_is = w.t_is;
      front_is = ap (λ (x : List ℕ). d ∷ x) w.front_is ∙ ap (λ (x : ℕ). x ∷ w.s0 ++ w.t0) same;
      later_is = w.later_is;
    }

-- ---- Parts

-- Parts that are read as a text, with the same designators as others, no more modes and no more
-- bits.
record IsShorter (version : Version) (plain mixed : Bool) (force : Option ℕ) (parts : List Part) (text : List ℕ) : Type 0 where
  some : List Part
  reads : read_parts plain mixed force some ≡ Some text
  had : All (HasPart version) some
  designators : has_no_designator some ≡ has_no_designator parts
  kanji : has_kanji some ≡ true → has_kanji parts ≡ true
  begins : begins_with_designator parts ≡ true → begins_with_designator some ≡ true
  fewer : bits_of_parts version some ≤ bits_of_parts version parts

has_segment : (version : Version) (mode : Mode) (bytes : List ℕ) → HasMode version mode → bytes ≢ [] → HasPart version (segment mode bytes)
has_segment (Normal n) mode bytes h some = (h, some)
has_segment (Micro n) mode bytes h some = (h, some)

later_kanji : (mode : Mode) (bytes : List ℕ) (parts : List Part) → has_kanji parts ≡ true → has_kanji (segment mode bytes ∷ parts) ≡ true
unfolding has_kanji
later_kanji Numeric bytes parts h = h
later_kanji Alphanumeric bytes parts h = h
later_kanji Byte bytes parts h = h
later_kanji Kanji bytes parts h = refl

both_kanji : (mode : Mode) (bytes old : List ℕ) (parts others : List Part) → (has_kanji parts ≡ true → has_kanji others ≡ true) →
    has_kanji (segment mode bytes ∷ parts) ≡ true → has_kanji (segment mode old ∷ others) ≡ true
unfolding has_kanji
both_kanji Numeric bytes old parts others more h = more h
both_kanji Alphanumeric bytes old parts others more h = more h
both_kanji Byte bytes old parts others more h = more h
both_kanji Kanji bytes old parts others more h = refl

no_characters : (mode : Mode) (n : ℕ) → n ≡ 0 → 1 ≤ characters mode n → ⊥
no_characters Numeric n h some = omega (arith, some, h)
no_characters Alphanumeric n h some = omega (arith, some, h)
no_characters Byte n h some = omega (arith, some, h)
no_characters Kanji n h some = omega (arith, some, h)

-- What has a character has some bytes.
some_bytes : (plain mixed : Bool) (force : Option ℕ) (mode : Mode) (bytes : List ℕ) (c : ℕ) (cs : List ℕ) →
    read_segment plain mixed force mode bytes ≡ Some (c ∷ cs) → bytes ≢ []
some_bytes plain mixed force mode bytes c cs h empty =
    let w = segment_valid plain mixed force mode bytes (c ∷ cs) h in
    no_characters mode (length bytes) (ap (λ (x : List ℕ). length x) empty) (omega (arith, w.1))

module _ (version : Version) (plain mixed : Bool) where
  both_joined : (force : Option ℕ) (mode : Mode) (bytes s t : List ℕ) (parts : List Part) → read_segment plain mixed force mode bytes ≡ Some s →
      read_parts plain mixed force parts ≡ Some t → read_parts plain mixed force (segment mode bytes ∷ parts) ≡ Some (s ++ t)
  unfolding read_parts
  both_joined force mode bytes s t parts h k = grind (arith, h, k)

  -- A segment of fewer bytes before shorter parts, or none where it has no character left.
  with_segment : (force : Option ℕ) (mode : Mode) (bytes s t : List ℕ) (parts : List Part) → HasMode version mode →
      IsRead (read_segment plain mixed force mode) (length bytes) s → IsShorter version plain mixed force parts t →
      IsShorter version plain mixed force (segment mode bytes ∷ parts) (s ++ t)
  unfolding has_no_designator begins_with_designator
  with_segment force mode bytes [] t parts has here later = record {
    some = later.some;
    reads = later.reads;
    had = later.had;
    designators = later.designators;
    kanji = λ h. later_kanji mode bytes parts (later.kanji h);
    begins = λ h. absurd (cc);
    fewer = omega (arith, later.fewer);
  }
  with_segment force mode bytes (c ∷ s) t parts has here later = record {
    some = segment mode here.bytes ∷ later.some;
    reads = both_joined force mode here.bytes (c ∷ s) t later.some here.reads later.reads;
    had = All-cons (HasPart version) (segment mode here.bytes) later.some
        (has_segment version mode here.bytes has (some_bytes plain mixed force mode here.bytes c s here.reads)) later.had;
    designators = later.designators;
    kanji = both_kanji mode here.bytes bytes later.some parts later.kanji;
    begins = λ h. absurd (cc);
    fewer = omega (arith, later.fewer, bits_rise mode (length here.bytes) (length bytes) here.fewer);
  }

  with_designator : (force : Option ℕ) (number : ℕ) (text : List ℕ) (parts : List Part) → is_known number ≡ true → HasPart version (designator number) →
      IsShorter version plain mixed (Some number) parts text → IsShorter version plain mixed force (designator number ∷ parts) text
  unfolding read_parts has_no_designator has_kanji begins_with_designator
  with_designator force number text parts known has later = record {
    some = designator number ∷ later.some;
    reads = cond-true (is_known number) (read_parts plain mixed (Some number) later.some) None known ∙ later.reads;
    had = All-cons (HasPart version) (designator number) later.some has later.had;
    designators = refl;
    kanji = later.kanji;
    begins = λ h. refl;
    fewer = omega (arith, later.fewer);
  }

  no_parts : (force : Option ℕ) → IsShorter version plain mixed force [] []
  unfolding read_parts
  no_parts force = record {
    some = [];
    reads = refl;
    had = All-nil (HasPart version);
    designators = refl;
    kanji = λ h. h;
    begins = λ h. h;
    fewer = omega arith;
  }

  parts_split : (parts : List Part) (force : Option ℕ) (front later : List ℕ) → All (HasPart version) parts →
      read_parts plain mixed force parts ≡ Some (front ++ later) →
      IsShorter version plain mixed force parts front × IsShorter version plain mixed force parts later
  unfolding read_parts
  parts_split [] force [] [] had h = (no_parts force, no_parts force)
  parts_split [] force [] (c ∷ later) had h = absurd (let e : Some [] ≡ Some (c ∷ later) = h in cc)
  parts_split [] force (c ∷ front) later had h = absurd (let e : Some [] ≡ Some (c ∷ front ++ later) = h in cc)
  parts_split (designator number ∷ parts) force front later had h =
      let p = if_parts (is_known number) (read_parts plain mixed (Some number) parts) (front ++ later) h in
      let has = All-head (HasPart version) (designator number) parts had in
      let w = parts_split parts (Some number) front later (All-tail (HasPart version) (designator number) parts had) p.1 in
      (with_designator force number front parts p.0 has w.0, with_designator force number later parts p.0 has w.1)
  parts_split (segment mode bytes ∷ parts) force front later had h =
      let j = joined_is (read_segment plain mixed force mode bytes) (read_parts plain mixed force parts) (front ++ later) h in
      let has = (had_segment version mode bytes (All-head (HasPart version) (segment mode bytes) parts had)).0 in
      let m = seam j.0 j.1 front later j.4 in
      let here = segment_split plain mixed force mode m.s0 m.s1 bytes (j.2 ∙ ap (λ (x : List ℕ). Some x) m.s_is) in
      let w = parts_split parts force m.t0 m.t1 (All-tail (HasPart version) (segment mode bytes) parts had) (j.3 ∙ ap (λ (x : List ℕ). Some x) m.t_is) in (
        subst (λ (x : List ℕ). IsShorter version plain mixed force (segment mode bytes ∷ parts) x) (sym m.front_is)
            (with_segment force mode bytes m.s0 m.t0 parts has here.0 w.0),
        subst (λ (x : List ℕ). IsShorter version plain mixed force (segment mode bytes ∷ parts) x) (sym m.later_is)
            (with_segment force mode bytes m.s1 m.t1 parts has here.1 w.1),
      )

-- Some parts that are read as a text in a manner take no more bits than others.
pub record HasShorter (manner : Manner) (version : Version) (text : List ℕ) (parts : List Part) : Type 0 where
  pub some : List Part
  pub written : ArePartsIn manner version text some
  pub fewer : bits_of_parts version some ≤ bits_of_parts version parts

begins_too : (manner : Manner) (parts some : List Part) → (begins_with_designator parts ≡ true → begins_with_designator some ≡ true) →
    BeginsAsIn manner parts → BeginsAsIn manner some
begins_too Ascii parts some more h = tt
begins_too Paired parts some more h = tt
begins_too Designated parts some more h = more h

shorter_read : (manner : Manner) (version : Version) (parts : List Part) (whole text : List ℕ) → ArePartsIn manner version whole parts →
    IsShorter version (plain_in manner) (mixed_in manner) None parts text → HasShorter manner version text parts
shorter_read manner version parts whole text known w = record {
  some = w.some;
  written = record {
    read = w.reads;
    had = w.had;
    plain = λ h. w.designators ∙ known.plain h;
    mixed = λ h. known.mixed (w.kanji h);
    begins = begins_too manner parts w.some w.begins known.begins;
  };
  fewer = w.fewer;
}

-- Where some parts are read as a text in a manner, some that take no more bits are read as its
-- beginning, and some as its end.
pub shorter_parts : (manner : Manner) (version : Version) (front later : List ℕ) (parts : List Part) →
    ArePartsIn manner version (front ++ later) parts → HasShorter manner version front parts × HasShorter manner version later parts
shorter_parts manner version front later parts w =
    let both = parts_split version (plain_in manner) (mixed_in manner) parts None front later w.had w.read in
    (shorter_read manner version parts (front ++ later) front w both.0, shorter_read manner version parts (front ++ later) later w both.1)
