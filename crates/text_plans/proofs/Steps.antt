-- Each step of writing a plan keeps what it is read as, and what it weighs with what follows.
use Rattle.std.proofs.Common.{◌≡◌, ◌≢◌, ℕ, ◌+◌, ◌*◌, ◌≤◌, ◌<◌, Bool, true, false, ◌==◌, ◌⊎◌, inl}
use Rattle.std.proofs.Common.{inr, List, [], ◌∷◌, ◌++◌, length, get_or, refl, ap, sym, ◌∙◌, subst}
use Rattle.std.proofs.Common.{arith, length-append, append_assoc}
use Rattle.std.specs.Prelude.{Option, None, Some, All, if◌then◌else◌}
use Rattle.std.proofs.lemmas.Bool.{cond-true}
use Rattle.std.proofs.lemmas.Grind.{common_steps}
use Rattle.std.proofs.lemmas.List.{append-nil}
use Rattle.std.proofs.lemmas.List.Elements.{All-append, All-cons, All-nil}
use Rattle.qrcode_base.specs.Characters.{is_between}
use Rattle.qrcode_base.specs.Modes.{HasMode}
use Rattle.qrcode_base.specs.declared.types.Mode.{Mode}
use Rattle.qrcode_base.specs.declared.types.Mode.TheVariants.{Numeric, Alphanumeric, Byte, Kanji}
use Rattle.qrcode_base.specs.declared.types.Version.{Version}
use Rattle.qrcode_base.specs.declared.types.Version.TheVariants.{Normal, Micro}
use Rattle.character_sets.specs.Reading.{Part, designator, segment, is_known, has_no_designator}
use Rattle.character_sets.specs.Reading.{has_kanji, joined, read_parts, read_segment}
use Rattle.text_plans.specs.Choices.{AddsBytes, CanBe, Makes, choice_weight, lane_after, open_value}
use Rattle.text_plans.specs.Choices.{open_weight, segment_opened}
use Rattle.text_plans.specs.Costs.{HasPart, bits_of_parts}
use Rattle.text_plans.specs.Lanes.{SuitsMixed, force_of}
use Rattle.text_plans.specs.Plan.{Written, all_parts}
use Rattle.text_plans.specs.Ways.{AreRules}
use Rattle.text_plans.specs.Search.{can_write, next_bits, onward, go_on, begin_in, header_weight}
use Rattle.text_plans.specs.Search.{no_rest}
use Rattle.text_plans.specs.declared.facts.Facts.{Facts}
use Rattle.text_plans.specs.declared.row.Rest.{Rest}
use Rattle.text_plans.specs.declared.row.TheConstants.{BIT, LIMIT}
use Rattle.text_plans.specs.declared.rules.Rules.{Rules}
use Rattle.text_plans.specs.declared.walk.Choice.{Choice}
use Rattle.text_plans.specs.declared.walk.Choice.TheVariants.{GoOn, Begin, Change}
use Rattle.text_plans.proofs.Appends.{segment_append}
use Rattle.text_plans.proofs.Bounds.{weight_of, first_bits, first_is, joined_is, if_parts}
use Rattle.text_plans.proofs.Choosing.{below_limit}
use Rattle.text_plans.proofs.Weights.{bits_in, bits_more, onward_more, char_size}

-- ---- Parts one after the other

-- The designator in force after parts.
unfoldable pub force_after : Option ℕ → List Part → Option ℕ
force_after force [] = force
force_after force (designator number ∷ parts) = force_after (Some number) parts
force_after force (segment mode bytes ∷ parts) = force_after force parts

pub parts_append : (plain mixed : Bool) (force : Option ℕ) (parts more : List Part) (text later : List ℕ) →
    read_parts plain mixed force parts ≡ Some text → read_parts plain mixed (force_after force parts) more ≡ Some later →
    read_parts plain mixed force (parts ++ more) ≡ Some (text ++ later)
unfolding read_parts force_after
parts_append plain mixed force [] more text later h k = let e : text ≡ [] = cc in rw e k
parts_append plain mixed force (designator number ∷ parts) more text later h k =
    let p = if_parts (is_known number) (read_parts plain mixed (Some number) parts) text h in
    cond-true (is_known number) (read_parts plain mixed (Some number) (parts ++ more)) None p.0
    ∙ parts_append plain mixed (Some number) parts more text later p.1 k
parts_append plain mixed force (segment mode bytes ∷ parts) more text later h k =
    let w = joined_is (read_segment plain mixed force mode bytes) (read_parts plain mixed force parts) text h in
    let next = parts_append plain mixed force parts more w.1 later w.3 k in
    grind (arith, w.2, w.4, next, append_assoc)

pub force_append : (force : Option ℕ) (parts more : List Part) → force_after force (parts ++ more) ≡ force_after (force_after force parts) more
unfolding force_after
force_append force [] more = refl
force_append force (designator number ∷ parts) more = force_append (Some number) parts more
force_append force (segment mode bytes ∷ parts) more = force_append force parts more

pub bits_append : (version : Version) (parts more : List Part) → bits_of_parts version (parts ++ more) ≡ bits_of_parts version parts + bits_of_parts version more
bits_append version [] more = omega arith
bits_append version (part ∷ parts) more = omega (arith, bits_append version parts more)

pub weight_append : (version : Version) (parts more : List Part) → weight_of version (parts ++ more) ≡ weight_of version parts + weight_of version more
weight_append version parts more = omega (arith, bits_append version parts more, length-append parts more)

pub plain_append : (parts more : List Part) → has_no_designator parts ≡ true → has_no_designator more ≡ true → has_no_designator (parts ++ more) ≡ true
unfolding has_no_designator
plain_append [] more h k = k
plain_append (designator number ∷ parts) more h k = absurd (cc)
plain_append (segment mode bytes ∷ parts) more h k = plain_append parts more h k

pub kanji_append : (parts more : List Part) → has_kanji (parts ++ more) ≡ true → (has_kanji parts ≡ true) ⊎ (has_kanji more ≡ true)
unfolding has_kanji
kanji_append [] more h = inr h
kanji_append (designator number ∷ parts) more h = kanji_append parts more h
kanji_append (segment Numeric bytes ∷ parts) more h = kanji_append parts more h
kanji_append (segment Alphanumeric bytes ∷ parts) more h = kanji_append parts more h
kanji_append (segment Byte bytes ∷ parts) more h = kanji_append parts more h
kanji_append (segment Kanji bytes ∷ parts) more h = inl refl

one_kanji : (mode : Mode) (bytes : List ℕ) → has_kanji (segment mode bytes ∷ []) ≡ true → mode ≡ Kanji
unfolding has_kanji
one_kanji Numeric bytes h = absurd (cc)
one_kanji Alphanumeric bytes h = absurd (cc)
one_kanji Byte bytes h = absurd (cc)
one_kanji Kanji bytes h = refl

-- ---- Plans while they are written

-- What the open segment is read as.
abbrev pub OpenReads : Version → Bool → Bool → Option ℕ → Option Mode → List ℕ → List ℕ → Type 0
OpenReads version plain mixed force None bytes text = (bytes ≡ []) × (text ≡ [])
OpenReads version plain mixed force (Some mode) bytes text =
    (read_segment plain mixed force mode bytes ≡ Some text) × (bytes ≢ []) × HasMode version mode × (mode ≡ Kanji → mixed ≡ true)

-- Complete parts that are read as a text, up to a lane.
pub record AreComplete (version : Version) (plain mixed : Bool) (lane : ℕ) (parts : List Part) (text : List ℕ) : Type 0 where
  pub inside : lane < 17
  pub suits : SuitsMixed mixed lane
  pub read : read_parts plain mixed None parts ≡ Some text
  pub force : force_after None parts ≡ force_of lane
  pub had : All (HasPart version) parts
  pub plain_is : plain ≡ true → has_no_designator parts ≡ true
  pub mixed_is : has_kanji parts ≡ true → mixed ≡ true

-- A plan that is written up to here, and the text of it.
pub record IsDraft (version : Version) (plain mixed : Bool) (lane : ℕ) (written : Written) (text : List ℕ) : Type 0 where
  pub before : List ℕ
  pub opened : List ℕ
  pub complete : AreComplete version plain mixed lane written.parts before
  pub open_reads : OpenReads version plain mixed (force_of lane) written.mode written.bytes opened
  pub text_is : text ≡ before ++ opened

segment_had : (version : Version) (mode : Mode) (bytes : List ℕ) → HasMode version mode → bytes ≢ [] → HasPart version (segment mode bytes)
segment_had (Normal n) mode bytes h some = (h, some)
segment_had (Micro n) mode bytes h some = (h, some)

one_segment : (plain mixed : Bool) (force : Option ℕ) (mode : Mode) (bytes text : List ℕ) → read_segment plain mixed force mode bytes ≡ Some text →
    read_parts plain mixed force (segment mode bytes ∷ []) ≡ Some text
unfolding read_parts
one_segment plain mixed force mode bytes text h =
    ap (λ (x : Option (List ℕ)). joined x (Some [])) h ∙ ap (λ (x : List ℕ). Some x) (append-nil text)

-- A complete segment more.
pub segment_after : (version : Version) (plain mixed : Bool) (lane : ℕ) (parts : List Part) (before : List ℕ) (mode : Mode) (bytes text : List ℕ) →
    AreComplete version plain mixed lane parts before → OpenReads version plain mixed (force_of lane) (Some mode) bytes text →
    AreComplete version plain mixed lane (parts ++ segment mode bytes ∷ []) (before ++ text)
unfolding force_after has_no_designator
segment_after version plain mixed lane parts before mode bytes text h k = record {
  inside = h.inside;
  suits = h.suits;
  read = parts_append plain mixed None parts (segment mode bytes ∷ []) before text h.read
      (one_segment plain mixed (force_after None parts) mode bytes text (rw h.force k.0));
  force = force_append None parts (segment mode bytes ∷ []) ∙ h.force;
  had = All-append (HasPart version) parts (segment mode bytes ∷ []) h.had
      (All-cons (HasPart version) (segment mode bytes) [] (segment_had version mode bytes k.2 k.1) (All-nil (HasPart version)));
  plain_is = λ e. plain_append parts (segment mode bytes ∷ []) (h.plain_is e) refl;
  mixed_is = λ e. elim (kanji_append parts (segment mode bytes ∷ []) e) [ inl w ↦ h.mixed_is w | inr w ↦ k.3 (one_kanji mode bytes w) ];
}

by_mode : (version : Version) (plain mixed : Bool) (lane : ℕ) (parts : List Part) (mode : Option Mode) (bytes before opened : List ℕ) →
    AreComplete version plain mixed lane parts before → OpenReads version plain mixed (force_of lane) mode bytes opened →
    let written : Written = record { parts = parts; mode = mode; bytes = bytes } in
    AreComplete version plain mixed lane (all_parts written) (before ++ opened)
by_mode version plain mixed lane parts None bytes before opened h k = rw k.1 (rw (append-nil before) h)
by_mode version plain mixed lane parts (Some mode) bytes before opened h k =
    segment_after version plain mixed lane parts before mode bytes opened h k

-- All parts of a plan.
pub all_complete : (version : Version) (plain mixed : Bool) (lane : ℕ) (written : Written) (text : List ℕ) →
    IsDraft version plain mixed lane written text → AreComplete version plain mixed lane (all_parts written) text
all_complete version plain mixed lane written text h =
    subst (λ (t : List ℕ). AreComplete version plain mixed lane (all_parts written) t) (sym h.text_is)
    (by_mode version plain mixed lane written.parts written.mode written.bytes h.before h.opened h.complete h.open_reads)

known_lane : (to number : ℕ) → 1 ≤ to → to ≤ 15 → force_of to ≡ Some number → is_known number ≡ true
unfolding force_of
known_lane to number low high h = grind (arith, common_steps)

pub lane_force : (to : ℕ) → 1 ≤ to → to ≤ 15 → (number : ℕ) × (force_of to ≡ Some number)
unfolding force_of
lane_force to low high = (
  if is_between 1 9 to then to + 2
      else (if to == 10 then 13
      else (if to == 11 then 15 else (if is_between 12 13 to then to + 5 else (if to == 14 then 20 else 26)))),
  grind (arith, common_steps),
)

one_designator : (plain mixed : Bool) (force : Option ℕ) (number : ℕ) → is_known number ≡ true →
    read_parts plain mixed force (designator number ∷ []) ≡ Some []
unfolding read_parts
one_designator plain mixed force number h = cond-true (is_known number) (Some []) None h

-- A designator more.
pub designated : (version : Version) (plain mixed : Bool) (lane : ℕ) (parts : List Part) (text : List ℕ) (to number : ℕ) →
    AreComplete version plain mixed lane parts text → 1 ≤ to → to ≤ 15 → force_of to ≡ Some number →
    HasPart version (designator number) → plain ≡ false →
    AreComplete version plain mixed to (parts ++ designator number ∷ []) text
unfolding force_after has_kanji
designated version plain mixed lane parts text to number h low high is had differs = record {
  inside = omega arith;
  suits = (λ e. absurd (omega arith), λ e. absurd (omega arith));
  read = parts_append plain mixed None parts (designator number ∷ []) text [] h.read
      (one_designator plain mixed (force_after None parts) number (known_lane to number low high is))
      ∙ ap (λ (x : List ℕ). Some x) (append-nil text);
  force = force_append None parts (designator number ∷ []) ∙ sym is;
  had = All-append (HasPart version) parts (designator number ∷ []) h.had
      (All-cons (HasPart version) (designator number) [] had (All-nil (HasPart version)));
  plain_is = λ e. absurd (let no : true ≡ false = sym e ∙ differs in cc);
  mixed_is = λ e. elim (kanji_append parts (designator number ∷ []) e) [ inl w ↦ h.mixed_is w | inr w ↦ absurd (cc) ];
}

-- ---- A character more

unit_some : (rules : Rules) (facts : Facts) (lane : ℕ) (mode : Mode) → can_write rules facts lane mode ≡ true → char_size facts lane mode ≢ 0
unit_some rules facts lane Numeric h = λ e. omega arith
unit_some rules facts lane Alphanumeric h = λ e. omega arith
unit_some rules facts lane Byte h = grind (arith, common_steps)
unit_some rules facts lane Kanji h = λ e. omega arith

kanji_lane_is : (rules : Rules) (facts : Facts) (lane : ℕ) (mode : Mode) → can_write rules facts lane mode ≡ true → mode ≡ Kanji →
    rules.kanji_lane ≡ lane
kanji_lane_is rules facts lane Numeric h e = absurd (cc)
kanji_lane_is rules facts lane Alphanumeric h e = absurd (cc)
kanji_lane_is rules facts lane Byte h e = absurd (cc)
kanji_lane_is rules facts lane Kanji h e = grind (arith, common_steps)

some_bytes : (bytes : List ℕ) (size : ℕ) → length bytes ≡ size → size ≢ 0 → bytes ≢ []
some_bytes bytes size is some e = some (sym is ∙ ap (λ (x : List ℕ). length x) e)

some_after : (front bytes : List ℕ) → front ≢ [] → front ++ bytes ≢ []
some_after [] bytes some e = some refl
some_after (x ∷ front) bytes some e = cc

module _ (version : Version) (plain mixed : Bool) (rules : Rules) (are : AreRules version plain mixed rules) where
  -- A new segment of one character.
  begun : (facts : Facts) (c lane : ℕ) (mode : Mode) (parts : List Part) (text : List ℕ) (new : Written) →
      AreComplete version plain mixed lane parts text → can_write rules facts lane mode ≡ true → HasMode version mode →
      AddsBytes lane mode c (char_size facts lane mode) (segment_opened parts mode) new → IsDraft version plain mixed lane new (text ++ c ∷ [])
  begun facts c lane mode parts text new h allowed has adds =
      let kanji = λ (e : mode ≡ Kanji). are.lanes.kanji lane h.inside (kanji_lane_is rules facts lane mode allowed e) in
      let some = some_bytes adds.bytes (char_size facts lane mode) adds.size_is (unit_some rules facts lane mode allowed) in
      subst (λ (w : Written). IsDraft version plain mixed lane w (text ++ c ∷ [])) (sym adds.new_is) (record {
        before = text;
        opened = c ∷ [];
        complete = h;
        open_reads = (adds.read plain mixed h.suits (λ e. (kanji e).0), some, has, λ e. (kanji e).1);
        text_is = refl;
      })

  continued : (facts : Facts) (c lane : ℕ) (mode : Mode) (old new : Written) (text : List ℕ) → IsDraft version plain mixed lane old text →
      old.mode ≡ Some mode → can_write rules facts lane mode ≡ true → AddsBytes lane mode c (char_size facts lane mode) old new →
      IsDraft version plain mixed lane new (text ++ c ∷ [])
  continued facts c lane mode old new text h is allowed adds =
      let kanji = λ (e : mode ≡ Kanji). are.lanes.kanji lane h.complete.inside (kanji_lane_is rules facts lane mode allowed e) in
      let reads = subst (λ (m : Option Mode). OpenReads version plain mixed (force_of lane) m old.bytes h.opened) is h.open_reads in
      subst (λ (w : Written). IsDraft version plain mixed lane w (text ++ c ∷ [])) (sym adds.new_is) (record {
        before = h.before;
        opened = h.opened ++ c ∷ [];
        complete = h.complete;
        open_reads = subst (λ (m : Option Mode). OpenReads version plain mixed (force_of lane) m (old.bytes ++ adds.bytes) (h.opened ++ c ∷ [])) (sym is) (
          segment_append plain mixed (force_of lane) mode old.bytes adds.bytes h.opened (c ∷ []) reads.0
              (adds.read plain mixed h.complete.suits (λ e. (kanji e).0)),
          some_after old.bytes adds.bytes reads.1,
          reads.2,
          reads.3,
        );
        text_is = ap (λ (x : List ℕ). x ++ c ∷ []) h.text_is ∙ append_assoc h.before h.opened (c ∷ []);
      })

  -- ---- Weights

  go_weight : (facts : Facts) (lane : ℕ) (rest : Rest) (mode : Mode) (parts : List Part) (bytes more : List ℕ) →
      length more ≡ char_size facts lane mode → go_on rules facts lane rest mode (length bytes) < LIMIT →
      weight_of version (parts ++ segment mode (bytes ++ more) ∷ []) + onward rest mode (length (bytes ++ more))
      ≡ weight_of version (parts ++ segment mode bytes ∷ []) + go_on rules facts lane rest mode (length bytes)
  go_weight facts lane rest mode parts bytes more size below =
      let limit = below_limit (can_write rules facts lane mode)
      (BIT * next_bits facts lane mode (length bytes) + onward rest mode (length bytes + 1)) below in
      let long : length (bytes ++ more) ≡ length bytes + char_size facts lane mode = omega (arith, length-append bytes more, size) in
      let onward_same : onward rest mode (length (bytes ++ more)) ≡ onward rest mode (length bytes + 1) =
      ap (λ (k : ℕ). onward rest mode k) long ∙ sym (onward_more facts lane rest mode (length bytes)) in
      let bits_same : bits_in mode (length (bytes ++ more)) ≡ bits_in mode (length bytes + char_size facts lane mode) =
      ap (λ (k : ℕ). bits_in mode k) long in
      omega (
        arith,
        weight_append version parts (segment mode (bytes ++ more) ∷ []),
        weight_append version parts (segment mode bytes ∷ []),
        limit.1,
        onward_same,
        bits_same,
        bits_more facts lane mode (length bytes),
      )

  begin_weight : (facts : Facts) (lane : ℕ) (rest : Rest) (mode : Mode) (parts : List Part) (bytes : List ℕ) → HasMode version mode →
      length bytes ≡ char_size facts lane mode → begin_in rules facts lane rest mode < LIMIT →
      weight_of version (parts ++ segment mode bytes ∷ []) + onward rest mode (length bytes)
      ≡ weight_of version parts + begin_in rules facts lane rest mode
  begin_weight facts lane rest mode parts bytes has size below =
      let limit = below_limit (can_write rules facts lane mode)
      (header_weight rules mode + (BIT * next_bits facts lane mode 0 + onward rest mode 1)) below in
      let onward_same : onward rest mode (length bytes) ≡ onward rest mode 1 =
      ap (λ (k : ℕ). onward rest mode k) size ∙ sym (first_is facts lane rest mode) in
      let bits_same : bits_in mode (length bytes) ≡ bits_in mode (char_size facts lane mode) = ap (λ (k : ℕ). bits_in mode k) size in
      omega (
        arith,
        weight_append version parts (segment mode bytes ∷ []),
        limit.1,
        onward_same,
        bits_same,
        first_bits facts lane mode,
        are.headers mode has,
      )

  header_below : (facts : Facts) (lane : ℕ) (rest : Rest) (mode : Mode) → begin_in rules facts lane rest mode < LIMIT → HasMode version mode
  header_below facts lane rest mode below =
      let limit = below_limit (can_write rules facts lane mode)
      (header_weight rules mode + (BIT * next_bits facts lane mode 0 + onward rest mode 1)) below in
      are.modes mode (omega (arith, limit.1, below))

  -- ---- Steps

  abbrev pub Keeps : List Rest → ℕ → Written → Written → List ℕ → ℕ → ℕ → Type 0
  Keeps row to old new text c weight =
      IsDraft version plain mixed to new (text ++ c ∷ [])
      × (weight_of version (all_parts new) + open_value (get_or row to no_rest) new.mode (length new.bytes)
      ≡ weight_of version (all_parts old) + weight)

  go_value : (facts : Facts) (lane : ℕ) (rest : Rest) (parts : List Part) (opened : Option Mode) (mode : Mode) (bytes more : List ℕ) →
      opened ≡ Some mode → length more ≡ char_size facts lane mode → open_weight rules facts lane rest opened (length bytes) < LIMIT →
      let old : Written = record { parts = parts; mode = opened; bytes = bytes } in
      let new : Written = record { parts = parts; mode = opened; bytes = bytes ++ more } in
      weight_of version (all_parts new) + open_value rest opened (length (bytes ++ more))
      ≡ weight_of version (all_parts old) + open_weight rules facts lane rest opened (length bytes)
  go_value facts lane rest parts None mode bytes more is size below = absurd (let e : None ≡ Some mode = is in cc)
  go_value facts lane rest parts (Some k) mode bytes more is size below =
      let e : k ≡ mode = cc in
      go_weight facts lane rest k parts bytes more (subst (λ (m : Mode). length more ≡ char_size facts lane m) (sym e) size) below

  keeps_go : (facts : Facts) (row : List Rest) (c lane : ℕ) (mode : Mode) (old new : Written) (text : List ℕ) →
      IsDraft version plain mixed lane old text → old.mode ≡ Some mode → can_write rules facts lane mode ≡ true →
      AddsBytes lane mode c (char_size facts lane mode) old new →
      open_weight rules facts lane (get_or row lane no_rest) old.mode (length old.bytes) < LIMIT →
      Keeps row lane old new text c (open_weight rules facts lane (get_or row lane no_rest) old.mode (length old.bytes))
  keeps_go facts row c lane mode old new text h is allowed adds below = (
    continued facts c lane mode old new text h is allowed adds,
    subst (λ (w : Written). weight_of version (all_parts w) + open_value (get_or row lane no_rest) w.mode (length w.bytes)
        ≡ weight_of version (all_parts old) + open_weight rules facts lane (get_or row lane no_rest) old.mode (length old.bytes)) (sym adds.new_is)
        (go_value facts lane (get_or row lane no_rest) old.parts old.mode mode old.bytes adds.bytes is adds.size_is below),
  )

  keeps_begin : (facts : Facts) (row : List Rest) (c lane : ℕ) (mode : Mode) (old new : Written) (parts : List Part) (text : List ℕ) →
      AreComplete version plain mixed lane parts text →
      AddsBytes lane mode c (char_size facts lane mode) (segment_opened parts mode) new →
      begin_in rules facts lane (get_or row lane no_rest) mode < LIMIT →
      IsDraft version plain mixed lane new (text ++ c ∷ [])
      × (weight_of version (all_parts new) + open_value (get_or row lane no_rest) new.mode (length new.bytes)
      ≡ weight_of version parts + begin_in rules facts lane (get_or row lane no_rest) mode)
  keeps_begin facts row c lane mode old new parts text h adds below =
      let limit = below_limit (can_write rules facts lane mode)
      (header_weight rules mode + (BIT * next_bits facts lane mode 0 + onward (get_or row lane no_rest) mode 1)) below in
      let has = header_below facts lane (get_or row lane no_rest) mode below in (
        begun facts c lane mode parts text new h limit.0 has adds,
        subst (λ (w : Written). weight_of version (all_parts w) + open_value (get_or row lane no_rest) w.mode (length w.bytes)
            ≡ weight_of version parts + begin_in rules facts lane (get_or row lane no_rest) mode) (sym adds.new_is)
            (begin_weight facts lane (get_or row lane no_rest) mode parts adds.bytes has adds.size_is below),
      )

  pub step : (facts : Facts) (row : List Rest) (c lane : ℕ) (choice : Choice) (old new : Written) (text : List ℕ) →
      IsDraft version plain mixed lane old text → CanBe rules facts lane old.mode choice → Makes facts lane c choice old new →
      choice_weight rules facts row lane old.mode (length old.bytes) choice < LIMIT →
      Keeps row (lane_after lane choice) old new text c (choice_weight rules facts row lane old.mode (length old.bytes) choice)
  step facts row c lane GoOn old new text h can makes below =
      keeps_go facts row c lane can.0 old new text h can.1 can.2 (makes can.0 can.1) below
  step facts row c lane (Begin mode) old new text h can makes below =
      keeps_begin facts row c lane mode old new (all_parts old) text (all_complete version plain mixed lane old text h) makes below
  step facts row c lane (Change to mode) old new text h can makes below =
      let limit = below_limit true (rules.designator + begin_in rules facts to (get_or row to no_rest) mode) below in
      let allowed = are.designators (omega (arith, limit.1, below)) in
      let number = lane_force to can.0 can.1 in
      let parts = all_parts old ++ designator number.0 ∷ [] in
      let complete = designated version plain mixed lane (all_parts old) text to number.0 (all_complete version plain mixed lane old text h)
      can.0 can.1 number.1 (allowed.1 number.0) allowed.2 in
      let kept = keeps_begin facts row c to mode old new parts text complete (makes number.0 number.1) (omega (arith, limit.1, below)) in
      (kept.0, omega (arith, kept.1, limit.1, weight_append version (all_parts old) (designator number.0 ∷ []), allowed.0))
