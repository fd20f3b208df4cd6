-- No parts that are read as a text weigh less than what is looked for.
use Rattle.std.proofs.Common.{◌≡◌, ◌≢◌, ℕ, ◌+◌, ◌*◌, ◌-◌, ◌≤◌, ◌<◌, Bool, true, false, ◌==◌, List}
use Rattle.std.proofs.Common.{[], ◌∷◌, ◌++◌, length, refl, sym, subst, arith}
use Rattle.std.specs.Prelude.{Option, None, Some, All, if◌then◌else◌}
use Rattle.std.proofs.lemmas.Grind.{common_steps}
use Rattle.std.proofs.lemmas.List.Elements.{All-head, All-tail}
use Rattle.qrcode_base.specs.Characters.{is_between}
use Rattle.qrcode_base.specs.Modes.{HasMode}
use Rattle.qrcode_base.specs.declared.types.Mode.{Mode}
use Rattle.qrcode_base.specs.declared.types.Mode.TheVariants.{Numeric, Alphanumeric, Byte, Kanji}
use Rattle.qrcode_base.specs.declared.types.Version.{Version}
use Rattle.qrcode_base.specs.declared.types.Version.TheVariants.{Normal, Micro}
use Rattle.character_sets.specs.Reading.{Part, designator, segment, is_known, joined, read_parts}
use Rattle.character_sets.specs.Reading.{read_segment}
use Rattle.text_plans.specs.Costs.{HasPart, bits_of_part}
use Rattle.text_plans.specs.Lanes.{AreAllFacts, SuitsMixed, force_of}
pub use Rattle.text_plans.specs.Ways.{HasHeaders, weight_of}
use Rattle.text_plans.specs.Search.{next_bits, onward, header_weight, can_write}
use Rattle.text_plans.specs.declared.facts.Facts.{Facts}
use Rattle.text_plans.specs.declared.row.Rest.{Rest}
use Rattle.text_plans.specs.declared.row.TheConstants.{BIT}
use Rattle.text_plans.specs.declared.rules.Rules.{Rules}
use Rattle.text_plans.proofs.Begins.{begins, segment_none}
use Rattle.text_plans.proofs.Rows.{entry, entry_end, fresh_begin, fresh_switch, onward_fresh}
use Rattle.text_plans.proofs.Rows.{onward_go, weight_true}
use Rattle.text_plans.proofs.Weights.{bits_in, bits_more, bits_rise, onward_more, char_size}

-- Parts that the rules have: designators only where these have a weight, Kanji segments only in
-- their lane.
abbrev pub Suits : Rules → ℕ → List Part → Type 0
Suits rules lane [] = Unit {0}
Suits rules lane (designator number ∷ parts) =
    (rules.designator ≡ BIT * 12 + 1) × ((to : ℕ) → force_of to ≡ Some number → Suits rules to parts)
Suits rules lane (segment mode bytes ∷ parts) = (mode ≡ Kanji → rules.kanji_lane ≡ lane) × Suits rules lane parts

-- ---- Designators

-- The lane of a designator.
lane_of : ℕ → ℕ
lane_of number =
    if is_between 3 11 number then number - 2
    else (if number == 13 then 10
    else (if number == 15 then 11
    else (if is_between 17 18 number then number - 5
    else (if number == 20 then 14 else 15))))

pub lane_known : (number : ℕ) → is_known number ≡ true → (lane : ℕ) × (1 ≤ lane) × (lane ≤ 15) × (force_of lane ≡ Some number)
unfolding lane_of force_of
lane_known number h = (lane_of number, grind (arith, common_steps), grind (arith, common_steps), grind (arith, common_steps))

pub if_parts : (b : Bool) (x : Option (List ℕ)) (cs : List ℕ) → (if b then x else None) ≡ Some cs → (b ≡ true) × (x ≡ Some cs)
if_parts true x cs h = (refl, h)
if_parts false x cs h = absurd (let e : None ≡ Some cs = h in cc)

pub joined_is : (x y : Option (List ℕ)) (cs : List ℕ) → joined x y ≡ Some cs →
    (front : List ℕ) × (text : List ℕ) × (x ≡ Some front) × (y ≡ Some text) × (cs ≡ front ++ text)
joined_is (Some front) (Some text) cs h = (front, text, refl, refl, cc)
joined_is (Some front) None cs h = absurd (let e : None ≡ Some cs = h in cc)
joined_is None y cs h = absurd (let e : None ≡ Some cs = h in cc)

pub had_segment : (version : Version) (mode : Mode) (bytes : List ℕ) → HasPart version (segment mode bytes) →
    HasMode version mode × (bytes ≢ [])
had_segment (Normal n) mode bytes h = h
had_segment (Micro n) mode bytes h = h

pub first_is : (facts : Facts) (lane : ℕ) (rest : Rest) (mode : Mode) → onward rest mode 1 ≡ onward rest mode (char_size facts lane mode)
first_is facts lane rest Numeric = refl
first_is facts lane rest Alphanumeric = refl
first_is facts lane rest Byte = refl
first_is facts lane rest Kanji = refl

pub first_bits : (facts : Facts) (lane : ℕ) (mode : Mode) → next_bits facts lane mode 0 ≡ bits_in mode (char_size facts lane mode)
first_bits facts lane Numeric = refl
first_bits facts lane Alphanumeric = refl
first_bits facts lane Byte = refl
first_bits facts lane Kanji = refl

-- The lanes of designators are in all symbols.
pub inner : (mixed : Bool) (lane : ℕ) → 1 ≤ lane → lane ≤ 15 → SuitsMixed mixed lane
inner mixed lane low high = (λ e. absurd (omega arith), λ e. absurd (omega arith))

module _ (plain mixed : Bool) (rules : Rules) where
  changed : (lane to : ℕ) (version : Version) (number : ℕ) (parts : List Part) (all : List Facts) → lane < 17 → 1 ≤ to → to ≤ 15 →
      rules.designator ≡ BIT * 12 + 1 → (entry rules all to).fresh ≤ weight_of version parts →
      (entry rules all lane).fresh ≤ weight_of version (designator number ∷ parts)
  changed lane to version number parts [] inside low high is h = rw (entry_end rules lane inside) (omega arith)
  changed lane to (Normal n) number parts (facts ∷ all) inside low high is h = omega (arith, fresh_switch rules facts all lane to inside low high, h, is)
  changed lane to (Micro n) number parts (facts ∷ all) inside low high is h = omega (arith, fresh_switch rules facts all lane to inside low high, h, is)

  -- ---- Segments

  -- What goes on with a segment weighs no less.
  open_bound : (lane : ℕ) → SuitsMixed mixed lane → lane < 17 → (mode : Mode) → (mode ≡ Kanji → rules.kanji_lane ≡ lane) →
      (later : List ℕ) (weight : ℕ) →
      ((all : List Facts) → AreAllFacts later all → (entry rules all lane).fresh ≤ weight) →
      (front : List ℕ) (all : List Facts) (bytes : List ℕ) (count : ℕ) → AreAllFacts (front ++ later) all →
      read_segment plain mixed (force_of lane) mode bytes ≡ Some front →
      onward (entry rules all lane) mode count + BIT * bits_in mode count ≤ BIT * bits_in mode (count + length bytes) + weight
  open_bound lane suits inside mode only later weight after [] all bytes count known h =
      omega (arith, onward_fresh rules all lane mode count inside, after all known, bits_rise mode count (count + length bytes) (omega arith))
  open_bound lane suits inside mode only later weight after (c ∷ front) [] bytes count known h = absurd known
  open_bound lane suits inside mode only later weight after (c ∷ front) (facts ∷ all) bytes count known h =
      let b = begins plain mixed rules lane suits inside facts c known.0 mode bytes front only h in
      let next = open_bound lane suits inside mode only later weight after front all b.rest (count + char_size facts lane mode) known.1 b.read in
      let rest = entry rules all lane in
      omega (
        arith,
        next,
        onward_go rules facts all lane mode count inside,
        weight_true (can_write rules facts lane mode) (BIT * next_bits facts lane mode count + onward rest mode (count + 1)) b.allowed,
        onward_more facts lane rest mode count,
        bits_more facts lane mode count,
        bits_rise mode (count + char_size facts lane mode + length b.rest) (count + length bytes) (omega (arith, b.size)),
      )

  segment_bound : (version : Version) → HasHeaders version rules → (lane : ℕ) → SuitsMixed mixed lane → lane < 17 →
      (mode : Mode) → (mode ≡ Kanji → rules.kanji_lane ≡ lane) → (later : List ℕ) (weight : ℕ) →
      ((all : List Facts) → AreAllFacts later all → (entry rules all lane).fresh ≤ weight) →
      (front : List ℕ) (all : List Facts) (bytes : List ℕ) → HasPart version (segment mode bytes) → AreAllFacts (front ++ later) all →
      read_segment plain mixed (force_of lane) mode bytes ≡ Some front →
      (entry rules all lane).fresh ≤ BIT * bits_of_part version (segment mode bytes) + 1 + weight
  segment_bound version headers lane suits inside mode only later weight after [] all bytes had known h =
      absurd ((had_segment version mode bytes had).1 (segment_none plain mixed (force_of lane) mode bytes h))
  segment_bound version headers lane suits inside mode only later weight after (c ∷ front) [] bytes had known h = absurd known
  segment_bound version headers lane suits inside mode only later weight after (c ∷ front) (facts ∷ all) bytes had known h =
      let b = begins plain mixed rules lane suits inside facts c known.0 mode bytes front only h in
      let next = open_bound lane suits inside mode only later weight after front all b.rest (char_size facts lane mode) known.1 b.read in
      let rest = entry rules all lane in
      let begin = header_weight rules mode + (BIT * next_bits facts lane mode 0 + onward rest mode 1) in
      omega (
        arith,
        next,
        fresh_begin rules facts all lane mode inside,
        headers mode (had_segment version mode bytes had).0,
        weight_true (can_write rules facts lane mode) begin b.allowed,
        first_is facts lane rest mode,
        first_bits facts lane mode,
        bits_rise mode (char_size facts lane mode + length b.rest) (length bytes) b.size,
      )

  -- ---- All parts

  pub parts_bound : (version : Version) → HasHeaders version rules → (parts : List Part) (lane : ℕ) (text : List ℕ) (all : List Facts) →
      SuitsMixed mixed lane → lane < 17 → AreAllFacts text all → All (HasPart version) parts → Suits rules lane parts →
      read_parts plain mixed (force_of lane) parts ≡ Some text → (entry rules all lane).fresh ≤ weight_of version parts
  unfolding read_parts
  parts_bound version headers [] lane text [] suits inside known had may h = rw (entry_end rules lane inside) (omega arith)
  parts_bound version headers [] lane [] (facts ∷ all) suits inside known had may h = absurd known
  parts_bound version headers [] lane (c ∷ text) (facts ∷ all) suits inside known had may h =
      absurd (let e : Some [] ≡ Some (c ∷ text) = h in cc)
  parts_bound version headers (designator number ∷ parts) lane text all suits inside known had may h =
      let p = if_parts (is_known number) (read_parts plain mixed (Some number) parts) text h in
      let to = lane_known number p.0 in
      let within : to.0 < 17 = omega (arith, to.2) in
      let read = subst (λ (force : Option ℕ). read_parts plain mixed force parts ≡ Some text) (sym to.3) p.1 in
      let later = parts_bound version headers parts to.0 text all (inner mixed to.0 to.1 to.2) within known
      (All-tail (HasPart version) (designator number) parts had) (may.1 to.0 to.3) read in
      changed lane to.0 version number parts all inside to.1 to.2 may.0 later
  parts_bound version headers (segment mode bytes ∷ parts) lane text all suits inside known had may h =
      let w = joined_is (read_segment plain mixed (force_of lane) mode bytes) (read_parts plain mixed (force_of lane) parts) text h in
      omega (
        arith,
        segment_bound version headers lane suits inside mode may.0 w.1 (weight_of version parts)
            (λ after right. parts_bound version headers parts lane w.1 after suits inside right
            (All-tail (HasPart version) (segment mode bytes) parts had) may.1 w.3)
            w.0 all bytes (All-head (HasPart version) (segment mode bytes) parts had)
            (subst (λ (t : List ℕ). AreAllFacts t all) w.4 known) w.2,
      )
