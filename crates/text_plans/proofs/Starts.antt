-- Where a plan begins, and what no parts weigh less than in a manner.
use Rattle.std.proofs.Common.{◌≡◌, ℕ, ◌+◌, ◌*◌, ◌/◌, ◌≤◌, ◌<◌, Bool, true, false, inl, inr, List}
use Rattle.std.proofs.Common.{[], ◌∷◌, ◌++◌, ◌-◌, drop, length, get_or, refl, ap, sym, ◌∙◌, subst}
use Rattle.std.proofs.Common.{arith}
use Rattle.std.specs.Prelude.{Option, None, Some, All, if◌then◌else◌}
use Rattle.std.proofs.lemmas.Bool.{cases_Bool}
use Rattle.std.proofs.lemmas.List.Elements.{All-head, All-tail}
use Rattle.qrcode_base.specs.declared.types.Version.{Version}
use Rattle.qrcode_base.specs.declared.types.Mode.TheVariants.{Numeric, Alphanumeric, Byte, Kanji}
use Rattle.character_sets.specs.Reading.{Part, designator, segment, is_known, has_kanji}
use Rattle.character_sets.specs.Reading.{has_no_designator, joined, read_bytes, read_parts}
use Rattle.character_sets.specs.Reading.{read_segment}
use Rattle.text_plans.specs.Costs.{AreTextParts, HasPart, bits_of_parts}
use Rattle.text_plans.specs.Keeping.{IsRowOf, KeepsEnough, switch_kept}
use Rattle.text_plans.specs.Lanes.{AreAllFacts, force_of}
use Rattle.text_plans.specs.Manners.{AreLeastIn, ArePartsIn, BeginsAsIn, begins_with_designator}
use Rattle.text_plans.specs.Manners.{mixed_in, plain_in}
use Rattle.text_plans.specs.Search.{begin_in, rests_of, switch_least, weight_if}
use Rattle.text_plans.specs.Starts.{BeginWith, HasFront, IsStart, IsStartIn, front_in, front_of}
use Rattle.text_plans.specs.Starts.{weight_as_in, weight_from}
use Rattle.text_plans.specs.Switches.{IsSwitch}
use Rattle.text_plans.specs.Tables.{AreRowsOf, IsWeighed, first_weight}
use Rattle.text_plans.specs.Ways.{AreRules, AreRulesOf, mixed_of, plain_of, weight_of}
use Rattle.text_plans.specs.declared.facts.Facts.{Facts}
use Rattle.text_plans.specs.declared.row.Rest.{Rest}
use Rattle.text_plans.specs.declared.row.Switch.{Switch}
use Rattle.text_plans.specs.declared.row.TheConstants.{BIT, LIMIT}
use Rattle.text_plans.specs.declared.rules.Manner.{Manner}
use Rattle.text_plans.specs.declared.rules.Manner.TheVariants.{Ascii, Paired, Designated}
use Rattle.text_plans.specs.declared.rules.Rules.{Rules}
use Rattle.text_plans.proofs.AllWays.{bound, parts_some, quotient, reads_so, small_bits, suits_bare}
use Rattle.text_plans.proofs.AllWays.{suits_mixed, suits_plain}
use Rattle.text_plans.proofs.Bounds.{if_parts, inner, lane_known, parts_bound}
use Rattle.text_plans.proofs.Choosing.{below_limit}
use Rattle.text_plans.proofs.Kept.{kept_is}
use Rattle.text_plans.proofs.Rows.{begin_below, entry, entry_end, entry_step, fresh_is}
use Rattle.text_plans.proofs.Rows.{switch_below, switch_first}
use Rattle.text_plans.proofs.Steps.{lane_force}

-- ---- The lane in which a plan begins

module _ (version : Version) (plain mixed : Bool) (rules : Rules) (are : AreRules version plain mixed rules) where
  -- In the lane of the rules there is no designator in front.
  pub weight_at_start : (all : List Facts) → weight_from version rules all rules.start ≡ first_weight rules all
  weight_at_start all =
      omega (arith, ap (λ (force : Option ℕ). weight_of version (front_in force)) are.lanes.no_force)

  -- The lane of the least designator: what follows in it has the weight without the designator.
  pub switch_start : (f : Facts) (all : List Facts) (row : List Rest) (found : Switch) → KeepsEnough rules (f ∷ all) → IsRowOf rules all row →
      found.weight ≡ switch_kept rules f row 15 → found.weight < LIMIT → IsSwitch rules f row found →
      IsStart rules found.lane × (found.weight ≡ weight_from version rules (f ∷ all) found.lane)
  switch_start f all row found enough is least small h =
      let inside : found.lane < 17 = omega (arith, h.to) in
      let rest = entry rules all found.lane in
      let weight : found.weight ≡ weight_if true (rules.designator + begin_in rules f found.lane rest found.mode) =
      h.weight ∙ ap (λ (r : Rest). weight_if true (rules.designator + begin_in rules f found.lane r found.mode)) (is.1 found.lane inside h.kept) in
      let switched : found.weight ≡ switch_least rules f (rests_of rules all) 15 = least ∙ kept_is rules f all row is enough in
      let limit = below_limit true (rules.designator + begin_in rules f found.lane rest found.mode) (omega (arith, weight, small)) in
      let below : rules.designator < LIMIT = omega (arith, limit.1, weight, small) in
      let allowed = are.designators below in
      let number = lane_force found.lane h.from h.to in
      let front = ap (λ (force : Option ℕ). weight_of version (front_in force)) number.1 in
      let fresh = ap (λ (r : Rest). r.fresh) (entry_step rules f all found.lane inside)
      ∙ fresh_is rules f (switch_least rules f (rests_of rules all) 15) found.lane rest in (
        (h.kept, inr (h.from, h.to, below)),
        omega (
          arith,
          weight,
          limit.1,
          switched,
          front,
          allowed.0,
          fresh,
          begin_below rules f found.lane rest found.mode,
          switch_below rules f (rests_of rules all) 15 found.lane h.from h.to,
        ),
      )

-- ---- The start of a manner

module _ (rules : Rules) (are : AreRulesOf rules) where
  -- A plan without a designator in front begins in the lane of the rules.
  pub plain_start : (manner : Manner) (all : List Facts) (weight : ℕ) → KeepsEnough rules all → weight ≡ first_weight rules all →
      HasFront manner rules.start weight → IsStartIn manner rules all rules.start weight
  plain_start manner all weight enough is front = record {
    may = (enough.0, inl refl);
    inside = are.lanes.inside;
    from = is ∙ sym (weight_at_start rules.version (plain_of rules.way) (mixed_of rules.way) rules are all);
    front = front;
  }

  -- Nothing has no weight.
  pub no_weight : (all : List Facts) (weight : ℕ) → weight ≡ first_weight rules all → length all ≡ 0 →
      (weight ≡ weight_as_in Designated rules all) × (weight ≡ 0)
  no_weight [] weight is none = (is, is ∙ ap (λ (r : Rest). r.fresh) (entry_end rules rules.start are.lanes.inside))
  no_weight (f ∷ all) weight is none = absurd (omega (arith, none))

  -- The least designator in front of the first character.
  pub first_switch : (all : List Facts) (rows : List (List Rest)) (d : Facts) (found : Switch) → AreRowsOf rules all rows → KeepsEnough rules all →
      0 < length all → found.weight ≡ switch_kept rules (get_or all 0 d) (get_or rows (length all - 1) []) 15 →
      (found.weight < LIMIT → IsSwitch rules (get_or all 0 d) (get_or rows (length all - 1) []) found) →
      (found.weight ≡ weight_as_in Designated rules all)
      × (found.weight < LIMIT → IsStartIn Designated rules all found.lane found.weight)
  first_switch [] rows d found is enough some least switch = absurd (omega (arith, some))
  first_switch (f ∷ all) rows d found is enough some least switch =
      let last = length (f ∷ all) - 1 in
      let row = get_or rows last [] in
      let one : length (f ∷ all) - last ≡ 1 = omega arith in
      let here : IsRowOf rules all row = subst (λ (m : ℕ). IsRowOf rules (drop m (f ∷ all)) row) one (is.1 last (omega arith)) in (
        least ∙ kept_is rules f all row here enough,
        λ small.
            let h = switch small in
            let w = switch_start rules.version (plain_of rules.way) (mixed_of rules.way) rules are f all row found enough here least small h in
            record { may = w.0; inside = omega (arith, h.to); from = w.1; front = inl (h.from, h.to) },
      )

-- ---- No parts weigh less

module _ (version : Version) (rules : Rules) (are : AreRules version false true rules) where
  nothing_left : 0 ≡ first_weight rules []
  nothing_left = sym (ap (λ (r : Rest). r.fresh) (entry_end rules rules.start are.lanes.inside))

  -- A designator and what follows it weigh no less than what begins with the least one.
  after_designator : (number to : ℕ) (parts : List Part) (f : Facts) (all : List Facts) → 1 ≤ to → to ≤ 15 → rules.designator ≡ BIT * 12 + 1 →
      (entry rules (f ∷ all) to).fresh ≤ weight_of version parts →
      switch_least rules f (rests_of rules all) 15 ≤ weight_of version (designator number ∷ parts)
  after_designator number to parts f all low high is h = omega (arith, switch_first rules f all to low high, h, is)

  designated_bound : (parts : List Part) (text : List ℕ) (all : List Facts) → AreAllFacts text all → All (HasPart version) parts →
      begins_with_designator parts ≡ true → read_parts false true None parts ≡ Some text → weight_as_in Designated rules all ≤ weight_of version parts
  unfolding read_parts begins_with_designator
  designated_bound parts text [] known had b h = omega (arith, nothing_left)
  designated_bound [] [] (f ∷ all) known had b h = absurd known
  designated_bound [] (c ∷ text) (f ∷ all) known had b h = absurd (let e : Some [] ≡ Some (c ∷ text) = h in cc)
  designated_bound (segment mode bytes ∷ parts) text (f ∷ all) known had b h = absurd (cc)
  designated_bound (designator number ∷ parts) text (f ∷ all) known had b h =
      let p = if_parts (is_known number) (read_parts false true (Some number) parts) text h in
      let to = lane_known number p.0 in
      let within : to.0 < 17 = omega (arith, to.2) in
      let read = subst (λ (force : Option ℕ). read_parts false true force parts ≡ Some text) (sym to.3) p.1 in
      let rest = All-tail (HasPart version) (designator number) parts had in
      let later = parts_bound false true rules version are.headers parts to.0 text (f ∷ all) (inner true to.0 to.1 to.2) within known rest
      (suits_mixed version false true rules are parts to.0 text refl refl rest read) read in
      after_designator number to.0 parts f all to.1 to.2
      (are.designator_is number refl (All-head (HasPart version) (designator number) parts had)) later

no_kanji_in : (parts : List Part) → (has_kanji parts ≡ true → false ≡ true) → has_kanji parts ≡ false
no_kanji_in parts none = elim (cases_Bool (has_kanji parts)) [
  | inl e ↦ absurd (let no = none e in cc)
  | inr e ↦ e
]

pub lightest : (version : Version) (manner : Manner) (rules : Rules) → AreRules version (plain_in manner) (mixed_in manner) rules →
    (parts : List Part) (text : List ℕ) (all : List Facts) → AreAllFacts text all → ArePartsIn manner version text parts →
    weight_as_in manner rules all ≤ weight_of version parts
lightest version Ascii rules are parts text all known w =
    bound version true false rules are parts text all known w.had
    (suits_bare version true false rules are parts rules.start (w.plain refl) (no_kanji_in parts w.mixed)) w.read
lightest version Paired rules are parts text all known w =
    bound version true true rules are parts text all known w.had (suits_plain version true true rules are parts (w.plain refl) refl refl) w.read
lightest version Designated rules are parts text all known w = designated_bound version rules are parts text all known w.had w.begins w.read

-- ---- Behind a designator

module _ (plain one other : Bool) where
  -- Where one is in force it is all one whether there are Kanji segments.
  forced : (number : ℕ) (parts : List Part) → read_parts plain one (Some number) parts ≡ read_parts plain other (Some number) parts
  unfolding read_parts read_segment read_bytes
  forced number [] = refl
  forced number (designator next ∷ parts) = ap (λ (x : Option (List ℕ)). if is_known next then x else None) (forced next parts)
  forced number (segment Numeric bytes ∷ parts) =
      ap (λ (x : Option (List ℕ)). joined (read_segment plain one (Some number) Numeric bytes) x) (forced number parts)
  forced number (segment Alphanumeric bytes ∷ parts) =
      ap (λ (x : Option (List ℕ)). joined (read_segment plain one (Some number) Alphanumeric bytes) x) (forced number parts)
  forced number (segment Byte bytes ∷ parts) =
      ap (λ (x : Option (List ℕ)). joined (read_segment plain one (Some number) Byte bytes) x) (forced number parts)
  forced number (segment Kanji bytes ∷ parts) =
      ap (λ (x : Option (List ℕ)). joined (read_segment plain one (Some number) Kanji bytes) x) (forced number parts)

-- Parts that are read as a text and begin with a designator are so in the manner.
pub designated_parts : (version : Version) (text : List ℕ) (number : ℕ) (parts : List Part) → AreTextParts version text (designator number ∷ parts) →
    ArePartsIn Designated version text (designator number ∷ parts)
unfolding read_parts has_no_designator begins_with_designator
designated_parts version text number parts w = record {
  read = ap (λ (x : Option (List ℕ)). if is_known number then x else None) (forced false true (has_kanji (designator number ∷ parts)) number parts) ∙ w.read;
  had = w.had;
  plain = λ h. absurd (let no : false ≡ true = h in cc);
  mixed = λ h. refl;
  begins = refl;
}

-- ---- A plan of the least weight

-- Parts that are read in a manner are read as the text.
pub text_in : (manner : Manner) (version : Version) (text : List ℕ) (parts : List Part) → ArePartsIn manner version text parts →
    AreTextParts version text parts
text_in manner version text parts w = record {
  read = reads_so (plain_in manner) (mixed_in manner) parts text w.read w.plain w.mixed;
  had = w.had;
}

front_begins : (start number : ℕ) (parts : List Part) → force_of start ≡ Some number → BeginWith (front_of start) parts →
    begins_with_designator parts ≡ true
unfolding begins_with_designator
front_begins start number parts is w =
    let e : parts ≡ designator number ∷ w.0 = w.1 ∙ ap (λ (force : Option ℕ). front_in force ++ w.0) is in
    ap (λ (x : List Part). begins_with_designator x) e

none_begins : (version : Version) (parts : List Part) → weight_of version parts ≡ 0 → begins_with_designator parts ≡ true
unfolding begins_with_designator
none_begins version [] h = refl
none_begins version (part ∷ parts) h = absurd (omega (arith, h))

pub begins_in : (manner : Manner) (version : Version) (start weight : ℕ) (parts : List Part) → HasFront manner start weight →
    BeginWith (front_of start) parts → weight_of version parts ≡ weight → BeginsAsIn manner parts
begins_in Ascii version start weight parts h w is = tt
begins_in Paired version start weight parts h w is = tt
begins_in Designated version start weight parts h w is = elim h [
  | inl lane ↦ (let number = lane_force start lane.0 lane.1 in front_begins start number.0 parts number.1 w)
  | inr none ↦ none_begins version parts (is ∙ none)
]

pub many_bits_in : (manner : Manner) (version : Version) (text : List ℕ) (parts : List Part) → ArePartsIn manner version text parts →
    LIMIT ≤ weight_of version parts → 32768 ≤ bits_of_parts version parts
many_bits_in manner version text parts h limit = omega (arith, parts_some version parts h.had)

-- A plan of the least weight in a manner, and its bits.
pub least_in : (manner : Manner) (version : Version) (text : List ℕ) (weight : ℕ) (parts : List Part) →
    IsWeighed version (plain_in manner) (mixed_in manner) text weight parts → BeginsAsIn manner parts → weight < LIMIT →
    ((others : List Part) → ArePartsIn manner version text others → weight ≤ weight_of version others) →
    AreLeastIn manner version text parts × (weight / BIT ≡ bits_of_parts version parts)
least_in manner version text weight parts h begins small least = (
  record {
    written = record { read = h.read; had = h.had; plain = h.plain_is; mixed = h.mixed_is; begins = begins };
    bits = λ others w.
        let more = least others w in
        small_bits (bits_of_parts version parts) (length parts) (bits_of_parts version others) (length others) (parts_some version parts h.had)
        (parts_some version others w.had) (omega (arith, h.weight_is, small)) (omega (arith, h.weight_is, more));
    fewest = λ others w e. let more = least others w in omega (arith, more, h.weight_is, e);
  },
  ap (λ (n : ℕ). n / BIT) (sym h.weight_is)
      ∙ quotient (bits_of_parts version parts) (length parts) (parts_some version parts h.had) (omega (arith, h.weight_is, small)),
)
