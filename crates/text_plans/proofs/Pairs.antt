-- A text in which no character is a pair of the Kanji mode has no Kanji segment.
use Rattle.std.proofs.Common.{◌≡◌, ◌≢◌, ℕ, Bool, true, false, ◌||◌, List, [], ◌∷◌, ◌++◌, refl, sym}
use Rattle.std.proofs.Common.{◌∙◌, subst}
use Rattle.std.specs.Prelude.{Option, Some, All}
use Rattle.std.proofs.lemmas.List.Elements.{All-head, All-tail}
use Rattle.qrcode_base.specs.declared.types.Mode.TheVariants.{Numeric, Alphanumeric, Byte, Kanji}
use Rattle.qrcode_base.specs.declared.types.Version.{Version}
use Rattle.character_sets.specs.Reading.{Part, designator, segment, is_known, is_shift_jis}
use Rattle.character_sets.specs.Reading.{has_kanji, read_kanji, read_parts, read_segment}
use Rattle.text_plans.specs.Costs.{HasPart}
use Rattle.text_plans.specs.Lanes.{AreAllFacts}
use Rattle.text_plans.specs.declared.facts.Facts.{Facts}
use Rattle.text_plans.proofs.Begins.{if_list}
use Rattle.text_plans.proofs.Bounds.{had_segment, joined_is, if_parts}
use Rattle.text_plans.proofs.Fronts.{kanji_front, kanji_none}

-- A character is no pair.
abbrev pub IsNoPair : Facts → Type 0
IsNoPair facts = facts.pair ≡ false

-- What is so of a text is so of its end.
facts_later : (front later : List ℕ) (all : List Facts) → AreAllFacts (front ++ later) all → All IsNoPair all →
    (rest : List Facts) × AreAllFacts later rest × All IsNoPair rest
facts_later [] later all known none = (all, known, none)
facts_later (c ∷ front) later [] known none = absurd known
facts_later (c ∷ front) later (f ∷ all) known none = facts_later front later all known.1 (All-tail IsNoPair f all none)

-- A Kanji segment has a pair.
no_segment : (plain mixed : Bool) (force : Option ℕ) (bytes front later : List ℕ) (all : List Facts) → bytes ≢ [] →
    read_segment plain mixed force Kanji bytes ≡ Some front → AreAllFacts (front ++ later) all → All IsNoPair all → ⊥
unfolding read_segment
no_segment plain mixed force bytes [] later all some h known none = some (kanji_none bytes (if_list (plain || is_shift_jis force) (read_kanji bytes) [] h).1)
no_segment plain mixed force bytes (c ∷ front) later [] some h known none = known
no_segment plain mixed force bytes (c ∷ front) later (f ∷ all) some h known none =
    let w = kanji_front bytes c front (if_list (plain || is_shift_jis force) (read_kanji bytes) (c ∷ front) h).1 in
    let e : true ≡ false = sym (known.0.pair w.0 w.1 w.4) ∙ All-head IsNoPair f all none in cc

pub no_kanji : (version : Version) (plain mixed : Bool) (force : Option ℕ) (parts : List Part) (text : List ℕ) (all : List Facts) →
    AreAllFacts text all → All IsNoPair all → All (HasPart version) parts → read_parts plain mixed force parts ≡ Some text → has_kanji parts ≡ false
unfolding read_parts has_kanji
no_kanji version plain mixed force [] text all known none had h = refl
no_kanji version plain mixed force (designator number ∷ parts) text all known none had h =
    no_kanji version plain mixed (Some number) parts text all known none (All-tail (HasPart version) (designator number) parts had)
    (if_parts (is_known number) (read_parts plain mixed (Some number) parts) text h).1
no_kanji version plain mixed force (segment Kanji bytes ∷ parts) text all known none had h =
    let w = joined_is (read_segment plain mixed force Kanji bytes) (read_parts plain mixed force parts) text h in
    absurd (no_segment plain mixed force bytes w.0 w.1 all
    (had_segment version Kanji bytes (All-head (HasPart version) (segment Kanji bytes) parts had)).1 w.2
    (subst (λ (t : List ℕ). AreAllFacts t all) w.4 known) none)
no_kanji version plain mixed force (segment Numeric bytes ∷ parts) text all known none had h =
    let w = joined_is (read_segment plain mixed force Numeric bytes) (read_parts plain mixed force parts) text h in
    let later = facts_later w.0 w.1 all (subst (λ (t : List ℕ). AreAllFacts t all) w.4 known) none in
    no_kanji version plain mixed force parts w.1 later.0 later.1 later.2 (All-tail (HasPart version) (segment Numeric bytes) parts had) w.3
no_kanji version plain mixed force (segment Alphanumeric bytes ∷ parts) text all known none had h =
    let w = joined_is (read_segment plain mixed force Alphanumeric bytes) (read_parts plain mixed force parts) text h in
    let later = facts_later w.0 w.1 all (subst (λ (t : List ℕ). AreAllFacts t all) w.4 known) none in
    no_kanji version plain mixed force parts w.1 later.0 later.1 later.2 (All-tail (HasPart version) (segment Alphanumeric bytes) parts had) w.3
no_kanji version plain mixed force (segment Byte bytes ∷ parts) text all known none had h =
    let w = joined_is (read_segment plain mixed force Byte bytes) (read_parts plain mixed force parts) text h in
    let later = facts_later w.0 w.1 all (subst (λ (t : List ℕ). AreAllFacts t all) w.4 known) none in
    no_kanji version plain mixed force parts w.1 later.0 later.1 later.2 (All-tail (HasPart version) (segment Byte bytes) parts had) w.3
