-- The details of a symbol: version, level, mask, segments and size.
use Rattle.std.specs.Prelude.{◌≡◌, ◌⊎◌, ◌≤◌, ℕ, Bool, ◌+◌, ◌-◌, ◌*◌, ◌/◌, ◌%◌, nat_abs, nat_le}
use Rattle.std.specs.Prelude.{◌&&◌}
use Rattle.std.specs.Prelude.{false, true, if◌then◌else◌}
use Rattle.std.specs.Prelude.{List, [], ◌∷◌, ◌++◌, Option, Some, None, codes, decimal, flat_map}
use Rattle.std.specs.Prelude.{unwrap_or}
use Rattle.std.specs.Prelude.{chars, length}
use Rattle.programs.specs.declared.Fault.TheVariants.{Symbol}
use Rattle.qrcode_base.specs.Names.{level_text}
use Rattle.qrcode_base.specs.Symbols.{HasMicroNumber}
use Rattle.qrcode_bits.specs.Contents.{parsed_bytes}
use Rattle.qrcode_bits.specs.Parsing.{parsed}
use Rattle.qrcode_bits.specs.Plans.{IsChosenPlan}
use Rattle.qrcode_bits.specs.declared.bits.front.Content.{Content as FrontContent}
use Rattle.qrcode_bits.specs.declared.bits.front.Content.TheVariants.{Bytes as BytesFront}
use Rattle.qrcode_bits.specs.declared.bits.front.Content.TheVariants.{Text as TextFront}
use Rattle.qrcode_bits.specs.declared.bits.front.Content.TheVariants.{Elements as ElementsFront}
use Rattle.qrcode_bits.specs.declared.optimize.Segment.{Segment}
use Rattle.qrcode_core.specs.Symbol.{DrawnSymbol, drawn_grid}
use Rattle.qrcode_core.specs.declared.types.Mode.{Mode}
use Rattle.qrcode_core.specs.declared.types.Mode.TheVariants.{Numeric, Alphanumeric, Byte, Kanji}
use Rattle.qrcode_core.specs.declared.types.errors.QrError.TheVariants.{OutOfMemory}
use Rattle.qrcode_core.specs.declared.types.Version.{Version}
use Rattle.qrcode_core.specs.declared.types.Version.TheVariants.{Normal, Micro as MicroVersion}
use Rattle.qrcode_grid.specs.Masks.{normal_number, micro_number}
use Rattle.qrcode_grid.specs.declared.canvas.MaskPattern.{MaskPattern}
use Rattle.picture_settings.specs.declared.bounds.TheConstants.{MAX_DPI_TENTHS}
use Rattle.picture_settings.specs.declared.draw_options.DrawOptions.{DrawOptions}
use Rattle.single_label.specs.Contents.{HasText, is_bracketed, AreWritten, AreNotWritten}
use Rattle.label_words.specs.declared.command.Content.{Content}
use Rattle.label_words.specs.declared.command.Content.TheVariants.{Text, BytesWithoutKanji, Gs1}
use Rattle.label_words.specs.declared.command.Content.TheVariants.{UncheckedGs1, Link}
use Rattle.label_words.specs.declared.command.Label.{Label}
use Rattle.single_label.specs.OtherWays.{IsLinkOutcome, IsElementsOutcome}
use Rattle.single_label.specs.declared.other_way.Outcome.{Outcome}
use Rattle.single_label.specs.declared.other_way.Outcome.TheVariants.{Drawn, TooLong, Nothing}
use Rattle.single_label.specs.declared.stop.Stop.{Stop}
use Rattle.single_label.specs.declared.stop.Stop.TheVariants.{Fault}
use Rattle.text_plans.specs.Costs.{AreLeast, AreTextParts, bits_of_parts}
use Rattle.character_sets.specs.Reading.{Part, designator, segment}

-- ---- Segments

-- The plan by which data of a kind are cut into segments, as `Symbol` cuts them.
abbrev pub IsPlanIn : FrontContent → List ℕ → Version → List Segment → Type 0
IsPlanIn front encoded version plan = IsChosenPlan (parsed (parsed_bytes front encoded)) version plan

-- The element string of elements, which are bracketed or are one.
abbrev pub AreElementsData : (checks : Bool) → List ℕ → FrontContent → List ℕ → Type 0
AreElementsData checks bytes front encoded =
    (front ≡ ElementsFront) × (((is_bracketed bytes ≡ true) × AreWritten checks bytes encoded)
    ⊎ ((is_bracketed bytes ≡ false) × (encoded ≡ bytes)))

-- The data of a content, and their kind, if its symbol is not the smallest of its text. Bytes
-- without the Kanji mode are cut as those of a text.
abbrev pub AreDataAs : Content → List ℕ → FrontContent → List ℕ → Type 0
AreDataAs Text bytes front encoded = (encoded ≡ bytes) × (front ≡ TextFront)
AreDataAs BytesWithoutKanji bytes front encoded = (encoded ≡ bytes) × (front ≡ TextFront)
AreDataAs Gs1 bytes front encoded = AreElementsData true bytes front encoded
AreDataAs UncheckedGs1 bytes front encoded = AreElementsData false bytes front encoded
AreDataAs other bytes front encoded = (encoded ≡ bytes) × (front ≡ BytesFront)

-- The segments of the symbol of such a content.
pub record IsPlanAs (content : Content) (bytes : List ℕ) (version : Version) (plan : List Segment) : Type 0 where
  pub front : FrontContent
  pub encoded : List ℕ
  pub are_data : AreDataAs content bytes front encoded
  pub chosen : IsPlanIn front encoded version plan

-- ---- The text

abbrev pub mode_piece : Mode → List ℕ
mode_piece Numeric = codes " numeric "
mode_piece Alphanumeric = codes " alphanumeric "
mode_piece Byte = codes " byte "
mode_piece Kanji = codes " kanji "

-- The number of characters: two bytes are one of the Kanji mode.
abbrev pub count_of : Mode → ℕ → ℕ
count_of Kanji n = n / 2
count_of mode n = n

abbrev pub segment_text : Segment → List ℕ
segment_text s = mode_piece s.mode ++ decimal (count_of s.mode (s.end - s.begin))

abbrev pub version_piece : Version → List ℕ
version_piece (Normal n) = codes "version " ++ decimal (nat_abs n)
version_piece (MicroVersion n) = codes "version M" ++ decimal (nat_abs n)

-- The reference of the data mask pattern (ISO/IEC 18004:2006, table 10).
abbrev pub mask_number : Version → MaskPattern → ℕ
mask_number (Normal n) mask = normal_number mask
mask_number (MicroVersion n) mask = unwrap_or (micro_number mask) 0

-- Version, level and mask.
abbrev pub head_text : DrawnSymbol → List ℕ
head_text symbol =
    version_piece symbol.version ++ (codes ", level " ++ (level_text symbol.level
    ++ (codes ", mask " ++ decimal (mask_number symbol.version symbol.mask))))

-- The modes of the segments, with their numbers of characters.
abbrev pub segments_text : List Segment → List ℕ
segments_text plan = codes ", segments" ++ flat_map segment_text plan

-- The same of the parts of a text: the number of each ECI designator, too. Example:
-- `, segments eci 7 byte 12`.
abbrev pub part_piece : Part → List ℕ
part_piece (designator number) = codes " eci " ++ decimal number
part_piece (segment mode bytes) = mode_piece mode ++ decimal (count_of mode (length bytes))

abbrev pub parts_piece : List Part → List ℕ
parts_piece parts = codes ", segments" ++ flat_map part_piece parts

-- The width of modules in micrometres, if it is known: by that of a module, or by its dots and the
-- dots of ten inches, of which each is 25.4 mm. It is the nearest whole number.
abbrev pub nearest_to : ℕ → ℕ → ℕ
nearest_to dividend divisor = (2 * dividend + divisor) / (2 * divisor)

abbrev pub width_of_dots : ℕ → ℕ → Option ℕ → Option ℕ
width_of_dots modules scale None = None
width_of_dots modules scale (Some dpi_tenths) =
    if nat_le 1 dpi_tenths && nat_le dpi_tenths MAX_DPI_TENTHS
    then Some (nearest_to (modules * scale * 254000) dpi_tenths) else None

abbrev pub physical_width : ℕ → Label → DrawOptions → Option ℕ
physical_width modules label options =
    elim options.module_um [
      | Some wide ↦ Some (modules * wide)
      | None ↦ width_of_dots modules options.scale label.dpi_tenths
    ]

-- Micrometres, as millimetres.
abbrev pub millimetres_text : ℕ → List ℕ
millimetres_text n =
    decimal (n / 1000) ++ (codes "." ++ (decimal (n / 100 % 10) ++ (decimal (n / 10 % 10)
    ++ (decimal (n % 10) ++ codes " mm"))))

-- A width after other words, if it is known.
abbrev pub width_piece : List ℕ → Option ℕ → List ℕ
width_piece words None = []
width_piece words (Some n) = words ++ millimetres_text n

abbrev pub size_text : Label → DrawOptions → DrawnSymbol → List ℕ
size_text label options symbol =
    codes ", " ++ (decimal (drawn_grid symbol).columns ++ (codes " modules"
    ++ (width_piece (codes " of ") (physical_width 1 label options)
    ++ (width_piece (codes ", ") (physical_width (drawn_grid symbol).columns label options) ++ 10 ∷ []))))

-- The parts of a text in a version, which take the fewest bits there. Only where all take 32768
-- bits or more, as in no version of its symbol, there is nothing.
abbrev pub IsTextPlanText : Version → (said : List ℕ) → List ℕ → Type 0
IsTextPlanText version said text =
    ((parts : List Part) × AreLeast version said parts × (text ≡ parts_piece parts))
    ⊎ (((others : List Part) → AreTextParts version said others → 32768 ≤ bits_of_parts version others)
    × (text ≡ []))

-- The segments of another content in a version.
abbrev pub IsSegmentsPlan : Content → List ℕ → Version → List ℕ → Type 0
IsSegmentsPlan content bytes version text =
    (plan : List Segment) × IsPlanAs content bytes version plan × (text ≡ segments_text plan)

-- The segments of a content in a version.
abbrev pub IsPlanText : Content → List ℕ → Version → List ℕ → Type 0
IsPlanText content bytes version text =
    (HasText content bytes × IsTextPlanText version (chars bytes) text)
    ⊎ ((HasText content bytes → ⊥) × IsSegmentsPlan content bytes version text)

-- The same, if there is such a version, as that of every symbol is.
abbrev pub IsKnownPlanText : Content → List ℕ → Version → List ℕ → Type 0
IsKnownPlanText content bytes version text =
    (HasMicroNumber version × IsPlanText content bytes version text)
    ⊎ ((HasMicroNumber version → ⊥) × (text ≡ []))

-- The segments of a content, of which the symbol has all.
abbrev pub IsSegmentsText : Label → Option (List ℕ) → DrawnSymbol → List ℕ → Type 0
IsSegmentsText label None symbol text = text ≡ []
IsSegmentsText label (Some content) symbol text = IsKnownPlanText label.content content symbol.version text

-- There are no segments of a content: bytes that begin with a bracket are no elements.
abbrev pub HasNoData : Content → List ℕ → Stop → Type 0
HasNoData Gs1 bytes stop = (is_bracketed bytes ≡ true) × AreNotWritten true bytes stop
HasNoData UncheckedGs1 bytes stop = (is_bracketed bytes ≡ true) × AreNotWritten false bytes stop
HasNoData content bytes stop = ⊥

-- There are no details of a content: memory ran out, or it has no segments.
abbrev pub IsDetailsStopOf : Content → List ℕ → Stop → Type 0
IsDetailsStopOf content bytes stop = (stop ≡ Fault (Symbol OutOfMemory)) ⊎ HasNoData content bytes stop

-- ---- The other way

abbrev pub outcome_text : Outcome → List ℕ
outcome_text (Drawn version) = version_piece version ++ codes "\n"
outcome_text TooLong = codes "too long\n"
outcome_text Nothing = codes "none\n"

-- What is said of elements as a link, and of a link as elements.
abbrev pub IsAsLinkText : Label → List ℕ → List ℕ → Type 0
IsAsLinkText label elements text =
    (outcome : Outcome) × IsLinkOutcome label elements outcome
    × (text ≡ codes "as a link: " ++ outcome_text outcome)

abbrev pub IsAsElementsText : Label → List ℕ → List ℕ → Type 0
IsAsElementsText label link text =
    (outcome : Outcome) × IsElementsOutcome label link outcome
    × (text ≡ codes "as elements: " ++ outcome_text outcome)

-- What the details of a content say of the other way.
abbrev pub IsOtherText : Label → Content → List ℕ → List ℕ → Type 0
IsOtherText label Gs1 content text = IsAsLinkText label content text
IsOtherText label UncheckedGs1 content text = IsAsLinkText label content text
IsOtherText label Link content text = IsAsElementsText label content text
IsOtherText label other content text = text ≡ []

-- The same of a content, of which the symbol has all.
abbrev pub IsOtherWayText : Label → Option (List ℕ) → List ℕ → Type 0
IsOtherWayText label None text = text ≡ []
IsOtherWayText label (Some content) text = IsOtherText label label.content content text

-- ---- No details

-- Why there are no details of a symbol: memory ran out, or there are none of its content.
abbrev pub IsDetailsStop : Label → Option (List ℕ) → Stop → Type 0
IsDetailsStop label None stop = stop ≡ Fault (Symbol OutOfMemory)
IsDetailsStop label (Some content) stop = IsDetailsStopOf label.content content stop

-- The details of a symbol: its segments, too, and what the other way is, where it has all of a
-- content. Example: 21 modules of 0.5 mm are 10.500 mm wide.
pub record AreDetails (label : Label) (options : DrawOptions) (content : Option (List ℕ)) (symbol : DrawnSymbol)
    (text : List ℕ) : Type 0 where
  pub segments : List ℕ
  pub are_segments : IsSegmentsText label content symbol segments
  pub other : List ℕ
  pub other_is : IsOtherWayText label content other
  pub text_is : text ≡ head_text symbol ++ (segments ++ (size_text label options symbol ++ other))
