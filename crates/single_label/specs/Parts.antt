-- A message in one symbol, or spread over several that carry it together (ISO/IEC 18004:2006,
-- "Structured Append").
use Rattle.std.specs.Prelude.{◌≡◌, ◌⊎◌, ◌<◌, ◌≤◌, ◌*◌, ℕ, ⊤, nat_abs}
use Rattle.std.specs.Prelude.{true, false, List, [], ◌∷◌, length, map, flat_map, None, Some}
use Rattle.std.specs.Str.{IsUtf8}
use Rattle.programs.specs.declared.Fault.TheVariants.{Symbol}
use Rattle.qrcode_bits.specs.declared.bits.front.Content.{Content as FrontContent}
use Rattle.qrcode_bits.specs.declared.bits.front.Content.TheVariants.{Bytes as BytesFront}
use Rattle.qrcode_bits.specs.declared.bits.front.Content.TheVariants.{Text as TextFront}
use Rattle.qrcode_core.specs.BestCuts.{AreBestCuts, IsCutsRefusal}
use Rattle.qrcode_core.specs.Symbol.{DrawnSymbol, modules_of}
use Rattle.qrcode_core.specs.Sequence.{AreBestSymbols, IsSequenceRefusal}
use Rattle.qrcode_core.specs.declared.options.SymbolOptions.{SymbolOptions}
use Rattle.qrcode_core.specs.declared.types.Color.{Color}
use Rattle.qrcode_core.specs.declared.types.errors.QrError.{QrError}
use Rattle.qrcode_core.specs.declared.types.errors.QrError.TheVariants.{OutOfMemory, DataTooLong}
use Rattle.picture_settings.specs.declared.draw_options.DrawOptions.{DrawOptions}
use Rattle.single_label.specs.Contents.{IsContent, IsPlain, IsBeyondAscii, IsNoUtf8, IsSymbolAs}
use Rattle.single_label.specs.Contents.{IsStopAs}
use Rattle.single_label.specs.Labels.{AreDetailsBeside, IsLabelData, IsNotDrawn, ShowsSymbol}
use Rattle.single_label.specs.Labels.{details_label, is_beside}
use Rattle.single_label.specs.Contents.{is_too_long, most_bytes}
use Rattle.label_words.specs.declared.command.Content.{Content}
use Rattle.label_words.specs.declared.command.Content.TheVariants.{Auto, Text, Bytes}
use Rattle.label_words.specs.declared.command.Label.{Label}
use Rattle.single_label.specs.declared.stop.Stop.{Stop}
use Rattle.single_label.specs.declared.stop.Stop.TheVariants.{Fault, Empty, TooManyParts}
use Rattle.smallest_symbols.specs.TextCuts.{AreBestTextCuts, IsTextCutsRefusal}
use Rattle.smallest_symbols.specs.TextMessages.{AreSmallestTextSymbols, IsTextSequenceRefusal}

-- ---- Several symbols

-- The grids are the best symbols of the fewest parts of a message, in order.
pub record IsSequenceOf (front : FrontContent) (options : SymbolOptions) (message : List ℕ)
    (grids : List (List Color)) : Type 0 where
  pub cuts : List ℕ
  pub fewest : AreBestCuts front message options.level (nat_abs options.max_version) cuts
  pub symbols : AreBestSymbols front message cuts options.level (nat_abs options.max_version) grids

-- No cuts make parts that fit, or there are no symbols of the parts.
abbrev pub IsSequenceFault : FrontContent → SymbolOptions → List ℕ → QrError → Type 0
IsSequenceFault front options message error =
    IsCutsRefusal front message options.level options.max_version error
    ⊎ ((cuts : List ℕ) × AreBestCuts front message options.level (nat_abs options.max_version) cuts
    × IsSequenceRefusal front message cuts options.level options.max_version error)

-- A text is cut between its characters, and each part has the designator of UTF-8.
abbrev pub IsTextSequence : SymbolOptions → List ℕ → List (List Color) → Type 0
IsTextSequence options message grids = IsUtf8 message × IsSequenceOf TextFront options message grids

abbrev pub IsTextFault : SymbolOptions → List ℕ → QrError → Type 0
IsTextFault options message error =
    IsNoUtf8 message error ⊎ (IsUtf8 message × IsSequenceFault TextFront options message error)

-- The grids are the smallest symbols of the fewest parts of a text in UTF-8, in order, in a manner
-- in which readers that join them and readers that take each by itself find one text.
pub record IsSmallestSequence (options : SymbolOptions) (text : List ℕ)
    (grids : List (List Color)) : Type 0 where
  pub cuts : List ℕ
  pub fewest : AreBestTextCuts text options.level (nat_abs options.max_version) cuts
  pub symbols : AreSmallestTextSymbols text cuts options.level (nat_abs options.max_version) grids

abbrev pub IsSmallestSequenceFault : SymbolOptions → List ℕ → QrError → Type 0
IsSmallestSequenceFault options text error =
    IsTextCutsRefusal text options.level options.max_version error
    ⊎ ((cuts : List ℕ) × AreBestTextCuts text options.level (nat_abs options.max_version) cuts
    × IsTextSequenceRefusal text cuts options.level options.max_version error)

-- The grids carry the message together, by what it is.
abbrev pub IsSequenceAs : Content → SymbolOptions → List ℕ → List (List Color) → Type 0
IsSequenceAs Auto options message grids =
    (IsPlain message × IsSequenceOf BytesFront options message grids)
    ⊎ (IsBeyondAscii message × IsSmallestSequence options message grids)
IsSequenceAs Text options message grids = IsTextSequence options message grids
IsSequenceAs Bytes options message grids = IsSequenceOf BytesFront options message grids
IsSequenceAs other options message grids = ⊥

abbrev pub IsSequenceFaultAs : Content → SymbolOptions → List ℕ → QrError → Type 0
IsSequenceFaultAs Auto options message error =
    (IsPlain message × IsSequenceFault BytesFront options message error)
    ⊎ (IsBeyondAscii message × IsSmallestSequenceFault options message error)
IsSequenceFaultAs Text options message error = IsTextFault options message error
IsSequenceFaultAs Bytes options message error = IsSequenceFault BytesFront options message error
IsSequenceFaultAs other options message error = error ≡ DataTooLong

-- ---- The labels of a message

-- Each drawing shows a symbol, and they are in the same order.
abbrev pub ShowEach : Label → DrawOptions → List DrawnSymbol → List (List ℕ) → Type 0
ShowEach label options [] [] = ⊤
ShowEach label options (symbol ∷ symbols) (drawing ∷ drawings) =
    ShowsSymbol label options None None symbol drawing × ShowEach label options symbols drawings
ShowEach label options _ _ = ⊥

-- One symbol holds the content.
pub record IsOneLabel (label : Label) (options : DrawOptions) (content : List ℕ) (drawings : List (List ℕ)) :
    Type 0 where
  pub symbol : DrawnSymbol
  pub is_symbol : IsSymbolAs label.content label.symbol content symbol.modules
  pub drawing : List ℕ
  pub shown : ShowsSymbol label options (Some content) None symbol drawing
  pub drawings_are : drawings ≡ drawing ∷ []

-- The drawings show symbols that carry the content together.
abbrev pub AreLabelsTogether : Label → DrawOptions → List ℕ → List (List ℕ) → Type 0
AreLabelsTogether label options content drawings =
    (symbols : List DrawnSymbol) × IsSequenceAs label.content label.symbol content (map modules_of symbols)
    × ShowEach label options symbols drawings

-- No symbol holds the content, and as few as can be carry it together.
abbrev pub AreManyLabels : Label → DrawOptions → List ℕ → List (List ℕ) → Type 0
AreManyLabels label options content drawings =
    IsStopAs label.content label.symbol content (Fault (Symbol DataTooLong))
    × AreLabelsTogether label options content drawings

-- The drawings show the symbols of the content of a message. Example: 18 bytes are two parts in
-- version 1 at level L.
pub record ShowMessage (label : Label) (options : DrawOptions) (bytes : List ℕ)
    (drawings : List (List ℕ)) : Type 0 where
  pub content : List ℕ
  pub content_is : IsContent label.trims bytes content
  pub data_is : IsLabelData label content
  pub shown : IsOneLabel label options content drawings ⊎ AreManyLabels label options content drawings

-- There are symbols that carry the content together, and memory ran out when they were drawn.
abbrev pub AreNotDrawn : Label → List ℕ → Stop → Type 0
AreNotDrawn label content stop =
    (stop ≡ Fault (Symbol OutOfMemory))
    × ((grids : List (List Color)) × IsSequenceAs label.content label.symbol content grids)

-- There are no symbols that carry the content together: it is too long, or there is another error.
abbrev pub IsPartsStop : Label → List ℕ → Stop → Type 0
IsPartsStop label content stop =
    ((stop ≡ TooManyParts) × IsSequenceFaultAs label.content label.symbol content DataTooLong)
    ⊎ ((is_too_long stop ≡ false)
    × ((error : QrError) × (stop ≡ Fault (Symbol error))
    × IsSequenceFaultAs label.content label.symbol content error))

-- No symbol holds the content, and no symbols together, or memory ran out.
abbrev pub IsSequenceStop : Label → List ℕ → Stop → Type 0
IsSequenceStop label content stop =
    IsStopAs label.content label.symbol content (Fault (Symbol DataTooLong))
    × (AreNotDrawn label content stop ⊎ IsPartsStop label content stop)

-- There is no symbol for another reason than its length.
abbrev pub IsOtherStop : Label → List ℕ → Stop → Type 0
IsOtherStop label content stop =
    (is_too_long stop ≡ false)
    × (IsNotDrawn label content stop ⊎ IsStopAs label.content label.symbol content stop)

abbrev pub IsEmptyStop : Label → List ℕ → Stop → Type 0
IsEmptyStop label content stop = (stop ≡ Empty) × (content ≡ []) × (label.allow_empty ≡ false)

-- How many bytes the content of a sequence of symbols has at most: it has 16 of them.
abbrev pub most_together : Content → ℕ
most_together content = 16 * most_bytes content

-- There are no labels of some content of the bytes, for this reason.
pub record IsRefusedMessage (label : Label) (bytes : List ℕ) (stop : Stop) : Type 0 where
  pub short : length bytes ≤ most_together label.content
  pub content : List ℕ
  pub content_is : IsContent label.trims bytes content
  pub stopped :
      IsEmptyStop label content stop
      ⊎ (IsLabelData label content × (IsOtherStop label content stop ⊎ IsSequenceStop label content stop))

-- Why there are no labels of a message: 16 symbols hold fewer bytes, or there are none of
-- its content.
abbrev pub IsMessageStop : Label → List ℕ → Stop → Type 0
IsMessageStop label bytes stop =
    ((stop ≡ TooManyParts) × (most_together label.content < length bytes))
    ⊎ IsRefusedMessage label bytes stop

-- One drawing after the other.
abbrev pub all_drawings : List (List ℕ) → List ℕ
all_drawings drawings = flat_map (λ drawing. drawing) drawings

-- The drawing is that of the symbols, one after the other.
abbrev pub ShowsMessage : Label → DrawOptions → List ℕ → List ℕ → Type 0
ShowsMessage label options bytes drawing =
    (drawings : List (List ℕ)) × (drawing ≡ all_drawings drawings) × ShowMessage label options bytes drawings

-- The details beside the labels of some symbols, one after the other, if they are asked for, else
-- nothing.
abbrev pub AreEachBeside : Label → DrawOptions → List DrawnSymbol → List ℕ → Type 0
AreEachBeside label options symbols details =
    ((is_beside label.details ≡ true)
    × ((all : List (List ℕ)) × (details ≡ all_drawings all) × ShowEach (details_label label) options symbols all))
    ⊎ ((is_beside label.details ≡ false) × (details ≡ []))

-- The details beside the labels of the symbols that carry a content together.
abbrev pub AreTogetherBeside : Label → DrawOptions → (content details : List ℕ) → Type 0
AreTogetherBeside label options content details =
    AreDetailsBeside label (λ other said text.
    (all : List (List ℕ)) × (text ≡ all_drawings all) × AreLabelsTogether other options said all) content details
