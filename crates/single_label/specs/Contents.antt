-- The symbol of a label, by what its bytes are.
use Rattle.std.specs.Prelude.{◌≡◌, ◌⊎◌, ℕ, ◌<◌, ◌≤◌, nat_lt, ◌==◌, Bool, true, false, ◌&&◌, List}
use Rattle.std.specs.Prelude.{length}
use Rattle.std.specs.Prelude.{slice_index, slice_get, drop, None, Some, if◌then◌else◌, chars, ⊤}
use Rattle.std.specs.List.{list_all, list_any}
use Rattle.std.specs.Io.BufRead.{ends_with_byte, strip_last}
use Rattle.std.specs.Str.{IsUtf8, IsValidUpTo}
use Rattle.smallest_symbols.specs.ByteHeadline.{IsAsAskedWithoutKanji, IsRefusedWithoutKanji}
use Rattle.gs1.specs.Checked.{AreAllowedElements, IsRefusedStringByTable}
use Rattle.gs1.specs.Elements.{Element, written_elements, text_fault, IsRefusedText}
use Rattle.gs1_links.specs.LinkReader.{ReadsLink}
use Rattle.gs1_links.specs.Links.{link_of, capital_link_of, link_error, IsRefusedLink, linked}
use Rattle.gs1.specs.Read.{WritesFirst, scanned}
use Rattle.gs1.specs.Reader.{FindsOnly}
use Rattle.gs1.specs.Strings.{AreFaultless, IsRefusedString}
use Rattle.gs1.specs.Together.{text_conflict}
use Rattle.gs1.specs.Values.{text_error, IsRefusedByTable}
use Rattle.gs1_links.specs.declared.link_error.LinkError.TheVariants.{Together}
use Rattle.programs.specs.declared.Fault.TheVariants.{Symbol}
use Rattle.qrcode_base.specs.declared.symbols.TheConstants.{LONGEST_DATA}
use Rattle.qrcode_bits.specs.Frame.{front_of, no_front}
use Rattle.qrcode_bits.specs.Plans.{micro}
use Rattle.qrcode_bits.specs.Push.{IsMicroRefused}
use Rattle.qrcode_bits.specs.declared.bits.front.Content.TheVariants.{Text as TextFront}
use Rattle.qrcode_bits.specs.declared.bits.front.Content.TheVariants.{Elements as ElementsFront}
use Rattle.qrcode_core.specs.Headline.{IsBestMicroSymbol}
use Rattle.qrcode_core.specs.Options.{IsAsAsked, IsOptionsRefusal, IsElementsOptionsRefusal}
use Rattle.qrcode_core.specs.declared.options.SymbolOptions.{SymbolOptions}
use Rattle.qrcode_core.specs.declared.types.Color.{Color}
use Rattle.qrcode_core.specs.declared.types.EcLevel.{EcLevel}
use Rattle.qrcode_core.specs.declared.types.errors.QrError.{QrError}
use Rattle.qrcode_core.specs.declared.types.errors.QrError.TheVariants.{DataTooLong}
use Rattle.qrcode_core.specs.declared.types.errors.QrError.TheVariants.{InvalidCharacter}
use Rattle.qrcode_core.specs.declared.types.errors.QrError.TheVariants.{OutOfMemory}
use Rattle.single_label.specs.declared.content.TheConstants.{LONGEST_TEXT}
use Rattle.single_label.specs.Faults.{IsFaultIn, IsWrittenAt, IsFoundAt}
use Rattle.label_words.specs.declared.command.Content.{Content}
use Rattle.label_words.specs.declared.command.Content.TheVariants.{Auto, Text, Bytes, Gs1}
use Rattle.label_words.specs.declared.command.Content.TheVariants.{UncheckedGs1, Link, Micro}
use Rattle.label_words.specs.declared.command.Content.TheVariants.{MicroBytes, BytesWithoutKanji}
use Rattle.single_label.specs.declared.stop.Stop.{Stop}
use Rattle.single_label.specs.declared.stop.Stop.TheVariants.{Fault, Elements, NotAllowed, NoLink}
use Rattle.single_label.specs.declared.stop.Stop.TheVariants.{NoMicroText}
use Rattle.smallest_symbols.specs.TextHeadline.{IsSmallestText, IsTextAsAsked, IsTextRefused}
use Rattle.smallest_symbols.specs.TextHeadline.{IsMicroTextRefused}
use Rattle.smallest_symbols.specs.declared.micro_texts.MicroTextError.TheVariants.{Unwritable}
use Rattle.smallest_symbols.specs.declared.micro_texts.MicroTextError.TheVariants.{Symbol as SymbolError}

-- Whether all bytes are ASCII.
abbrev pub is_all_ascii : List ℕ → Bool
is_all_ascii bytes = list_all (λ byte. nat_lt byte 128) bytes

-- Whether the bytes begin with an opening bracket.
abbrev pub is_bracketed : List ℕ → Bool
is_bracketed bytes = nat_lt 0 (length bytes) && (slice_index bytes 0 == 40)

-- ---- What of the bytes is content

-- The byte order mark of UTF-8.
abbrev pub begins_with_mark : List ℕ → Bool
begins_with_mark bytes =
    (slice_index bytes 0 == 0xEF) && (slice_index bytes 1 == 0xBB) && (slice_index bytes 2 == 0xBF)

abbrev pub without_mark : List ℕ → List ℕ
without_mark bytes = if begins_with_mark bytes then drop 3 bytes else bytes

-- One newline at the end, with a carriage return before it.
abbrev pub without_newline : List ℕ → List ℕ
without_newline bytes =
    if ends_with_byte 10 bytes then strip_last 13 (strip_last 10 bytes) else bytes

-- What of the bytes is content: of a text that is trimmed, not its byte order mark and its newline.
abbrev pub IsContent : Bool → List ℕ → List ℕ → Type 0
IsContent trims bytes content =
    ((trims ≡ true) × IsUtf8 bytes × (content ≡ without_newline (without_mark bytes)))
    ⊎ (((trims ≡ false) ⊎ (IsUtf8 bytes → ⊥)) × (content ≡ bytes))

-- What of a content is drawn: of GS1 elements that a scanner gives, what stands between its marks.
abbrev pub without_marks : Content → List ℕ → List ℕ
without_marks Gs1 bytes = if is_bracketed bytes then bytes else scanned bytes
without_marks UncheckedGs1 bytes = if is_bracketed bytes then bytes else scanned bytes
without_marks content bytes = bytes

-- What of the bytes a label shows.
abbrev pub IsShownOf : (trims : Bool) → Content → List ℕ → List ℕ → Type 0
IsShownOf trims kind bytes shown =
    (content : List ℕ) × IsContent trims bytes content × (shown ≡ without_marks kind content)

-- ---- Text

-- The bytes are a text in UTF-8, and the symbol is that of the text.
pub record IsText (options : SymbolOptions) (bytes : List ℕ) (grid : List Color) : Type 0 where
  pub text : IsUtf8 bytes
  pub asked : IsAsAsked options (front_of None TextFront) bytes grid

-- The byte is the first that is not UTF-8, and this its position.
pub record IsFirstWrong (bytes : List ℕ) (position byte : ℕ) : Type 0 where
  pub valid : IsValidUpTo bytes position
  pub found : slice_get bytes position ≡ Some byte

-- The bytes are not UTF-8, and the error has the first that is not, with its position.
abbrev pub IsNoUtf8 : List ℕ → QrError → Type 0
IsNoUtf8 bytes (InvalidCharacter position byte) = (IsUtf8 bytes → ⊥) × IsFirstWrong bytes position byte
IsNoUtf8 bytes _ = ⊥

-- The errors of a text: bytes that are not UTF-8 are reported first.
abbrev pub IsUtf8Refusal : SymbolOptions → List ℕ → QrError → Type 0
IsUtf8Refusal options bytes error =
    IsNoUtf8 bytes error
    ⊎ (IsUtf8 bytes × IsOptionsRefusal options (front_of None TextFront) bytes error)

-- ---- Bytes or text

-- The bytes are drawn as they are, since they are ASCII or no UTF-8.
abbrev pub IsPlain : List ℕ → Type 0
IsPlain bytes = (is_all_ascii bytes ≡ true) ⊎ (IsUtf8 bytes → ⊥)

-- The bytes are a text beyond ASCII, in UTF-8.
abbrev pub IsBeyondAscii : List ℕ → Type 0
IsBeyondAscii bytes = (is_all_ascii bytes ≡ false) × IsUtf8 bytes

-- The symbol is that of the bytes, or the smallest that is read as the text.
abbrev pub IsAutoSymbol : SymbolOptions → List ℕ → List Color → Type 0
IsAutoSymbol options bytes grid =
    (IsPlain bytes × IsAsAsked options no_front bytes grid)
    ⊎ (IsBeyondAscii bytes × IsTextAsAsked options (chars bytes) grid)

-- The errors: a text is too long exactly where nothing that is read as it fits.
abbrev pub IsAutoRefusal : SymbolOptions → List ℕ → QrError → Type 0
IsAutoRefusal options bytes error =
    (IsPlain bytes × IsOptionsRefusal options no_front bytes error)
    ⊎ (IsBeyondAscii bytes × IsTextRefused options (chars bytes) error)

-- ---- GS1 elements

-- An error of a symbol's call.
abbrev pub IsErrorIn : (QrError → Type 0) → Stop → Type 0
IsErrorIn refuses (Fault (Symbol error)) = refuses error
IsErrorIn refuses _ = ⊥

-- A reader of element strings finds in the elements exactly those that the text writes; the table
-- of identifiers allows them, if they are checked by it, and else none has a fault.
pub record AreWritten (checks : Bool) (bytes elements : List ℕ) : Type 0 where
  pub found : FindsOnly elements (written_elements bytes)
  pub faultless : checks ≡ false → text_fault bytes ≡ None
  pub allowed : checks ≡ true → text_error bytes ≡ None

-- The bytes are no text of elements, for this reason.
abbrev pub AreNotWritten : (checks : Bool) → List ℕ → Stop → Type 0
AreNotWritten checks bytes (Fault (Symbol error)) = IsNoUtf8 bytes error
AreNotWritten false bytes (Elements at) =
    IsUtf8 bytes × IsRefusedText bytes at.error × IsFaultIn (IsWrittenAt bytes at.error) at
AreNotWritten true bytes (NotAllowed error) = IsUtf8 bytes × IsRefusedByTable bytes error
AreNotWritten checks bytes _ = ⊥

pub record IsBracketedSymbol (checks : Bool) (options : SymbolOptions) (bytes : List ℕ) (grid : List Color) :
    Type 0 where
  pub elements : List ℕ
  pub written : AreWritten checks bytes elements
  pub asked : IsAsAsked options (front_of None ElementsFront) elements grid

abbrev pub IsBracketedStop : (checks : Bool) → SymbolOptions → List ℕ → Stop → Type 0
IsBracketedStop checks options bytes stop =
    AreNotWritten checks bytes stop
    ⊎ ((elements : List ℕ) × AreWritten checks bytes elements
    × IsErrorIn (IsElementsOptionsRefusal options (front_of None ElementsFront) elements) stop)

-- A reader of element strings finds elements in the bytes, no others, and none of them has a fault;
-- the table of identifiers allows them, if they are checked by it.
abbrev pub AreSound : (checks : Bool) → List ℕ → Type 0
AreSound true bytes = AreAllowedElements bytes
AreSound false bytes = AreFaultless bytes

abbrev pub AreNotSound : (checks : Bool) → List ℕ → Stop → Type 0
AreNotSound false bytes (Elements at) =
    IsRefusedString bytes at.error × IsFaultIn (IsFoundAt bytes at.error) at
AreNotSound true bytes (NotAllowed error) = IsRefusedStringByTable bytes error
AreNotSound checks bytes _ = ⊥

pub record IsStringSymbol (checks : Bool) (options : SymbolOptions) (bytes : List ℕ) (grid : List Color) :
    Type 0 where
  pub sound : AreSound checks bytes
  pub asked : IsAsAsked options (front_of None ElementsFront) bytes grid

abbrev pub IsStringStop : (checks : Bool) → SymbolOptions → List ℕ → Stop → Type 0
IsStringStop checks options bytes stop =
    AreNotSound checks bytes stop
    ⊎ (AreSound checks bytes
    × IsErrorIn (IsElementsOptionsRefusal options (front_of None ElementsFront) bytes) stop)

abbrev pub IsGs1Symbol : (checks : Bool) → SymbolOptions → List ℕ → List Color → Type 0
IsGs1Symbol checks options bytes grid =
    ((is_bracketed bytes ≡ true) × IsBracketedSymbol checks options bytes grid)
    ⊎ ((is_bracketed bytes ≡ false) × IsStringSymbol checks options bytes grid)

abbrev pub IsGs1Stop : (checks : Bool) → SymbolOptions → List ℕ → Stop → Type 0
IsGs1Stop checks options bytes stop =
    ((is_bracketed bytes ≡ true) × IsBracketedStop checks options bytes stop)
    ⊎ ((is_bracketed bytes ≡ false) × IsStringStop checks options bytes stop)

-- The text of elements: as it is given in brackets, or of those that a reader finds first.
abbrev pub IsTextOfBytes : List ℕ → List ℕ → Type 0
IsTextOfBytes bytes text =
    ((is_bracketed bytes ≡ true) × (text ≡ bytes))
    ⊎ ((is_bracketed bytes ≡ false) × WritesFirst bytes text)

-- An opening bracket stands in the bytes: in a value, if they do not begin with one.
abbrev pub has_bracket : List ℕ → Bool
has_bracket bytes = list_any (λ byte. byte == 40) bytes

-- The elements may stand together. Of an element string with an opening bracket in a value, which
-- no text in brackets can write, this is not tested.
abbrev pub StandTogether : List ℕ → Type 0
StandTogether bytes =
    ((is_bracketed bytes ≡ false) × (has_bracket bytes ≡ true))
    ⊎ ((text : List ℕ) × IsTextOfBytes bytes text × (IsUtf8 text → text_conflict text ≡ None))

-- The elements may not stand together, for this reason, or memory ran out.
abbrev pub IsApart : List ℕ → Stop → Type 0
IsApart bytes (NoLink (Together error)) =
    (text : List ℕ) × IsTextOfBytes bytes text × (text_conflict text ≡ Some error)
IsApart bytes (Fault (Symbol OutOfMemory)) = ⊤
IsApart bytes _ = ⊥

-- The symbol of elements that the table allows, and that may stand together.
abbrev pub IsCheckedSymbol : SymbolOptions → List ℕ → List Color → Type 0
IsCheckedSymbol options bytes grid = IsGs1Symbol true options bytes grid × StandTogether bytes

-- Why there is none.
abbrev pub IsCheckedStop : SymbolOptions → List ℕ → Stop → Type 0
IsCheckedStop options bytes stop =
    IsGs1Stop true options bytes stop
    ⊎ (IsApart bytes stop × ((grid : List Color) × IsGs1Symbol true options bytes grid))

-- The link of elements, with its scheme and its host in capitals or as they are given.
abbrev pub written_link : (upper : Bool) → (domain : List ℕ) → List Element → List ℕ
written_link upper domain elements =
    if upper then capital_link_of domain elements else link_of domain elements

-- The link of the elements that a text writes, in which a reader of links finds exactly these.
pub record IsLink (upper : Bool) (domain text link : List ℕ) : Type 0 where
  pub utf8 : IsUtf8 text
  pub link_is : link ≡ written_link upper domain (written_elements text)
  pub read : ReadsLink link (linked (written_elements text))
  pub faultless : link_error text domain ≡ None

-- Why there is no link.
abbrev pub IsLinkStop : (domain : List ℕ) → List ℕ → Stop → Type 0
IsLinkStop domain text (NoLink error) = IsUtf8 text × IsRefusedLink text domain error
IsLinkStop domain text (Fault (Symbol error)) = IsNoUtf8 text error
IsLinkStop domain text _ = ⊥

-- ---- Micro QR symbols

-- The bytes are a text in UTF-8, and the symbol is the smallest Micro symbol that is read as it.
pub record IsMicroText (level : EcLevel) (bytes : List ℕ) (grid : List Color) : Type 0 where
  pub text : IsUtf8 bytes
  pub smallest : IsSmallestText micro (chars bytes) level grid

-- Why there is no Micro symbol of a text. A Micro symbol has no ECI designator (ISO/IEC 18004:2006,
-- table 2), so that none is read as most texts beyond ASCII.
abbrev pub IsMicroTextStop : EcLevel → List ℕ → Stop → Type 0
IsMicroTextStop level bytes NoMicroText =
    (IsUtf8 bytes → ⊥) ⊎ (IsUtf8 bytes × IsMicroTextRefused level (chars bytes) Unwritable)
IsMicroTextStop level bytes (Fault (Symbol error)) =
    IsUtf8 bytes × IsMicroTextRefused level (chars bytes) (SymbolError error)
IsMicroTextStop level bytes _ = ⊥

-- ---- Any content

-- The symbol of the content is the smallest that is read as its text.
abbrev pub HasText : Content → List ℕ → Type 0
HasText Auto bytes = IsBeyondAscii bytes
HasText Micro bytes = IsUtf8 bytes
HasText content bytes = ⊥

-- How many bytes a content of a symbol has at most (ISO/IEC 18004:2006, table 7: 7089 characters).
-- The smallest symbol of a text is made of its characters, each of at most four bytes in UTF-8.
abbrev pub most_bytes : Content → ℕ
most_bytes Auto = LONGEST_TEXT
most_bytes _ = LONGEST_DATA

-- The data are too long for a symbol.
abbrev pub is_too_long : Stop → Bool
is_too_long (Fault (Symbol DataTooLong)) = true
is_too_long _ = false

-- Memory ran out.
abbrev pub is_memory : Stop → Bool
is_memory (Fault (Symbol OutOfMemory)) = true
is_memory _ = false

-- The symbol is that of the bytes, at the level and in the versions of the options. For a link they
-- are the link.
abbrev pub IsSymbolAs : Content → SymbolOptions → List ℕ → List Color → Type 0
IsSymbolAs Auto options bytes grid = IsAutoSymbol options bytes grid
IsSymbolAs Text options bytes grid = IsText options bytes grid
IsSymbolAs Bytes options bytes grid = IsAsAsked options no_front bytes grid
IsSymbolAs BytesWithoutKanji options bytes grid = IsAsAskedWithoutKanji options bytes grid
IsSymbolAs Gs1 options bytes grid = IsCheckedSymbol options bytes grid
IsSymbolAs UncheckedGs1 options bytes grid = IsGs1Symbol false options bytes grid
IsSymbolAs Link options bytes grid = IsAsAsked options no_front bytes grid
IsSymbolAs Micro options bytes grid = IsMicroText options.level bytes grid
IsSymbolAs MicroBytes options bytes grid = IsBestMicroSymbol bytes options.level grid

abbrev pub IsShortStop : Content → SymbolOptions → List ℕ → Stop → Type 0
IsShortStop Auto options bytes = IsErrorIn (IsAutoRefusal options bytes)
IsShortStop Text options bytes = IsErrorIn (IsUtf8Refusal options bytes)
IsShortStop Bytes options bytes = IsErrorIn (IsOptionsRefusal options no_front bytes)
IsShortStop BytesWithoutKanji options bytes = IsErrorIn (IsRefusedWithoutKanji options bytes)
IsShortStop Gs1 options bytes = IsCheckedStop options bytes
IsShortStop UncheckedGs1 options bytes = IsGs1Stop false options bytes
IsShortStop Link options bytes = IsErrorIn (IsOptionsRefusal options no_front bytes)
IsShortStop Micro options bytes = IsMicroTextStop options.level bytes
IsShortStop MicroBytes options bytes = IsErrorIn (IsMicroRefused bytes options.level)

-- Why there is no symbol: there are more than 7089 bytes, or the call for the symbol fails. Where
-- the symbol may be the smallest of a text, its call counts.
abbrev pub IsStopAs : Content → SymbolOptions → List ℕ → Stop → Type 0
IsStopAs Auto options bytes stop = IsShortStop Auto options bytes stop
IsStopAs content options bytes stop =
    ((LONGEST_DATA < length bytes) × (stop ≡ Fault (Symbol DataTooLong)))
    ⊎ ((length bytes ≤ LONGEST_DATA) × IsShortStop content options bytes stop)
