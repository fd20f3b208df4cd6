-- A label: the picture of the symbol of some bytes.
use Rattle.std.specs.Prelude.{◌≡◌, ◌≢◌, ◌⊎◌, ◌<◌, ◌≤◌, ℕ, Bool}
use Rattle.std.specs.Prelude.{true, false, if◌then◌else◌, List, [], length, Option, None, Some}
use Rattle.std.specs.Option.{option_copied}
use Rattle.programs.specs.declared.Fault.TheVariants.{Symbol}
use Rattle.qrcode_base.specs.declared.types.Color.{Color}
use Rattle.qrcode_core.specs.Symbol.{DrawnSymbol, drawn_grid}
use Rattle.qrcode_core.specs.declared.types.errors.QrError.TheVariants.{OutOfMemory, DataTooLong}
use Rattle.qrcode_render.specs.Drawings.{IsPictureOf}
use Rattle.picture_settings.specs.declared.draw_options.DrawOptions.{DrawOptions}
use Rattle.single_label.specs.Captions.{IsCaption}
use Rattle.single_label.specs.Colors.{in_colors}
use Rattle.label_words.specs.Choices.{is_link}
use Rattle.single_label.specs.Contents.{IsShownOf, IsSymbolAs, IsStopAs, IsLink, IsLinkStop, is_too_long}
use Rattle.single_label.specs.Contents.{most_bytes}
use Rattle.single_label.specs.Rooms.{IsTooLongAs, IsTooLongForAny}
use Rattle.single_label.specs.Details.{AreDetails}
use Rattle.single_label.specs.Turns.{turned}
use Rattle.label_words.specs.declared.command.Details.{Details}
use Rattle.label_words.specs.declared.command.Details.TheVariants.{Beside, Alone}
use Rattle.label_words.specs.declared.command.Label.{Label}
use Rattle.single_label.specs.declared.stop.Stop.{Stop}
use Rattle.single_label.specs.declared.stop.Stop.TheVariants.{Fault, Empty, TooLong}
use Rattle.single_label.specs.declared.stop.TooLong.{TooLong as TooLongOf}

-- No bytes are drawn only if the label says so.
abbrev pub IsLabelData : Label → List ℕ → Type 0
IsLabelData label bytes = bytes ≡ [] → label.allow_empty ≢ false

-- The options of a picture are the same, but for the text below it.
pub record AreSameButText (options others : DrawOptions) : Type 0 where
  pub format : others.format ≡ options.format
  pub scale : others.scale ≡ options.scale
  pub quiet : others.quiet ≡ options.quiet
  pub module_um : others.module_um ≡ options.module_um
  pub dpi_tenths : others.dpi_tenths ≡ options.dpi_tenths
  pub inverted : others.inverted ≡ options.inverted
  pub title : others.title ≡ options.title
  pub at : others.at ≡ options.at
  pub copies : others.copies ≡ options.copies
  pub compressed : others.compressed ≡ options.compressed
  pub feed : others.feed ≡ options.feed
  pub cut : others.cut ≡ options.cut
  pub colors : others.colors ≡ options.colors

-- The options of a picture with a text below it, if it is given.
abbrev pub IsCaptioned : DrawOptions → (caption : Option (List ℕ)) → DrawOptions → Type 0
IsCaptioned options None captioned = captioned ≡ options
IsCaptioned options (Some text) captioned =
    AreSameButText options captioned × (option_copied captioned.caption ≡ Some text)

-- The drawing is the picture of a symbol, which is turned as the label says, with this text below
-- it, if it is given.
pub record IsSymbolPicture (label : Label) (options : DrawOptions) (caption : Option (List ℕ))
    (symbol : DrawnSymbol) (drawing : List ℕ) : Type 0 where
  pub captioned : DrawOptions
  pub are_captioned : IsCaptioned options caption captioned
  pub picture : List ℕ
  pub drawn : IsPictureOf captioned (turned label.turn (drawn_grid symbol)) picture
  pub drawing_is : drawing ≡ (if label.colored then in_colors picture else picture)

abbrev pub is_alone : Details → Bool
is_alone Alone = true
is_alone _ = false

-- The drawing shows a symbol, with this text below it, if it is given, or is its details; `content`
-- is given if the symbol has all of it.
abbrev pub ShowsSymbol : Label → DrawOptions → (content caption : Option (List ℕ)) → DrawnSymbol →
    List ℕ → Type 0
ShowsSymbol label options content caption symbol drawing =
    ((is_alone label.details ≡ true) × AreDetails label options content symbol drawing)
    ⊎ ((is_alone label.details ≡ false) × IsSymbolPicture label options caption symbol drawing)

-- The drawing shows the symbol of a content, with the elements of a text below it, if they are
-- asked for. The content is the text, or the link of the elements that it writes.
pub record ShowsContent (label : Label) (options : DrawOptions) (text content drawing : List ℕ) :
    Type 0 where
  pub symbol : DrawnSymbol
  pub is_symbol : IsSymbolAs label.content label.symbol content symbol.modules
  pub caption : Option (List ℕ)
  pub caption_is : IsCaption label text caption
  pub shown : ShowsSymbol label options (Some content) caption symbol drawing

-- What a symbol says of the text or the bytes that are drawn: them, or the link of the elements
-- that they write.
abbrev pub IsSaid : Label → List ℕ → List ℕ → Type 0
IsSaid label text content =
    ((is_link label.content ≡ false) × (content ≡ text))
    ⊎ ((is_link label.content ≡ true) × IsLink label.upper label.domain.now text content)

-- The drawing shows the symbol of the bytes, or of what of them is content, or of the link of the
-- elements that this writes.
pub record ShowsLabel (label : Label) (options : DrawOptions) (bytes drawing : List ℕ) : Type 0 where
  pub text : List ℕ
  pub text_is : IsShownOf label.trims label.content bytes text
  pub data_is : IsLabelData label text
  pub content : List ℕ
  pub said : IsSaid label text content
  pub drawn : ShowsContent label options text content drawing

-- There is a symbol, and memory ran out when it was drawn.
abbrev pub IsNotDrawn : Label → List ℕ → Stop → Type 0
IsNotDrawn label content stop =
    (stop ≡ Fault (Symbol OutOfMemory))
    × ((grid : List Color) × IsSymbolAs label.content label.symbol content grid)

-- Why there is no label of a content: it is empty, there is no symbol, or memory ran out.
abbrev pub IsContentStop : Label → List ℕ → Stop → Type 0
IsContentStop label content Empty = (content ≡ []) × (label.allow_empty ≡ false)
IsContentStop label content (TooLong long) =
    IsLabelData label content × IsTooLongAs label content long
    × IsStopAs label.content label.symbol content (Fault (Symbol DataTooLong))
IsContentStop label content stop =
    IsLabelData label content × (is_too_long stop ≡ false)
    × (IsNotDrawn label content stop ⊎ IsStopAs label.content label.symbol content stop)

-- There is no label of a text, for this reason: it is empty, there is no link of the elements that
-- it writes, or there is no label of what the symbol says of it.
abbrev pub IsTextStop : Label → List ℕ → Stop → Type 0
IsTextStop label text stop =
    ((stop ≡ Empty) × (text ≡ []) × (label.allow_empty ≡ false))
    ⊎ (IsLabelData label text
    × (((is_link label.content ≡ true) × IsLinkStop label.domain.now text stop)
    ⊎ ((content : List ℕ) × IsSaid label text content × IsContentStop label content stop)))

-- There is no label of some content of the bytes, for this reason.
pub record IsRefusedContent (label : Label) (bytes : List ℕ) (stop : Stop) : Type 0 where
  pub short : length bytes ≤ most_bytes label.content
  pub text : List ℕ
  pub text_is : IsShownOf label.trims label.content bytes text
  pub stopped : IsTextStop label text stop

-- There are more bytes than a content of a symbol has.
pub record IsManyBytes (label : Label) (bytes : List ℕ) (stop : Stop) : Type 0 where
  pub many : most_bytes label.content < length bytes
  pub too_long : TooLongOf
  pub is_too_long : IsTooLongForAny label too_long
  pub stop_is : stop ≡ TooLong too_long

-- The same label, which shows the details of its symbol alone.
abbrev pub details_label : Label → Label
details_label label = record label { details = Alone }

abbrev pub is_beside : Details → Bool
is_beside Beside = true
is_beside _ = false

-- The details beside the drawing of a symbol, if they are asked for, else nothing; `content` is given
-- if the symbol has all of it.
abbrev pub AreBeside : Label → DrawOptions → (content : Option (List ℕ)) → DrawnSymbol → List ℕ → Type 0
AreBeside label options content symbol details =
    ((is_beside label.details ≡ true) × AreDetails (details_label label) options content symbol details)
    ⊎ ((is_beside label.details ≡ false) × (details ≡ []))

-- The details beside a drawing: those of the same bytes, if they are asked for, else nothing.
abbrev pub AreDetailsBeside : Label → (Label → List ℕ → List ℕ → Type 0) → List ℕ → List ℕ → Type 0
AreDetailsBeside label shows bytes details =
    ((is_beside label.details ≡ true) × shows (details_label label) bytes details)
    ⊎ ((is_beside label.details ≡ false) × (details ≡ []))

-- The details beside the drawing of a content.
abbrev pub AreContentDetails : Label → DrawOptions → (text content details : List ℕ) → Type 0
AreContentDetails label options text content details =
    AreDetailsBeside label (λ other said. ShowsContent other options said content) text details

-- Why there is no label of the bytes: they are more than a content of a symbol has, or there is none
-- of their content.
abbrev pub IsLabelStop : Label → List ℕ → Stop → Type 0
IsLabelStop label bytes stop = IsManyBytes label bytes stop ⊎ IsRefusedContent label bytes stop
