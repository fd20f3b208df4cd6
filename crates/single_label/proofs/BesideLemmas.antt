-- The details beside labels are those of the symbols that the labels show.
use Rattle.std.proofs.Common.{◌≡◌, ◌≢◌, ℕ, Option, None, Some, List, [], ◌∷◌, inl, inr, true, refl, sym, append-nil}
use Rattle.std.specs.Prelude.{IfSome}
use Rattle.programs.specs.declared.Fault.TheVariants.{Symbol}
use Rattle.qrcode_core.specs.Symbol.{DrawnSymbol}
use Rattle.qrcode_core.specs.declared.types.errors.QrError.TheVariants.{DataTooLong}
use Rattle.picture_settings.specs.declared.draw_options.DrawOptions.{DrawOptions}
use Rattle.label_words.specs.declared.command.Label.{Label}
use Rattle.label_words.specs.Choices.{is_link}
use Rattle.single_label.specs.declared.stop.Stop.TheVariants.{Fault}
use Rattle.single_label.specs.{Captions.IsCaption, Contents.IsContent, Contents.IsLink, Contents.IsShownOf, Contents.IsStopAs, Contents.IsSymbolAs}
use Rattle.single_label.specs.{Labels.AreBeside, Labels.AreContentDetails, Labels.AreDetailsBeside, Labels.IsLabelData, Labels.IsSaid, Labels.ShowsLabel}
use Rattle.single_label.specs.{Parts.AreTogetherBeside, Parts.ShowsMessage}

pub if_some : {A : Type 0} (P Q : A → Type 0) (r : Option A) → ((a : A) → P a → Q a) → IfSome r P → IfSome r Q
if_some P Q None more h = tt
if_some P Q (Some a) more h = more a h

-- those of a symbol are those of its content
pub content_beside : (label : Label) (options : DrawOptions) (text content : List ℕ) (symbol : DrawnSymbol) (caption : Option (List ℕ)) →
    IsSymbolAs label.content label.symbol content symbol.modules → IsCaption label text caption → (details : List ℕ) →
    AreBeside label options (Some content) symbol details → AreContentDetails label options text content details
content_beside label options text content symbol caption is said details (inl (beside, are)) =
    inl (beside, record { symbol = symbol; is_symbol = is; caption = caption; caption_is = said; shown = inl (refl, are) })
content_beside label options text content symbol caption is said details (inr none) = inr none

-- those of the content are those of the bytes
pub label_beside : (label : Label) (options : DrawOptions) (bytes text content : List ℕ) → IsShownOf label.trims label.content bytes text →
    IsLabelData label text → IsSaid label text content → (details : List ℕ) →
    AreContentDetails label options text content details → AreDetailsBeside label (λ other. ShowsLabel other options) bytes details
label_beside label options bytes text content shown given said details (inl (beside, drawn)) =
    inl (beside, record { text = text; text_is = shown; data_is = given; content = content; said = said; drawn = drawn })
label_beside label options bytes text content shown given said details (inr none) = inr none

-- details beside the label of the link of the elements that a text writes
abbrev pub IsDetailsOfLink : Label → DrawOptions → (text details : List ℕ) → Type 0
IsDetailsOfLink label options text details =
    (link : List ℕ) × IsLink label.upper label.domain.now text link × (link ≢ []) × AreContentDetails label options text link details

pub link_beside : (label : Label) (options : DrawOptions) (bytes text : List ℕ) → IsShownOf label.trims label.content bytes text →
    IsLabelData label text → is_link label.content ≡ true → (details : List ℕ) →
    IsDetailsOfLink label options text details → AreDetailsBeside label (λ other. ShowsLabel other options) bytes details
link_beside label options bytes text shown given is details (link, said, some, are) =
    label_beside label options bytes text link shown given (inr (is, said)) details are

-- those of one symbol are those of the message
pub one_beside : (label : Label) (options : DrawOptions) (bytes content : List ℕ) (symbol : DrawnSymbol) → IsContent label.trims bytes content →
    IsLabelData label content → IsSymbolAs label.content label.symbol content symbol.modules → (details : List ℕ) →
    AreBeside label options (Some content) symbol details → AreDetailsBeside label (λ other. ShowsMessage other options) bytes details
one_beside label options bytes content symbol is given symbol_is details (inl (beside, are)) =
    inl (
      beside,
      (
        details ∷ [],
        sym (append-nil details),
        record {
          content = content;
          content_is = is;
          data_is = given;
          shown = inl (record { symbol = symbol; is_symbol = symbol_is; drawing = details; shown = inl (refl, are); drawings_are = refl });
        },
      ),
    )
one_beside label options bytes content symbol is given symbol_is details (inr none) = inr none

-- those of several symbols are those of the message
pub together_beside : (label : Label) (options : DrawOptions) (bytes content : List ℕ) → IsContent label.trims bytes content → IsLabelData label content →
    IsStopAs label.content label.symbol content (Fault (Symbol DataTooLong)) → (details : List ℕ) →
    AreTogetherBeside label options content details → AreDetailsBeside label (λ other. ShowsMessage other options) bytes details
together_beside label options bytes content is given long details (inl (beside, (all, joined, together))) =
    inl (beside, (all, joined, record { content = content; content_is = is; data_is = given; shown = inr (long, together) }))
together_beside label options bytes content is given long details (inr none) = inr none
