-- The symbol of GS1 elements the other way: of elements as a link, and of a link as elements.
use Rattle.std.specs.Prelude.{◌≡◌, ◌⊎◌, ℕ, true, false, List, Some}
use Rattle.std.specs.Str.{IsUtf8}
use Rattle.gs1.specs.Elements.{Element, bracketed}
use Rattle.gs1_links.specs.LinkFaults.{reading_fault}
use Rattle.gs1_links.specs.LinkReader.{ReadsLink}
use Rattle.gs1_links.specs.Links.{link_error}
use Rattle.gs1_links.specs.declared.link_error.LinkError.{LinkError}
use Rattle.gs1_links.specs.declared.link_error.LinkReadError.{LinkReadError}
use Rattle.qrcode_core.specs.Symbol.{DrawnSymbol}
use Rattle.qrcode_core.specs.declared.options.SymbolOptions.{SymbolOptions}
use Rattle.label_words.specs.declared.command.Content.{Content}
use Rattle.label_words.specs.declared.command.Content.TheVariants.{Gs1, Link}
use Rattle.label_words.specs.declared.command.Label.{Label}
use Rattle.single_label.specs.Contents.{IsTextOfBytes, IsSymbolAs, IsStopAs, IsLink, is_too_long, is_memory}
use Rattle.single_label.specs.declared.other_way.Outcome.{Outcome}
use Rattle.single_label.specs.declared.other_way.Outcome.TheVariants.{Drawn, TooLong, Nothing}
use Rattle.single_label.specs.declared.stop.Stop.{Stop}

-- How the symbol of bytes comes out: its version, or why there is none.
abbrev pub IsOtherOutcome : Content → SymbolOptions → List ℕ → Outcome → Type 0
IsOtherOutcome content options bytes (Drawn version) =
    (symbol : DrawnSymbol) × IsSymbolAs content options bytes symbol.modules
    × (version ≡ symbol.version)
IsOtherOutcome content options bytes TooLong =
    (stop : Stop) × IsStopAs content options bytes stop × (is_too_long stop ≡ true)
IsOtherOutcome content options bytes Nothing =
    (stop : Stop) × IsStopAs content options bytes stop × (is_too_long stop ≡ false)
    × (is_memory stop ≡ false)

-- ---- Elements as a link

-- There is no link of a text.
abbrev pub HasNoLink : (domain : List ℕ) → List ℕ → Type 0
HasNoLink domain text =
    (IsUtf8 text → ⊥) ⊎ ((error : LinkError) × (link_error text domain ≡ Some error))

-- How the symbol of the link of elements comes out.
abbrev pub IsLinkOutcome : Label → List ℕ → Outcome → Type 0
IsLinkOutcome label bytes outcome =
    (text : List ℕ) × IsTextOfBytes bytes text
    × (((outcome ≡ Nothing) × HasNoLink label.domain.now text)
    ⊎ ((link : List ℕ) × IsLink false label.domain.now text link
    × IsOtherOutcome Link label.symbol link outcome))

-- ---- A link as elements

-- How the symbol of the elements of a link comes out.
abbrev pub IsElementsOutcome : Label → List ℕ → Outcome → Type 0
IsElementsOutcome label link outcome =
    ((outcome ≡ Nothing) × ((error : LinkReadError) × (reading_fault link ≡ Some error)))
    ⊎ ((elements : List Element) × ReadsLink link elements
    × IsOtherOutcome Gs1 label.symbol (bracketed elements) outcome)
