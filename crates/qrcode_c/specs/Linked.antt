-- Links of GS1 elements, and the errors of the calls for them.
use Rattle.std.specs.Prelude.{◌≡◌, ◌⊎◌, ◌<◌, ◌++◌, ℕ, List, Option, None, Some, length, drop}
use Rattle.std.specs.Option.{option_map}
use Rattle.std.specs.Str.{IsUtf8}
use Rattle.qrcode_bits.specs.Frame.{no_front}
use Rattle.gs1.specs.Elements.{written_elements}
use Rattle.gs1_links.specs.LinkReader.{ReadsLink}
use Rattle.gs1_links.specs.Links.{link_error, link_of, linked}
use Rattle.gs1_links.specs.declared.link_error.LinkError.{LinkError}
use Rattle.qrcode_c.specs.declared.faults.ElementFault.{ElementFault}
use Rattle.qrcode_c.specs.declared.options.Options.{Options}
use Rattle.qrcode_c.specs.declared.refusal.Refusal.{Refusal}
use Rattle.qrcode_c.specs.declared.refusal.Refusal.TheVariants.{DataTooLong, ShortBuffer}
use Rattle.qrcode_c.specs.declared.refusal.Refusal.TheVariants.{InvalidLevel, InvalidVersions}
use Rattle.qrcode_c.specs.declared.refusal.Refusal.TheVariants.{InvalidText}
use Rattle.qrcode_c.specs.Asking.{AsksFor, IsAskRefusal, IsAskedRefusal}
use Rattle.qrcode_c.specs.Faults.{link_refusal, link_place_of, IsFaultRefusal}

-- The first fault of a text and a domain.
abbrev pub link_fault : List ℕ → List ℕ → Option Refusal
link_fault text domain = option_map link_refusal (link_error text domain)

-- The text and the domain have a link, in which a reader finds the elements that the text writes
-- and no others, and of which the fact is true.
pub record HasLink (text domain : List ℕ) (fact : List ℕ → Type 0) : Type 0 where
  pub link : List ℕ
  pub faultless : link_fault text domain ≡ None
  pub link_is : link ≡ link_of domain (written_elements text)
  pub reads : ReadsLink link (linked (written_elements text))
  pub true_of : fact link

-- The errors of a call for the symbol of a link, and when each is returned: first those of the
-- options; then the text is not UTF-8; then the first fault of the text and the domain; then those
-- of the bytes of the link. Data are too long by the text, or by its link.
abbrev pub IsLinkedRefusal : List ℕ → List ℕ → Options → ℕ → Refusal → Type 0
IsLinkedRefusal text domain asked room InvalidLevel = IsAskRefusal asked InvalidLevel
IsLinkedRefusal text domain asked room InvalidVersions = IsAskRefusal asked InvalidVersions
IsLinkedRefusal text domain asked room InvalidText = AsksFor asked (λ options. IsUtf8 text → ⊥)
IsLinkedRefusal text domain asked room DataTooLong =
    AsksFor asked (λ options. link_fault text domain ≡ Some DataTooLong)
    ⊎ HasLink text domain (λ link. IsAskedRefusal no_front link asked room DataTooLong)
IsLinkedRefusal text domain asked room ShortBuffer =
    HasLink text domain (λ link. IsAskedRefusal no_front link asked room ShortBuffer)
IsLinkedRefusal text domain asked room refusal =
    AsksFor asked (λ options. IsFaultRefusal (link_fault text domain) refusal)

-- The first bytes of the buffer are the link, as many as are counted; the other bytes
-- are unchanged.
abbrev pub HoldsLink : List ℕ → List ℕ → List ℕ → List ℕ → ℕ → Type 0
HoldsLink text domain before after count =
    HasLink text domain (λ link.
    (count ≡ length link) × (after ≡ link ++ drop (length link) before))

-- The errors of the call for a link, and when each is returned: the text is not UTF-8; the first
-- fault; the link has as many bytes as are counted, and more than the buffer has.
abbrev pub IsLinkTextRefusal : List ℕ → List ℕ → (room count : ℕ) → Refusal → Type 0
IsLinkTextRefusal text domain room count InvalidText = IsUtf8 text → ⊥
IsLinkTextRefusal text domain room count ShortBuffer =
    HasLink text domain (λ link. (count ≡ length link) × (room < length link))
IsLinkTextRefusal text domain room count refusal =
    IsFaultRefusal (link_fault text domain) refusal

-- The errors of the call that says where the fault is: the text is not UTF-8, or the first fault.
abbrev pub IsNoLinkRefusal : List ℕ → List ℕ → Refusal → Type 0
IsNoLinkRefusal text domain InvalidText = IsUtf8 text → ⊥
IsNoLinkRefusal text domain refusal = IsFaultRefusal (link_fault text domain) refusal

-- The place is that of the first fault of the text and the domain.
abbrev pub TellsLinkPlace : List ℕ → List ℕ → ElementFault → Type 0
TellsLinkPlace text domain place =
    (error : LinkError) → IsUtf8 text → link_error text domain ≡ Some error →
    place ≡ link_place_of error
