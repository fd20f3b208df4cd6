-- Links of elements: which elements a link may have, where they stand in it, and its text (GS1
-- Digital Link Standard: URI Syntax, release 1.4).
use Rattle.std.specs.Prelude.{◌≡◌, ℕ, ◌+◌, Bool, true, false, ◌==◌, ◌&&◌, ◌||◌, not, nat_lt, if◌then◌else◌}
use Rattle.std.specs.Prelude.{List, [], ◌∷◌, ◌++◌, length, Option, None, Some, is_some, unwrap_or}
use Rattle.std.specs.Prelude.{slice_get}
use Rattle.std.specs.List.{flat_map, filter, list_any}
use Rattle.std.specs.Option.{option_or, option_map, option_and_then, option_to_list}
use Rattle.gs1_base.specs.Domains.{is_domain}
use Rattle.gs1.specs.Elements.{Element, written_elements}
use Rattle.gs1.specs.Values.{number_of_identifier, text_error}
use Rattle.gs1.specs.Table.{primary_keys, qualifiers_of}
use Rattle.gs1.specs.Together.{is_among, first_among, first_conflict}
use Rattle.gs1_base.specs.Percent.{percent_text}
use Rattle.gs1_links.specs.Capitals.{capital_domain}
use Rattle.gs1_links.specs.declared.link_error.LinkError.{LinkError}
use Rattle.gs1_links.specs.declared.link_error.LinkError.TheVariants.{TextTooLong, Elements, WrongDomain}
use Rattle.gs1_links.specs.declared.link_error.LinkError.TheVariants.{NoKey, SecondKey, WrongQualifier}
use Rattle.gs1_links.specs.declared.link_error.LinkError.TheVariants.{RepeatedElement, Together, OutOfMemory}

-- ---- Keys and qualifiers

-- The primary keys, as ranges ("Primary identification keys").
abbrev pub keys : List (ℕ × ℕ)
keys = primary_keys

abbrev pub number : Element → ℕ
number e = number_of_identifier e.identifier

-- The qualifiers of a key in the order of the path ("Key qualifiers"). Some keys have two sets of
-- them, of which a link has one.
abbrev pub order_of : ℕ → Bool → List ℕ
order_of key second = qualifiers_of key second

-- The qualifiers of the set that a link has not.
abbrev pub excluded_of : ℕ → Bool → List ℕ
excluded_of key second = order_of key (not second)

-- An identifier qualifies a key.
abbrev pub qualifies : ℕ → ℕ → Bool
qualifies key n =
    list_any (λ m. m == n) (order_of key false) || list_any (λ m. m == n) (order_of key true)

-- Beside this key an element is an attribute: it is no key, and does not qualify this one.
abbrev pub is_attribute : ℕ → Element → Bool
is_attribute key e = not (is_among keys (number e)) && not (qualifies key (number e))

-- The place of the first element of this identifier, and this element.
abbrev pub place_with : ℕ → List Element → Option ℕ
place_with n elements = first_among ((n, n) ∷ []) 0 elements

abbrev pub element_with : ℕ → List Element → Option Element
element_with n elements =
    option_and_then (λ place. slice_get elements place) (place_with n elements)

-- The first key, and the qualifiers that may stand beside it, in their order.
abbrev pub primary_key : List Element → Option Element
primary_key elements =
    option_and_then (λ place. slice_get elements place) (first_among keys 0 elements)

abbrev pub key_number : List Element → ℕ
key_number elements = unwrap_or (option_map number (primary_key elements)) 0

-- A qualifier of the second set of a key is there.
abbrev pub has_second : List Element → ℕ → Bool
has_second elements key = list_any (λ n. is_some (place_with n elements)) (order_of key true)

abbrev pub order_for : List Element → ℕ → List ℕ
order_for elements key = order_of key (has_second elements key)

abbrev pub qualifier_order : List Element → List ℕ
qualifier_order elements = order_for elements (key_number elements)

-- The qualifiers of the first key that may not.
abbrev pub excluded_for : List Element → ℕ → List ℕ
excluded_for elements key = excluded_of key (has_second elements key)

abbrev pub excluded_qualifiers : List Element → List ℕ
excluded_qualifiers elements = excluded_for elements (key_number elements)

-- ---- The text

-- The elements of the path: the key and the qualifiers in their order.
abbrev pub path_elements : List Element → List Element
path_elements elements =
    option_to_list (primary_key elements)
    ++ flat_map (λ n. option_to_list (element_with n elements)) (qualifier_order elements)

-- The elements of the query, in the order in which they are given.
abbrev pub query_elements : List Element → List Element
query_elements elements = filter (is_attribute (key_number elements)) elements

-- The elements of a link in the order in which it has them. Example: of
-- `(17)261231(10)A(01)09506000134352` these are 01, 10 and 17.
abbrev pub linked : List Element → List Element
linked elements = path_elements elements ++ query_elements elements

-- `https://`
abbrev pub https : List ℕ
https = 0x68 ∷ 0x74 ∷ 0x74 ∷ 0x70 ∷ 0x73 ∷ 0x3a ∷ 0x2f ∷ 0x2f ∷ []

-- `HTTPS://`
abbrev pub capital_https : List ℕ
capital_https = 0x48 ∷ 0x54 ∷ 0x54 ∷ 0x50 ∷ 0x53 ∷ 0x3a ∷ 0x2f ∷ 0x2f ∷ []

abbrev pub path_text : Element → List ℕ
path_text e = 0x2f ∷ e.identifier ++ 0x2f ∷ percent_text e.value

abbrev pub query_text : ℕ → List Element → List ℕ
query_text separator [] = []
query_text separator (e ∷ elements) =
    separator ∷ e.identifier ++ 0x3d ∷ percent_text e.value ++ query_text 0x26 elements

-- The link of elements behind a scheme.
abbrev pub link_behind : List ℕ → List ℕ → List Element → List ℕ
link_behind scheme domain elements =
    scheme ++ domain ++ flat_map path_text (path_elements elements)
    ++ query_text 0x3f (query_elements elements)

-- The link of elements: `https://DOMAIN/KEY/VALUE/QUALIFIER/VALUE?ATTRIBUTE=VALUE&ATTRIBUTE=VALUE`
-- ("Uncompressed GS1 Digital Link URI").
abbrev pub link_of : List ℕ → List Element → List ℕ
link_of domain elements = link_behind https domain elements

-- The same behind `HTTPS://` and with the host in capitals: the Alphanumeric mode has the link up to
-- the first small letter of a path or a value, or the query.
abbrev pub capital_link_of : List ℕ → List Element → List ℕ
capital_link_of domain elements = link_behind capital_https (capital_domain domain) elements

-- ---- The faults

-- A qualifier of the set that the link has not.
unfoldable pub qualifier_fault : List ℕ → ℕ → ℕ → Option LinkError
qualifier_fault excluded place n =
    if list_any (λ m. m == n) excluded then Some (WrongQualifier place n) else None

-- A key with a second one after it.
unfoldable pub second_key_fault : ℕ → ℕ → List Element → Option LinkError
second_key_fault place n later =
    if is_among keys n && is_some (first_among keys 0 later) then Some (SecondKey place) else None

-- An identifier that stands once more after this element.
unfoldable pub repeated_fault : ℕ → ℕ → List Element → Option LinkError
repeated_fault place n later =
    if is_some (place_with n later) then Some (RepeatedElement place n) else None

abbrev pub later_fault : ℕ → ℕ → List Element → Option LinkError
later_fault place n later =
    option_or (second_key_fault place n later) (repeated_fault place n later)

-- The fault of the first element that has one; the elements are counted from `place`.
abbrev pub first_rule_fault : List ℕ → ℕ → List Element → Option LinkError
first_rule_fault excluded place [] = None
first_rule_fault excluded place (e ∷ later) =
    option_or (qualifier_fault excluded place (number e))
    (option_or (later_fault place (number e) later) (first_rule_fault excluded (place + 1) later))

unfoldable pub no_key_fault : List Element → Option LinkError
no_key_fault elements = if is_some (first_among keys 0 elements) then None else Some NoKey

unfoldable pub domain_fault : List ℕ → Option LinkError
domain_fault domain = if is_domain domain then None else Some WrongDomain

abbrev pub elements_fault : List Element → Option LinkError
elements_fault elements =
    option_or (no_key_fault elements) (first_rule_fault (excluded_qualifiers elements) 0 elements)

-- The first fault of elements that may not stand together.
unfoldable pub together_fault : List Element → Option LinkError
together_fault elements = option_map (λ error. Together error) (first_conflict elements 0 elements)

-- The elements make no link, or they may not stand together.
abbrev pub linking_fault : List Element → Option LinkError
linking_fault elements = option_or (elements_fault elements) (together_fault elements)

unfoldable pub text_length_fault : List ℕ → Option LinkError
text_length_fault text = if nat_lt 11815 (length text) then Some TextTooLong else None

-- The first fault of a text and a domain.
abbrev pub link_error : List ℕ → List ℕ → Option LinkError
link_error text domain =
    option_or (text_length_fault text)
    (option_or (option_map (λ error. Elements error) (text_error text))
    (option_or (domain_fault domain) (linking_fault (written_elements text))))

-- When each error is returned: out of memory only where there is no fault.
abbrev pub IsRefusedLink : List ℕ → List ℕ → LinkError → Type 0
IsRefusedLink text domain OutOfMemory = link_error text domain ≡ None
IsRefusedLink text domain fault = link_error text domain ≡ Some fault
