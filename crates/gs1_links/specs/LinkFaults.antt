-- The first fault of a link, and the elements of a link that has none (GS1 Digital Link Standard:
-- URI Syntax, release 1.4, "Uncompressed GS1 Digital Link URI").
use Rattle.std.specs.Prelude.{◌≡◌, ◌⊎◌, ℕ, ◌+◌, ◌%◌, Bool, true, false, ◌==◌, ◌&&◌, ◌||◌, not, nat_lt}
use Rattle.std.specs.Prelude.{if◌then◌else◌}
use Rattle.std.specs.Prelude.{List, [], ◌∷◌, ◌++◌, length, map, drop, position}
use Rattle.std.specs.Prelude.{Option, None, Some, is_some, unwrap_or, zero, suc}
use Rattle.std.specs.List.{slice_split, position_or_len, before_first, after_first, list_any}
use Rattle.std.specs.Option.{option_or, option_map}
use Rattle.gs1.specs.Elements.{Element, is_identifier, written_elements}
use Rattle.gs1.specs.Values.{number_of_identifier, element_error}
use Rattle.gs1.specs.Together.{is_among, first_conflict}
use Rattle.gs1_base.specs.Percent.{begins_with_byte, first_byte, after_byte}
use Rattle.gs1_base.specs.Domains.{is_host, is_slash}
use Rattle.gs1_links.specs.Links.{keys, number, order_of, is_attribute, link_error, link_of}
use Rattle.gs1_links.specs.Links.{linked}
use Rattle.gs1_links.specs.LinkReader.{is_question, is_ampersand, is_link_character, after_scheme}
use Rattle.gs1_links.specs.LinkReader.{query_parts, ReadsLink}
use Rattle.gs1_links.specs.declared.link_error.LinkReadError.{LinkReadError}
use Rattle.gs1_links.specs.declared.link_error.LinkReadError.TheVariants.{WrongScheme, WrongCharacter}
use Rattle.gs1_links.specs.declared.link_error.LinkReadError.TheVariants.{WrongDomain, NoKey, NoEqualsSign}
use Rattle.gs1_links.specs.declared.link_error.LinkReadError.TheVariants.{WrongEscape, ValueTooLong, Elements}
use Rattle.gs1_links.specs.declared.link_error.LinkReadError.TheVariants.{WrongQualifier, WrongAttribute}
use Rattle.gs1_links.specs.declared.link_error.LinkReadError.TheVariants.{RepeatedElement, Together}
use Rattle.gs1_links.specs.declared.link_error.LinkReadError.TheVariants.{OutOfMemory}

-- ---- Values

-- The bytes that a text with percent-escapes writes, up to the first that cannot be read; and
-- whether all can be read. They are at most `n`.
unfoldable pub bytes_within : ℕ → List ℕ → List ℕ
bytes_within zero text = []
bytes_within (suc n) text =
    if begins_with_byte text then first_byte text ∷ bytes_within n (after_byte text) else []

unfoldable pub is_readable_within : ℕ → List ℕ → Bool
is_readable_within zero text = true
is_readable_within (suc n) text =
    if begins_with_byte text then is_readable_within n (after_byte text) else length text == 0

unfoldable pub decoded : List ℕ → List ℕ
decoded text = bytes_within (length text) text

unfoldable pub is_readable_link : List ℕ → Bool
is_readable_link text = is_readable_within (length text) text

-- The element that an identifier and an escaped text write.
abbrev pub decoded_element : Element → Element
decoded_element e = record { identifier = e.identifier; value = decoded e.value }

-- The fault of an escaped text: an escape, or more than the 90 characters of the longest value.
unfoldable pub escaped_fault : ℕ → List ℕ → Option LinkReadError
escaped_fault place text =
    if is_readable_link text
    then (if nat_lt 90 (length (decoded text)) then Some (ValueTooLong place) else None)
    else Some (WrongEscape place)

-- The fault of an element that is written so: of its text, or by the table.
abbrev pub written_fault : ℕ → Element → Option LinkReadError
written_fault place e =
    option_or (escaped_fault place e.value)
    (option_map (λ error. Elements error) (element_error place (decoded_element e)))

-- ---- The path

-- What is left of a text behind a separator, cut at further ones.
abbrev pub cut_parts : (ℕ → Bool) → Option (List ℕ) → List (List ℕ)
cut_parts separates None = []
cut_parts separates (Some text) = slice_split separates text

abbrev pub is_key_text : List ℕ → Bool
is_key_text segment = is_identifier segment && is_among keys (number_of_identifier segment)

-- The segments from the key on: it is the last that is the identifier of a primary key and has an
-- odd number of segments after it.
abbrev pub path_in : List (List ℕ) → Option (List (List ℕ))
path_in [] = None
path_in (segment ∷ segments) =
    option_or (path_in segments)
    (if is_key_text segment && (length segments % 2 == 1) then Some (segment ∷ segments) else None)

-- The elements of segments, their values escaped: an identifier, and then a value.
abbrev pub pairs : List (List ℕ) → List Element
pairs [] = []
pairs (segment ∷ []) = []
pairs (segment ∷ text ∷ segments) =
    (let e : Element = record { identifier = segment; value = text } in e) ∷ pairs segments

-- An identifier stands in neither order.
unfoldable pub order_fault : List ℕ → List ℕ → ℕ → ℕ → Option LinkReadError
order_fault first second place n =
    if list_any (λ m. m == n) first || list_any (λ m. m == n) second then None
    else Some (WrongQualifier place n)

-- The first fault of qualifiers, of which one order or the other is left; they are counted from
-- `place`.
abbrev pub qualifiers_fault : List ℕ → List ℕ → ℕ → List Element → Option LinkReadError
qualifiers_fault first second place [] = None
qualifiers_fault first second place (e ∷ elements) =
    option_or (written_fault place e)
    (option_or (order_fault first second place (number e))
    (qualifiers_fault (after_first (λ m. m == number e) first)
    (after_first (λ m. m == number e) second) (place + 1) elements))

-- The first fault of the elements of a path.
abbrev pub path_fault : List Element → Option LinkReadError
path_fault [] = Some NoKey
path_fault (key ∷ elements) =
    option_or (written_fault 0 key)
    (qualifiers_fault (order_of (number key) false) (order_of (number key) true) 1 elements)

-- The number of the key of a path.
abbrev pub path_key : List Element → ℕ
path_key [] = 0
path_key (key ∷ elements) = number key

-- ---- The query

abbrev pub is_equals : ℕ → Bool
is_equals c = c == 0x3d

-- The element of a part, its value escaped: the identifier ends at the first equals sign.
abbrev pub part_element : List ℕ → Element
part_element part = record {
  identifier = before_first is_equals part;
  value = after_first is_equals part;
}

unfoldable pub equals_fault : ℕ → List ℕ → Option LinkReadError
equals_fault place part =
    if position_or_len is_equals part == length part then Some (NoEqualsSign place) else None

-- An element of the query is a key, or qualifies the key of the link.
unfoldable pub attribute_fault : ℕ → ℕ → Element → Option LinkReadError
attribute_fault key place e =
    if is_attribute key e then None else Some (WrongAttribute place (number e))

abbrev pub part_fault : ℕ → ℕ → List ℕ → Option LinkReadError
part_fault key place part =
    option_or (equals_fault place part)
    (option_or (written_fault place (part_element part))
    (attribute_fault key place (part_element part)))

-- The first fault of the parts of a query beside a key, counted from `place`.
abbrev pub query_fault : ℕ → ℕ → List (List ℕ) → Option LinkReadError
query_fault key place [] = None
query_fault key place (part ∷ parts) =
    option_or (part_fault key place part) (query_fault key (place + 1) parts)

abbrev pub is_part_of : ℕ → List ℕ → Bool
is_part_of n part = number (part_element part) == n

-- An identifier stands once more in the parts after it.
unfoldable pub twin_fault : ℕ → ℕ → List (List ℕ) → Option LinkReadError
twin_fault place n parts =
    if list_any (is_part_of n) parts then Some (RepeatedElement place n) else None

abbrev pub twins_fault : ℕ → List (List ℕ) → Option LinkReadError
twins_fault place [] = None
twins_fault place (part ∷ parts) =
    option_or (twin_fault place (number (part_element part)) parts) (twins_fault (place + 1) parts)

-- ---- The link

unfoldable pub scheme_fault : List ℕ → Option LinkReadError
scheme_fault link = if is_some (after_scheme link) then None else Some WrongScheme

unfoldable pub link_character_fault : List ℕ → Option LinkReadError
link_character_fault link =
    option_map (λ place. WrongCharacter place) (position (λ c. not (is_link_character c)) link)

abbrev pub rest_of : List ℕ → List ℕ
rest_of link = unwrap_or (after_scheme link) []

-- The domain and the segments, before the query.
abbrev pub before_query : List ℕ → List ℕ
before_query link = before_first is_question (rest_of link)

abbrev pub query_of : List ℕ → List ℕ
query_of link = after_first is_question (rest_of link)

unfoldable pub link_domain_fault : List ℕ → Option LinkReadError
link_domain_fault link =
    if is_host (before_first is_slash (before_query link)) then None else Some WrongDomain

abbrev pub path_of : List ℕ → Option (List (List ℕ))
path_of link = path_in (drop 1 (slice_split is_slash (before_query link)))

unfoldable pub link_key_fault : List ℕ → Option LinkReadError
link_key_fault link = if is_some (path_of link) then None else Some NoKey

-- The first fault before the elements are looked at.
abbrev pub front_fault : List ℕ → Option LinkReadError
front_fault link =
    option_or (scheme_fault link)
    (option_or (link_character_fault link) (option_or (link_domain_fault link) (link_key_fault link)))

-- The elements of the path, their values escaped, and the parts of the query.
abbrev pub path_pairs : List ℕ → List Element
path_pairs link = pairs (unwrap_or (path_of link) [])

abbrev pub query_parts_of : List ℕ → List (List ℕ)
query_parts_of link = query_parts (query_of link)

-- The elements that are left of a path and of a query.
abbrev pub elements_left : Option (List ℕ) → Option (List ℕ) → List Element
elements_left path query =
    map decoded_element (pairs (cut_parts is_slash path))
    ++ map (λ part. decoded_element (part_element part)) (cut_parts is_ampersand query)

-- The elements of a path, from the key on, and of a query.
abbrev pub elements_in : List ℕ → List ℕ → List Element
elements_in path query =
    map decoded_element (pairs (slice_split is_slash path))
    ++ map (λ part. decoded_element (part_element part)) (query_parts query)

-- The elements of a link whose parts have no fault.
abbrev pub link_elements : List ℕ → List Element
link_elements link =
    map decoded_element (path_pairs link)
    ++ map (λ part. decoded_element (part_element part)) (query_parts_of link)

-- The first fault of elements that may not stand together.
unfoldable pub link_together_fault : List Element → Option LinkReadError
link_together_fault elements = option_map (λ error. Together error) (first_conflict elements 0 elements)

-- The first fault of the parts of a link. The elements are counted from the key on.
abbrev pub parts_fault : List ℕ → Option LinkReadError
parts_fault link =
    option_or (front_fault link)
    (option_or (path_fault (path_pairs link))
    (option_or
    (query_fault (path_key (path_pairs link)) (length (path_pairs link)) (query_parts_of link))
    (twins_fault (length (path_pairs link)) (query_parts_of link))))

-- The first fault of a link: of its parts, or of its elements together.
abbrev pub reading_fault : List ℕ → Option LinkReadError
reading_fault link = option_or (parts_fault link) (link_together_fault (link_elements link))

-- When each error is returned: it is the first fault, or out of memory where there is none.
abbrev pub IsRefusedReading : List ℕ → LinkReadError → Type 0
IsRefusedReading link error =
    (reading_fault link ≡ Some error) ⊎ ((error ≡ OutOfMemory) × (reading_fault link ≡ None))

-- The link of a text is read as the elements of the text, and as no others.
abbrev pub LinksAreReadBack : Type 0
LinksAreReadBack = (text domain : List ℕ) (elements : List Element) →
    link_error text domain ≡ None →
    ReadsLink (link_of domain (written_elements text)) elements →
    elements ≡ linked (written_elements text)

-- A reader finds elements in the links without a fault, and in no others.
pub record LinksAreReadOrRefused : Type 0 where
  pub read : (link : List ℕ) → reading_fault link ≡ None → ReadsLink link (link_elements link)
  pub refused : (link : List ℕ) (elements : List Element) → ReadsLink link elements →
      reading_fault link ≡ None
