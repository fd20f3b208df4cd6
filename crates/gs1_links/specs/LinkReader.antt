-- What a reader of links finds in one (GS1 Digital Link Standard: URI Syntax, release 1.4,
-- "Uncompressed GS1 Digital Link URI").
use Rattle.std.specs.Prelude.{◌≡◌, ◌⊎◌, ℕ, ◌+◌, Bool, true, false, ◌==◌, ◌&&◌, ◌||◌, if◌then◌else◌}
use Rattle.std.specs.Prelude.{List, [], ◌∷◌, ◌++◌, length, map, drop, slice_index, Option, None, Some, All}
use Rattle.std.specs.List.{slice_split, before_first, after_first, list_all, list_any}
use Rattle.gs1.specs.Elements.{Element}
use Rattle.gs1.specs.Values.{element_error}
use Rattle.gs1.specs.Together.{is_among, first_conflict}
use Rattle.gs1_base.specs.Percent.{ReadsAs, stands_for_itself, is_percent}
use Rattle.gs1_base.specs.Domains.{is_host, is_slash}
use Rattle.gs1_links.specs.Links.{keys, number, order_of, is_attribute}

-- A small letter, or its capital.
abbrev pub is_letter : ℕ → ℕ → Bool
is_letter small c = (c == small) || (c + 0x20 == small)

-- `http`, in letters of either case (RFC 3986, section 3.1).
abbrev pub begins_http : List ℕ → Bool
begins_http link =
    is_letter 0x68 (slice_index link 0) && is_letter 0x74 (slice_index link 1)
    && is_letter 0x74 (slice_index link 2) && is_letter 0x70 (slice_index link 3)

-- Further on `s://`, or `://`.
abbrev pub goes_on_secure : List ℕ → Bool
goes_on_secure link =
    is_letter 0x73 (slice_index link 4) && (slice_index link 5 == 0x3a)
    && (slice_index link 6 == 0x2f) && (slice_index link 7 == 0x2f)

abbrev pub goes_on_plain : List ℕ → Bool
goes_on_plain link =
    (slice_index link 4 == 0x3a) && (slice_index link 5 == 0x2f) && (slice_index link 6 == 0x2f)

-- What stands behind `https://` or `http://`.
unfoldable pub after_scheme : List ℕ → Option (List ℕ)
after_scheme link =
    if begins_http link && goes_on_secure link then Some (drop 8 link)
    else (if begins_http link && goes_on_plain link then Some (drop 7 link) else None)

abbrev pub is_question : ℕ → Bool
is_question c = c == 0x3f

abbrev pub is_ampersand : ℕ → Bool
is_ampersand c = c == 0x26

-- A character of a URI without a fragment (RFC 3986, section 2).
abbrev pub is_link_character : ℕ → Bool
is_link_character c = is_percent c || stands_for_itself c

-- The parts of a query, between ampersands; without a text there are none.
abbrev pub query_parts : List ℕ → List (List ℕ)
query_parts text = if length text == 0 then [] else slice_split is_ampersand text

-- The segments of a path are those of elements: an identifier, and then a value.
abbrev pub ReadsPath : List (List ℕ) → List Element → Type 0
ReadsPath segments [] = segments ≡ []
ReadsPath segments (e ∷ elements) =
    (text : List ℕ) × (rest : List (List ℕ)) × (segments ≡ e.identifier ∷ text ∷ rest)
    × ReadsAs text e.value × ReadsPath rest elements

-- The parts of a query are those of elements: an identifier, an equals sign and a value.
abbrev pub ReadsQuery : List (List ℕ) → List Element → Type 0
ReadsQuery parts [] = parts ≡ []
ReadsQuery parts (e ∷ elements) =
    (text : List ℕ) × (rest : List (List ℕ)) × (parts ≡ (e.identifier ++ 0x3d ∷ text) ∷ rest)
    × ReadsAs text e.value × ReadsQuery rest elements

-- Numbers stand in an order: each is in it, after those before.
abbrev pub follows : List ℕ → List ℕ → Bool
follows [] order = true
follows (n ∷ numbers) [] = false
follows (n ∷ numbers) (m ∷ order) =
    if m == n then follows numbers order else follows (n ∷ numbers) order

-- Two elements have the same identifier.
abbrev pub has_twins : List Element → Bool
has_twins [] = false
has_twins (e ∷ elements) = list_any (λ other. number other == number e) elements || has_twins elements

-- A link has these parts: a scheme, a host, any segments, the elements of the path and those of
-- the query. It has no fragment.
pub record HasParts (link : List ℕ) (path query : List Element) : Type 0 where
  pub rest : List ℕ
  pub domain : List ℕ
  pub stem : List (List ℕ)
  pub segments : List (List ℕ)
  pub scheme_is : after_scheme link ≡ Some rest
  pub cut : slice_split is_slash (before_first is_question rest) ≡ domain ∷ stem ++ segments
  pub domain_is : is_host domain ≡ true
  pub path_is : ReadsPath segments path
  pub query_is : ReadsQuery (query_parts (after_first is_question rest)) query
  pub characters : list_all is_link_character link ≡ true

-- The elements that may stand so: a primary key, qualifiers of this key in their order, and others
-- that are no keys and do not qualify this one, none of them twice. The table allows each, and they
-- may stand together.
pub record AreLinked (key : Element) (qualifying query : List Element) : Type 0 where
  pub key_is : is_among keys (number key) ≡ true
  pub ordered : (follows (map number qualifying) (order_of (number key) false) ≡ true)
      ⊎ (follows (map number qualifying) (order_of (number key) true) ≡ true)
  pub attributes : list_all (is_attribute (number key)) query ≡ true
  pub once : has_twins query ≡ false
  pub allowed : All (λ e. element_error 0 e ≡ None) (key ∷ qualifying ++ query)
  pub together : first_conflict (key ∷ qualifying ++ query) 0 (key ∷ qualifying ++ query) ≡ None

-- A reader finds these elements in the link: the key, its qualifiers and the rest. Example: in
-- `http://a.example/b/01/09506000134352?17=261231` it finds 01 and 17.
pub record ReadsLink (link : List ℕ) (elements : List Element) : Type 0 where
  pub key : Element
  pub qualifying : List Element
  pub query : List Element
  pub are : elements ≡ key ∷ qualifying ++ query
  pub parts : HasParts link (key ∷ qualifying) query
  pub linked : AreLinked key qualifying query

-- No link is read as two lists of elements.
abbrev pub LinksHaveOneReading : Type 0
LinksHaveOneReading = (link : List ℕ) (first second : List Element) →
    ReadsLink link first → ReadsLink link second → first ≡ second
