-- A reader of links finds in the link of elements these elements.
use Rattle.std.proofs.Common.{◌≡◌, ℕ, ◌<◌, Bool, true, false, cond, List, [], ◌∷◌, ◌++◌, length}
use Rattle.std.proofs.Common.{drop, refl, arith, ap, sym, subst, ◌∙◌, append_assoc, length-append, ◌/◌, ◌%◌}
use Rattle.std.specs.Prelude.{All, Some, ◌||◌, ◌==◌}
use Rattle.std.specs.List.{slice_split, before_first, after_first, flat_map, list_all, AllPass}
use Rattle.std.proofs.lemmas.Grind.{common_steps}
use Rattle.std.proofs.lemmas.List.{append-nil}
use Rattle.std.proofs.lemmas.List.Elements.{All-nil, All-cons, All-head, All-tail, All-append, All-weaker}
use Rattle.std.proofs.lemmas.List.Sums.{AllPass-from_list_all, list_all-from_AllPass}
use Rattle.gs1_base.specs.Characters.{is_decimal_digit}
use Rattle.gs1.specs.Elements.{Element}
use Rattle.gs1_base.specs.Percent.{is_unreserved, capital_digit, byte_escape, percent_text}
use Rattle.gs1_base.specs.Domains.{is_domain, is_domain_character, is_host, is_slash}
use Rattle.gs1_links.specs.Links.{path_text, query_text}
use Rattle.gs1_links.specs.LinkReader.{is_question, is_ampersand, is_link_character, query_parts, after_scheme}
use Rattle.gs1_links.specs.LinkReader.{ReadsPath, ReadsQuery, HasParts}
use Rattle.gs1.proofs.Faults.{both}
use Rattle.gs1_base.proofs.Percents.{escaped_read}
use Rattle.gs1_links.proofs.LinkCuts.{IsFree, AreFree, before_free, after_free, before_at, after_at, split_pieces, split_behind}
use Rattle.gs1_links.proofs.LinkElements.{IsLinkable}
use Rattle.gs1_links.proofs.LinkFronts.{split_first}

-- ---- Characters

-- A character of an identifier or of an escaped value.
abbrev is_plain : ℕ → Bool
is_plain c = is_unreserved c || (c == 0x25)

abbrev ArePlain : List ℕ → Type 0
ArePlain xs = All (λ c. is_plain c ≡ true) xs

digit_plain : (c : ℕ) → is_decimal_digit c ≡ true → is_plain c ≡ true
digit_plain c e = grind (arith, common_steps)

domain_no_question : (c : ℕ) → is_domain_character c ≡ true → is_question c ≡ false
domain_no_question c e = grind (arith, common_steps)

domain_in_links : (c : ℕ) → is_domain_character c ≡ true → is_link_character c ≡ true
domain_in_links c e = grind (arith, common_steps)

unreserved_plain : (c : ℕ) → is_unreserved c ≡ true → is_plain c ≡ true
unreserved_plain c e = grind (arith, common_steps)

capital_plain : (n : ℕ) → n < 16 → is_plain (capital_digit n) ≡ true
capital_plain n small = grind (arith, common_steps)

plain_no_slash : (c : ℕ) → is_plain c ≡ true → is_slash c ≡ false
plain_no_slash c e = grind (arith, common_steps)

plain_no_question : (c : ℕ) → is_plain c ≡ true → is_question c ≡ false
plain_no_question c e = grind (arith, common_steps)

plain_no_ampersand : (c : ℕ) → is_plain c ≡ true → is_ampersand c ≡ false
plain_no_ampersand c e = grind (arith, common_steps)

plain_in_links : (c : ℕ) → is_plain c ≡ true → is_link_character c ≡ true
plain_in_links c e = grind (arith, common_steps)

plain_escape : (c : ℕ) → c < 256 → ArePlain (byte_escape c)
unfolding byte_escape
plain_escape c small =
    elim (is_unreserved c) as (λ b. is_unreserved c ≡ b →
    ArePlain (cond b (c ∷ []) (0x25 ∷ capital_digit (c / 16) ∷ capital_digit (c % 16) ∷ []))) [
      | true ↦ λ e. All-cons (λ x. is_plain x ≡ true) c [] (unreserved_plain c e) (All-nil (λ x. is_plain x ≡ true))
      | false ↦ λ e.
          All-cons (λ x. is_plain x ≡ true) 0x25 (capital_digit (c / 16) ∷ capital_digit (c % 16) ∷ []) refl
          (All-cons (λ x. is_plain x ≡ true) (capital_digit (c / 16)) (capital_digit (c % 16) ∷ []) (capital_plain (c / 16) (omega arith))
          (All-cons (λ x. is_plain x ≡ true) (capital_digit (c % 16)) [] (capital_plain (c % 16) (omega arith))
          (All-nil (λ x. is_plain x ≡ true))))
    ] refl

plain_escaped : (bytes : List ℕ) → All (λ c. c < 256) bytes → ArePlain (percent_text bytes)
plain_escaped [] small = All-nil (λ x. is_plain x ≡ true)
plain_escaped (c ∷ bytes) small =
    All-append (λ x. is_plain x ≡ true) (byte_escape c) (percent_text bytes)
    (plain_escape c (All-head (λ x. x < 256) c bytes small)) (plain_escaped bytes (All-tail (λ x. x < 256) c bytes small))

plain_identifier : (e : Element) → IsLinkable e → ArePlain e.identifier
plain_identifier e good =
    All-weaker (λ c. is_decimal_digit c ≡ true) (λ c. is_plain c ≡ true) digit_plain e.identifier good.digits

plain_value : (e : Element) → IsLinkable e → ArePlain (percent_text e.value)
plain_value e good = plain_escaped e.value good.small

-- What a domain is: its characters, and the host before the first slash.
pub record IsDomain (domain : List ℕ) : Type 0 where
  pub characters : All (λ c. is_domain_character c ≡ true) domain
  pub host : is_host (before_first is_slash domain) ≡ true

pub domain_is : (domain : List ℕ) → is_domain domain ≡ true → IsDomain domain
unfolding is_domain
domain_is domain is =
    let first = both _ _ is in
    let second = both (list_all is_domain_character domain) _ first.0 in
    record { characters = AllPass-from_list_all is_domain_character domain second.0; host = second.1 }

without : (p : ℕ → Bool) → ((c : ℕ) → is_plain c ≡ true → p c ≡ false) → (xs : List ℕ) → ArePlain xs → IsFree p xs
without p fails xs plain = All-weaker (λ c. is_plain c ≡ true) (λ c. p c ≡ false) fails xs plain

-- ---- The path

abbrev pieces_of : List Element → List (List ℕ)
pieces_of [] = []
pieces_of (e ∷ elements) = e.identifier ∷ percent_text e.value ∷ pieces_of elements

path_pieces : (elements : List Element) → flat_map path_text elements ≡ flat_map (λ piece. 0x2f ∷ piece) (pieces_of elements)
path_pieces [] = refl
path_pieces (e ∷ elements) =
    let text : List ℕ = 0x2f ∷ percent_text e.value in
    ap (λ xs. 0x2f ∷ xs) (append_assoc e.identifier text (flat_map path_text elements))
    ∙ ap (λ xs. 0x2f ∷ (e.identifier ++ (text ++ xs))) (path_pieces elements)

free_pieces : (elements : List Element) → All IsLinkable elements → AreFree is_slash (pieces_of elements)
free_pieces [] good = tt
free_pieces (e ∷ elements) good =
    let first = All-head IsLinkable e elements good in (
      without is_slash plain_no_slash e.identifier (plain_identifier e first),
      (without is_slash plain_no_slash (percent_text e.value) (plain_value e first), free_pieces elements (All-tail IsLinkable e elements good)),
    )

reads_path : (elements : List Element) → All IsLinkable elements → ReadsPath (pieces_of elements) elements
reads_path [] good = refl
reads_path (e ∷ elements) good =
    let first = All-head IsLinkable e elements good in
    (percent_text e.value, pieces_of elements, refl, escaped_read e.value first.small, reads_path elements (All-tail IsLinkable e elements good))

-- A fact of plain characters, and of the slash, holds along the path.
along_path : (P : ℕ → Type 0) → ((c : ℕ) → is_plain c ≡ true → P c) → P 0x2f → (elements : List Element) →
    All IsLinkable elements → All P (flat_map path_text elements)
along_path P plain slash [] good = All-nil P
along_path P plain slash (e ∷ elements) good =
    let first = All-head IsLinkable e elements good in
    let below = along_path P plain slash elements (All-tail IsLinkable e elements good) in
    let name = All-weaker (λ c. is_plain c ≡ true) P plain e.identifier (plain_identifier e first) in
    let value = All-weaker (λ c. is_plain c ≡ true) P plain (percent_text e.value) (plain_value e first) in
    All-append P (path_text e) (flat_map path_text elements)
    (All-cons P 0x2f (e.identifier ++ 0x2f ∷ percent_text e.value) slash
    (All-append P e.identifier (0x2f ∷ percent_text e.value) name (All-cons P 0x2f (percent_text e.value) slash value))) below

-- ---- The query

abbrev parts_of : List Element → List (List ℕ)
parts_of [] = []
parts_of (e ∷ elements) = (e.identifier ++ 0x3d ∷ percent_text e.value) ∷ parts_of elements

query_pieces : (elements : List Element) → query_text 0x26 elements ≡ flat_map (λ piece. 0x26 ∷ piece) (parts_of elements)
query_pieces [] = refl
query_pieces (e ∷ elements) =
    ap (λ xs. 0x26 ∷ ((e.identifier ++ 0x3d ∷ percent_text e.value) ++ xs)) (query_pieces elements)

free_part : (e : Element) → IsLinkable e → IsFree is_ampersand (e.identifier ++ 0x3d ∷ percent_text e.value)
free_part e good =
    All-append (λ c. is_ampersand c ≡ false) e.identifier (0x3d ∷ percent_text e.value)
    (without is_ampersand plain_no_ampersand e.identifier (plain_identifier e good))
    (All-cons (λ c. is_ampersand c ≡ false) 0x3d (percent_text e.value) refl
    (without is_ampersand plain_no_ampersand (percent_text e.value) (plain_value e good)))

free_parts : (elements : List Element) → All IsLinkable elements → AreFree is_ampersand (parts_of elements)
free_parts [] good = tt
free_parts (e ∷ elements) good =
    (free_part e (All-head IsLinkable e elements good), free_parts elements (All-tail IsLinkable e elements good))

reads_query : (elements : List Element) → All IsLinkable elements → ReadsQuery (parts_of elements) elements
reads_query [] good = refl
reads_query (e ∷ elements) good =
    let first = All-head IsLinkable e elements good in
    (percent_text e.value, parts_of elements, refl, escaped_read e.value first.small, reads_query elements (All-tail IsLinkable e elements good))

along_query : (P : ℕ → Type 0) → ((c : ℕ) → is_plain c ≡ true → P c) → P 0x26 → P 0x3d → (separator : ℕ) → P separator →
    (elements : List Element) → All IsLinkable elements → All P (query_text separator elements)
along_query P plain ampersand equals separator here [] good = All-nil P
along_query P plain ampersand equals separator here (e ∷ elements) good =
    let first = All-head IsLinkable e elements good in
    let below = along_query P plain ampersand equals 0x26 ampersand elements (All-tail IsLinkable e elements good) in
    let name = All-weaker (λ c. is_plain c ≡ true) P plain e.identifier (plain_identifier e first) in
    let value = All-weaker (λ c. is_plain c ≡ true) P plain (percent_text e.value) (plain_value e first) in
    All-append P (separator ∷ (e.identifier ++ 0x3d ∷ percent_text e.value)) (query_text 0x26 elements)
    (All-cons P separator (e.identifier ++ 0x3d ∷ percent_text e.value) here
    (All-append P e.identifier (0x3d ∷ percent_text e.value) name (All-cons P 0x3d (percent_text e.value) equals value))) below

-- ---- The link

parts_some : (text : List ℕ) → 0 < length text → query_parts text ≡ slice_split is_ampersand text
parts_some text some = pick (length text == 0) (slice_split is_ampersand text) (not_zero (length text) some)
  where
    not_zero : (n : ℕ) → 0 < n → (n == 0) ≡ false
    not_zero n some = grind (arith, common_steps)

    pick : (b : Bool) (parts : List (List ℕ)) → b ≡ false → cond b [] parts ≡ parts
    pick true parts e = absurd (let h : true ≡ false = e in cc)
    pick false parts e = refl

-- How the text behind the scheme is cut.
record IsCutAt (front : List ℕ) (query : List Element) : Type 0 where
  path_is : before_first is_question (front ++ query_text 0x3f query) ≡ front
  query_is : ReadsQuery (query_parts (after_first is_question (front ++ query_text 0x3f query))) query

cut_at : (front : List ℕ) (query : List Element) → IsFree is_question front → All IsLinkable query → IsCutAt front query
cut_at front [] free good =
    let whole : front ++ [] ≡ front = append-nil front in
    record {
      path_is = rw whole (before_free is_question front free);
      query_is = rw whole (rw (after_free is_question front free) refl);
    }
cut_at front (e ∷ query) free good =
    let part : List ℕ = e.identifier ++ 0x3d ∷ percent_text e.value in
    let back : List ℕ = part ++ query_text 0x26 query in
    let some : 0 < length back = omega (arith, length-append part (query_text 0x26 query), length-append e.identifier (0x3d ∷ percent_text e.value)) in
    let pieces : query_parts back ≡ part ∷ parts_of query =
    parts_some back some ∙ ap (λ xs. slice_split is_ampersand (part ++ xs)) (query_pieces query)
    ∙ split_pieces is_ampersand 0x26 refl part (parts_of query) (free_part e (All-head IsLinkable e query good))
    (free_parts query (All-tail IsLinkable e query good)) in
    let after : after_first is_question (front ++ 0x3f ∷ back) ≡ back = after_at is_question front 0x3f back free refl in
    let P : List (List ℕ) → Type 0 = λ xs. ReadsQuery xs (e ∷ query) in
    record {
      path_is = before_at is_question front 0x3f back free refl;
      query_is = subst P (sym (ap query_parts after ∙ pieces)) (reads_query (e ∷ query) good);
    }

-- A reader cuts the link into its parts.
pub has_parts : (scheme domain : List ℕ) (path query : List Element) → AllPass is_link_character scheme →
    after_scheme (scheme ++ domain ++ flat_map path_text path ++ query_text 0x3f query)
    ≡ Some (domain ++ flat_map path_text path ++ query_text 0x3f query) → IsDomain domain → All IsLinkable path →
    All IsLinkable query → HasParts (scheme ++ domain ++ flat_map path_text path ++ query_text 0x3f query) path query
has_parts scheme domain path query plain_scheme behind good good_path good_query =
    let front : List ℕ = domain ++ flat_map path_text path in
    let no_question = All-append (λ c. is_question c ≡ false) domain (flat_map path_text path)
    (All-weaker (λ c. is_domain_character c ≡ true) (λ c. is_question c ≡ false) domain_no_question domain good.characters)
    (along_path (λ c. is_question c ≡ false) plain_no_question refl path good_path) in
    let cut = cut_at front query no_question good_query in
    let split : slice_split is_slash front ≡ before_first is_slash domain ∷ (drop 1 (slice_split is_slash domain) ++ pieces_of path) =
    ap (λ xs. slice_split is_slash (domain ++ xs)) (path_pieces path)
    ∙ split_behind is_slash 0x2f refl domain (pieces_of path) (free_pieces path good_path)
    ∙ ap (λ xs. xs ++ pieces_of path) (split_first domain) in
    let L : ℕ → Type 0 = λ c. is_link_character c ≡ true in
    let all = All-append L (scheme ++ domain ++ flat_map path_text path) (query_text 0x3f query)
    (All-append L (scheme ++ domain) (flat_map path_text path)
    (All-append L scheme domain plain_scheme
    (All-weaker (λ c. is_domain_character c ≡ true) L domain_in_links domain good.characters))
    (along_path L plain_in_links refl path good_path))
    (along_query L plain_in_links refl refl 0x3f refl query good_query) in
    record {
      rest = front ++ query_text 0x3f query;
      domain = before_first is_slash domain;
      stem = drop 1 (slice_split is_slash domain);
      segments = pieces_of path;
      scheme_is = behind;
      cut = ap (slice_split is_slash) cut.path_is ∙ split;
      domain_is = good.host;
      path_is = reads_path path good_path;
      query_is = cut.query_is;
      characters = list_all-from_AllPass is_link_character
          (scheme ++ domain ++ flat_map path_text path ++ query_text 0x3f query) all;
    }
