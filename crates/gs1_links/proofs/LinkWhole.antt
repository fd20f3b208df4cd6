-- The link of a text without a fault is read as its elements.
use Rattle.std.proofs.Common.{◌≡◌, ℕ, Bool, true, false, List, [], ◌∷◌, ◌++◌, length, ◌+◌, refl, ap, sym, subst}
use Rattle.std.specs.Prelude.{All, Contains, Option, None, Some, if◌then◌else◌, nat_lt, is_some, ◌&&◌, ◌==◌, unwrap_or}
use Rattle.std.specs.Option.{option_or, option_map, option_to_list}
use Rattle.std.specs.List.{list_any, list_all, AllPass}
use Rattle.std.proofs.lemmas.List.Elements.{All-cons, All-append, All-weaker, All-filter, All-contains_itself}
use Rattle.std.proofs.lemmas.List.Sums.{AllPass-from_list_all}
use Rattle.gs1.specs.Elements.{Element, written_elements}
use Rattle.gs1.specs.Values.{element_error, first_error, text_error}
use Rattle.gs1_base.specs.Domains.{is_domain}
use Rattle.gs1_links.specs.Links.{key_number, excluded_qualifiers}
use Rattle.gs1_links.specs.Links.{keys, number, is_attribute, domain_fault, text_length_fault, no_key_fault}
use Rattle.gs1_links.specs.Links.{qualifier_fault, second_key_fault, repeated_fault, later_fault, place_with}
use Rattle.gs1_links.specs.Links.{first_rule_fault, elements_fault, qualifier_order, path_elements, query_elements}
use Rattle.gs1_links.specs.Links.{linked, link_of, link_error, IsRefusedLink, together_fault, linking_fault}
use Rattle.gs1_links.specs.Links.{link_behind, https, capital_https, capital_link_of}
use Rattle.gs1.specs.Together.{is_among, first_among, first_conflict}
use Rattle.gs1.specs.declared.together.TogetherError.{TogetherError}
use Rattle.gs1_links.specs.LinkReader.{HasParts, ReadsLink, is_link_character, after_scheme}
use Rattle.gs1.specs.declared.refusal.CheckError.{CheckError}
use Rattle.gs1_links.specs.declared.link_error.LinkError.{LinkError}
use Rattle.gs1_links.specs.declared.link_error.LinkError.TheVariants.{Elements, WrongDomain, TextTooLong}
use Rattle.gs1_links.specs.declared.link_error.LinkError.TheVariants.{NoKey, SecondKey, WrongQualifier}
use Rattle.gs1_links.specs.declared.link_error.LinkError.TheVariants.{RepeatedElement, Together, OutOfMemory}
use Rattle.gs1.proofs.Faults.{neither}
use Rattle.gs1.proofs.Allowed.{none_mapped}
use Rattle.gs1.proofs.AllowedStrings.{text_tests}
use Rattle.gs1_links.proofs.LinkElements.{IsLinkable, all_linkable, among_of, holds_of, qualifying, all_qualifying}
use Rattle.gs1_links.proofs.LinkElements.{all_attributes, no_twins, some_key, key_order}
use Rattle.gs1_links.proofs.LinkReads.{IsDomain, domain_is, has_parts}
use Rattle.gs1_links.proofs.CapitalLemmas.{capital_is}
use Rattle.gs1_links.specs.Capitals.{capital_domain}
use Rattle.gs1_links.proofs.LinkKept.{all_kept}
use Rattle.gs1_links.proofs.LinkTogether.{together_same}

elements_read : (scheme domain : List ℕ) (elements : List Element) → AllPass is_link_character scheme →
    after_scheme (link_behind scheme domain elements) ≡ Some (link_behind [] domain elements) →
    IsDomain domain → first_error 0 elements ≡ None →
    no_key_fault elements ≡ None → first_rule_fault (excluded_qualifiers elements) 0 elements ≡ None →
    first_conflict elements 0 elements ≡ None → ReadsLink (link_behind scheme domain elements) (linked elements)
elements_read scheme domain elements plain behind is table some_one rules together =
    let good = all_linkable 0 elements table in
    let key = some_key elements some_one in
    let path_is : path_elements elements ≡ key.0 ∷ qualifying (qualifier_order elements) elements =
    ap (λ o. option_to_list o ++ qualifying (qualifier_order elements) elements) key.1 in
    let number_is : key_number elements ≡ number key.0 = ap (λ o. unwrap_or (option_map number o) 0) key.1 in
    let good_path = All-cons IsLinkable key.0 (qualifying (qualifier_order elements) elements)
    (holds_of IsLinkable keys elements key.0 good key.1) (all_qualifying IsLinkable elements (qualifier_order elements) good) in
    let good_query = All-filter (is_attribute (key_number elements)) IsLinkable elements good in
    let self = All-contains_itself elements in
    let all : List Element = key.0 ∷ qualifying (qualifier_order elements) elements ++ query_elements elements in
    let within : All (Contains elements) all =
    All-append (Contains elements) (key.0 ∷ qualifying (qualifier_order elements) elements) (query_elements elements)
    (All-cons (Contains elements) key.0 (qualifying (qualifier_order elements) elements)
    (holds_of (Contains elements) keys elements key.0 self key.1)
    (all_qualifying (Contains elements) elements (qualifier_order elements) self))
    (All-filter (is_attribute (key_number elements)) (Contains elements) elements self) in
    let kept : All (Contains all) elements =
    subst (λ l. All (Contains l) elements) (ap (λ path. path ++ query_elements elements) path_is) (all_kept elements rules) in
    let P : List Element → Type 0 = λ path. HasParts (link_behind scheme domain elements) path (query_elements elements) in
    record {
      key = key.0;
      qualifying = qualifying (qualifier_order elements) elements;
      query = query_elements elements;
      are = ap (λ path. path ++ query_elements elements) path_is;
      parts = subst P path_is (has_parts scheme domain (path_elements elements) (query_elements elements) plain behind is
          (subst (All IsLinkable) (sym path_is) good_path) good_query);
      linked = record {
        key_is = among_of keys elements key.0 key.1;
        ordered = key_order elements key.0 key.1;
        attributes = subst (λ n. list_all (is_attribute n) (query_elements elements) ≡ true) number_is
            (all_attributes (key_number elements) elements);
        once = no_twins (key_number elements) (excluded_qualifiers elements) 0 elements rules;
        allowed = All-weaker IsLinkable (λ e. element_error 0 e ≡ None) (λ e each. each.allowed)
            (key.0 ∷ qualifying (qualifier_order elements) elements ++ query_elements elements)
            (All-append IsLinkable (key.0 ∷ qualifying (qualifier_order elements) elements) (query_elements elements) good_path good_query);
        together = together_same elements all (record { there = kept; back = within }) together;
      };
    }

-- No element of the text is lost.
pub elements_kept : (text domain : List ℕ) → link_error text domain ≡ None →
    All (Contains (linked (written_elements text))) (written_elements text)
elements_kept text domain none =
    let first = neither (text_length_fault text) _ none in
    let second = neither (option_map (λ error. Elements error) (text_error text)) _ first.1 in
    let third = neither (domain_fault domain) (linking_fault (written_elements text)) second.1 in
    let fourth = neither (elements_fault (written_elements text)) (together_fault (written_elements text)) third.1 in
    let rules = neither (no_key_fault (written_elements text)) _ fourth.0 in
    all_kept (written_elements text) rules.1

right_domain : (domain : List ℕ) → domain_fault domain ≡ None → is_domain domain ≡ true
unfolding domain_fault
right_domain domain none = right (is_domain domain) none
  where
    right : (b : Bool) → (if b then None else Some WrongDomain) ≡ None → b ≡ true
    right true e = refl
    right false e = absurd (let h : Some WrongDomain ≡ None = e in cc)

stand_together : (elements : List Element) → together_fault elements ≡ None → first_conflict elements 0 elements ≡ None
unfolding together_fault
stand_together elements none = none_mapped (λ (error : TogetherError). Together error) (first_conflict elements 0 elements) none

read_behind : (text scheme domain other : List ℕ) → AllPass is_link_character scheme →
    after_scheme (link_behind scheme other (written_elements text)) ≡ Some (link_behind [] other (written_elements text)) →
    (IsDomain domain → IsDomain other) → link_error text domain ≡ None →
    ReadsLink (link_behind scheme other (written_elements text)) (linked (written_elements text))
read_behind text scheme domain other plain behind good none =
    let first = neither (text_length_fault text) _ none in
    let second = neither (option_map (λ error. Elements error) (text_error text)) _ first.1 in
    let third = neither (domain_fault domain) (linking_fault (written_elements text)) second.1 in
    let fourth = neither (elements_fault (written_elements text)) (together_fault (written_elements text)) third.1 in
    let table = text_tests text (none_mapped (λ (error : CheckError). Elements error) (text_error text) second.0) in
    let rules = neither (no_key_fault (written_elements text)) _ fourth.0 in
    elements_read scheme other (written_elements text) plain behind (good (domain_is domain (right_domain domain third.0))) table.1 rules.0 rules.1
    (stand_together (written_elements text) fourth.1)

https_behind : (rest : List ℕ) → after_scheme (https ++ rest) ≡ Some rest
unfolding after_scheme
https_behind rest = refl

capital_behind : (rest : List ℕ) → after_scheme (capital_https ++ rest) ≡ Some rest
unfolding after_scheme
capital_behind rest = refl

pub link_read : (text domain link : List ℕ) → link_error text domain ≡ None → link ≡ link_of domain (written_elements text) →
    ReadsLink link (linked (written_elements text))
link_read text domain link none is =
    rw is (read_behind text https domain domain (AllPass-from_list_all is_link_character https refl)
    (https_behind (link_behind [] domain (written_elements text))) (λ good. good) none)

pub capital_link_read : (text domain link : List ℕ) → link_error text domain ≡ None →
    link ≡ capital_link_of domain (written_elements text) → ReadsLink link (linked (written_elements text))
capital_link_read text domain link none is =
    rw is (read_behind text capital_https domain (capital_domain domain) (AllPass-from_list_all is_link_character capital_https refl)
    (capital_behind (link_behind [] (capital_domain domain) (written_elements text))) (capital_is domain) none)

-- ---- Refusals

-- The fault, if there is one, is another than that an allocation failed.
abbrev IsOther : Option LinkError → Type 0
IsOther fault = fault ≡ Some OutOfMemory → ⊥

or_other : (a b : Option LinkError) → IsOther a → IsOther b → IsOther (option_or a b)
or_other None b first second = second
or_other (Some fault) b first second = first

none_other : IsOther None
none_other e = let h : None ≡ Some OutOfMemory = e in cc

if_other : (b : Bool) (fault : LinkError) → IsOther (Some fault) → IsOther (if b then Some fault else None)
if_other true fault other = other
if_other false fault other = none_other

unless_other : (b : Bool) (fault : LinkError) → IsOther (Some fault) → IsOther (if b then None else Some fault)
unless_other true fault other = none_other
unless_other false fault other = other

qualifier_other : (order : List ℕ) (place n : ℕ) → IsOther (qualifier_fault order place n)
unfolding qualifier_fault
qualifier_other order place n =
    if_other (list_any (λ m. m == n) order) (WrongQualifier place n)
    (λ e. let h : Some (WrongQualifier place n) ≡ Some OutOfMemory = e in cc)

later_other : (place n : ℕ) (later : List Element) → IsOther (later_fault place n later)
unfolding second_key_fault repeated_fault
later_other place n later =
    or_other (second_key_fault place n later) (repeated_fault place n later)
    (if_other (is_among keys n && is_some (first_among keys 0 later)) (SecondKey place)
    (λ e. let h : Some (SecondKey place) ≡ Some OutOfMemory = e in cc))
    (if_other (is_some (place_with n later)) (RepeatedElement place n)
    (λ e. let h : Some (RepeatedElement place n) ≡ Some OutOfMemory = e in cc))

rules_other : (order : List ℕ) (place : ℕ) (elements : List Element) → IsOther (first_rule_fault order place elements)
rules_other order place [] = none_other
rules_other order place (e ∷ elements) =
    or_other (qualifier_fault order place (number e)) _ (qualifier_other order place (number e))
    (or_other (later_fault place (number e) elements) (first_rule_fault order (place + 1) elements)
    (later_other place (number e) elements) (rules_other order (place + 1) elements))

elements_other : (elements : List Element) → IsOther (elements_fault elements)
unfolding no_key_fault
elements_other elements =
    or_other (no_key_fault elements) (first_rule_fault (excluded_qualifiers elements) 0 elements)
    (unless_other (is_some (first_among keys 0 elements)) NoKey (λ e. let h : Some NoKey ≡ Some OutOfMemory = e in cc))
    (rules_other (excluded_qualifiers elements) 0 elements)

mapped_other : (error : Option CheckError) → IsOther (option_map (λ error. Elements error) error)
mapped_other None = none_other
mapped_other (Some error) = λ e. let h : Some (Elements error) ≡ Some OutOfMemory = e in cc

together_other : (elements : List Element) → IsOther (together_fault elements)
unfolding together_fault
together_other elements = mapped (first_conflict elements 0 elements)
  where
    mapped : (error : Option TogetherError) → IsOther (option_map (λ error. Together error) error)
    mapped None = none_other
    mapped (Some error) = λ e. let h : Some (Together error) ≡ Some OutOfMemory = e in cc

domain_other : (domain : List ℕ) → IsOther (domain_fault domain)
unfolding domain_fault
domain_other domain =
    unless_other (is_domain domain) WrongDomain (λ e. let h : Some WrongDomain ≡ Some OutOfMemory = e in cc)

length_other : (text : List ℕ) → IsOther (text_length_fault text)
unfolding text_length_fault
length_other text =
    if_other (nat_lt 11815 (length text)) TextTooLong (λ e. let h : Some TextTooLong ≡ Some OutOfMemory = e in cc)

link_other : (text domain : List ℕ) → IsOther (link_error text domain)
link_other text domain =
    or_other (text_length_fault text) _ (length_other text)
    (or_other (option_map (λ error. Elements error) (text_error text)) _ (mapped_other (text_error text))
    (or_other (domain_fault domain) (linking_fault (written_elements text)) (domain_other domain)
    (or_other (elements_fault (written_elements text)) (together_fault (written_elements text))
    (elements_other (written_elements text)) (together_other (written_elements text)))))

-- The fault of a text and a domain is why it is refused.
pub refused_link : (text domain : List ℕ) (fault : LinkError) → link_error text domain ≡ Some fault →
    IsRefusedLink text domain fault
refused_link text domain OutOfMemory e = absurd (link_other text domain e)
refused_link text domain TextTooLong e = e
refused_link text domain (Elements error) e = e
refused_link text domain WrongDomain e = e
refused_link text domain NoKey e = e
refused_link text domain (SecondKey n) e = e
refused_link text domain (WrongQualifier n i) e = e
refused_link text domain (RepeatedElement n i) e = e
refused_link text domain (Together error) e = e
