-- Why there is no link is never that an allocation failed, and no domain is a text that is
-- not UTF-8.
use Rattle.std.proofs.Common.{◌≡◌, ◌∙◌, refl, sym, ap, arith}
use Rattle.std.specs.Prelude.{ℕ, ◌+◌, ◌<◌, Bool, true, false, List, [], ◌∷◌, length, drop, All, Option, Some, None, if◌then◌else◌}
use Rattle.std.specs.Prelude.{◌&&◌, ◌||◌, ◌==◌, nat_lt, is_some, Result, Ok, Err, IfOk, OnOk, IfErr}
use Rattle.std.specs.Option.{option_or, option_map}
use Rattle.std.specs.List.{list_any, list_all, before_first, slice_split}
use Rattle.std.specs.Str.{IsUtf8}
use Rattle.std.proofs.lemmas.Grind.{common_steps}
use Rattle.std.proofs.lemmas.Str.{IsUtf8-from_ascii}
use Rattle.std.proofs.lemmas.Str.Ascii.{IsAscii-from_all}
use Rattle.std.proofs.lemmas.List.Elements.{All-cons, All-nil}
use Rattle.gs1.specs.Elements.{Element, written_elements}
use Rattle.gs1_base.specs.Domains.{is_domain, is_domain_character, is_host, is_segment, is_slash}
use Rattle.gs1_links.specs.Links.{keys, number, domain_fault, text_length_fault, no_key_fault}
use Rattle.gs1_links.specs.Links.{qualifier_fault, second_key_fault, repeated_fault, later_fault, place_with}
use Rattle.gs1_links.specs.Links.{first_rule_fault, elements_fault, excluded_qualifiers, link_error, IsRefusedLink}
use Rattle.gs1_links.specs.Links.{together_fault, linking_fault}
use Rattle.gs1.specs.Together.{first_conflict}
use Rattle.gs1.specs.declared.together.TogetherError.{TogetherError}
use Rattle.gs1.specs.Together.{is_among, first_among}
use Rattle.gs1.specs.Values.{text_error}
use Rattle.gs1.specs.declared.refusal.CheckError.{CheckError}
use Rattle.gs1.specs.declared.refusal.CheckError.TheVariants.{OutOfMemory as NoMemory}
use Rattle.gs1_links.specs.declared.link_error.LinkError.{LinkError}
use Rattle.gs1_links.specs.declared.link_error.LinkError.TheVariants.{Elements, WrongDomain, TextTooLong}
use Rattle.gs1_links.specs.declared.link_error.LinkError.TheVariants.{NoKey, SecondKey, WrongQualifier}
use Rattle.gs1_links.specs.declared.link_error.LinkError.TheVariants.{RepeatedElement, Together, OutOfMemory}
use Rattle.gs1.proofs.Refused.{refused_text}

-- ---- Memory

-- The fault, if there is one, is not that an allocation failed in the test of the elements.
abbrev IsOther : Option LinkError → Type 0
IsOther fault = fault ≡ Some (Elements NoMemory) → ⊥

or_other : (a b : Option LinkError) → IsOther a → IsOther b → IsOther (option_or a b)
or_other None b first second = second
or_other (Some fault) b first second = first

none_other : IsOther None
none_other e = let h : None ≡ Some (Elements NoMemory) = e in cc

if_other : (b : Bool) (fault : LinkError) → IsOther (Some fault) → IsOther (if b then Some fault else None)
if_other true fault other = other
if_other false fault other = none_other

unless_other : (b : Bool) (fault : LinkError) → IsOther (Some fault) → IsOther (if b then None else Some fault)
unless_other true fault other = none_other
unless_other false fault other = other

qualifier_other : (order : List ℕ) (place n : ℕ) → IsOther (qualifier_fault order place n)
unfolding qualifier_fault
qualifier_other order place n =
    if_other (list_any (λ m. m == n) order) (WrongQualifier place n)
    (λ e. let h : Some (WrongQualifier place n) ≡ Some (Elements NoMemory) = e in cc)

later_other : (place n : ℕ) (later : List Element) → IsOther (later_fault place n later)
unfolding second_key_fault repeated_fault
later_other place n later =
    or_other (second_key_fault place n later) (repeated_fault place n later)
    (if_other (is_among keys n && is_some (first_among keys 0 later)) (SecondKey place)
    (λ e. let h : Some (SecondKey place) ≡ Some (Elements NoMemory) = e in cc))
    (if_other (is_some (place_with n later)) (RepeatedElement place n)
    (λ e. let h : Some (RepeatedElement place n) ≡ Some (Elements NoMemory) = e in cc))

rules_other : (order : List ℕ) (place : ℕ) (elements : List Element) → IsOther (first_rule_fault order place elements)
rules_other order place [] = none_other
rules_other order place (e ∷ elements) =
    or_other (qualifier_fault order place (number e)) _ (qualifier_other order place (number e))
    (or_other (later_fault place (number e) elements) (first_rule_fault order (place + 1) elements)
    (later_other place (number e) elements) (rules_other order (place + 1) elements))

elements_other : (elements : List Element) → IsOther (elements_fault elements)
unfolding no_key_fault
elements_other elements =
    or_other (no_key_fault elements) (first_rule_fault (excluded_qualifiers elements) 0 elements)
    (unless_other (is_some (first_among keys 0 elements)) NoKey (λ e. let h : Some NoKey ≡ Some (Elements NoMemory) = e in cc))
    (rules_other (excluded_qualifiers elements) 0 elements)

together_other : (elements : List Element) → IsOther (together_fault elements)
unfolding together_fault
together_other elements = conflict_other (first_conflict elements 0 elements)
  where
    conflict_other : (error : Option TogetherError) → IsOther (option_map (λ error. Together error) error)
    conflict_other None = none_other
    conflict_other (Some error) = λ e. let h : Some (Together error) ≡ Some (Elements NoMemory) = e in cc

mapped_other : (error : Option CheckError) → (error ≡ Some NoMemory → ⊥) → IsOther (option_map (λ error. Elements error) error)
mapped_other None other = none_other
mapped_other (Some error) other =
    λ e. let h : Some (Elements error) ≡ Some (Elements NoMemory) = e in let same : error ≡ NoMemory = cc in other (ap Some same)

pub text_other : (text : List ℕ) → text_error text ≡ Some NoMemory → ⊥
text_other text e = let h : None ≡ Some NoMemory = sym (refused_text text NoMemory e) ∙ e in cc

domain_other : (domain : List ℕ) → IsOther (domain_fault domain)
unfolding domain_fault
domain_other domain =
    unless_other (is_domain domain) WrongDomain (λ e. let h : Some WrongDomain ≡ Some (Elements NoMemory) = e in cc)

length_other : (text : List ℕ) → IsOther (text_length_fault text)
unfolding text_length_fault
length_other text =
    if_other (nat_lt 11815 (length text)) TextTooLong (λ e. let h : Some TextTooLong ≡ Some (Elements NoMemory) = e in cc)

pub no_memory : (text domain : List ℕ) → IsOther (link_error text domain)
no_memory text domain =
    or_other (text_length_fault text) _ (length_other text)
    (or_other (option_map (λ error. Elements error) (text_error text)) _ (mapped_other (text_error text) (text_other text))
    (or_other (domain_fault domain) (linking_fault (written_elements text)) (domain_other domain)
    (or_other (elements_fault (written_elements text)) (together_fault (written_elements text))
    (elements_other (written_elements text)) (together_other (written_elements text)))))

-- ---- Domains

small : (c : ℕ) → is_domain_character c ≡ true → c < 128
small c is = grind (arith, common_steps)

first_true : (a b : Bool) → (a && b) ≡ true → a ≡ true
first_true true b is = refl
first_true false b is = is

then_true : (a b : Bool) → (a && b) ≡ true → b ≡ true
then_true true b is = is
then_true false b is = let h : false ≡ true = is in cc

all_small : (domain : List ℕ) → list_all is_domain_character domain ≡ true → All (λ c. c < 128) domain
all_small [] all = All-nil (λ c. c < 128)
all_small (c ∷ rest) all =
    All-cons (λ c. c < 128) c rest (small c (first_true (is_domain_character c) (list_all is_domain_character rest) all))
    (all_small rest (then_true (is_domain_character c) (list_all is_domain_character rest) all))

-- The fault of no domain.
wrong : (b : Bool) → (b ≡ true → ⊥) → (if b then None else Some WrongDomain) ≡ Some WrongDomain
wrong true none = absurd (none refl)
wrong false none = refl

first_of_three : (a b c : Bool) → (a && b && c) ≡ true → a ≡ true
first_of_three true b c is = refl
first_of_three false b c is = is

all_of : (domain : List ℕ) → is_domain domain ≡ true → list_all is_domain_character domain ≡ true
unfolding is_domain
all_of domain is =
    first_of_three (list_all is_domain_character domain) (is_host (before_first is_slash domain))
    (list_all is_segment (drop 1 (slice_split is_slash domain))) is

no_text : (domain : List ℕ) → (IsUtf8 domain → ⊥) → domain_fault domain ≡ Some WrongDomain
unfolding domain_fault
no_text domain none =
    wrong (is_domain domain)
    (λ is. none (IsUtf8-from_ascii domain (IsAscii-from_all domain (all_small domain (all_of domain is)))))

nothing : domain_fault [] ≡ Some WrongDomain
unfolding domain_fault is_domain is_host
nothing = refl

-- A domain that is not UTF-8 is as wrong as an empty one.
pub as_nothing : (text domain : List ℕ) → (IsUtf8 domain → ⊥) → link_error text [] ≡ link_error text domain
as_nothing text domain none =
    ap (λ fault. option_or (text_length_fault text) (option_or (option_map (λ error. Elements error) (text_error text))
    (option_or fault (linking_fault (written_elements text))))) (nothing ∙ sym (no_text domain none))

or_none : (a b : Option LinkError) → (b ≡ None → ⊥) → option_or a b ≡ None → ⊥
or_none None b some none = some none
or_none (Some fault) b some none = let h : Some fault ≡ None = none in cc

some_or : (a b : Option LinkError) (fault : LinkError) → a ≡ Some fault → option_or a b ≡ None → ⊥
some_or None b fault is none = let h : None ≡ Some fault = is in cc
some_or (Some other) b fault is none = let h : Some other ≡ None = none in cc

-- There is no link of such a domain.
pub faulty : (text : List ℕ) → link_error text [] ≡ None → ⊥
faulty text none =
    or_none (text_length_fault text) _ (or_none (option_map (λ error. Elements error) (text_error text)) _
    (some_or (domain_fault []) (linking_fault (written_elements text)) WrongDomain nothing)) none

pub refused_as : (text first second : List ℕ) (error : LinkError) → link_error text first ≡ link_error text second →
    IsRefusedLink text first error → IsRefusedLink text second error
refused_as text first second (OutOfMemory) same refused = sym same ∙ refused
refused_as text first second (TextTooLong) same refused = sym same ∙ refused
refused_as text first second (Elements error) same refused = sym same ∙ refused
refused_as text first second (WrongDomain) same refused = sym same ∙ refused
refused_as text first second (NoKey) same refused = sym same ∙ refused
refused_as text first second (SecondKey n) same refused = sym same ∙ refused
refused_as text first second (WrongQualifier n i) same refused = sym same ∙ refused
refused_as text first second (RepeatedElement n i) same refused = sym same ∙ refused
refused_as text first second (Together error) same refused = sym same ∙ refused

-- What a call says of a link that there is not.
pub none_written : {X : Type 0} (result : Result X LinkError) (text : List ℕ) (fact : X → Type 0) →
    OnOk result (link_error text [] ≡ None) → IfOk result fact
none_written (Ok link) text fact faultless = absurd (faulty text faultless)
none_written (Err error) text fact faultless = tt

pub refused_all : {X : Type 0} (result : Result X LinkError) (text domain : List ℕ) → link_error text [] ≡ link_error text domain →
    IfErr result (IsRefusedLink text []) → IfErr result (IsRefusedLink text domain)
refused_all (Ok link) text domain same refused = tt
refused_all (Err error) text domain same refused = refused_as text [] domain error same refused
