-- The first fault of the elements of a link: in the first element, or behind it.
use Rattle.std.proofs.Common.{◌≡◌, ℕ, ◌+◌, ◌<◌, ◌≤◌, Bool, true, false, List, [], length, take, drop}
use Rattle.std.proofs.Common.{refl, arith, ap, sym, ◌∙◌, inl, inr}
use Rattle.std.specs.Prelude.{Option, None, Some, ◌&&◌, if◌then◌else◌}
use Rattle.std.specs.Option.{option_or}
use Rattle.std.specs.List.{position_or_len}
use Rattle.std.proofs.lemmas.List.{take_all}
use Rattle.std.proofs.lemmas.Bool.{cases_lt}
use Rattle.gs1.specs.Elements.{element_of, is_opening, elements_behind}
use Rattle.gs1.specs.Together.{is_among}
use Rattle.gs1_links.specs.Links.{keys, number, qualifier_fault, later_fault, first_rule_fault}
use Rattle.gs1_links.specs.Links.{second_key_fault, repeated_fault}
use Rattle.gs1_links.specs.declared.link_error.LinkError.{LinkError}
use Rattle.gs1_links.specs.declared.link_error.LinkError.TheVariants.{SecondKey}
use Rattle.gs1.proofs.Parts.{elements_more, elements_last}

or_none : (fault : Option LinkError) → option_or fault None ≡ fault
or_none None = refl
or_none (Some x) = refl

-- Nothing is later than the last.
pub none_later : (place n : ℕ) → later_fault place n [] ≡ None
unfolding second_key_fault repeated_fault
none_later place n = no_second (is_among keys n) (SecondKey place)
  where
    no_second : (b : Bool) (x : LinkError) → option_or (if b && false then Some x else None) None ≡ None
    no_second true x = refl
    no_second false x = refl

rule_more : (order : List ℕ) (place : ℕ) (text : List ℕ) (end n : ℕ) → end ≡ position_or_len is_opening text →
    end < length text → n ≡ number (element_of (take end text)) →
    first_rule_fault order place (elements_behind text) ≡ option_or (qualifier_fault order place n)
    (option_or (later_fault place n (elements_behind (drop (end + 1) text)))
    (first_rule_fault order (place + 1) (elements_behind (drop (end + 1) text))))
rule_more order place text end n e within n_is = rw n_is (ap (first_rule_fault order place) (elements_more text end e within))

rule_last : (order : List ℕ) (place : ℕ) (text : List ℕ) (end n : ℕ) → end ≡ position_or_len is_opening text →
    end ≡ length text → n ≡ number (element_of (take end text)) →
    first_rule_fault order place (elements_behind text) ≡ qualifier_fault order place n
rule_last order place text end n e whole n_is =
    let all : take end text ≡ text = take_all end text (let w : length text ≤ end = omega arith in w) in
    let none : position_or_len is_opening text ≡ length text = omega arith in
    let last = none_later place (number (element_of text)) in
    rw (n_is, all) (ap (first_rule_fault order place) (elements_last text none)
    ∙ ap (λ o. option_or (qualifier_fault order place (number (element_of text))) (option_or o None)) last
    ∙ or_none (qualifier_fault order place (number (element_of text))))

-- The first element is a qualifier of another key.
pub rule_qualifier : (order : List ℕ) (place : ℕ) (text : List ℕ) (end n : ℕ) (whole : Option LinkError) (fault : LinkError) →
    end ≡ position_or_len is_opening text → end ≤ length text → n ≡ number (element_of (take end text)) →
    qualifier_fault order place n ≡ Some fault → first_rule_fault order place (elements_behind text) ≡ whole →
    Some fault ≡ whole
rule_qualifier order place text end n whole fault at within n_is here e =
    elim (cases_lt end (length text)) [
      | inl more ↦ sym (let step = rule_more order place text end n at more n_is in rw here at step) ∙ e
      | inr last ↦ sym here ∙ sym (rule_last order place text end n at (omega arith) n_is) ∙ e
    ]

-- It is the last, and is none.
pub rule_end : (order : List ℕ) (place : ℕ) (text : List ℕ) (end n : ℕ) (whole : Option LinkError) →
    end ≡ position_or_len is_opening text → end ≡ length text → n ≡ number (element_of (take end text)) →
    qualifier_fault order place n ≡ None → first_rule_fault order place (elements_behind text) ≡ whole → None ≡ whole
rule_end order place text end n whole at last n_is here e = sym here ∙ sym (rule_last order place text end n at last n_is) ∙ e

-- What stands later is its fault.
pub rule_later : (order : List ℕ) (place : ℕ) (text rest : List ℕ) (end n : ℕ) (whole : Option LinkError) (fault : LinkError) →
    end ≡ position_or_len is_opening text → end ≤ length text → (end ≡ length text → ⊥) →
    n ≡ number (element_of (take end text)) → qualifier_fault order place n ≡ None → rest ≡ drop (end + 1) text →
    later_fault place n (elements_behind rest) ≡ Some fault →
    first_rule_fault order place (elements_behind text) ≡ whole → Some fault ≡ whole
rule_later order place text rest end n whole fault at within more n_is none rest_is here e =
    let step = rule_more order place text end n at (omega arith) n_is in
    let found : later_fault place n (elements_behind (drop (end + 1) text)) ≡ Some fault = rw (← rest_is) here in
    sym (rw none at (rw found at step)) ∙ e

-- It has no fault, and there are others.
pub rule_behind : (order : List ℕ) (place : ℕ) (text rest : List ℕ) (end n : ℕ) (whole : Option LinkError) →
    end ≡ position_or_len is_opening text → end ≤ length text → (end ≡ length text → ⊥) →
    n ≡ number (element_of (take end text)) → qualifier_fault order place n ≡ None → rest ≡ drop (end + 1) text →
    later_fault place n (elements_behind rest) ≡ None →
    first_rule_fault order place (elements_behind text) ≡ whole →
    first_rule_fault order (place + 1) (elements_behind rest) ≡ whole
rule_behind order place text rest end n whole at within more n_is none rest_is here e =
    let step = rule_more order place text end n at (omega arith) n_is in
    let found : later_fault place n (elements_behind (drop (end + 1) text)) ≡ None = rw (← rest_is) here in
    rw rest_is (sym (rw none at (rw found at step)) ∙ e)
