-- The parts of a link as its writer puts them one after the other.
use Rattle.std.proofs.Common.{◌≡◌, ℕ, ◌+◌, ◌<◌, ◌≤◌, List, [], ◌∷◌, ◌++◌, length, take, drop}
use Rattle.std.proofs.Common.{refl, arith, ap, sym, ◌∙◌, append_assoc}
use Rattle.std.specs.List.{position_or_len, flat_map, filter}
use Rattle.std.specs.Option.{option_to_list}
use Rattle.std.proofs.lemmas.List.{take_all, append-nil}
use Rattle.std.proofs.lemmas.List.Concat.{flat_map-append}
use Rattle.gs1.specs.Elements.{Element, element_of, is_opening, elements_behind}
use Rattle.gs1_links.specs.Links.{path_text, query_text, is_attribute, path_elements, primary_key, element_with, qualifier_order}
use Rattle.gs1.proofs.Parts.{elements_more, elements_last}

-- Behind the last element.
pub query_end : (key : ℕ) (text : List ℕ) (end separator next : ℕ) (items new whole : List ℕ) → end ≡ position_or_len is_opening text →
    end ≡ length text → new ++ query_text next [] ≡ items ++ query_text separator (filter (is_attribute key) (element_of (take end text) ∷ [])) →
    items ++ query_text separator (filter (is_attribute key) (elements_behind text)) ≡ whole → new ≡ whole
query_end key text end separator next items new whole at last written e =
    let all : take end text ≡ text = take_all end text (let w : length text ≤ end = omega arith in w) in
    let none : position_or_len is_opening text ≡ length text = omega arith in
    let one : element_of (take end text) ∷ [] ≡ elements_behind text = ap (λ t. element_of t ∷ []) all ∙ sym (elements_last text none) in
    sym (append-nil new) ∙ written ∙ ap (λ es. items ++ query_text separator (filter (is_attribute key) es)) one ∙ e

-- Behind another.
pub query_behind : (key : ℕ) (text rest : List ℕ) (end separator next : ℕ) (items new whole : List ℕ) → end ≡ position_or_len is_opening text →
    end ≤ length text → (end ≡ length text → ⊥) → rest ≡ drop (end + 1) text →
    ((later : List Element) → new ++ query_text next (filter (is_attribute key) later) ≡
    items ++ query_text separator (filter (is_attribute key) (element_of (take end text) ∷ later))) →
    items ++ query_text separator (filter (is_attribute key) (elements_behind text)) ≡ whole →
    new ++ query_text next (filter (is_attribute key) (elements_behind rest)) ≡ whole
query_behind key text rest end separator next items new whole at within more rest_is written e =
    let more' : end < length text = omega arith in
    rw rest_is (written (elements_behind (drop (end + 1) text))
    ∙ ap (λ es. items ++ query_text separator (filter (is_attribute key) es)) (sym (elements_more text end at more')) ∙ e)

flat_map_twice : {X Y Z : Type 0} (f : Y → List Z) (g : X → List Y) (xs : List X) →
    flat_map f (flat_map g xs) ≡ flat_map (λ x. flat_map f (g x)) xs
flat_map_twice f g [] = refl
flat_map_twice f g (x ∷ xs) =
    flat_map-append f (g x) (flat_map g xs) ∙ ap (λ ys. flat_map f (g x) ++ ys) (flat_map_twice f g xs)

-- The key and the qualifiers.
pub path_end : (elements : List Element) (numbers old new : List ℕ) (k : ℕ) → numbers ≡ qualifier_order elements →
    length numbers ≤ k → new ≡ old ++ flat_map path_text (option_to_list (primary_key elements))
    ++ flat_map (λ n. flat_map path_text (option_to_list (element_with n elements))) (take k numbers) →
    new ≡ old ++ flat_map path_text (path_elements elements)
path_end elements numbers old new k is long written =
    let key : List Element = option_to_list (primary_key elements) in
    let rest = λ (n : ℕ). option_to_list (element_with n elements) in
    written ∙ ap (λ ns. old ++ flat_map path_text key ++ flat_map (λ n. flat_map path_text (rest n)) ns) (take_all k numbers long)
    ∙ append_assoc old (flat_map path_text key) (flat_map (λ n. flat_map path_text (rest n)) numbers)
    ∙ ap (λ xs. old ++ (flat_map path_text key ++ xs)) (sym (flat_map_twice path_text rest numbers))
    ∙ ap (λ xs. old ++ xs) (sym (flat_map-append path_text key (flat_map rest numbers)))
    ∙ ap (λ ns. old ++ flat_map path_text (key ++ flat_map rest ns)) is
