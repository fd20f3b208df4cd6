-- A link without a fault is read as its elements, and a link that is read has no fault.
use Rattle.std.proofs.Common.{◌≡◌, ℕ, ◌%◌, Bool, true, false, cond, not, suc, List, [], ◌∷◌, ◌++◌}
use Rattle.std.proofs.Common.{length, map, drop, refl, arith, ap, sym, subst, ◌∙◌}
use Rattle.std.specs.Prelude.{All, Option, None, Some, is_some, unwrap_or, ◌==◌, position}
use Rattle.std.specs.List.{slice_split, before_first, after_first, list_all}
use Rattle.std.specs.Option.{option_or, option_map}
use Rattle.std.proofs.lemmas.Grind.{common_steps}
use Rattle.std.proofs.lemmas.List.{take_at}
use Rattle.std.proofs.lemmas.List.Quantifiers.{position-Some}
use Rattle.std.proofs.Common.{get_or}
use Rattle.std.proofs.lemmas.List.Elements.{All-nil, All-cons, All-head, All-tail, All-append, All-take}
use Rattle.std.proofs.lemmas.List.Sums.{list_all-from_AllPass, AllPass-from_list_all}
use Rattle.gs1.specs.Elements.{Element, written_elements}
use Rattle.gs1.specs.Values.{element_error, identifier_error, number_of_identifier}
use Rattle.gs1.specs.Together.{is_among, first_conflict}
use Rattle.gs1_base.specs.Domains.{is_host, is_slash}
use Rattle.gs1_links.specs.Links.{keys, number, order_of, link_of, linked}
use Rattle.gs1_links.specs.LinkReader.{after_scheme, is_question, is_link_character, query_parts, ReadsPath, has_twins}
use Rattle.gs1_links.specs.LinkReader.{ReadsLink}
use Rattle.gs1_links.specs.LinkFaults.{decoded_element, written_fault, is_key_text, path_in, pairs, qualifiers_fault, path_fault}
use Rattle.gs1_links.specs.LinkFaults.{path_key, query_fault, twins_fault, scheme_fault, link_character_fault, rest_of, before_query, query_of}
use Rattle.gs1_links.specs.LinkFaults.{link_domain_fault, path_of, link_key_fault, front_fault, path_pairs, query_parts_of, reading_fault, link_elements}
use Rattle.gs1_links.specs.LinkFaults.{parts_fault, link_together_fault, elements_in}
use Rattle.gs1_links.specs.LinkFaults.{LinksAreReadOrRefused, LinksAreReadBack}
use Rattle.gs1_links.specs.declared.link_error.LinkReadError.TheVariants.{WrongScheme, WrongCharacter, WrongDomain, NoKey, Together}
use Rattle.gs1.proofs.Faults.{both, neither, all_allowed}
use Rattle.gs1.proofs.Allowed.{none_mapped, identifier_tests}
use Rattle.gs1_links.proofs.OneLink.{same_first, qualifying_no_keys, query_linkable, one_reading}
use Rattle.gs1_links.proofs.LinkWhole.{link_read}
use Rattle.gs1_links.proofs.LinkReadBack.{IsSoundWritten, sound_written, written_none, path_reads, sound_qualifiers, qualifiers_none, FollowsOne}
use Rattle.gs1_links.proofs.LinkFronts.{split_first}
use Rattle.gs1_links.proofs.LinkTogether.{numbers_same, together_numbers, read_numbers}
use Rattle.gs1_links.proofs.LinkStems.{found_path, path_is}
use Rattle.gs1_links.proofs.LinkQueries.{read_part, sound_parts, parts_are, query_none, no_twins, twins_none}

-- ---- Parts

some_is : {X : Type 0} (b : Bool) (x : X) → cond b None (Some x) ≡ None → b ≡ true
some_is true x e = refl
some_is false x e = absurd (let h : Some x ≡ None = e in cc)

found_some : {X : Type 0} (o : Option X) → is_some o ≡ true → (x : X) × (o ≡ Some x)
found_some None e = absurd (let h : false ≡ true = e in cc)
found_some (Some x) e = (x, refl)

scheme_none : (link : List ℕ) → scheme_fault link ≡ None → is_some (after_scheme link) ≡ true
unfolding scheme_fault
scheme_none link e = some_is (is_some (after_scheme link)) WrongScheme e

none_scheme : (link rest : List ℕ) → after_scheme link ≡ Some rest → scheme_fault link ≡ None
unfolding scheme_fault
none_scheme link rest e = rw e refl

characters_are : (link : List ℕ) → link_character_fault link ≡ None → list_all is_link_character link ≡ true
unfolding link_character_fault
characters_are link e =
    list_all-from_AllPass is_link_character link
    (all_allowed is_link_character link (none_mapped (λ place. WrongCharacter place) (position (λ c. not (is_link_character c)) link) e))

none_characters : (link : List ℕ) → list_all is_link_character link ≡ true → link_character_fault link ≡ None
unfolding link_character_fault
none_characters link all =
    ap (option_map (λ place. WrongCharacter place)) (nowhere (position (λ c. not (is_link_character c)) link) refl)
  where
    opposite : (b : Bool) → b ≡ true → not b ≡ true → ⊥
    opposite true e h = let k : false ≡ true = h in cc
    opposite false e h = let k : false ≡ true = e in cc

    nowhere : (o : Option ℕ) → position (λ c. not (is_link_character c)) link ≡ o → position (λ c. not (is_link_character c)) link ≡ None
    nowhere None e = e
    nowhere (Some i) e =
        let f = position-Some (λ c. not (is_link_character c)) link i 0 e in
        absurd (opposite (is_link_character (get_or link i 0)) (AllPass-from_list_all is_link_character link all i 0 f.0) f.1)

domain_none : (link : List ℕ) → link_domain_fault link ≡ None → is_host (before_first is_slash (before_query link)) ≡ true
unfolding link_domain_fault
domain_none link e = some_is (is_host (before_first is_slash (before_query link))) WrongDomain e

none_domain : (link : List ℕ) → is_host (before_first is_slash (before_query link)) ≡ true → link_domain_fault link ≡ None
unfolding link_domain_fault
none_domain link e = rw e refl

key_none : (link : List ℕ) → link_key_fault link ≡ None → is_some (path_of link) ≡ true
unfolding link_key_fault
key_none link e = some_is (is_some (path_of link)) NoKey e

none_key : (link : List ℕ) (path : List (List ℕ)) → path_of link ≡ Some path → link_key_fault link ≡ None
unfolding link_key_fault
none_key link path e = rw e refl

or_none : {X : Type 0} (a b : Option X) → a ≡ None → b ≡ None → option_or a b ≡ None
or_none a b first second = rw first second

-- ---- A link without a fault is read

decoded_allowed : (elements : List Element) → All IsSoundWritten elements →
    All (λ e. element_error 0 e ≡ None) (map decoded_element elements)
decoded_allowed [] good = All-nil (λ e. element_error 0 e ≡ None)
decoded_allowed (e ∷ elements) good =
    All-cons (λ e. element_error 0 e ≡ None) (decoded_element e) (map decoded_element elements)
    (All-head IsSoundWritten e elements good).allowed (decoded_allowed elements (All-tail IsSoundWritten e elements good))

whole_even : (n : ℕ) → (suc n % 2 == 1) ≡ true → (suc (suc n) % 2 == 0) ≡ true
whole_even n e = grind (arith, common_steps)

abbrev StandTogether : List Element → Type 0
StandTogether elements = first_conflict elements 0 elements ≡ None

-- The link has these parts, and no fault in them.
record IsSoundLink (link rest : List ℕ) (stem : List (List ℕ)) (i t : List ℕ) (more : List (List ℕ)) : Type 0 where
  scheme : after_scheme link ≡ Some rest
  characters : list_all is_link_character link ≡ true
  domain : is_host (before_first is_slash (before_first is_question rest)) ≡ true
  cut : slice_split is_slash (before_first is_question rest) ≡
      before_first is_slash (before_first is_question rest) ∷ stem ++ (i ∷ t ∷ more)
  is_key : is_key_text i ≡ true
  odd : (length (t ∷ more) % 2 == 1) ≡ true
  path : path_fault (pairs (i ∷ t ∷ more)) ≡ None
  query : query_fault (path_key (pairs (i ∷ t ∷ more))) (length (pairs (i ∷ t ∷ more))) (query_parts (after_first is_question rest)) ≡ None
  twins : twins_fault (length (pairs (i ∷ t ∷ more))) (query_parts (after_first is_question rest)) ≡ None
  together : StandTogether (map decoded_element (pairs (i ∷ t ∷ more)) ++ map read_part (query_parts (after_first is_question rest)))

sound_read : (link rest : List ℕ) (stem : List (List ℕ)) (i t : List ℕ) (more : List (List ℕ)) → IsSoundLink link rest stem i t more →
    ReadsLink link (map decoded_element (pairs (i ∷ t ∷ more)) ++ map read_part (query_parts (after_first is_question rest)))
sound_read link rest stem i t more sound =
    let key : Element = record { identifier = i; value = t } in
    let parts : List (List ℕ) = query_parts (after_first is_question rest) in
    let count : ℕ = length (pairs (i ∷ t ∷ more)) in
    let one = neither (written_fault 0 key) (qualifiers_fault (order_of (number key) false) (order_of (number key) true) 1 (pairs more)) sound.path in
    let good = sound_written 0 key one.0 in
    let quals = sound_qualifiers (order_of (number key) false) (order_of (number key) true) 1 (pairs more) one.1 in
    let query = sound_parts (number key) count parts sound.query in
    let P : Element → Type 0 = λ e. element_error 0 e ≡ None in
    let F : List ℕ → Type 0 = λ ns. FollowsOne ns (order_of (number key) false) (order_of (number key) true) in
    record {
      key = decoded_element key;
      qualifying = map decoded_element (pairs more);
      query = map read_part parts;
      are = refl;
      parts = record {
        rest = rest;
        domain = before_first is_slash (before_first is_question rest);
        stem = stem;
        segments = i ∷ t ∷ more;
        scheme_is = sound.scheme;
        cut = sound.cut;
        domain_is = sound.domain;
        path_is = path_reads (i ∷ t ∷ more) (whole_even (length more) sound.odd) (All-cons IsSoundWritten key (pairs more) good quals.0);
        query_is = query.reads;
        characters = sound.characters;
      };
      linked = record {
        key_is = (both _ (is_among keys (number_of_identifier i)) sound.is_key).1;
        ordered = subst F (sym (numbers_same (pairs more))) quals.1;
        attributes = query.attributes;
        once = no_twins count parts sound.twins;
        allowed = All-cons P (decoded_element key) (map decoded_element (pairs more) ++ map read_part parts) good.allowed
            (All-append P (map decoded_element (pairs more)) (map read_part parts) (decoded_allowed (pairs more) quals.0) query.allowed);
        together = sound.together;
      };
    }

some_tail : (rest : List (List ℕ)) → (length rest % 2 == 1) ≡ true → (t : List ℕ) × (more : List (List ℕ)) × (rest ≡ t ∷ more)
some_tail [] odd = absurd (let h : false ≡ true = odd in cc)
some_tail (t ∷ more) odd = (t, more, refl)

-- The elements of a link whose path is found.
abbrev elements_by : List ℕ → Option (List (List ℕ)) → List Element
elements_by link path =
    map decoded_element (pairs (unwrap_or path [])) ++ map read_part (query_parts (after_first is_question (rest_of link)))

no_together : (elements : List Element) → link_together_fault elements ≡ None → StandTogether elements
unfolding link_together_fault
no_together elements none = none_mapped (λ error. Together error) (first_conflict elements 0 elements) none

together_none : (elements : List Element) → StandTogether elements → link_together_fault elements ≡ None
unfolding link_together_fault
together_none elements none = ap (option_map (λ error. Together error)) none

pub link_reads : (link : List ℕ) → reading_fault link ≡ None → ReadsLink link (link_elements link)
link_reads link none =
    let s0 = neither (parts_fault link) (link_together_fault (link_elements link)) none in
    let s1 = neither (front_fault link) _ s0.0 in
    let s2 = neither (path_fault (path_pairs link)) _ s1.1 in
    let s3 = neither (query_fault (path_key (path_pairs link)) (length (path_pairs link)) (query_parts_of link)) _ s2.1 in
    let f1 = neither (scheme_fault link) _ s1.0 in
    let f2 = neither (link_character_fault link) _ f1.1 in
    let f3 = neither (link_domain_fault link) (link_key_fault link) f2.1 in
    let scheme = found_some (after_scheme link) (scheme_none link f1.0) in
    let path = found_some (path_of link) (key_none link f3.1) in
    let is = path_is (drop 1 (slice_split is_slash (before_query link))) path.0 path.1 in
    let tail = some_tail is.rest is.odd in
    let begins : path.0 ≡ is.identifier ∷ tail.0 ∷ tail.1 = is.begins ∙ ap (λ xs. is.identifier ∷ xs) tail.2 in
    let rest : rest_of link ≡ scheme.0 = ap (λ o. unwrap_or o []) scheme.1 in
    let pairs_are : path_of link ≡ Some (is.identifier ∷ tail.0 ∷ tail.1) = path.1 ∙ ap Some begins in
    let N : Option (List (List ℕ)) → ℕ = λ o. length (pairs (unwrap_or o [])) in
    let joined : drop 1 (slice_split is_slash (before_query link)) ≡ is.stem ++ (is.identifier ∷ tail.0 ∷ tail.1) =
    is.joined ∙ ap (λ xs. is.stem ++ xs) begins in
    let Q : Option (List (List ℕ)) → Type 0 = λ o. path_fault (pairs (unwrap_or o [])) ≡ None in
    let R : Option (List (List ℕ)) → Type 0 = λ o. query_fault (path_key (pairs (unwrap_or o []))) (N o) (query_parts_of link) ≡ None in
    let S : Option (List (List ℕ)) → Type 0 = λ o. twins_fault (N o) (query_parts_of link) ≡ None in
    let sound : IsSoundLink link (rest_of link) is.stem is.identifier tail.0 tail.1 = record {
      scheme = scheme.1 ∙ ap Some (sym rest);
      characters = characters_are link f2.0;
      domain = domain_none link f3.0;
      cut = split_first (before_query link) ∙ ap (λ xs. before_first is_slash (before_query link) ∷ xs) joined;
      is_key = is.is_key;
      odd = (let T : List (List ℕ) → Type 0 = λ xs. (length xs % 2 == 1) ≡ true in subst T tail.2 is.odd);
      path = subst Q pairs_are s2.0;
      query = subst R pairs_are s3.0;
      twins = subst S pairs_are s3.1;
      together = (let T : Option (List (List ℕ)) → Type 0 = λ o. StandTogether (elements_by link o) in
          subst T pairs_are (no_together (link_elements link) s0.1));
    } in
    let T : Option (List (List ℕ)) → Type 0 = λ o. ReadsLink link (elements_by link o) in
    subst T (sym pairs_are) (sound_read link (rest_of link) is.stem is.identifier tail.0 tail.1 sound)

-- ---- A link that is read has no fault

key_text : (key : Element) → element_error 0 key ≡ None → is_among keys (number key) ≡ true → is_key_text key.identifier ≡ true
unfolding element_error
key_text key none among =
    let split = neither (identifier_error 0 key.identifier) _ none in
    rw ((identifier_tests 0 key.identifier split.0).0, among) refl

path_none : (segments : List (List ℕ)) (key : Element) (qualifying : List Element) → ReadsPath segments (key ∷ qualifying) →
    All (λ e. element_error 0 e ≡ None) (key ∷ qualifying) →
    FollowsOne (map number qualifying) (order_of (number key) false) (order_of (number key) true) →
    path_fault (pairs segments) ≡ None
path_none segments key qualifying reads allowed follow =
    let P : Element → Type 0 = λ e. element_error 0 e ≡ None in
    let raw : Element = record { identifier = key.identifier; value = reads.0 } in
    ap (λ s. path_fault (pairs s)) reads.2
    ∙ or_none (written_fault 0 raw) _ (written_none 0 key.identifier reads.0 key.value reads.3 (All-head P key qualifying allowed))
    (qualifiers_none (order_of (number key) false) (order_of (number key) true) 1 reads.1 qualifying reads.4
    (All-tail P key qualifying allowed) follow)

pub read_has_no_fault : (link : List ℕ) (elements : List Element) → ReadsLink link elements → reading_fault link ≡ None
read_has_no_fault link elements rd =
    let P : Element → Type 0 = λ e. element_error 0 e ≡ None in
    let path_allowed : All P (rd.key ∷ rd.qualifying) =
    subst (All P) (take_at (rd.key ∷ rd.qualifying) rd.query (length (rd.key ∷ rd.qualifying)) refl)
    (All-take P (length (rd.key ∷ rd.qualifying)) (rd.key ∷ rd.qualifying ++ rd.query) rd.linked.allowed) in
    let scheme = rd.parts.scheme_is in
    let rest : rest_of link ≡ rd.parts.rest = ap (λ o. unwrap_or o []) scheme in
    let whole : slice_split is_slash (before_query link) ≡ rd.parts.domain ∷ (rd.parts.stem ++ rd.parts.segments) =
    ap (λ r. slice_split is_slash (before_first is_question r)) rest ∙ rd.parts.cut in
    let domain : before_first is_slash (before_query link) ≡ rd.parts.domain =
    same_first (before_first is_slash (before_query link)) rd.parts.domain (drop 1 (slice_split is_slash (before_query link)))
    (rd.parts.stem ++ rd.parts.segments) (sym (split_first (before_query link)) ∙ whole) in
    let found : path_of link ≡ Some rd.parts.segments =
    ap (λ xs. path_in (drop 1 xs)) whole
    ∙ found_path rd.parts.stem rd.parts.segments rd.key rd.qualifying rd.parts.path_is
    (key_text rd.key (All-head P rd.key rd.qualifying path_allowed) rd.linked.key_is)
    (qualifying_no_keys rd.key rd.qualifying rd.query rd.linked) in
    let pairs_are : path_pairs link ≡ pairs rd.parts.segments = ap (λ o. pairs (unwrap_or o [])) found in
    let parts_are' : query_parts_of link ≡ query_parts (after_first is_question rd.parts.rest) =
    ap (λ r. query_parts (after_first is_question r)) rest in
    let linkable = query_linkable rd.key rd.qualifying rd.query rd.linked in
    let count : ℕ = length (path_pairs link) in
    let key_is : path_key (path_pairs link) ≡ number rd.key = ap path_key pairs_are ∙ ap (λ s. path_key (pairs s)) rd.parts.path_is.2 in
    let parts : List (List ℕ) = query_parts (after_first is_question rd.parts.rest) in
    or_none (parts_fault link) (link_together_fault (link_elements link)) (or_none (front_fault link) _
    (or_none (scheme_fault link) _ (none_scheme link rd.parts.rest scheme)
    (or_none (link_character_fault link) _ (none_characters link rd.parts.characters)
    (or_none (link_domain_fault link) (link_key_fault link)
    (none_domain link (subst (λ d. is_host d ≡ true) (sym domain) rd.parts.domain_is))
    (none_key link rd.parts.segments found))))
    (or_none (path_fault (path_pairs link)) _
    (ap path_fault pairs_are ∙ path_none rd.parts.segments rd.key rd.qualifying rd.parts.path_is path_allowed rd.linked.ordered)
    (or_none (query_fault (path_key (path_pairs link)) count (query_parts_of link)) (twins_fault count (query_parts_of link))
    (ap (λ n. query_fault n count (query_parts_of link)) key_is ∙ ap (query_fault (number rd.key) count) parts_are'
    ∙ query_none (number rd.key) count parts rd.query rd.parts.query_is linkable rd.linked.attributes)
    (ap (twins_fault count) parts_are' ∙ twins_none count parts
    (subst (λ es. has_twins es ≡ false) (sym (parts_are parts rd.query rd.parts.query_is linkable)) rd.linked.once)))))
    (together_none (link_elements link) (together_numbers (link_elements link) (rd.key ∷ rd.qualifying ++ rd.query)
    (read_numbers link rd.parts.segments parts (rd.key ∷ rd.qualifying) rd.query pairs_are parts_are' rd.parts.path_is
    (parts_are parts rd.query rd.parts.query_is linkable)) ∙ rd.linked.together))

pub read_or_refused : LinksAreReadOrRefused
read_or_refused = record { read = link_reads; refused = read_has_no_fault }

-- ---- What the code has

pub all_read : {X : Type 0} (f : X → Element) (link path query : List ℕ) (parts : List (List ℕ)) (key count : ℕ) (none first all : List X) → None ≡ front_fault link → path_of link ≡ Some (slice_split is_slash path) → query ≡ query_of link →
    None ≡ path_fault (pairs (slice_split is_slash path)) → count ≡ length (pairs (slice_split is_slash path)) →
    parts ≡ query_parts query → key ≡ path_key (pairs (slice_split is_slash path)) → None ≡ query_fault key count parts → None ≡ twins_fault count parts →
    None ≡ link_together_fault (elements_in path query) → none ≡ [] →
    map f first ≡ map f none ++ map decoded_element (pairs (slice_split is_slash path)) →
    map f all ≡ map f first ++ map read_part parts → ReadsLink link (map f all)
all_read f link path query parts key count none first all front path_found query_is path_good count_is parts_is key_is query_good twins_good together_good none_is first_is all_is =
    let raws : List Element = pairs (slice_split is_slash path) in
    let pairs_are : path_pairs link ≡ raws = ap (λ o. pairs (unwrap_or o [])) path_found in
    let parts_are' : query_parts_of link ≡ parts = ap query_parts (sym query_is) ∙ sym parts_is in
    let count' : length (path_pairs link) ≡ count = ap length pairs_are ∙ sym count_is in
    let key' : path_key (path_pairs link) ≡ key = ap path_key pairs_are ∙ sym key_is in
    let raw_are : link_elements link ≡ elements_in path query =
    ap (λ es. map decoded_element es ++ map read_part (query_parts_of link)) pairs_are
    ∙ ap (λ q. map decoded_element raws ++ map read_part (query_parts q)) (sym query_is) in
    let good : reading_fault link ≡ None =
    or_none (parts_fault link) (link_together_fault (link_elements link)) (or_none (front_fault link) _ (sym front)
    (or_none (path_fault (path_pairs link)) _ (ap path_fault pairs_are ∙ sym path_good)
    (or_none (query_fault (path_key (path_pairs link)) (length (path_pairs link)) (query_parts_of link)) (twins_fault (length (path_pairs link)) (query_parts_of link))
    (ap (λ n. query_fault n (length (path_pairs link)) (query_parts_of link)) key' ∙ ap (λ n. query_fault key n (query_parts_of link)) count'
    ∙ ap (query_fault key count) parts_are' ∙ sym query_good)
    (ap (λ n. twins_fault n (query_parts_of link)) count' ∙ ap (twins_fault count) parts_are' ∙ sym twins_good))))
    (ap link_together_fault raw_are ∙ sym together_good) in
    let start : map f none ≡ [] = ap (map f) none_is in
    let elements : link_elements link ≡ map f all =
    ap (λ es. map decoded_element es ++ map read_part (query_parts_of link)) pairs_are
    ∙ ap (λ ps. map decoded_element raws ++ map read_part ps) parts_are'
    ∙ ap (λ xs. xs ++ map read_part parts) (ap (λ z. z ++ map decoded_element raws) (sym start) ∙ sym first_is)
    ∙ sym all_is in
    subst (ReadsLink link) elements (link_reads link good)

pub read_back : LinksAreReadBack
read_back text domain elements none reads =
    one_reading (link_of domain (written_elements text)) elements (linked (written_elements text)) reads
    (link_read text domain (link_of domain (written_elements text)) none refl)
