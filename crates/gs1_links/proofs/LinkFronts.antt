-- What stands before the elements of a link: the scheme, the domain, and the path.
use Rattle.std.proofs.Common.{◌≡◌, ℕ, ◌<◌, true, false, List, [], ◌∷◌, length, take, drop}
use Rattle.std.proofs.Common.{refl, arith, ap, sym, subst, ◌∙◌, inl, inr}
use Rattle.std.specs.Prelude.{None, Some, unwrap_or}
use Rattle.std.specs.List.{slice_split, before_first, position_or_len}
use Rattle.std.proofs.lemmas.Bool.{cases_lt}
use Rattle.std.proofs.lemmas.List.{take_all}
use Rattle.std.proofs.lemmas.List.Sums.{fails_before_first}
use Rattle.std.proofs.lemmas.List.Splits.{slice_split_first, slice_split_none}
use Rattle.gs1_base.specs.Domains.{is_host, is_slash}
use Rattle.gs1_links.specs.LinkReader.{is_question, after_scheme}
use Rattle.gs1_links.specs.LinkFaults.{path_in, scheme_fault, link_character_fault, rest_of, before_query, link_domain_fault, path_of}
use Rattle.gs1_links.specs.LinkFaults.{link_key_fault, front_fault}
use Rattle.gs1_links.specs.declared.link_error.LinkReadError.TheVariants.{WrongDomain, NoKey}
use Rattle.gs1_links.proofs.OneLink.{same_first}

pub split_first : (xs : List ℕ) → slice_split is_slash xs ≡ before_first is_slash xs ∷ drop 1 (slice_split is_slash xs)
split_first xs =
    elim (cases_lt (position_or_len is_slash xs) (length xs)) [
      | inl less ↦ (let e = slice_split_first is_slash xs 0 less in e ∙ ap (λ ys. before_first is_slash xs ∷ drop 1 ys) (sym e))
      | inr past ↦
          (let none : slice_split is_slash xs ≡ xs ∷ [] = slice_split_none is_slash xs
          (λ k d within. fails_before_first is_slash xs k d (let w : k < position_or_len is_slash xs = omega arith in w)) in
          let all : before_first is_slash xs ≡ xs = take_all (position_or_len is_slash xs) xs (omega arith) in
          none ∙ ap (λ y. y ∷ []) (sym all) ∙ ap (λ ys. before_first is_slash xs ∷ drop 1 ys) (sym none))
    ]

-- The scheme and the characters are right, and the domain and the path are these.
pub record IsFront (link front : List ℕ) (left : List (List ℕ)) : Type 0 where
  pub scheme : scheme_fault link ≡ None
  pub characters : link_character_fault link ≡ None
  pub domain : before_first is_slash (before_query link) ≡ front
  pub path : path_of link ≡ path_in left

scheme_right : (link rest : List ℕ) → Some rest ≡ after_scheme link → scheme_fault link ≡ None
unfolding scheme_fault
scheme_right link rest is = rw (sym is) refl

pub front_of_link : (link rest front : List ℕ) (left : List (List ℕ)) (end : ℕ) → Some rest ≡ after_scheme link →
    None ≡ link_character_fault link → end ≡ position_or_len is_question rest →
    slice_split is_slash (take end rest) ≡ front ∷ left → IsFront link front left
front_of_link link rest front left end scheme characters at cut =
    let rest_is : rest_of link ≡ rest = ap (λ o. unwrap_or o []) (sym scheme) in
    let front_is : before_query link ≡ take end rest =
    ap (before_first is_question) rest_is ∙ ap (λ n. take n rest) (sym at) in
    let whole : slice_split is_slash (before_query link) ≡ front ∷ left = ap (slice_split is_slash) front_is ∙ cut in
    record {
      scheme = scheme_right link rest scheme;
      characters = sym characters;
      domain = same_first (before_first is_slash (before_query link)) front (drop 1 (slice_split is_slash (before_query link))) left
          (sym (split_first (before_query link)) ∙ whole);
      path = ap (λ xs. path_in (drop 1 xs)) whole;
    }

domain_wrong : (link : List ℕ) → is_host (before_first is_slash (before_query link)) ≡ false → link_domain_fault link ≡ Some WrongDomain
unfolding link_domain_fault
domain_wrong link e = rw e refl

domain_right : (link : List ℕ) → is_host (before_first is_slash (before_query link)) ≡ true → link_domain_fault link ≡ None
unfolding link_domain_fault
domain_right link e = rw e refl

key_wrong : (link : List ℕ) → path_of link ≡ None → link_key_fault link ≡ Some NoKey
unfolding link_key_fault
key_wrong link e = rw e refl

key_right : (link : List ℕ) (path : List (List ℕ)) → path_of link ≡ Some path → link_key_fault link ≡ None
unfolding link_key_fault
key_right link path e = rw e refl

pub wrong_domain : (link front : List ℕ) (left : List (List ℕ)) → IsFront link front left → is_host front ≡ false →
    Some WrongDomain ≡ front_fault link
wrong_domain link front left f wrong =
    let domain = domain_wrong link (subst (λ d. is_host d ≡ false) (sym f.domain) wrong) in
    sym (rw (f.scheme, f.characters, domain) refl)

pub no_key_found : (link front : List ℕ) (left : List (List ℕ)) → IsFront link front left → is_host front ≡ true →
    None ≡ path_in left → Some NoKey ≡ front_fault link
no_key_found link front left f right none =
    let domain = domain_right link (subst (λ d. is_host d ≡ true) (sym f.domain) right) in
    let key = key_wrong link (f.path ∙ sym none) in
    sym (rw (f.scheme, f.characters, domain, key) refl)

pub no_front_fault : (link front : List ℕ) (left path : List (List ℕ)) → IsFront link front left → is_host front ≡ true →
    Some path ≡ path_in left → None ≡ front_fault link
no_front_fault link front left path f right found =
    let domain = domain_right link (subst (λ d. is_host d ≡ true) (sym f.domain) right) in
    let key = key_right link path (f.path ∙ sym found) in
    sym (rw (f.scheme, f.characters, domain, key) refl)
