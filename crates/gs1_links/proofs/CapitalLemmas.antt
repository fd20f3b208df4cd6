-- A domain with its host in capitals is one.
use Rattle.std.proofs.Common.{◌≡◌, ℕ, suc, ◌+◌, Bool, true, false, List, [], ◌∷◌, ◌++◌, length, map, take, drop}
use Rattle.std.proofs.Common.{◌<◌, ◌≤◌, get_or, refl, arith, ap, sym, subst, ◌∙◌, append_assoc}
use Rattle.std.specs.Prelude.{All, ◌&&◌, ◌||◌, ◌==◌}
use Rattle.std.specs.List.{slice_split, onto_first, before_first, after_first, position_or_len, list_all}
use Rattle.std.proofs.lemmas.Grind.{common_steps}
use Rattle.std.proofs.lemmas.List.{length-map, take-map, drop-map, drop_more, drop_all, append-nil}
use Rattle.std.proofs.lemmas.List.Elements.{All-cons, All-head, All-tail}
use Rattle.std.proofs.lemmas.List.Splits.{slice_split-cons_yes, slice_split-cons_no}
use Rattle.gs1_base.specs.Characters.{is_decimal_digit, is_within}
use Rattle.gs1_base.specs.Domains.{is_domain_character, is_host, is_port_character, is_port, is_slash, is_colon, is_dot, is_label, are_labels}
use Rattle.gs1.proofs.Faults.{both}
use Rattle.gs1_links.proofs.LinkReads.{IsDomain}
use Rattle.gs1_links.specs.Capitals.{capital, is_in_host, written, written_behind, capital_domain}

-- ---- Characters

same_slash : (c : ℕ) → is_slash (capital c) ≡ is_slash c
same_slash c = grind (arith, common_steps)

same_colon : (c : ℕ) → is_colon (capital c) ≡ is_colon c
same_colon c = grind (arith, common_steps)

same_dot : (c : ℕ) → is_dot (capital c) ≡ is_dot c
same_dot c = grind (arith, common_steps)

same_port_character : (c : ℕ) → is_port_character (capital c) ≡ is_port_character c
same_port_character c = grind (arith, common_steps)

same_digit : (c : ℕ) → is_decimal_digit c ≡ true → capital c ≡ c
same_digit c digit = grind (arith, common_steps)

domain_character : (c : ℕ) → is_domain_character c ≡ true → is_domain_character (capital c) ≡ true
domain_character c e = grind (arith, common_steps)

-- ---- Pieces of a list whose elements are changed

position-map : {X : Type 0} (p : X → Bool) (f : X → X) → ((x : X) → p (f x) ≡ p x) → (xs : List X) →
    position_or_len p (map f xs) ≡ position_or_len p xs
position-map p f same [] = refl
position-map p f same (x ∷ xs) = rw (same x, position-map p f same xs) refl

before-map : {X : Type 0} (p : X → Bool) (f : X → X) → ((x : X) → p (f x) ≡ p x) → (xs : List X) →
    before_first p (map f xs) ≡ map f (before_first p xs)
before-map p f same xs = rw (position-map p f same xs) (take-map f (position_or_len p xs) xs)

onto-map : {X : Type 0} (f : X → X) (x : X) (parts : List (List X)) → onto_first (f x) (map (map f) parts) ≡ map (map f) (onto_first x parts)
onto-map f x [] = refl
onto-map f x (part ∷ parts) = refl

split_as : {X : Type 0} (p : X → Bool) (f : X → X) (b : Bool) (x : X) (xs : List X) → p x ≡ b → p (f x) ≡ b →
    slice_split p (map f xs) ≡ map (map f) (slice_split p xs) →
    slice_split p (map f (x ∷ xs)) ≡ map (map f) (slice_split p (x ∷ xs))
split_as p f true x xs is also rest = rw (slice_split-cons_yes p x xs is, slice_split-cons_yes p (f x) (map f xs) also, rest) refl
split_as p f false x xs is also rest = rw (slice_split-cons_no p x xs is, slice_split-cons_no p (f x) (map f xs) also, rest)
    (onto-map f x (slice_split p xs))

split-map : {X : Type 0} (p : X → Bool) (f : X → X) → ((x : X) → p (f x) ≡ p x) → (xs : List X) →
    slice_split p (map f xs) ≡ map (map f) (slice_split p xs)
split-map p f same [] = refl
split-map p f same (x ∷ xs) = split_as p f (p x) x xs refl (same x) (split-map p f same xs)

labels-map : (f : ℕ → ℕ) (parts : List (List ℕ)) → list_all is_label (map (map f) parts) ≡ list_all is_label parts
labels-map f [] = refl
labels-map f (part ∷ parts) = rw (labels-map f parts) (ap (λ n. is_within 1 63 n && list_all is_label parts) (length-map part f))

all_same : {X : Type 0} (p : X → Bool) (f : X → X) → ((x : X) → p (f x) ≡ p x) → (xs : List X) →
    list_all p (map f xs) ≡ list_all p xs
all_same p f same [] = refl
all_same p f same (x ∷ xs) = rw (same x, all_same p f same xs) refl

digits_kept : (f : ℕ → ℕ) → ((c : ℕ) → is_decimal_digit c ≡ true → f c ≡ c) → (xs : List ℕ) → list_all is_decimal_digit xs ≡ true → map f xs ≡ xs
digits_kept f same [] all = refl
digits_kept f same (c ∷ xs) all =
    let parts = both (is_decimal_digit c) (list_all is_decimal_digit xs) all in
    rw (same c parts.0, digits_kept f same xs parts.1) refl

-- ---- Hosts

port_kept : (port : List ℕ) → is_port port ≡ true → is_port (map capital port) ≡ true
port_kept port is =
    let digits = (both (list_all is_decimal_digit port) _ is).0 in
    rw (digits_kept capital same_digit port digits) is

port_part : (none : Bool) (port : List ℕ) → (none || is_port port) ≡ true → (none || is_port (map capital port)) ≡ true
port_part true port is = refl
port_part false port is = port_kept port is

host_kept : (host : List ℕ) → is_host host ≡ true → is_host (map capital host) ≡ true
unfolding is_host
host_kept host is =
    let first = both (list_all is_port_character host && are_labels (before_first is_colon host)) _ is in
    let second = both (list_all is_port_character host) _ first.0 in
    rw (
      all_same is_port_character capital same_port_character host,
      before-map is_colon capital same_colon host,
      split-map is_dot capital same_dot (before_first is_colon host),
      labels-map capital (slice_split is_dot (before_first is_colon host)),
      position-map is_colon capital same_colon host,
      length-map host capital,
      drop-map capital (position_or_len is_colon host + 1) host,
      second.0,
      second.1,
    ) (port_part (position_or_len is_colon host == length host) (after_first is_colon host) first.1)

-- ---- Domains

path_kept : (domain : List ℕ) → written_behind false domain ≡ domain
unfolding written_behind
path_kept [] = refl
path_kept (c ∷ domain) = ap (λ xs. c ∷ xs) (path_kept domain)

no_capital : (c : ℕ) (domain : List ℕ) → is_slash c ≡ true → capital_domain (c ∷ domain) ≡ c ∷ domain
unfolding written_behind
no_capital c domain is = rw is (ap (λ xs. c ∷ xs) (path_kept domain))

next_capital : (c : ℕ) (domain : List ℕ) → is_slash c ≡ false → capital_domain (c ∷ domain) ≡ capital c ∷ capital_domain domain
unfolding written_behind
next_capital c domain is = rw is refl

character_step : (b : Bool) (c : ℕ) (domain : List ℕ) → is_slash c ≡ b → All (λ c. is_domain_character c ≡ true) (c ∷ domain) →
    All (λ c. is_domain_character c ≡ true) (capital_domain domain) → All (λ c. is_domain_character c ≡ true) (capital_domain (c ∷ domain))
character_step true c domain is all more = subst (All (λ c. is_domain_character c ≡ true)) (sym (no_capital c domain is)) all
character_step false c domain is all more =
    subst (All (λ c. is_domain_character c ≡ true)) (sym (next_capital c domain is))
    (All-cons (λ c. is_domain_character c ≡ true) (capital c) (capital_domain domain)
    (domain_character c (All-head (λ c. is_domain_character c ≡ true) c domain all)) more)

characters_kept : (domain : List ℕ) → All (λ c. is_domain_character c ≡ true) domain → All (λ c. is_domain_character c ≡ true) (capital_domain domain)
unfolding written_behind
characters_kept [] all = all
characters_kept (c ∷ domain) all =
    character_step (is_slash c) c domain refl all
    (characters_kept domain (All-tail (λ c. is_domain_character c ≡ true) c domain all))

take_next : (x : ℕ) (xs : List ℕ) (n : ℕ) → take (1 + n) (x ∷ xs) ≡ x ∷ take n xs
take_next x xs n = let one : 1 + n ≡ suc n = omega arith in rw one refl

before_cons : (p : ℕ → Bool) (c : ℕ) (xs : List ℕ) → p c ≡ false → before_first p (c ∷ xs) ≡ c ∷ before_first p xs
before_cons p c xs fails = rw fails (take_next c xs (position_or_len p xs))

before_none : (c : ℕ) (domain : List ℕ) → is_slash c ≡ true → before_first is_slash (c ∷ domain) ≡ []
before_none c domain is = rw is refl

before_step : (b : Bool) (c : ℕ) (domain : List ℕ) → is_slash c ≡ b →
    before_first is_slash (capital_domain domain) ≡ map capital (before_first is_slash domain) →
    before_first is_slash (capital_domain (c ∷ domain)) ≡ map capital (before_first is_slash (c ∷ domain))
before_step true c domain is more =
    ap (before_first is_slash) (no_capital c domain is)
    ∙ (before_none c domain is ∙ sym (ap (map capital) (before_none c domain is)))
before_step false c domain is more =
    ap (before_first is_slash) (next_capital c domain is)
    ∙ (before_cons is_slash (capital c) (capital_domain domain) (same_slash c ∙ is)
    ∙ (ap (λ ys. capital c ∷ ys) more ∙ sym (ap (map capital) (before_cons is_slash c domain is))))

before_kept : (domain : List ℕ) → before_first is_slash (capital_domain domain) ≡ map capital (before_first is_slash domain)
unfolding written_behind
before_kept [] = refl
before_kept (c ∷ domain) = before_step (is_slash c) c domain refl (before_kept domain)

-- A domain in capitals is one where that which is given is.
pub capital_is : (domain : List ℕ) → IsDomain domain → IsDomain (capital_domain domain)
capital_is domain good = record {
  characters = characters_kept domain good.characters;
  host = subst (λ host. is_host host ≡ true) (sym (before_kept domain)) (host_kept (before_first is_slash domain) good.host);
}

-- ---- The loop

pub one_more : (was : Bool) (done domain : List ℕ) (i c : ℕ) → i < length domain → get_or domain i 0 ≡ c →
    done ++ written_behind was (drop i domain) ≡ capital_domain domain →
    (done ++ written (is_in_host was c) c ∷ []) ++ written_behind (is_in_host was c) (drop (i + 1) domain) ≡ capital_domain domain
unfolding written_behind
one_more was done domain i c within is whole =
    let next : drop i domain ≡ c ∷ drop (i + 1) domain = drop_more domain i 0 within ∙ ap (λ x. x ∷ drop (i + 1) domain) is in
    let again : done ++ written_behind was (c ∷ drop (i + 1) domain) ≡ capital_domain domain =
    subst (λ xs. done ++ written_behind was xs ≡ capital_domain domain) next whole in
    append_assoc done (written (is_in_host was c) c ∷ []) (written_behind (is_in_host was c) (drop (i + 1) domain)) ∙ again

pub all_written : (was : Bool) (done domain : List ℕ) (i : ℕ) → length domain ≤ i →
    done ++ written_behind was (drop i domain) ≡ capital_domain domain → done ≡ capital_domain domain
unfolding written_behind
all_written was done domain i past whole =
    let none : drop i domain ≡ [] = grind (arith, drop_all) in
    let again : done ++ written_behind was [] ≡ capital_domain domain =
    subst (λ xs. done ++ written_behind was xs ≡ capital_domain domain) none whole in
    sym (append-nil done) ∙ again
