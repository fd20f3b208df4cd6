-- No link is read as two lists of elements.
use Rattle.std.proofs.Common.{◌≡◌, ℕ, ◌+◌, ◌-◌, ◌*◌, ◌<◌, ◌≤◌, Bool, true, false, cond, not, zero, suc, List, [], ◌∷◌, ◌++◌}
use Rattle.std.proofs.Common.{length, map, drop, refl, arith, ap, sym, subst, ◌∙◌, inl, inr, length-append}
use Rattle.std.specs.Prelude.{All, None, Some, ◌==◌}
use Rattle.std.specs.List.{slice_split, before_first, after_first, list_all}
use Rattle.std.proofs.lemmas.Grind.{common_steps}
use Rattle.std.proofs.lemmas.Bool.{cases_lt}
use Rattle.std.proofs.lemmas.List.{drop_at, drop-drop}
use Rattle.std.proofs.lemmas.List.Elements.{All-head, All-tail, All-weaker, All-drop}
use Rattle.gs1_base.specs.Characters.{is_decimal_digit}
use Rattle.gs1.specs.Elements.{Element}
use Rattle.gs1.specs.Values.{element_error}
use Rattle.gs1.specs.Together.{is_among}
use Rattle.gs1_base.specs.Percent.{ReadsAs}
use Rattle.gs1_links.specs.Links.{keys, number, order_of}
use Rattle.gs1_base.specs.Domains.{is_slash}
use Rattle.gs1_links.specs.LinkReader.{after_scheme, is_question, query_parts, ReadsPath, ReadsQuery, follows}
use Rattle.gs1_links.specs.LinkReader.{AreLinked, LinksHaveOneReading}
use Rattle.gs1.proofs.Faults.{both}
use Rattle.gs1.proofs.RowLemmas.{qualifiers_no_keys}
use Rattle.gs1_base.proofs.Percents.{one_text}
use Rattle.gs1_links.proofs.LinkCuts.{IsFree, before_at, after_at}
use Rattle.gs1_links.proofs.LinkElements.{IsLinkable, linkable}

-- ---- The scheme

-- Nothing but the rest can stand behind a scheme.
pub same_rest : (link first second : List ℕ) → after_scheme link ≡ Some first → after_scheme link ≡ Some second → first ≡ second
same_rest link first second a b = same (sym a ∙ b)
  where
    same : Some first ≡ Some second → first ≡ second
    same e = cc

-- ---- The path

pub same_element : (i j v w : List ℕ) → i ≡ j → v ≡ w →
    (let e : Element = record { identifier = i; value = v } in e) ≡ (let e : Element = record { identifier = j; value = w } in e)
same_element i j v w a b = cc

pub same_first : (x y : List ℕ) (xs ys : List (List ℕ)) → x ∷ xs ≡ y ∷ ys → x ≡ y
same_first x y xs ys e = cc

pub same_later : (x y : List ℕ) (xs ys : List (List ℕ)) → x ∷ xs ≡ y ∷ ys → xs ≡ ys
same_later x y xs ys e = cc

pub some_segment : (x : List ℕ) (xs : List (List ℕ)) → x ∷ xs ≡ [] → ⊥
some_segment x xs e = cc

pub one_path : (segments : List (List ℕ)) (first second : List Element) → ReadsPath segments first →
    ReadsPath segments second → first ≡ second
one_path segments [] [] a b = refl
one_path segments [] (y ∷ ys) a b = absurd (some_segment y.identifier (b.0 ∷ b.1) (sym b.2 ∙ a))
one_path segments (x ∷ xs) [] a b = absurd (some_segment x.identifier (a.0 ∷ a.1) (sym a.2 ∙ b))
one_path segments (x ∷ xs) (y ∷ ys) a b =
    let whole : x.identifier ∷ a.0 ∷ a.1 ≡ y.identifier ∷ b.0 ∷ b.1 = sym a.2 ∙ b.2 in
    let names : x.identifier ≡ y.identifier = same_first x.identifier y.identifier (a.0 ∷ a.1) (b.0 ∷ b.1) whole in
    let more : a.0 ∷ a.1 ≡ b.0 ∷ b.1 = same_later x.identifier y.identifier (a.0 ∷ a.1) (b.0 ∷ b.1) whole in
    let texts : a.0 ≡ b.0 = same_first a.0 b.0 a.1 b.1 more in
    let rests : a.1 ≡ b.1 = same_later a.0 b.0 a.1 b.1 more in
    let values : x.value ≡ y.value = one_text a.0 x.value y.value a.3 (subst (λ t. ReadsAs t y.value) (sym texts) b.3) in
    let heads : x ≡ y = same_element x.identifier y.identifier x.value y.value names values in
    let tails : xs ≡ ys = one_path a.1 xs ys a.4 (subst (λ t. ReadsPath t ys) (sym rests) b.4) in
    ap (λ e. e ∷ xs) heads ∙ ap (λ es. y ∷ es) tails

-- Each element has two segments.
pub path_size : (segments : List (List ℕ)) (elements : List Element) → ReadsPath segments elements →
    length segments ≡ 2 * length elements
path_size segments [] reads = ap length reads
path_size segments (e ∷ elements) reads =
    let below = path_size reads.1 elements reads.4 in
    let size : length segments ≡ suc (suc (length reads.1)) = ap length reads.2 in
    omega (arith, below, size)

-- Further along a path the further elements are read.
reads_later : (n : ℕ) (segments : List (List ℕ)) (elements : List Element) → ReadsPath segments elements →
    n ≤ length elements → ReadsPath (drop (2 * n) segments) (drop n elements)
reads_later zero segments elements reads within = reads
reads_later (suc n) segments [] reads within = absurd (omega arith)
reads_later (suc n) segments (e ∷ elements) reads within =
    let below = reads_later n reads.1 elements reads.4 (omega arith) in
    let two : 2 * suc n ≡ suc (suc (2 * n)) = omega arith in
    let cut : drop (2 * suc n) segments ≡ drop (2 * n) reads.1 =
    ap (λ k. drop k segments) two ∙ ap (drop (suc (suc (2 * n)))) reads.2 in
    subst (λ s. ReadsPath s (drop n elements)) (sym cut) below

-- ---- The key

abbrev pub no_key : ℕ → Bool
no_key n = not (is_among keys n)

-- No qualifier of a key is a key.
order_no_keys : (key : ℕ) (second : Bool) → list_all no_key (order_of key second) ≡ true
order_no_keys key second = qualifiers_no_keys key second

same_number : (m n : ℕ) → (m == n) ≡ true → m ≡ n
same_number m n e = grind (arith, common_steps)

follows_all : (numbers order : List ℕ) → follows numbers order ≡ true → list_all no_key order ≡ true →
    list_all no_key numbers ≡ true
follows_all [] order is all = refl
follows_all (n ∷ numbers) [] is all = absurd (let h : false ≡ true = is in cc)
follows_all (n ∷ numbers) (o ∷ order) is all =
    let each = both (no_key o) (list_all no_key order) all in
    elim (o == n) as (λ t. (o == n) ≡ t → cond t (follows numbers order) (follows (n ∷ numbers) order) ≡ true →
    list_all no_key (n ∷ numbers) ≡ true) [
      | true ↦ λ same h.
          (let P : ℕ → Type 0 = λ m. list_all no_key (m ∷ numbers) ≡ true in
          subst P (same_number o n same) (rw each.0 (follows_all numbers order h each.1)))
      | false ↦ λ other h. follows_all (n ∷ numbers) order h each.1
    ] refl is

pub qualifying_no_keys : (key : Element) (qualifying query : List Element) → AreLinked key qualifying query →
    list_all no_key (map number qualifying) ≡ true
qualifying_no_keys key qualifying query linked =
    elim linked.ordered [
      | inl first ↦ follows_all (map number qualifying) (order_of (number key) false) first (order_no_keys (number key) false)
      | inr second ↦ follows_all (map number qualifying) (order_of (number key) true) second (order_no_keys (number key) true)
    ]

some_element : (e : Element) (es : List Element) → [] ≡ e ∷ es → ⊥
some_element e es h = cc

head_same : (x y : Element) (xs ys : List Element) → x ∷ xs ≡ y ∷ ys → x ≡ y
head_same x y xs ys e = cc

no_key_later : (n : ℕ) (elements : List Element) (key : Element) (others : List Element) → drop n elements ≡ key ∷ others →
    list_all no_key (map number elements) ≡ true → no_key (number key) ≡ true
no_key_later zero [] key others is all = absurd (some_element key others is)
no_key_later (suc n) [] key others is all = absurd (some_element key others is)
no_key_later zero (e ∷ elements) key others is all =
    let each = both (no_key (number e)) (list_all no_key (map number elements)) all in
    let P : Element → Type 0 = λ x. no_key (number x) ≡ true in
    subst P (head_same e key elements others is) each.0
no_key_later (suc n) (e ∷ elements) key others is all =
    let each = both (no_key (number e)) (list_all no_key (map number elements)) all in
    no_key_later n elements key others is each.1

not_both : (n : ℕ) → no_key n ≡ true → is_among keys n ≡ true → ⊥
not_both n a b = let h : not true ≡ true = subst (λ t. not t ≡ true) b a in let k : false ≡ true = h in cc

drop_past : (n : ℕ) (stem segments : List (List ℕ)) → drop (length stem + n) (stem ++ segments) ≡ drop n segments
drop_past n stem segments =
    let whole : drop (length stem) (stem ++ segments) ≡ segments = drop_at stem segments (length stem) refl in
    sym (drop-drop n (length stem) (stem ++ segments)) ∙ ap (drop n) whole

-- A key does not stand where another reading has a qualifier.
not_shorter : (s t first second : List (List ℕ)) (k : Element) (ks : List Element) (m : Element) (ms : List Element) →
    s ++ first ≡ t ++ second → ReadsPath first (k ∷ ks) → ReadsPath second (m ∷ ms) →
    list_all no_key (map number ks) ≡ true → is_among keys (number m) ≡ true → length second < length first → ⊥
not_shorter s t first second k ks m ms same reads other all key shorter =
    let long = path_size first (k ∷ ks) reads in
    let short = path_size second (m ∷ ms) other in
    let n : ℕ = length ks - length ms - 1 in
    let count : suc (length ms) + suc n ≡ suc (length ks) = omega arith in
    let sizes : length s + length first ≡ length t + length second =
    sym (length-append s first) ∙ ap length same ∙ length-append t second in
    let behind : length t ≡ length s + 2 * suc n = omega arith in
    let cut : second ≡ drop (2 * suc n) first =
    sym (drop_at t second (length t) refl) ∙ ap (drop (length t)) (sym same)
    ∙ ap (λ k. drop k (s ++ first)) behind ∙ drop_past (2 * suc n) s first in
    let later = reads_later (suc n) first (k ∷ ks) reads (omega arith) in
    let there : ReadsPath second (drop (suc n) (k ∷ ks)) = subst (λ x. ReadsPath x (drop (suc n) (k ∷ ks))) (sym cut) later in
    let is : drop n ks ≡ m ∷ ms = one_path second (drop (suc n) (k ∷ ks)) (m ∷ ms) there other in
    not_both (number m) (no_key_later n ks m ms is all) key

same_segments : (s t first second : List (List ℕ)) → s ++ first ≡ t ++ second → length first ≡ length second → first ≡ second
same_segments s t first second same sizes =
    let all : length s + length first ≡ length t + length second =
    sym (length-append s first) ∙ ap length same ∙ length-append t second in
    let heads : length s ≡ length t = omega arith in
    sym (drop_at s first (length s) refl) ∙ ap (drop (length s)) same ∙ drop_at t second (length s) (sym heads)

-- ---- The query

abbrev pub is_equals : ℕ → Bool
is_equals c = c == 0x3d

digit_no_equals : (c : ℕ) → is_decimal_digit c ≡ true → is_equals c ≡ false
digit_no_equals c e = grind (arith, common_steps)

pub no_equals : (e : Element) → IsLinkable e → IsFree is_equals e.identifier
no_equals e good = All-weaker (λ c. is_decimal_digit c ≡ true) (λ c. is_equals c ≡ false) digit_no_equals e.identifier good.digits

pub one_query : (parts : List (List ℕ)) (first second : List Element) → All IsLinkable first → All IsLinkable second →
    ReadsQuery parts first → ReadsQuery parts second → first ≡ second
one_query parts [] [] good fine a b = refl
one_query parts [] (y ∷ ys) good fine a b = absurd (some_segment (y.identifier ++ 0x3d ∷ b.0) b.1 (sym b.2 ∙ a))
one_query parts (x ∷ xs) [] good fine a b = absurd (some_segment (x.identifier ++ 0x3d ∷ a.0) a.1 (sym a.2 ∙ b))
one_query parts (x ∷ xs) (y ∷ ys) good fine a b =
    let whole : (x.identifier ++ 0x3d ∷ a.0) ∷ a.1 ≡ (y.identifier ++ 0x3d ∷ b.0) ∷ b.1 = sym a.2 ∙ b.2 in
    let pair : x.identifier ++ 0x3d ∷ a.0 ≡ y.identifier ++ 0x3d ∷ b.0 =
    same_first (x.identifier ++ 0x3d ∷ a.0) (y.identifier ++ 0x3d ∷ b.0) a.1 b.1 whole in
    let rests : a.1 ≡ b.1 = same_later (x.identifier ++ 0x3d ∷ a.0) (y.identifier ++ 0x3d ∷ b.0) a.1 b.1 whole in
    let free = no_equals x (All-head IsLinkable x xs good) in
    let clear = no_equals y (All-head IsLinkable y ys fine) in
    let names : x.identifier ≡ y.identifier =
    sym (before_at is_equals x.identifier 0x3d a.0 free refl) ∙ ap (before_first is_equals) pair
    ∙ before_at is_equals y.identifier 0x3d b.0 clear refl in
    let texts : a.0 ≡ b.0 =
    sym (after_at is_equals x.identifier 0x3d a.0 free refl) ∙ ap (after_first is_equals) pair
    ∙ after_at is_equals y.identifier 0x3d b.0 clear refl in
    let values : x.value ≡ y.value = one_text a.0 x.value y.value a.3 (subst (λ t. ReadsAs t y.value) (sym texts) b.3) in
    let heads : x ≡ y = same_element x.identifier y.identifier x.value y.value names values in
    let tails : xs ≡ ys = one_query a.1 xs ys (All-tail IsLinkable x xs good) (All-tail IsLinkable y ys fine) a.4
    (subst (λ t. ReadsQuery t ys) (sym rests) b.4) in
    ap (λ e. e ∷ xs) heads ∙ ap (λ es. y ∷ es) tails

-- ---- The link

one_key_path : (s t first second : List (List ℕ)) (k : Element) (ks : List Element) (m : Element) (ms : List Element) →
    s ++ first ≡ t ++ second → ReadsPath first (k ∷ ks) → ReadsPath second (m ∷ ms) →
    list_all no_key (map number ks) ≡ true → list_all no_key (map number ms) ≡ true →
    is_among keys (number k) ≡ true → is_among keys (number m) ≡ true → k ∷ ks ≡ m ∷ ms
one_key_path s t first second k ks m ms same reads other all each key mine =
    elim (cases_lt (length second) (length first)) [
      | inl shorter ↦ absurd (not_shorter s t first second k ks m ms same reads other all mine shorter)
      | inr not_less ↦ elim (cases_lt (length first) (length second)) [
        | inl longer ↦ absurd (not_shorter t s second first m ms k ks (sym same) other reads each key longer)
        | inr equal ↦
            (let segments : first ≡ second = same_segments s t first second same (omega arith) in
            one_path first (k ∷ ks) (m ∷ ms) reads (subst (λ x. ReadsPath x (m ∷ ms)) (sym segments) other))
      ]
    ]

pub query_linkable : (key : Element) (qualifying query : List Element) → AreLinked key qualifying query → All IsLinkable query
query_linkable key qualifying query linked =
    All-weaker (λ e. element_error 0 e ≡ None) IsLinkable (linkable 0) query
    (subst (All (λ e. element_error 0 e ≡ None)) (drop_at (key ∷ qualifying) query (length (key ∷ qualifying)) refl)
    (All-drop (λ e. element_error 0 e ≡ None) (length (key ∷ qualifying)) (key ∷ qualifying ++ query) linked.allowed))

pub one_reading : LinksHaveOneReading
one_reading link first second a b =
    let rests = same_rest link a.parts.rest b.parts.rest a.parts.scheme_is b.parts.scheme_is in
    let whole : a.parts.domain ∷ (a.parts.stem ++ a.parts.segments) ≡ b.parts.domain ∷ (b.parts.stem ++ b.parts.segments) =
    sym a.parts.cut ∙ ap (λ r. slice_split is_slash (before_first is_question r)) rests ∙ b.parts.cut in
    let ends : a.parts.stem ++ a.parts.segments ≡ b.parts.stem ++ b.parts.segments =
    same_later a.parts.domain b.parts.domain (a.parts.stem ++ a.parts.segments) (b.parts.stem ++ b.parts.segments) whole in
    let paths : a.key ∷ a.qualifying ≡ b.key ∷ b.qualifying =
    one_key_path a.parts.stem b.parts.stem a.parts.segments b.parts.segments a.key a.qualifying b.key b.qualifying ends
    a.parts.path_is b.parts.path_is (qualifying_no_keys a.key a.qualifying a.query a.linked)
    (qualifying_no_keys b.key b.qualifying b.query b.linked) a.linked.key_is b.linked.key_is in
    let Q : List ℕ → Type 0 = λ r. ReadsQuery (query_parts (after_first is_question r)) b.query in
    let queries : a.query ≡ b.query =
    one_query (query_parts (after_first is_question a.parts.rest)) a.query b.query
    (query_linkable a.key a.qualifying a.query a.linked) (query_linkable b.key b.qualifying b.query b.linked)
    a.parts.query_is (subst Q (sym rests) b.parts.query_is) in
    a.are ∙ ap (λ path. path ++ a.query) paths ∙ ap (λ query. b.key ∷ b.qualifying ++ query) queries ∙ sym b.are
