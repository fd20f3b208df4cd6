-- Where the key stands in a path.
use Rattle.std.proofs.Common.{◌≡◌, ℕ, ◌*◌, ◌%◌, Bool, true, false, not, suc, List, [], ◌∷◌, ◌++◌}
use Rattle.std.proofs.Common.{length, map, refl, arith, ap, sym, ◌∙◌}
use Rattle.std.specs.Prelude.{Option, None, Some, ◌==◌, ◌&&◌, if◌then◌else◌}
use Rattle.std.specs.List.{list_all}
use Rattle.std.specs.Option.{option_or}
use Rattle.std.proofs.lemmas.Grind.{common_steps}
use Rattle.gs1.specs.Elements.{Element, is_identifier}
use Rattle.gs1.specs.Values.{number_of_identifier}
use Rattle.gs1.specs.Together.{is_among}
use Rattle.gs1_links.specs.Links.{keys, number}
use Rattle.gs1_links.specs.LinkReader.{ReadsPath}
use Rattle.gs1_links.specs.LinkFaults.{path_in, is_key_text}
use Rattle.gs1.proofs.Faults.{both}
use Rattle.gs1_links.proofs.OneLink.{no_key, path_size}

twice_even : (n : ℕ) → (2 * n % 2 == 1) ≡ false
twice_even n = grind (arith, common_steps)

and_false : (a b : Bool) → b ≡ false → (a && b) ≡ false
and_false true b e = e
and_false false b e = refl

not_key : (identifier : List ℕ) → no_key (number_of_identifier identifier) ≡ true → is_key_text identifier ≡ false
not_key identifier none = and_false (is_identifier identifier) (is_among keys (number_of_identifier identifier)) (opposite (is_among keys (number_of_identifier identifier)) none)
  where
    opposite : (b : Bool) → not b ≡ true → b ≡ false
    opposite true e = absurd (let h : false ≡ true = e in cc)
    opposite false e = refl

-- What one segment adds.
abbrev here : List ℕ → List (List ℕ) → Option (List (List ℕ))
here segment segments = if is_key_text segment && (length segments % 2 == 1) then Some (segment ∷ segments) else None

no_here : (segment : List ℕ) (segments : List (List ℕ)) → (is_key_text segment && (length segments % 2 == 1)) ≡ false →
    path_in segments ≡ None → path_in (segment ∷ segments) ≡ None
no_here segment segments is none = rw (none, is) refl

even_left : (segments : List (List ℕ)) (elements : List Element) → ReadsPath segments elements → (length segments % 2 == 1) ≡ false
even_left segments elements reads =
    ap (λ n. n % 2 == 1) (path_size segments elements reads) ∙ twice_even (length elements)

-- There is no key among qualifiers.
no_path : (segments : List (List ℕ)) (elements : List Element) → ReadsPath segments elements →
    list_all no_key (map number elements) ≡ true → path_in segments ≡ None
no_path segments [] reads all = ap path_in reads
no_path segments (e ∷ elements) reads all =
    let each = both (no_key (number e)) (list_all no_key (map number elements)) all in
    let below = no_path reads.1 elements reads.4 each.1 in
    let even = even_left reads.1 elements reads.4 in
    let text = no_here reads.0 reads.1 (and_false (is_key_text reads.0) (length reads.1 % 2 == 1) even) below in
    ap path_in reads.2
    ∙ no_here e.identifier (reads.0 ∷ reads.1) (rw (not_key e.identifier each.0) refl) text

suc_odd : (n : ℕ) → (n % 2 == 1) ≡ false → (suc n % 2 == 1) ≡ true
suc_odd n e = grind (arith, common_steps)

-- The path is found from its key on.
key_path : (segments : List (List ℕ)) (key : Element) (elements : List Element) → ReadsPath segments (key ∷ elements) →
    is_key_text key.identifier ≡ true → list_all no_key (map number elements) ≡ true → path_in segments ≡ Some segments
key_path segments key elements reads is all =
    let below = no_path reads.1 elements reads.4 all in
    let even = even_left reads.1 elements reads.4 in
    let text = no_here reads.0 reads.1 (and_false (is_key_text reads.0) (length reads.1 % 2 == 1) even) below in
    let found : path_in (key.identifier ∷ reads.0 ∷ reads.1) ≡ Some (key.identifier ∷ reads.0 ∷ reads.1) =
    rw (text, is, suc_odd (length reads.1) even) refl in
    ap path_in reads.2 ∙ found ∙ ap Some (sym reads.2)

pub found_path : (stem segments : List (List ℕ)) (key : Element) (elements : List Element) → ReadsPath segments (key ∷ elements) →
    is_key_text key.identifier ≡ true → list_all no_key (map number elements) ≡ true →
    path_in (stem ++ segments) ≡ Some segments
found_path [] segments key elements reads is all = key_path segments key elements reads is all
found_path (s ∷ stem) segments key elements reads is all =
    rw (found_path stem segments key elements reads is all) refl

-- What is found.
pub record IsPath (segments path : List (List ℕ)) : Type 0 where
  pub stem : List (List ℕ)
  pub identifier : List ℕ
  pub rest : List (List ℕ)
  pub joined : segments ≡ stem ++ path
  pub begins : path ≡ identifier ∷ rest
  pub is_key : is_key_text identifier ≡ true
  pub odd : (length rest % 2 == 1) ≡ true

none_some : (path : List (List ℕ)) → None ≡ Some path → ⊥
none_some path e = cc

same_some : (first second : List (List ℕ)) → Some first ≡ Some second → first ≡ second
same_some first second e = cc

pub path_is : (segments path : List (List ℕ)) → path_in segments ≡ Some path → IsPath segments path
path_is [] path is = absurd (none_some path is)
path_is (s ∷ segments) path is =
    elim (path_in segments) as (λ o. path_in segments ≡ o → option_or o (here s segments) ≡ Some path → IsPath (s ∷ segments) path) [
      | Some later ↦ λ known e.
          (let below = path_is segments path (known ∙ e) in
          record {
            stem = s ∷ below.stem;
            identifier = below.identifier;
            rest = below.rest;
            joined = ap (λ xs. s ∷ xs) below.joined;
            begins = below.begins;
            is_key = below.is_key;
            odd = below.odd;
          })
      | None ↦ λ known e. first s segments path (is_key_text s && (length segments % 2 == 1)) refl e
    ] refl is
  where
    first : (s : List ℕ) (segments path : List (List ℕ)) (b : Bool) → (is_key_text s && (length segments % 2 == 1)) ≡ b →
        (if b then Some (s ∷ segments) else None) ≡ Some path → IsPath (s ∷ segments) path
    first s segments path true test e =
        let tests = both (is_key_text s) (length segments % 2 == 1) test in
        record {
          stem = [];
          identifier = s;
          rest = segments;
          joined = same_some (s ∷ segments) path e;
          begins = sym (same_some (s ∷ segments) path e);
          is_key = tests.0;
          odd = tests.1;
        }
    first s segments path false test e = absurd (none_some path e)
