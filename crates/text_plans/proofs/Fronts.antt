-- The first character of what a segment is read as, and the bytes that follow it.
use Rattle.std.proofs.Common.{◌≡◌, ℕ, Bool, true, false, List, [], ◌∷◌, refl, subst}
use Rattle.std.specs.Prelude.{Option, None, Some, if◌then◌else◌}
use Rattle.qrcode_base.specs.Characters.{is_between, is_alphanumeric}
use Rattle.character_sets.specs.Reading.{put, each_of, read_kanji, pair_character, digit_character}
use Rattle.character_sets.specs.Reading.{alphanumeric_character}

pub put_is : (x : Option ℕ) (y : Option (List ℕ)) (c : ℕ) (cs : List ℕ) → put x y ≡ Some (c ∷ cs) → (x ≡ Some c) × (y ≡ Some cs)
put_is (Some x) (Some y) c cs h = (cc, cc)
put_is (Some x) None c cs h = absurd (let e : None ≡ Some (c ∷ cs) = h in cc)
put_is None y c cs h = absurd (let e : None ≡ Some (c ∷ cs) = h in cc)

pub put_some : (x : Option ℕ) (y : Option (List ℕ)) → put x y ≡ Some [] → ⊥
put_some (Some x) (Some y) h = let e : Some (x ∷ y) ≡ Some [] = h in cc
put_some (Some x) None h = let e : None ≡ Some [] = h in cc
put_some None y h = let e : None ≡ Some [] = h in cc

pub if_some : (b : Bool) (x : Option ℕ) (c : ℕ) → (if b then x else None) ≡ Some c → (b ≡ true) × (x ≡ Some c)
if_some true x c h = (refl, h)
if_some false x c h = absurd (let e : None ≡ Some c = h in cc)

-- ---- Bytes of which each is a character

pub each_front : (f : ℕ → Option ℕ) (bytes : List ℕ) (c : ℕ) (cs : List ℕ) → each_of f bytes ≡ Some (c ∷ cs) →
    (byte : ℕ) × (rest : List ℕ) × (bytes ≡ byte ∷ rest) × (f byte ≡ Some c) × (each_of f rest ≡ Some cs)
unfolding each_of
each_front f [] c cs h = absurd (let e : Some [] ≡ Some (c ∷ cs) = h in cc)
each_front f (byte ∷ rest) c cs h =
    let p = put_is (f byte) (each_of f rest) c cs h in (byte, rest, refl, p.0, p.1)

pub each_none : (f : ℕ → Option ℕ) (bytes : List ℕ) → each_of f bytes ≡ Some [] → bytes ≡ []
unfolding each_of
each_none f [] h = refl
each_none f (byte ∷ rest) h = absurd (put_some (f byte) (each_of f rest) h)

pub digit_is : (byte c : ℕ) → digit_character byte ≡ Some c → (byte ≡ c) × (is_between 48 57 c ≡ true)
digit_is byte c h =
    let p = if_some (is_between 48 57 byte) (Some byte) c h in
    let e : byte ≡ c = cc in
    (e, subst (λ x. is_between 48 57 x ≡ true) e p.0)

pub alphanumeric_is : (byte c : ℕ) → alphanumeric_character byte ≡ Some c → (byte ≡ c) × (is_alphanumeric c ≡ true)
alphanumeric_is byte c h =
    let p = if_some (is_alphanumeric byte) (Some byte) c h in
    let e : byte ≡ c = cc in
    (e, subst (λ x. is_alphanumeric x ≡ true) e p.0)

-- ---- Pairs of the Kanji mode

pub kanji_front : (bytes : List ℕ) (c : ℕ) (cs : List ℕ) → read_kanji bytes ≡ Some (c ∷ cs) →
    (lead : ℕ) × (trail : ℕ) × (rest : List ℕ) × (bytes ≡ lead ∷ trail ∷ rest) × (pair_character lead trail ≡ Some c)
    × (read_kanji rest ≡ Some cs)
unfolding read_kanji
kanji_front [] c cs h = absurd (let e : Some [] ≡ Some (c ∷ cs) = h in cc)
kanji_front (lead ∷ []) c cs h = absurd (let e : None ≡ Some (c ∷ cs) = h in cc)
kanji_front (lead ∷ trail ∷ rest) c cs h =
    let p = put_is (pair_character lead trail) (read_kanji rest) c cs h in (lead, trail, rest, refl, p.0, p.1)

pub kanji_none : (bytes : List ℕ) → read_kanji bytes ≡ Some [] → bytes ≡ []
unfolding read_kanji
kanji_none [] h = refl
kanji_none (lead ∷ []) h = absurd (let e : None ≡ Some [] = h in cc)
kanji_none (lead ∷ trail ∷ rest) h = absurd (put_some (pair_character lead trail) (read_kanji rest) h)
