-- Data that lie within data that fit, fit too.
use Rattle.qrcode_bits.proofs.Prelude.{◌≡◌, ℕ, zero, suc, ◌+◌, ◌-◌, ◌<◌, ◌≤◌, Bool, true, false, List, [], ◌∷◌, ◌++◌, length, take, drop, refl, sym, ap, ◌∙◌}
use Rattle.qrcode_bits.proofs.Prelude.{subst, arith, inl, inr, cases_lt, one-add, slice_range, is_kanji_pair, EcLevel, Segment, Class, Pair, class_of, units}
use Rattle.qrcode_bits.proofs.Prelude.{parsed, parsed_bytes, normal, FitsNone, length-append, length-drop, Content, Bytes, Text, Elements, All-nil, map}
use Rattle.qrcode_bits.proofs.Prelude.{take-length, content_bits, IsMergePlan, ◌≢◌, L, M, Q, H, capacity, Some, total_size, IsUnitEnd, IsCutPlace, length-map}
use Rattle.qrcode_bits.proofs.Prelude.{All-weaker, is_lead}
use Rattle.qrcode_bits.proofs.{Adjoining.class_of-one, Adjoining.units-size, Adjoining.size-cut, Runs.class_size-some, Shortest.units-pair}
use Rattle.qrcode_bits.proofs.{Shortest.units-apart, Shortest.low-no_lead, Shortest.units-single, Numbers.length-number_bits, Contents.parsed-low}
use Rattle.qrcode_bits.proofs.{Contents.length-parsed, Contents.slice-parsed, Choices.fits_normal, Within.within-plan, CuttingPlans.slice-seam}
use Rattle.qrcode_bits.proofs.Texts.{slice-join}
use Rattle.std.proofs.lemmas.List.{length-take-le, take-take}

-- ---- The units of first bytes, and of those after them

abbrev size_at : List ℕ → ℕ → ℕ
size_at bytes n = total_size (take n (units bytes))

unit_after : (a : ℕ) (w : List ℕ) (b : ℕ) (rest : List ℕ) (k : ℕ) → w ≡ take k (b ∷ rest) → is_kanji_pair a b ≡ false → units (a ∷ w) ≡ class_of a ∷ units w
unit_after a w b rest zero e h = rw e refl
unit_after a w b rest (suc k) e h = rw e (units-apart a b (take k rest) h)

two_add : (n : ℕ) → 2 + n ≡ suc (suc n)
two_add n = omega arith

-- the units of the bytes up to a unit, and of those from it on
abbrev IsSplit : List ℕ → ℕ → Type 0
IsSplit bytes n = (units (take (size_at bytes n) bytes) ≡ take n (units bytes)) × (units (drop (size_at bytes n) bytes) ≡ drop n (units bytes))

one_split : (a b : ℕ) (rest : List ℕ) (n : ℕ) (p : Bool) → is_kanji_pair a b ≡ p → IsSplit rest n → IsSplit (b ∷ rest) n → IsSplit (a ∷ b ∷ rest) (suc n)
one_split a b rest n true h w x = rw (units-pair a b rest h, two_add (size_at rest n))
    (units-pair a b (take (size_at rest n) rest) h ∙ ap (λ cs. Pair ∷ cs) w.0, w.1)
one_split a b rest n false h w x = rw (units-apart a b rest h, class_of-one a, one-add (size_at (b ∷ rest) n)) (
  unit_after a (take (size_at (b ∷ rest) n) (b ∷ rest)) b rest (size_at (b ∷ rest) n) refl h ∙ ap (λ cs. class_of a ∷ cs) x.0,
  x.1,
)

pub units-split : (bytes : List ℕ) (n : ℕ) → IsSplit bytes n
units-split bytes zero = (refl, refl)
units-split [] (suc n) = (refl, refl)
units-split (a ∷ []) (suc zero) = rw (class_of-one a) (refl, refl)
units-split (a ∷ []) (suc (suc n)) = rw (class_of-one a) (refl, refl)
units-split (a ∷ b ∷ rest) (suc n) = one_split a b rest n (is_kanji_pair a b) refl (units-split rest n) (units-split (b ∷ rest) n)

-- ---- Places

pub some-size : (cs : List Class) (n : ℕ) → 1 ≤ n → 1 ≤ length cs → 1 ≤ total_size (take n cs)
some-size [] n h full = absurd (omega (arith, full))
some-size (c ∷ cs) zero h full = absurd (omega (arith, h))
some-size (c ∷ cs) (suc n) h full = let e = class_size-some c in omega (arith, e)

-- places in the order of their units
pub unit-order : (bytes : List ℕ) (p q : ℕ) (a : IsUnitEnd bytes p) (b : IsUnitEnd bytes q) → p ≤ q → a.0 ≤ b.0
unit-order bytes p q a b h = elim (cases_lt b.0 a.0) [
  | inl less ↦ (let long = length-drop b.0 (units bytes) in
      let more = some-size (drop b.0 (units bytes)) (a.0 - b.0) (omega arith) (omega (arith, long, a.1)) in
      let cut = size-cut (units bytes) b.0 a.0 (omega arith) in absurd (omega (arith, h, a.2, b.2, cut, more)))
  | inr past ↦ past
]

-- the units between two places
units-between : (bytes : List ℕ) (p q : ℕ) (a : IsUnitEnd bytes p) (b : IsUnitEnd bytes q) → p ≤ q →
    units (slice_range bytes p q) ≡ slice_range (units bytes) a.0 b.0
units-between bytes p q a b h =
    let order = unit-order bytes p q a b h in
    let after = ap (λ k. units (drop k bytes)) a.2 ∙ (units-split bytes a.0).1 in
    let size : q - p ≡ total_size (take (b.0 - a.0) (units (drop p bytes))) =
    rw after (let cut = size-cut (units bytes) a.0 b.0 order in omega (arith, a.2, b.2, cut)) in
    ap (λ k. units (take k (drop p bytes))) size ∙ ((units-split (drop p bytes) (b.0 - a.0)).0 ∙ ap (λ cs. take (b.0 - a.0) cs) after)

-- ---- What lies within data that fit

within_bytes : (front limit : ℕ) (l : EcLevel) (bytes : List ℕ) (p q r s : ℕ) → p ≤ q → q ≤ r → r ≤ s → IsUnitEnd bytes p → IsUnitEnd bytes q →
    IsUnitEnd bytes r → IsUnitEnd bytes s →
    FitsNone normal front (slice_range bytes q r) l limit → FitsNone normal front (slice_range bytes p s) l limit
within_bytes front limit l bytes p q r s h k i a b c d none n few plan fits =
    let us = units bytes in
    let ab = unit-order bytes p q a b h in let bc = unit-order bytes q r b c k in let cd = unit-order bytes r s c d i in
    let first = slice_range us a.0 b.0 in let middle = slice_range us b.0 c.0 in
    let whole = units-between bytes p s a d (omega (arith, h, k, i)) ∙ (sym (slice-join us a.0 b.0 d.0 ab (omega (arith, bc, cd)))
    ∙ ap (λ xs. first ++ xs) (sym (slice-join us b.0 c.0 d.0 bc cd))) in
    let w = within-plan (normal n) (slice_range bytes p s) (slice_range bytes q r) (length first) (length (first ++ middle)) plan
    (omega (arith, length-append first middle)) (units-between bytes q r b c k
    ∙ sym (ap (λ xs. slice_range xs (length first) (length (first ++ middle))) whole ∙ slice-seam first middle (slice_range us c.0 d.0))) fits.planned in
    none n few w.0 (fits_normal front n fits.limit (slice_range bytes q r) l w.0 w.1 fits.has_level (omega (arith, fits.within, w.2)))

-- ---- In a text each place is the end of a unit

single-size : (bytes : List ℕ) (p : ℕ) → p ≤ length bytes → total_size (take p (map class_of bytes)) ≡ p
single-size bytes zero h = refl
single-size [] (suc p) h = absurd (omega (arith, h))
single-size (a ∷ bytes) (suc p) h = let one = class_of-one a in let e = single-size bytes p (omega (arith, h)) in omega (arith, one, e)

unit_end : (c : Content) (bytes : List ℕ) (p : ℕ) → IsCutPlace c bytes p → IsUnitEnd (parsed_bytes c bytes) p
unit_end Bytes bytes p h = h
unit_end Text bytes p h =
    let parsed = parsed_bytes Text bytes in
    let e = units-single parsed (All-weaker (λ b. b < 128) (λ b. is_lead b ≡ false) low-no_lead parsed (parsed-low Text tt bytes)) in
    let long = length-parsed Text bytes in
    rw e (p, omega (arith, length-map parsed class_of, long, h.0), sym (single-size parsed p (omega (arith, long, h.0))))
unit_end Elements bytes p h = absurd h

pub within_content : (c : Content) (front limit : ℕ) (l : EcLevel) (bytes : List ℕ) (p q r s : ℕ) → p ≤ q → q ≤ r → r ≤ s →
    IsCutPlace c bytes p → IsCutPlace c bytes q → IsCutPlace c bytes r → IsCutPlace c bytes s →
    FitsNone normal front (parsed_bytes c (slice_range bytes q r)) l limit → FitsNone normal front (parsed_bytes c (slice_range bytes p s)) l limit
within_content c front limit l bytes p q r s h k i a b d e none =
    subst (λ z. FitsNone normal front z l limit) (slice-parsed c bytes p s)
    (within_bytes front limit l (parsed_bytes c bytes) p q r s h k i (unit_end c bytes p a) (unit_end c bytes q b) (unit_end c bytes r d) (unit_end c bytes s e)
    (subst (λ z. FitsNone normal front z l limit) (sym (slice-parsed c bytes q r)) none))

-- ---- The start and the end, and no data

pub start_place : (c : Content) (bytes : List ℕ) → c ≢ Elements → IsCutPlace c bytes 0
start_place Bytes bytes h = (0, omega arith, refl)
start_place Text bytes h = (omega arith, λ k. absurd (omega (arith, k)))
start_place Elements bytes h = absurd (h refl)

pub end_place : (c : Content) (bytes : List ℕ) → c ≢ Elements → IsCutPlace c bytes (length bytes)
end_place Bytes bytes h =
    (length (units bytes), omega arith, sym (ap total_size (take-length (units bytes)) ∙ units-size bytes))
end_place Text bytes h = (omega arith, λ k l. absurd (omega (arith, l)))
end_place Elements bytes h = absurd (h refl)

empty_plan : IsMergePlan (parsed []) []
empty_plan = record { pieces = []; whole = refl; nonempty = All-nil (λ (piece : List Segment). 0 < length piece); merges = refl }

-- version 1 has 72 bits at least, and no front more than 32
pub least_room : (l : EcLevel) → (d : ℕ) × (capacity (normal 1) l ≡ Some d) × (72 ≤ d)
least_room L = (152, refl, omega arith)
least_room M = (128, refl, omega arith)
least_room Q = (104, refl, omega arith)
least_room H = (72, refl, omega arith)

content-short : (c : Content) → length (content_bits c) ≤ 12
content-short c = grind (arith, length-append, length-number_bits)

pub empty_fits : (c : Content) (l : EcLevel) → FitsNone normal (20 + length (content_bits c)) [] l 1 → ⊥
empty_fits c l none =
    let w = least_room l in let few = content-short c in
    none 1 (omega arith) [] (fits_normal (20 + length (content_bits c)) 1 w.0 [] l [] empty_plan w.1 (omega (arith, w.2, few)))

-- No place is past the end.
pub place_within : (c : Content) (bytes : List ℕ) (p : ℕ) → IsCutPlace c bytes p → p ≤ length bytes
place_within c bytes p h =
    let us = units (parsed_bytes c bytes) in
    let w = unit_end c bytes p h in
    let all = ap total_size (take-length us) ∙ units-size (parsed_bytes c bytes) in
    omega (arith, size-cut us w.0 (length us) w.1, all, w.2, length-parsed c bytes)

-- ---- Places between two others

between : {X : Type 0} (xs : List X) (p q e : ℕ) → q ≤ e → take (q - p) (slice_range xs p e) ≡ slice_range xs p q
between xs p q e h = take-take (q - p) (e - p) (drop p xs) (omega (arith, h))

unit_between : (bytes : List ℕ) (p q e : ℕ) → p ≤ q → q ≤ e → IsUnitEnd bytes p → IsUnitEnd bytes q → IsUnitEnd bytes e →
    IsUnitEnd (slice_range bytes p e) (q - p)
unit_between bytes p q e h k a b d =
    let us = units bytes in
    let ab = unit-order bytes p q a b h in let bd = unit-order bytes q e b d k in
    let size = ap total_size (between us a.0 b.0 d.0 bd) in
    rw (units-between bytes p e a d (omega (arith, h, k))) (
      b.0 - a.0,
      (let rest = length-drop a.0 us in let long = length-take-le (d.0 - a.0) (drop a.0 us) (omega (arith, rest, d.1)) in omega (arith, long, bd)),
      (let cut = size-cut us a.0 b.0 ab in omega (arith, size, cut, a.2, b.2)),
    )

-- A place between two others is one of the data between them, whose units up to it are the same.
pub place_between : (c : Content) (message : List ℕ) (p q e : ℕ) → p ≤ q → q ≤ e → IsCutPlace c message p → IsCutPlace c message q → IsCutPlace c message e →
    IsUnitEnd (parsed_bytes c (slice_range message p e)) (q - p)
    × (take (q - p) (parsed_bytes c (slice_range message p e)) ≡ parsed_bytes c (slice_range message p q))
place_between c message p q e h k a b d = (
  subst (λ z. IsUnitEnd z (q - p)) (slice-parsed c message p e)
      (unit_between (parsed_bytes c message) p q e h k (unit_end c message p a) (unit_end c message q b) (unit_end c message e d)),
  ap (take (q - p)) (sym (slice-parsed c message p e)) ∙ (between (parsed_bytes c message) p q e k ∙ slice-parsed c message p q),
)
