-- The places at which data may be cut, found one after the other.
use Rattle.qrcode_bits.proofs.Prelude.{◌≡◌, ℕ, ◌+◌, ◌-◌, ◌<◌, ◌≤◌, List, [], ◌∷◌, ◌++◌, length, take, drop, refl, sym, ap, ◌∙◌, subst, arith, inl, inr}
use Rattle.qrcode_bits.proofs.Prelude.{cases_lt, length-drop, length_push, get_or_push, get_or_append_left, slice_range, Content, Bytes, Class, class_size}
use Rattle.qrcode_bits.proofs.Prelude.{units, total_size, IsUnitEnd, IsCutPlace, ArePlacesBefore}
use Rattle.qrcode_bits.proofs.{Cutting.units-split, Adjoining.size-cut}

module _ (c : Content) (bytes : List ℕ) where
  pub none_before : ArePlacesBefore 0 c bytes []
  none_before = grind arith

  module _ (at next : ℕ) (places : List ℕ) (old : ArePlacesBefore at c bytes places) (here : IsCutPlace c bytes at) (later : at < next)
      (none : (p : ℕ) → IsCutPlace c bytes p → at < p → p < next → ⊥) where
    abbrev more : List ℕ
    more = places ++ at ∷ []

    -- one more place
    pub one_place : ArePlacesBefore next c bytes more
    one_place = record {
      each = λ i h. grind (arith, cases_lt i (length places), old.each i, get_or_append_left, get_or_push, length_push);
      all = λ p w h. elim (cases_lt p at) [
        | inl k ↦ (let i = old.all p w k in (i.0, omega (arith, i.1, length_push places at), get_or_append_left places (at ∷ []) 0 i.0 i.1 ∙ i.2))
        | inr k ↦ (length places, omega (arith, length_push places at), grind (arith, cases_lt at p, none p w, get_or_push))
      ];
      increasing = λ i j h k. grind (arith, cases_lt j (length places), old.increasing i j h, old.each i, get_or_append_left, get_or_push, length_push);
    }

  pub no_place : (at : ℕ) (places : List ℕ) → ArePlacesBefore at c bytes places → (IsCutPlace c bytes at → ⊥) → ArePlacesBefore (at + 1) c bytes places
  no_place at places old none = record {
    each = λ i h. (let w = old.each i h in (w.0, omega (arith, w.1)));
    all = λ p w h. elim (cases_lt p at) [
      | inl k ↦ old.all p w k
      | inr k ↦ absurd (let e : p ≡ at = omega (arith, h, k) in none (subst (IsCutPlace c bytes) e w))
    ];
    increasing = old.increasing;
  }

-- ---- Units

module _ (bytes : List ℕ) (at next : ℕ) (a : IsUnitEnd bytes at) (c : Class) (rest : List Class) (here : units (drop at bytes) ≡ c ∷ rest)
    (is : next ≡ at + class_size c) where
  after : drop a.0 (units bytes) ≡ c ∷ rest
  after = sym ((units-split bytes a.0).1) ∙ (ap (λ k. units (drop k bytes)) (sym a.2) ∙ here)

  inside : a.0 + 1 ≤ length (units bytes)
  inside = let e = length-drop a.0 (units bytes) in let k : length (drop a.0 (units bytes)) ≡ length (c ∷ rest) = ap length after in omega (arith, e, k)

  one : slice_range (units bytes) a.0 (a.0 + 1) ≡ c ∷ []
  one = let n : a.0 + 1 - a.0 ≡ 1 = omega arith in rw (n, after) refl

  size : total_size (take (a.0 + 1) (units bytes)) ≡ next
  size = let e = size-cut (units bytes) a.0 (a.0 + 1) (omega arith) in let o = ap total_size one in omega (arith, e, o, a.2, is)

  pub next_end : IsUnitEnd bytes next
  next_end = (a.0 + 1, inside, sym size)

  pub none_between : (p : ℕ) → IsUnitEnd bytes p → at < p → p < next → ⊥
  none_between p w h k = elim (cases_lt a.0 w.0) [
    | inl m ↦ (let e = size-cut (units bytes) (a.0 + 1) w.0 (omega (arith, m)) in omega (arith, e, size, w.2, k))
    | inr m ↦ (let e = size-cut (units bytes) w.0 a.0 m in omega (arith, e, a.2, w.2, h))
  ]

pub start_end : (bytes : List ℕ) → IsUnitEnd bytes 0
start_end bytes = (0, omega arith, refl)

-- What is known after one more unit.
pub step_end : (bytes places : List ℕ) (at next : ℕ) (c : Class) (rest : List Class) → ArePlacesBefore at Bytes bytes places → IsUnitEnd bytes at →
    units (drop at bytes) ≡ c ∷ rest → next ≡ at + class_size c → at < next →
    ArePlacesBefore next Bytes bytes (places ++ at ∷ []) × IsUnitEnd bytes next
step_end bytes places at next c rest old here is size later =
    (one_place Bytes bytes at next places old here later (none_between bytes at next here c rest is size), next_end bytes at next here c rest is size)

-- The last place is the end.
pub last_end : (c : Content) (bytes places : List ℕ) (at : ℕ) → at ≡ length bytes → ArePlacesBefore at c bytes places → IsCutPlace c bytes at →
    ArePlacesBefore (length bytes + 1) c bytes (places ++ at ∷ [])
last_end c bytes places at is old here = one_place c bytes at (length bytes + 1) places old here (omega (arith, is)) (λ p w h k. omega (arith, is, h, k))
