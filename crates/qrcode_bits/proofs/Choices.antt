-- The choice of the version: a chosen plan fits if some plan does, and the first class of versions
-- whose chosen plan fits decides.
use Rattle.qrcode_bits.proofs.Prelude.{◌≡◌, ℕ, zero, suc, ◌+◌, ◌^◌, ◌<◌, ◌≤◌, List, [], ◌∷◌, ◌++◌, Some, length, sym, subst, ◌∙◌, arith, inl, inr, rules, All}
use Rattle.qrcode_bits.proofs.Prelude.{Option, flat_map, cases_lt, cases_eq, All-head, All-tail, All-nil, All-cons, All-append, Version, EcLevel, Mode}
use Rattle.qrcode_bits.proofs.Prelude.{IsWithin, HasMode, slice_get_past, capacity, Segment, parsed, merged, total_bits, IsChosenPlan, merged_all, IsMergePlan}
use Rattle.qrcode_bits.proofs.Prelude.{Fits, FitsNot, IsLeastBits, normal, micro, FitsNone, IsChoice, IsClass, common_steps, ◌-◌, ap, ◌*◌, normal_blocks}
use Rattle.qrcode_bits.proofs.Prelude.{slice_get-get_or, normal_from}
use Rattle.qrcode_base.{specs.Symbols.data_bytes, specs.declared.symbols.BlockLayout.BlockLayout, proofs.Joins.join-upper, proofs.Joins.join-upper_second}
use Rattle.qrcode_base.{proofs.Fields.SameClass, proofs.Fields.capacity-rises}
use Rattle.std.specs.Prelude.{option_map}
use Rattle.qrcode_bits.proofs.Growth.{total_bits-rise, total_bits-same, total_bits-double, chosen-same}
use Rattle.qrcode_bits.proofs.CuttingPlans.{AreNonEmpty, joined, IsSome, chosen-planned, chosen-least}

-- ---- Modes of a version

-- a version with the Byte mode has at least two bits in a mode indicator
wide_enough : (p : ℕ) → 2 < 2 ^ p → 3 < 2 ^ p
wide_enough zero h = grind arith
wide_enough (suc p) h = omega arith

-- a version that has a mode has those that are less
pub has_within : {m k : Mode} (v : Version) → IsWithin m k → HasMode v k → HasMode v m
has_within v w h = grind (arith, wide_enough)

pub All-front : {X : Type 0} (P : X → Type 0) (xs ys : List X) → All P (xs ++ ys) → All P xs
All-front P xs ys h = λ k d b. grind (arith, common_steps, h k d)

pub All-back : {X : Type 0} (P : X → Type 0) (xs ys : List X) → All P (xs ++ ys) → All P ys
All-back P xs ys h = λ k d b. grind (arith, common_steps, h (length xs + k) d)

module _ (v : Version) where
  abbrev Had : Segment → Type 0
  Had part = HasMode v part.mode

  merged-had : (s : Segment) (ss : List Segment) → All Had (s ∷ ss) → HasMode v (merged s ss).mode
  merged-had s [] h = All-head Had s [] h
  merged-had s (t ∷ ts) h = grind (arith, All-head, All-tail, merged-had t ts (All-tail Had s (t ∷ ts) h))

  had-merged : (s : Segment) (ss : List Segment) → HasMode v (merged s ss).mode → All Had (s ∷ ss)
  had-merged s [] h = All-cons Had s [] h (All-nil Had)
  had-merged s (t ∷ ts) h =
      grind (arith, All-cons, join-upper, join-upper_second, wide_enough, had-merged t ts (has_within v (join-upper_second s.mode (merged t ts).mode) h))

  -- A version has the modes of a plan if and only if it has those of the segments.
  pub pieces-had : (pieces : List (List Segment)) → AreNonEmpty pieces → All Had (joined pieces) → All Had (flat_map merged_all pieces)
  pieces-had [] some h = h
  pieces-had ([] ∷ ps) some h = absurd (omega (arith, All-head IsSome [] ps some))
  pieces-had ((s ∷ ss) ∷ ps) some h =
      let back = pieces-had ps (All-tail IsSome (s ∷ ss) ps some) (All-back Had (s ∷ ss) (joined ps) h) in
      search (arith, rules, All-append, All-cons, All-front, merged-had)

  pub had-pieces : (pieces : List (List Segment)) → AreNonEmpty pieces → All Had (flat_map merged_all pieces) → All Had (joined pieces)
  had-pieces [] some h = h
  had-pieces ([] ∷ ps) some h = absurd (omega (arith, All-head IsSome [] ps some))
  had-pieces ((s ∷ ss) ∷ ps) some h =
      let back = had-pieces ps (All-tail IsSome (s ∷ ss) ps some) (All-tail Had (merged s ss) (flat_map merged_all ps) h) in
      search (arith, rules, All-append, had-merged, All-head)

  -- All plans of some segments have their modes in a version, or none has.
  plans-had : (segments plan other : List Segment) → IsMergePlan segments plan → IsMergePlan segments other → All Had other → All Had plan
  plans-had segments plan other p q h =
      let theirs = had-pieces q.pieces q.nonempty (subst (λ (s : List Segment). All Had s) q.merges h) in
      let same : joined q.pieces ≡ joined p.pieces = q.whole ∙ sym p.whole in
      let mine = pieces-had p.pieces p.nonempty (subst (λ (s : List Segment). All Had s) same theirs) in
      subst (λ (s : List Segment). All Had s) (sym p.merges) mine

-- ---- Chosen plans

pub chosen_least : (front : ℕ) (message : List ℕ) (v : Version) (plan : List Segment) → IsChosenPlan (parsed message) v plan →
    IsLeastBits front message v (front + total_bits v plan)
chosen_least front message v plan h = grind (arith, chosen-planned (parsed message) v plan h, chosen-least (parsed message) v plan)

-- If some plan fits, the chosen plan fits.
pub chosen_fits : (front : ℕ) (v : Version) (l : EcLevel) (message : List ℕ) (plan other : List Segment) → IsChosenPlan (parsed message) v plan →
    Fits front message v l other → Fits front message v l plan
chosen_fits front v l message plan other h fits =
    grind (
      arith,
      chosen-least (parsed message) v plan other h fits.planned,
      chosen-planned (parsed message) v plan h,
      plans-had v (parsed message) plan other (chosen-planned (parsed message) v plan h) fits.planned fits.has_modes,
    )

-- If the chosen plan does not fit, no plan fits.
pub chosen_decides : (front : ℕ) (v : Version) (l : EcLevel) (message : List ℕ) (plan : List Segment) → IsChosenPlan (parsed message) v plan →
    (Fits front message v l plan → ⊥) → FitsNot front message v l
chosen_decides front v l message plan h unfit other w = unfit (chosen_fits front v l message plan other h w)

-- ---- Capacities

pub some_same : (a b : ℕ) (o : Option ℕ) → o ≡ Some a → o ≡ Some b → a ≡ b
some_same a b o h k = let e : ◌≡◌ {A = Option ℕ} (Some a) (Some b) = sym h ∙ k in cc

-- a later version holds no less
pub capacity-grows : (l : EcLevel) (n m c d : ℕ) → n ≤ m → capacity (normal n) l ≡ Some c → capacity (normal m) l ≡ Some d → c ≤ d
capacity-grows l n m c d h p q = grind (arith, capacity-rises)

-- ---- Classes of versions

same_class : (n m : ℕ) → SameClass n m → SameClass m n
same_class n m q2 = grind arith

chosen_same : (segments plan : List Segment) (n m : ℕ) → 1 ≤ n → 1 ≤ m → SameClass n m → IsChosenPlan segments (normal n) plan →
    IsChosenPlan segments (normal m) plan
chosen_same segments plan n m h k class w = search (arith, rules, chosen-same)

-- a Normal version that holds the bits of a plan fits it
pub fits_normal : (front n c : ℕ) (message : List ℕ) (l : EcLevel) (plan : List Segment) → IsMergePlan (parsed message) plan → capacity (normal n) l ≡ Some c →
    front + total_bits (normal n) plan ≤ c → Fits front message (normal n) l plan
fits_normal front n c message l plan h known few = grind arith

-- No plan fits a version from a least one up to another.
abbrev pub FitsNoneFrom : ℕ → ℕ → List ℕ → EcLevel → ℕ → Type 0
FitsNoneFrom least front message l before = (n : ℕ) → least ≤ n → n ≤ before → FitsNot front message (normal n) l

module _ (front : ℕ) (message : List ℕ) (l : EcLevel) (least before last : ℕ) (plan : List Segment) (first : least ≤ before + 1)
    (class : IsClass before last) (too_long : FitsNoneFrom least front message l before) (chosen : IsChosenPlan (parsed message) (normal last) plan) where
  -- a plan that fits a version of the class has at least the bits of the chosen plan of the
  -- last one
  least_in : (n : ℕ) → before < n → n ≤ last → (other : List Segment) → (w : Fits front message (normal n) l other) →
      front + total_bits (normal last) plan ≤ w.limit
  least_in n h k other w = grind (arith, chosen-least (parsed message) (normal last) plan other chosen w.planned, total_bits-same)

  -- The first version of the class that holds its bits is the choice.
  pub class_choice : (limit number d : ℕ) → last ≤ limit → before < number → number ≤ last → 1 ≤ number → capacity (normal number) l ≡ Some d →
      front + total_bits (normal last) plan ≤ d →
      ((n e : ℕ) → before < n → n < number → capacity (normal n) l ≡ Some e → e < front + total_bits (normal last) plan) →
      IsChoice (normal_from least) front message l (limit - least) (number - least) plan
  class_choice limit number d h late early some known held others =
      let planned = chosen-planned (parsed message) (normal last) plan chosen in
      let rise = total_bits-rise number last some early plan in
      let here = chosen_same (parsed message) plan last number (omega arith) some (same_class number last (class number late early)) chosen in
      let same : least + (number - least) ≡ number = omega arith in
      record {
        up_to = omega arith;
        chosen = subst (λ (n : ℕ). IsChosenPlan (parsed message) (normal n) plan) (sym same) here;
        fits = subst (λ (n : ℕ). Fits front message (normal n) l plan) (sym same) (fits_normal front number d message l plan planned known (omega arith));
        smallest = λ n k other q. elim (cases_lt before (least + n)) [
          | inl o ↦ (let few = least_in (least + n) o (omega arith) other q in
              let none = others (least + n) q.limit o (omega arith) q.has_level in absurd (omega arith))
          | inr o ↦ too_long (least + n) (omega arith) o other q
        ];
        fewest = subst (λ (n : ℕ). IsLeastBits front message (normal n) (front + total_bits (normal n) plan)) (sym same)
            (chosen_least front message (normal number) plan here);
      }

-- ---- Version 40

no_blocks : BlockLayout
no_blocks = record { correction = 0; first_size = 0; first_count = 0; second_size = 0; second_count = 0 }

pub all_blocks : (l : EcLevel) → length (normal_blocks l) ≡ 40
all_blocks l = grind arith

pub capacity-at : (l : EcLevel) (n : ℕ) → 1 ≤ n → n ≤ 40 → (c : ℕ) × (capacity (normal n) l ≡ Some c)
capacity-at l zero some h = absurd (omega arith)
capacity-at l (suc n) some h =
    let row = slice_get-get_or (normal_blocks l) n no_blocks (omega (arith, all_blocks l)) in
    (_, ap (λ (o : Option BlockLayout). option_map (λ b. 8 * data_bytes b - 0) o) row)

-- What fits some version fits version 40: from version 27 on the number of bits stays the same; up
-- to 26 it at most doubles, together with the bits in front.
pub fits_last : (front n : ℕ) (message : List ℕ) (l : EcLevel) (plan : List Segment) → n ≤ 40 → Fits front message (normal n) l plan →
    Fits front message (normal 40) l plan
fits_last front n message l plan h w =
    grind (arith, capacity-at l 40, total_bits-double n 40, capacity-grows l n 26 w.limit, capacity-grows l n 40 w.limit, total_bits-same n 40)

-- ---- The least version that holds a number of bits

-- no version before a number holds that many bits
abbrev pub HoldsLess : ℕ → EcLevel → ℕ → Type 0
HoldsLess size l number = (n c : ℕ) → n < number → capacity (normal n) l ≡ Some c → c < size

-- ---- Micro versions, one after the other

pub micro_next : (message : List ℕ) (l : EcLevel) (number : ℕ) → FitsNone micro 0 message l number → FitsNot 0 message (micro (number + 1)) l →
    FitsNone micro 0 message l (number + 1)
micro_next message l number w unfit n h = elim (cases_eq n (number + 1)) [ inl e ↦ rw e unfit | inr ne ↦ w n (omega arith) ]

pub micro_choice : (message : List ℕ) (l : EcLevel) (number : ℕ) (plan : List Segment) → number < 4 → FitsNone micro 0 message l number →
    IsChosenPlan (parsed message) (micro (number + 1)) plan → Fits 0 message (micro (number + 1)) l plan → IsChoice micro 0 message l 4 (number + 1) plan
micro_choice message l number plan h none chosen fits = record {
  up_to = omega arith;
  chosen = chosen;
  fits = fits;
  smallest = λ n k. none n (omega arith);
  fewest = chosen_least 0 message (micro (number + 1)) plan chosen;
}

-- ---- No version holds that many bits

pub none_holds : (size : ℕ) (l : EcLevel) (number : ℕ) → 41 ≤ number → HoldsLess size l number → (other c : ℕ) → capacity (normal other) l ≡ Some c → c < size
none_holds size l number h w other c known = grind (arith, slice_get_past)
