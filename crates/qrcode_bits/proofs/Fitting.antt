-- Whether data fit a version, and what that says of smaller ones.
use Rattle.qrcode_bits.proofs.Prelude.{◌≡◌, ℕ, ◌+◌, ◌*◌, ◌<◌, ◌≤◌, List, Option, Some, None, false, is_some, arith, EcLevel, capacity, FitsNot, FitsNone}
use Rattle.qrcode_bits.proofs.Prelude.{normal, length, take, drop, get_or, max, inl, inr, cases_lt, IsUnitEnd, Bytes}
use Rattle.std.specs.Prelude.{IfNone}
use Rattle.qrcode_bits.specs.Plans.{AreCandidates}
use Rattle.qrcode_bits.proofs.{Choices.fits_normal, Choices.some_same, Choices.FitsNoneFrom, Choices.capacity-grows, Growth.total_bits-double}
use Rattle.qrcode_bits.proofs.{Cutting.least_room, Cutting.place_within, Classes.HasSmallHeaders, Classes.candidates_here, Classes.candidates_end}
use Rattle.qrcode_bits.proofs.{Classes.class_fits_not, Classes.none_from_one}

pub at_none : {T : Type 0} (o : Option T) (P : Type 0) → is_some o ≡ false → IfNone o P → P
at_none None P e h = h
at_none (Some x) P e h = absurd (cc)

-- What fits a version fits one that holds twice the bits.
pub double_fits : (front n m c d : ℕ) (message : List ℕ) (l : EcLevel) → 1 ≤ n → 1 ≤ m → capacity (normal n) l ≡ Some c → capacity (normal m) l ≡ Some d →
    2 * c ≤ d → FitsNot front message (normal m) l → FitsNot front message (normal n) l
double_fits front n m c d message l h k held most twice none plan w =
    let same = some_same w.limit c (capacity (normal n) l) w.has_level held in
    let double = total_bits-double n m h k plan in
    none plan (fits_normal front m d message l plan w.planned most (omega (arith, w.within, double, same, twice)))

-- a version holds more bits than any front has
pub room : (l : EcLevel) (n c : ℕ) → 1 ≤ n → capacity (normal n) l ≡ Some c → 32 ≤ c
room l n c some known = let w = least_room l in let grows = capacity-grows l 1 n w.0 c some w.1 known in omega (arith, w.2, grows)

pub small_headers : (n : ℕ) → HasSmallHeaders (normal n)
small_headers n m = grind arith

-- no units end past the end
pub none_past_end : (bytes : List ℕ) (q : ℕ) → IsUnitEnd bytes q → length bytes + 1 ≤ q → ⊥
none_past_end bytes q a h = let most = place_within Bytes bytes q a in omega (arith, most, h)

-- What is known before a candidate: up to a place units fit some version up to the limit, and from
-- another place on they fit none before the candidate, nor the last one.
pub record IsRange (front : ℕ) (bytes : List ℕ) (l : EcLevel) (limit sure past : ℕ) (left : List ℕ) : Type 0 where
  pub before : ℕ
  pub candidates : AreCandidates before left limit
  pub less : sure < past
  pub fits : (q : ℕ) → IsUnitEnd bytes q → q ≤ sure → FitsNone normal front (take q bytes) l limit → ⊥
  pub last : (q : ℕ) → IsUnitEnd bytes q → past ≤ q → FitsNot front (take q bytes) (normal limit) l
  pub none : (q : ℕ) → IsUnitEnd bytes q → past ≤ q → FitsNoneFrom 1 front (take q bytes) l before

module _ (front : ℕ) (bytes : List ℕ) (l : EcLevel) (limit : ℕ) where
  pub range_start : (sure past : ℕ) (xs : List ℕ) → AreCandidates 0 xs limit → sure < past →
      ((q : ℕ) → IsUnitEnd bytes q → q ≤ sure → FitsNot front (take q bytes) (normal limit) l → ⊥) →
      ((q : ℕ) → IsUnitEnd bytes q → past ≤ q → FitsNot front (take q bytes) (normal limit) l) → IsRange front bytes l limit sure past xs
  range_start sure past xs are less fits unfit = record {
    before = 0;
    candidates = are;
    less = less;
    fits = λ q a h none. fits q a h (none limit (omega arith));
    last = unfit;
    none = λ q a h n from to. absurd (omega (arith, from, to));
  }

  module _ (sure past i : ℕ) (xs : List ℕ) (most : limit ≤ 40) (inside : i < length xs) (known : IsRange front bytes l limit sure past (drop i xs)) where
    abbrev number : ℕ
    number = get_or xs i 0

    abbrev Unfit : ℕ → Type 0
    Unfit q = FitsNot front (take q bytes) (normal number) l

    -- one candidate more, whose units are tried
    pub range_more : (sure_here past_here : ℕ) → sure_here < past_here → ((q : ℕ) → IsUnitEnd bytes q → q ≤ sure_here → Unfit q → ⊥) →
        ((q : ℕ) → IsUnitEnd bytes q → past_here ≤ q → Unfit q) →
        IsRange front bytes l limit (max sure sure_here) (max past past_here) (drop (i + 1) xs)
    range_more sure_here past_here less fits unfit =
        let here = candidates_here known.before limit xs i inside known.candidates in
        record {
          before = number;
          candidates = here.3;
          less = omega (arith, known.less, less);
          fits = λ q a h none. elim (cases_lt sure q) [
            | inl more ↦ fits q a (omega (arith, h, more)) (none number here.2)
            | inr few ↦ known.fits q a few none
          ];
          last = λ q a h. known.last q a (omega (arith, h));
          none = λ q a h. class_fits_not 1 front (take q bytes) l known.before number (omega (arith, here.2, most)) here.0
              (known.none q a (omega (arith, h))) (unfit q a (omega (arith, h)));
        }

    -- or one that holds so few bits that nothing is to be tried
    pub range_same : ((f : ℕ) → (m : List ℕ) → FitsNot f m (normal limit) l → FitsNot f m (normal number) l) →
        IsRange front bytes l limit sure past (drop (i + 1) xs)
    range_same falls =
        let here = candidates_here known.before limit xs i inside known.candidates in
        record {
          before = number;
          candidates = here.3;
          less = known.less;
          fits = known.fits;
          last = known.last;
          none = λ q a h. class_fits_not 1 front (take q bytes) l known.before number (omega (arith, here.2, most)) here.0
              (known.none q a h) (falls front (take q bytes) (known.last q a h));
        }

  pub range_end : (sure past i : ℕ) (xs : List ℕ) → 1 ≤ limit → length xs ≤ i → IsRange front bytes l limit sure past (drop i xs) →
      (q : ℕ) → IsUnitEnd bytes q → past ≤ q → FitsNone normal front (take q bytes) l limit
  range_end sure past i xs some over known q a h =
      let end = candidates_end known.before limit xs i over known.candidates in
      none_from_one front (take q bytes) l limit some (λ n few. known.none q a h (1 + n) (omega arith) (omega (arith, few, end, some)))

-- No units end between the greater ones of two pairs of places, between which none end.
pub close_more : (bytes : List ℕ) (sure past sure_here past_here : ℕ) → ((q : ℕ) → IsUnitEnd bytes q → sure < q → q < past → ⊥) →
    ((q : ℕ) → IsUnitEnd bytes q → sure_here < q → q < past_here → ⊥) →
    (q : ℕ) → IsUnitEnd bytes q → max sure sure_here < q → q < max past past_here → ⊥
close_more bytes sure past sure_here past_here f g q a h k = elim (cases_lt q past) [
  | inl less ↦ f q a (omega (arith, h)) less
  | inr more ↦ g q a (omega (arith, h)) (omega (arith, k, more))
]
