-- The greatest level at which the data fit the version of the best symbol at the level asked for.
use Rattle.qrcode_core.proofs.Prelude.{◌≡◌, ℕ, ℤ, zero, suc, pos, ◌+◌, ◌-◌, ◌*◌, ◌<◌, ◌≤◌, refl, sym, ap, ◌∙◌, subst, arith, inl, inr, Bool, true, List, length}
use Rattle.qrcode_core.proofs.Prelude.{get_or, nat_abs, Option, Some, EcLevel, Version, Normal, Color, BlockLayout, data_bytes, capacity, normal, width_of}
use Rattle.qrcode_core.proofs.Prelude.{Front}
use Rattle.qrcode_core.proofs.Prelude.{front_bits, parsed_bytes, same_Some, IsBest, Reading, DrawnSymbol, TellsReading}
use Rattle.std.proofs.Common.{leb, false, not}
use Rattle.std.proofs.lemmas.Bool.{cases_lt, leb-true}
use Rattle.std.proofs.lemmas.Option.{slice_get-get_or}
use Rattle.std.specs.Prelude.{option_map, IfSome, IfNone, None}
use Rattle.qrcode_base.specs.declared.types.EcLevel.TheVariants.{L, M, Q, H}
use Rattle.qrcode_base.specs.Symbols.{column_of_level, normal_blocks, IsNormalNumber}
use Rattle.qrcode_base.proofs.{Alphabet.each_below, Alphabet.from_each_below, Fields.capacity-held}
use Rattle.qrcode_bits.specs.declared.optimize.Segment.{Segment}
use Rattle.qrcode_bits.specs.Plans.{Fits, FitsNot, normal_from}
use Rattle.qrcode_bits.proofs.{Classes.all_blocks, FramePlans.up_to_last}
use Rattle.qrcode_core.specs.Options.{IsBestInRange, IsStrongest, IsStronger, NoneStronger, IsStrongestOrBest, IsAsAsked, IsOptionsRefusal}
use Rattle.qrcode_core.specs.Options.{IsElementsOptionsRefusal}
use Rattle.qrcode_core.specs.declared.options.SymbolOptions.{SymbolOptions}
use Rattle.qrcode_core.proofs.Prelude.{rules, to_z-of_z, Micro, QrError, InvalidResourceLimits}
use Rattle.std.proofs.lemmas.Int.{ints}
use mir.Val.{to_z, of_z}
use mir.Syntax.{w16}
use Rattle.qrcode_base.specs.declared.types.errors.QrError.TheVariants.{InvalidCharacter}
use Rattle.qrcode_bits.specs.{Contents.AreElements, Push.IsVersionRange, Plans.FitsNone}

-- ---- A greater level holds no more

no_blocks : BlockLayout
no_blocks = record { correction = 0; first_size = 0; first_count = 0; second_size = 0; second_count = 0 }

-- the data codewords of the versions
abbrev words : EcLevel → ℕ → ℕ
words l i = data_bytes (get_or (normal_blocks l) i no_blocks)

abbrev is_less : EcLevel → EcLevel → ℕ → Bool
is_less a b i = leb (words b i) (words a i)

all_less : (a b : EcLevel) → column_of_level a ≤ column_of_level b → each_below 40 (is_less a b) ≡ true
unfolding each_below no_blocks
all_less L L h = refl
all_less L M h = refl
all_less L Q h = refl
all_less L H h = refl
all_less M L h = absurd (omega arith)
all_less M M h = refl
all_less M Q h = refl
all_less M H h = refl
all_less Q L h = absurd (omega arith)
all_less Q M h = absurd (omega arith)
all_less Q Q h = refl
all_less Q H h = refl
all_less H L h = absurd (omega arith)
all_less H M h = absurd (omega arith)
all_less H Q h = absurd (omega arith)
all_less H H h = refl

capacity-words : (l : EcLevel) (i : ℕ) → i < 40 → capacity (normal (suc i)) l ≡ Some (8 * words l i - 0)
capacity-words l i inside =
    ap (λ (o : Option BlockLayout). option_map (λ b. 8 * data_bytes b - 0) o)
    (slice_get-get_or (normal_blocks l) i no_blocks (omega (arith, inside, all_blocks l)))

pub capacity-falls : (a b : EcLevel) (n d : ℕ) → column_of_level a ≤ column_of_level b → capacity (normal n) b ≡ Some d →
    (c : ℕ) × (capacity (normal n) a ≡ Some c) × (d ≤ c)
capacity-falls a b zero d h known = let some = (capacity-held b zero d known).0 in absurd (omega (arith, some))
capacity-falls a b (suc i) d h known =
    let inside : i < 40 = omega (arith, up_to_last b (suc i) d known) in
    let same = same_Some d (8 * words b i - 0) (sym known ∙ capacity-words b i inside) in
    let less = leb-true _ _ (from_each_below 40 (is_less a b) (all_less a b h) i inside) in
    (8 * words a i - 0, capacity-words a i inside, omega (arith, same, less))

-- what fits at a greater level fits at a lower one
fits_lower : (a b : EcLevel) (front n : ℕ) (s : List ℕ) (plan : List Segment) → column_of_level a ≤ column_of_level b → Fits front s (normal n) b plan →
    Fits front s (normal n) a plan
fits_lower a b front n s plan h f =
    let c = capacity-falls a b n f.limit h f.has_level in
    record { planned = f.planned; limit = c.0; has_level = c.1; has_modes = f.has_modes; within = omega (arith, f.within, c.2) }

-- H is the greatest level
column-most : (l : EcLevel) → column_of_level l ≤ column_of_level H
column-most l = grind arith

-- ---- Sizes

-- the number of modules of a version
abbrev size_of : ℕ → ℕ
size_of n = (17 + 4 * n) * (17 + 4 * n)

width-normal : (n : ℕ) → width_of (normal n) ≡ 17 + 4 * n
width-normal n = grind arith

module _ (front : Front) (bytes : List ℕ) (least : ℕ) where
  best-size : (level : EcLevel) (grid : List Color) (best : IsBest (normal_from least) front bytes level grid) → length grid ≡ size_of (least + best.number)
  best-size level grid best =
      let version : best.reading.version ≡ normal (least + best.number) = ap (λ (r : Reading). r.version) best.says in
      let square = best.reads.carries.is_square in
      rw (version, width-normal (least + best.number)) at square

  larger : (n m : ℕ) → n < m → size_of n < size_of m
  larger n m h = grind arith

  -- where no version up to a number fits, each best symbol is larger
  none-larger : (level : EcLevel) (number : ℕ) (grid other : List Color) → length grid ≡ size_of (least + number) →
      ((n : ℕ) → n ≤ number → FitsNot (length (front_bits front)) (parsed_bytes front.content bytes) (normal_from least n) level) →
      IsBest (normal_from least) front bytes level other → length grid < length other
  none-larger level number grid other size none best = elim (cases_lt number best.number) [
    | inl above ↦ (let more = larger (least + number) (least + best.number) (omega (arith, above)) in
        omega (arith, size, more, best-size level other best))
    | inr within ↦ absurd (none best.number within best.plan best.fits)
  ]

  module _ (asked : EcLevel) (limit : ℕ) (usual : List Color) (best : IsBestInRange front bytes asked least limit usual) where
    abbrev number : ℕ
    number = least + best.best.number

    -- the number above the least
    above_least : number - least ≡ best.best.number
    above_least = omega arith

    -- Where no greater level fits, the symbol at the level asked for is the strongest.
    pub usual_is_strongest : NoneStronger front bytes asked H least number → IsStrongest front bytes asked least limit usual
    usual_is_strongest none = record {
      level = asked;
      usual = usual;
      at_least = omega arith;
      best = best;
      best_usual = best;
      same_size = refl;
      greatest = λ beyond more other found. none-larger beyond best.best.number usual other (best-size asked usual best.best)
          (subst (λ (k : ℕ). (n : ℕ) → n ≤ k → FitsNot (length (front_bits front)) (parsed_bytes front.content bytes) (normal_from least n) beyond) above_least
          (none beyond more (column-most beyond))) found;
    }

    -- Otherwise the symbol at the greatest level that fits is.
    pub found_is_strongest : (symbol : DrawnSymbol) → number ≤ limit → IsStronger front bytes asked H least number symbol →
        IsStrongest front bytes asked least limit symbol.modules
    found_is_strongest symbol within s =
        let up : s.best.best.number ≤ best.best.number = omega (arith, s.best.up_to, above_least) in
        let down : best.best.number ≤ s.best.best.number = elim (cases_lt s.best.best.number best.best.number) [
          | inl below ↦ absurd (best.best.smallest s.best.best.number below s.best.best.plan
              (fits_lower asked s.level (length (front_bits front)) (least + s.best.best.number) (parsed_bytes front.content bytes) s.best.best.plan
              (omega (arith, s.above)) s.best.best.fits))
          | inr past ↦ past
        ] in
        let same : s.best.best.number ≡ best.best.number = omega (arith, up, down) in
        record {
          level = s.level;
          usual = usual;
          at_least = omega (arith, s.above);
          best = record { best = s.best.best; up_to = omega (arith, same, best.up_to) };
          best_usual = best;
          same_size = best-size s.level symbol.modules s.best.best ∙ (ap (λ (n : ℕ). size_of (least + n)) same ∙ sym (best-size asked usual best.best));
          greatest = λ beyond more other found. none-larger beyond s.best.best.number symbol.modules other (best-size s.level symbol.modules s.best.best)
              (subst (λ (k : ℕ). (n : ℕ) → n ≤ k → FitsNot (length (front_bits front)) (parsed_bytes front.content bytes) (normal_from least n) beyond)
              (above_least ∙ sym same) (s.others beyond more (column-most beyond))) found;
        }

-- ---- The search for the greatest level

level-column : (a b : EcLevel) → column_of_level a ≡ column_of_level b → a ≡ b
level-column a b h = grind arith

module _ (front : Front) (bytes : List ℕ) (asked level : EcLevel) (least number : ℕ) where
  pub found_here : (symbol : DrawnSymbol) → column_of_level asked < column_of_level level → IsBestInRange front bytes level least number symbol.modules →
      TellsReading symbol → IsStronger front bytes asked level least number symbol
  found_here symbol above best tells = record {
    level = level;
    above = above;
    best = best;
    reading = tells;
    others = λ beyond more most. absurd (omega (arith, more, most));
  }

  -- no level up to the next lower one fits, nor does this one
  pub none_below : (next : EcLevel) → column_of_level next + 1 ≡ column_of_level level →
      FitsNone (normal_from least) (length (front_bits front)) (parsed_bytes front.content bytes) level (number - least) → (floor : EcLevel) →
      NoneStronger front bytes floor next least number → NoneStronger front bytes floor level least number
  none_below next below unfit floor none beyond more most = elim (cases_lt (column_of_level next) (column_of_level beyond)) [
    | inl past ↦ (let same = level-column level beyond (omega (arith, past, most, below)) in
        subst (λ (l : EcLevel). FitsNone (normal_from least) (length (front_bits front)) (parsed_bytes front.content bytes) l (number - least)) same unfit)
    | inr within ↦ none beyond more within
  ]

  pub found_below : (next : EcLevel) (symbol : DrawnSymbol) → column_of_level next + 1 ≡ column_of_level level →
      FitsNone (normal_from least) (length (front_bits front)) (parsed_bytes front.content bytes) level (number - least) →
      IsStronger front bytes asked next least number symbol → IsStronger front bytes asked level least number symbol
  found_below next symbol below unfit s = record {
    level = s.level;
    above = s.above;
    best = s.best;
    reading = s.reading;
    others = none_below next below unfit s.level s.others;
  }

-- ---- The symbol at the level asked for

-- its version
pub usual_version : (front : Front) (bytes : List ℕ) (level : EcLevel) (least limit : ℕ) (symbol : DrawnSymbol)
    (b : IsBestInRange front bytes level least limit symbol.modules) → TellsReading symbol → symbol.version ≡ normal (least + b.best.number)
usual_version front bytes level least limit symbol b tells =
    (tells b.best.reading b.best.reads).0 ∙ ap (λ (r : Reading). r.version) b.best.says

pub number_is : (z : ℤ) (n : ℕ) → ◌≡◌ {A = Version} (Normal z) (normal n) → z ≡ pos n
number_is z n h = cc

pub not_micro : (z : ℤ) (n : ℕ) → ◌≡◌ {A = Version} (Micro z) (normal n) → ⊥
not_micro z n h = cc

pub small_number : (z : ℤ) (n : ℕ) → z ≡ pos n → n ≤ 40 → to_z w16 (of_z w16 z) ≡ z
small_number z n e few = search (arith, rules, ints, to_z-of_z)

pub in_range : (y x z : ℤ) (n : ℕ) → IsVersionRange y x → z ≡ pos (nat_abs y + n) → n ≤ nat_abs x - nat_abs y →
    IsVersionRange y z × (nat_abs z ≡ nat_abs y + n) × (nat_abs y + n ≤ 40)
in_range y x z n range e few = grind arith

pub within_limit : (y x : ℤ) (n : ℕ) → IsVersionRange y x → n ≤ nat_abs x - nat_abs y → nat_abs y + n ≤ nat_abs x
within_limit y x n range few = omega (arith, range.2, few)

is_true : (b : Bool) → not b ≡ false → b ≡ true
is_true true e = refl
is_true false e = sym e

is_false : (b : Bool) → not b ≡ true → b ≡ false
is_false true e = sym e
is_false false e = refl

pub best_asked : (options : SymbolOptions) (front : Front) (bytes : List ℕ) (grid : List Color) → not options.strongest ≡ true →
    IsBestInRange front bytes options.level (nat_abs options.min_version) (nat_abs options.max_version) grid → IsAsAsked options front bytes grid
best_asked options front bytes grid e s =
    subst (λ (b : Bool). IsStrongestOrBest b front bytes options.level (nat_abs options.min_version) (nat_abs options.max_version) grid)
    (sym (is_false options.strongest e)) s

pub strongest_asked : (options : SymbolOptions) (front : Front) (bytes : List ℕ) (grid : List Color) → not options.strongest ≡ false →
    IsStrongest front bytes options.level (nat_abs options.min_version) (nat_abs options.max_version) grid → IsAsAsked options front bytes grid
strongest_asked options front bytes grid e s =
    subst (λ (b : Bool). IsStrongestOrBest b front bytes options.level (nat_abs options.min_version) (nat_abs options.max_version) grid)
    (sym (is_true options.strongest e)) s

pub elements_options : (options : SymbolOptions) (front : Front) (elements : List ℕ) (e : QrError) → AreElements elements →
    IsOptionsRefusal options front elements e → IsElementsOptionsRefusal options front elements e
elements_options options front elements InvalidResourceLimits are r = r
elements_options options front elements (InvalidCharacter place byte) are r = absurd r.1
elements_options options front elements e are r = (are, r)

pub short_number : (z : ℤ) → IsNormalNumber z → to_z w16 (of_z w16 z) ≡ z
short_number z h = search (arith, rules, ints, to_z-of_z)

pub some_weaker : {T : Type 0} (o : Option T) (P R : T → Type 0) → ((x : T) → P x → R x) → IfSome o P → IfSome o R
some_weaker None P R each h = tt
some_weaker (Some x) P R each h = each x h

pub none_weaker : {T : Type 0} (o : Option T) (P R : Type 0) → (P → R) → IfNone o P → IfNone o R
none_weaker None P R each h = each h
none_weaker (Some x) P R each h = tt
