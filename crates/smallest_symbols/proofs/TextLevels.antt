-- The greatest level at which a version holds the least parts of a text: a greater level holds
-- no more.
use Rattle.std.proofs.Common.{◌≡◌, ℕ, ◌+◌, ◌<◌, ◌≤◌, List, inl, inr, refl, subst, arith}
use Rattle.std.proofs.lemmas.Bool.{cases_lt}
use Rattle.qrcode_base.specs.Symbols.{column_of_level}
use Rattle.qrcode_base.specs.declared.types.EcLevel.{EcLevel}
use Rattle.qrcode_base.specs.declared.types.EcLevel.TheVariants.{L, M, Q, H}
use Rattle.qrcode_bits.specs.Plans.{normal}
use Rattle.qrcode_core.proofs.Strongest.{capacity-falls}
use Rattle.character_sets.specs.Reading.{Part}
use Rattle.text_plans.specs.Costs.{bits_of_parts}
use Rattle.smallest_symbols.specs.Holding.{HoldsBits, IsGreatestLevel}
use Rattle.smallest_symbols.specs.TextChoices.{IsTextChoice, NoneFitBefore}
use Rattle.smallest_symbols.specs.TextFrames.{PartsFit}

-- what fits at a greater level fits at a lower one
pub fits_lower : (a b : EcLevel) (n : ℕ) (text : List ℕ) (parts : List Part) → column_of_level a ≤ column_of_level b → PartsFit (normal n) b text parts →
    PartsFit (normal n) a text parts
fits_lower a b n text parts h w =
    let c = capacity-falls a b n w.limit h w.has_level in
    record { written = w.written; limit = c.0; has_level = c.1; within = omega (arith, w.within, c.2) }

lowest : (a : EcLevel) → column_of_level a ≤ column_of_level L → a ≡ L
lowest L h = refl
lowest M h = absurd (omega arith)
lowest Q h = absurd (omega arith)
lowest H h = absurd (omega arith)

module _ (least : ℕ) (text : List ℕ) (asked : EcLevel) (limit number bits : ℕ) (parts : List Part) (choice : IsTextChoice least text asked limit number parts)
    (is : bits ≡ bits_of_parts (normal number) parts) where
  here : HoldsBits bits number asked
  here = (choice.fits.limit, choice.fits.has_level, omega (arith, is, choice.fits.within))

  pub at_least : (level : EcLevel) → IsGreatestLevel bits number level → column_of_level asked ≤ column_of_level level
  at_least level g = elim (cases_lt (column_of_level level) (column_of_level asked)) [
    | inl below ↦ absurd (g.greatest asked below here)
    | inr past ↦ past
  ]

  held : (level : EcLevel) → IsGreatestLevel bits number level → HoldsBits bits number level
  held L g = subst (HoldsBits bits number) (lowest asked (at_least L g)) here
  held M g = g.holds (λ e. cc)
  held Q g = g.holds (λ e. cc)
  held H g = g.holds (λ e. cc)

  -- The choice at the greatest level that holds the bits is the same,
  pub stronger_choice : (level : EcLevel) → IsGreatestLevel bits number level → IsTextChoice least text level limit number parts
  stronger_choice level g =
      let up = at_least level g in
      let h = held level g in
      record {
        from = choice.from;
        up_to = choice.up_to;
        are_least = choice.are_least;
        fits = record { written = choice.fits.written; limit = h.0; has_level = h.1; within = omega (arith, is, h.2) };
        smallest = λ n from below others w. choice.smallest n from below others (fits_lower asked level n text others up w);
      }

  -- and at every greater level nothing fits its version, nor a smaller one.
  pub none_beyond : (level beyond : EcLevel) → IsGreatestLevel bits number level → column_of_level level < column_of_level beyond →
      NoneFitBefore least text beyond (number + 1)
  none_beyond level beyond g more n from below others w = elim (cases_lt n number) [
    | inl early ↦ choice.smallest n from early others (fits_lower asked beyond n text others (omega (arith, at_least level g, more)) w)
    | inr late ↦ (let same : n ≡ number = omega (arith, late, below) in
        let v = subst (λ (k : ℕ). PartsFit (normal k) beyond text others) same w in
        let few = choice.are_least.bits others v.written in
        g.greatest beyond more (v.limit, v.has_level, omega (arith, few, is, v.within)))
  ]
