-- The greatest level at which a version holds the bits of pieces: a greater level holds no more.
use Rattle.std.proofs.Common.{◌≡◌, ℕ, ◌+◌, ◌<◌, ◌≤◌, List, inl, inr, refl, subst, arith}
use Rattle.std.proofs.lemmas.Bool.{cases_lt}
use Rattle.qrcode_base.specs.Symbols.{column_of_level}
use Rattle.qrcode_base.specs.declared.types.EcLevel.{EcLevel}
use Rattle.qrcode_base.specs.declared.types.EcLevel.TheVariants.{L, M, Q, H}
use Rattle.qrcode_bits.specs.Plans.{normal}
use Rattle.qrcode_bits.specs.Spelling.{Piece}
use Rattle.qrcode_core.proofs.Strongest.{capacity-falls}
use Rattle.smallest_symbols.specs.Holding.{HoldsBits, IsGreatestLevel}
use Rattle.smallest_symbols.specs.ByteChoices.{IsByteChoice, NoPiecesFitBefore}
use Rattle.smallest_symbols.specs.BytePieces.{PiecesFit, bits_of_pieces}

-- what fits at a greater level fits at a lower one
fits_lower : (a b : EcLevel) (n : ℕ) (bytes : List ℕ) (pieces : List Piece) → column_of_level a ≤ column_of_level b → PiecesFit (normal n) b bytes pieces →
    PiecesFit (normal n) a bytes pieces
fits_lower a b n bytes pieces h w =
    let c = capacity-falls a b n w.limit h w.has_level in
    record { pieces_are = w.pieces_are; limit = c.0; has_level = c.1; within = omega (arith, w.within, c.2) }

lowest : (a : EcLevel) → column_of_level a ≤ column_of_level L → a ≡ L
lowest L h = refl
lowest M h = absurd (omega arith)
lowest Q h = absurd (omega arith)
lowest H h = absurd (omega arith)

module _ (least : ℕ) (bytes : List ℕ) (asked : EcLevel) (limit number bits : ℕ) (pieces : List Piece)
    (choice : IsByteChoice least bytes asked limit number pieces) (is : bits ≡ bits_of_pieces (normal number) pieces) where
  here : HoldsBits bits number asked
  here = (choice.fits.limit, choice.fits.has_level, omega (arith, is, choice.fits.within))

  pub at_least : (level : EcLevel) → IsGreatestLevel bits number level → column_of_level asked ≤ column_of_level level
  at_least level g = elim (cases_lt (column_of_level level) (column_of_level asked)) [
    | inl below ↦ absurd (g.greatest asked below here)
    | inr past ↦ past
  ]

  held : (level : EcLevel) → IsGreatestLevel bits number level → HoldsBits bits number level
  held L g = subst (HoldsBits bits number) (lowest asked (at_least L g)) here
  held M g = g.holds (λ e. cc)
  held Q g = g.holds (λ e. cc)
  held H g = g.holds (λ e. cc)

  -- The choice at the greatest level that holds the bits is the same,
  pub stronger_choice : (level : EcLevel) → IsGreatestLevel bits number level → IsByteChoice least bytes level limit number pieces
  stronger_choice level g =
      let up = at_least level g in
      let h = held level g in
      record {
        from = choice.from;
        up_to = choice.up_to;
        fits = record { pieces_are = choice.fits.pieces_are; limit = h.0; has_level = h.1; within = omega (arith, is, h.2) };
        fewest = choice.fewest;
        smallest = λ n from below others w. choice.smallest n from below others (fits_lower asked level n bytes others up w);
      }

  -- and at every greater level nothing fits its version, nor a smaller one.
  pub none_beyond : (level beyond : EcLevel) → IsGreatestLevel bits number level → column_of_level level < column_of_level beyond →
      NoPiecesFitBefore least bytes beyond (number + 1)
  none_beyond level beyond g more n from below others w = elim (cases_lt n number) [
    | inl early ↦ choice.smallest n from early others (fits_lower asked beyond n bytes others (omega (arith, at_least level g, more)) w)
    | inr late ↦ (let same : n ≡ number = omega (arith, late, below) in
        let v = subst (λ (k : ℕ). PiecesFit (normal k) beyond bytes others) same w in
        let few = choice.fewest others v.pieces_are in
        g.greatest beyond more (v.limit, v.has_level, omega (arith, few, is, v.within)))
  ]
