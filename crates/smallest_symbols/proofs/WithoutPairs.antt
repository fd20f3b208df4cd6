-- Where no two neighbouring bytes are a pair, nothing is lost without the Kanji mode.
use Rattle.std.proofs.Common.{◌≡◌, ◌≢◌, ℕ, true, false, List, [], ◌∷◌, ◌++◌, refl, sym, subst, ◌∙◌}
use Rattle.std.proofs.Common.{arith}
use Rattle.std.specs.Prelude.{All}
use Rattle.std.proofs.lemmas.List.Elements.{All-cons, All-head, All-nil, All-tail}
use Rattle.qrcode_base.specs.Characters.{IsKanjiText, IsValid}
use Rattle.qrcode_base.specs.declared.types.Color.{Color}
use Rattle.qrcode_base.specs.declared.types.EcLevel.{EcLevel}
use Rattle.qrcode_base.specs.declared.types.Mode.{Mode}
use Rattle.qrcode_base.specs.declared.types.Mode.TheVariants.{Kanji}
use Rattle.qrcode_base.specs.declared.types.Version.{Version}
use Rattle.qrcode_bits.specs.Frame.{HasNoPair, message, no_front}
use Rattle.qrcode_bits.specs.Spelling.{IsSpellable, Piece}
use Rattle.qrcode_core.specs.Headline.{IsBest, Reading, Reads}
use Rattle.smallest_symbols.specs.ByteHeadline.{IsBestWithoutKanji}
use Rattle.smallest_symbols.specs.BytePieces.{HaveNoKanji}

no_pair_back : (u w : List ℕ) → HasNoPair (u ++ w) → HasNoPair w
no_pair_back [] w h = h
no_pair_back (a ∷ []) [] h = tt
no_pair_back (a ∷ []) (b ∷ w) h = h.1
no_pair_back (a ∷ b ∷ u) w h = no_pair_back (b ∷ u) w h.1

-- a Kanji text begins with a pair
no_kanji_text : (t w : List ℕ) → t ≢ [] → IsKanjiText t → HasNoPair (t ++ w) → ⊥
no_kanji_text [] w some valid h = some refl
no_kanji_text (a ∷ []) w some valid h = absurd valid
no_kanji_text (a ∷ b ∷ t) w some valid h = let e : true ≡ false = sym valid.0 ∙ h.0 in absurd (cc)

-- Pieces of bytes without pairs are not in the Kanji mode.
free_of_kanji : (v : Version) (ps : List Piece) → All (IsSpellable v) ps → All (λ p. p.text ≢ []) ps → HasNoPair (message ps) → HaveNoKanji ps
free_of_kanji v [] spellable some h = All-nil (λ p. p.mode ≢ Kanji)
free_of_kanji v (p ∷ ps) spellable some h =
    let valid = (All-head (IsSpellable v) p ps spellable).valid in
    All-cons (λ p. p.mode ≢ Kanji) p ps
    (λ e. no_kanji_text p.text (message ps) (All-head (λ p. p.text ≢ []) p ps some) (subst (λ (m : Mode). IsValid m p.text) e valid) h)
    (free_of_kanji v ps (All-tail (IsSpellable v) p ps spellable) (All-tail (λ p. p.text ≢ []) p ps some) (no_pair_back p.text (message ps) h))

-- The best symbol without the Kanji mode is as large as the best symbol.
pub as_large : (kind : ℕ → Version) (bytes : List ℕ) (level : EcLevel) (grid other : List Color) → HasNoPair bytes →
    (plain : IsBestWithoutKanji kind bytes level grid) → (best : IsBest kind no_front bytes level other) →
    (plain.number ≡ best.number) × (plain.payload ≡ best.payload)
as_large kind bytes level grid other apart plain best =
    let mine = subst (λ (r : Reading). Reads grid r) plain.says plain.reads in
    let theirs = subst (λ (r : Reading). Reads other r) best.says best.reads in
    let framed = theirs.framed in
    let free = free_of_kanji (kind best.number) framed.pieces framed.spellable framed.nonempty (subst HasNoPair framed.bytes_are apart) in
    let a = best.none_better apart grid plain.number plain.payload plain.mask mine in
    let b = plain.none_better other best.number best.payload best.mask (record { reads = theirs; no_kanji = free }) in
    let same : plain.number ≡ best.number = omega (arith, a.0, b.0) in
    (same, omega (arith, a.1 same, b.1 (sym same)))
