-- The result of a call, from what was written of the symbol.
use Rattle.std.specs.Prelude.{◌≡◌, ◌+◌, ◌≤◌, ℕ, ℤ, List, length, nat_abs, Result, Ok, Err, IfOk, IfErr, OnErr}
use Rattle.std.proofs.Common.{subst, sym, ◌∙◌, arith, w16, w32, to_z, of_z}
use Rattle.std.proofs.lemmas.{Int.to_z-of_z, Int.ints}
use Rattle.qrcode_base.specs.Symbols.{IsNormalNumber}
use Rattle.std.proofs.lemmas.Result.{IfOk-weaker}
use Rattle.qrcode_base.specs.declared.types.{Color.Color, EcLevel.EcLevel}
use Rattle.qrcode_core.specs.{Symbol.DrawnSymbol, Symbol.TellsReading, Sequence.IsBestPart, Sequence.IsSomePartTooLong}
use Rattle.qrcode_bits.specs.{Frame.IsTotal, declared.bits.front.Content.TheVariants.Bytes}
use Rattle.qrcode_c.specs.{declared.refusal.Refusal.Refusal, declared.refusal.Refusal.TheVariants.ShortBuffer, declared.shape.Shape.Shape, Buffers.Holds}
use Rattle.qrcode_c.specs.{Buffers.HoldsBest, Buffers.HoldsPart, Refusals.IsPartSymbol, Levels.level_argument}

pub best_held : (best : EcLevel → List Color → Type 0) (level : EcLevel) (number : ℤ) (symbol : DrawnSymbol) (before after : List ℕ)
    (result : Result Shape Refusal) →
    number ≡ level_argument level → best level symbol.modules → TellsReading symbol →
    IfOk result (Holds symbol before after) → IfOk result (HoldsBest best number before after)
best_held best level number symbol before after result level_is is_best reading held =
    IfOk-weaker result _ _ (λ shape holds. record {
      level = level;
      level_is = level_is;
      symbol = symbol;
      is_best = is_best;
      reading = reading;
      holds = holds;
    }) held

-- An error in writing is that of a short buffer.
pub short_refused : (comes : Refusal → Type 0) (longer : Type 0) (result : Result Shape Refusal) →
    IfErr result (λ refusal. refusal ≡ ShortBuffer) → OnErr result longer → (longer → comes ShortBuffer) → IfErr result comes
short_refused comes longer (Ok shape) short room why = tt
short_refused comes longer (Err refusal) short room why = subst comes (sym short) (why room)

-- A limit that is the same number in another type asks for the same symbol.
pub part_of : (message cuts : List ℕ) (level : EcLevel) (limit given : ℤ) (index : ℕ) (symbol : DrawnSymbol) → given ≡ limit →
    IsTotal (length cuts + 1) → index ≤ length cuts → IsBestPart Bytes message cuts level (nat_abs given) index symbol.modules →
    (IsSomePartTooLong Bytes message cuts level (nat_abs given) → ⊥) → IsPartSymbol message cuts level limit index symbol
part_of message cuts level limit given index symbol same total part best fit = record {
  is_total = total;
  is_part = part;
  is_best = subst (λ (z : ℤ). IsBestPart Bytes message cuts level (nat_abs z) index symbol.modules) same best;
  all_fit = subst (λ (z : ℤ). IsSomePartTooLong Bytes message cuts level (nat_abs z) → ⊥) same fit;
}

pub part_held : (message cuts : List ℕ) (level : EcLevel) (number limit : ℤ) (index : ℕ) (symbol : DrawnSymbol) (before after : List ℕ)
    (result : Result Shape Refusal) → number ≡ level_argument level → IsPartSymbol message cuts level limit index symbol → TellsReading symbol →
    IfOk result (Holds symbol before after) → IfOk result (HoldsPart message cuts number limit index before after)
part_held message cuts level number limit index symbol before after result level_is is_symbol reading held =
    IfOk-weaker result _ _ (λ shape holds. record {
      level = level;
      level_is = level_is;
      symbol = symbol;
      is_symbol = is_symbol;
      reading = reading;
      holds = holds;
    }) held

-- a limit is the same number in 16 bits as in 32
pub same_limit : (number limit : ℤ) → limit ≡ to_z w32 (of_z w32 number) → to_z w32 (of_z w32 number) ≡ number → IsNormalNumber limit →
    to_z w16 (of_z w16 limit) ≡ number
same_limit number limit is wide low =
    let narrow : to_z w16 (of_z w16 limit) ≡ limit = search (arith, ints, to_z-of_z, low) in narrow ∙ is ∙ wide
