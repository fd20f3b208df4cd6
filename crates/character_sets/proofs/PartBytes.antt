-- The byte of a character in a part is the only one that may be it there.
use Rattle.std.proofs.Common.{◌≡◌, ℕ, ◌+◌, ◌-◌, ◌*◌, ◌<◌, ◌≤◌, ◌∙◌, nat_le, leb-true, ◌==◌}
use Rattle.std.proofs.Common.{eqb-true, true, ap, inl, inr, refl, arith, subst, sym}
use Rattle.std.specs.Prelude.{Option, None, Some}
use Rattle.std.specs.Option.{option_eq}
use Rattle.std.proofs.lemmas.Bool.{and_parts}
use Rattle.std.proofs.lemmas.Grind.{common_steps}
use Rattle.qrcode_base.specs.Characters.{is_between}
use Rattle.character_sets.specs.Kanji.{character_in}
use Rattle.character_sets.specs.declared.byte_codes.TheConstants.{CODES}
use Rattle.character_sets.specs.declared.iso8859.TheConstants.{PARTS}
use Rattle.character_sets.specs.declared.byte_places.TheConstants.{PLACES}
use Rattle.character_sets.specs.Bytes.{IsPartByte, ascii_character, part_character}
use Rattle.character_sets.specs.ByteSearch.{byte_in}
use Rattle.character_sets.proofs.ByteTable.{ascii_is, found, if_is, part_is}

-- A character that is not ASCII stands in the table where its byte says.
in_table : (designator byte c : ℕ) → 0x80 ≤ c → part_character designator byte ≡ Some c →
    (0xa0 ≤ byte) × (character_in PARTS (96 * (designator - 3) + (byte - 0xa0)) ≡ Some c)
unfolding part_character
in_table designator byte c beyond h =
    elim (if_is (is_between 0xa0 0xff byte) (character_in PARTS (96 * (designator - 3) + (byte - 0xa0))) (ascii_character byte) c h) [
      | inl w ↦ (leb-true 0xa0 byte (and_parts (nat_le 0xa0 byte) (nat_le byte 0xff) w.0).0, w.1)
      | inr w ↦ let small = (ascii_is byte c w.1).1 in absurd (omega (arith, beyond, small))
    ]

at_table : (designator byte c : ℕ) → 0xa0 ≤ byte → byte ≤ 0xff →
    character_in PARTS (96 * (designator - 3) + (byte - 0xa0)) ≡ Some c → part_character designator byte ≡ Some c
unfolding part_character
at_table designator byte c low high h = grind (arith, common_steps, h, low, high)

-- The byte that is looked up is the only one that may be it.
looked_up : (designator byte c : ℕ) → 0x80 ≤ c → part_character designator byte ≡ Some c → byte_in PLACES CODES designator c ≡ byte
looked_up designator byte c beyond h =
    elim (part_is designator byte c h) [
      | inl w ↦ absurd (omega (arith, beyond, w.1))
      | inr w ↦ w.1
    ]

pub none_below : (designator c : ℕ) → 0x80 ≤ c → byte_in PLACES CODES designator c < 0xa0 → IsPartByte designator c 0
none_below designator c beyond low = record {
  right = λ some. absurd (some refl);
  found = λ other h. absurd (omega (arith, low, looked_up designator other c beyond h, (in_table designator other c beyond h).0));
}

pub none_there : (designator c byte : ℕ) → 0x80 ≤ c → byte ≡ byte_in PLACES CODES designator c →
    (character_in PARTS (96 * (designator - 3) + (byte - 0xa0)) ≡ Some c → ⊥) → IsPartByte designator c 0
none_there designator c byte beyond is none = record {
  right = λ some. absurd (some refl);
  found = λ other h.
      let same : other ≡ byte = sym (is ∙ looked_up designator other c beyond h) in
      absurd (none (subst (λ (b : ℕ). character_in PARTS (96 * (designator - 3) + (b - 0xa0)) ≡ Some c) same (in_table designator other c beyond h).1));
}

pub is_there : (designator c byte : ℕ) → 0x80 ≤ c → 0xa0 ≤ byte → byte ≤ 0xff → byte ≡ byte_in PLACES CODES designator c →
    character_in PARTS (96 * (designator - 3) + (byte - 0xa0)) ≡ Some c → IsPartByte designator c byte
is_there designator c byte beyond low high is there = record {
  right = λ some. at_table designator byte c low high there;
  found = λ other h. (is ∙ looked_up designator other c beyond h, omega (arith, (in_table designator other c beyond h).0));
}

-- Beyond a code point there are none.
pub none_beyond : (designator c : ℕ) → 9216 ≤ c → IsPartByte designator c 0
none_beyond designator c far = record {
  right = λ some. absurd (some refl);
  found = λ other h.
      let there = in_table designator other c (omega (arith, far)) h in
      let low = (found (96 * (designator - 3) + (other - 0xa0)) c there.1).1 in absurd (omega (arith, far, low));
}

pub equal_is : (found : Option ℕ) (c : ℕ) → option_eq (λ a b. a == b) found (Some c) ≡ true → found ≡ Some c
equal_is None c h = absurd (cc)
equal_is (Some x) c h = ap (λ (y : ℕ). Some y) (eqb-true x c h)

pub is_equal : (found : Option ℕ) (c : ℕ) → found ≡ Some c → option_eq (λ a b. a == b) found (Some c) ≡ true
is_equal None c h = absurd (let e : None ≡ Some c = h in cc)
is_equal (Some x) c h = let e : x ≡ c = cc in grind (arith, common_steps, e)
