-- A text has at most four bytes for each of its characters.
use Rattle.std.proofs.Common.{◌+◌, ◌*◌, ◌≤◌, ℕ, List, [], ◌∷◌, ◌++◌, chars, length, length-append, arith}
use Rattle.std.proofs.Math.Utf8.{encode, encodes}
use Rattle.std.proofs.lemmas.Str.{encodes-chars, length-encode, len_utf8_bounds}
use Rattle.std.specs.Str.{IsUtf8}

encodes_length : (cs : List ℕ) → length (encodes cs) ≤ 4 * length cs
encodes_length [] = omega arith
encodes_length (c ∷ cs) = omega (arith, encodes_length cs, length-append (encode c) (encodes cs), length-encode c, len_utf8_bounds c)

pub text_length : (bytes : List ℕ) → IsUtf8 bytes → length bytes ≤ 4 * length (chars bytes)
text_length bytes utf8 = rw (encodes-chars bytes utf8) at (encodes_length (chars bytes))
