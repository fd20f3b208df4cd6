-- Whether bytes are left.
use Rattle.std.proofs.Common.{◌≡◌, ℕ, ◌+◌, ◌<◌, Bool, true, false, List, [], ◌∷◌, length, refl, arith, ap}
use Rattle.std.specs.Prelude.{◌≢◌, ◌==◌}
use Rattle.std.proofs.lemmas.Grind.{common_steps}

-- What the test for no bytes says.
pub some_left : (bytes : List ℕ) (b : Bool) → b ≡ (length bytes == 0) → b ≡ false → 0 < length bytes
some_left bytes b e is = grind (arith, common_steps)

pub none_left : (bytes : List ℕ) (b : Bool) → b ≡ (length bytes == 0) → b ≡ true → bytes ≡ []
none_left [] b e is = refl
none_left (x ∷ bytes) b e is = absurd (let some : 0 < length bytes + 1 = omega arith in grind (arith, common_steps))

pub some_bytes : (bytes : List ℕ) → 0 < length bytes → bytes ≢ []
some_bytes bytes some none = absurd (let size : length bytes ≡ 0 = ap length none in omega arith)
