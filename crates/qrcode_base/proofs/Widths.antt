-- Which versions have blocks, and that the width of a symbol determines its version.
use Rattle.qrcode_base.proofs.Prelude.{◌≡◌, ℕ, ◌*◌, sym, ◌∙◌, arith, Some, slice_get_within, BlockLayout, EcLevel, Version, blocks_of, IsVersion, width_of}

-- ---- Versions with blocks

-- A version with blocks is one of the 44.
pub version-of_blocks : (version : Version) (level : EcLevel) (b : BlockLayout) →
    blocks_of version level ≡ Some b → IsVersion version
version-of_blocks version level b e = grind (arith, slice_get_within)

-- ---- Widths

-- Versions of one width are the same.
pub version-of_width : (v w : Version) → IsVersion v → IsVersion w → width_of v ≡ width_of w → v ≡ w
version-of_width v w h k e = grind arith

square-root : (a b : ℕ) → a * a ≡ b * b → a ≡ b
square-root a b e = grind arith

-- So the number of modules determines the version.
pub version-of_size : (v w : Version) (size : ℕ) → IsVersion v → IsVersion w →
    size ≡ width_of v * width_of v → size ≡ width_of w * width_of w → v ≡ w
version-of_size v w size h k e f = version-of_width v w h k (square-root (width_of v) (width_of w) (sym e ∙ f))
