use Rattle.qrcode_base.proofs.Prelude.{ℕ, List, [], ◌∷◌, refl, ap, get_or}
use Rattle.std.specs.Hash.{le_bytes}
use Rattle.qrcode_base.specs.declared.types.Color.TheVariants.{Light, Dark}
use Rattle.qrcode_base.proofs.laws.colors_hash_as_they_compare.Goals as goal

-- the first byte that is written
first_byte : List (List ℕ) → ℕ
first_byte [] = 0
first_byte (bytes ∷ rest) = get_or bytes 0 0

pub returns-clause-hashes : goal.returns-clause-hashes
unfolding first_byte le_bytes
returns-clause-hashes c = elim [
  | Light ↦ elim [ Light ↦ (λ _. refl, λ _. refl) | Dark ↦ (λ e. let first = ap first_byte e in absurd (cc), λ e. cc) ]
  | Dark ↦ elim [ Light ↦ (λ e. let first = ap first_byte e in absurd (cc), λ e. cc) | Dark ↦ (λ _. refl, λ _. refl) ]
]
