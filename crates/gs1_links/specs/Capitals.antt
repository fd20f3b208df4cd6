-- Domains with their hosts in capitals.
use Rattle.std.specs.Prelude.{ℕ, ◌-◌, Bool, true, ◌&&◌, not, if◌then◌else◌, List, [], ◌∷◌}
use Rattle.gs1_base.specs.Characters.{is_within}
use Rattle.gs1_base.specs.Domains.{is_slash}

-- The capital of a small letter; another byte as it is.
abbrev pub capital : ℕ → ℕ
capital c = if is_within 0x61 0x7a c then c - 0x20 else c

-- A byte stands in the host, which ends at the first slash.
abbrev pub is_in_host : Bool → ℕ → Bool
is_in_host was c = was && not (is_slash c)

-- A byte as it is written: in the host as a capital.
abbrev pub written : Bool → ℕ → ℕ
written in_host c = if in_host then capital c else c

-- The rest of a domain as it is written, behind bytes of the host or of the path.
unfoldable pub written_behind : Bool → List ℕ → List ℕ
written_behind was [] = []
written_behind was (c ∷ rest) = written (is_in_host was c) c ∷ written_behind (is_in_host was c) rest

-- A domain with the letters of its host as capitals.
abbrev pub capital_domain : List ℕ → List ℕ
capital_domain domain = written_behind true domain
