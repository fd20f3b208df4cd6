-- The arguments of the program, and the symbol that they describe.
use Rattle.std.specs.Prelude.{◌≡◌, ℕ, Bool, true, false, List, [], ◌∷◌, ◌++◌, codes}
use Rattle.std.specs.Str.{trim}
use Rattle.qrcode_core.specs.declared.types.EcLevel.{EcLevel}
use Rattle.qrcode_core.specs.declared.types.errors.QrError.{QrError}
use Rattle.qrcode_core.specs.Names.{NamesLevel}
use Rattle.qrtext.specs.Calls.{IsRefusalOf}
use Rattle.qrtext.specs.declared.request.Request.{Request}

-- The request for a symbol of this level, with `true` for a Micro symbol.
abbrev pub text_request : Bool → EcLevel → Request
text_request micro level = record { level = level; micro = micro }

-- The arguments describe a symbol: they are a level, with or without white space around it, and
-- after it `micro` for a Micro symbol.
abbrev pub AskForText : List (List ℕ) → Request → Type 0
AskForText (word ∷ []) request = NamesLevel (trim word) request.level × (request.micro ≡ false)
AskForText (word ∷ second ∷ []) request =
    NamesLevel (trim word) request.level × (second ≡ codes "micro") × (request.micro ≡ true)
AskForText _ request = ⊥

-- The call for the symbol of the request fails with this error.
abbrev pub RefusesText : Request → List ℕ → QrError → Type 0
RefusesText request = IsRefusalOf request.micro request.level

-- The name of the program.
abbrev pub qrtext_name : List ℕ
qrtext_name = codes "qrtext"

-- The usage line.
abbrev pub qrtext_usage : List ℕ
qrtext_usage = codes "usage: qrtext L|M|Q|H [micro]" ++ 10 ∷ []
