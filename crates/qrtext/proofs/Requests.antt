-- Words ask for one request at most.
use Rattle.std.proofs.Common.{◌≡◌, ℕ, List, arith}
use Rattle.qrtext.proofs.Levels.{one_level}
use Rattle.qrtext.{specs.declared.request.Request.Request, specs.Words.AskForText}

pub ask_for_one : (words : List (List ℕ)) (a b : Request) → AskForText words a → AskForText words b → a ≡ b
ask_for_one words a b h k = grind (arith, one_level)
