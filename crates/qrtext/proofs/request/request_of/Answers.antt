-- The second word is `micro`.
use Rattle.std.proofs.Common.{rules, arith, ◌≡◌, ◌≤◌, ◌<◌, ℕ, List, [], length, Bor, slice_index_or, map, true}
use Rattle.std.{specs.Prelude.codes, specs.Str.trim, proofs.lemmas.Grind.common_steps}
use Rattle.qrcode_core.specs.{declared.types.EcLevel.EcLevel, Names.NamesLevel}
use Rattle.qrtext.specs.Words.{text_request, AskForText}
use Rattle.qrtext.proofs.request.request_of.Goals as goal

abbrev no_word : Bor (List ℕ)
no_word = record { ref_ptr = (0, 0); now = [] }

two_words : (words : List (Bor (List ℕ))) (level : EcLevel) → 2 ≤ length words → length words < 3 →
    NamesLevel (trim (slice_index_or words 0 no_word).now) level → (slice_index_or words 1 no_word).now ≡ codes "micro" →
    AskForText (map (λ w. w.now) words) (text_request true level)
two_words words level h k d s = grind (arith, common_steps)

pub returns-in_ok-level-in-len2 : goal.returns-in_ok-level-in-len2
returns-in_ok-level-in-len2 c =
    let second : (slice_index_or c.args.words.now 1 no_word).now ≡ codes "micro" = search rules in
    two_words c.args.words.now _ c.in-len2.len_at_least c.in-len2.len_below (search rules) second
