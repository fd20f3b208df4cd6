-- The pair is the character's, and the only one.
use Rattle.std.proofs.Common.{◌≡◌, ℕ, ap}
use Rattle.std.specs.Prelude.{Some}
use Rattle.qrcode_base.specs.Characters.{kanji_number}
use Rattle.character_sets.proofs.Pairs.{pair_found, pair_right, pair_says}
use Rattle.character_sets.proofs.pair_of.Goals as goal

pub returns-clause-right : goal.returns-clause-right
returns-clause-right c =
    pair_right c.in_ok-kanji.kanji c.shift_jis_of.result.0 c.shift_jis_of.result.1 c.args.c c.in_ok-kanji.ensures.right
    c.shift_jis_of.ensures.pair c.shift_jis_of.ensures.number

pub returns-clause-found : goal.returns-clause-found
returns-clause-found c lead trail h =
    let found = c.in_ok-kanji.ensures.found (kanji_number lead trail) (pair_says lead trail c.args.c h).1 in
    let e : c.in_ok-kanji.kanji ≡ kanji_number lead trail = cc in
    ap (λ (x : ℕ × ℕ). Some x)
    (pair_found c.in_ok-kanji.kanji lead trail c.args.c c.shift_jis_of.result h e c.shift_jis_of.ensures.pair c.shift_jis_of.ensures.number)
