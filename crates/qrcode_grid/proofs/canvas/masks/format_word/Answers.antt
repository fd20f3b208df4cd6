-- The tables have the words of all data digits.
use Rattle.qrcode_grid.proofs.Prelude.{ap, ◌∙◌, sym, subst, format_code, arith, rules, ◌+◌, ◌*◌, ◌≡◌, ◌<◌, format_word, family, slice_get, Some}
use Rattle.qrcode_grid.proofs.Distance.{normal_word_at, micro_word_at}
use Rattle.qrcode_grid.proofs.Families.{normal_place, micro_place}
use Rattle.qrcode_grid.proofs.canvas.masks.format_word.Goals.{in-L-level+then-n-eq1, in-L-level+else-n-eq1, in-M-level, in-Q-level, in-H-level}
use Rattle.qrcode_grid.proofs.canvas.masks.format_word.Goals as goal

pub returns-after-level : goal.returns-after-level
returns-after-level c = λ p here.
    let digits = 8 * c.match-level.level_digits + c.args.number in
    let place = normal_place c.in-Normal.field-0 c.args.number p (subst (λ v. slice_get (family v) c.args.number ≡ Some p) c.in-Normal.is here) in
    let is : format_code c.args.version digits ≡ format_word c.args.version c.args.level p = grind (arith, place) in
    let small : digits < 32 = grind arith in
    grind (arith, normal_word_at c.in-Normal.field-0 digits small)

pub returns-after-level-2 : goal.returns-after-level-2
returns-after-level-2 c = λ p here.
    let digits = 4 * c.match-level-2.symbol_digits + c.args.number in
    let place = micro_place c.in-Micro.n c.args.number p (subst (λ v. slice_get (family v) c.args.number ≡ Some p) c.in-Micro.is here) in
    let is : format_code c.args.version digits ≡ format_word c.args.version c.args.level p = elim c.match-level-2.branch [
      | in-L-level+then-n-eq1 w ↦ search (rules, place)
      | in-L-level+else-n-eq1 w ↦ search (rules, place)
      | in-M-level w ↦ search (rules, place)
      | in-Q-level w ↦ search (rules, place)
      | in-H-level w ↦ search (rules, place)
    ] in
    let small : digits < 32 = search rules in
    micro_word_at c.in-Micro.n digits small ∙ ap (λ v. format_code v digits) (sym c.in-Micro.is) ∙ is
