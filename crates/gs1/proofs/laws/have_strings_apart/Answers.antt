use Rattle.std.proofs.Common.{List, ℕ, subst, sym}
use Rattle.gs1.specs.Reader.{Finds, string_of}
use Rattle.gs1.proofs.Reading.{one_list, finds_string}
use Rattle.gs1.proofs.Faults.{all_readable}
use Rattle.gs1.proofs.laws.have_strings_apart.Goals as goal

pub returns : goal.returns
returns c = λ first second none_first none_second same.
    let P : List ℕ → Type 0 = λ bytes. Finds bytes second in
    one_list (string_of first) first second (finds_string first (all_readable 0 first none_first))
    (subst P (sym same) (finds_string second (all_readable 0 second none_second)))
