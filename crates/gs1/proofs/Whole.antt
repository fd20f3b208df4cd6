-- The string of the elements of a text without a fault.
use Rattle.std.proofs.Common.{◌≡◌, ℕ, List, drop, sym}
use Rattle.std.specs.Prelude.{None}
use Rattle.gs1.specs.Elements.{elements_behind, written_elements, text_fault}
use Rattle.gs1.specs.Reader.{Finds, FindsOnly, AreSymbolData, string_of}
use Rattle.gs1.proofs.Parts.{elements_cons}
use Rattle.gs1.proofs.Reading.{one_list, finds_string}
use Rattle.gs1.proofs.Faults.{all_readable}
use Rattle.gs1.proofs.Data.{string_data}
use Rattle.gs1.proofs.Bracketed.{text_tests}

-- A reader finds the elements of a text, and no others.
pub finds_only : (text bytes : List ℕ) → text_fault text ≡ None → bytes ≡ string_of (written_elements text) →
    FindsOnly bytes (written_elements text)
finds_only text bytes none is =
    let found : Finds bytes (written_elements text) =
    rw is (finds_string (written_elements text) (all_readable 0 _ (text_tests text none).1)) in
    record { found = found; only = λ others finds. one_list bytes others (written_elements text) finds found }

-- The string is data of a symbol.
pub text_data : (text bytes : List ℕ) → text_fault text ≡ None → bytes ≡ string_of (written_elements text) →
    AreSymbolData bytes
text_data text bytes none is =
    rw is (string_data (written_elements text) (λ e. elements_cons (drop 1 text) e)
    (all_readable 0 _ (text_tests text none).1))

-- What the body has, over the text.
pub as_text : (text given rest bytes : List ℕ) → given ≡ text → None ≡ text_fault given → rest ≡ drop 1 given →
    bytes ≡ string_of (elements_behind rest) →
    (text_fault text ≡ None) × (bytes ≡ string_of (written_elements text))
as_text text given rest bytes given_is none rest_is is =
    (rw (← given_is) (sym none), rw (← given_is) (rw rest_is at is))
