-- The first wrong escape, from the left.
use Rattle.std.proofs.Common.{◌≡◌, ℕ, ◌+◌, ◌<◌, List, ◌-◌, length, take, drop, arith, refl, sym, ap, Bool, ◌∙◌}
use Rattle.std.specs.Prelude.{Option, None}
use Rattle.std.specs.Option.{option_or}
use Rattle.std.proofs.lemmas.List.{drop_more, take_all, length-drop}
use Rattle.gs1.specs.Checks.{escapes_fault, fault_if, is_wrong_escape}
use Rattle.gs1.specs.declared.reason.Reason.TheVariants.{WrongEscape}
use Rattle.gs1.specs.declared.reason.Fault.{Fault}

-- The fault at a place, or behind it.
pub escapes_more : (place : ℕ) (xs : List ℕ) (at : ℕ) → at < length xs →
    escapes_fault place (drop at xs) ≡
    option_or (fault_if (is_wrong_escape (drop at xs)) place WrongEscape)
    (escapes_fault (place + 1) (drop (at + 1) xs))
escapes_more place xs at within = rw (drop_more xs at 0 within) refl

-- Where none begins at a place, the first is behind it.
pub escapes_behind : (place at : ℕ) (xs : List ℕ) (wrong : Bool) (whole : Option Fault) → at < length xs →
    wrong ≡ is_wrong_escape (take (length xs - at) (drop at xs)) → None ≡ fault_if wrong (place + at) WrongEscape →
    escapes_fault (place + at) (drop at xs) ≡ whole →
    escapes_fault (place + (at + 1)) (drop (at + 1) xs) ≡ whole
escapes_behind place at xs wrong whole within is none e =
    let step = escapes_more (place + at) xs at within in
    let all : take (length xs - at) (drop at xs) ≡ drop at xs = take_all (length xs - at) (drop at xs) (omega (arith, length-drop at xs)) in
    let here : fault_if (is_wrong_escape (drop at xs)) (place + at) WrongEscape ≡ None =
    ap (λ b. fault_if b (place + at) WrongEscape) (sym (rw all at is)) ∙ sym none in
    let next : place + at + 1 ≡ place + (at + 1) = omega arith in
    rw (← next) (sym (rw here at step) ∙ e)
