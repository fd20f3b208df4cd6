use Rattle.std.proofs.Common.{◌≡◌, sym}
use Rattle.std.specs.Prelude.{None}
use Rattle.std.proofs.lemmas.Result.{err_from_is_err_and}
use Rattle.gs1_links.specs.Links.{link_error}
use Rattle.gs1_links.proofs.LinkWhole.{capital_link_read, elements_kept, refused_link}
use Rattle.gs1_links.proofs.link.capital_link.Goals as goal

pub returns-in_err-check_link-clause-refusal : goal.returns-in_err-check_link-clause-refusal
returns-in_err-check_link-clause-refusal c =
    let p = err_from_is_err_and c.from_residual.result c.from_residual.ensures.1 in
    rw (p.1, p.2) (refused_link c.args.text.now c.args.domain.now _
    (rw (← c.as_bytes-text.ensures.value, ← c.as_bytes-domain.ensures.value) (sym c.in_err-check_link.ensures)))

pub returns-clause-read : goal.returns-clause-read
returns-clause-read c =
    let none : link_error c.args.text.now c.args.domain.now ≡ None =
    rw (← c.as_bytes-text.ensures.value, ← c.as_bytes-domain.ensures.value) (sym c.in_ok-check_link.ensures) in
    capital_link_read c.args.text.now c.args.domain.now c.in_ok-link.link.items none
    (rw (← c.as_bytes-text.ensures.value, ← c.as_bytes-domain.ensures.value)
    (rw (c.deref.ensures.value, c.in_ok-capitals.ensures) at c.in_ok-link.ensures))

pub returns-clause-none_lost : goal.returns-clause-none_lost
returns-clause-none_lost c =
    let none : link_error c.args.text.now c.args.domain.now ≡ None =
    rw (← c.as_bytes-text.ensures.value, ← c.as_bytes-domain.ensures.value) (sym c.in_ok-check_link.ensures) in
    elements_kept c.args.text.now c.args.domain.now none
