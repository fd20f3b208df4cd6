use Rattle.std.proofs.Common.{sym}
use Rattle.std.proofs.lemmas.Result.{err_from_is_err_and}
use Rattle.gs1.proofs.Bracketed.{bracketed_text}
use Rattle.gs1.proofs.Memory.{refused_by}
use Rattle.gs1.proofs.SymbolData.{are_elements}
use Rattle.gs1.proofs.Whole.{finds_only, text_data, as_text}
use Rattle.gs1.proofs.element_string.Goals as goal

pub returns-in_err-check_text-clause-refusal : goal.returns-in_err-check_text-clause-refusal
returns-in_err-check_text-clause-refusal c =
    let p = err_from_is_err_and c.from_residual.result c.from_residual.ensures.1 in
    rw (p.1, p.2) (refused_by c.args.text.now _
    (rw (← c.as_bytes-text.ensures.value) (sym c.in_err-check_text.ensures)))

pub returns-clause-written : goal.returns-clause-written
returns-clause-written c = bracketed_text _ (rw (← c.as_bytes-text.ensures.value) (sym c.in_ok-check_text.ensures))

pub returns-clause-found : goal.returns-clause-found
returns-clause-found c =
    let have = as_text c.args.text.now c.as_bytes-text.result.now c.behind.result.now
    c.in_ok-bytes.bytes.items c.as_bytes-text.ensures.value c.in_ok-check_text.ensures c.behind.ensures c.in_ok-bytes.ensures in
    finds_only c.args.text.now c.in_ok-bytes.bytes.items have.0 have.1

pub returns-clause-data : goal.returns-clause-data
returns-clause-data c =
    let have = as_text c.args.text.now c.as_bytes-text.result.now c.behind.result.now
    c.in_ok-bytes.bytes.items c.as_bytes-text.ensures.value c.in_ok-check_text.ensures c.behind.ensures c.in_ok-bytes.ensures in
    text_data c.args.text.now c.in_ok-bytes.bytes.items have.0 have.1

pub returns-clause-elements : goal.returns-clause-elements
returns-clause-elements c =
    let have = as_text c.args.text.now c.as_bytes-text.result.now c.behind.result.now
    c.in_ok-bytes.bytes.items c.as_bytes-text.ensures.value c.in_ok-check_text.ensures c.behind.ensures c.in_ok-bytes.ensures in
    are_elements c.in_ok-bytes.bytes.items (text_data c.args.text.now c.in_ok-bytes.bytes.items have.0 have.1)
