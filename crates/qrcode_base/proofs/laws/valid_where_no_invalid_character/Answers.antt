-- The laws of the first invalid byte.
use Rattle.qrcode_base.proofs.Validity.{first_invalid-first, first_invalid-is, none_where_valid}
use Rattle.qrcode_base.proofs.laws.valid_where_no_invalid_character.Goals as goal

pub returns-clause-first : goal.returns-clause-first
returns-clause-first c = first_invalid-first

pub returns-clause-only : goal.returns-clause-only
returns-clause-only c = first_invalid-is

pub returns-clause-none : goal.returns-clause-none
returns-clause-none c = none_where_valid
