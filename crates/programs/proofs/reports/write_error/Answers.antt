-- The number is printed as it is in the error.
use Rattle.programs.proofs.reports.write_error.Goals as goal

pub returns-in-InvalidEciDesignator : goal.returns-in-InvalidEciDesignator
returns-in-InvalidEciDesignator g c = rw c.in-InvalidEciDesignator.is (rw c.from.ensures at c.write_number.ensures)

pub returns-in-InvalidStructuredAppend : goal.returns-in-InvalidStructuredAppend
returns-in-InvalidStructuredAppend g c =
    rw c.in-InvalidStructuredAppend.is (rw c.from-in-InvalidStructuredAppend.ensures at c.write_number-in-InvalidStructuredAppend.ensures)
