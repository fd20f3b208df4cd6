-- What is said of lines that are left out, on a sink that may have failed.
use Rattle.std.specs.Prelude.{◌≡◌, List, ℕ, IsTrue, IsFalse}
use Rattle.programs.specs.Devices.{SinkState, Writes, output}

-- The text was written, or a beginning of it; on a sink that has failed, nothing.
pub record Reports (before after : SinkState) (text : List ℕ) : Type 0 where
  pub silent : IsTrue before.failed → after ≡ before
  pub said : IsFalse before.failed → Writes (output before after) text
