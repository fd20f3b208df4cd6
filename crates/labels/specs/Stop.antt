-- What the program's values stand for.
use Rattle.std.specs.Prelude.{ℕ, List, Result, Ok, Err, Vec}
use Rattle.std.specs.declared.alloc.Global.{Global}
use Rattle.labels.specs.Lines.{Made}
use Rattle.single_label.specs.declared.stop.Stop.{Stop}

-- What came of a line, where a thing stands for the drawing.
abbrev pub made_as : {A : Type 0} → (A → List ℕ) → Result A Stop → Made
made_as drawing (Ok thing) = Ok (drawing thing)
made_as drawing (Err stop) = Err stop

-- What comes of a line: the drawing of its label, or the reason why it has none.
abbrev pub made_of : Result (Vec ℕ Global) Stop → Made
made_of made = made_as (λ bytes. bytes.items) made
