-- The segments lie within the bytes.
use Rattle.std.proofs.Common.{rules, length, List, [], ◌∷◌, Option, ap}
use Rattle.std.specs.Iterator.{Yields}
use Rattle.std.proofs.iter.Yields.{copies, fronts}
use Rattle.std.proofs.lemmas.Iterator.{YieldsList-from_slice}
use Rattle.std.proofs.lemmas.Iterator.Consumers.{YieldsList-from_copied}
use Rattle.qrcode_bits.specs.Spelling.{LiesIn}
use Rattle.qrcode_bits.proofs.Listed.{given_all}
use Rattle.layer_tests.proofs.bits_tests.case_tests.what_is_left_of_an_iterator.Goals as goal

-- what is taken through a borrow of an iterator is taken from the iterator
lent : {S T A : Type 0} (f : T → S) (gives : S → Option A → S → Type 0) (xs : List A) (s t : T) →
    Yields (λ a r b. gives (f a) r (f b)) s xs t → Yields gives (f s) xs (f t)
lent f gives [] s t e = ap f e
lent f gives (x ∷ xs) s t h = (f h.0, h.1, lent f gives xs h.0 t h.2)

pub push_segments-result-requires-clause-within : goal.push_segments-result-requires-clause-within
push_segments-result-requires-clause-within g c = λ xs came.
    given_all c.copied-segments.result c.iter.result.rest.now (YieldsList-from_copied (YieldsList-from_slice c.iter.result.rest.now (search rules)))
    (LiesIn 4) ⊥ xs (search rules) (came.0.now, lent (λ m. m.now) (copies fronts) xs _ came.0 came.1, λ bad. absurd bad)
