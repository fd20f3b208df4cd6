-- Each generator of the table vanishes at its roots: found by computing.
use Rattle.qrcode_grid.proofs.Prelude.{◌≡◌, ℕ, ◌<◌, true, refl, subst, List, eqb, eqb-true, value_at, power, product, double, shift_and_add, IsSound}
use Rattle.qrcode_grid.proofs.FieldLaws.{passes_below, passes_below-at}
use Rattle.qrcode_grid.specs.declared.ec.generators.TheConstants.{GENERATOR_2, GENERATOR_5, GENERATOR_6, GENERATOR_7, GENERATOR_8, GENERATOR_10, GENERATOR_13}
use Rattle.qrcode_grid.specs.declared.ec.generators.TheConstants.{GENERATOR_14, GENERATOR_15}
use Rattle.qrcode_grid.specs.declared.ec.generators.TheConstants.{GENERATOR_16, GENERATOR_17, GENERATOR_18, GENERATOR_20, GENERATOR_22, GENERATOR_24}
use Rattle.qrcode_grid.specs.declared.ec.generators.TheConstants.{GENERATOR_26, GENERATOR_28, GENERATOR_30}
use Rattle.qrcode_grid.proofs.ec.generators.known_generator.Goals as goal

sound : (n m : ℕ) (g : List ℕ) → n ≡ m → passes_below m (λ i. eqb (value_at g (power 2 i)) 0) ≡ true → IsSound n g
unfolding IsSound
sound n m g same passes = λ i h.
    eqb-true _ _ (passes_below-at (λ i. eqb (value_at g (power 2 i)) 0) m i passes (subst (λ (k : ℕ). i < k) same h))

pub returns-in-2-clause-sound : goal.returns-in-2-clause-sound
unfolding value_at power product double shift_and_add
returns-in-2-clause-sound c = sound c.args.n 2 GENERATOR_2 c.in-2.is refl

pub returns-in-5-clause-sound : goal.returns-in-5-clause-sound
unfolding value_at power product double shift_and_add
returns-in-5-clause-sound c = sound c.args.n 5 GENERATOR_5 c.in-5.is refl

pub returns-in-6-clause-sound : goal.returns-in-6-clause-sound
unfolding value_at power product double shift_and_add
returns-in-6-clause-sound c = sound c.args.n 6 GENERATOR_6 c.in-6.is refl

pub returns-in-7-clause-sound : goal.returns-in-7-clause-sound
unfolding value_at power product double shift_and_add
returns-in-7-clause-sound c = sound c.args.n 7 GENERATOR_7 c.in-7.is refl

pub returns-in-8-clause-sound : goal.returns-in-8-clause-sound
unfolding value_at power product double shift_and_add
returns-in-8-clause-sound c = sound c.args.n 8 GENERATOR_8 c.in-8.is refl

pub returns-in-10-clause-sound : goal.returns-in-10-clause-sound
unfolding value_at power product double shift_and_add
returns-in-10-clause-sound c = sound c.args.n 10 GENERATOR_10 c.in-10.is refl

pub returns-in-13-clause-sound : goal.returns-in-13-clause-sound
unfolding value_at power product double shift_and_add
returns-in-13-clause-sound c = sound c.args.n 13 GENERATOR_13 c.in-13.is refl

pub returns-in-14-clause-sound : goal.returns-in-14-clause-sound
unfolding value_at power product double shift_and_add
returns-in-14-clause-sound c = sound c.args.n 14 GENERATOR_14 c.in-14.is refl

pub returns-in-15-clause-sound : goal.returns-in-15-clause-sound
unfolding value_at power product double shift_and_add
returns-in-15-clause-sound c = sound c.args.n 15 GENERATOR_15 c.in-15.is refl

pub returns-in-16-clause-sound : goal.returns-in-16-clause-sound
unfolding value_at power product double shift_and_add
returns-in-16-clause-sound c = sound c.args.n 16 GENERATOR_16 c.in-16.is refl

pub returns-in-17-clause-sound : goal.returns-in-17-clause-sound
unfolding value_at power product double shift_and_add
returns-in-17-clause-sound c = sound c.args.n 17 GENERATOR_17 c.in-17.is refl

pub returns-in-18-clause-sound : goal.returns-in-18-clause-sound
unfolding value_at power product double shift_and_add
returns-in-18-clause-sound c = sound c.args.n 18 GENERATOR_18 c.in-18.is refl

pub returns-in-20-clause-sound : goal.returns-in-20-clause-sound
unfolding value_at power product double shift_and_add
returns-in-20-clause-sound c = sound c.args.n 20 GENERATOR_20 c.in-20.is refl

pub returns-in-22-clause-sound : goal.returns-in-22-clause-sound
unfolding value_at power product double shift_and_add
returns-in-22-clause-sound c = sound c.args.n 22 GENERATOR_22 c.in-22.is refl

pub returns-in-24-clause-sound : goal.returns-in-24-clause-sound
unfolding value_at power product double shift_and_add
returns-in-24-clause-sound c = sound c.args.n 24 GENERATOR_24 c.in-24.is refl

pub returns-in-26-clause-sound : goal.returns-in-26-clause-sound
unfolding value_at power product double shift_and_add
returns-in-26-clause-sound c = sound c.args.n 26 GENERATOR_26 c.in-26.is refl

pub returns-in-28-clause-sound : goal.returns-in-28-clause-sound
unfolding value_at power product double shift_and_add
returns-in-28-clause-sound c = sound c.args.n 28 GENERATOR_28 c.in-28.is refl

pub returns-in-30-clause-sound : goal.returns-in-30-clause-sound
unfolding value_at power product double shift_and_add
returns-in-30-clause-sound c = sound c.args.n 30 GENERATOR_30 c.in-30.is refl
