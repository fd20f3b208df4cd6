-- The last units of a segment whose plan fits, and those one unit longer.
use Rattle.qrcode_bits.proofs.Prelude.{◌≡◌, ◌-◌, ◌≤◌, List, Some, sym, subst, arith, length, capacity, normal, parsed, bits_before, Segment, Version}
use Rattle.qrcode_bits.specs.Optimizer.{IsShort, AreLastUnits}
use Rattle.qrcode_bits.proofs.{Classes.known_limit, Classes.normal_is, Classes.short-linear, Adjoining.parsed-short, Fitting.room, Fitting.small_headers}
use Rattle.qrcode_bits.proofs.{Fitting.none_past_end, Firsts.all_fit, FirstUnits.parsed_cuttable, FirstUnits.last_fit, FirstUnits.last_unfit}
use Rattle.qrcode_bits.proofs.{FirstUnits.last_close, FirstUnits.last_less}
use Rattle.qrcode_bits.proofs.bits.fitting.fitting_between.Goals as goal

pub overflow_sub-limit : goal.overflow_sub-limit
overflow_sub-limit c =
    let is = normal_is c.args.number c.requires.to_forty in
    let known : capacity (normal c.args.number) c.args.level ≡ Some c.in-Ok.limit =
    subst (λ (v : Version). capacity v c.args.level ≡ Some c.in-Ok.limit) is (known_limit _ c.in-Ok.limit _ c.in-Ok.ensures.is) in
    let some = room c.args.level c.args.number c.in-Ok.limit c.requires.from_one known in omega (arith, c.requires.ahead, some)

pub last_uncounted-requires-clause-linear : goal.last_uncounted-requires-clause-linear
last_uncounted-requires-clause-linear c =
    rw (c.requires.segments, normal_is c.args.number c.requires.to_forty)
    (short-linear c.args.bytes.now (normal c.args.number) (small_headers c.args.number) c.requires.short)

pub last_uncounted-requires-clause-short : goal.last_uncounted-requires-clause-short
last_uncounted-requires-clause-short c =
    subst (λ (s : List Segment). IsShort s) (sym c.requires.segments) (parsed-short c.args.bytes.now c.requires.short)

pub last_uncounted-requires-clause-cuts : goal.last_uncounted-requires-clause-cuts
last_uncounted-requires-clause-cuts c =
    rw (c.requires.segments, normal_is c.args.number c.requires.to_forty)
    (parsed_cuttable c.args.bytes.now (normal c.args.number) (small_headers c.args.number) c.requires.short)

pub returns-in-Some-clause-less : goal.returns-in-Some-clause-less
returns-in-Some-clause-less c =
    let is = normal_is c.args.number c.requires.to_forty in
    let known : capacity (normal c.args.number) c.args.level ≡ Some c.in-Ok.limit =
    subst (λ (v : Version). capacity v c.args.level ≡ Some c.in-Ok.limit) is (known_limit _ c.in-Ok.limit _ c.in-Ok.ensures.is) in
    let some = room c.args.level c.args.number c.in-Ok.limit c.requires.from_one known in
    let w : AreLastUnits (parsed c.args.bytes.now) (normal c.args.number) (c.in-Ok.limit - c.args.ahead) c.in-Some.places.0 c.in-Some.places.1 =
    rw (c.requires.segments, is) at c.in-Some.ensures.units in
    last_less c.args.bytes.now c.args.level c.args.number c.in-Ok.limit c.args.ahead known (omega (arith, some, c.requires.ahead)) _ _ w

pub returns-in-Some-clause-fits : goal.returns-in-Some-clause-fits
returns-in-Some-clause-fits c =
    let is = normal_is c.args.number c.requires.to_forty in
    let known : capacity (normal c.args.number) c.args.level ≡ Some c.in-Ok.limit =
    subst (λ (v : Version). capacity v c.args.level ≡ Some c.in-Ok.limit) is (known_limit _ c.in-Ok.limit _ c.in-Ok.ensures.is) in
    let some = room c.args.level c.args.number c.in-Ok.limit c.requires.from_one known in
    let w : AreLastUnits (parsed c.args.bytes.now) (normal c.args.number) (c.in-Ok.limit - c.args.ahead) c.in-Some.places.0 c.in-Some.places.1 =
    rw (c.requires.segments, is) at c.in-Some.ensures.units in
    last_fit c.args.bytes.now c.args.level c.args.number c.in-Ok.limit c.args.ahead known (omega (arith, some, c.requires.ahead)) _ _ w

pub returns-in-Some-clause-unfit : goal.returns-in-Some-clause-unfit
returns-in-Some-clause-unfit c =
    let is = normal_is c.args.number c.requires.to_forty in
    let known : capacity (normal c.args.number) c.args.level ≡ Some c.in-Ok.limit =
    subst (λ (v : Version). capacity v c.args.level ≡ Some c.in-Ok.limit) is (known_limit _ c.in-Ok.limit _ c.in-Ok.ensures.is) in
    let some = room c.args.level c.args.number c.in-Ok.limit c.requires.from_one known in
    let w : AreLastUnits (parsed c.args.bytes.now) (normal c.args.number) (c.in-Ok.limit - c.args.ahead) c.in-Some.places.0 c.in-Some.places.1 =
    rw (c.requires.segments, is) at c.in-Some.ensures.units in
    last_unfit c.args.bytes.now c.args.level c.args.number c.in-Ok.limit c.args.ahead known (omega (arith, some, c.requires.ahead)) _ _ w

pub returns-in-Some-clause-close : goal.returns-in-Some-clause-close
returns-in-Some-clause-close c =
    let is = normal_is c.args.number c.requires.to_forty in
    let known : capacity (normal c.args.number) c.args.level ≡ Some c.in-Ok.limit =
    subst (λ (v : Version). capacity v c.args.level ≡ Some c.in-Ok.limit) is (known_limit _ c.in-Ok.limit _ c.in-Ok.ensures.is) in
    let some = room c.args.level c.args.number c.in-Ok.limit c.requires.from_one known in
    let w : AreLastUnits (parsed c.args.bytes.now) (normal c.args.number) (c.in-Ok.limit - c.args.ahead) c.in-Some.places.0 c.in-Some.places.1 =
    rw (c.requires.segments, is) at c.in-Some.ensures.units in
    last_close c.args.bytes.now c.args.level c.args.number c.in-Ok.limit c.args.ahead known (omega (arith, some, c.requires.ahead)) _ _ w

pub returns-in-None-clause-fits : goal.returns-in-None-clause-fits
returns-in-None-clause-fits c =
    let is = normal_is c.args.number c.requires.to_forty in
    let known : capacity (normal c.args.number) c.args.level ≡ Some c.in-Ok.limit =
    subst (λ (v : Version). capacity v c.args.level ≡ Some c.in-Ok.limit) is (known_limit _ c.in-Ok.limit _ c.in-Ok.ensures.is) in
    let some = room c.args.level c.args.number c.in-Ok.limit c.requires.from_one known in
    let few : bits_before (parsed c.args.bytes.now) (normal c.args.number) (length (parsed c.args.bytes.now)) ≤ c.in-Ok.limit - c.args.ahead =
    rw (c.requires.segments, is) at c.in-None.ensures.units in
    all_fit c.args.bytes.now c.args.level c.args.number c.in-Ok.limit c.args.ahead known (omega (arith, few, some, c.requires.ahead))

pub returns-in-None-clause-unfit : goal.returns-in-None-clause-unfit
returns-in-None-clause-unfit c q a h = absurd (none_past_end c.args.bytes.now q a h)
