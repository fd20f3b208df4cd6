-- Ten bits for three bytes exceed the capacity, or there are more bytes than fit any version.
use mir.Syntax.{w16}
use Rattle.qrcode_core.proofs.Prelude.{arith, nat_abs, to_z-of_z, ◌≡◌, ◌+◌, ◌*◌, ◌≤◌, ℕ, length, capacity, normal, Some, subst, Version}
use Rattle.std.specs.Prelude.{◌/◌}
use Rattle.qrcode_bits.proofs.{Classes.known_limit, Lengths.long_message}
use Rattle.qrcode_core.proofs.{Limited.few_versions, BestCuts.dense_none, BestCuts.far_none, BestCuts.is_normal}
use Rattle.qrcode_core.proofs.symbol.cuts.first_too_long.Goals as goal

pub returns-in-Ok-clause-too_long : goal.returns-in-Ok-clause-too_long
returns-in-Ok-clause-too_long c front message are long =
    let last = few_versions c.args.max_version c.requires.limit in
    let known : capacity (normal (nat_abs c.args.max_version)) c.args.level ≡ Some c.in-Ok.limit =
    subst (λ (v : Version). capacity v c.args.level ≡ Some c.in-Ok.limit) (is_normal c.args.max_version c.requires.limit)
    (known_limit _ c.in-Ok.limit _ (rw (to_z-of_z w16 c.args.max_version c.ranges.max_version) at c.in-Ok.ensures.is)) in
    far_none c.args.level (nat_abs c.args.max_version) ((c.in-Ok.limit / 10 + 1) * 3) last
    (dense_none c.args.level (nat_abs c.args.max_version) c.in-Ok.limit last known) front message are
    (subst (λ (n : ℕ). n ≤ length message) c.min.ensures long)

pub returns-in-Err-clause-too_long : goal.returns-in-Err-clause-too_long
returns-in-Err-clause-too_long c front message are long =
    let last = few_versions c.args.max_version c.requires.limit in
    long_message front message c.args.level (nat_abs c.args.max_version) last are (omega (arith, long))
