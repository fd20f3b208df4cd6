-- The registry has the three renderers by their names.
use Rattle.std.proofs.Common.{◌≡◌, refl, subst}
use Rattle.std.specs.Prelude.{◌⊎◌, Err, codes}
use Rattle.qrcode_core.specs.{declared.plugin.error.PluginError.PluginError, Registries.registered}
use Rattle.qrcode_render.specs.declared.format.Format.TheVariants.{Svg, Pbm, Terminal}
use Rattle.uses.proofs.NameLemmas.{three, holds_three, at_svg, at_pbm, at_terminal, at_others, object_there, nothing_there, drawn_by_name}
use denote.Param.Object.{read_made}
use Rattle.uses.proofs.rendering.render_by_name.OwnLists as own
use Rattle.uses.proofs.rendering.render_by_name.Goals as goal

pub returns : goal.returns
returns g c =
    let svg = c.into_dyn_box.result in
    let pbm = c.into_dyn_box-in_ok-new-2.result in
    let terminal = c.into_dyn_box-in_ok-new-3.result in
    let grid = (goal.ModuleSource-dyn g c.args.code.now).grid c.args.code.now.1 in
    let config = c.args.config.now in
    let answer = c.draw_by_name.result in
    let all = (registered c.register_renderer-3.new.self).renderers in
    let held : all ≡ three svg pbm terminal =
    holds_three (registered c.new-registry.result) (registered c.register_renderer.new.self) (registered c.register_renderer-2.new.self)
    (registered c.register_renderer-3.new.self)
    svg pbm terminal c.new-registry.ensures c.in_ok-register_renderer.ensures.ok c.in_ok-register_renderer-2.ensures.ok
    c.in_ok-register_renderer-3.ensures.ok in
    record {
      svg = λ e. drawn_by_name Svg grid config answer
          (subst (λ (P : Type 0). P)
          (read_made own.own-2 own.entry-2-1 own.at-2-1 refl (Type 0)
          (λ j v. j.1.renders v grid config answer ⊎ ((error : PluginError) × (answer ≡ Err error) × j.1.validates v config (Err error)))
          svg.vtable svg.value c.in_ok-new.field-0.value c.into_dyn_box.ensures.1)
          (object_there all (three svg pbm terminal) c.args.name.now (codes "svg") svg _ held e (at_svg svg pbm terminal) c.draw_by_name.ensures.found));
      pbm = λ e. drawn_by_name Pbm grid config answer
          (subst (λ (P : Type 0). P)
          (read_made own.own-2 own.entry-2-2 own.at-2-2 refl (Type 0)
          (λ j v. j.1.renders v grid config answer ⊎ ((error : PluginError) × (answer ≡ Err error) × j.1.validates v config (Err error)))
          pbm.vtable pbm.value c.in_ok-new-2.field-0.value c.into_dyn_box-in_ok-new-2.ensures.1)
          (object_there all (three svg pbm terminal) c.args.name.now (codes "pbm") pbm _ held e (at_pbm svg pbm terminal) c.draw_by_name.ensures.found));
      terminal = λ e. drawn_by_name Terminal grid config answer
          (subst (λ (P : Type 0). P)
          (read_made own.own-2 own.entry-2-3 own.at-2-3 refl (Type 0)
          (λ j v. j.1.renders v grid config answer ⊎ ((error : PluginError) × (answer ≡ Err error) × j.1.validates v config (Err error)))
          terminal.vtable terminal.value c.in_ok-new-3.field-0.value c.into_dyn_box-in_ok-new-3.ensures.1)
          (object_there all (three svg pbm terminal) c.args.name.now (codes "terminal") terminal _ held e
          (at_terminal svg pbm terminal) c.draw_by_name.ensures.found));
      missing = λ a b d. nothing_there all (three svg pbm terminal) c.args.name.now _ held
          (at_others svg pbm terminal c.args.name.now a b d) c.draw_by_name.ensures.missing;
    }
