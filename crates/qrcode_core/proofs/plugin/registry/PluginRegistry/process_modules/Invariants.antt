use Rattle.qrcode_core.proofs.Prelude.{take, Ok, StepsInOrder}
use Rattle.qrcode_core.proofs.plugin.registry.PluginRegistry.process_modules.Given as goal

abbrev pub invariant-loop-postprocessor : goal.invariant-loop-postprocessor
invariant-loop-postprocessor g l =
    StepsInOrder (λ b. (goal.PostProcessor-dyn g (b.vtable, b.value)).processes b.value) (take l.postprocessor-index l.postprocessor-items)
    ((goal.ModuleStorage-dyn g l.initial.modules.now).grid l.initial.modules.now.1) (Ok tt)
    ((goal.ModuleStorage-dyn g l.modules.now).grid l.modules.now.1)
