-- The terminal to which the call at which a process stands may write.
use Rattle.std.proofs.Common.{◌≡◌, ◌∙◌, ℕ, Option, None, slice_index, ap}
use Rattle.kernel_model.specs.Rows.{descriptor_at}
use Rattle.kernel_model.specs.declared.descriptor.Descriptor.{Descriptor}
use Rattle.machine_model.specs.Effects.{reg as register}
use Rattle.processes.specs.Parts.{descriptors_in, part_at}
use Rattle.replayed_runs.specs.Owning.{written_by as written_at}
use Rattle.replayed_runs.proofs.Taking.{call_goes, no_call_goes}
use Rattle.replayed_runs.proofs.private.terminal_of.Goals as goal

pub returns-in-Ok : goal.returns-in-Ok
returns-in-Ok c =
    let m = c.in-Ok.machine.now in
    let parts = c.tables.result.processes.now.parts in
    let number : c.reg.result ≡ slice_index m.architectural.registers 17 = c.reg.ensures.value ∙ ap (λ (r : ℕ). register m.architectural r) c.new.ensures in
    let first : c.reg-in-Ok.result ≡ slice_index m.architectural.registers 10 = c.reg-in-Ok.ensures.value ∙ ap (λ (r : ℕ). register m.architectural r) c.new-in-Ok.ensures in
    call_goes c.args.core.now c.args.pid m parts c.written_by.result c.in-Ok.ensures.machine c.tables.ensures.parts (
    c.written_by.ensures
    ∙ ap (λ (n : ℕ). written_at n c.descriptor.result) number
    ∙ ap (λ (d : Option Descriptor). written_at (slice_index m.architectural.registers 17) d) c.descriptor.ensures
    ∙ ap (λ (fd : ℕ). written_at (slice_index m.architectural.registers 17) (descriptor_at (descriptors_in (part_at parts c.args.pid)) fd)) first)

pub returns-in-Err : goal.returns-in-Err
returns-in-Err c = no_call_goes c.args.core.now c.args.pid None c.in-Err.ensures.none.1
