-- Each part is that of the copy.
use Rattle.std.proofs.Common.{map, refl, ap, ◌∙◌}
use Rattle.kernel_step.specs.Copies.{screen_of}
use Rattle.kernel_step.proofs.system.System.try_clone.Goals as goal

pub returns : goal.returns
returns c = record {
  marks = c.in_ok-try_clone.ensures;
  footprints = c.in_ok-try_clone-2.ensures;
  changes = c.in_ok-changes_of.ensures ∙ c.deref.ensures.value;
  files = c.in_ok-try_clone-3.ensures;
  tapes = c.in_ok-try_clone-4.ensures;
  pipes = c.in_ok-try_clone-5.ensures;
  processes = c.in_ok-try_clone-6.ensures;
  served = refl;
  screens = c.in_ok-screens_of.ensures ∙ ap (map screen_of) c.deref-2.ensures.value;
  committer = c.in_ok-try_clone-7.ensures;
}
