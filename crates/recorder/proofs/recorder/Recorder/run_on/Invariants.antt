-- The core so far: each loan that was done left an event at least. The process had nothing at first, if a loan was done.
use Rattle.std.proofs.Common.{◌≡◌, ◌+◌, ◌≤◌, length}
use Rattle.kernel_model.specs.Answers.{now}
use Rattle.kernel_model.specs.Drains.{IsAllCommitted}
use Rattle.recorder.specs.Recording.{Grows, HasNone, loans_given}
use Rattle.recorder.proofs.recorder.Recorder.run_on.Given as goal

abbrev pub invariant-loop : goal.invariant-loop
invariant-loop l = record {
  ran : length l.initial.self.kernel.history + l.counter ≤ length l.self.kernel.history;
  few : loans_given l.self.kernel ≤ loans_given l.initial.self.kernel + l.counter;
  none : (HasNone l.initial.self → ⊥) → l.counter ≡ 0;
  committed : IsAllCommitted (now l.self.kernel);
  grows : Grows l.initial.self.kernel l.self.kernel;
  process : l.self.process ≡ l.initial.self.process;
  taken : l.self.taken ≡ l.initial.self.taken;
}
