-- Where none runs on, a process that has not ended and does not wait is free.
use Rattle.std.proofs.Common.{◌≡◌, true, is_some, ap, subst, ◌∙◌, inl}
use Rattle.kernel_model.specs.Answers.{process_of}
use Rattle.kernel_model.specs.Loans.{standing_of}
use Rattle.recorder.specs.Recording.{Recording}
use Rattle.recorder.proofs.Stopping.{stands-free}
use Rattle.recorder.proofs.recorder.Recorder.rest.Goals as goal

pub returns-in_default : goal.returns-in_default
returns-in_default c =
    let there : is_some (process_of c.args.self.now.kernel c.args.self.now.process) ≡ true =
    subst (λ (r : Recording). is_some (process_of r.kernel r.process) ≡ true) c.self.view_is c.in_ok-standing.ensures.there in
    let stands : c.in_ok-standing.field-0 ≡ standing_of c.args.self.now.kernel c.args.self.now.process =
    c.in_ok-standing.ensures.standing ∙ ap (λ (r : Recording). standing_of r.kernel r.process) c.self.view_is in
    record {
      finds = tt;
      waits = tt;
      refused = inl (
        c.requires.over,
        stands-free c.args.self.now.kernel c.args.self.now.process
            (c.ends_are_handed_out.ensures c.args.self.now.kernel c.args.self.now.process c.requires.committed there)
            (c.requires.none there).1 c.requires.over (λ waits. c.in_default.not-Waits (stands ∙ waits)),
      );
    }
