-- The laws of the crates below, put together.
use Rattle.std.specs.Prelude.{All}
use Rattle.memory_model.specs.Memory.{Memory}
use Rattle.std.proofs.Common.{ap}
use Rattle.machine_model.specs.{Images.Program, Images.IsProfile, First.first_state}
use Rattle.assembler.specs.{Assembly.data_segments, Sections.text_of, Sections.data_of, Sections.data_begins, Sections.IsByLines}
use Rattle.source_laws.specs.Loaded.{IsFetched}
use Rattle.source_laws.proofs.{Fetching.text-fetched, Fetching.instructions-fetched, Files.names-alone}
use Rattle.source_laws.proofs.sources_are_loaded.Goals as goal

pub returns : goal.returns
returns c = λ source image listing assembles.
    let memory : Memory = (first_state image).architectural.memory in
    let profile : IsProfile image = c.assembled_is_listed.ensures.profile source image listing assembles in
    let by_lines : IsByLines source image = c.images_are_by_lines.ensures source image listing assembles in
    let rows : All (IsFetched memory) listing =
    text-fetched memory image.segments listing (text_of by_lines.parts) (data_segments (data_begins by_lines.parts) (data_of by_lines.parts)) (ap (λ (p : Program). p.segments) by_lines.made)
    (c.assembled_is_listed.ensures.listed source image listing assembles) (c.assembled_is_listed.ensures.words source image listing assembles) (c.segments_are_loaded.ensures image profile) in
    record {
      profile = profile;
      file = names-alone c.round_trips.ensures image profile;
      rows = rows;
      instructions = instructions-fetched source listing memory (c.assembled_is_listed.ensures.meant source image listing assembles) rows;
    }
