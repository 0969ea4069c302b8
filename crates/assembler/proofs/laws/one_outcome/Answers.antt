use Rattle.assembler.proofs.Outcomes.{some-outcome, one-image, one-fault, image-or-fault}
use Rattle.assembler.proofs.laws.one_outcome.Goals as goal

pub returns : goal.returns
returns c = record {
  some = some-outcome c.one_reading.ensures.some;
  image = one-image c.one_reading.ensures.lines;
  fault = one-fault c.one_reading.ensures.lines c.one_reading.ensures.not_both c.one_reading.ensures.fault;
  not_both = image-or-fault c.one_reading.ensures.lines c.one_reading.ensures.not_both;
}
