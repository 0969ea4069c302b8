use Rattle.run_page.proofs.Calm.{all_calm}
use Rattle.run_page.proofs.embedding.embedded_is_plain.Goals as goal

pub returns : goal.returns
returns c = all_calm
