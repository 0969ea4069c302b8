-- Each part is a lemma.
use Rattle.crash_models.proofs.Prefixes.{bench_leaves, bench_only}
use Rattle.crash_models.proofs.bench_leaves_prefixes.Goals as goal

pub returns : goal.returns
returns _ = record { each = bench_leaves; only = bench_only }
