-- Each part is a lemma.
use Rattle.crash_models.proofs.Within.{bench_ordered, delayed_posix, ordered_delayed}
use Rattle.crash_models.proofs.each_within_the_next.Goals as goal

pub returns : goal.returns
returns _ = record {
  ordered = λ files changes left (m, at, b, l). (m, at, bench_ordered files changes m at b, l);
  delayed = λ files changes left (m, at, o, l). (m, at, ordered_delayed files changes m at o, l);
  posix = λ files changes left (m, at, d, l). (m, delayed_posix files changes m at d, l);
}
