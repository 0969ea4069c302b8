-- Each model is within the next, at the same moments.
use Rattle.std.proofs.Common.{◌≡◌, ℕ, suc, ◌<◌, ◌≤◌, List, length, refl, sym, ap, subst, ◌∙◌, arith}
use Rattle.std.specs.Prelude.{◌↔◌}
use Rattle.disk_model.specs.declared.change.Change.{Change}
use Rattle.disk_model.specs.Numbers.{Numbered}
use Rattle.crash_models.specs.Models.{Moments, IsBench, IsDelayed, IsOrdered, IsPosix}

pub bench_ordered : (files : Numbered) (changes : List Change) (m : Moments) (at : ℕ) → IsBench changes m at → IsOrdered files changes m at
bench_ordered files changes m at b = record {
  within = b.within;
  name = b.name;
  size = b.size;
  longer = λ u number k long le. let e = b.bytes number k in omega arith;
  emptied = λ u number k empties. ((λ le. let e = b.bytes number k in omega arith), (λ le. let e = b.bytes number k in omega arith));
}

pub ordered_delayed : (files : Numbered) (changes : List Change) (m : Moments) (at : ℕ) → IsOrdered files changes m at → IsDelayed files changes m at
ordered_delayed files changes m at o = record {
  within = o.within;
  name = o.name;
  size = λ number. let e = o.size number in omega arith;
  made = λ u number makes le. let e = o.size number in omega arith;
  shorter = λ u number empties le. let e = o.size number in omega arith;
  longer = λ u number k long le. o.longer u number k long (let e = o.size number in omega arith);
  emptied = λ u number k empties. let e = o.size number in
      ((λ le. (o.emptied u number k empties).0 (omega arith)), (λ le. let there = (o.emptied u number k empties).1 le in omega arith));
}

pub delayed_posix : (files : Numbered) (changes : List Change) (m : Moments) (at : ℕ) → IsDelayed files changes m at → IsPosix files changes m
delayed_posix files changes m at d = record {
  within = d.within;
  renames = λ t place old new change there. ((λ le. let e = d.name old.name in let f = d.name new.name in omega arith), (λ le. let e = d.name old.name in let f = d.name new.name in omega arith));
  empties = λ u number k empties le lt. absurd (let later = (d.emptied u number k empties).1 lt in let no : ⊥ = omega arith in no);
}
