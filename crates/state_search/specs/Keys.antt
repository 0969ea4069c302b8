-- Sets of keys.
use Rattle.std.specs.Prelude.{Bool, ◌==◌, ◌&&◌}
use Rattle.std.specs.HashSet.{HashSet, contains}
use Rattle.state_search.specs.declared.key.Key.{Key}

-- whether two keys are the same
abbrev pub is_same : Key → Key → Bool
is_same a b = (a.high == b.high) && (a.low == b.low)

-- whether a set has a key
abbrev pub has : {S : Type 0} → HashSet Key S → Key → Bool
has s k = contains is_same s k
