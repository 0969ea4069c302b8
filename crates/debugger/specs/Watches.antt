-- Which accesses meet a watch.
use Rattle.std.specs.Prelude.{ℕ, ◌+◌, ◌&&◌, Bool, true, false, nat_lt, max}
use Rattle.debugger.specs.declared.access.Access.{Access}
use Rattle.debugger.specs.declared.access.AccessKind.{AccessKind}
use Rattle.debugger.specs.declared.access.AccessKind.TheVariants.{Load, Store}
use Rattle.debugger.specs.declared.watching.WatchKind.{WatchKind}
use Rattle.debugger.specs.declared.watching.WatchKind.TheVariants.{Stores, Loads, Both}
use Rattle.debugger.specs.declared.watching.Watch.{Watch}

-- whether one of n bytes from an address on is watched: the greater of the two first addresses lies before both ends
abbrev pub shares : Watch → ℕ → ℕ → Bool
shares w at n = nat_lt (max w.at at) (w.at + w.length) && nat_lt (max w.at at) (at + n)

-- whether accesses of a kind meet a watch
abbrev pub sees : WatchKind → AccessKind → Bool
sees Stores Load = false
sees Stores Store = true
sees Loads Load = true
sees Loads Store = false
sees Both _ = true

-- whether an access meets a watch
abbrev pub is_met : Watch → Access → Bool
is_met w access = sees w.kind access.kind && shares w access.at access.length
