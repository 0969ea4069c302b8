-- What comes next leaves what it does not store to.
use Rattle.std.proofs.Common.{◌≡◌, rules}
use Rattle.debugger.specs.Accesses.{next_access_of}
use Rattle.debugger.specs.Sessions.{place_at}
use Rattle.debugger.proofs.Outside.{leaves-outside}
use Rattle.debugger.proofs.debugger.Debugger.next_access.Goals as goal

pub returns-clause-outside : goal.returns-clause-outside
returns-clause-outside c =
    let is : c.next_access.result ≡ next_access_of (place_at c.args.self.now c.args.self.now.count) = search rules in
    leaves-outside (place_at c.args.self.now c.args.self.now.count) c.next_access.result is
