-- The states are those that are kept.
use Rattle.std.proofs.Common.{◌≡◌, ◌+◌, ◌*◌, ◌<◌, ◌≤◌, ◌^◌, length, ap, arith, rules}
use Rattle.debugger.specs.Sessions.{Session}
use Rattle.debugger.proofs.debugger.Debugger.kept_bytes.Goals as goal

pub returns-clause-counts : goal.returns-clause-counts
returns-clause-counts c =
    let size : c.self.inside.kept.len ≡ length c.self.inside.kept.items = search rules in
    let len : c.len-states.result ≡ c.self.inside.kept.len = c.len-states.ensures in
    let same : c.self.inside.place.machine.count ≡ c.args.self.now.count = ap (λ (s : Session). s.count) c.self.view_is in
    let enough : c.self.inside.place.machine.count < 1024 * length c.self.inside.kept.items = c.self.invariant.enough in
    let few : length c.self.inside.kept.items ≤ 2 ^ 30 + 1 = c.self.invariant.few in
    let most = c.min-blocks.ensures in
    record {
      states = c.len-states.result;
      blocks = c.min-blocks.result;
      bytes_are = omega arith;
      enough = omega (arith, size, len, same, enough);
      few = omega (arith, size, len, few);
      within = omega (arith, most);
    }
