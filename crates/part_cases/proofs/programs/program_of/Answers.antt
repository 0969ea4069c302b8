-- A program of one segment meets the profile.
use Rattle.std.proofs.Common.{◌≡◌, ◌<◌, ◌≤◌, length, rules, ap}
use Rattle.part_cases.proofs.Profiles.{IsProfile-one}
use Rattle.part_cases.proofs.programs.program_of.Goals as goal

pub new-requires-2 : goal.new-requires-2
new-requires-2 c =
    let some : 0 < c.len-2.result = search rules in
    let few : c.len-2.result ≤ 4096 = search rules in
    let same : length c.new.result ≡ length c.loop-word.bytes.items = ap length c.new.ensures in
    let within : length c.new.result ≤ c.len-2.result = search (rules, same) in
    IsProfile-one c.args.at c.len-2.result c.args.write c.new.result c.in_ok-segments.segments.items c.in_ok-segments.ensures.items some few within (search rules) (search rules) (search rules)
