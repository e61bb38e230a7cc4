use Rattle.std.proofs.Common.{◌≡◌, length, arith}
use Rattle.std.proofs.lemmas.List.{with_items_is}
use Rattle.ar_verify.proofs.arrivals.Pass.look_at.Goals as goal

pub add-requires-clause-inside : goal.add-requires-clause-inside
add-requires-clause-inside g c =
    let long : length c.take.new.arrived ≡ c.args.self.now.arrived.len = omega arith in
    let inside = c.requires.inside in
    rw (with_items_is c.args.self.now.arrived c.take.new.arrived long) (omega (arith, inside))

pub add-requires-clause-targets : goal.add-requires-clause-targets
add-requires-clause-targets g c =
    let long : length c.take.new.arrived ≡ c.args.self.now.arrived.len = omega arith in
    let as_long : length c.take.new.arrived ≡ length c.args.self.now.arrived.items = omega arith in
    rw (with_items_is c.args.self.now.arrived c.take.new.arrived long, as_long) c.requires.targets
