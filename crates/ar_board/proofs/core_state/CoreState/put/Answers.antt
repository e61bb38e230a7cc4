use Rattle.std.proofs.Common.{rules, ◌+◌, refl, arith}
use Rattle.ar_board.specs.Private.Inside.{state_of}
use Rattle.ar_board.proofs.CoreSteps.{puts_sound}
use Rattle.ar_board.proofs.core_state.CoreState.put.Goals as goal

pub invariant_of-self : goal.invariant_of-self
invariant_of-self c =
    let sound = puts_sound c.self.inside.bundle.now (state_of c.self.inside) (c.self.inside.next + 1) c.push_back_reserved.new.self.items c.self.invariant.sound (omega arith) refl c.push_back_reserved.ensures.items in
    search (rules, sound)
