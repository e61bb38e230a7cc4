use Rattle.std.proofs.Common.{subst}
use Rattle.ar_value.specs.View.{shape_view}
use Rattle.ar_safety.specs.Safety.{RunsSafely}
use Rattle.ar_safety.proofs.Safe.{verified_is_safe}
use Rattle.ar_safety.proofs.verified.Verified.code.Goals as goal

pub returns-clause-safe : goal.returns-clause-safe
returns-clause-safe c =
    subst RunsSafely c.self.view_is (λ value fit. verified_is_safe c.self.inside.code (shape_view c.self.inside.shape) c.self.inside.budget c.self.inside.depth value c.self.invariant.1 c.self.invariant.0 fit)
