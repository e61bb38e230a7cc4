use Rattle.ar_value.specs.View.{shape_view}
use Rattle.ar_safety.proofs.Safe.{verified_is_safe}
use Rattle.ar_safety.proofs.verified.Verified.new.Goals as goal

pub returns-clause-safe : goal.returns-clause-safe
returns-clause-safe c = λ value fit. verified_is_safe c.args.code (shape_view c.args.shape) c.args.budget c.args.depth value c.requires.code c.requires.verified fit
