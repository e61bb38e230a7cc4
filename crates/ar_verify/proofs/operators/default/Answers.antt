use Rattle.std.proofs.Common.{rules, ◌∙◌, ap, option_map, sym}
use Rattle.ar_verify.specs.Private.Kinds.{parts_kind}
use Rattle.ar_verify.proofs.Meets.{needed_merge, nil_replaced}
use Rattle.ar_verify.proofs.operators.default.Goals as goal

pub returns-in-Some : goal.returns-in-Some
returns-in-Some g c =
    rw (← needed_merge (parts_kind c.args.operand.now) (parts_kind c.args.other.now) (parts_kind c.in-Some.needed) (sym (ap (option_map parts_kind) c.in-Some.is) ∙ c.in_ok-needed.ensures)) c.merge.ensures

pub returns-in-None : goal.returns-in-None
returns-in-None g c =
    rw (← nil_replaced (parts_kind c.args.operand.now) (parts_kind c.args.other.now) (sym (ap (option_map parts_kind) c.in-None.is) ∙ c.in_ok-needed.ensures)) c.given_again.ensures
