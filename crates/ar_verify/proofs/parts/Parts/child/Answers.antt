use Rattle.std.proofs.Common.{map, ap, ◌∙◌}
use Rattle.std.proofs.lemmas.Result.{IfOk-weaker}
use Rattle.ar_verify.specs.Private.Parts.{part_view}
use Rattle.ar_verify.specs.Private.Roots.{child}
use Rattle.ar_verify.proofs.Meets.{child_of, children_of}
use Rattle.ar_verify.proofs.parts.Parts.child.Goals as goal

pub new-requires : goal.new-requires
new-requires g c =
    children_of c.args.number (part_view c.args.self.now.first.value) _ (map (λ other. part_view other.value) c.args.self.now.others.items) _
    (c.in_ok-child.ensures ∙ ap (λ p. child c.args.number (part_view p)) c.deref-2.ensures)
    (c.in_ok-others.ensures ∙ ap (λ items. map (child c.args.number) (map (λ other. part_view other.value) items)) c.deref.ensures.value) c.args.self.now.alike

pub returns : goal.returns
returns g c =
    IfOk-weaker c.new.result _ _ (λ parts is. is
    ∙ child_of c.args.number (part_view c.args.self.now.first.value) _ (map (λ other. part_view other.value) c.args.self.now.others.items) _
    (c.in_ok-child.ensures ∙ ap (λ p. child c.args.number (part_view p)) c.deref-2.ensures)
    (c.in_ok-others.ensures ∙ ap (λ items. map (child c.args.number) (map (λ other. part_view other.value) items)) c.deref.ensures.value) c.args.self.now.alike)
    c.new.ensures
