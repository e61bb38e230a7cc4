use Rattle.std.proofs.Common.{◌≡◌, ◌∷◌, ◌+◌, drop, sym, ap, ◌∙◌, subst, arith}
use Rattle.std.proofs.lemmas.List.{drop_all, drop_more}
use Rattle.serde_json.specs.View.{items_view, members_view, view}
use Rattle.serde_json.specs.Written.{has_float, items_have_float, members_have_float}
use Rattle.serde_json.proofs.Views.{Entry}
use Rattle.ar_object.proofs.Texts.{EndsWith, last, list_is, named, next_value, none_remains, object_is, then}
use Rattle.ar_object.proofs.Trees.{map_ordered, neither}
use Rattle.ar_object.proofs.written.JsonText.+put_json_value.Goals as goal

pub put_items-loop-item-preserved : goal.put_items-loop-item-preserved
put_items-loop-item-preserved t c =
    let l = c.loop-item in
    let items = c.args.items.now in
    let one = c.item-item.result in
    let here : drop l.item-index items ≡ one ∷ drop (l.item-index + 1) items =
    drop_more items l.item-index one (omega arith) ∙ ap (λ first. first ∷ drop (l.item-index + 1) items) (sym c.item-item.is) in
    let none = neither (has_float (view one)) (items_have_float (items_view (drop (l.item-index + 1) items))) (rw here at l.invariant.0) in
    (none.1, next_value view _ _ one _ _ _ _ here c.put_json_value.ensures l.invariant.1)

pub put_items-returns : goal.put_items-returns
put_items-returns t c =
    let l = c.loop-item in
    list_is c.put_token.ensures (none_remains view _ _ _ _ (drop_all l.item-index c.args.items.now (omega arith)) l.invariant.1) c.put_token-2.ensures

pub put_members-loop-name-preserved : goal.put_members-loop-name-preserved
put_members-loop-name-preserved t c =
    let l = c.loop-name in
    let e : Entry = (c.in-Some.name.now, c.in-Some.value.now) in
    let left = c.next.new.self in
    let step : l.name-iterator ≡ e ∷ left = c.in-Some.ensures.steps in
    let none = neither (has_float (view e.1)) (members_have_float (members_view left)) (rw step at l.invariant.0) in
    let adds = rw c.as_str.ensures.value at (named c.put_key.ensures c.put_json_value.ensures) in
    (none.1, λ end rest. l.invariant.1 end (subst (λ entries. EndsWith (members_view entries) l.self.written end) (sym step) (then adds rest)))

pub put_members-returns : goal.put_members-returns
put_members-returns t c =
    let l = c.loop-name in
    let over = subst (λ entries. EndsWith (members_view entries) l.self.written c.put_token-2.new.self.written) (sym c.in-None.ensures.steps.0) (last c.put_token-2.ensures) in
    object_is c.put_token.ensures (l.invariant.1 _ over) (map_ordered c.args.members.now.entries c.iter-name-items.ensures.ordered)
