use Rattle.std.proofs.Common.{arith, rules, ◌+◌, sym, subst, None, map, ◌≡◌, ◌∙◌, ap, true, false, Ok, ◌++◌, ◌∷◌, [], Bool}
use Rattle.std.specs.Prelude.{◌==◌, if◌then◌else◌}
use Rattle.std.proofs.lemmas.List.{map-append}
use Rattle.ar_value.specs.Answer.{◌>>=◌}
use Rattle.ar_value.specs.Operators.{boolean, items_in}
use Rattle.ar_value.specs.Value.{bool, items_of, list}
use Rattle.ar_machine.specs.Operand.{list_values, value_of}
use Rattle.ar_op.specs.Machine.{decided}
use Rattle.ar_tree.specs.Meaning.{over}
use Rattle.ar_tree.specs.Typed.{Typed}
use Rattle.ar_tree.specs.Typed as typed
use Rattle.ar_tree.specs.Views.{typed_view}
use Rattle.ar_tree.specs.declared.typed.Typed.{the_lemmas}
use Rattle.ar_operand.specs.Operand.{failure_of, operand_view}
use Rattle.ar_explain.specs.Lines.{Seen, each_item_lines, item_line, none_seen, unneeded_line}
use Rattle.ar_explain.specs.Private.Failed.{on_of}
use Rattle.ar_explain.specs.Private.Places.{ExplainsFound, apart_at, earlier_at, failed_at, holds_meant, holds_on, items_failed_at, items_lines_at, items_meant, lines_at, lines_on, meant, operated, operated_apart, operated_on, over_failed_on, place_view, scalar_failed_at, scalar_meant, seen_view, typeds_view, with_lines_at}
use Rattle.ar_explain.proofs.Walks.{after_failure, after_left, after_list, after_operand, after_taken, also, failure_came, held_on, look_once, look_twice, more, otherwise, own_after, value_came, value_is}
use Rattle.ar_explain.proofs.Loops.{all_items_made, all_lines_said, failed_after, failed_here, item_lines_after, item_lines_failed, items_after, items_failed, lines_after, none_within, rest_after, rest_of_all}
use Rattle.ar_explain.proofs.walk.+walk.Goals as goal

pub unary-returns-in-Ok : goal.unary-returns-in-Ok
unary-returns-in-Ok t c =
    let place = place_view c.args.place.now in
    let met = c.in_ok-met.ensures in
    after_operand place c.args.out.now c.parts.new.out c.say_operand.new.out c.in_ok-met.met c.args.operator (typed_view c.args.operand.now) met.0 met.1 c.in_ok-say_operand.ensures
    c.in-Ok.found c.unary_on.result c.in-Ok.is c.unary_on.ensures

pub unary-returns-in-Err : goal.unary-returns-in-Err
unary-returns-in-Err t c =
    let place = place_view c.args.place.now in
    let met = c.in_ok-met.ensures in
    after_failure place c.args.out.now c.parts.new.out c.say_operand.new.out c.in_ok-met.met c.args.operator (typed_view c.args.operand.now) met.0 met.1 c.in_ok-say_operand.ensures
    c.in-Err.failed c.inside.result c.in-Err.is c.inside.ensures.failure c.inside.ensures.on

pub binary-returns-in-Ok : goal.binary-returns-in-Ok
binary-returns-in-Ok t c =
    let place = place_view c.args.place.now in
    let left = c.in_ok-left.ensures in
    after_left place c.args.out.now c.walk.new.out c.binary_after.new.out c.binary_after.result (meant place (typed_view c.args.left.now)) (operand_view c.in-Ok.left)
    (λ value. operated c.args.operator value place (typed_view c.args.right.now)) (λ value. operated_on c.args.operator value place (typed_view c.args.right.now)) (λ value. operated_apart value place (typed_view c.args.right.now))
    (lines_at place (typed_view c.args.left.now)) (λ value. lines_at place (typed_view c.args.right.now))
    (value_is operand_view c.in_ok-left.field-0 c.in-Ok.left (meant place (typed_view c.args.left.now)) c.in-Ok.is left.0) left.1 c.binary_after.ensures

pub both-returns-in-Ok : goal.both-returns-in-Ok
both-returns-in-Ok t c =
    let place = place_view c.args.place.now in
    let right = typed_view c.args.right.now in
    let left = c.in_ok-holds.ensures in
    after_taken operand_view place c.args.out.now c.holds.new.out c.right_side.new.out c.right_side.result (meant place (typed_view c.args.left.now)) boolean c.in-Ok.holds
    (λ holds. if holds then meant place right else Ok (bool false)) (lines_at place (typed_view c.args.left.now)) (λ holds. if holds then lines_at place right else unneeded_line right ∷ [])
    (value_is (λ (it : Bool). it) c.in_ok-holds.field-0 c.in-Ok.holds (holds_meant place (typed_view c.args.left.now)) c.in-Ok.is left.0) left.1 c.right_side.ensures

pub either-returns-in-Ok : goal.either-returns-in-Ok
either-returns-in-Ok t c =
    let place = place_view c.args.place.now in
    let right = typed_view c.args.right.now in
    let left = c.in_ok-holds.ensures in
    after_taken operand_view place c.args.out.now c.holds.new.out c.right_side.new.out c.right_side.result (meant place (typed_view c.args.left.now)) boolean c.in-Ok.holds
    (λ holds. if holds then Ok (bool true) else meant place right) (lines_at place (typed_view c.args.left.now)) (λ holds. if holds then unneeded_line right ∷ [] else lines_at place right)
    (value_is (λ (it : Bool). it) c.in_ok-holds.field-0 c.in-Ok.holds (holds_meant place (typed_view c.args.left.now)) c.in-Ok.is left.0) left.1
    (otherwise operand_view place c.holds.new.out c.right_side.new.out c.right_side.result c.in-Ok.holds (meant place right) (Ok (bool true)) (lines_at place right) (unneeded_line right ∷ [])
    c.right_side.ensures)

pub choice-returns-in-Ok-true : goal.choice-returns-in-Ok-true
choice-returns-in-Ok-true t c =
    let place = place_view c.args.place.now in
    let condition = c.in_ok-holds.ensures in
    let first = typed_view c.args.then_branch.now in
    let second = typed_view c.args.else_branch.now in
    after_taken operand_view place c.args.out.now c.holds.new.out c.then_taken.new.out c.then_taken.result (meant place (typed_view c.args.condition.now)) boolean true
    (λ holds. if holds then meant place first else meant place second) (lines_at place (typed_view c.args.condition.now))
    (λ holds. if holds then lines_at place first ++ unneeded_line second ∷ [] else unneeded_line first ∷ [] ++ lines_at place second)
    (value_is (λ (it : Bool). it) c.in_ok-holds.field-0 true (holds_meant place (typed_view c.args.condition.now)) (c.in-Ok-true.is ∙ ap (λ it. Ok it) c.in-Ok-true.field-0-test) condition.0) condition.1 c.then_taken.ensures

pub choice-returns-in-Ok-false : goal.choice-returns-in-Ok-false
choice-returns-in-Ok-false t c =
    let place = place_view c.args.place.now in
    let condition = c.in_ok-holds.ensures in
    let first = typed_view c.args.then_branch.now in
    let second = typed_view c.args.else_branch.now in
    after_taken operand_view place c.args.out.now c.holds.new.out c.else_taken.new.out c.else_taken.result (meant place (typed_view c.args.condition.now)) boolean false
    (λ holds. if holds then meant place first else meant place second) (lines_at place (typed_view c.args.condition.now))
    (λ holds. if holds then lines_at place first ++ unneeded_line second ∷ [] else unneeded_line first ∷ [] ++ lines_at place second)
    (value_is (λ (it : Bool). it) c.in_ok-holds.field-0 false (holds_meant place (typed_view c.args.condition.now)) (c.in-Ok-false.is ∙ ap (λ it. Ok it) c.in-Ok-false.field-0-test) condition.0) condition.1 c.else_taken.ensures

pub over-returns-in-Ok : goal.over-returns-in-Ok
over-returns-in-Ok t c =
    let place = place_view c.args.place.now in
    let many = c.in_ok-many.ensures in
    let body = typed_view c.args.body.now in
    after_list operand_view place c.args.out.now c.walk.new.out c.over_operand.new.out c.over_operand.result (meant place (typed_view c.args.list.now)) (operand_view c.in-Ok.many)
    items_in (over c.args.predicate (holds_on place body)) over_failed_on (lines_at place (typed_view c.args.list.now)) (each_item_lines c.args.predicate body (holds_on place body) (lines_on place body) none_seen 0)
    (value_is operand_view c.in_ok-many.field-0 c.in-Ok.many (meant place (typed_view c.args.list.now)) c.in-Ok.is many.0) many.1 c.over_operand.ensures

pub holds_at-returns : goal.holds_at-returns
holds_at-returns t c =
    let inner = place_view c.in_ok-inner.inner in
    let body = typed_view c.args.body.now in
    let value = value_of c.args.looked.item in
    held_on (place_view c.args.place.now) inner c.args.looked.number value c.args.silent c.args.out.now c.holds.new.out c.holds.result body c.in_ok-inner.ensures
    (also (λ (it : Bool). it) inner c.args.out.now c.say.new.self c.holds.new.out c.holds.result (holds_meant inner body) (item_line body value ∷ []) (lines_at inner body) c.in_ok-say.ensures
    c.holds.ensures)

pub walk-returns : goal.walk-returns
walk-returns t c =
    let place = place_view c.args.place.now in
    let tree = typed_view c.args.tree.now in
    let met = c.in_ok-met.ensures in (
      c.plain.ensures (meant place tree) (failed_at place tree) met.0.0,
      own_after place c.args.out.now c.parts.new.out c.say_own.new.out c.in_ok-met.met (meant place tree) (failed_at place tree) (apart_at place tree) tree (earlier_at place tree) met.0 met.1
          c.in_ok-say_own.ensures,
    )

pub then_taken-returns : goal.then_taken-returns
then_taken-returns t c =
    let place = place_view c.args.place.now in
    let tree = typed_view c.args.then_branch.now in
    let met = c.in_ok-met.ensures in
    (met.0, more place c.args.out.now c.walk.new.out c.say.new.self (lines_at place tree) (unneeded_line (typed_view c.args.else_branch.now) ∷ []) met.1 c.in_ok-say.ensures)

pub look-returns-then-is_enough : goal.look-returns-then-is_enough
look-returns-then-is_enough t c =
    let place = place_view c.args.place.now in
    let body = typed_view c.args.body.now in
    let value = value_of c.args.looked.item in
    let met = c.in_ok-holds.ensures in (
      met.0,
      look_once place c.args.out.now c.holds_at.new.out c.in_ok-holds.holds (holds_on place body value) c.args.looked.predicate body (seen_view c.args.looked.seen) c.args.looked.number
          c.args.looked.at_end (lines_on place body value) met.0 (search rules) met.1,
    )

pub look-returns : goal.look-returns
look-returns t c =
    let place = place_view c.args.place.now in
    let body = typed_view c.args.body.now in
    let value = value_of c.args.looked.item in
    let met = c.in_ok-holds.ensures in
    look_twice place c.args.out.now c.holds_at.new.out c.say_gap.new.out c.holds_at-2.new.out c.in_ok-holds.holds c.holds_at-2.result (holds_on place body value) c.args.looked.predicate body
    (seen_view c.args.looked.seen) c.args.looked.number c.args.looked.at_end (lines_on place body value) met.0 (search rules) met.1 c.in_ok-say_gap.ensures c.holds_at-2.ensures

pub parts-returns-in_ok-field-in-Field : goal.parts-returns-in_ok-field-in-Field
parts-returns-in_ok-field-in-Field t c =
    let place = place_view c.args.place.now in
    let tree : typed_view c.args.tree.now ≡ typed.field (typed_view c.deref.result.now) c.in-Field.name =
    ap typed_view c.in-Field.is ∙ search (rules, the_lemmas) in
    let field : Typed = typed.field (typed_view c.deref.result.now) c.in-Field.name in
    let met = c.in_ok-field-in-Field.ensures in
    subst (λ tree. ExplainsFound place c.args.out.now c.field.new.out (Ok c.without_texts-in-Field.result) (meant place tree) (failed_at place tree) (apart_at place tree) (earlier_at place tree)) (sym tree)
    (c.without_texts-in-Field.ensures (meant place field) (failed_at place field) met.0, met.1)

pub listed-returns-in-Err : goal.listed-returns-in-Err
listed-returns-in-Err t c =
    let place = place_view c.args.place.now in
    let met = c.in_ok-value.ensures in
    let tree = typed_view c.item-item.result in
    let fails = failure_came value_of c.in_ok-value.field-0 c.in-Err.failed (scalar_meant place tree) (scalar_failed_at place tree) c.in-Err.is met.0 in
    let failure = failure_of c.in-Err.failed.failure in (
      (
        ap (λ m. m >>= λ items. Ok (list items)) (items_failed place c.args.items.now c.loop-item.item-index c.item-item.result c.loop-item-test.true c.item-item.is
            (map value_of c.loop-item.made.items) failure (items_meant place (typeds_view c.args.items.now)) fails.0 c.loop-item.invariant.0),
        failed_here place c.args.items.now c.loop-item.item-index c.item-item.result c.loop-item-test.true c.item-item.is
            failure (on_of c.in-Err.failed) (items_failed_at place (typeds_view c.args.items.now)) fails.0 fails.1 c.loop-item.invariant.2,
      ),
      item_lines_failed place c.args.items.now c.loop-item.item-index c.item-item.result c.loop-item-test.true c.item-item.is c.loop-item.out c.scalar.new.out
          (with_lines_at place c.args.out.now (items_lines_at place (typeds_view c.args.items.now))) c.loop-item.invariant.1 met.1 failure fails.0,
    )

pub listed-loop-item-preserved : goal.listed-loop-item-preserved
listed-loop-item-preserved t c =
    let place = place_view c.args.place.now in
    let met = c.in_ok-value.ensures in
    let tree = typed_view c.item-item.result in
    let has = value_came value_of c.in_ok-value.field-0 c.in-Ok.value (scalar_meant place tree) (scalar_failed_at place tree) c.in-Ok.is met.0 in
    let more : map value_of c.push.new.self.items ≡ map value_of c.loop-item.made.items ++ value_of c.in-Ok.value ∷ [] =
    ap (map value_of) c.in_ok-push-in-Ok.ensures.items ∙ map-append value_of c.loop-item.made.items (c.in-Ok.value ∷ []) in (
      items_after place c.args.items.now c.loop-item.item-index c.item-item.result c.loop-item-test.true c.item-item.is
          (map value_of c.loop-item.made.items) (map value_of c.push.new.self.items) (value_of c.in-Ok.value) (items_meant place (typeds_view c.args.items.now)) has more c.loop-item.invariant.0,
      item_lines_after place c.args.items.now c.loop-item.item-index c.item-item.result c.loop-item-test.true c.item-item.is c.loop-item.out c.scalar.new.out
          (with_lines_at place c.args.out.now (items_lines_at place (typeds_view c.args.items.now))) c.loop-item.invariant.1 met.1 (value_of c.in-Ok.value) has,
      failed_after place c.args.items.now c.loop-item.item-index c.item-item.result c.loop-item-test.true c.item-item.is
          (value_of c.in-Ok.value) (items_failed_at place (typeds_view c.args.items.now)) has c.loop-item.invariant.2,
    )

pub listed-returns : goal.listed-returns
listed-returns t c =
    let place = place_view c.args.place.now in (
      ap (λ m. m >>= λ items. Ok (list items)) (all_items_made place c.args.items.now c.loop-item.item-index (map value_of c.loop-item.made.items) (items_meant place (typeds_view c.args.items.now))
          c.loop-item-test.false c.loop-item.invariant.0),
      all_lines_said place c.args.items.now c.loop-item.item-index c.loop-item.out (with_lines_at place c.args.out.now (items_lines_at place (typeds_view c.args.items.now)))
          c.loop-item-test.false c.loop-item.invariant.1,
    )

pub each_item-loop-number-init : goal.each_item-loop-number-init
each_item-loop-number-init t c =
    let place = place_view c.args.place.now in
    let body = typed_view c.args.body.now in
    let all = with_lines_at place c.args.out.now (each_item_lines c.args.predicate body (holds_on place body) (lines_on place body) none_seen 0 (items_of (list_values c.args.list))) in
    let none = c.none-seen.ensures in (
      rw c.new-kept.ensures.items (rest_of_all (holds_on place body) c.args.predicate (items_of (list_values c.args.list))),
      ap (λ seen. with_lines_at place c.args.out.now (each_item_lines c.args.predicate body (holds_on place body) (lines_on place body) seen 0 (items_of (list_values c.args.list)))) none,
      omega arith,
      none_within _ 0 (ap (λ (seen : Seen). seen.items) none),
      none_within _ 0 (ap (λ (seen : Seen). seen.held) none),
    )

pub each_item-loop-number-preserved : goal.each_item-loop-number-preserved
each_item-loop-number-preserved t c =
    let place = place_view c.args.place.now in
    let body = typed_view c.args.body.now in
    let met = c.in_ok-holds.ensures in
    let values = list_values c.args.list in
    let value = value_of c.item.result in
    let has = value_is (λ (it : Bool). it) c.in_ok-holds.field-0 c.in-Ok.holds (holds_on place body value) c.in-Ok.is met.0 in
    let on : None ≡ decided c.args.predicate c.in-Ok.holds = search rules in
    let kept = c.in_ok-keep_found-in-None.ensures in
    let after = c.after-seen.ensures in (
      rest_after c.args.predicate (holds_on place body) values c.loop-number.number value c.item.ensures c.loop-number.counted c.count_with-counted.result
          (map value_of c.loop-number.kept.items) (map value_of c.keep_found.new.kept.items) c.in-Ok.holds (over c.args.predicate (holds_on place body) (items_of values)) has on
          c.count_with-counted.ensures.exact kept c.loop-number.invariant.0,
      lines_after place c.args.predicate body (holds_on place body) (lines_on place body) (seen_view c.loop-number.seen) values c.loop-number.number value c.item.ensures (omega arith)
          (c.loop-number.number + 1 == c.len-len.result) (ap (λ n. c.loop-number.number + 1 == n) c.len-len.ensures.all) c.loop-number.out c.look.new.out
          (with_lines_at place c.args.out.now (each_item_lines c.args.predicate body (holds_on place body) (lines_on place body) none_seen 0 (items_of values))) c.loop-number.invariant.1 met.1
          c.in-Ok.holds (seen_view c.after-seen.result) has on after.exact,
      omega (arith, c.count_with-counted.ensures.one_more),
      omega (arith, after.items),
      omega (arith, after.held),
    )
