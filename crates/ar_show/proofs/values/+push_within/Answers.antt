use Rattle.std.proofs.Common.{◌≡◌, ℕ, ◌+◌, ◌*◌, ◌-◌, ◌<◌, rules, arith, ◌∙◌, ◌++◌, ap, length, map, string_bytes}
use Rattle.std.specs.Prelude.{codes}
use Rattle.std.proofs.lemmas.Result.{on_ok_weaker}
use Rattle.ar_value.specs.View.{value_view}
use Rattle.ar_machine.specs.Operand.{list_values}
use Rattle.ar_quote.proofs.Appended.{at_ok, if_ok}
use Rattle.ar_show.proofs.Shortened.{counted_list, counted_record, no_field, no_item, shown_record, three_parts}
use Rattle.ar_show.proofs.values.+push_within.Goals as goal

pub push_items-returns : goal.push_items-returns
push_items-returns t c =
    on_ok_weaker c.push_left_out.result
    (λ added. added ∙ rw (c.saturating_sub.ensures, c.len-2.ensures.all)
    (no_item c.args.levels (list_values c.args.list) c.loop-index.index c.loop-index.first (string_bytes c.loop-index.out) _
    (rw (← c.len.ensures.all) (omega (arith, c.loop-index-test.false, c.min-index-end.ensures))) (omega (arith, c.loop-index.auto.index-end, c.min-index-end.ensures)) c.loop-index.invariant))
    c.push_left_out.ensures

pub push_fields-returns : goal.push_fields-returns
push_fields-returns t c =
    on_ok_weaker c.push_left_out.result
    (λ added. added ∙ rw c.saturating_sub.ensures
    (no_field c.args.levels c.args.names.now c.args.indices.now (map value_view c.args.given.now) c.loop-index.index c.loop-index.first (string_bytes c.loop-index.out) _
    (omega (arith, c.loop-index-test.false, c.min-index-end.ensures)) (omega (arith, c.loop-index.auto.index-end, c.min-index-end.ensures)) c.loop-index.invariant))
    c.push_left_out.ensures

pub push_list-returns-then-levels-eq0 : goal.push_list-returns-then-levels-eq0
push_list-returns-then-levels-eq0 t c =
    rw (← counted_list c.args.levels c.len-number.result (list_values c.args.list) c.if-levels-eq0.true c.len-number.ensures.all) (search rules)

pub push_record-returns-then-levels-eq0 : goal.push_record-returns-then-levels-eq0
push_record-returns-then-levels-eq0 t c =
    rw (← counted_record c.args.levels (length c.as_slice-names.result.now) c.args.fields.now c.if-levels-eq0.true (ap length c.as_slice-names.ensures.names)) (search rules)

pub push_record-returns : goal.push_record-returns
push_record-returns t c =
    if_ok c.push_str-2.result
    (λ last. three_parts (string_bytes c.args.out.now) (string_bytes c.push_str.new.self) (string_bytes c.push_fields.new.out) (string_bytes c.push_str-2.new.self) (codes "{") _ (codes "}")
    c.in_ok-push_str.ensures.bytes c.in_ok-push_fields.ensures last
    ∙ rw (c.as_slice-names.ensures.names, c.deref.ensures.value) (ap (λ text. string_bytes c.args.out.now ++ text) (shown_record c.args.levels c.args.fields.now c.if-levels-eq0.false)))
    (at_ok c.push_str-2.result (string_bytes c.push_str-2.new.self) (string_bytes c.push_fields.new.out ++ codes "}") (string_bytes c.push_fields.new.out) c.push_str-2.ensures.bytes)

-- a call with as many levels and a lower rank, or with one level less

lower : (low high levels t : ℕ) → low < high → 5 * levels + high ≡ t → 5 * levels + low < t
lower low high levels t below before = omega arith

as_many : (levels t : ℕ) → 5 * levels + 1 ≡ t → 5 * levels < t
as_many levels t before = omega arith

fewer : (rank levels t : ℕ) → rank < 5 → (levels ≡ 0 → ⊥) → 5 * levels ≡ t → 5 * (levels - 1) + rank < t
fewer rank levels t small some before = omega arith

pub push_within-push_list-requires : goal.push_within-push_list-requires
push_within-push_list-requires t c = (as_many c.args.levels t c.decreases, tt)

pub push_within-push_record-requires : goal.push_within-push_record-requires
push_within-push_record-requires t c = (as_many c.args.levels t c.decreases, tt)

pub push_list-push_items-requires : goal.push_list-push_items-requires
push_list-push_items-requires t c = (fewer 2 c.args.levels t (omega arith) c.if-levels-eq0.false c.decreases, tt)

pub push_record-push_fields-requires : goal.push_record-push_fields-requires
push_record-push_fields-requires t c = (fewer 4 c.args.levels t (omega arith) c.if-levels-eq0.false c.decreases, tt)

pub push_items-push_within-requires : goal.push_items-push_within-requires
push_items-push_within-requires t c = (lower 1 2 c.args.levels t (omega arith) c.decreases, tt)

pub push_fields-push_field-requires : goal.push_fields-push_field-requires
push_fields-push_field-requires t c = (lower 3 4 c.args.levels t (omega arith) c.decreases, tt)

pub push_found-push_within-requires : goal.push_found-push_within-requires
push_found-push_within-requires t c = (lower 1 2 c.args.levels t (omega arith) c.decreases, tt)
