use Rattle.std.proofs.Common.{true, false, is_some, option_map, List, ◌≡◌, ◌-◌, ◌<◌, [], ◌∷◌, length, Some, None, refl, ap, ap₂, ◌∙◌, arith}
use Rattle.json.specs.Json.{after_end_array, members, read_key, value}
use Rattle.json.specs.Reads.{token_of}
use Rattle.json.specs.Token.{Token}
use Rattle.json.proofs.Grammar.{read_key-shorter, value-begin_object, value_is}
use Rattle.serde_json.specs.Data.{Data, no_members, number, object}
use Rattle.serde_json.specs.Read.{converted, number_of, of_json, of_members}
use Rattle.ar_stream.specs.Passing.{data_at}
use Rattle.ar_stream.proofs.Taken.{after_array}
use Rattle.ar_stream.proofs.Turns.{found_of, no_object, object_found, item_passed, item_stuck, items_passed, member_passed, member_stuck, members_passed, no_key, none_is, some_is}
use Rattle.ar_stream.proofs.passing.+pass.Goals as goal

-- ---- the rest of an array

pub pass_items-loop-reader-init : goal.pass_items-loop-reader-init
pass_items-loop-reader-init t c = (length c.args.reader.now, omega arith, refl, omega arith)

pub pass_items-loop-reader-preserved : goal.pass_items-loop-reader-preserved
pass_items-loop-reader-preserved t c =
    let l = c.loop-reader in
    let going : (after_end_array l.reader ≡ None) × (c.take_end_array.new.self ≡ l.reader) = grind arith in
    let less : length c.pass_value.new.reader < length l.reader = rw (← going.1) c.in_ok-pass_value.ensures.shorter in (
      l.invariant.0 - 1,
      omega (arith, l.invariant.1),
      l.invariant.2
          ∙ item_passed (value c.args.levels) l.invariant.0 l.reader _ (omega (arith, l.invariant.1)) going.0 (rw (← going.1) c.in_ok-pass_value.ensures.value),
      omega (arith, l.invariant.3),
    )

pub pass_items-returns-in_err-pass_value-clause-value : goal.pass_items-returns-in_err-pass_value-clause-value
pass_items-returns-in_err-pass_value-clause-value t c =
    let l = c.loop-reader in
    let going : (after_end_array l.reader ≡ None) × (c.take_end_array.new.self ≡ l.reader) = grind arith in
    let none = l.invariant.2
    ∙ item_stuck (value c.args.levels) l.invariant.0 l.reader going.0 (rw (← going.1) c.in_err-pass_value.ensures.value) in
    grind (arith, none)

pub pass_items-returns-clause-value : goal.pass_items-returns-clause-value
pass_items-returns-clause-value t c =
    let l = c.loop-reader in
    l.invariant.2 ∙ items_passed (value c.args.levels) l.invariant.0 l.reader c.take_end_array.new.self l.invariant.1 (grind arith)

-- ---- the rest of an object

pub pass_members-loop-reader-init : goal.pass_members-loop-reader-init
pass_members-loop-reader-init t c = (length c.args.reader.now, omega arith, refl, omega arith)

pub pass_members-returns-in_err-next_key-clause-value : goal.pass_members-returns-in_err-next_key-clause-value
pass_members-returns-in_err-next_key-clause-value t c =
    let l = c.loop-reader in
    let none = l.invariant.2 ∙ no_key (value c.args.levels) l.invariant.0 l.reader c.in_err-next_key.ensures.value in
    grind (arith, none)

pub pass_members-loop-reader-preserved : goal.pass_members-loop-reader-preserved
pass_members-loop-reader-preserved t c =
    let l = c.loop-reader in
    let named : read_key l.reader ≡ Some (Some c.in-Some.field-0.now, c.next_key.new.self) = grind arith in
    let less = read_key-shorter l.reader _ _ named in
    let lesser = c.in_ok-pass_value.ensures.shorter in (
      l.invariant.0 - 1,
      omega (arith, l.invariant.1),
      l.invariant.2
          ∙ member_passed (value c.args.levels) l.invariant.0 _ l.reader c.next_key.new.self _ (omega (arith, l.invariant.1)) named c.in_ok-pass_value.ensures.value,
      omega (arith, l.invariant.3),
    )

pub pass_members-returns-in_err-pass_value-clause-value : goal.pass_members-returns-in_err-pass_value-clause-value
pass_members-returns-in_err-pass_value-clause-value t c =
    let l = c.loop-reader in
    let named : read_key l.reader ≡ Some (Some c.in-Some.field-0.now, c.next_key.new.self) = grind arith in
    let none = l.invariant.2
    ∙ member_stuck (value c.args.levels) l.invariant.0 _ l.reader c.next_key.new.self named c.in_err-pass_value.ensures.value in
    grind (arith, none)

pub pass_members-returns-clause-value : goal.pass_members-returns-clause-value
pass_members-returns-clause-value t c =
    let l = c.loop-reader in
    l.invariant.2 ∙ members_passed (value c.args.levels) l.invariant.0 l.reader c.next_key.new.self l.invariant.1 (grind arith)

-- ---- a value

pub pass_value-returns-in-Array-clause-value : goal.pass_value-returns-in-Array-clause-value
pass_value-returns-in-Array-clause-value t c =
    let entered = rw c.in-Array.is at c.in_ok-enter.ensures.value in
    rw (after_array c.args.levels c.args.reader.now c.enter.new.reader entered.0 entered.1) c.pass_items.ensures.value

pub enter-returns-in_err-token-clause-value : goal.enter-returns-in_err-token-clause-value
enter-returns-in_err-token-clause-value t c =
    let empty : c.args.reader.now ≡ [] = grind arith in
    let none : data_at c.args.levels c.args.reader.now ≡ None = ap (converted of_json) (ap (value c.args.levels) empty ∙ value_is c.args.levels []) in
    grind (arith, none)

pub enter-returns-in-Null-clause-value : goal.enter-returns-in-Null-clause-value
enter-returns-in-Null-clause-value t c =
    let first : c.args.reader.now ≡ token_of c.in_ok-token.token ∷ c.next.new.self = grind arith in
    rw (value_is c.args.levels c.args.reader.now, first) (grind arith)

pub enter-returns-in-String-clause-value : goal.enter-returns-in-String-clause-value
enter-returns-in-String-clause-value t c =
    let first : c.args.reader.now ≡ token_of c.in_ok-token.token ∷ c.next.new.self = grind arith in
    let is : c.args.reader.now ≡ Token.string c.in-String.field-0.now ∷ c.next.new.self = grind (arith, first) in
    record { is = _; found = ap (converted of_json) (ap (value c.args.levels) is ∙ value_is c.args.levels _); no_array = refl; no_null = refl }

pub enter-returns-in-Bool-clause-value : goal.enter-returns-in-Bool-clause-value
enter-returns-in-Bool-clause-value t c =
    let first : c.args.reader.now ≡ token_of c.in_ok-token.token ∷ c.next.new.self = grind arith in
    let is : c.args.reader.now ≡ Token.boolean c.in-Bool.field-0 ∷ c.next.new.self = grind (arith, first) in
    record { is = _; found = ap (converted of_json) (ap (value c.args.levels) is ∙ value_is c.args.levels _); no_array = refl; no_null = refl }

pub enter-returns-then-is_in_range-clause-value : goal.enter-returns-then-is_in_range-clause-value
enter-returns-then-is_in_range-clause-value t c =
    let first : c.args.reader.now ≡ token_of c.in_ok-token.token ∷ c.next.new.self = grind arith in
    let is : c.args.reader.now ≡ Token.number c.in-Number.text.now ∷ c.next.new.self = grind (arith, first) in
    let in_range : is_some (number_of c.in-Number.text.now) ≡ true = grind arith in
    let made = some_is (number_of c.in-Number.text.now) in_range in
    record {
      is = number made.0;
      found = ap (converted of_json) (ap (value c.args.levels) is ∙ value_is c.args.levels _)
          ∙ ap (λ found. option_map {U = Data × List Token} (λ value. (value, c.next.new.self)) (option_map number found)) made.1;
      no_array = refl;
      no_null = refl;
    }

pub enter-returns-else-is_in_range-clause-value : goal.enter-returns-else-is_in_range-clause-value
enter-returns-else-is_in_range-clause-value t c =
    let first : c.args.reader.now ≡ token_of c.in_ok-token.token ∷ c.next.new.self = grind arith in
    let is : c.args.reader.now ≡ Token.number c.in-Number.text.now ∷ c.next.new.self = grind (arith, first) in
    let outside : is_some (number_of c.in-Number.text.now) ≡ false = grind arith in
    ap (converted of_json) (ap (value c.args.levels) is ∙ value_is c.args.levels _) ∙ rw (none_is (number_of c.in-Number.text.now) outside) refl

pub enter-returns-in-EndObject-clause-value : goal.enter-returns-in-EndObject-clause-value
enter-returns-in-EndObject-clause-value t c =
    let first : c.args.reader.now ≡ token_of c.in_ok-token.token ∷ c.next.new.self = grind arith in
    rw (value_is c.args.levels c.args.reader.now, first) (grind arith)

pub enter-returns-then-levels-eq0-clause-value : goal.enter-returns-then-levels-eq0-clause-value
unfolding value
enter-returns-then-levels-eq0-clause-value t c =
    let first : c.args.reader.now ≡ token_of c.in_ok-token.token ∷ c.next.new.self = grind arith in
    let none : c.args.levels ≡ 0 = omega arith in
    ap₂ data_at none (first ∙ ap (λ token. token_of token ∷ c.next.new.self) c.in-BeginArray.is)

pub enter-returns-else-levels-eq0-clause-value : goal.enter-returns-else-levels-eq0-clause-value
enter-returns-else-levels-eq0-clause-value t c =
    let first : c.args.reader.now ≡ token_of c.in_ok-token.token ∷ c.next.new.self = grind arith in
    (omega arith, first ∙ ap (λ token. token_of token ∷ c.next.new.self) c.in-BeginArray.is)

pub enter-returns-then-levels-eq0-2-clause-value : goal.enter-returns-then-levels-eq0-2-clause-value
unfolding value
enter-returns-then-levels-eq0-2-clause-value t c =
    let first : c.args.reader.now ≡ token_of c.in_ok-token.token ∷ c.next.new.self = grind arith in
    let none : c.args.levels ≡ 0 = omega arith in
    ap₂ data_at none (first ∙ ap (λ token. token_of token ∷ c.next.new.self) c.in-BeginObject.is)

pub enter-returns-in_err-pass_members-in-BeginObject-clause-value : goal.enter-returns-in_err-pass_members-in-BeginObject-clause-value
enter-returns-in_err-pass_members-in-BeginObject-clause-value t c =
    let first : c.args.reader.now ≡ token_of c.in_ok-token.token ∷ c.next.new.self = grind arith in
    let opened = first ∙ ap (λ token. token_of token ∷ c.next.new.self) c.in-BeginObject.is in
    let same = ap (data_at c.args.levels) opened ∙ ap (converted of_json) (value-begin_object c.args.levels c.next.new.self (omega arith)) in
    let none = same ∙ no_object (members (value (c.args.levels - 1)) (length c.next.new.self) c.next.new.self) c.in_err-pass_members-in-BeginObject.ensures.value in
    grind (arith, none)

pub enter-returns-in_ok-pass_members-in-BeginObject-clause-value : goal.enter-returns-in_ok-pass_members-in-BeginObject-clause-value
enter-returns-in_ok-pass_members-in-BeginObject-clause-value t c =
    let first : c.args.reader.now ≡ token_of c.in_ok-token.token ∷ c.next.new.self = grind arith in
    let opened = first ∙ ap (λ token. token_of token ∷ c.next.new.self) c.in-BeginObject.is in
    let same = ap (data_at c.args.levels) opened ∙ ap (converted of_json) (value-begin_object c.args.levels c.next.new.self (omega arith)) in
    let found = found_of (λ found. of_members found no_members) (members (value (c.args.levels - 1)) (length c.next.new.self) c.next.new.self) _ c.in_ok-pass_members-in-BeginObject.ensures.value in
    record {
      is = object found.0;
      found = same ∙ object_found (members (value (c.args.levels - 1)) (length c.next.new.self) c.next.new.self) found.0 _ found.1;
      no_array = refl;
      no_null = refl;
    }
