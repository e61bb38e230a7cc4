-- Items that a loop has before it.
use Rattle.std.proofs.Common.{◌≡◌, ℕ, suc, ◌+◌, ◌≤◌, List, [], ◌∷◌, length, drop, refl, ap, arith, add-one}
use Rattle.std.proofs.Math.ListN.{drop_of_length-le}
use Rattle.ar_value.specs.Value.{Value, items_of, item, no_items}

pub no_items_in : (values : List Value) → length values ≡ 0 → items_of values ≡ no_items
no_items_in [] e = refl
no_items_in (value ∷ values) e = absurd (omega arith)

pub first_item : (values : List Value) (value : Value) → drop 0 values ≡ value ∷ drop 1 values → items_of values ≡ item value (items_of (drop 1 values))
first_item values value e = ap items_of e

pub none_next : (values : List Value) (next : ℕ) → length values ≤ next → items_of (drop next values) ≡ no_items
none_next values next past = ap items_of (drop_of_length-le values past)

pub one_next : (values : List Value) (next : ℕ) (value : Value) → drop next values ≡ value ∷ drop (suc next) values → items_of (drop next values) ≡ item value (items_of (drop (next + 1) values))
one_next values next value e = rw (add-one, e) refl
