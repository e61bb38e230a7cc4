-- How far two names are the same.
use Rattle.std.proofs.Common.{◌≡◌, ◌≤◌, ◌<◌, ℕ, ◌+◌, length, drop, get_or, reverse, List, ◌-◌, arith, true, false, ◌∙◌, ap}
use Rattle.std.specs.Prelude.{nat_eq}
use Rattle.std.specs.List.{common_prefix_len}
use Rattle.std.proofs.lemmas.List.Sums.{common_prefix_len-drop_no, common_prefix_len-drop_yes, common_prefix_len-le}
use Rattle.std.proofs.lemmas.List.{get_or-reverse, length-drop, length-reverse}
use Rattle.std.proofs.Common.{String, Global, Bool, Option, Some, None, ◌∷◌, [], string_bytes, refl, sym}
use Rattle.std.specs.List.{find}
use Rattle.serde_json.specs.View.{members_view}
use Rattle.serde_json.specs.declared.value.Value.{Value}
use Rattle.ar_words.specs.Close.{keys_of}

module _ (one other : List ℕ) (total i : ℕ) where
  pub one_more : i < length one → i < length other → nat_eq (get_or one i 0) (get_or other i 0) ≡ true → total ≡ i + common_prefix_len nat_eq (drop i one) (drop i other) → total ≡ (i + 1) + common_prefix_len nat_eq (drop (i + 1) one) (drop (i + 1) other)
  one_more inside there same so_far = let next = common_prefix_len-drop_yes nat_eq one other i 0 0 inside there same in omega (arith, so_far, next)

  pub differs : i < length one → i < length other → nat_eq (get_or one i 0) (get_or other i 0) ≡ false → total ≡ i + common_prefix_len nat_eq (drop i one) (drop i other) → total ≡ i
  differs inside there differ so_far = let next = common_prefix_len-drop_no nat_eq one other i 0 0 inside there differ in omega (arith, so_far, next)

  pub one_ends : length one ≤ i → total ≡ i + common_prefix_len nat_eq (drop i one) (drop i other) → total ≡ i
  one_ends past so_far = let most = (common_prefix_len-le nat_eq (drop i one) (drop i other)).0 in let none = length-drop i one in omega (arith, past, so_far, most, none)

  pub other_ends : length other ≤ i → total ≡ i + common_prefix_len nat_eq (drop i one) (drop i other) → total ≡ i
  other_ends past so_far = let most = (common_prefix_len-le nat_eq (drop i one) (drop i other)).1 in let none = length-drop i other in omega (arith, past, so_far, most, none)

-- the same from the end
module _ (one other : List ℕ) (total i : ℕ) where
  pub one_more_back : i < length one → i < length other → nat_eq (get_or one (length one - 1 - i) 0) (get_or other (length other - 1 - i) 0) ≡ true
      → total ≡ i + common_prefix_len nat_eq (drop i (reverse one)) (drop i (reverse other)) → total ≡ (i + 1) + common_prefix_len nat_eq (drop (i + 1) (reverse one)) (drop (i + 1) (reverse other))
  one_more_back inside there same so_far =
      one_more (reverse one) (reverse other) total i (rw (length-reverse one) inside) (rw (length-reverse other) there) (rw (get_or-reverse one i 0 inside, get_or-reverse other i 0 there) same) so_far

  pub differs_back : i < length one → i < length other → nat_eq (get_or one (length one - 1 - i) 0) (get_or other (length other - 1 - i) 0) ≡ false
      → total ≡ i + common_prefix_len nat_eq (drop i (reverse one)) (drop i (reverse other)) → total ≡ i
  differs_back inside there differ so_far =
      differs (reverse one) (reverse other) total i (rw (length-reverse one) inside) (rw (length-reverse other) there) (rw (get_or-reverse one i 0 inside, get_or-reverse other i 0 there) differ) so_far

  pub other_ends_back : length other ≤ i → total ≡ i + common_prefix_len nat_eq (drop i (reverse one)) (drop i (reverse other)) → total ≡ i
  other_ends_back past so_far = other_ends (reverse one) (reverse other) total i (rw (length-reverse other) past) so_far

abbrev Entry : Type 0
Entry = String Global × Value

-- the first key that passes is among those that are left
module _ (test : List ℕ → Bool) (total : Option (List ℕ)) where
  pub next_key : (now left : List Entry) (key : String Global) (json : Value) → now ≡ (key, json) ∷ left → test (string_bytes key) ≡ false
      → find test (keys_of (members_view now)) ≡ total → find test (keys_of (members_view left)) ≡ total
  next_key now left key json is fails so_far = let first : find test (keys_of (members_view now)) ≡ find test (keys_of (members_view left)) = rw (is, fails) refl in sym first ∙ so_far

  pub found_key : (now left : List Entry) (key : String Global) (json : Value) (text : List ℕ) → now ≡ (key, json) ∷ left → test (string_bytes key) ≡ true → text ≡ string_bytes key
      → find test (keys_of (members_view now)) ≡ total → Some text ≡ total
  found_key now left key json text is passes same so_far = let first : find test (keys_of (members_view now)) ≡ Some (string_bytes key) = rw (is, passes) refl in ap (λ (key : List ℕ). Some key) same ∙ (sym first ∙ so_far)

  pub no_key : (now : List Entry) → now ≡ [] → find test (keys_of (members_view now)) ≡ total → None ≡ total
  no_key now is so_far = let none : find test (keys_of (members_view now)) ≡ None = rw is refl in sym none ∙ so_far
