-- What is flat has no float, and isn't deep.
use Rattle.std.proofs.Common.{◌≡◌, ◌≤◌, ℕ, zero, suc, Bool, true, false, ◌&&◌, if◌then◌else◌, not, refl, arith}
use Rattle.std.proofs.Math.Nat.{max-le}
use Rattle.serde_json.specs.Data as json
use Rattle.serde_json.specs.Data.{Data, depth, items_depth, members_depth}
use Rattle.serde_json.specs.Find.{is_float}
use Rattle.serde_json.specs.Written.{has_float, items_have_float, members_have_float}
use Rattle.ar_exact.specs.Flat.{are_flat, flat_data, is_flat, members_flat, most_flat_levels}

both : (one other : Bool) → (one && other) ≡ true → (one ≡ true) × (other ≡ true)
both true other is = (refl, is)
both false other is = absurd (cc)

not_float : (float : Bool) → not float ≡ true → float ≡ false
not_float true is = absurd (cc)
not_float false is = refl

mutual
  pub flat_has_no_float : (levels : ℕ) (found : Data) → is_flat levels found ≡ true → has_float found ≡ false
  flat_has_no_float levels json.null is = refl
  flat_has_no_float levels (json.boolean holds) is = refl
  flat_has_no_float levels (json.number n) is = not_float (is_float n) is
  flat_has_no_float levels (json.string text) is = refl
  flat_has_no_float zero (json.array inside) is = absurd (cc)
  flat_has_no_float (suc levels) (json.array inside) is = items_have_none levels inside is
  flat_has_no_float zero (json.object inside) is = absurd (cc)
  flat_has_no_float (suc levels) (json.object inside) is = members_have_none levels inside is

  items_have_none : (levels : ℕ) (inside : json.Items) → are_flat levels inside ≡ true → items_have_float inside ≡ false
  items_have_none levels json.no_items is = refl
  items_have_none levels (json.item first others) is =
      let each = both (is_flat levels first) (are_flat levels others) is in
      rw (flat_has_no_float levels first each.0, items_have_none levels others each.1) refl

  members_have_none : (levels : ℕ) (inside : json.Members) → members_flat levels inside ≡ true → members_have_float inside ≡ false
  members_have_none levels json.no_members is = refl
  members_have_none levels (json.member name first others) is =
      let each = both (is_flat levels first) (members_flat levels others) is in
      rw (flat_has_no_float levels first each.0, members_have_none levels others each.1) refl

mutual
  flat_depth : (levels : ℕ) (found : Data) → is_flat levels found ≡ true → depth found ≤ levels
  flat_depth levels json.null is = omega arith
  flat_depth levels (json.boolean holds) is = omega arith
  flat_depth levels (json.number n) is = omega arith
  flat_depth levels (json.string text) is = omega arith
  flat_depth zero (json.array inside) is = absurd (cc)
  flat_depth (suc levels) (json.array inside) is = omega (arith, items_flat levels inside is)
  flat_depth zero (json.object inside) is = absurd (cc)
  flat_depth (suc levels) (json.object inside) is = omega (arith, members_are_flat levels inside is)

  items_flat : (levels : ℕ) (inside : json.Items) → are_flat levels inside ≡ true → items_depth inside ≤ levels
  items_flat levels json.no_items is = omega arith
  items_flat levels (json.item first others) is =
      let each = both (is_flat levels first) (are_flat levels others) is in
      max-le (flat_depth levels first each.0) (items_flat levels others each.1)

  members_are_flat : (levels : ℕ) (inside : json.Members) → members_flat levels inside ≡ true → members_depth inside ≤ levels
  members_are_flat levels json.no_members is = omega arith
  members_are_flat levels (json.member name first others) is =
      let each = both (is_flat levels first) (members_flat levels others) is in
      max-le (flat_depth levels first each.0) (members_are_flat levels others each.1)

by_flatness : (found : Data) (flat : Bool) → is_flat most_flat_levels found ≡ flat → depth (if flat then found else json.null) ≤ 8
by_flatness found true is = flat_depth most_flat_levels found is
by_flatness found false is = omega arith

-- what is written isn't deep
pub written_depth : (found : Data) → depth (flat_data found) ≤ 8
written_depth found = by_flatness found (is_flat most_flat_levels found) refl
