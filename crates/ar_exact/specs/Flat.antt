-- Which JSON (RFC 8259) is written as a member: it has no number that readers round, and isn't deep.
use Rattle.std.specs.Prelude.{ℕ, zero, suc, Bool, true, false, ◌&&◌, not, if◌then◌else◌}
use Rattle.serde_json.specs.Data as json
use Rattle.serde_json.specs.Data.{Data, null}
use Rattle.serde_json.specs.Find.{is_float}

abbrev mutual
  -- it has no float, and at most that many levels of lists and records
  pub is_flat : (levels : ℕ) → Data → Bool
  is_flat levels json.null = true
  is_flat levels (json.boolean holds) = true
  is_flat levels (json.number n) = not (is_float n)
  is_flat levels (json.string text) = true
  is_flat zero (json.array found) = false
  is_flat (suc levels) (json.array found) = are_flat levels found
  is_flat zero (json.object of) = false
  is_flat (suc levels) (json.object of) = members_flat levels of

  pub are_flat : (levels : ℕ) → json.Items → Bool
  are_flat levels json.no_items = true
  are_flat levels (json.item first others) = is_flat levels first && are_flat levels others

  pub members_flat : (levels : ℕ) → json.Members → Bool
  members_flat levels json.no_members = true
  members_flat levels (json.member name value others) = is_flat levels value && members_flat levels others

abbrev pub most_flat_levels : ℕ
most_flat_levels = 8

-- null is in place of anything else
abbrev pub flat_data : Data → Data
flat_data found = if is_flat most_flat_levels found then found else null
