-- Forms that are made while there is room.
use Rattle.std.specs.Prelude.{ℕ, ◌-◌, nat_le, if◌then◌else◌, Option, Some, None, option_map, unwrap_or}
use Rattle.std.specs.Borrow.{Bor}
use Rattle.serde_json.specs.Data.{Data}
use Rattle.serde_json.specs.View.{view}
use Rattle.ar_value.specs.Value.{Value, nil}
use Rattle.ar_value.specs.View.{value_view}
use Rattle.ar_value.specs.declared.value.Value.{Value as ValueCode}
use Rattle.ar_exact.specs.declared.form.Form.{Form}

abbrev pub form_view : Form → Data × ℕ
form_view form = (view form.json, form.left)

-- what takes so much room, with what is left of it; nothing where it is too little
abbrev pub formed : Data → (taken room : ℕ) → Option (Data × ℕ)
formed made taken room = if nat_le taken room then Some (made, room - taken) else None

-- a field's value, which is nil where there is none
abbrev pub value_there : Option (Bor ValueCode) → Value
value_there found = unwrap_or (option_map (λ value. value_view value.now) found) nil
