-- A misfit as JSON (RFC 8259): one object. Its members are in the byte order of their names.
use Rattle.std.specs.Prelude.{◌++◌, codes, decimal, flat_map, map}
use Rattle.serde_json.specs.Data.{Data, member, no_members, object, string}
use Rattle.ar_value.specs.Terms.{Text}
use Rattle.ar_json.specs.Refusals.{shape_fault_name}
use Rattle.ar_diagnostic.specs.Place.{pointer_token}
use Rattle.ar_object.specs.Object.{array_of, count_data, text_or_null}
use Rattle.ar_misfit.specs.Misfit.{Misfit, Step, index, named}
use Rattle.ar_misfit.specs.MisfitText.{advice, expected_text, found_text}

-- an index, or a field's name
abbrev pub step_data : Step → Data
step_data (index n) = count_data n
step_data (named name) = string name

-- as a reference token of a JSON Pointer (RFC 6901)
abbrev pub step_token : Step → Text
step_token (index n) = codes "/" ++ decimal n
step_token (named name) = codes "/" ++ pointer_token name

-- `value`: the pointer to the whole value
abbrev pub misfit_data : (value : Text) → Misfit → Data
misfit_data value misfit = object
    (member (codes "expected") (string (expected_text misfit.expected))
    (member (codes "fault") (string (shape_fault_name misfit.fault))
    (member (codes "found") (string (found_text misfit.found))
    (member (codes "hint") (text_or_null (advice misfit.fault misfit.expected misfit.found))
    (member (codes "path") (array_of (map step_data misfit.path))
    (member (codes "pointer") (string (value ++ flat_map step_token misfit.path)) no_members))))))
