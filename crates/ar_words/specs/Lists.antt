-- Lists of a document, whose items have names. The document is as it was written, and may be any JSON value.
use Rattle.std.specs.Prelude.{ℕ, List, codes, Option, option_and_then, slice_get}
use Rattle.ar_value.specs.Terms.{Text}
use Rattle.serde_json.specs.Data.{Data}
use Rattle.ar_json.specs.Members.{list_of, member, member_of_member, text_member}

-- a member that is a list
abbrev pub list_in : (name : Text) → Data → Option (List Data)
list_in name d = option_and_then list_of (member name d)

-- a list of the template's `spec`
abbrev pub template_list : (name : Text) → Data → Option (List Data)
template_list name document =
    option_and_then (list_in name) (member_of_member (codes "manifest") (codes "spec") document)

abbrev pub metrics : Data → Option (List Data)
metrics document = template_list (codes "metrics") document

abbrev pub runs : Data → Option (List Data)
runs document = list_in (codes "runs") document

abbrev pub list_item : (number : ℕ) → Option (List Data) → Option Data
list_item number items = option_and_then (λ items. slice_get items number) items

-- a text of an item of a list
abbrev pub text_at : (name : Text) → (number : ℕ) → Option (List Data) → Option Text
text_at name number items = option_and_then (text_member name) (list_item number items)

-- the text that an entry has by a name
abbrev pub entry_text : (name : Text) → (entry : ℕ) → Data → Option Text
entry_text name entry document = text_at name entry (list_in (codes "measurements") document)
