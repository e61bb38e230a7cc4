-- Whole documents.
use Rattle.std.proofs.Common.{◌≡◌, ℕ, List, [], ◌∷◌, length, Option, Some, None, option_map, option_and_then, refl, sym, ap, ◌∙◌, arith}
use Rattle.json.specs.Json as json
use Rattle.json.specs.Json.{Parse, if_last, members, parse_map, value, value_with}
use Rattle.json.specs.Find as json_find
use Rattle.json.specs.Lex.{tokens}
use Rattle.json.specs.Token.{Token}
use Rattle.json.proofs.Grammar.{value-begin_object, value_is}
use Rattle.serde_json.specs.Data.{Data, Members, no_members, object}
use Rattle.serde_json.specs.Find.{get}
use Rattle.serde_json.specs.Read.{converted, of_json, of_members, read}
use Rattle.ar_stream.specs.Passing.{BeginsNoObject, data_at}
use Rattle.ar_stream.proofs.Kept.{no_converted}
use Rattle.ar_borrowed.proofs.Members.{found_member}
use Rattle.ar_stream.proofs.Turns.{found_some}

abbrev whole : Option (json.Json × List Token) → Option Data
whole parsed = option_and_then of_json (option_and_then (λ pair. if_last pair.0 pair.1) parsed)

-- a text is a document where nothing is left after its value
pub whole_read : (text : List ℕ) (document : Data) → data_at 127 (tokens text) ≡ Some (document, []) → read text ≡ Some document
whole_read text document is =
    let found = found_some of_json (value 127 (tokens text)) document [] is in
    ap whole found.parsed_is ∙ found.made_is

pub more_after : (text : List ℕ) (document : Data) (token : Token) (rest : List Token) → data_at 127 (tokens text) ≡ Some (document, token ∷ rest) → read text ≡ None
more_after text document token rest is = ap whole (found_some of_json (value 127 (tokens text)) document (token ∷ rest) is).parsed_is

nothing_whole : (parsed : Option (json.Json × List Token)) → converted of_json parsed ≡ None → whole parsed ≡ None
nothing_whole None none = refl
nothing_whole (Some (j, [])) none = no_converted of_json [] (of_json j) none
nothing_whole (Some (j, token ∷ rest)) none = refl

pub nothing_read : (text : List ℕ) → data_at 127 (tokens text) ≡ None → read text ≡ None
nothing_read text none = nothing_whole (value 127 (tokens text)) none

-- ---- objects

pub object_at : (rest left : List Token) (all : Members) → converted (λ found. of_members found no_members) (members (value 126) (length rest) rest) ≡ Some (all, left)
    → data_at 127 (Token.begin_object ∷ rest) ≡ Some (object all, left)
object_at rest left all is =
    let found = found_some (λ found. of_members found no_members) (members (value 126) (length rest) rest) all left is in
    ap (converted of_json) (value-begin_object 127 rest (omega arith) ∙ ap (parse_map json.object) found.parsed_is) ∙ rw found.made_is refl

no_object_made : (parsed : Option (json.Members × List Token)) → converted (λ found. of_members found no_members) parsed ≡ None → converted of_json (parse_map json.object parsed) ≡ None
no_object_made None none = refl
no_object_made (Some pair) none = rw (no_members_made (of_members pair.0 no_members) pair.1 none) refl
  where
    no_members_made : (all : Option Members) (left : List Token) → option_map {U = Members × List Token} (λ made. (made, left)) all ≡ None → all ≡ None
    no_members_made None left none = refl
    no_members_made (Some all) left none = absurd (cc)

pub no_object_at : (rest : List Token) → converted (λ found. of_members found no_members) (members (value 126) (length rest) rest) ≡ None → data_at 127 (Token.begin_object ∷ rest) ≡ None
no_object_at rest none = ap (converted of_json) (value-begin_object 127 rest (omega arith)) ∙ no_object_made (members (value 126) (length rest) rest) none

-- ---- what is no object

abbrev value_or : json.Json → Option (json.Json × List Token) → json.Json
value_or other None = other
value_or other (Some found) = found.0

is_value : (j found : json.Json) (rest left : List Token) → ◌≡◌ {A = Option (json.Json × List Token)} (Some (found, left)) (Some (j, rest)) → j ≡ found
is_value j found rest left is = sym (ap (value_or j) is)

is_mapped : {A : Type 0} (f : A → json.Json) (parsed : Option (A × List Token)) (j : json.Json) (rest : List Token) → parse_map f parsed ≡ Some (j, rest) → (of : A) × (j ≡ f of)
is_mapped f None j rest none = absurd (cc)
is_mapped f (Some pair) j rest some = (pair.0, is_value j (f pair.0) rest pair.1 some)

module _ (items : Parse json.Items) (members : Parse json.Members) (name : List ℕ) (j : json.Json) (rest : List Token) where
  no_member_with : (all : List Token) → BeginsNoObject all → value_with items members all ≡ Some (j, rest) → json_find.get name j ≡ None
  no_member_with [] other is = absurd (cc)
  no_member_with (Token.begin_object ∷ left) other is = absurd other
  no_member_with (Token.end_object ∷ left) other is = absurd (cc)
  no_member_with (Token.begin_array ∷ left) other is = rw (is_mapped json.array (items left) j rest is).1 refl
  no_member_with (Token.end_array ∷ left) other is = absurd (cc)
  no_member_with (Token.key text ∷ left) other is = absurd (cc)
  no_member_with (Token.string text ∷ left) other is = rw (is_value j (json.string text) rest left is) refl
  no_member_with (Token.number text ∷ left) other is = rw (is_value j (json.number text) rest left is) refl
  no_member_with (Token.boolean value ∷ left) other is = rw (is_value j (json.boolean value) rest left is) refl
  no_member_with (Token.null ∷ left) other is = rw (is_value j json.null rest left is) refl
  no_member_with (Token.bad ∷ left) other is = absurd (cc)

nothing_there : (found : Option Data) → None ≡ option_map (λ (here : Data). Some here) found → found ≡ None
nothing_there None is = refl
nothing_there (Some here) is = absurd (cc)

-- what is no object has no members
no_member_at : (name : List ℕ) (all rest : List Token) (document : Data) → BeginsNoObject all → data_at 127 all ≡ Some (document, rest) → get name document ≡ None
no_member_at name all rest document other is =
    let found = found_some of_json (value 127 all) document rest is in
    let none = no_member_with _ _ name found.of rest all other (sym (value_is 127 all) ∙ found.parsed_is) in
    nothing_there (get name document) (ap (option_map of_json) (sym none) ∙ found_member name found.of document found.made_is)

whole_found : (parsed : Option (json.Json × List Token)) (document : Data) → whole parsed ≡ Some document → converted of_json parsed ≡ Some (document, [])
whole_found None document none = absurd (cc)
whole_found (Some (j, [])) document some = ap (option_map (λ here. (here, []))) some
whole_found (Some (j, token ∷ rest)) document none = absurd (cc)

-- a document's data is what its tokens are, and nothing is left
pub whole_is : (text : List ℕ) (document : Data) → read text ≡ Some document → data_at 127 (tokens text) ≡ Some (document, [])
whole_is text document is = whole_found (value 127 (tokens text)) document is

pub no_member_of : (text : List ℕ) (document : Data) (name : List ℕ) → BeginsNoObject (tokens text) → read text ≡ Some document → get name document ≡ None
no_member_of text document name other is = no_member_at name (tokens text) [] document other (whole_is text document is)

abbrev data_or : Data → Option (Data × List Token) → Data
data_or other None = other
data_or other (Some found) = found.0

-- a document that begins as an object has the members that were read
pub is_object : (text : List ℕ) (document : Data) (rest left : List Token) (all : Members) → tokens text ≡ Token.begin_object ∷ rest
    → converted (λ found. of_members found no_members) (members (value 126) (length rest) rest) ≡ Some (all, left) → read text ≡ Some document → document ≡ object all
is_object text document rest left all first found is =
    ap (data_or document) (sym (whole_is text document is) ∙ ap (data_at 127) first ∙ object_at rest left all found)

-- and is none where they weren't
pub no_object_read : (text : List ℕ) (document : Data) (rest : List Token) → tokens text ≡ Token.begin_object ∷ rest
    → converted (λ found. of_members found no_members) (members (value 126) (length rest) rest) ≡ None → read text ≡ Some document → ⊥
no_object_read text document rest first none is =
    let unread : read text ≡ None = nothing_read text (ap (data_at 127) first ∙ no_object_at rest none) in
    never (sym unread ∙ is)
  where
    never : {found : Data} → ◌≡◌ {A = Option Data} None (Some found) → ⊥
    never same = absurd (cc)
