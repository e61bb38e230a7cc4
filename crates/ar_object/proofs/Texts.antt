-- JSON that was written one token after another reads back.
use Rattle.std.proofs.Common.{SFits, w64, to_z, of_z, ℤ, pos, negsuc, ◌≡◌, ◌<◌, ◌≤◌, ◌^◌, ℕ, suc, max, List, [], ◌∷◌, ◌++◌, codes, Some, map, option_map, option_and_then, refl, sym, ◌∙◌, ap, ap₂, subst, arith, append_assoc, append-nil}
use Rattle.std.specs.Prelude.{flat_map}
use Rattle.std.specs.List.{AllByRecursion}
use Rattle.std.proofs.lemmas.List.Concat.{flat_map-append}
use Rattle.std.proofs.lemmas.Result.{IfOk-weaker}
use Rattle.std.proofs.Math.Facts.{to_z-of_z}
use Rattle.std.specs.Fmt.{signed_decimal}
use Rattle.json.proofs.Printed.Trees.{value-json_tokens}
use Rattle.json.specs.Json as json
use Rattle.json.specs.Lex.{tokens}
use Rattle.json.specs.Print.{print}
use Rattle.json.specs.Token as token
use Rattle.json.specs.Token.{Token, begin_array, begin_object, end_array, end_object, key}
use Rattle.json.specs.Tree as tree
use Rattle.serde_json.proofs.Numbers.{number_of-decimal, number_of-negative}
use Rattle.serde_json.proofs.Texts.{print-outline}
use Rattle.serde_json.specs.Data.{Data, Items, Members, array, depth, item, items_depth, member, members_depth, no_items, no_members, number, object, put}
use Rattle.serde_json.specs.Data as values
use Rattle.serde_json.specs.Read.{max_depth, of_items, of_json, of_members, read}
use Rattle.serde_json.specs.View.{items_of}
use Rattle.serde_json.specs.Written.{compact_text, items_outline, members_outline, outline}
use Rattle.ar_object.specs.Line.{IsJsonLine}
use Rattle.ar_object.specs.Object.{array_of, count_data, integer_data}
use Rattle.ar_object.specs.Written.{AddsMember, AddsTokens, AddsValue, AddsValues, HasTokens, HasValue, Output, ReadsBack, value_tokens}

-- ---- tokens, one after another

no_tokens : (output : Output) → AddsTokens [] output output
no_tokens output = record { adds = λ before has. IfOk-weaker output _ _ (λ written is. is ∙ sym (append-nil before)) has }

then_tokens : (a b : List Token) (old middle new : Output) → AddsTokens a old middle → AddsTokens b middle new → AddsTokens (a ++ b) old new
then_tokens a b old middle new one other =
    record { adds = λ before has. IfOk-weaker new _ _ (λ written is. is ∙ append_assoc before a b) (other.adds (before ++ a) (one.adds before has)) }

same_tokens : (a b : List Token) (old new : Output) → a ≡ b → AddsTokens a old new → AddsTokens b old new
same_tokens a b old new same adds = record { adds = λ before has. IfOk-weaker new _ _ (λ written is. is ∙ ap (λ tokens. before ++ tokens) same) (adds.adds before has) }

-- ---- values, one after another

pub count_reads_back : (count : ℕ) → count < 2 ^ 64 → ReadsBack (count_data count)
count_reads_back count fits = ap (option_map number) (number_of-decimal count fits)

integer_reads_back : (integer : ℤ) → SFits w64 integer → ReadsBack (integer_data integer)
integer_reads_back (pos n) fits = ap (option_map number) (number_of-decimal n (omega (arith, fits)))
integer_reads_back (negsuc n) fits = ap (option_map number) (number_of-negative n (omega (arith, fits)))

integer_tokens : (integer : ℤ) → token.number (signed_decimal integer) ∷ [] ≡ value_tokens (integer_data integer) ++ []
integer_tokens (pos n) = refl
integer_tokens (negsuc n) = refl

pub integer_written : (integer : ℤ) (old new : Output) → SFits w64 integer → AddsTokens (token.number (signed_decimal (to_z w64 (of_z w64 integer))) ∷ []) old new → AddsValue (integer_data integer) old new
integer_written integer old new fits adds = record {
  tokens_are = same_tokens _ _ old new (ap (λ z. token.number (signed_decimal z) ∷ []) (to_z-of_z fits) ∙ integer_tokens integer) adds;
  read_back = (integer_reads_back integer fits, tt);
}

pub no_values : (output : Output) → AddsValues [] output output
no_values output = record { tokens_are = no_tokens output; read_back = tt }

all_read_back : (first second : List Data) → AllByRecursion ReadsBack first → AllByRecursion ReadsBack second → AllByRecursion ReadsBack (first ++ second)
all_read_back [] second one other = other
all_read_back (value ∷ first) second one other = (one.0, all_read_back first second one.1 other)

pub then_values : (first second : List Data) (old middle new : Output) → AddsValues first old middle → AddsValues second middle new → AddsValues (first ++ second) old new
then_values first second old middle new one other = record {
  tokens_are = same_tokens _ _ old new (sym (flat_map-append value_tokens first second)) (then_tokens _ _ old middle new one.tokens_are other.tokens_are);
  read_back = all_read_back first second one.read_back other.read_back;
}

-- ---- lists

items_are : (values : List Data) → tree.items_tokens (items_outline (items_of values)) ≡ flat_map value_tokens values ++ end_array ∷ []
items_are [] = refl
items_are (value ∷ values) = ap (λ tokens. value_tokens value ++ tokens) (items_are values) ∙ sym (append_assoc (value_tokens value) (flat_map value_tokens values) (end_array ∷ []))

items_read_back : (values : List Data) → AllByRecursion ReadsBack values → of_items (items_outline (items_of values)) ≡ Some (items_of values)
items_read_back [] all = refl
items_read_back (value ∷ values) all =
    ap (option_and_then (λ read. option_map (item read) (of_items (items_outline (items_of values))))) all.0 ∙ ap (option_map (item value)) (items_read_back values all.1)

-- a list without a name
pub list_is : {values : List Data} {old begun listed new : Output} → AddsTokens (begin_array ∷ []) old begun → AddsValues values begun listed → AddsTokens (end_array ∷ []) listed new → AddsValue (array_of values) old new
list_is {values} {old} {begun} {listed} {new} begins adds ends = record {
  tokens_are = same_tokens _ _ old new (ap (λ tokens. begin_array ∷ tokens) (sym (items_are values)) ∙ sym (append-nil _)) (then_tokens _ _ old begun new begins (then_tokens _ _ begun listed new adds.tokens_are ends));
  read_back = (ap (option_map array) (items_read_back values adds.read_back), tt);
}

-- a member that is a list
pub list_member : {name : List ℕ} {values : List Data} {old begun listed new : Output} → AddsTokens (key name ∷ begin_array ∷ []) old begun → AddsValues values begun listed → AddsTokens (end_array ∷ []) listed new → AddsMember name (array_of values) old new
list_member {name} {values} {old} {begun} {listed} {new} begins adds ends = record {
  tokens_are = same_tokens _ _ old new (ap (λ tokens. key name ∷ begin_array ∷ tokens) (sym (items_are values))) (then_tokens _ _ old begun new begins (then_tokens _ _ begun listed new adds.tokens_are ends));
  reads_back = ap (option_map array) (items_read_back values adds.read_back);
}

-- ---- objects

-- the members, put into those that were found before
abbrev pub put_all : Members → Members → Members
put_all no_members found = found
put_all (member name value members) found = put_all members (put name value found)

-- each name comes once, and after the names that are less
abbrev pub IsOrdered : Members → Type 0
IsOrdered members = put_all members no_members ≡ members

-- the rest of an object, with its end
pub record EndsWith (members : Members) (old new : Output) : Type 0 where
  pub tokens_are : AddsTokens (tree.members_tokens (members_outline members)) old new
  pub reads_back : (found : Members) → of_members (members_outline members) found ≡ Some (put_all members found)

pub last : {old new : Output} → AddsTokens (end_object ∷ []) old new → EndsWith no_members old new
last ends = record { tokens_are = ends; reads_back = λ found. refl }

pub then : {name : List ℕ} {value : Data} {members : Members} {old middle new : Output} → AddsMember name value old middle → EndsWith members middle new → EndsWith (member name value members) old new
then {name} {value} {members} {old} {middle} {new} adds ends = record {
  tokens_are = then_tokens _ _ old middle new adds.tokens_are ends.tokens_are;
  reads_back = λ found. ap (option_and_then (λ read. of_members (members_outline members) (put name read found))) adds.reads_back ∙ ends.reads_back (put name value found);
}

pub object_is : {inside : Members} {old begun new : Output} → AddsTokens (begin_object ∷ []) old begun → EndsWith inside begun new → IsOrdered inside → AddsValue (object inside) old new
object_is {inside} {old} {begun} {new} begins ends ordered = record {
  tokens_are = same_tokens _ _ old new (sym (append-nil _)) (then_tokens _ _ old begun new begins ends.tokens_are);
  read_back = (ap (option_map object) (ends.reads_back no_members ∙ ap Some ordered), tt);
}

-- a member whose name and value are written one after another
pub named : {name : List ℕ} {value : Data} {old middle new : Output} → AddsTokens (key name ∷ []) old middle → AddsValue value middle new → AddsMember name value old new
named {name} {value} {old} {middle} {new} begins adds = record {
  tokens_are = same_tokens _ _ old new (ap (λ tokens. key name ∷ tokens) (append-nil (value_tokens value))) (then_tokens _ _ old middle new begins adds.tokens_are);
  reads_back = adds.read_back.0;
}

-- ---- lists of which some values are written

-- what is left ends the whole list, however it is written
pub record Remains (left all : List Data) (start now : Output) : Type 0 where
  pub ends : (end : Output) → AddsValues left now end → AddsValues all start end

pub all_remain : (values : List Data) (start : Output) → Remains values values start start
all_remain values start = record { ends = λ end adds. adds }

pub next_value : {A : Type 0} (data_of : A → Data) (left later : List A) (one : A) (all : List Data) (start now next : Output) → left ≡ one ∷ later → AddsValue (data_of one) now next → Remains (map data_of left) all start now → Remains (map data_of later) all start next
next_value data_of left later one all start now next is adds remains = record {
  ends = λ end rest. remains.ends end (subst (λ left. AddsValues (map data_of left) now end) (sym is) (then_values (data_of one ∷ []) (map data_of later) now next end adds rest));
}

pub none_remains : {A : Type 0} (data_of : A → Data) (left : List A) (all : List Data) (start now : Output) → left ≡ [] → Remains (map data_of left) all start now → AddsValues all start now
none_remains data_of left all start now is remains = remains.ends now (subst (λ left. AddsValues (map data_of left) now now) (sym is) (no_values now))

-- ---- the whole text

mutual
  depth_is : (value : Data) → tree.depth (outline value) ≡ depth value
  depth_is values.null = refl
  depth_is (values.boolean holds) = refl
  depth_is (number n) = refl
  depth_is (values.string text) = refl
  depth_is (array items) = ap suc (items_depth_is items)
  depth_is (object members) = ap suc (members_depth_is members)

  items_depth_is : (items : Items) → tree.items_depth (items_outline items) ≡ items_depth items
  items_depth_is no_items = refl
  items_depth_is (item value items) = ap₂ max (depth_is value) (items_depth_is items)

  members_depth_is : (members : Members) → tree.members_depth (members_outline members) ≡ members_depth members
  members_depth_is no_members = refl
  members_depth_is (member name value members) = ap₂ max (depth_is value) (members_depth_is members)

read_whole : (value : Data) (text : List ℕ) → tokens text ≡ value_tokens value → ReadsBack value → depth value ≤ max_depth → read text ≡ Some value
read_whole value text are reads_back flat =
    ap (λ tokens. option_and_then of_json (option_and_then (λ read. json.if_last read.0 read.1) (json.value max_depth tokens))) (are ∙ sym (append-nil _))
    ∙ ap (λ read. option_and_then of_json (option_and_then (λ read. json.if_last read.0 read.1) read)) (value-json_tokens (outline value) max_depth [] (omega (arith, depth_is value)))
    ∙ reads_back

-- its one value, in a line
pub line_is : (value : Data) (written : List Token) (text line : List ℕ) → written ≡ value_tokens value → ReadsBack value → depth value ≤ max_depth → tokens (print written) ≡ written → text ≡ print written → line ≡ text ++ codes "\n" → IsJsonLine value line
line_is value written text line are reads_back flat same prints ends =
    let whole : print written ≡ compact_text value = ap print are ∙ print-outline value in
    record { is = ends ∙ ap (λ text. text ++ codes "\n") (prints ∙ whole); reads_back = read_whole value (compact_text value) (ap tokens (sym whole) ∙ (same ∙ are)) reads_back flat }

pub value_written : {value : Data} {start now : Output} → HasTokens start [] → AddsValue value start now → HasValue value now
value_written {value} {start} {now} starts adds = record {
  tokens_are = IfOk-weaker now _ _ (λ written is. is ∙ append-nil (value_tokens value)) (adds.tokens_are.adds [] starts);
  reads_back = adds.read_back.0;
}
