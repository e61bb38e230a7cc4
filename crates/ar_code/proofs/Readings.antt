-- What is read is there, in its form, and no refusal is out of memory.
use Rattle.std.proofs.Common.{◌≡◌, ◌≢◌, ℕ, zero, suc, ◌/◌, ◌%◌, ◌<◌, ◌≤◌, pos, negsuc, Bool, true, false, ◌&&◌, cond, eqb, ltb, List, [], ◌∷◌, ◌++◌, length, take, drop, Option, Some, None, Result, Ok, Err, All, refl, sym, ap, subst, ◌∙◌, append_assoc, arith}
use Rattle.std.specs.Prelude.{option_map}
use Rattle.std.specs.Bool.{Decides}
use Rattle.std.specs.List.{AllByRecursion, flat_map}
use Rattle.std.specs.Str.{bytes_eq, is_utf8}
use Rattle.std.proofs.lemmas.Bool.{eqb-true, eqb-false, ltb-true, ltb-false}
use Rattle.std.proofs.lemmas.List.{append-nil, length-take, take-append-drop}
use Rattle.std.proofs.lemmas.List.Elements.{All-from_recursion}
use Rattle.std.proofs.lemmas.Slice.Eq.{bytes_eq-Decides}
use Rattle.ar_value.specs.Answer.{◌>>=◌, holds_or}
use Rattle.ar_value.specs.declared.operator.Scalar.{Scalar}
use Rattle.ar_value.specs.Limits.{most_code_entries, most_literal_items}
use Rattle.ar_op.specs.Code.{Code, Inside, IsCode, IsEntry, code_of_parts}
use Rattle.ar_op.specs.declared.op.Op.{Op}
use Rattle.ar_op.specs.declared.op.Op.TheVariants.{Push, MakeList, Field, Jump, Enter, Step}
use Rattle.ar_op.specs.declared.op.Source.{Source}
use Rattle.ar_op.specs.declared.op.Source.TheVariants as sources
use Rattle.ar_code.specs.Decoding.{Reading, all_ops, among, bit_at, coded, count_at, cut_number, decoded, entry_at, expected, fields_at, is_memory, items_at, letters_at, list_at, narrow, number_at, op_at, of_version, op_of, parts_at, offset, scalar_at, scalar_of, signed, so_many_ops, so_many_texts, source_at, spelled, sum_of, text_at, texts_at, version_at, where_scalar, where_spelled, where_text, whole, whole_number, wide}
use Rattle.ar_code.specs.Image.{bit, body, fields_of, image, last_code, magic, number, op_bytes, scalar_number, string, strings, version_byte, version_of, zigzag}
use Rattle.ar_code.specs.Forms.{code_of}
use Rattle.ar_code.specs.declared.version.Version.{Version}
use Rattle.ar_code.specs.declared.error.ImageError.{ImageError}
use Rattle.ar_code.specs.declared.error.ImageError.TheVariants.{BadMagic, BadVersion, OutOfMemory}
use Rattle.ar_code.proofs.Loops.{Reads, ops_read, texts_read}

-- what holds of an answer, if there is one; a refusal isn't out of memory
abbrev Holds : {A : Type 0} → (A → Type 0) → Result A ImageError → Type 0
Holds P (Ok x) = P x
Holds P (Err e) = is_memory e ≡ false

and_then : {A B : Type 0} (P : A → Type 0) (Q : B → Type 0) (r : Result A ImageError) (next : A → Result B ImageError) → Holds P r → ((x : A) → P x → Holds Q (next x)) → Holds Q (r >>= next)
and_then P Q (Ok x) next holds each = each x holds
and_then P Q (Err e) next holds each = holds

implied : {A : Type 0} (P Q : A → Type 0) (r : Result A ImageError) → Holds P r → ((x : A) → P x → Q x) → Holds Q r
implied P Q (Ok x) holds each = each x holds
implied P Q (Err e) holds each = holds

-- an answer unless a test holds, or where it does
unless : {A : Type 0} (P : A → Type 0) (b : Bool) (e : ImageError) (r : Result A ImageError) → is_memory e ≡ false → (b ≡ false → Holds P r) → Holds P (cond b (Err e) r)
unless P true e r fault holds = fault
unless P false e r fault holds = holds refl

if_holds : {A : Type 0} (P : A → Type 0) (b : Bool) (e : ImageError) (r : Result A ImageError) → is_memory e ≡ false → (b ≡ true → Holds P r) → Holds P (cond b r (Err e))
if_holds P true e r fault holds = holds refl
if_holds P false e r fault holds = fault

-- what was read comes before the bytes after it
abbrev Takes : {A : Type 0} → (A → List ℕ) → List ℕ → A × List ℕ → Type 0
Takes image bytes x = bytes ≡ image x.0 ++ x.1

-- ---- numbers

-- the bytes of a number come before those after it
abbrev IsCut : List ℕ → Option (List ℕ × List ℕ) → Type 0
IsCut bytes None = Unit {0}
IsCut bytes (Some cut) = bytes ≡ cut.0 ++ cut.1

cut_after : (byte : ℕ) (bytes : List ℕ) (cut : Option (List ℕ × List ℕ)) → IsCut bytes cut → IsCut (byte ∷ bytes) (option_map (λ c. (byte ∷ c.0, c.1)) cut)
cut_after byte bytes None is = tt
cut_after byte bytes (Some cut) is = ap (λ (l : List ℕ). byte ∷ l) is

cut_by : (byte : ℕ) (bytes : List ℕ) (b : Bool) (cut : Option (List ℕ × List ℕ)) → IsCut (byte ∷ bytes) cut → IsCut (byte ∷ bytes) (cond b (Some (byte ∷ [], bytes)) cut)
cut_by byte bytes true cut is = refl
cut_by byte bytes false cut is = is

cut_is : (bytes : List ℕ) → IsCut bytes (cut_number bytes)
cut_is [] = tt
cut_is (byte ∷ bytes) = cut_by byte bytes (ltb byte 128) _ (cut_after byte bytes (cut_number bytes) (cut_is bytes))

-- a number that is spelled is the one whose form the bytes are
abbrev IsSpelled : List ℕ → Option ℕ → Type 0
IsSpelled text None = Unit {0}
IsSpelled text (Some n) = number n ≡ text

spelled_by : (text : List ℕ) (n : ℕ) (below same : Bool) → Decides same (number n ≡ text) → IsSpelled text (cond (below && same) (Some n) None)
spelled_by text n true true d = d.0 refl
spelled_by text n true false d = tt
spelled_by text n false same d = tt

spelled_read : (at : ℕ) (bytes : List ℕ) (cut : List ℕ × List ℕ) (n : Option ℕ) → bytes ≡ cut.0 ++ cut.1 → IsSpelled cut.0 n → Holds (Takes number bytes) (where_spelled at n cut.1)
spelled_read at bytes cut None parts is = refl
spelled_read at bytes cut (Some n) parts is = parts ∙ ap (λ (l : List ℕ). l ++ cut.1) (sym is)

cut_read : (end at limit : ℕ) (bytes : List ℕ) (cut : Option (List ℕ × List ℕ)) → IsCut bytes cut → Holds (Takes number bytes) (whole_number end at limit cut)
cut_read end at limit bytes None is = refl
cut_read end at limit bytes (Some cut) is =
    let n = sum_of cut.0 in
    spelled_read at bytes cut (spelled limit cut.0) is (spelled_by cut.0 n (ltb n limit) (bytes_eq (number n) cut.0) (bytes_eq-Decides (number n) cut.0))

number_read : (end limit : ℕ) (bytes : List ℕ) → Holds (Takes number bytes) (number_at end limit bytes)
unfolding number_at
number_read end limit bytes = cut_read end (offset end bytes) limit bytes (cut_number bytes) (cut_is bytes)

-- a number that passes a test
abbrev IsNumber : (ℕ → Type 0) → List ℕ → ℕ × List ℕ → Type 0
IsNumber P bytes n = Takes number bytes n × P n.0

abbrev IsCount : List ℕ → ℕ × List ℕ → Type 0
IsCount = IsNumber (λ n. n ≤ most_code_entries)

abbrev IsItems : List ℕ → ℕ × List ℕ → Type 0
IsItems = IsNumber (λ n. n ≤ most_literal_items)

abbrev IsEntryOf : ℕ → List ℕ → ℕ × List ℕ → Type 0
IsEntryOf count = IsNumber (λ n. n < count)

count_read : (end : ℕ) (bytes : List ℕ) → Holds (IsCount bytes) (count_at end bytes)
unfolding count_at
count_read end bytes =
    and_then (Takes number bytes) (IsCount bytes) (number_at end wide bytes) _ (number_read end wide bytes) (λ n is. unless (IsCount bytes) (ltb most_code_entries n.0) _ _ refl (λ few. (is, ltb-false most_code_entries n.0 few)))

items_read : (end : ℕ) (bytes : List ℕ) → Holds (IsItems bytes) (items_at end bytes)
unfolding items_at
items_read end bytes =
    and_then (Takes number bytes) (IsItems bytes) (number_at end wide bytes) _ (number_read end wide bytes) (λ n is. unless (IsItems bytes) (ltb most_literal_items n.0) _ _ refl (λ few. (is, ltb-false most_literal_items n.0 few)))

entry_read : (end at count : ℕ) (bytes : List ℕ) → Holds (IsEntryOf count bytes) (entry_at end at count bytes)
unfolding entry_at
entry_read end at count bytes =
    and_then (Takes number bytes) (IsEntryOf count bytes) (number_at end narrow bytes) _ (number_read end narrow bytes) (λ n is. if_holds (IsEntryOf count bytes) (ltb n.0 count) _ _ refl (λ below. (is, ltb-true n.0 count below)))

-- ---- texts

abbrev IsShort : List ℕ → List ℕ × List ℕ → Type 0
IsShort bytes text = Takes string bytes text × IsEntry text.0

-- n bytes, as a text of that length
abbrev IsOfLength : ℕ → List ℕ → List ℕ × List ℕ → Type 0
IsOfLength len bytes text = (bytes ≡ text.0 ++ text.1) × (length text.0 ≡ len)

text_by : (len at : ℕ) (bytes : List ℕ) (b : Bool) → len ≤ length bytes → Holds (IsOfLength len bytes) (where_text at (cond b (Some (take len bytes)) None) (drop len bytes))
text_by len at bytes true long = (sym (take-append-drop len bytes), omega (arith, length-take len bytes, long))
text_by len at bytes false long = refl

letters_read : (end len : ℕ) (bytes : List ℕ) → Holds (IsOfLength len bytes) (letters_at end len bytes)
letters_read end len bytes =
    unless (IsOfLength len bytes) (ltb (length bytes) len) _ _ refl (λ long. text_by len (offset end bytes) bytes (is_utf8 (take len bytes)) (ltb-false (length bytes) len long))

-- things and their number in front
counted : {A : Type 0} (things : List A) (n : ℕ) (front rest following bytes : List ℕ) → bytes ≡ number n ++ following → following ≡ front ++ rest → length things ≡ n → bytes ≡ (number (length things) ++ front) ++ rest
counted things n front rest following bytes of_number of_things size =
    of_number ∙ ap (λ (l : List ℕ). number n ++ l) of_things ∙ ap (λ (k : ℕ). number k ++ (front ++ rest)) (sym size) ∙ sym (append_assoc (number (length things)) front rest)

text_read : (end : ℕ) (bytes : List ℕ) → Holds (IsShort bytes) (text_at end bytes)
unfolding text_at
text_read end bytes =
    and_then (IsCount bytes) (IsShort bytes) (count_at end bytes) _ (count_read end bytes)
    (λ len count. implied (IsOfLength len.0 len.1) (IsShort bytes) (letters_at end len.0 len.1) (letters_read end len.0 len.1)
    (λ text is. (counted text.0 len.0 text.0 text.1 len.1 bytes count.0 is.0 is.1, omega (arith, count.1, is.1))))

-- n things, one after another
abbrev IsOne : {A : Type 0} → (A → List ℕ) → (A → Type 0) → List ℕ → A × List ℕ → Type 0
IsOne image P bytes x = Takes image bytes x × P x.0

abbrev AreMany : {A : Type 0} → (A → List ℕ) → (A → Type 0) → ℕ → List ℕ → List A × List ℕ → Type 0
AreMany image P count bytes x = Takes (flat_map image) bytes x × (length x.0 ≡ count) × AllByRecursion P x.0

many_read : {A : Type 0} (image : A → List ℕ) (P : A → Type 0) (one : List ℕ → Reading A) (many : ℕ → List ℕ → Reading (List A)) → Reads one many → ((bytes : List ℕ) → Holds (IsOne image P bytes) (one bytes))
    → (count : ℕ) (bytes : List ℕ) → Holds (AreMany image P count bytes) (many count bytes)
many_read image P one many reads each zero bytes = rw (reads.none bytes) (refl, refl, tt)
many_read image P one many reads each (suc count) bytes =
    rw (reads.more count bytes) (and_then (IsOne image P bytes) (AreMany image P (suc count) bytes) (one bytes) _ (each bytes)
    (λ first is. and_then (AreMany image P count first.1) (AreMany image P (suc count) bytes) (many count first.1) _ (many_read image P one many reads each count first.1)
    (λ others are. (is.0 ∙ ap (λ (l : List ℕ). image first.0 ++ l) are.0 ∙ sym (append_assoc (image first.0) (flat_map image others.0) others.1), ap suc are.1, (is.1, are.2)))))

-- a table of texts: few, and short
abbrev IsTable : List ℕ → List (List ℕ) × List ℕ → Type 0
IsTable bytes texts = Takes strings bytes texts × (length texts.0 ≤ most_code_entries) × All IsEntry texts.0

table_read : (end : ℕ) (bytes : List ℕ) → Holds (IsTable bytes) (texts_at end bytes)
unfolding texts_at
table_read end bytes =
    and_then (IsCount bytes) (IsTable bytes) (count_at end bytes) _ (count_read end bytes)
    (λ count is. implied (AreMany string IsEntry count.0 count.1) (IsTable bytes) (so_many_texts end count.0 count.1) (many_read string IsEntry (text_at end) (so_many_texts end) (texts_read end) (text_read end) count.0 count.1)
    (λ texts are. (counted texts.0 count.0 (flat_map string texts.0) texts.1 count.1 bytes is.0 are.0 are.1, omega (arith, is.1, are.1), All-from_recursion IsEntry texts.0 are.2)))

-- ---- operations

bit_read : (end : ℕ) (bytes : List ℕ) → Holds (Takes (λ holds. bit holds ∷ []) bytes) (bit_at end bytes)
bit_read end [] = refl
bit_read end (zero ∷ bytes) = refl
bit_read end (suc zero ∷ bytes) = refl
bit_read end (suc (suc byte) ∷ bytes) = refl

abbrev IsScalar : List ℕ → Scalar × List ℕ → Type 0
IsScalar = Takes (λ scalar. number (scalar_number scalar))

scalar_by : (at n : ℕ) (bytes rest : List ℕ) → bytes ≡ number n ++ rest → Holds (IsScalar bytes) (where_scalar at (scalar_of n) rest)
scalar_by at zero bytes rest is = is
scalar_by at (suc zero) bytes rest is = is
scalar_by at (suc (suc zero)) bytes rest is = is
scalar_by at (suc (suc (suc zero))) bytes rest is = is
scalar_by at (suc (suc (suc (suc n)))) bytes rest is = refl

scalar_read : (end : ℕ) (bytes : List ℕ) → Holds (IsScalar bytes) (scalar_at end bytes)
unfolding scalar_at
scalar_read end bytes = and_then (Takes number bytes) (IsScalar bytes) (number_at end wide bytes) _ (number_read end wide bytes) (λ n is. scalar_by (offset end bytes) n.0 bytes n.1 is)

signed_by : (b : Bool) (n : ℕ) → eqb (n % 2) 0 ≡ b → zigzag (cond b (pos (n / 2)) (negsuc (n / 2))) ≡ n
signed_by true n e = omega (arith, eqb-true (n % 2) 0 e)
signed_by false n e = omega (arith, eqb-false (n % 2) 0 e)

signed_is : (n : ℕ × List ℕ) (bytes : List ℕ) → Takes number bytes n → bytes ≡ number (zigzag (signed n.0)) ++ n.1
signed_is n bytes is = is ∙ ap (λ (k : ℕ). number k ++ n.1) (sym (signed_by (eqb (n.0 % 2) 0) n.0 refl))

-- the fields of an operation, after the code that it was read for
abbrev IsOp : (texts names : ℕ) → Op → List ℕ → Op × List ℕ → Type 0
IsOp texts names op bytes x = Takes fields_of bytes x × (code_of x.0 ≡ code_of op) × Inside texts names x.0

abbrev IsSource : (texts names : ℕ) → Source → List ℕ → Source × List ℕ → Type 0
IsSource texts names source bytes x = IsOp texts names (Push source) bytes (Push x.0, x.1)

source_read : (end at texts names : ℕ) (source : Source) (bytes : List ℕ) → Holds (IsSource texts names source bytes) (source_at end at texts source bytes)
unfolding source_at
source_read end at texts names (sources.Bool empty) bytes = and_then (Takes (λ holds. bit holds ∷ []) bytes) (IsSource texts names (sources.Bool empty) bytes) (bit_at end bytes) _ (bit_read end bytes) (λ holds is. (is, refl, tt))
source_read end at texts names (sources.Whole empty) bytes = and_then (Takes number bytes) (IsSource texts names (sources.Whole empty) bytes) (number_at end wide bytes) _ (number_read end wide bytes) (λ n is. (signed_is n bytes is, refl, tt))
source_read end at texts names (sources.Decimal empty) bytes = and_then (Takes number bytes) (IsSource texts names (sources.Decimal empty) bytes) (number_at end wide bytes) _ (number_read end wide bytes) (λ n is. (signed_is n bytes is, refl, tt))
source_read end at texts names (sources.Text empty) bytes = and_then (IsEntryOf texts bytes) (IsSource texts names (sources.Text empty) bytes) (entry_at end at texts bytes) _ (entry_read end at texts bytes) (λ n is. (is.0, refl, is.1))
source_read end at texts names source bytes = (refl, refl, tt)

list_read : (end texts names : ℕ) (scalar : Scalar) (count : ℕ) (bytes : List ℕ) → Holds (IsOp texts names (MakeList scalar count) bytes) (list_at end bytes)
unfolding list_at
list_read end texts names scalar count bytes =
    and_then (IsScalar bytes) (IsOp texts names (MakeList scalar count) bytes) (scalar_at end bytes) _ (scalar_read end bytes)
    (λ s is. and_then (IsItems s.1) (IsOp texts names (MakeList scalar count) bytes) (items_at end s.1) _ (items_read end s.1)
    (λ n are. (is ∙ ap (λ (l : List ℕ). number (scalar_number s.0) ++ l) are.0 ∙ sym (append_assoc (number (scalar_number s.0)) (number n.0) n.1), refl, are.1)))

fields_read : (end at texts names : ℕ) (op : Op) (bytes : List ℕ) → Holds (IsOp texts names op bytes) (fields_at end at texts names op bytes)
unfolding fields_at
fields_read end at texts names (Push source) bytes = and_then (IsSource texts names source bytes) (IsOp texts names (Push source) bytes) (source_at end at texts source bytes) _ (source_read end at texts names source bytes) (λ x is. is)
fields_read end at texts names (MakeList scalar count) bytes = list_read end texts names scalar count bytes
fields_read end at texts names (Field empty) bytes = and_then (IsEntryOf names bytes) (IsOp texts names (Field empty) bytes) (entry_at end at names bytes) _ (entry_read end at names bytes) (λ n is. (is.0, refl, is.1))
fields_read end at texts names (Jump jump empty) bytes = and_then (Takes number bytes) (IsOp texts names (Jump jump empty) bytes) (number_at end narrow bytes) _ (number_read end narrow bytes) (λ n is. (is, refl, tt))
fields_read end at texts names (Enter predicate empty) bytes = and_then (Takes number bytes) (IsOp texts names (Enter predicate empty) bytes) (number_at end narrow bytes) _ (number_read end narrow bytes) (λ n is. (is, refl, tt))
fields_read end at texts names (Step predicate empty) bytes = and_then (Takes number bytes) (IsOp texts names (Step predicate empty) bytes) (number_at end narrow bytes) _ (number_read end narrow bytes) (λ n is. (is, refl, tt))
fields_read end at texts names op bytes = (refl, refl, tt)

-- what is found has the code that it was looked for by
abbrev IsCoded : ℕ → Option Op → Type 0
IsCoded code None = Unit {0}
IsCoded code (Some op) = code_of op ≡ code

coded_by : (code : ℕ) (op : Op) (b : Bool) (other : Option Op) → eqb (code_of op) code ≡ b → IsCoded code other → IsCoded code (cond b (Some op) other)
coded_by code op true other is others = eqb-true (code_of op) code is
coded_by code op false other is others = others

among_coded : (ops : List Op) (code : ℕ) → IsCoded code (among ops code)
among_coded [] code = tt
among_coded (op ∷ ops) code = coded_by code op (eqb (code_of op) code) (among ops code) refl (among_coded ops code)

op_coded : (version : Version) (code : ℕ) → IsCoded code (op_of version code)
unfolding op_of
op_coded version code = where_it_is (ltb (last_code version) code) (among_coded all_ops code)
  where
    where_it_is : (later : Bool) → IsCoded code (among all_ops code) → IsCoded code (cond later None (among all_ops code))
    where_it_is true is = tt
    where_it_is false is = is

coded_read : (end at texts names code : ℕ) (op : Option Op) (bytes : List ℕ) → IsCoded code op → Holds (IsOne op_bytes (Inside texts names) (code ∷ bytes)) (coded end at texts names op bytes)
coded_read end at texts names code None bytes is = refl
coded_read end at texts names code (Some op) bytes is =
    implied (IsOp texts names op bytes) (IsOne op_bytes (Inside texts names) (code ∷ bytes)) (fields_at end at texts names op bytes) (fields_read end at texts names op bytes)
    (λ x of. (ap (λ (c : ℕ). c ∷ bytes) (sym (of.1 ∙ is)) ∙ ap (λ (l : List ℕ). code_of x.0 ∷ l) of.0, of.2))

op_read : (end : ℕ) (version : Version) (texts names : ℕ) (bytes : List ℕ) → Holds (IsOne op_bytes (Inside texts names) bytes) (op_at end version texts names bytes)
unfolding op_at
op_read end version texts names [] = refl
op_read end version texts names (code ∷ bytes) = coded_read end (offset end (code ∷ bytes)) texts names code (op_of version code) bytes (op_coded version code)

-- ---- images

abbrev IsParts : List ℕ → Code × List ℕ → Type 0
IsParts = IsOne body IsCode

abbrev AreOps : (texts names count : ℕ) → List ℕ → List Op × List ℕ → Type 0
AreOps texts names = AreMany op_bytes (Inside texts names)

parts_are : (bytes : List ℕ) (texts names : List (List ℕ) × List ℕ) (count : ℕ × List ℕ) (ops : List Op × List ℕ) → IsTable bytes texts → IsTable texts.1 names → IsCount names.1 count → AreOps (length texts.0) (length names.0) count.0 count.1 ops
    → IsParts bytes (code_of_parts ops.0 texts.0 names.0, ops.1)
parts_are bytes texts names count ops of_texts of_names of_count of_ops =
    let t = strings texts.0 in
    let n = strings names.0 in
    let o = number (length ops.0) ++ flat_map op_bytes ops.0 in
    let following : names.1 ≡ o ++ ops.1 = counted ops.0 count.0 (flat_map op_bytes ops.0) ops.1 count.1 names.1 of_count.0 of_ops.0 of_ops.1 in
    let named : texts.1 ≡ (n ++ o) ++ ops.1 = of_names.0 ∙ ap (λ (l : List ℕ). n ++ l) following ∙ sym (append_assoc n o ops.1) in (
      of_texts.0 ∙ ap (λ (l : List ℕ). t ++ l) named ∙ sym (append_assoc t (n ++ o) ops.1),
      record {
        few_ops = omega (arith, of_count.1, of_ops.1);
        few_texts = of_texts.1;
        few_names = of_names.1;
        short_texts = of_texts.2;
        short_names = of_names.2;
        inside = All-from_recursion (Inside (length texts.0) (length names.0)) ops.0 of_ops.2;
      },
    )

parts_read : (end : ℕ) (version : Version) (bytes : List ℕ) → Holds (IsParts bytes) (parts_at end version bytes)
unfolding parts_at
parts_read end version bytes =
    and_then (IsTable bytes) (IsParts bytes) (texts_at end bytes) _ (table_read end bytes)
    (λ texts of_texts. and_then (IsTable texts.1) (IsParts bytes) (texts_at end texts.1) _ (table_read end texts.1)
    (λ names of_names. and_then (IsCount names.1) (IsParts bytes) (count_at end names.1) _ (count_read end names.1)
    (λ count of_count. let t = length texts.0 in
    let n = length names.0 in
    and_then (AreOps t n count.0 count.1) (IsParts bytes) (so_many_ops end version t n count.0 count.1) _ (many_read op_bytes (Inside t n) (op_at end version t n) (so_many_ops end version t n) (ops_read end version t n) (op_read end version t n) count.0 count.1)
    (λ ops of_ops. parts_are bytes texts names count ops of_texts of_names of_count of_ops))))

expected_read : (end : ℕ) (error : ImageError) (wanted bytes : List ℕ) → is_memory error ≡ false → Holds (λ rest. bytes ≡ wanted ++ rest) (expected end error wanted bytes)
expected_read end error [] bytes fault = refl
expected_read end error (wanted ∷ others) [] fault = refl
expected_read end error (wanted ∷ others) (byte ∷ bytes) fault =
    let P : List ℕ → Type 0 = λ rest. byte ∷ bytes ≡ wanted ∷ (others ++ rest) in
    if_holds P (eqb byte wanted) error (expected end error others bytes) fault
    (λ is. implied (λ rest. bytes ≡ others ++ rest) P (expected end error others bytes) (expected_read end error others bytes fault)
    (λ rest on. ap (λ (n : ℕ). n ∷ bytes) (eqb-true byte wanted is) ∙ ap (λ (l : List ℕ). wanted ∷ l) on))

version_read : (end : ℕ) (bytes : List ℕ) → Holds (Takes (λ version. version_byte version ∷ []) bytes) (version_at end bytes)
unfolding version_at
version_read end [] = refl
version_read end (zero ∷ bytes) = refl
version_read end (suc zero ∷ bytes) = refl
version_read end (suc (suc zero) ∷ bytes) = refl
version_read end (suc (suc (suc byte)) ∷ bytes) = refl

of_version_read : (version : Version) (code : Code) → Holds (λ checked. version_byte version ≡ version_byte (version_of code.ops)) (of_version version code)
of_version_read version code = by_test (eqb (version_byte version) (version_byte (version_of code.ops))) refl
  where
    by_test : (test : Bool) → eqb (version_byte version) (version_byte (version_of code.ops)) ≡ test → Holds (λ checked. version_byte version ≡ version_byte (version_of code.ops)) (holds_or BadVersion test)
    by_test true same = eqb-true (version_byte version) (version_byte (version_of code.ops)) same
    by_test false other = refl

whole_read : (end : ℕ) (version : Version) (bytes : List ℕ) (read : Code × List ℕ) → Takes body bytes read → version_byte version ≡ version_byte (version_of read.0.ops)
    → Holds (λ code. (bytes ≡ body code) × (version_byte version ≡ version_byte (version_of code.ops))) (whole end read)
whole_read end version bytes (code, []) is same = (is ∙ append-nil (body code), same)
whole_read end version bytes (code, byte ∷ rest) is same = refl

decoded_read : (bytes : List ℕ) → Holds (λ code. bytes ≡ image code) (decoded bytes)
unfolding decoded image
decoded_read bytes =
    let end = length bytes in
    let P : Code → Type 0 = λ code. bytes ≡ image code in
    and_then (λ rest. bytes ≡ magic ++ rest) P (expected end BadMagic magic bytes) _ (expected_read end BadMagic magic bytes refl)
    (λ versioned m. and_then (Takes (λ version. version_byte version ∷ []) versioned) P (version_at end versioned) _ (version_read end versioned)
    (λ version v. and_then (IsParts version.1) P (parts_at end version.0 version.1) _ (parts_read end version.0 version.1)
    (λ read is. and_then (λ checked. version_byte version.0 ≡ version_byte (version_of read.0.ops)) P (of_version version.0 read.0) _ (of_version_read version.0 read.0)
    (λ checked same. implied (λ code. (version.1 ≡ body code) × (version_byte version.0 ≡ version_byte (version_of code.ops))) P (whole end read) (whole_read end version.0 version.1 read is.0 same)
    (λ code all. m ∙ ap (λ (l : List ℕ). magic ++ l) (v ∙ (ap (λ (l : List ℕ). version_byte version.0 ∷ l) all.0 ∙ ap (λ (n : ℕ). n ∷ body code) all.1)))))))

pub parts_are_code : (end : ℕ) (version : Version) (bytes : List ℕ) (x : Code × List ℕ) → parts_at end version bytes ≡ Ok x → IsCode x.0
parts_are_code end version bytes x e = let is = subst (λ r. Holds (IsParts bytes) r) e (parts_read end version bytes) in is.1

-- what is accepted is the image of what was read
pub is_image : (bytes : List ℕ) (code : Code) → decoded bytes ≡ Ok code → bytes ≡ image code
is_image bytes code e = subst (λ r. Holds (λ code. bytes ≡ image code) r) e (decoded_read bytes)

pub decoded_not_memory : (bytes : List ℕ) → decoded bytes ≢ Err OutOfMemory
decoded_not_memory bytes e = let fault : true ≡ false = subst (λ r. Holds (λ code. bytes ≡ image code) r) e (decoded_read bytes) in absurd cc
