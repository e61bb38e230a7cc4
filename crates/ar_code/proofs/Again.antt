-- What was written is read again.
use Rattle.std.proofs.Common.{All, ◌≡◌, ℕ, zero, suc, ◌+◌, ◌*◌, ◌/◌, ◌%◌, ◌^◌, ◌<◌, ◌≤◌, ℤ, pos, negsuc, Bool, true, false, ◌||◌, cond, eqb, ltb, List, [], ◌∷◌, ◌++◌, length, Some, Ok, refl, sym, ap, subst, ◌∙◌, append_assoc, arith, lit<}
use Rattle.std.specs.Bool.{Decides}
use Rattle.std.specs.List.{flat_map, list_any, AllByRecursion}
use Rattle.std.specs.Str.{bytes_eq}
use Rattle.std.proofs.lemmas.Bool.{eq-eqb, le-ltb, lt-ltb, ltb-true}
use Rattle.std.proofs.lemmas.List.{append-nil, drop_at, length-append, take_at}
use Rattle.std.proofs.lemmas.List.Elements.{All-from_recursion, recursion_from_All}
use Rattle.std.proofs.lemmas.Slice.Eq.{bytes_eq-Decides}
use Rattle.ar_value.specs.Decimal.{is_i64}
use Rattle.ar_value.specs.declared.operator.Scalar.{Scalar}
use Rattle.ar_value.specs.declared.operator.Scalar.TheVariants as scalars
use Rattle.ar_op.specs.Code.{Code, InRange, Inside, IsCode, IsEntry, IsText, IsWritable}
use Rattle.ar_op.specs.declared.op.Op.{Op}
use Rattle.ar_op.specs.declared.op.Op.TheVariants.{Push, MakeList, Field, Unary, Binary, Jump, Enter, Step}
use Rattle.ar_op.specs.declared.op.Jump.TheVariants as jumps
use Rattle.ar_op.specs.declared.op.Source.{Source}
use Rattle.ar_op.specs.declared.op.Source.TheVariants as sources
use Rattle.ar_value.specs.declared.operator.Arithmetic.TheVariants as arithmetic
use Rattle.ar_value.specs.declared.operator.BinaryOperator.TheVariants as binary
use Rattle.ar_value.specs.declared.operator.Compared.TheVariants as compared
use Rattle.ar_value.specs.declared.operator.DecimalArithmetic.TheVariants as on_decimals
use Rattle.ar_value.specs.declared.operator.Family.TheVariants as families
use Rattle.ar_value.specs.declared.operator.Numbers.TheVariants as of_numbers
use Rattle.ar_value.specs.declared.operator.Order.TheVariants as orders
use Rattle.ar_value.specs.declared.operator.Predicate.TheVariants as predicates
use Rattle.ar_value.specs.declared.operator.TextTest.TheVariants as tests
use Rattle.ar_value.specs.declared.operator.UnaryOperator.TheVariants as unary
use Rattle.ar_value.specs.Limits.{most_code_entries, most_literal_items}
use Rattle.ar_code.specs.declared.version.Version.{Version}
use Rattle.ar_code.specs.declared.version.Version.TheVariants.{First, Second}
use Rattle.ar_code.specs.Decoding.{Reading, all_ops, among, count_at, decoded, parts_at, whole, cut_number, so_many_ops, so_many_texts, text_at, texts_at, entry_at, op_at, op_of, offset, fields_at, items_at, list_at, narrow, number_at, scalar_at, signed, source_at, spelled, sum_of, version_at, wide}
use Rattle.ar_code.specs.Image.{body, image, is_new, last_code, magic, version_byte, version_of, fields_of, groups, number, op_bytes, scalar_number, source_fields, string, strings, zigzag}
use Rattle.ar_code.specs.Forms.{code_of}
use Rattle.ar_code.proofs.Loops.{Reads, ops_read, texts_read}

-- ---- numbers

cut_by : (more n : ℕ) (rest : List ℕ) (b : Bool) → ltb n 128 ≡ b → ((m : ℕ) → cut_number (groups more m ++ rest) ≡ Some (groups more m, rest))
    → cut_number (cond b (n ∷ []) ((128 + n % 128) ∷ groups more (n / 128)) ++ rest) ≡ Some (cond b (n ∷ []) ((128 + n % 128) ∷ groups more (n / 128)), rest)
cut_by more n rest true small inner = rw small refl
cut_by more n rest false large inner =
    let continues : ltb (128 + n % 128) 128 ≡ false = le-ltb (128 + n % 128) 128 (omega arith) in
    rw (continues, inner (n / 128)) refl

cut_groups : (more n : ℕ) (rest : List ℕ) → cut_number (groups more n ++ rest) ≡ Some (groups more n, rest)
cut_groups zero n rest =
    let ends : ltb (n % 128) 128 ≡ true = lt-ltb (n % 128) 128 (omega arith) in
    rw ends refl
cut_groups (suc more) n rest = cut_by more n rest (ltb n 128) refl (λ m. cut_groups more m rest)

-- how many numbers have at most n bytes after the first
abbrev room : ℕ → ℕ
room zero = 128
room (suc more) = 128 * room more

sum_by : (more n : ℕ) (b : Bool) → ltb n 128 ≡ b → n < 128 * room more → ((m : ℕ) → m < room more → sum_of (groups more m) ≡ m) → sum_of (cond b (n ∷ []) ((128 + n % 128) ∷ groups more (n / 128))) ≡ n
sum_by more n true small bound inner = omega (arith, ltb-true n 128 small)
sum_by more n false large bound inner = rw (inner (n / 128) (omega (arith, bound))) (omega arith)

sum_groups : (more n : ℕ) → n < room more → sum_of (groups more n) ≡ n
sum_groups zero n bound = omega (arith, bound)
sum_groups (suc more) n bound = sum_by more n (ltb n 128) refl bound (λ m b. sum_groups more m b)

same : (b : Bool) (xs : List ℕ) → Decides b (xs ≡ xs) → b ≡ true
same b xs d = d.1 refl

spelled_again : (limit n : ℕ) → n < limit → n < room 9 → spelled limit (number n) ≡ Some n
spelled_again limit n below bound =
    let sum : sum_of (number n) ≡ n = sum_groups 9 n bound in
    let fits : ltb n limit ≡ true = lt-ltb n limit below in
    let form : bytes_eq (number n) (number n) ≡ true = same (bytes_eq (number n) (number n)) (number n) (bytes_eq-Decides (number n) (number n)) in
    rw (sum, fits, form) refl

pub number_again : (end limit n : ℕ) (rest : List ℕ) → n < limit → n < room 9 → number_at end limit (number n ++ rest) ≡ Ok (n, rest)
unfolding number_at
number_again end limit n rest below bound = rw (cut_groups 9 n rest, spelled_again limit n below bound) refl

-- ---- operations

signed_zigzag : (value : ℤ) → signed (zigzag value) ≡ value
signed_zigzag (pos n) =
    let even : 2 * n % 2 ≡ 0 = omega arith in
    let half : 2 * n / 2 ≡ n = omega arith in
    rw (even, half) refl
signed_zigzag (negsuc n) =
    let odd : (2 * n + 1) % 2 ≡ 1 = omega arith in
    let half : (2 * n + 1) / 2 ≡ n = omega arith in
    rw (odd, half) refl

zigzag_below : (value : ℤ) → is_i64 value ≡ true → zigzag value < 2 ^ 64
zigzag_below (pos n) range = omega (arith, ltb-true n (2 ^ 63) range)
zigzag_below (negsuc n) range = omega (arith, ltb-true n (2 ^ 63) range)

wide_again : (end n : ℕ) (rest : List ℕ) → n < 2 ^ 64 → number_at end wide (number n ++ rest) ≡ Ok (n, rest)
wide_again end n rest below = number_again end wide n rest below (omega (arith, below))

narrow_again : (end n : ℕ) (rest : List ℕ) → n < 2 ^ 32 → number_at end narrow (number n ++ rest) ≡ Ok (n, rest)
narrow_again end n rest below = number_again end narrow n rest below (omega (arith, below))

entry_again : (end at count n : ℕ) (rest : List ℕ) → n < count → count ≤ most_code_entries → entry_at end at count (number n ++ rest) ≡ Ok (n, rest)
unfolding entry_at
entry_again end at count n rest inside few = rw (narrow_again end n rest (omega (arith, inside, few)), lt-ltb n count inside) refl

scalar_again : (end : ℕ) (scalar : Scalar) (rest : List ℕ) → scalar_at end (number (scalar_number scalar) ++ rest) ≡ Ok (scalar, rest)
unfolding scalar_at
scalar_again end scalars.Bool rest = rw (wide_again end 0 rest (lit< tt)) refl
scalar_again end scalars.Whole rest = rw (wide_again end 1 rest (lit< tt)) refl
scalar_again end scalars.Decimal rest = rw (wide_again end 2 rest (lit< tt)) refl
scalar_again end scalars.Text rest = rw (wide_again end 3 rest (lit< tt)) refl

items_again : (end n : ℕ) (rest : List ℕ) → n ≤ most_literal_items → items_at end (number n ++ rest) ≡ Ok (n, rest)
unfolding items_at
items_again end n rest few = rw (wide_again end n rest (omega (arith, few)), le-ltb most_literal_items n few) refl

list_again : (end n : ℕ) (scalar : Scalar) (rest : List ℕ) → n ≤ most_literal_items → list_at end ((number (scalar_number scalar) ++ number n) ++ rest) ≡ Ok (MakeList scalar n, rest)
unfolding list_at
list_again end n scalar rest few = rw (append_assoc (number (scalar_number scalar)) (number n) rest, scalar_again end scalar (number n ++ rest), items_again end n rest few) refl

signed_again : (end : ℕ) (value : ℤ) (rest : List ℕ) → is_i64 value ≡ true → number_at end wide (number (zigzag value) ++ rest) ≡ Ok (zigzag value, rest)
signed_again end value rest range = wide_again end (zigzag value) rest (zigzag_below value range)

-- with empty fields
abbrev empty_source : Source → Source
empty_source (sources.Bool holds) = sources.Bool false
empty_source (sources.Whole value) = sources.Whole (pos 0)
empty_source (sources.Decimal millionths) = sources.Decimal (pos 0)
empty_source (sources.Text number) = sources.Text 0
empty_source source = source

abbrev empty : Op → Op
empty (Push source) = Push (empty_source source)
empty (MakeList scalar count) = MakeList scalars.Bool 0
empty (Field number) = Field 0
empty (Jump jump index) = Jump jump 0
empty (Enter predicate step) = Enter predicate 0
empty (Step predicate enter) = Step predicate 0
empty op = op

-- Each operation is found by its code. A row takes its whole family apart.
found : (op : Op) → among all_ops (code_of op) ≡ Some (empty op)
found (Push (sources.Bool holds)) = refl
found (Unary (unary.Negate of_numbers.Wholes)) = refl
found (Binary (binary.Wholes arithmetic.Add)) = refl
found (Binary (binary.Decimals on_decimals.Add)) = refl
found (Binary (binary.Compare compared.Wholes orders.Less)) = refl
found (Binary (binary.Compare compared.Decimals orders.Less)) = refl
found (Binary (binary.Compare compared.Mixed orders.Less)) = refl
found (Binary (binary.Equal families.Boolean)) = refl
found (Jump jumps.And index) = refl
found (Binary (binary.TextTest tests.Contains)) = refl
found (Enter predicates.All index) = refl
found (Step predicates.All index) = refl
found op = refl

-- an operation that images of a version may have
abbrev IsOf : Version → Op → Type 0
IsOf version op = ltb (last_code version) (code_of op) ≡ false

-- the second version has each operation
of_second : (op : Op) → IsOf Second op
of_second (Push (sources.Bool holds)) = refl
of_second (Unary (unary.Negate of_numbers.Wholes)) = refl
of_second (Binary (binary.Wholes arithmetic.Add)) = refl
of_second (Binary (binary.Decimals on_decimals.Add)) = refl
of_second (Binary (binary.Compare compared.Wholes orders.Less)) = refl
of_second (Binary (binary.Compare compared.Decimals orders.Less)) = refl
of_second (Binary (binary.Compare compared.Mixed orders.Less)) = refl
of_second (Binary (binary.Equal families.Boolean)) = refl
of_second (Jump jumps.And index) = refl
of_second (Binary (binary.TextTest tests.Contains)) = refl
of_second (Enter predicates.All index) = refl
of_second (Step predicates.All index) = refl
of_second op = refl

all_of_second : (ops : List Op) → AllByRecursion (IsOf Second) ops
all_of_second [] = tt
all_of_second (op ∷ ops) = (of_second op, all_of_second ops)

none_first : (a b : Bool) → (a || b) ≡ false → (a ≡ false) × (b ≡ false)
none_first false b e = (refl, e)
none_first true b e = absurd cc

all_of_first : (ops : List Op) → list_any is_new ops ≡ false → AllByRecursion (IsOf First) ops
all_of_first [] none = tt
all_of_first (op ∷ ops) none = let first = none_first (is_new op) (list_any is_new ops) none in (first.0, all_of_first ops first.1)

-- code has the operations of its version alone
of_its_version : (ops : List Op) → AllByRecursion (IsOf (version_of ops)) ops
of_its_version ops = by_new (list_any is_new ops) refl
  where
    by_new : (new : Bool) → list_any is_new ops ≡ new → AllByRecursion (IsOf (cond new Second First)) ops
    by_new true e = all_of_second ops
    by_new false e = all_of_first ops e

op_found : (version : Version) (op : Op) → IsOf version op → op_of version (code_of op) ≡ Some (empty op)
unfolding op_of
op_found version op is = rw is (found op)

source_again : (end at texts names : ℕ) (source : Source) (rest : List ℕ) → texts ≤ most_code_entries → InRange (Push source) → Inside texts names (Push source) → source_at end at texts (empty_source source) (source_fields source ++ rest) ≡ Ok (source, rest)
unfolding source_at
source_again end at texts names (sources.Bool true) rest few range inside = refl
source_again end at texts names (sources.Bool false) rest few range inside = refl
source_again end at texts names (sources.Whole value) rest few range inside = rw (signed_again end value rest range, signed_zigzag value) refl
source_again end at texts names (sources.Decimal millionths) rest few range inside = rw (signed_again end millionths rest range, signed_zigzag millionths) refl
source_again end at texts names (sources.Text number) rest few range inside = rw (entry_again end at texts number rest inside few) refl
source_again end at texts names source rest few range inside = refl

fields_again : (end at texts names : ℕ) (op : Op) (rest : List ℕ) → texts ≤ most_code_entries → names ≤ most_code_entries → InRange op → Inside texts names op → fields_at end at texts names (empty op) (fields_of op ++ rest) ≡ Ok (op, rest)
unfolding fields_at
fields_again end at texts names (Push source) rest few_texts few_names range inside = rw (source_again end at texts names source rest few_texts range inside) refl
fields_again end at texts names (MakeList scalar count) rest few_texts few_names range inside = list_again end count scalar rest inside
fields_again end at texts names (Field number) rest few_texts few_names range inside = rw (entry_again end at names number rest inside few_names) refl
fields_again end at texts names (Jump jump index) rest few_texts few_names range inside = rw (narrow_again end index rest range) refl
fields_again end at texts names (Enter predicate step) rest few_texts few_names range inside = rw (narrow_again end step rest range) refl
fields_again end at texts names (Step predicate enter) rest few_texts few_names range inside = rw (narrow_again end enter rest range) refl
fields_again end at texts names op rest few_texts few_names range inside = refl

op_again : (end : ℕ) (version : Version) (texts names : ℕ) (op : Op) (rest : List ℕ) → texts ≤ most_code_entries → names ≤ most_code_entries → IsOf version op → InRange op × Inside texts names op → op_at end version texts names (op_bytes op ++ rest) ≡ Ok (op, rest)
unfolding op_at
op_again end version texts names op rest few_texts few_names of (range, inside) = rw (op_found version op of, fields_again end (offset end (op_bytes op ++ rest)) texts names op rest few_texts few_names range inside) refl

-- ---- texts

count_again : (end n : ℕ) (rest : List ℕ) → n ≤ most_code_entries → count_at end (number n ++ rest) ≡ Ok (n, rest)
unfolding count_at
count_again end n rest few = rw (wide_again end n rest (omega (arith, few)), le-ltb most_code_entries n few) refl

text_again : (end : ℕ) (text rest : List ℕ) → IsEntry text → IsText text → text_at end (string text ++ rest) ≡ Ok (text, rest)
unfolding text_at
text_again end text rest short utf8 =
    let long : ltb (length (text ++ rest)) (length text) ≡ false = le-ltb (length (text ++ rest)) (length text) (omega (arith, length-append text rest)) in
    rw (append_assoc (number (length text)) text rest, count_again end (length text) (text ++ rest) short, long, take_at text rest (length text) refl, drop_at text rest (length text) refl, utf8) refl

-- n things are read again, if each of them is
many_again : {A : Type 0} (image : A → List ℕ) (P Q : A → Type 0) (one : List ℕ → Reading A) (many : ℕ → List ℕ → Reading (List A)) → Reads one many → ((x : A) (rest : List ℕ) → P x → Q x → one (image x ++ rest) ≡ Ok (x, rest))
    → (xs : List A) (rest : List ℕ) → AllByRecursion P xs → AllByRecursion Q xs → many (length xs) (flat_map image xs ++ rest) ≡ Ok (xs, rest)
many_again image P Q one many reads each [] rest p q = reads.none rest
many_again image P Q one many reads each (x ∷ xs) rest p q =
    rw (reads.more (length xs) (flat_map image (x ∷ xs) ++ rest), append_assoc (image x) (flat_map image xs) rest, each x (flat_map image xs ++ rest) p.0 q.0, many_again image P Q one many reads each xs rest p.1 q.1) refl

table_again : (end : ℕ) (texts : List (List ℕ)) (rest : List ℕ) → length texts ≤ most_code_entries → All IsEntry texts → All IsText texts → texts_at end (strings texts ++ rest) ≡ Ok (texts, rest)
unfolding texts_at
table_again end texts rest few short utf8 =
    let each = many_again string IsEntry IsText (text_at end) (so_many_texts end) (texts_read end) (text_again end) texts rest (recursion_from_All IsEntry texts short) (recursion_from_All IsText texts utf8) in
    rw (append_assoc (number (length texts)) (flat_map string texts) rest, count_again end (length texts) (flat_map string texts ++ rest) few, each) refl

-- ---- images

both_of_all : {A : Type 0} (P Q : A → Type 0) (xs : List A) → AllByRecursion P xs → AllByRecursion Q xs → AllByRecursion (λ x. P x × Q x) xs
both_of_all P Q [] p q = tt
both_of_all P Q (x ∷ xs) p q = ((p.0, q.0), both_of_all P Q xs p.1 q.1)

ops_again : (end texts names : ℕ) (ops : List Op) (rest : List ℕ) → texts ≤ most_code_entries → names ≤ most_code_entries → All InRange ops → All (Inside texts names) ops
    → so_many_ops end (version_of ops) texts names (length ops) (flat_map op_bytes ops ++ rest) ≡ Ok (ops, rest)
ops_again end texts names ops rest few_texts few_names ranges inside =
    let version = version_of ops in
    many_again op_bytes (IsOf version) (λ op. InRange op × Inside texts names op) (op_at end version texts names) (so_many_ops end version texts names) (ops_read end version texts names) (λ op rest. op_again end version texts names op rest few_texts few_names) ops rest
    (of_its_version ops) (both_of_all InRange (Inside texts names) ops (recursion_from_All InRange ops ranges) (recursion_from_All (Inside texts names) ops inside))

regrouped : (a b c d rest : List ℕ) → (a ++ (b ++ (c ++ d))) ++ rest ≡ a ++ (b ++ (c ++ (d ++ rest)))
regrouped a b c d rest = simp append_assoc

parts_again : (end : ℕ) (code : Code) (rest : List ℕ) → IsWritable code → parts_at end (version_of code.ops) (body code ++ rest) ≡ Ok (code, rest)
unfolding parts_at
parts_again end code rest w =
    let t = strings code.texts in
    let n = strings code.names in
    let c = number (length code.ops) in
    let o = flat_map op_bytes code.ops in
    rw (
      regrouped t n c o rest,
      table_again end code.texts (n ++ (c ++ (o ++ rest))) w.is_code.few_texts w.is_code.short_texts w.texts,
      table_again end code.names (c ++ (o ++ rest)) w.is_code.few_names w.is_code.short_names w.names,
      count_again end (length code.ops) (o ++ rest) w.is_code.few_ops,
      ops_again end (length code.texts) (length code.names) code.ops rest w.is_code.few_texts w.is_code.few_names w.ranges w.is_code.inside,
    )
    refl

-- bytes that begin with an image
-- a version is read as it is written
version_again : (end : ℕ) (version : Version) (rest : List ℕ) → version_at end (version_byte version ∷ rest) ≡ Ok (version, rest)
unfolding version_at
version_again end First rest = refl
version_again end Second rest = refl

begun : (code : Code) (rest : List ℕ) → IsWritable code → decoded (image code ++ rest) ≡ whole (length (image code ++ rest)) (code, rest)
unfolding decoded image
begun code rest w =
    let end = length (magic ++ version_byte (version_of code.ops) ∷ body code ++ rest) in
    let same : eqb (version_byte (version_of code.ops)) (version_byte (version_of code.ops)) ≡ true = eq-eqb (version_byte (version_of code.ops)) (version_byte (version_of code.ops)) refl in
    rw (version_again end (version_of code.ops) (body code ++ rest), parts_again end code rest w, same) refl

-- the image of code is read as that code
pub image_again : (code : Code) → IsWritable code → decoded (image code) ≡ Ok code
image_again code w = subst (λ (bytes : List ℕ). decoded bytes ≡ Ok code) (append-nil (image code)) (begun code [] w)

-- likewise of what was written
pub read_again : (code : Code) (bytes : List ℕ) → bytes ≡ image code → IsCode code → AllByRecursion IsText code.texts → AllByRecursion IsText code.names → AllByRecursion InRange code.ops
    → decoded bytes ≡ Ok code
read_again code bytes is is_code texts names ranges = rw is (image_again code (record {
  is_code = is_code;
  texts = All-from_recursion IsText code.texts texts;
  names = All-from_recursion IsText code.names names;
  ranges = All-from_recursion InRange code.ops ranges;
}))

trailing : (end : ℕ) (first second : Code) (rest : List ℕ) → whole end (first, rest) ≡ Ok second → (first ≡ second) × (rest ≡ [])
trailing end first second [] e = (cc, refl)
trailing end first second (byte ∷ rest) e = absurd cc

-- no code has two images, no image is that of two codes, and none begins another
pub one_image : (first second : Code) (rest : List ℕ) → IsWritable first → IsWritable second → image first ++ rest ≡ image second → (first ≡ second) × (rest ≡ [])
one_image first second rest w v e =
    trailing (length (image first ++ rest)) first second rest (sym (begun first rest w) ∙ ap decoded e ∙ image_again second v)

-- ---- versions

-- an image of version 1 is what it was before there was another
pub first_image : (code : Code) → list_any is_new code.ops ≡ false → image code ≡ magic ++ 1 ∷ body code
unfolding image
first_image code none = rw none refl

pub second_image : (code : Code) → list_any is_new code.ops ≡ true → image code ≡ magic ++ 2 ∷ body code
unfolding image
second_image code some = rw some refl
