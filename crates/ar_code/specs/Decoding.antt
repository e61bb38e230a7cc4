-- The code whose image bytes are, or the first fault from left to right.
use Rattle.std.specs.Prelude.{ℕ, zero, suc, ◌+◌, ◌*◌, ◌-◌, ◌/◌, ◌%◌, ◌^◌, ◌==◌, nat_lt, ℤ, pos, negsuc, Bool, true, false, ◌&&◌, if◌then◌else◌, List, [], ◌∷◌, length, take, drop, Option, Some, None, option_map, Result, Ok, Err, ⊤}
use Rattle.std.specs.Str.{bytes_eq, is_utf8}
use Rattle.ar_value.specs.Terms.{Text}
use Rattle.ar_value.specs.Answer.{◌>>=◌, holds_or}
use Rattle.ar_value.specs.declared.operator.Arithmetic.TheVariants.{Add, Subtract, Multiply, Divide, Remainder}
use Rattle.ar_value.specs.declared.operator.BinaryOperator.TheVariants as binary
use Rattle.ar_value.specs.declared.operator.Compared.TheVariants as compared
use Rattle.ar_value.specs.declared.operator.DecimalArithmetic.TheVariants as on_decimals
use Rattle.ar_value.specs.declared.operator.Family.TheVariants as families
use Rattle.ar_value.specs.declared.operator.Numbers.TheVariants.{Wholes, Decimals}
use Rattle.ar_value.specs.declared.operator.Order.TheVariants.{Less, LessOrEqual, Greater, GreaterOrEqual}
use Rattle.ar_value.specs.declared.operator.Predicate.TheVariants as predicates
use Rattle.ar_value.specs.declared.operator.Scalar.{Scalar}
use Rattle.ar_value.specs.declared.operator.Scalar.TheVariants as scalars
use Rattle.ar_value.specs.declared.operator.TextTest.TheVariants as tests
use Rattle.ar_value.specs.declared.operator.UnaryOperator.TheVariants as unary
use Rattle.ar_value.specs.Limits.{most_code_entries, most_literal_items}
use Rattle.ar_op.specs.Code.{Code}
use Rattle.ar_op.specs.declared.op.Jump.TheVariants as jumps
use Rattle.ar_op.specs.declared.op.Op.{Op}
use Rattle.ar_op.specs.declared.op.Op.TheVariants.{Push, MakeList, Field, Unary, Binary, Jump, Enter, Step, Return}
use Rattle.ar_op.specs.declared.op.Source.{Source}
use Rattle.ar_op.specs.declared.op.Source.TheVariants as sources
use Rattle.ar_code.specs.Image.{last_code, magic, number, version_byte, version_of}
use Rattle.ar_code.specs.Forms.{code_of}
use Rattle.ar_code.specs.declared.version.Version.{Version}
use Rattle.ar_code.specs.declared.version.Version.TheVariants.{First, Second}
use Rattle.ar_code.specs.declared.error.ImageError.{ImageError}
use Rattle.ar_code.specs.declared.error.ImageError.TheVariants.{BadMagic, BadVersion, Truncated, BadNumber, UnknownOp, BadText, TooLarge, Trailing, OutOfMemory}

-- What is read is a value and the bytes after it. Where an input ends at an offset, what begins with the last n bytes
-- of it is n bytes before that offset.
abbrev pub Reading : Type 0 → Type 0
Reading A = Result (A × List ℕ) ImageError

abbrev pub offset : ℕ → List ℕ → ℕ
offset end bytes = end - length bytes

abbrev pub byte_at : ℕ → List ℕ → Reading ℕ
byte_at end [] = Err (Truncated end)
byte_at end (byte ∷ bytes) = Ok (byte, bytes)

-- ---- numbers

-- the bytes of a number, and those after it: the last is the first one below 128
abbrev pub cut_number : List ℕ → Option (List ℕ × List ℕ)
cut_number [] = None
cut_number (byte ∷ bytes) =
    if nat_lt byte 128 then Some (byte ∷ [], bytes) else option_map (λ cut. (byte ∷ cut.0, cut.1)) (cut_number bytes)

-- seven bits a byte, the lowest first
abbrev pub sum_of : List ℕ → ℕ
sum_of [] = 0
sum_of (byte ∷ bytes) = byte % 128 + 128 * sum_of bytes

-- the number below a limit whose one form bytes are
abbrev pub spelled : (limit : ℕ) → List ℕ → Option ℕ
spelled limit text =
    if nat_lt (sum_of text) limit && bytes_eq (number (sum_of text)) text then Some (sum_of text) else None

abbrev pub where_spelled : (at : ℕ) → Option ℕ → List ℕ → Reading ℕ
where_spelled at None bytes = Err (BadNumber at)
where_spelled at (Some n) bytes = Ok (n, bytes)

abbrev pub whole_number : ℕ → (at limit : ℕ) → Option (List ℕ × List ℕ) → Reading ℕ
whole_number end at limit None = Err (Truncated end)
whole_number end at limit (Some cut) = where_spelled at (spelled limit cut.0) cut.1

unfoldable pub number_at : ℕ → (limit : ℕ) → List ℕ → Reading ℕ
number_at end limit bytes = whole_number end (offset end bytes) limit (cut_number bytes)

-- counts and signed numbers have 64 bits, numbers of texts, names and indexes 32
abbrev pub wide : ℕ
wide = 2 ^ 64

abbrev pub narrow : ℕ
narrow = 2 ^ 32

-- the signed number whose zigzag a number is
abbrev pub signed : ℕ → ℤ
signed n = if n % 2 == 0 then pos (n / 2) else negsuc (n / 2)

unfoldable pub count_at : ℕ → List ℕ → Reading ℕ
count_at end bytes = do
  count ← number_at end wide bytes
  if nat_lt most_code_entries count.0 then Err TooLarge else Ok count

-- ---- texts

-- the text that bytes are in UTF-8
abbrev pub text_of : List ℕ → Option (List ℕ)
text_of bytes = if is_utf8 bytes then Some bytes else None

abbrev pub where_text : (at : ℕ) → Option (List ℕ) → List ℕ → Reading (List ℕ)
where_text at None bytes = Err (BadText at)
where_text at (Some letters) bytes = Ok (letters, bytes)

-- `len` bytes, which have to be UTF-8
abbrev pub letters_at : ℕ → (len : ℕ) → List ℕ → Reading (List ℕ)
letters_at end len bytes =
    if nat_lt (length bytes) len then Err (Truncated end)
    else where_text (offset end bytes) (text_of (take len bytes)) (drop len bytes)

unfoldable pub text_at : ℕ → List ℕ → Reading (List ℕ)
text_at end bytes = count_at end bytes >>= λ len. letters_at end len.0 len.1

unfoldable pub so_many_texts : ℕ → (count : ℕ) → List ℕ → Reading (List (List ℕ))
so_many_texts end zero bytes = Ok ([], bytes)
so_many_texts end (suc count) bytes = do
  first ← text_at end bytes
  others ← so_many_texts end count first.1
  Ok (first.0 ∷ others.0, others.1)

unfoldable pub texts_at : ℕ → List ℕ → Reading (List (List ℕ))
texts_at end bytes = count_at end bytes >>= λ count. so_many_texts end count.0 count.1

-- ---- operations

-- one operation for each code, in their order, its fields being empty
abbrev pub all_ops : List Op
all_ops =
    Push (sources.Bool false) ∷ Push (sources.Whole (pos 0)) ∷ Push (sources.Decimal (pos 0)) ∷ Push (sources.Text 0)
    ∷ Push sources.Nil ∷ MakeList scalars.Bool 0
    ∷ Push sources.Result ∷ Push sources.Item ∷ Field 0 ∷ Binary binary.Index ∷ Unary unary.Len ∷ Unary unary.Need
    ∷ Unary unary.IsNil ∷ Binary binary.Default
    ∷ Unary unary.ToDecimal ∷ Binary binary.IsIn ∷ Unary unary.Not
    ∷ Binary (binary.Wholes Add) ∷ Binary (binary.Wholes Subtract) ∷ Binary (binary.Wholes Multiply)
    ∷ Binary (binary.Wholes Divide) ∷ Binary (binary.Wholes Remainder)
    ∷ Unary (unary.Negate Wholes)
    ∷ Binary (binary.Decimals on_decimals.Add) ∷ Binary (binary.Decimals on_decimals.Subtract)
    ∷ Binary (binary.Decimals on_decimals.Multiply) ∷ Binary (binary.Decimals on_decimals.Divide)
    ∷ Unary (unary.Negate Decimals)
    ∷ Binary (binary.Compare compared.Wholes Less) ∷ Binary (binary.Compare compared.Wholes LessOrEqual)
    ∷ Binary (binary.Compare compared.Wholes Greater) ∷ Binary (binary.Compare compared.Wholes GreaterOrEqual)
    ∷ Binary (binary.Compare compared.Decimals Less) ∷ Binary (binary.Compare compared.Decimals LessOrEqual)
    ∷ Binary (binary.Compare compared.Decimals Greater) ∷ Binary (binary.Compare compared.Decimals GreaterOrEqual)
    ∷ Binary (binary.Compare compared.Mixed Less) ∷ Binary (binary.Compare compared.Mixed LessOrEqual)
    ∷ Binary (binary.Compare compared.Mixed Greater) ∷ Binary (binary.Compare compared.Mixed GreaterOrEqual)
    ∷ Binary (binary.Equal families.Boolean) ∷ Binary (binary.Equal families.Number)
    ∷ Binary (binary.Equal families.Text)
    ∷ Jump jumps.And 0 ∷ Jump jumps.Or 0 ∷ Jump jumps.Branch 0 ∷ Jump jumps.Always 0
    ∷ Enter predicates.All 0 ∷ Step predicates.All 0 ∷ Enter predicates.Any 0 ∷ Step predicates.Any 0
    ∷ Enter predicates.Count 0 ∷ Step predicates.Count 0 ∷ Enter predicates.Filter 0 ∷ Step predicates.Filter 0 ∷ Return
    ∷ Enter predicates.None 0 ∷ Step predicates.None 0 ∷ Enter predicates.One 0 ∷ Step predicates.One 0
    ∷ Binary (binary.TextTest tests.Contains) ∷ Binary (binary.TextTest tests.StartsWith)
    ∷ Binary (binary.TextTest tests.EndsWith) ∷ []

abbrev pub among : List Op → ℕ → Option Op
among [] code = None
among (op ∷ ops) code = if code_of op == code then Some op else among ops code

-- the operation that has a code in images of a version
unfoldable pub op_of : Version → ℕ → Option Op
op_of version code = if nat_lt (last_code version) code then None else among all_ops code

abbrev pub scalar_of : ℕ → Option Scalar
scalar_of zero = Some scalars.Bool
scalar_of (suc zero) = Some scalars.Whole
scalar_of (suc (suc zero)) = Some scalars.Decimal
scalar_of (suc (suc (suc zero))) = Some scalars.Text
scalar_of n = None

abbrev pub bit_at : ℕ → List ℕ → Reading Bool
bit_at end [] = Err (Truncated end)
bit_at end (zero ∷ bytes) = Ok (false, bytes)
bit_at end (suc zero ∷ bytes) = Ok (true, bytes)
bit_at end (suc (suc byte) ∷ bytes) = Err (BadNumber (offset end (suc (suc byte) ∷ bytes)))

abbrev pub where_scalar : ℕ → Option Scalar → List ℕ → Reading Scalar
where_scalar at None bytes = Err (BadNumber at)
where_scalar at (Some scalar) bytes = Ok (scalar, bytes)

unfoldable pub scalar_at : ℕ → List ℕ → Reading Scalar
scalar_at end bytes = number_at end wide bytes >>= λ n. where_scalar (offset end bytes) (scalar_of n.0) n.1

-- how many items: at most 16
unfoldable pub items_at : ℕ → List ℕ → Reading ℕ
items_at end bytes = do
  n ← number_at end wide bytes
  if nat_lt most_literal_items n.0 then Err (BadNumber (offset end bytes)) else Ok n

-- a number of one of `count` entries, in an operation at an offset
unfoldable pub entry_at : ℕ → (at count : ℕ) → List ℕ → Reading ℕ
entry_at end at count bytes = do
  n ← number_at end narrow bytes
  if nat_lt n.0 count then Ok n else Err (BadText at)

-- a source with the field that comes after its code, in the operation at an offset of code with n texts
unfoldable pub source_at : ℕ → (at texts : ℕ) → Source → List ℕ → Reading Source
source_at end at texts (sources.Bool empty) bytes = bit_at end bytes >>= λ holds. Ok (sources.Bool holds.0, holds.1)
source_at end at texts (sources.Whole empty) bytes =
    number_at end wide bytes >>= λ n. Ok (sources.Whole (signed n.0), n.1)
source_at end at texts (sources.Decimal empty) bytes =
    number_at end wide bytes >>= λ n. Ok (sources.Decimal (signed n.0), n.1)
source_at end at texts (sources.Text empty) bytes = entry_at end at texts bytes >>= λ n. Ok (sources.Text n.0, n.1)
source_at end at texts source bytes = Ok (source, bytes)

unfoldable pub list_at : ℕ → List ℕ → Reading Op
list_at end bytes = do
  scalar ← scalar_at end bytes
  count ← items_at end scalar.1
  Ok (MakeList scalar.0 count.0, count.1)

-- the operation at an offset with the fields that come after its code, in code with n texts and m names
unfoldable pub fields_at : ℕ → (at texts names : ℕ) → Op → List ℕ → Reading Op
fields_at end at texts names (Push source) bytes =
    source_at end at texts source bytes >>= λ source. Ok (Push source.0, source.1)
fields_at end at texts names (MakeList scalar empty) bytes = list_at end bytes
fields_at end at texts names (Field empty) bytes = entry_at end at names bytes >>= λ n. Ok (Field n.0, n.1)
fields_at end at texts names (Jump jump empty) bytes = number_at end narrow bytes >>= λ n. Ok (Jump jump n.0, n.1)
fields_at end at texts names (Enter predicate empty) bytes =
    number_at end narrow bytes >>= λ n. Ok (Enter predicate n.0, n.1)
fields_at end at texts names (Step predicate empty) bytes =
    number_at end narrow bytes >>= λ n. Ok (Step predicate n.0, n.1)
fields_at end at texts names op bytes = Ok (op, bytes)

abbrev pub coded : ℕ → (at texts names : ℕ) → Option Op → List ℕ → Reading Op
coded end at texts names None bytes = Err (UnknownOp at)
coded end at texts names (Some op) bytes = fields_at end at texts names op bytes

unfoldable pub op_at : ℕ → Version → (texts names : ℕ) → List ℕ → Reading Op
op_at end version texts names bytes = do
  code ← byte_at end bytes
  coded end (offset end bytes) texts names (op_of version code.0) code.1

unfoldable pub so_many_ops : ℕ → Version → (texts names count : ℕ) → List ℕ → Reading (List Op)
so_many_ops end version texts names zero bytes = Ok ([], bytes)
so_many_ops end version texts names (suc count) bytes = do
  first ← op_at end version texts names bytes
  others ← so_many_ops end version texts names count first.1
  Ok (first.0 ∷ others.0, others.1)

-- ---- images

-- bytes that are required there, one by one
abbrev pub expected : ℕ → (error : ImageError) → List ℕ → List ℕ → Result (List ℕ) ImageError
expected end error [] bytes = Ok bytes
expected end error (wanted ∷ others) [] = Err (Truncated end)
expected end error (wanted ∷ others) (byte ∷ bytes) =
    if byte == wanted then expected end error others bytes else Err error

abbrev pub version_named : ℕ → Option Version
version_named zero = None
version_named (suc zero) = Some First
version_named (suc (suc zero)) = Some Second
version_named (suc (suc (suc byte))) = None

abbrev pub where_version : Option Version → List ℕ → Reading Version
where_version None bytes = Err BadVersion
where_version (Some version) bytes = Ok (version, bytes)

unfoldable pub version_at : ℕ → List ℕ → Reading Version
version_at end bytes = byte_at end bytes >>= λ byte. where_version (version_named byte.0) byte.1

-- an image names the version of its code
abbrev pub of_version : Version → Code → Result ⊤ ImageError
of_version version code = holds_or BadVersion (version_byte version == version_byte (version_of code.ops))

unfoldable pub parts_at : ℕ → Version → List ℕ → Reading Code
parts_at end version bytes = do
  texts ← texts_at end bytes
  names ← texts_at end texts.1
  count ← count_at end names.1
  ops ← so_many_ops end version (length texts.0) (length names.0) count.0 count.1
  Ok (record { ops = ops.0; texts = texts.0; names = names.0 }, ops.1)

abbrev pub whole : ℕ → Code × List ℕ → Result Code ImageError
whole end (code, []) = Ok code
whole end (code, byte ∷ bytes) = Err (Trailing (offset end (byte ∷ bytes)))

unfoldable pub decoded : List ℕ → Result Code ImageError
decoded bytes = do
  versioned ← expected (length bytes) BadMagic magic bytes
  version ← version_at (length bytes) versioned
  read ← parts_at (length bytes) version.0 version.1
  checked ← of_version version.0 read.0
  whole (length bytes) read

abbrev pub is_memory : ImageError → Bool
is_memory OutOfMemory = true
is_memory error = false
