-- The image of code: the bytes that represent it, each code having one.
use Rattle.std.specs.Prelude.{ℕ, codes, zero, suc, ◌+◌, ◌*◌, ◌/◌, ◌%◌, nat_lt, ℤ, pos, negsuc, Bool, true, false, if◌then◌else◌, List, [], ◌∷◌, ◌++◌, length}
use Rattle.std.specs.List.{flat_map, list_any}
use Rattle.ar_value.specs.Terms.{Text}
use Rattle.ar_value.specs.declared.operator.Scalar.{Scalar}
use Rattle.ar_value.specs.declared.operator.Scalar.TheVariants as scalars
use Rattle.ar_op.specs.Code.{Code}
use Rattle.ar_op.specs.declared.op.Jump.{Jump}
use Rattle.ar_op.specs.declared.op.Op.{Op}
use Rattle.ar_op.specs.declared.op.Op.TheVariants as ops
use Rattle.ar_op.specs.declared.op.Source.{Source}
use Rattle.ar_op.specs.declared.op.Source.TheVariants as sources
use Rattle.ar_code.specs.declared.version.Version.{Version}
use Rattle.ar_code.specs.declared.version.Version.TheVariants.{First, Second}
use Rattle.ar_code.specs.Forms.{code_of}

-- ---- numbers and texts

-- seven bits a byte, the lowest first, each byte but the last with 128 more; at most `more` bytes after the first
abbrev pub groups : ℕ → ℕ → List ℕ
groups zero n = n % 128 ∷ []
groups (suc more) n = if nat_lt n 128 then n ∷ [] else (128 + n % 128) ∷ groups more (n / 128)

-- a number below 2 ^ 64 in LEB128, in its shortest form
abbrev pub number : ℕ → List ℕ
number n = groups 9 n

-- a signed number as an unsigned one: 0, -1, 1, -2, 2 and so on
abbrev pub zigzag : ℤ → ℕ
zigzag (pos n) = 2 * n
zigzag (negsuc n) = 2 * n + 1

-- a text's length and its bytes
abbrev pub string : Text → List ℕ
string letters = number (length letters) ++ letters

abbrev pub strings : List Text → List ℕ
strings texts = number (length texts) ++ flat_map string texts

-- ---- operations

abbrev pub bit : Bool → ℕ
bit true = 1
bit false = 0

abbrev pub scalar_number : Scalar → ℕ
scalar_number scalars.Bool = 0
scalar_number scalars.Whole = 1
scalar_number scalars.Decimal = 2
scalar_number scalars.Text = 3

abbrev pub source_fields : Source → List ℕ
source_fields (sources.Bool holds) = bit holds ∷ []
source_fields (sources.Whole value) = number (zigzag value)
source_fields (sources.Decimal millionths) = number (zigzag millionths)
source_fields (sources.Text text) = number text
source_fields sources.Nil = []
source_fields sources.Result = []
source_fields sources.Item = []

-- what comes after an operation's code
abbrev pub fields_of : Op → List ℕ
fields_of (ops.Push source) = source_fields source
fields_of (ops.MakeList scalar count) = number (scalar_number scalar) ++ number count
fields_of (ops.Field name) = number name
fields_of (ops.Jump jump index) = number index
fields_of (ops.Enter predicate step) = number step
fields_of (ops.Step predicate enter) = number enter
fields_of (ops.Unary operator) = []
fields_of (ops.Binary operator) = []
fields_of ops.Return = []

abbrev pub op_bytes : Op → List ℕ
op_bytes op = code_of op ∷ fields_of op

-- ---- images

-- the bytes with which each image begins
abbrev pub magic : List ℕ
magic = codes "ARCV"

-- the greatest code of an operation of a version
abbrev pub last_code : Version → ℕ
last_code First = 56
last_code Second = 63

-- an operation that the first version lacks
abbrev pub is_new : Op → Bool
is_new op = nat_lt (last_code First) (code_of op)

-- the version of code: the second where it has such an operation, else the first
abbrev pub version_of : List Op → Version
version_of ops = if list_any is_new ops then Second else First

abbrev pub version_byte : Version → ℕ
version_byte First = 1
version_byte Second = 2

-- texts, names and operations
abbrev pub body : Code → List ℕ
body code = strings code.texts ++ (strings code.names ++ (number (length code.ops) ++ flat_map op_bytes code.ops))

unfoldable pub image : Code → List ℕ
image code = magic ++ version_byte (version_of code.ops) ∷ body code
