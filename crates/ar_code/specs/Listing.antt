-- The listing of code: a line for each operation, with its index, its name and its fields.
use Rattle.std.specs.Prelude.{ℕ, suc, Bool, true, false, List, [], ◌∷◌, ◌++◌, codes, decimal, get_or}
use Rattle.std.specs.Fmt.{signed_decimal}
use Rattle.ar_value.specs.Bytes.{byte_of}
use Rattle.ar_value.specs.Terms.{Index, Text}
use Rattle.ar_value.specs.declared.operator.Scalar.{Scalar}
use Rattle.ar_value.specs.declared.operator.Scalar.TheVariants as scalars
use Rattle.ar_op.specs.Code.{Code}
use Rattle.ar_op.specs.declared.op.Jump.{Jump}
use Rattle.ar_op.specs.declared.op.Op.{Op}
use Rattle.ar_op.specs.declared.op.Op.TheVariants as ops
use Rattle.ar_op.specs.declared.op.Source.{Source}
use Rattle.ar_op.specs.declared.op.Source.TheVariants as sources
use Rattle.ar_code.specs.Forms.{name_of}

abbrev pub scalar_name : Scalar → Text
scalar_name scalars.Bool = codes "bool"
scalar_name scalars.Whole = codes "whole"
scalar_name scalars.Decimal = codes "decimal"
scalar_name scalars.Text = codes "text"

abbrev pub boolean_name : Bool → Text
boolean_name true = codes "true"
boolean_name false = codes "false"

abbrev pub space : ℕ
space = byte_of (codes " ")

abbrev pub line_feed : ℕ
line_feed = byte_of (codes "\n")

-- the number of an entry of a table, and the entry itself; in code there is one for each number
abbrev pub numbered : List Text → ℕ → Text
numbered texts n = space ∷ (decimal n ++ (space ∷ get_or texts n []))

abbrev pub source_text : Code → Source → Text
source_text code (sources.Bool holds) = space ∷ boolean_name holds
source_text code (sources.Whole value) = space ∷ signed_decimal value
source_text code (sources.Decimal millionths) = space ∷ signed_decimal millionths
source_text code (sources.Text number) = numbered code.texts number
source_text code sources.Nil = []
source_text code sources.Result = []
source_text code sources.Item = []

-- what comes after an operation's name
abbrev pub fields_text : Code → Op → Text
fields_text code (ops.Push source) = source_text code source
fields_text code (ops.MakeList scalar count) = space ∷ (scalar_name scalar ++ (space ∷ decimal count))
fields_text code (ops.Field number) = numbered code.names number
fields_text code (ops.Jump jump index) = space ∷ decimal index
fields_text code (ops.Enter predicate step) = space ∷ decimal step
fields_text code (ops.Step predicate enter) = space ∷ decimal enter
fields_text code (ops.Unary operator) = []
fields_text code (ops.Binary operator) = []
fields_text code ops.Return = []

abbrev pub line : Code → (index : Index) → Op → Text
line code index op = decimal index ++ (space ∷ (name_of op ++ (fields_text code op ++ line_feed ∷ [])))

-- the lines of operations, the first of which is at `index`
abbrev pub lines : Code → (index : Index) → List Op → Text
lines code index [] = []
lines code index (op ∷ ops) = line code index op ++ lines code (suc index) ops

abbrev pub listing : Code → Text
listing code = lines code 0 code.ops
