-- Operands whose kinds are known, and what is made of them where a plain kind or decimals are required.
use Rattle.std.specs.Prelude.{Bool, true, false, ◌&&◌, if◌then◌else◌, Option, Some, None, option_and_then}
use Rattle.ar_value.specs.declared.operator.UnaryOperator.TheVariants as unary
use Rattle.ar_value.specs.Kind.{Kind, nil, shaped, is_decimal, is_optional, plain}
use Rattle.ar_value.specs.Shape.{Shape}
use Rattle.ar_value.specs.Shape as shapes
use Rattle.ar_tree.specs.Typed.{Typed}
use Rattle.ar_tree.specs.Typed as typed
use Rattle.ar_value.specs.declared.operator.Family.{Family}
use Rattle.ar_value.specs.declared.operator.Family.TheVariants as families
use Rattle.ar_value.specs.declared.operator.Numbers.{Numbers}
use Rattle.ar_value.specs.declared.operator.Numbers.TheVariants.{Wholes, Decimals}
use Rattle.ar_value.specs.declared.operator.Scalar.{Scalar}
use Rattle.ar_value.specs.declared.operator.Scalar.TheVariants as scalars

-- a tree with its kind
pub record Operand : Type 0 where
  pub tree : Typed
  pub kind : Kind

abbrev pub operand : Typed → Kind → Operand
operand tree kind = record { tree = tree; kind = kind }

-- the shape of what isn't nil; the kind of the literal `nil` has none
abbrev pub plain_of : Kind → Option Shape
plain_of nil = None
plain_of (shaped shape) = Some (plain shape)

-- a tree unwrapped, where it may be nil
abbrev pub plain_tree : Kind → Typed → Typed
plain_tree nil tree = tree
plain_tree (shaped shape) tree = if is_optional shape then typed.unary unary.Need tree else tree

abbrev pub unwrapped : Operand → Typed
unwrapped operand = plain_tree operand.kind operand.tree

-- the scalars; the numbers among them; families, each of which compares with itself alone
abbrev pub scalar_of : Shape → Option Scalar
scalar_of shapes.bool = Some scalars.Bool
scalar_of shapes.whole = Some scalars.Whole
scalar_of shapes.decimal = Some scalars.Decimal
scalar_of shapes.text = Some scalars.Text
scalar_of shape = None

abbrev pub numbers_in : Scalar → Option Numbers
numbers_in scalars.Whole = Some Wholes
numbers_in scalars.Decimal = Some Decimals
numbers_in scalar = None

abbrev pub scalar_family : Scalar → Family
scalar_family scalars.Bool = families.Boolean
scalar_family scalars.Whole = families.Number
scalar_family scalars.Decimal = families.Number
scalar_family scalars.Text = families.Text

-- what an operand is once it is plain
abbrev pub scalar : Operand → Option Scalar
scalar operand = option_and_then scalar_of (plain_of operand.kind)

abbrev pub numbers : Operand → Option Numbers
numbers operand = option_and_then numbers_in (scalar operand)

abbrev pub is_bool : Option Scalar → Bool
is_bool (Some scalars.Bool) = true
is_bool scalar = false

abbrev pub is_boolean : Operand → Bool
is_boolean operand = is_bool (scalar operand)

abbrev pub is_text_scalar : Option Scalar → Bool
is_text_scalar (Some scalars.Text) = true
is_text_scalar (Some scalars.Bool) = false
is_text_scalar (Some scalars.Whole) = false
is_text_scalar (Some scalars.Decimal) = false
is_text_scalar None = false

abbrev pub is_text_operand : Operand → Bool
is_text_operand operand = is_text_scalar (scalar operand)

-- plain numbers next to others: a whole is converted to decimal next to a decimal
abbrev pub among : Numbers → Numbers → Typed → Typed
among Decimals Wholes tree = typed.unary unary.ToDecimal tree
among other numbers tree = tree

abbrev pub is_whole : Shape → Bool
is_whole shapes.whole = true
is_whole shape = false

-- an operand next to a kind that it has something in common with, converted likewise; nil stays
abbrev pub converted : Kind → Kind → Typed → Typed
converted (shaped other) (shaped shape) tree =
    if is_decimal other && is_whole (plain shape) then typed.unary unary.ToDecimal tree else tree
converted other kind tree = tree
