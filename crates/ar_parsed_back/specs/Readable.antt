-- Which parts can be written in the language of conditions, so that their shown text reads back.
use Rattle.std.specs.Prelude.{◌≡◌, ℕ, Bool, true, false, not, ◌&&◌, ◌||◌, ◌==◌, nat_le, length, ⊤}
use Rattle.std.specs.List.{list_all}
use Rattle.std.specs.Str.{IsUtf8, chars}
use Rattle.ar_value.specs.Decimal.{is_i64}
use Rattle.ar_value.specs.Limits.{most_literal_items}
use Rattle.ar_value.specs.Terms.{Text}
use Rattle.ar_value.specs.declared.operator.BinaryOperator.{BinaryOperator}
use Rattle.ar_value.specs.declared.operator.BinaryOperator.TheVariants as binary
use Rattle.ar_tree.specs.Typed.{Typed, Typeds, how_many}
use Rattle.ar_tree.specs.Typed as typed
use Rattle.ar_tree.specs.declared.tree.Literal.{Literal}
use Rattle.ar_tree.specs.declared.tree.Literal.TheVariants as literals
use Rattle.ar_quote.specs.Shown.{most_characters, moves}
use Rattle.ar_show.specs.PartText.{is_below_zero, is_hidden, is_word}

-- ---- texts

-- it is shown as itself, or by an escape that conditions have; others are shown by their codes (`\u001b`)
abbrev pub has_escape : (character : ℕ) → Bool
has_escape character = character == 10 || (character == 13 || (character == 9 || not (moves character)))

-- texts that aren't cut, with no character that is shown by its code
pub record CanBeQuoted (text : Text) : Type 0 where
  pub utf8 : IsUtf8 text
  pub short : nat_le (length (chars text)) most_characters ≡ true
  pub plain : list_all has_escape (chars text) ≡ true

-- a name that is a word comes after a point, and is never cut
abbrev pub NameCanBeWritten : Text → Bool → Type 0
NameCanBeWritten name true = ⊤
NameCanBeWritten name false = CanBeQuoted name

-- ---- literals

-- a number below zero is written as the number above it with a sign, which is another tree
abbrev pub LiteralCanBeWritten : Literal → Type 0
LiteralCanBeWritten literals.Nil = ⊤
LiteralCanBeWritten (literals.Bool boolean) = ⊤
LiteralCanBeWritten (literals.Whole whole) = (is_below_zero (literals.Whole whole) ≡ false) × (is_i64 whole ≡ true)
LiteralCanBeWritten (literals.Decimal millionths) =
    (is_below_zero (literals.Decimal millionths) ≡ false) × (is_i64 millionths ≡ true)
LiteralCanBeWritten (literals.Text text) = CanBeQuoted text

-- it is shown as one text, and in brackets after its owner that would be a field's name
abbrev pub is_text : Typed → Bool
is_text typed.result = false
is_text typed.item = false
is_text (typed.literal (literals.Text text)) = true
is_text (typed.literal literal) = false
is_text (typed.field whole name) = false
is_text (typed.unary operator operand) = is_hidden operator && is_text operand
is_text (typed.binary operator left right) = false
is_text (typed.both left right) = false
is_text (typed.either left right) = false
is_text (typed.choice condition then_branch else_branch) = false
is_text (typed.listed scalar items) = false
is_text (typed.predicate predicate list body) = false

-- a text alone is no index
abbrev pub IndexCanBeWritten : BinaryOperator → (right : Typed) → Type 0
IndexCanBeWritten binary.Index right = is_text right ≡ false
IndexCanBeWritten operator right = ⊤

-- ---- parts

abbrev mutual
  -- `inside`: inside a predicate, where `#` is the item
  pub CanBeWritten : (inside : Bool) → Typed → Type 0
  CanBeWritten inside typed.result = ⊤
  CanBeWritten inside typed.item = inside ≡ true
  CanBeWritten inside (typed.literal literal) = LiteralCanBeWritten literal
  CanBeWritten inside (typed.field whole name) = CanBeWritten inside whole × NameCanBeWritten name (is_word name)
  CanBeWritten inside (typed.unary operator operand) = CanBeWritten inside operand
  CanBeWritten inside (typed.binary operator left right) =
      CanBeWritten inside left × CanBeWritten inside right × IndexCanBeWritten operator right
  CanBeWritten inside (typed.both left right) = CanBeWritten inside left × CanBeWritten inside right
  CanBeWritten inside (typed.either left right) = CanBeWritten inside left × CanBeWritten inside right
  CanBeWritten inside (typed.choice condition then_branch else_branch) =
      CanBeWritten inside condition × CanBeWritten inside then_branch × CanBeWritten inside else_branch
  CanBeWritten inside (typed.listed scalar items) =
      (nat_le 1 (how_many items) ≡ true) × (nat_le (how_many items) most_literal_items ≡ true)
      × EachCanBeWritten inside items
  CanBeWritten inside (typed.predicate predicate list body) = CanBeWritten inside list × CanBeWritten true body

  pub EachCanBeWritten : (inside : Bool) → Typeds → Type 0
  EachCanBeWritten inside typed.none = ⊤
  EachCanBeWritten inside (typed.more part others) = CanBeWritten inside part × EachCanBeWritten inside others
