-- Typed trees whose texts can be quoted, so that they can be written if they come from a condition that is accepted.
use Rattle.std.specs.Prelude.{◌≡◌, true, ⊤}
use Rattle.ar_value.specs.Decimal.{is_i64}
use Rattle.ar_tree.specs.Typed.{Typed, Typeds}
use Rattle.ar_tree.specs.Typed as typed
use Rattle.ar_tree.specs.declared.tree.Literal.{Literal}
use Rattle.ar_tree.specs.declared.tree.Literal.TheVariants as literals
use Rattle.ar_show.specs.PartText.{is_word}
use Rattle.ar_parsed_back.specs.Readable.{CanBeQuoted, NameCanBeWritten}

-- numbers have 64 bits, as all of the program's have
abbrev pub LiteralIsQuotable : Literal → Type 0
LiteralIsQuotable literals.Nil = ⊤
LiteralIsQuotable (literals.Bool boolean) = ⊤
LiteralIsQuotable (literals.Whole whole) = is_i64 whole ≡ true
LiteralIsQuotable (literals.Decimal millionths) = is_i64 millionths ≡ true
LiteralIsQuotable (literals.Text text) = CanBeQuoted text

abbrev mutual
  -- each text can be quoted, and so can each name that isn't a word
  pub IsQuotable : Typed → Type 0
  IsQuotable typed.result = ⊤
  IsQuotable typed.item = ⊤
  IsQuotable (typed.literal literal) = LiteralIsQuotable literal
  IsQuotable (typed.field whole name) = IsQuotable whole × NameCanBeWritten name (is_word name)
  IsQuotable (typed.unary operator operand) = IsQuotable operand
  IsQuotable (typed.binary operator left right) = IsQuotable left × IsQuotable right
  IsQuotable (typed.both left right) = IsQuotable left × IsQuotable right
  IsQuotable (typed.either left right) = IsQuotable left × IsQuotable right
  IsQuotable (typed.choice condition then_branch else_branch) =
      IsQuotable condition × IsQuotable then_branch × IsQuotable else_branch
  IsQuotable (typed.listed scalar items) = EachIsQuotable items
  IsQuotable (typed.predicate predicate list body) = IsQuotable list × IsQuotable body

  pub EachIsQuotable : Typeds → Type 0
  EachIsQuotable typed.none = ⊤
  EachIsQuotable (typed.more part others) = IsQuotable part × EachIsQuotable others
