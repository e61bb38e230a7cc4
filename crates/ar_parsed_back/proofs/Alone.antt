-- The tokens of a part that isn't a text aren't one text alone before a bracket.
use Rattle.std.proofs.Common.{◌≡◌, Bool, true, false, List, [], ◌∷◌, ◌++◌, refl, append_assoc}
use Rattle.std.specs.Prelude.{◌||◌, if◌then◌else◌}
use Rattle.ar_value.specs.declared.operator.Arithmetic.{Arithmetic}
use Rattle.ar_value.specs.declared.operator.Arithmetic.TheVariants as wholes
use Rattle.ar_value.specs.declared.operator.BinaryOperator.TheVariants as binary
use Rattle.ar_value.specs.declared.operator.DecimalArithmetic.{DecimalArithmetic}
use Rattle.ar_value.specs.declared.operator.DecimalArithmetic.TheVariants as decimals
use Rattle.ar_value.specs.declared.operator.UnaryOperator.TheVariants as unary
use Rattle.ar_value.specs.Terms.{Text}
use Rattle.ar_tree.specs.Typed.{Typed}
use Rattle.ar_tree.specs.Typed as typed
use Rattle.ar_tree.specs.declared.tree.Comparison.TheVariants as comparisons
use Rattle.ar_tree.specs.declared.tree.Literal.TheVariants as literals
use Rattle.ar_syntax.specs.Grammar.{ends_bracket, is_text_alone}
use Rattle.ar_syntax.specs.Roles.{kind_follow}
use Rattle.ar_syntax.specs.declared.token.Sign.TheVariants as signs
use Rattle.ar_syntax.specs.declared.token.Token.{Token}
use Rattle.ar_syntax.specs.declared.token.TokenKind.{TokenKind}
use Rattle.ar_syntax.specs.declared.token.TokenKind.TheVariants as kinds
use Rattle.ar_syntax.specs.Token.{word_of, word_or_name}
use Rattle.ar_syntax.specs.declared.token.Word.TheVariants as words
use Rattle.ar_show.specs.PartText.{has_sides, has_sign, is_word}
use Rattle.ar_parsed_back.specs.Kinds.{HaveKinds, a_token, arithmetic_token, decimal_token, kinds_in_parentheses, written_order, operand_kinds, owner_kinds, part_kinds, sided_kinds, sign, word}
use Rattle.ar_parsed_back.specs.Readable.{is_text}
use Rattle.ar_parsed_back.proofs.Roles.{follows_by, text_by}

abbrev closes : TokenKind → Bool
closes kind = ends_bracket (kind_follow kind)

-- tokens of these kinds may be one text alone, with a bracket after it
abbrev pub alone : List TokenKind → Bool
alone [] = true
alone (kinds.Text text ∷ []) = true
alone (kinds.Text text ∷ kind ∷ others) = closes kind
alone (kind ∷ others) = false

pub read_alone : (all : List TokenKind) (tokens rest : List Token) → HaveKinds all tokens rest → alone all ≡ false → is_text_alone tokens ≡ false
read_alone [] tokens rest have e = absurd cc
read_alone (kinds.Text text ∷ []) tokens rest have e = absurd cc
read_alone (kind ∷ others) [] rest have e = elim have [ ]
read_alone (kinds.Text text ∷ kind ∷ others) (first ∷ []) rest (a_token f have) e = elim have [ ]
read_alone (kinds.Text text ∷ kind ∷ others) (first ∷ second ∷ tokens) rest (a_token f (a_token s have)) e = rw (text_by first (kinds.Text text) f, follows_by second kind s) e
read_alone (kind ∷ others) (first ∷ tokens) rest (a_token f have) e = rw (text_by first kind f) refl

-- ---- what comes after a part

in_parentheses_follow : (needed : Bool) (inner others : List TokenKind) → alone (inner ++ others) ≡ false → alone (kinds_in_parentheses needed inner ++ others) ≡ false
in_parentheses_follow true inner others e = refl
in_parentheses_follow false inner others e = e

arithmetic_open : (operator : Arithmetic) → closes (arithmetic_token operator) ≡ false
arithmetic_open wholes.Add = refl
arithmetic_open wholes.Subtract = refl
arithmetic_open wholes.Multiply = refl
arithmetic_open wholes.Divide = refl
arithmetic_open wholes.Remainder = refl

decimal_open : (operator : DecimalArithmetic) → closes (decimal_token operator) ≡ false
decimal_open decimals.Add = refl
decimal_open decimals.Subtract = refl
decimal_open decimals.Multiply = refl
decimal_open decimals.Divide = refl

-- two lists of kinds, one with others after it
following : (first second others : List TokenKind) → alone (first ++ (second ++ others)) ≡ false → alone ((first ++ second) ++ others) ≡ false
following first second others e = rw (append_assoc first second others) e

-- ---- a part

-- a part is followed by something else than a bracket that ends
abbrev IsFollowed : Typed → Type 0
IsFollowed part = (kind : TokenKind) (others : List TokenKind) → closes kind ≡ false → alone (part_kinds part ++ kind ∷ others) ≡ false

sided_follow : (between : TokenKind) (left right : Typed) → IsFollowed left → (others : List TokenKind) → closes between ≡ false → alone (sided_kinds between left right (part_kinds left) (part_kinds right) ++ others) ≡ false
sided_follow between left right followed others opens =
    following (operand_kinds left (part_kinds left)) (between ∷ operand_kinds right (part_kinds right)) others
    (in_parentheses_follow (has_sides left) (part_kinds left) _ (followed between (operand_kinds right (part_kinds right) ++ others) opens))

owner_follow : (whole : Typed) → IsFollowed whole → (kind : TokenKind) (inner others : List TokenKind) → closes kind ≡ false → alone ((owner_kinds whole (part_kinds whole) ++ kind ∷ inner) ++ others) ≡ false
owner_follow whole followed kind inner others opens =
    following (owner_kinds whole (part_kinds whole)) (kind ∷ inner) others
    (in_parentheses_follow (has_sides whole || has_sign whole) (part_kinds whole) _ (followed kind (inner ++ others) opens))

field_follow : (whole : Typed) (name : Text) → IsFollowed whole → (is : Bool) (others : List TokenKind)
    → alone ((owner_kinds whole (part_kinds whole) ++ (if is then sign signs.Point ∷ word_or_name name (word_of name) ∷ [] else sign signs.OpenBracket ∷ kinds.Text name ∷ sign signs.CloseBracket ∷ [])) ++ others) ≡ false
field_follow whole name followed true others = owner_follow whole followed (sign signs.Point) _ others refl
field_follow whole name followed false others = owner_follow whole followed (sign signs.OpenBracket) _ others refl

choice_follow : (condition then_branch else_branch : Typed) → IsFollowed condition → (others : List TokenKind) → alone (part_kinds (typed.choice condition then_branch else_branch) ++ others) ≡ false
choice_follow condition then_branch else_branch followed others =
    following (sided_kinds (sign signs.Question) condition then_branch (part_kinds condition) (part_kinds then_branch)) _ others
    (sided_follow (sign signs.Question) condition then_branch followed _ refl)

pub follow : (part : Typed) → IsFollowed part
follow typed.result kind others opens = refl
follow typed.item kind others opens = refl
follow (typed.literal literals.Nil) kind others opens = refl
follow (typed.literal (literals.Bool true)) kind others opens = refl
follow (typed.literal (literals.Bool false)) kind others opens = refl
follow (typed.literal (literals.Whole whole)) kind others opens = refl
follow (typed.literal (literals.Decimal millionths)) kind others opens = refl
follow (typed.literal (literals.Text text)) kind others opens = opens
follow (typed.field whole name) kind others opens = field_follow whole name (follow whole) (is_word name) (kind ∷ others)
follow (typed.unary unary.Need operand) kind others opens = follow operand kind others opens
follow (typed.unary unary.ToDecimal operand) kind others opens = follow operand kind others opens
follow (typed.unary unary.Len operand) kind others opens = refl
follow (typed.unary unary.IsNil operand) kind others opens = refl
follow (typed.unary unary.Not operand) kind others opens = refl
follow (typed.unary (unary.Negate of) operand) kind others opens = refl
follow (typed.binary binary.Index left right) kind others opens = owner_follow left (follow left) (sign signs.OpenBracket) _ (kind ∷ others) refl
follow (typed.binary binary.Default left right) kind others opens = refl
follow (typed.binary binary.IsIn left right) kind others opens = sided_follow (word words.In) left right (follow left) (kind ∷ others) refl
follow (typed.binary (binary.Wholes operator) left right) kind others opens = sided_follow (arithmetic_token operator) left right (follow left) (kind ∷ others) (arithmetic_open operator)
follow (typed.binary (binary.Decimals operator) left right) kind others opens = sided_follow (decimal_token operator) left right (follow left) (kind ∷ others) (decimal_open operator)
follow (typed.binary (binary.Compare of way) left right) kind others opens = sided_follow (sign (signs.Comparison (written_order way))) left right (follow left) (kind ∷ others) refl
follow (typed.binary (binary.Equal family) left right) kind others opens = sided_follow (sign (signs.Comparison comparisons.Equal)) left right (follow left) (kind ∷ others) refl
follow (typed.binary (binary.TextTest test) left right) kind others opens = sided_follow (word (words.Test test)) left right (follow left) (kind ∷ others) refl
follow (typed.both left right) kind others opens = sided_follow (word words.And) left right (follow left) (kind ∷ others) refl
follow (typed.either left right) kind others opens = sided_follow (word words.Or) left right (follow left) (kind ∷ others) refl
follow (typed.choice condition then_branch else_branch) kind others opens = choice_follow condition then_branch else_branch (follow condition) (kind ∷ others)
follow (typed.listed scalar items) kind others opens = refl
follow (typed.predicate predicate list body) kind others opens = refl

-- a part that isn't a text isn't one text alone
pub not_alone : (part : Typed) (others : List TokenKind) → is_text part ≡ false → alone (part_kinds part ++ others) ≡ false
not_alone typed.result others e = refl
not_alone typed.item others e = refl
not_alone (typed.literal literals.Nil) others e = refl
not_alone (typed.literal (literals.Bool true)) others e = refl
not_alone (typed.literal (literals.Bool false)) others e = refl
not_alone (typed.literal (literals.Whole whole)) others e = refl
not_alone (typed.literal (literals.Decimal millionths)) others e = refl
not_alone (typed.literal (literals.Text text)) others e = absurd cc
not_alone (typed.field whole name) others e = field_follow whole name (follow whole) (is_word name) others
not_alone (typed.unary unary.Need operand) others e = not_alone operand others e
not_alone (typed.unary unary.ToDecimal operand) others e = not_alone operand others e
not_alone (typed.unary unary.Len operand) others e = refl
not_alone (typed.unary unary.IsNil operand) others e = refl
not_alone (typed.unary unary.Not operand) others e = refl
not_alone (typed.unary (unary.Negate of) operand) others e = refl
not_alone (typed.binary binary.Index left right) others e = owner_follow left (follow left) (sign signs.OpenBracket) _ others refl
not_alone (typed.binary binary.Default left right) others e = refl
not_alone (typed.binary binary.IsIn left right) others e = sided_follow (word words.In) left right (follow left) others refl
not_alone (typed.binary (binary.Wholes operator) left right) others e = sided_follow (arithmetic_token operator) left right (follow left) others (arithmetic_open operator)
not_alone (typed.binary (binary.Decimals operator) left right) others e = sided_follow (decimal_token operator) left right (follow left) others (decimal_open operator)
not_alone (typed.binary (binary.Compare of way) left right) others e = sided_follow (sign (signs.Comparison (written_order way))) left right (follow left) others refl
not_alone (typed.binary (binary.Equal family) left right) others e = sided_follow (sign (signs.Comparison comparisons.Equal)) left right (follow left) others refl
not_alone (typed.binary (binary.TextTest test) left right) others e = sided_follow (word (words.Test test)) left right (follow left) others refl
not_alone (typed.both left right) others e = sided_follow (word words.And) left right (follow left) others refl
not_alone (typed.either left right) others e = sided_follow (word words.Or) left right (follow left) others refl
not_alone (typed.choice condition then_branch else_branch) others e = choice_follow condition then_branch else_branch (follow condition) others
not_alone (typed.listed scalar items) others e = refl
not_alone (typed.predicate predicate list body) others e = refl
