-- The shown text of a part is cut into tokens of its kinds.
use Rattle.std.proofs.Common.{◌≡◌, ℕ, Bool, true, false, pos, negsuc, List, [], ◌∷◌, ◌++◌, refl, sym, subst, append_assoc}
use Rattle.std.specs.Prelude.{codes, not, ◌&&◌, ◌||◌, if◌then◌else◌}
use Rattle.std.specs.Char.{is_ascii_digit}
use Rattle.std.specs.List.{list_all}
use Rattle.std.proofs.lemmas.Bool.{not-true}
use Rattle.ar_value.specs.Terms.{Text}
use Rattle.ar_value.specs.declared.operator.BinaryOperator.TheVariants as binary
use Rattle.ar_value.specs.declared.operator.UnaryOperator.TheVariants as unary
use Rattle.ar_tree.specs.Typed.{Typed, Typeds}
use Rattle.ar_tree.specs.Typed as typed
use Rattle.ar_tree.specs.declared.tree.Comparison.TheVariants as comparisons
use Rattle.ar_tree.specs.declared.tree.Literal.{Literal}
use Rattle.ar_tree.specs.declared.tree.Literal.TheVariants as literals
use Rattle.ar_syntax.specs.Token.{word_of, word_or_name}
use Rattle.ar_syntax.specs.declared.token.Sign.TheVariants as signs
use Rattle.ar_syntax.specs.declared.token.TokenKind.{TokenKind}
use Rattle.ar_syntax.specs.declared.token.TokenKind.TheVariants as kinds
use Rattle.ar_syntax.specs.declared.token.Word.{Word}
use Rattle.ar_syntax.specs.declared.token.Word.TheVariants as words
use Rattle.ar_syntax.proofs.Fronts.{both_pass}
use Rattle.ar_quote.specs.Shown.{quoted}
use Rattle.ar_quote.specs.Tokens.{is_of_word}
use Rattle.ar_show.specs.PartText.{arithmetic_sign, decimal_sign, has_sides, has_sign, is_word, last_text, operand_text, order_sign, owner_text, predicate_word, shown_literal, shown_part, shown_parts, side_text, test_word}
use Rattle.ar_show.specs.PartText as shown
use Rattle.ar_parsed_back.specs.Kinds.{argument_kinds, arithmetic_token, decimal_token, kinds_in_parentheses, items_kinds, literal_token, operand_kinds, written_order, owner_kinds, part_kinds, sided_kinds, sign, word}
use Rattle.ar_parsed_back.specs.Readable.{CanBeWritten, EachCanBeWritten, LiteralCanBeWritten, NameCanBeWritten}
use Rattle.ar_parsed_back.proofs.Cutting.{Any, IsEnd, IsSpace, Lexes, empty, joined, space, weaken}
use Rattle.ar_parsed_back.proofs.Digits.{whole_cut}
use Rattle.ar_parsed_back.proofs.Fractions.{decimal_text_cut}
use Rattle.ar_parsed_back.proofs.Quoted.{quoted_cut}
use Rattle.ar_parsed_back.proofs.Signs.{NoDigit, NoEqual, arithmetic_cut, close_bracket, close_parenthesis, colon_cut, comma, decimal_cut, equal_cut, hash, minus, not_cut, open_bracket, open_parenthesis, order_cut, point_cut, question_cut}
use Rattle.ar_parsed_back.proofs.Starts.{operand_differs}
use Rattle.ar_parsed_back.proofs.Words.{and_cut, default_cut, false_cut, in_cut, is_nil_cut, len_cut, name_cut, nil_cut, or_cut, predicate_cut, result_cut, taken, test_cut, true_cut}

-- ---- what ends a part

space_ends : (rest : Text) → IsEnd (32 ∷ rest)
space_ends rest = record { no_word = refl; no_fraction = refl }

opener_ends : (rest : Text) → IsEnd (40 ∷ rest)
opener_ends rest = record { no_word = refl; no_fraction = refl }

closer_ends : (rest : Text) → IsEnd (41 ∷ rest)
closer_ends rest = record { no_word = refl; no_fraction = refl }

comma_ends : (rest : Text) → IsEnd (44 ∷ rest)
comma_ends rest = record { no_word = refl; no_fraction = refl }

bracket_ends : (rest : Text) → IsEnd (91 ∷ rest)
bracket_ends rest = record { no_word = refl; no_fraction = refl }

end_bracket_ends : (rest : Text) → IsEnd (93 ∷ rest)
end_bracket_ends rest = record { no_word = refl; no_fraction = refl }

point_ends : (rest : Text) → NoDigit rest → IsEnd (46 ∷ rest)
point_ends rest no_digit = record { no_word = refl; no_fraction = taken is_ascii_digit [] rest refl no_digit }

pub nothing_ends : IsEnd []
nothing_ends = record { no_word = refl; no_fraction = refl }

-- ---- parts of a part, each of which ends where it ends

-- where anything may come after, an end may
anywhere : (text : Text) (all : List TokenKind) → Lexes Any text all → Lexes IsEnd text all
anywhere text all lexes = weaken Any IsEnd text all (λ rest ends. tt) lexes

grouped : (needed : Bool) (text : Text) (all : List TokenKind) → Lexes IsEnd text all → Lexes IsEnd (shown.in_parentheses needed text) (kinds_in_parentheses needed all)
grouped true text all lexes =
    let inner = joined IsEnd Any text (codes ")") all (sign signs.CloseParenthesis ∷ []) lexes close_parenthesis (λ rest ends. closer_ends rest) in
    anywhere _ _ (joined Any Any (codes "(") (text ++ codes ")") (sign signs.OpenParenthesis ∷ []) (all ++ sign signs.CloseParenthesis ∷ []) open_parenthesis inner (λ rest ends. tt))
grouped false text all lexes = lexes

abbrev IsLexed : Typed → Type 0
IsLexed part = Lexes IsEnd (shown_part part) (part_kinds part)

operand : (part : Typed) → IsLexed part → Lexes IsEnd (operand_text part (shown_part part)) (operand_kinds part (part_kinds part))
operand part lexes = grouped (has_sides part) (shown_part part) (part_kinds part) lexes

owner : (part : Typed) → IsLexed part → Lexes IsEnd (owner_text part (shown_part part)) (owner_kinds part (part_kinds part))
owner part lexes = grouped (has_sides part || has_sign part) (shown_part part) (part_kinds part) lexes

-- a word or sign between spaces, and the right side
side : (between : Text) (kind : TokenKind) (right : Typed) → Lexes IsSpace between (kind ∷ []) → IsLexed right → Lexes IsEnd (side_text between right (shown_part right)) (kind ∷ operand_kinds right (part_kinds right))
side between kind right cut lexes =
    let text = operand_text right (shown_part right) in
    let all = operand_kinds right (part_kinds right) in
    let following = joined Any IsEnd (codes " ") text [] all space (operand right lexes) (λ rest ends. tt) in
    let spaced = joined IsSpace IsEnd between (codes " " ++ text) (kind ∷ []) all cut following (λ rest ends. refl) in
    joined Any IsEnd (codes " ") (between ++ (codes " " ++ text)) [] (kind ∷ all) space spaced (λ rest ends. tt)

-- a word ends before a space
before_space : (rest : Text) → IsSpace rest → IsEnd rest
before_space [] is = nothing_ends
before_space (byte ∷ rest) is = subst (λ (b : ℕ). IsEnd (b ∷ rest)) (sym is) (space_ends rest)

spaced_word : (text : Text) (kind : TokenKind) → Lexes IsEnd text (kind ∷ []) → Lexes IsSpace text (kind ∷ [])
spaced_word text kind lexes = weaken IsEnd IsSpace text (kind ∷ []) before_space lexes

sides : (between : Text) (kind : TokenKind) (left right : Typed) → Lexes IsSpace between (kind ∷ []) → IsLexed left → IsLexed right
    → Lexes IsEnd (operand_text left (shown_part left) ++ side_text between right (shown_part right)) (sided_kinds kind left right (part_kinds left) (part_kinds right))
sides between kind left right cut left_lexes right_lexes =
    joined IsEnd IsEnd (operand_text left (shown_part left)) (side_text between right (shown_part right)) (operand_kinds left (part_kinds left)) (kind ∷ operand_kinds right (part_kinds right))
    (operand left left_lexes) (side between kind right cut right_lexes) (λ rest ends. space_ends _)

choice : (condition then_branch else_branch : Typed) → IsLexed condition → IsLexed then_branch → IsLexed else_branch → IsLexed (typed.choice condition then_branch else_branch)
choice condition then_branch else_branch condition_lexes then_lexes else_lexes =
    let first = operand_kinds condition (part_kinds condition) in
    let second = sign signs.Question ∷ operand_kinds then_branch (part_kinds then_branch) in
    let third = sign signs.Colon ∷ operand_kinds else_branch (part_kinds else_branch) in
    let branches = joined IsEnd IsEnd (side_text (codes "?") then_branch (shown_part then_branch)) (side_text (codes ":") else_branch (shown_part else_branch)) second third
    (side (codes "?") (sign signs.Question) then_branch question_cut then_lexes) (side (codes ":") (sign signs.Colon) else_branch colon_cut else_lexes) (λ rest ends. space_ends _) in
    let whole = joined IsEnd IsEnd (operand_text condition (shown_part condition)) (side_text (codes "?") then_branch (shown_part then_branch) ++ side_text (codes ":") else_branch (shown_part else_branch)) first (second ++ third)
    (operand condition condition_lexes) branches (λ rest ends. space_ends _) in
    subst (λ (all : List TokenKind). Lexes IsEnd (shown_part (typed.choice condition then_branch else_branch)) all) (sym (append_assoc first second third)) whole

-- ---- fields and indices

word_no_digit : (name rest : Text) → is_word name ≡ true → NoDigit (name ++ rest)
word_no_digit [] rest is = absurd cc
word_no_digit (byte ∷ spelled) rest is =
    not-true (is_ascii_digit byte) (both_pass (is_of_word byte) (not (is_ascii_digit byte)) (both_pass (is_of_word byte && not (is_ascii_digit byte)) (list_all is_of_word spelled) is).0).1

-- between brackets
bracketed : (text : Text) (all : List TokenKind) → Lexes IsEnd text all → Lexes Any (codes "[" ++ (text ++ codes "]")) (sign signs.OpenBracket ∷ (all ++ sign signs.CloseBracket ∷ []))
bracketed text all lexes =
    let inner = joined IsEnd Any text (codes "]") all (sign signs.CloseBracket ∷ []) lexes close_bracket (λ rest ends. end_bracket_ends rest) in
    joined Any Any (codes "[") (text ++ codes "]") (sign signs.OpenBracket ∷ []) (all ++ sign signs.CloseBracket ∷ []) open_bracket inner (λ rest ends. tt)

fielded : (whole : Typed) (name : Text) → IsLexed whole → (is : Bool) → is_word name ≡ is → NameCanBeWritten name is
    → Lexes IsEnd (owner_text whole (shown_part whole) ++ (if is then codes "." ++ name else codes "[" ++ (quoted name ++ codes "]")))
    (owner_kinds whole (part_kinds whole) ++ (if is then sign signs.Point ∷ word_or_name name (word_of name) ∷ [] else sign signs.OpenBracket ∷ kinds.Text name ∷ sign signs.CloseBracket ∷ []))
fielded whole name lexes true is can =
    let field = joined NoDigit IsEnd (codes ".") name (sign signs.Point ∷ []) (word_or_name name (word_of name) ∷ []) point_cut (name_cut name is) (λ rest ends. word_no_digit name rest is) in
    joined IsEnd IsEnd (owner_text whole (shown_part whole)) (codes "." ++ name) (owner_kinds whole (part_kinds whole)) (sign signs.Point ∷ word_or_name name (word_of name) ∷ []) (owner whole lexes) field
    (λ rest ends. point_ends (name ++ rest) (word_no_digit name rest is))
fielded whole name lexes false is can =
    let field = anywhere _ _ (bracketed (quoted name) (kinds.Text name ∷ []) (anywhere _ _ (quoted_cut name can))) in
    joined IsEnd IsEnd (owner_text whole (shown_part whole)) (codes "[" ++ (quoted name ++ codes "]")) (owner_kinds whole (part_kinds whole)) (sign signs.OpenBracket ∷ kinds.Text name ∷ sign signs.CloseBracket ∷ []) (owner whole lexes) field
    (λ rest ends. bracket_ends _)

index : (left right : Typed) → IsLexed left → IsLexed right → IsLexed (typed.binary binary.Index left right)
index left right left_lexes right_lexes =
    joined IsEnd IsEnd (owner_text left (shown_part left)) (codes "[" ++ (shown_part right ++ codes "]")) (owner_kinds left (part_kinds left)) (sign signs.OpenBracket ∷ (part_kinds right ++ sign signs.CloseBracket ∷ []))
    (owner left left_lexes) (anywhere _ _ (bracketed (shown_part right) (part_kinds right) right_lexes)) (λ rest ends. bracket_ends _)

-- ---- calls

called_one : (name : Text) (it : Word) (part : Typed) → Lexes IsEnd name (word it ∷ []) → IsLexed part → Lexes IsEnd (name ++ (codes "(" ++ (shown_part part ++ codes ")"))) (word it ∷ argument_kinds (part_kinds part))
called_one name it part cut lexes =
    joined IsEnd IsEnd name (codes "(" ++ (shown_part part ++ codes ")")) (word it ∷ []) (argument_kinds (part_kinds part)) cut (grouped true (shown_part part) (part_kinds part) lexes) (λ rest ends. opener_ends _)

last : (part : Typed) → IsLexed part → Lexes Any (last_text (shown_part part)) (sign signs.Comma ∷ (part_kinds part ++ sign signs.CloseParenthesis ∷ []))
last part lexes =
    let inner = joined IsEnd Any (shown_part part) (codes ")") (part_kinds part) (sign signs.CloseParenthesis ∷ []) lexes close_parenthesis (λ rest ends. closer_ends rest) in
    let following = joined Any Any (codes " ") (shown_part part ++ codes ")") [] (part_kinds part ++ sign signs.CloseParenthesis ∷ []) space inner (λ rest ends. tt) in
    joined Any Any (codes ",") (codes " " ++ (shown_part part ++ codes ")")) (sign signs.Comma ∷ []) (part_kinds part ++ sign signs.CloseParenthesis ∷ []) comma following (λ rest ends. tt)

called_two : (name : Text) (it : Word) (first second : Typed) → Lexes IsEnd name (word it ∷ []) → IsLexed first → IsLexed second
    → Lexes IsEnd (name ++ (codes "(" ++ (shown_part first ++ last_text (shown_part second)))) (word it ∷ sign signs.OpenParenthesis ∷ (part_kinds first ++ sign signs.Comma ∷ (part_kinds second ++ sign signs.CloseParenthesis ∷ [])))
called_two name it first second cut first_lexes second_lexes =
    let closing = sign signs.Comma ∷ (part_kinds second ++ sign signs.CloseParenthesis ∷ []) in
    let inner = joined IsEnd Any (shown_part first) (last_text (shown_part second)) (part_kinds first) closing first_lexes (last second second_lexes) (λ rest ends. comma_ends _) in
    let opened = joined Any Any (codes "(") (shown_part first ++ last_text (shown_part second)) (sign signs.OpenParenthesis ∷ []) (part_kinds first ++ closing) open_parenthesis inner (λ rest ends. tt) in
    joined IsEnd IsEnd name (codes "(" ++ (shown_part first ++ last_text (shown_part second))) (word it ∷ []) (sign signs.OpenParenthesis ∷ (part_kinds first ++ closing)) cut (anywhere _ _ opened) (λ rest ends. opener_ends _)

-- ---- lists

items_end : (others : Typeds) (rest : Text) → IsEnd rest → IsEnd (shown_parts false others ++ rest)
items_end typed.none rest ends = ends
items_end (typed.more part others) rest ends = comma_ends _

abbrev AreLexed : Typeds → Type 0
AreLexed typed.none = Unit {0}
AreLexed (typed.more part others) = IsLexed part × AreLexed others

items : (others : Typeds) → AreLexed others → Lexes IsEnd (shown_parts false others) (items_kinds false others)
items typed.none lexed = empty IsEnd
items (typed.more part others) lexed =
    let spaced = joined Any IsEnd (codes " ") (shown_part part) [] (part_kinds part) space lexed.0 (λ rest ends. tt) in
    let front = joined Any IsEnd (codes ",") (codes " " ++ shown_part part) (sign signs.Comma ∷ []) (part_kinds part) comma spaced (λ rest ends. tt) in
    joined IsEnd IsEnd (codes ", " ++ shown_part part) (shown_parts false others) (sign signs.Comma ∷ part_kinds part) (items_kinds false others) front (items others lexed.1) (items_end others)

all_items : (parts : Typeds) → AreLexed parts → Lexes IsEnd (shown_parts true parts) (items_kinds true parts)
all_items typed.none lexed = empty IsEnd
all_items (typed.more part others) lexed =
    joined IsEnd IsEnd (shown_part part) (shown_parts false others) (part_kinds part) (items_kinds false others) lexed.0 (items others lexed.1) (items_end others)

-- ---- parts

literal : (it : Literal) → LiteralCanBeWritten it → Lexes IsEnd (shown_literal it) (literal_token it ∷ [])
literal literals.Nil can = nil_cut
literal (literals.Bool true) can = true_cut
literal (literals.Bool false) can = false_cut
literal (literals.Whole (pos n)) can = whole_cut n can.1
literal (literals.Whole (negsuc n)) can = absurd (cc can.0)
literal (literals.Decimal (pos n)) can = decimal_text_cut n can.1
literal (literals.Decimal (negsuc n)) can = absurd (cc can.0)
literal (literals.Text text) can = anywhere _ _ (quoted_cut text can)

mutual
  pub lexed : (part : Typed) (inside : Bool) → CanBeWritten inside part → IsLexed part
  lexed typed.result inside can = result_cut
  lexed typed.item inside can = anywhere _ _ hash
  lexed (typed.literal it) inside can = literal it can
  lexed (typed.field whole field) inside can = fielded whole field (lexed whole inside can.0) (is_word field) refl can.1
  lexed (typed.unary unary.Need operand) inside can = lexed operand inside can
  lexed (typed.unary unary.ToDecimal operand) inside can = lexed operand inside can
  lexed (typed.unary unary.Len operand) inside can = called_one (codes "len") words.Len operand len_cut (lexed operand inside can)
  lexed (typed.unary unary.IsNil operand) inside can = called_one (codes "isNil") words.IsNil operand is_nil_cut (lexed operand inside can)
  lexed (typed.unary unary.Not part) inside can =
      joined NoEqual IsEnd (codes "!") (operand_text part (shown_part part)) (sign signs.Not ∷ []) (operand_kinds part (part_kinds part)) not_cut (operand part (lexed part inside can)) (λ rest ends. operand_differs part inside can rest)
  lexed (typed.unary (unary.Negate of) part) inside can =
      joined Any IsEnd (codes "-") (operand_text part (shown_part part)) (sign signs.Minus ∷ []) (operand_kinds part (part_kinds part)) minus (operand part (lexed part inside can)) (λ rest ends. tt)
  lexed (typed.binary binary.Index left right) inside can = index left right (lexed left inside can.0) (lexed right inside can.1)
  lexed (typed.binary binary.Default left right) inside can = called_two (codes "default") words.Default left right default_cut (lexed left inside can.0) (lexed right inside can.1)
  lexed (typed.binary binary.IsIn left right) inside can = sides (codes "in") (word words.In) left right (spaced_word (codes "in") (word words.In) in_cut) (lexed left inside can.0) (lexed right inside can.1)
  lexed (typed.binary (binary.Wholes operator) left right) inside can =
      sides (arithmetic_sign operator) (arithmetic_token operator) left right (arithmetic_cut operator) (lexed left inside can.0) (lexed right inside can.1)
  lexed (typed.binary (binary.Decimals operator) left right) inside can =
      sides (decimal_sign operator) (decimal_token operator) left right (decimal_cut operator) (lexed left inside can.0) (lexed right inside can.1)
  lexed (typed.binary (binary.Compare of way) left right) inside can =
      sides (order_sign way) (sign (signs.Comparison (written_order way))) left right (order_cut way) (lexed left inside can.0) (lexed right inside can.1)
  lexed (typed.binary (binary.Equal family) left right) inside can =
      sides (codes "==") (sign (signs.Comparison comparisons.Equal)) left right equal_cut (lexed left inside can.0) (lexed right inside can.1)
  lexed (typed.binary (binary.TextTest test) left right) inside can =
      sides (test_word test) (word (words.Test test)) left right (spaced_word (test_word test) (word (words.Test test)) (test_cut test)) (lexed left inside can.0) (lexed right inside can.1)
  lexed (typed.both left right) inside can = sides (codes "and") (word words.And) left right (spaced_word (codes "and") (word words.And) and_cut) (lexed left inside can.0) (lexed right inside can.1)
  lexed (typed.either left right) inside can = sides (codes "or") (word words.Or) left right (spaced_word (codes "or") (word words.Or) or_cut) (lexed left inside can.0) (lexed right inside can.1)
  lexed (typed.choice condition then_branch else_branch) inside can =
      choice condition then_branch else_branch (lexed condition inside can.0) (lexed then_branch inside can.1) (lexed else_branch inside can.2)
  lexed (typed.listed scalar parts) inside can = anywhere _ _ (bracketed (shown_parts true parts) (items_kinds true parts) (all_items parts (each_lexed parts inside can.2)))
  lexed (typed.predicate over list body) inside can = called_two (predicate_word over) (words.Over over) list body (predicate_cut over) (lexed list inside can.0) (lexed body true can.1)

  each_lexed : (parts : Typeds) (inside : Bool) → EachCanBeWritten inside parts → AreLexed parts
  each_lexed typed.none inside can = tt
  each_lexed (typed.more part others) inside can = (lexed part inside can.0, each_lexed others inside can.1)
