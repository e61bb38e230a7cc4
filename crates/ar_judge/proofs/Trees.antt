-- The typed tree of a text: the grammar and the parser give the same.
use Rattle.std.proofs.Common.{◌≡◌, ℕ, Bool, List, Some, Result, Ok, Err, refl, ap, ◌∙◌}
use Rattle.ar_value.specs.Shape.{Shape}
use Rattle.ar_value.specs.Value.{Value}
use Rattle.ar_value.specs.declared.fault.Fault.{Fault}
use Rattle.ar_tree.specs.Expression.{Expression}
use Rattle.ar_tree.specs.Typed.{Typed}
use Rattle.ar_syntax.proofs.Texts.{SaysTree-from_parse_of, parse_of-SaysTree}
use Rattle.ar_syntax.specs.Parse.{parse_of}
use Rattle.ar_syntax.specs.declared.error.SyntaxError.{SyntaxError}
use Rattle.ar_check.specs.Check.{checked}
use Rattle.ar_check.specs.declared.error.TypeError.{TypeError}
use Rattle.ar_judge.specs.Saying.{refused_as, said, said_by, typed_text}
use Rattle.ar_judge.specs.Text.{HasTree, TextSays}
use Rattle.ar_judge.specs.declared.error.BuildCause.{BuildCause}
use Rattle.ar_judge.specs.declared.error.BuildCause.TheVariants.{Kinds}

tree_checked : (shape : Shape) (text : List ℕ) (tree : Typed) (expression : Expression) (answer : Result Typed TypeError) → parse_of text ≡ Ok expression → checked shape expression ≡ answer → refused_as Kinds answer ≡ Ok tree → HasTree shape text tree
tree_checked shape text tree expression (Ok found) parsed is same =
    let alike : found ≡ tree = cc in record { expression = expression; grammar = SaysTree-from_parse_of text expression parsed; kinds = is ∙ ap (λ tree. Ok tree) alike }
tree_checked shape text tree expression (Err error) parsed is same = absurd cc

tree_parsed : (shape : Shape) (text : List ℕ) (tree : Typed) (parsed : Result Expression SyntaxError) → parse_of text ≡ parsed → typed_text shape text ≡ Ok tree → HasTree shape text tree
tree_parsed shape text tree (Ok expression) is typed =
    let kinds : refused_as Kinds (checked shape expression) ≡ Ok tree = rw is at typed in tree_checked shape text tree expression (checked shape expression) is refl kinds
tree_parsed shape text tree (Err error) is typed = absurd cc

-- the tree of a text that was parsed and checked is the one that the grammar gives,
pub tree_by_grammar : (shape : Shape) (text : List ℕ) (tree : Typed) → typed_text shape text ≡ Ok tree → HasTree shape text tree
tree_by_grammar shape text tree typed = tree_parsed shape text tree (parse_of text) refl typed

pub expression_parsed : (shape : Shape) (text : List ℕ) (tree : Typed) (is : HasTree shape text tree) → parse_of text ≡ Ok is.expression
expression_parsed shape text tree is = parse_of-SaysTree text is.expression is.grammar

-- and the other way round
pub tree_by_parser : (shape : Shape) (text : List ℕ) (tree : Typed) → HasTree shape text tree → typed_text shape text ≡ Ok tree
tree_by_parser shape text tree is = rw (expression_parsed shape text tree is, is.kinds) refl

says_typed : (shape : Shape) (text : List ℕ) (value : Value) (answer : Result Bool Fault) (typed : Result Typed BuildCause) → typed_text shape text ≡ typed → said_by value typed ≡ Some answer → TextSays shape text value answer
says_typed shape text value answer (Ok tree) is says = record { tree = tree; has_tree = tree_by_grammar shape text tree is; meant = says }
says_typed shape text value answer (Err cause) is says = absurd cc

-- what is said is what the text says
pub said_says : (shape : Shape) (text : List ℕ) (value : Value) (answer : Result Bool Fault) → said shape text value ≡ Some answer → TextSays shape text value answer
said_says shape text value answer says = says_typed shape text value answer (typed_text shape text) refl says

pub says_said : (shape : Shape) (text : List ℕ) (value : Value) (answer : Result Bool Fault) → TextSays shape text value answer → said shape text value ≡ Some answer
says_said shape text value answer is = rw (tree_by_parser shape text is.tree is.has_tree, is.meant) refl
