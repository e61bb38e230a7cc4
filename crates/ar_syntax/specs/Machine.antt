-- The grammar read token by token: the phrases that are begun and not ended are on a stack.
use Rattle.std.specs.Prelude.{ℕ, Bool, true, false, nat_le, if◌then◌else◌, List, [], ◌∷◌, ◌++◌, length, Option, Some, None, pred}
use Rattle.ar_value.specs.Terms.{Offset}
use Rattle.ar_tree.specs.Expression.{Expression, FieldAt, IndexAt, ItemAt, LiteralAt, UnaryAt, BinaryAt, ChoiceAt, ListAt, expressions}
use Rattle.ar_syntax.specs.Grammar.{Rules, may_continue, may_open, most_openers, takes_all, takes_more, ternary}
use Rattle.ar_syntax.specs.Roles.{Call, Ender, Follow, Start, Ends, Comma, Colon, EndGroup, EndBracket, EndBrace, Operator, NotOf, Choose, Select, Open, NoFollow, Leaf, Prefix, Group, Bracket, Calls, ItemPoint, NoStart, called, follows, is_body, is_brace, is_group, is_in, precedence, field_name_of, begun_by, literal_text}
use Rattle.ar_syntax.specs.declared.token.Token.{Token}
use Rattle.ar_tree.specs.declared.tree.Binary.{Binary}
use Rattle.ar_tree.specs.declared.tree.Binary.TheVariants.{NotIn}
use Rattle.ar_tree.specs.declared.tree.Literal.TheVariants.{Text}
use Rattle.ar_tree.specs.declared.tree.Unary.{Unary}

-- a phrase that waits for an operand
pub data Frame : Type 0 where
  -- the right side of an operator
  RightOf : (at : Offset) (operator : Binary) (first : Expression) → Frame
  -- the operand of a sign before it
  Prefixed : (at : Offset) (operator : Unary) → Frame
  -- what comes after `?`, and after `:`
  Then : (at : Offset) (condition : Expression) → Frame
  Else : (at : Offset) (condition then_branch : Expression) → Frame
  -- what is in `(`, in the `[` of a list and in that of an index
  Grouped : Frame
  Listed : (at : Offset) (so_far : List Expression) → Frame
  Indexed : (at : Offset) (list : Expression) → Frame
  -- an argument: plain, a predicate, and one in braces
  Argued : (at : Offset) (function : Call) (so_far : List Expression) → Frame
  Body : (at : Offset) (function : Call) (so_far : List Expression) → Frame
  Braced : (at : Offset) (function : Call) (so_far : List Expression) → Frame

-- the newest frame first
pub data ParserState : Type 0 where
  -- an operand is expected; one is there
  Want : (stack : List Frame) → ParserState
  Have : (stack : List Frame) (tree : Expression) → ParserState
  -- a word is expected, after the point of a field
  WantName : (stack : List Frame) (at : Offset) (owner : Expression) → ParserState
  -- after the `[` of an index or field, and after a text there
  WantIndex : (stack : List Frame) (at : Offset) (owner : Expression) → ParserState
  HaveText : (stack : List Frame) (at : Offset) (owner : Expression) (text_at : Offset) (text : List ℕ) → ParserState
  -- `in` is expected, after `not`
  WantIn : (stack : List Frame) (at : Offset) (first : Expression) → ParserState
  -- `(` is expected, after the name of a call; an argument is expected; one in braces is there
  WantGroup : (stack : List Frame) (at : Offset) (function : Call) → ParserState
  WantArgument : (stack : List Frame) (at : Offset) (function : Call) (so_far : List Expression) → ParserState
  HaveArgument : (stack : List Frame) (at : Offset) (function : Call) (so_far : List Expression) → ParserState

-- the level of the operand that the newest frame expects
abbrev pub wanted : List Frame → ℕ
wanted (RightOf at operator first ∷ stack) = precedence operator
wanted (Prefixed at operator ∷ stack) = 0
wanted stack = ternary

-- one is inside a predicate
abbrev pub in_predicate : List Frame → Bool
in_predicate [] = false
in_predicate (Body at function so_far ∷ stack) = true
in_predicate (Braced at function so_far ∷ stack) = true
in_predicate (frame ∷ stack) = in_predicate stack

-- how many openers may still be unfinished
abbrev pub openers_left : List Frame → ℕ
openers_left [] = most_openers
openers_left (RightOf at operator first ∷ stack) = openers_left stack
openers_left (Braced at function so_far ∷ stack) = pred (pred (openers_left stack))
openers_left (frame ∷ stack) = pred (openers_left stack)

-- ---- what an operand ends

-- the phrases of levels up to this one end with an operand
abbrev pub climbed : ℕ → List Frame → Expression → ParserState
climbed level (RightOf at operator first ∷ stack) tree =
    if nat_le (precedence operator) level then climbed level stack (BinaryAt at operator first tree)
    else Have (RightOf at operator first ∷ stack) tree
climbed level (Prefixed at operator ∷ stack) tree = climbed level stack (UnaryAt at operator tree)
climbed level stack tree = Have stack tree

-- and so do choices, where something ends that is in brackets or before `:`
abbrev pub unwound : List Frame → Expression → ParserState
unwound (RightOf at operator first ∷ stack) tree = unwound stack (BinaryAt at operator first tree)
unwound (Prefixed at operator ∷ stack) tree = unwound stack (UnaryAt at operator tree)
unwound (Else at condition then_branch ∷ stack) tree = unwound stack (ChoiceAt at condition then_branch tree)
unwound stack tree = Have stack tree

-- how an argument begins: it is a plain one, or a predicate, in braces or not
pub data ArgumentStart : Type 0 where
  PlainArgument : ArgumentStart
  BarePredicate : ArgumentStart
  BracedPredicate : ArgumentStart

abbrev pub argument_start : Call → (before : ℕ) → Token → ArgumentStart
argument_start function before token =
    if is_body function before then (if is_brace token then BracedPredicate else BarePredicate) else PlainArgument

-- ---- steps

module _ (rules : Rules) where
  abbrev pub when : Bool → ParserState → Option ParserState
  when test state = if test then Some state else None

  -- where an operand is expected
  abbrev pub begun_with : List Frame → Offset → Start → Option ParserState
  begun_with stack at (Leaf tree) = Some (Have stack tree)
  begun_with stack at (Prefix operator) =
      when (may_open rules (openers_left stack)) (Want (Prefixed at operator ∷ stack))
  begun_with stack at Group = when (may_open rules (openers_left stack)) (Want (Grouped ∷ stack))
  begun_with stack at Bracket = when (may_open rules (openers_left stack)) (Want (Listed at [] ∷ stack))
  begun_with stack at (Calls function) = when (may_open rules (openers_left stack)) (WantGroup stack at function)
  begun_with stack at ItemPoint = Some (WantName stack at (ItemAt at))
  begun_with stack at NoStart = None

  abbrev pub want : List Frame → Token → Option ParserState
  want stack token = begun_with stack token.span.start (begun_by (in_predicate stack) token)

  -- after the operand that ends what is in brackets or before `:`
  abbrev pub end_with : Ender → ParserState → Option ParserState
  end_with Colon (Have (Then at condition ∷ stack) tree) = Some (Want (Else at condition tree ∷ stack))
  end_with EndGroup (Have (Grouped ∷ stack) tree) = Some (Have stack tree)
  end_with EndBracket (Have (Indexed at list ∷ stack) tree) = Some (Have stack (IndexAt at list tree))
  end_with EndBracket (Have (Listed at so_far ∷ stack) tree) =
      Some (Have stack (ListAt at (expressions (so_far ++ tree ∷ []))))
  end_with Comma (Have (Listed at so_far ∷ stack) tree) =
      when (may_continue rules (length (so_far ++ tree ∷ []))) (Want (Listed at (so_far ++ tree ∷ []) ∷ stack))
  end_with EndGroup (Have (Argued at function so_far ∷ stack) tree) =
      when (takes_all rules function (length (so_far ++ tree ∷ [])))
      (Have stack (called at function (so_far ++ tree ∷ [])))
  end_with Comma (Have (Argued at function so_far ∷ stack) tree) =
      when (takes_more rules function (length (so_far ++ tree ∷ [])))
      (WantArgument stack at function (so_far ++ tree ∷ []))
  end_with EndGroup (Have (Body at function so_far ∷ stack) tree) =
      when (takes_all rules function (length (so_far ++ tree ∷ [])))
      (Have stack (called at function (so_far ++ tree ∷ [])))
  end_with Comma (Have (Body at function so_far ∷ stack) tree) =
      when (takes_more rules function (length (so_far ++ tree ∷ [])))
      (WantArgument stack at function (so_far ++ tree ∷ []))
  end_with EndBrace (Have (Braced at function so_far ∷ stack) tree) =
      Some (HaveArgument stack at function (so_far ++ tree ∷ []))
  end_with ender state = None

  -- an operator after the operand that is its first
  abbrev pub operate : Offset → Binary → ParserState → Option ParserState
  operate at operator (Have stack tree) = Some (Want (RightOf at operator tree ∷ stack))
  operate at operator state = None

  abbrev pub negate : Offset → ParserState → Option ParserState
  negate at (Have stack tree) = Some (WantIn stack at tree)
  negate at state = None

  abbrev pub choose : Offset → ParserState → Option ParserState
  choose at (Have stack tree) = when (may_open rules (openers_left stack)) (Want (Then at tree ∷ stack))
  choose at state = None

  -- after an operand
  abbrev pub followed_by : List Frame → Expression → Offset → Follow → Option ParserState
  followed_by stack tree at (Operator operator) = operate at operator (climbed (precedence operator) stack tree)
  followed_by stack tree at NotOf = negate at (climbed (precedence NotIn) stack tree)
  followed_by stack tree at Choose = choose at (climbed 5 stack tree)
  followed_by stack tree at Select = Some (WantName stack at tree)
  followed_by stack tree at Open = when (may_open rules (openers_left stack)) (WantIndex stack at tree)
  followed_by stack tree at (Ends ender) = end_with ender (unwound stack tree)
  followed_by stack tree at NoFollow = None

  abbrev pub have : List Frame → Expression → Token → Option ParserState
  have stack tree token = followed_by stack tree token.span.start (follows token)

  -- after the point of a field
  abbrev pub select : List Frame → Offset → Expression → Option (List ℕ) → Option ParserState
  select stack at owner (Some word) = Some (Have stack (FieldAt at owner word))
  select stack at owner None = None

  -- after `[`: a text may be a field's name
  abbrev pub open_index : List Frame → Offset → Expression → Token → Option (List ℕ) → Option ParserState
  open_index stack at owner token (Some text) = Some (HaveText stack at owner token.span.start text)
  open_index stack at owner token None = want (Indexed at owner ∷ stack) token

  -- it is where `]` comes after it, and else an operand
  abbrev pub close_text : List Frame → Offset → Expression → Offset → List ℕ → Token → Follow → Option ParserState
  close_text stack at owner text_at text token (Ends EndBracket) = Some (Have stack (FieldAt at owner text))
  close_text stack at owner text_at text token role =
      have (Indexed at owner ∷ stack) (LiteralAt text_at (Text text)) token

  -- an argument, by how it begins
  abbrev pub argue : List Frame → Offset → Call → List Expression → Token → ArgumentStart → Option ParserState
  argue stack at function so_far token PlainArgument = want (Argued at function so_far ∷ stack) token
  argue stack at function so_far token BarePredicate = want (Body at function so_far ∷ stack) token
  argue stack at function so_far token BracedPredicate =
      when (may_open rules (pred (openers_left stack))) (Want (Braced at function so_far ∷ stack))

  -- `)` directly after `(`
  abbrev pub close_empty : List Frame → Offset → Call → Token → List Expression → Follow → Option ParserState
  close_empty stack at function token [] (Ends EndGroup) =
      when (takes_all rules function 0) (Have stack (called at function []))
  close_empty stack at function token so_far role =
      argue stack at function so_far token (argument_start function (length so_far) token)

  -- after an argument in braces
  abbrev pub close_braced : List Frame → Offset → Call → List Expression → Follow → Option ParserState
  close_braced stack at function arguments (Ends EndGroup) =
      when (takes_all rules function (length arguments)) (Have stack (called at function arguments))
  close_braced stack at function arguments (Ends Comma) =
      when (takes_more rules function (length arguments)) (WantArgument stack at function arguments)
  close_braced stack at function arguments role = None

  -- the state after one token more, where a condition may have it
  unfoldable pub parser_step : ParserState → Token → Option ParserState
  parser_step (Want stack) token = want stack token
  parser_step (Have stack tree) token = have stack tree token
  parser_step (WantName stack at owner) token = select stack at owner (field_name_of token)
  parser_step (WantIndex stack at owner) token = open_index stack at owner token (literal_text token)
  parser_step (HaveText stack at owner text_at text) token =
      close_text stack at owner text_at text token (follows token)
  parser_step (WantIn stack at first) token = when (is_in token) (Want (RightOf at NotIn first ∷ stack))
  parser_step (WantGroup stack at function) token = when (is_group token) (WantArgument stack at function [])
  parser_step (WantArgument stack at function so_far) token = close_empty stack at function token so_far (follows token)
  parser_step (HaveArgument stack at function arguments) token =
      close_braced stack at function arguments (follows token)

  abbrev pub step_from : Option ParserState → Token → Option ParserState
  step_from (Some state) token = parser_step state token
  step_from None token = None

  -- the state after tokens
  abbrev pub run : Option ParserState → List Token → Option ParserState
  run state [] = state
  run state (token ∷ tokens) = run (step_from state token) tokens

abbrev pub start_state : ParserState
start_state = Want []

-- the tree, where the tokens end
abbrev pub whole : ParserState → Option Expression
whole (Have [] tree) = Some tree
whole state = None

abbrev pub finished : ParserState → Option Expression
finished (Have stack tree) = whole (unwound stack tree)
finished state = None

abbrev pub finished_from : Option ParserState → Option Expression
finished_from (Some state) = finished state
finished_from None = None

-- the state after tokens from the start
abbrev pub reached : Rules → List Token → Option ParserState
reached rules tokens = run rules (Some start_state) tokens

-- the tree of tokens
abbrev pub tree_by : Rules → List Token → Option Expression
tree_by rules tokens = finished_from (reached rules tokens)
