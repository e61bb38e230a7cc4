-- The grammar of conditions, level by level, a part of that in expr-lang's Language Definition:
--
--     tern = or | or "?" tern ":" tern
--     or   = and { ("or" | "||") and }
--     and  = cmp { ("and" | "&&") cmp }
--     cmp  = add { ("==" | "!=" | "<" | ">" | "<=" | ">=" | "in" | "not" "in"
--                | "contains" | "startsWith" | "endsWith") add }
--     add  = mul { ("+" | "-") mul }
--     mul  = una { ("*" | "/" | "%") una }
--     una  = ("-" | "+" | "!" | "not") una | post
--     post = prim { "." word | "[" text "]" | "[" tern "]" }
--     prim = number | text | "true" | "false" | "nil" | "result" | "#" | "." word
--          | "(" tern ")" | "[" tern { "," tern } "]" | call
--     call = ("len" | "isNil") "(" tern ")" | "default" "(" tern "," tern ")"
--          | ("all" | "any" | "none" | "one" | "count" | "filter") "(" tern "," pred ")"
--     pred = "{" tern "}" | tern
--
-- A rule relates the tokens from a phrase's first on, what the phrase says, and the tokens after it, inside a predicate
-- or not, where n openers may still begin.
use Rattle.std.specs.Prelude.{◌≡◌, ℕ, zero, suc, Bool, true, false, ◌||◌, nat_eq, nat_lt, List, [], ◌∷◌, ◌++◌, length, Option, Some, None, pred}
use Rattle.ar_value.specs.Terms.{Text}
use Rattle.ar_value.specs.Limits.{most_literal_items}
use Rattle.ar_tree.specs.Expression.{Expression, FieldAt, IndexAt, ItemAt, UnaryAt, BinaryAt, ChoiceAt, ListAt, expressions}
use Rattle.ar_syntax.specs.Roles.{Call, Follow, Ends, Comma, Colon, EndGroup, EndBracket, EndBrace, Operator, NotOf, Choose, Select, Open, Leaf, Prefix, Group, Bracket, Calls, ItemPoint, arity, called, follows, is_body, is_brace, is_group, is_in, precedence, field_name_of, begun_by, literal_text}
use Rattle.ar_syntax.specs.declared.token.Token.{Token}
use Rattle.ar_tree.specs.declared.tree.Binary.{Binary}
use Rattle.ar_tree.specs.declared.tree.Binary.TheVariants.{NotIn}
use Rattle.ar_tree.specs.declared.tree.Unary.{Unary}

-- ---- limits

-- The limits, each of which may be set aside: on unfinished openers, on a list's items, on a call's arguments.
pub record Rules : Type 0 where
  pub any_depth : Bool
  pub any_items : Bool
  pub any_count : Bool

abbrev pub most_openers : ℕ
most_openers = 64

-- one more opener where n may still be unfinished
abbrev pub may_open : Rules → ℕ → Bool
may_open rules left = nat_lt 0 left || rules.any_depth

-- one more item after n
abbrev pub may_continue : Rules → ℕ → Bool
may_continue rules items = nat_lt items most_literal_items || rules.any_items

-- one more argument after n, and none after them
abbrev pub takes_more : Rules → Call → ℕ → Bool
takes_more rules call arguments = nat_lt arguments (arity call) || rules.any_count

abbrev pub takes_all : Rules → Call → ℕ → Bool
takes_all rules call arguments = nat_eq arguments (arity call) || rules.any_count

abbrev pub ends_bracket : Follow → Bool
ends_bracket (Ends EndBracket) = true
ends_bracket role = false

-- one text between brackets is a field's name
abbrev pub is_alone : Option Text → List Token → Bool
is_alone None later = false
is_alone (Some text) [] = false
is_alone (Some text) (close ∷ later) = ends_bracket (follows close)

abbrev pub is_text_alone : List Token → Bool
is_text_alone [] = false
is_text_alone (text ∷ later) = is_alone (literal_text text) later

-- ---- levels: 0 is `una`, and further ones have one kind of operators more: `mul`, `add`, `cmp`, `and`, `or`, `tern`

abbrev pub unary : ℕ
unary = 0

abbrev pub ternary : ℕ
ternary = 6

-- ---- rules

module _ (rules : Rules) where
  mutual
    pub data Phrase : ℕ → Bool → ℕ → List Token → Expression → List Token → Type 0 where
      -- mul, add, cmp, and, or, tern: a phrase of the level below, and what follows it
      level : {d : ℕ} {inside : Bool} {left : ℕ} {tokens mid rest : List Token} {first tree : Expression}
          → Phrase d inside left tokens first mid → Further d inside left first mid tree rest
          → Phrase (suc d) inside left tokens tree rest
      -- una = ("-" | "+" | "!" | "not") una
      prefixed : {inside : Bool} {left : ℕ} {token : Token} {later rest : List Token} {operator : Unary}
          {operand : Expression}
          → begun_by inside token ≡ Prefix operator → may_open rules left ≡ true
          → Phrase zero inside (pred left) later operand rest
          → Phrase zero inside left (token ∷ later) (UnaryAt token.span.start operator operand) rest
      -- una = post = prim { .. }
      postfixed : {inside : Bool} {left : ℕ} {tokens mid rest : List Token} {first tree : Expression}
          → Primary inside left tokens first mid → Selections inside left first mid tree rest
          → Phrase zero inside left tokens tree rest

    -- what follows the first phrase of a level
    pub data Further : ℕ → Bool → ℕ → Expression → List Token → Expression → List Token → Type 0 where
      nothing : {d : ℕ} {inside : Bool} {left : ℕ} {tree : Expression} {rest : List Token}
          → Further d inside left tree rest tree rest
      -- { operator level }
      operator : {d : ℕ} {inside : Bool} {left : ℕ} {token : Token} {later mid rest : List Token} {operator : Binary}
          {first second tree : Expression}
          → follows token ≡ Operator operator → precedence operator ≡ d → Phrase d inside left later second mid
          → Further d inside left (BinaryAt token.span.start operator first second) mid tree rest
          → Further d inside left first (token ∷ later) tree rest
      -- { "not" "in" add }
      not_in : {d : ℕ} {inside : Bool} {left : ℕ} {not_token in_token : Token} {later mid rest : List Token}
          {first second tree : Expression}
          → follows not_token ≡ NotOf → is_in in_token ≡ true → precedence NotIn ≡ d
          → Phrase d inside left later second mid
          → Further d inside left (BinaryAt not_token.span.start NotIn first second) mid tree rest
          → Further d inside left first (not_token ∷ in_token ∷ later) tree rest
      -- "?" tern ":" tern
      choice : {d : ℕ} {inside : Bool} {left : ℕ} {question colon : Token} {later after rest : List Token}
          {condition then_branch else_branch : Expression}
          → follows question ≡ Choose → may_open rules left ≡ true → suc d ≡ ternary
          → Phrase ternary inside (pred left) later then_branch (colon ∷ after)
          → follows colon ≡ Ends Colon → Phrase ternary inside (pred left) after else_branch rest
          → Further d inside left condition (question ∷ later)
          (ChoiceAt question.span.start condition then_branch else_branch) rest

    -- { "." word | "[" text "]" | "[" tern "]" }
    pub data Selections : Bool → ℕ → Expression → List Token → Expression → List Token → Type 0 where
      nothing_more : {inside : Bool} {left : ℕ} {tree : Expression} {rest : List Token}
          → Selections inside left tree rest tree rest
      field : {inside : Bool} {left : ℕ} {point name : Token} {later rest : List Token} {word : Text}
          {owner tree : Expression}
          → follows point ≡ Select → field_name_of name ≡ Some word
          → Selections inside left (FieldAt point.span.start owner word) later tree rest
          → Selections inside left owner (point ∷ name ∷ later) tree rest
      text_field : {inside : Bool} {left : ℕ} {opener text close : Token} {later rest : List Token} {word : Text}
          {owner tree : Expression}
          → follows opener ≡ Open → may_open rules left ≡ true → literal_text text ≡ Some word
          → follows close ≡ Ends EndBracket
          → Selections inside left (FieldAt opener.span.start owner word) later tree rest
          → Selections inside left owner (opener ∷ text ∷ close ∷ later) tree rest
      index : {inside : Bool} {left : ℕ} {opener close : Token} {later after rest : List Token}
          {owner found tree : Expression}
          → follows opener ≡ Open → may_open rules left ≡ true → is_text_alone later ≡ false
          → Phrase ternary inside (pred left) later found (close ∷ after)
          → follows close ≡ Ends EndBracket
          → Selections inside left (IndexAt opener.span.start owner found) after tree rest
          → Selections inside left owner (opener ∷ later) tree rest

    pub data Primary : Bool → ℕ → List Token → Expression → List Token → Type 0 where
      -- number | text | "true" | "false" | "nil" | "result" | "#"
      leaf : {inside : Bool} {left : ℕ} {token : Token} {rest : List Token} {tree : Expression}
          → begun_by inside token ≡ Leaf tree → Primary inside left (token ∷ rest) tree rest
      -- "." word
      item_field : {inside : Bool} {left : ℕ} {point name : Token} {rest : List Token} {word : Text}
          → begun_by inside point ≡ ItemPoint → field_name_of name ≡ Some word
          → Primary inside left (point ∷ name ∷ rest) (FieldAt point.span.start (ItemAt point.span.start) word) rest
      -- "(" tern ")"
      group : {inside : Bool} {left : ℕ} {opener close : Token} {later rest : List Token} {tree : Expression}
          → begun_by inside opener ≡ Group → may_open rules left ≡ true
          → Phrase ternary inside (pred left) later tree (close ∷ rest)
          → follows close ≡ Ends EndGroup → Primary inside left (opener ∷ later) tree rest
      -- "[" tern { "," tern } "]"
      list : {inside : Bool} {left : ℕ} {opener : Token} {later rest : List Token} {items : List Expression}
          → begun_by inside opener ≡ Bracket → may_open rules left ≡ true
          → ListItems inside (pred left) [] later items rest
          → Primary inside left (opener ∷ later) (ListAt opener.span.start (expressions items)) rest
      -- call
      call : {inside : Bool} {left : ℕ} {name opener : Token} {later rest : List Token} {function : Call}
          {arguments : List Expression}
          → begun_by inside name ≡ Calls function → may_open rules left ≡ true → is_group opener ≡ true
          → Arguments inside (pred left) function [] later arguments rest
          → Primary inside left (name ∷ opener ∷ later) (called name.span.start function arguments) rest

    -- a list's items after those so far, up to the bracket
    pub data ListItems : Bool → ℕ → List Expression → List Token → List Expression → List Token → Type 0 where
      item : {inside : Bool} {left : ℕ} {so_far items : List Expression} {tokens mid rest : List Token}
          {first : Expression}
          → Phrase ternary inside left tokens first mid → ItemsAfter inside left (so_far ++ first ∷ []) mid items rest
          → ListItems inside left so_far tokens items rest

    pub data ItemsAfter : Bool → ℕ → List Expression → List Token → List Expression → List Token → Type 0 where
      last_item : {inside : Bool} {left : ℕ} {items : List Expression} {close : Token} {rest : List Token}
          → follows close ≡ Ends EndBracket → ItemsAfter inside left items (close ∷ rest) items rest
      comma_item : {inside : Bool} {left : ℕ} {so_far items : List Expression} {comma : Token}
          {later rest : List Token}
          → follows comma ≡ Ends Comma → may_continue rules (length so_far) ≡ true
          → ListItems inside left so_far later items rest → ItemsAfter inside left so_far (comma ∷ later) items rest

    -- a call's arguments after those so far, up to the parenthesis
    pub data Arguments : Bool → ℕ → Call → List Expression → List Token → List Expression → List Token → Type 0 where
      no_argument : {inside : Bool} {left : ℕ} {function : Call} {close : Token} {rest : List Token}
          → follows close ≡ Ends EndGroup → takes_all rules function 0 ≡ true
          → Arguments inside left function [] (close ∷ rest) [] rest
      argument : {inside : Bool} {left : ℕ} {function : Call} {so_far arguments : List Expression}
          {tokens mid rest : List Token} {first : Expression}
          → is_body function (length so_far) ≡ false → Phrase ternary inside left tokens first mid
          → ArgumentsAfter inside left function (so_far ++ first ∷ []) mid arguments rest
          → Arguments inside left function so_far tokens arguments rest
      -- pred = tern
      body : {inside : Bool} {left : ℕ} {function : Call} {so_far arguments : List Expression}
          {tokens mid rest : List Token} {first : Expression}
          → is_body function (length so_far) ≡ true → Phrase ternary true left tokens first mid
          → ArgumentsAfter inside left function (so_far ++ first ∷ []) mid arguments rest
          → Arguments inside left function so_far tokens arguments rest
      -- pred = "{" tern "}"
      braced : {inside : Bool} {left : ℕ} {function : Call} {so_far arguments : List Expression} {opener close : Token}
          {later mid rest : List Token} {first : Expression}
          → is_body function (length so_far) ≡ true → is_brace opener ≡ true → may_open rules left ≡ true
          → Phrase ternary true (pred left) later first (close ∷ mid)
          → follows close ≡ Ends EndBrace
          → ArgumentsAfter inside left function (so_far ++ first ∷ []) mid arguments rest
          → Arguments inside left function so_far (opener ∷ later) arguments rest

    pub data ArgumentsAfter : Bool → ℕ → Call → List Expression → List Token → List Expression → List Token
        → Type 0 where
      last_argument : {inside : Bool} {left : ℕ} {function : Call} {arguments : List Expression} {close : Token}
          {rest : List Token}
          → follows close ≡ Ends EndGroup → takes_all rules function (length arguments) ≡ true
          → ArgumentsAfter inside left function arguments (close ∷ rest) arguments rest
      comma_argument : {inside : Bool} {left : ℕ} {function : Call} {so_far arguments : List Expression}
          {comma : Token} {later rest : List Token}
          → follows comma ≡ Ends Comma → takes_more rules function (length so_far) ≡ true
          → Arguments inside left function so_far later arguments rest
          → ArgumentsAfter inside left function so_far (comma ∷ later) arguments rest

-- all of the tokens are a condition by these rules, which the tree says
abbrev pub DerivesBy : Rules → List Token → Expression → Type 0
DerivesBy rules tokens tree = Phrase rules ternary false most_openers tokens tree []

-- with some further tokens these are a condition by these rules
abbrev pub BeginsBy : Rules → List Token → Type 0
BeginsBy rules tokens = (further : List Token) × (tree : Expression) × DerivesBy rules (tokens ++ further) tree
