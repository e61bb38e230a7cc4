-- What the grammar makes of a text has no number below zero, no list without items, and no item outside predicates.
use Rattle.std.proofs.Common.{◌≡◌, ℕ, suc, ◌+◌, ◌<◌, ◌≤◌, Bool, true, false, List, [], ◌∷◌, ◌++◌, length, refl, ap, subst, arith, Ok, length-append}
use Rattle.std.specs.Prelude.{◌||◌, if◌then◌else◌, nat_lt}
use Rattle.std.specs.List.{AllByRecursion}
use Rattle.std.proofs.lemmas.Bool.{ltb-true}
use Rattle.ar_value.specs.Limits.{most_literal_items}
use Rattle.ar_tree.specs.Expression.{Expression, Expressions, expression_count, expressions}
use Rattle.ar_tree.specs.Expression as trees
use Rattle.ar_tree.specs.declared.tree.Literal.TheVariants as literals
use Rattle.ar_syntax.specs.Condition.{SaysTree, strict}
use Rattle.ar_syntax.specs.Grammar.{Arguments, ArgumentsAfter, Further, ItemsAfter, ListItems, Phrase, Primary, Selections}
use Rattle.ar_syntax.specs.Grammar as grammar
use Rattle.ar_syntax.specs.Parse.{parse_of}
use Rattle.ar_syntax.specs.Roles.{ItemPoint, Leaf, Start, begun_by, called, is_body, kind_start, sign_start, word_start}
use Rattle.ar_syntax.specs.Spelling.{IsSpelled, Spells}
use Rattle.ar_syntax.specs.declared.role.Call.{Call}
use Rattle.ar_syntax.specs.declared.role.Call.TheVariants.{Default, IsNil, Len, Over}
use Rattle.ar_syntax.specs.declared.token.Sign.{Sign}
use Rattle.ar_syntax.specs.declared.token.Sign.TheVariants as signs
use Rattle.ar_syntax.specs.declared.token.Token.{Token}
use Rattle.ar_syntax.specs.declared.token.TokenKind.{TokenKind}
use Rattle.ar_syntax.specs.declared.token.TokenKind.TheVariants as kinds
use Rattle.ar_syntax.specs.declared.token.Word.{Word}
use Rattle.ar_syntax.specs.declared.token.Word.TheVariants as words
use Rattle.ar_syntax.proofs.Cuts.{AreCut-from_tokens_of}
use Rattle.ar_syntax.proofs.Texts.{SaysTree-from_parse_of}
use Rattle.ar_show.specs.PartText.{is_below_zero}
use Rattle.ar_parsed_back.proofs.Fractions.{not_negative}

abbrev mutual
  -- `inside`: inside a predicate
  pub IsFormed : Bool → Expression → Type 0
  IsFormed inside (trees.ResultAt at) = Unit {0}
  IsFormed inside (trees.ItemAt at) = inside ≡ true
  IsFormed inside (trees.LiteralAt at literal) = is_below_zero literal ≡ false
  IsFormed inside (trees.FieldAt at owner name) = IsFormed inside owner
  IsFormed inside (trees.IndexAt at list index) = IsFormed inside list × IsFormed inside index
  IsFormed inside (trees.UnaryAt at operator operand) = IsFormed inside operand
  IsFormed inside (trees.BinaryAt at operator left right) = IsFormed inside left × IsFormed inside right
  IsFormed inside (trees.ChoiceAt at condition then_branch else_branch) = IsFormed inside condition × IsFormed inside then_branch × IsFormed inside else_branch
  IsFormed inside (trees.ListAt at items) = AreFormed inside items × (0 < expression_count items) × (expression_count items ≤ most_literal_items)
  IsFormed inside (trees.LenAt at list) = IsFormed inside list
  IsFormed inside (trees.IsNilAt at operand) = IsFormed inside operand
  IsFormed inside (trees.DefaultAt at operand otherwise) = IsFormed inside operand × IsFormed inside otherwise
  IsFormed inside (trees.PredicateAt at predicate list body) = IsFormed inside list × IsFormed true body

  pub AreFormed : Bool → Expressions → Type 0
  AreFormed inside trees.none = Unit {0}
  AreFormed inside (trees.more first others) = IsFormed inside first × AreFormed inside others

-- ---- tokens

abbrev IsKind : TokenKind → Type 0
IsKind (kinds.Whole value) = is_below_zero (literals.Whole value) ≡ false
IsKind (kinds.Decimal millionths) = is_below_zero (literals.Decimal millionths) ≡ false
IsKind kind = Unit {0}

abbrev AreTokens : List Token → Type 0
AreTokens [] = Unit {0}
AreTokens (token ∷ tokens) = IsKind token.kind × AreTokens tokens

kind_is : (at : ℕ) (bytes : List ℕ) (kind : TokenKind) → Spells at bytes kind → IsKind kind
kind_is at bytes (kinds.Whole value) spells = rw spells.2 (not_negative spells.0)
kind_is at bytes (kinds.Decimal millionths) spells = rw spells.3 (not_negative _)
kind_is at bytes kind spells = tt

tokens_are : (text : List ℕ) (tokens : List Token) → AllByRecursion (IsSpelled text) tokens → AreTokens tokens
tokens_are text [] spelled = tt
tokens_are text (token ∷ tokens) spelled = (kind_is _ _ token.kind spelled.0, tokens_are text tokens spelled.1)

-- ---- what tokens begin

abbrev IsStart : Bool → Start → Type 0
IsStart inside (Leaf tree) = IsFormed inside tree
IsStart inside start = Unit {0}

word_begins : (inside : Bool) (at : ℕ) (word : Word) → IsStart inside (word_start at word)
word_begins inside at words.Result = tt
word_begins inside at words.True = refl
word_begins inside at words.False = refl
word_begins inside at words.Nil = refl
word_begins inside at word = tt

sign_begins : (inside : Bool) (at : ℕ) (sign : Sign) → IsStart inside (sign_start inside at sign)
sign_begins true at signs.Hash = refl
sign_begins false at signs.Hash = tt
sign_begins true at signs.Point = tt
sign_begins false at signs.Point = tt
sign_begins inside at sign = tt

kind_begins : (inside : Bool) (at : ℕ) (kind : TokenKind) → IsKind kind → IsStart inside (kind_start inside at kind)
kind_begins inside at (kinds.Word word) is = word_begins inside at word
kind_begins inside at (kinds.Name name) is = tt
kind_begins inside at (kinds.Whole value) is = is
kind_begins inside at (kinds.Decimal millionths) is = is
kind_begins inside at (kinds.Text text) is = refl
kind_begins inside at (kinds.Sign sign) is = sign_begins inside at sign

leaf_formed : (inside : Bool) (token : Token) (tree : Expression) → IsKind token.kind → begun_by inside token ≡ Leaf tree → IsFormed inside tree
unfolding begun_by
leaf_formed inside token tree is starts = subst (IsStart inside) starts (kind_begins inside token.span.start token.kind is)

-- a point begins an item's field inside predicates alone
sign_point : (at : ℕ) (sign : Sign) → sign_start false at sign ≡ ItemPoint → ⊥
sign_point at signs.Hash e = cc
sign_point at signs.Point e = cc
sign_point at sign e = cc

word_point : (at : ℕ) (word : Word) → word_start at word ≡ ItemPoint → ⊥
word_point at words.Result e = cc
word_point at word e = cc

kind_point : (inside : Bool) (at : ℕ) (kind : TokenKind) → kind_start inside at kind ≡ ItemPoint → inside ≡ true
kind_point true at kind e = refl
kind_point false at (kinds.Word word) e = absurd (word_point at word e)
kind_point false at (kinds.Sign sign) e = absurd (sign_point at sign e)
kind_point false at kind e = absurd cc

item_point : (inside : Bool) (token : Token) → begun_by inside token ≡ ItemPoint → inside ≡ true
unfolding begun_by
item_point inside token e = kind_point inside token.span.start token.kind e

-- ---- lists and calls

one_more : (inside : Bool) (so_far : List Expression) (tree : Expression) → AreFormed inside (expressions so_far) → IsFormed inside tree → AreFormed inside (expressions (so_far ++ tree ∷ []))
one_more inside [] tree all one = (one, tt)
one_more inside (first ∷ so_far) tree all one = (all.0, one_more inside so_far tree all.1 one)

as_many : (items : List Expression) → expression_count (expressions items) ≡ length items
as_many [] = refl
as_many (first ∷ others) = ap suc (as_many others)

may_chosen : (items : ℕ) (test : Bool) → nat_lt items most_literal_items ≡ test → (test || false) ≡ true → items < most_literal_items
may_chosen items true is may = ltb-true items most_literal_items is
may_chosen items false is may = absurd cc

-- an argument, of which n others come before it
abbrev is_inside : Bool → Call → ℕ → Bool
is_inside inside function before = if is_body function before then true else inside

abbrev AreArguments : Bool → Call → ℕ → List Expression → Type 0
AreArguments inside function before [] = Unit {0}
AreArguments inside function before (first ∷ others) = IsFormed (is_inside inside function before) first × AreArguments inside function (suc before) others

one_argument : (inside : Bool) (function : Call) (before : ℕ) (so_far : List Expression) (tree : Expression) → AreArguments inside function before so_far → IsFormed (is_inside inside function (before + length so_far)) tree → AreArguments inside function before (so_far ++ tree ∷ [])
one_argument inside function before [] tree all one = (subst (λ (n : ℕ). IsFormed (is_inside inside function n) tree) (omega arith) one, tt)
one_argument inside function before (first ∷ so_far) tree all one =
    (all.0, one_argument inside function (suc before) so_far tree all.1 (subst (λ (n : ℕ). IsFormed (is_inside inside function n) tree) (omega arith) one))

next_argument : (inside : Bool) (function : Call) (so_far : List Expression) (tree : Expression) (body place : Bool) → is_body function (length so_far) ≡ body → (if body then true else inside) ≡ place → AreArguments inside function 0 so_far → IsFormed place tree → AreArguments inside function 0 (so_far ++ tree ∷ [])
next_argument inside function so_far tree body place is place_is all one =
    let count : length so_far ≡ 0 + length so_far = omega arith in
    one_argument inside function 0 so_far tree all (subst (λ (n : ℕ). IsFormed (is_inside inside function n) tree) count (rw (is, place_is) one))

call_formed : (inside : Bool) (at : ℕ) (function : Call) (arguments : List Expression) → AreArguments inside function 0 arguments → IsFormed inside (called at function arguments)
call_formed inside at Len (list ∷ []) all = all.0
call_formed inside at IsNil (operand ∷ []) all = all.0
call_formed inside at Default (operand ∷ otherwise ∷ []) all = (all.0, all.1.0)
call_formed inside at (Over predicate) (list ∷ body ∷ []) all = (all.0, all.1.0)
call_formed inside at function arguments all = refl

-- ---- phrases

abbrev Formed : Bool → Expression → List Token → Type 0
Formed inside tree rest = IsFormed inside tree × AreTokens rest

abbrev AllFormed : Bool → List Expression → List Token → Type 0
AllFormed inside items rest = (AreFormed inside (expressions items) × (0 < length items) × (length items ≤ most_literal_items)) × AreTokens rest

mutual
  phrase_formed : {d : ℕ} {inside : Bool} {left : ℕ} {tokens rest : List Token} {tree : Expression} → Phrase strict d inside left tokens tree rest → AreTokens tokens → Formed inside tree rest
  phrase_formed (grammar.level phrase further) are = let first = phrase_formed phrase are in further_formed further first.0 first.1
  phrase_formed (grammar.prefixed is may phrase) are = phrase_formed phrase are.1
  phrase_formed (grammar.postfixed primary selections) are = let first = primary_formed primary are in selections_formed selections first.0 first.1

  further_formed : {d : ℕ} {inside : Bool} {left : ℕ} {tokens rest : List Token} {first tree : Expression} → Further strict d inside left first tokens tree rest → IsFormed inside first → AreTokens tokens → Formed inside tree rest
  further_formed grammar.nothing h are = (h, are)
  further_formed (grammar.operator is loose phrase further) h are = let second = phrase_formed phrase are.1 in further_formed further (h, second.0) second.1
  further_formed (grammar.not_in is is_in loose phrase further) h are = let second = phrase_formed phrase are.1.1 in further_formed further (h, second.0) second.1
  further_formed (grammar.choice is may last then_branch colon else_branch) h are = let first = phrase_formed then_branch are.1 in let other = phrase_formed else_branch first.1.1 in ((h, first.0, other.0), other.1)

  selections_formed : {inside : Bool} {left : ℕ} {tokens rest : List Token} {owner tree : Expression} → Selections strict inside left owner tokens tree rest → IsFormed inside owner → AreTokens tokens → Formed inside tree rest
  selections_formed grammar.nothing_more h are = (h, are)
  selections_formed (grammar.field point is selections) h are = selections_formed selections h are.1.1
  selections_formed (grammar.text_field opener may is close selections) h are = selections_formed selections h are.1.1.1
  selections_formed (grammar.index opener may alone phrase close selections) h are = let found = phrase_formed phrase are.1 in selections_formed selections (h, found.0) found.1.1

  primary_formed : {inside : Bool} {left : ℕ} {tokens rest : List Token} {tree : Expression} → Primary strict inside left tokens tree rest → AreTokens tokens → Formed inside tree rest
  primary_formed (grammar.leaf {inside = inside} {token = token} {tree = tree} is) are = (leaf_formed inside token tree are.0 is, are.1)
  primary_formed (grammar.item_field {inside = inside} {point = point} starts is) are = (item_point inside point starts, are.1.1)
  primary_formed (grammar.group opener may phrase close) are = let first = phrase_formed phrase are.1 in (first.0, first.1.1)
  primary_formed (grammar.list {items = found} opener may items) are = let all = items_formed items tt (omega arith) are.1 in ((all.0.0, rw (as_many found) all.0.1, rw (as_many found) all.0.2), all.1)
  primary_formed (grammar.call {inside = inside} {name = token} {function = function} {arguments = found} is may opener arguments) are =
      let all = arguments_formed arguments tt are.1.1 in
      (call_formed inside token.span.start function found all.0, all.1)

  items_formed : {inside : Bool} {left : ℕ} {so_far items : List Expression} {tokens rest : List Token} → ListItems strict inside left so_far tokens items rest → AreFormed inside (expressions so_far) → length so_far < most_literal_items → AreTokens tokens → AllFormed inside items rest
  items_formed (grammar.item {inside = inside} {so_far = so_far} {first = tree} phrase later) all few are =
      let first = phrase_formed phrase are in
      items_after_formed later (one_more inside so_far tree all first.0) (omega (arith, length-append so_far (tree ∷ []))) (omega (arith, few, length-append so_far (tree ∷ []))) first.1

  items_after_formed : {inside : Bool} {left : ℕ} {so_far items : List Expression} {tokens rest : List Token} → ItemsAfter strict inside left so_far tokens items rest → AreFormed inside (expressions so_far) → 0 < length so_far → length so_far ≤ most_literal_items → AreTokens tokens → AllFormed inside items rest
  items_after_formed (grammar.last_item close) all some few are = ((all, some, few), are.1)
  items_after_formed (grammar.comma_item {so_far = so_far} comma may items) all some few are = items_formed items all (may_chosen (length so_far) (nat_lt (length so_far) most_literal_items) refl may) are.1

  arguments_formed : {inside : Bool} {left : ℕ} {function : Call} {so_far arguments : List Expression} {tokens rest : List Token} → Arguments strict inside left function so_far tokens arguments rest → AreArguments inside function 0 so_far → AreTokens tokens → AreArguments inside function 0 arguments × AreTokens rest
  arguments_formed (grammar.no_argument close takes) all are = (tt, are.1)
  arguments_formed (grammar.argument {inside = inside} {function = function} {so_far = so_far} {first = tree} plain phrase later) all are =
      let first = phrase_formed phrase are in arguments_after_formed later (next_argument inside function so_far tree false inside plain refl all first.0) first.1
  arguments_formed (grammar.body {inside = inside} {function = function} {so_far = so_far} {first = tree} body phrase later) all are =
      let first = phrase_formed phrase are in arguments_after_formed later (next_argument inside function so_far tree true true body refl all first.0) first.1
  arguments_formed (grammar.braced {inside = inside} {function = function} {so_far = so_far} {first = tree} body opener may phrase close later) all are =
      let first = phrase_formed phrase are.1 in arguments_after_formed later (next_argument inside function so_far tree true true body refl all first.0) first.1.1

  arguments_after_formed : {inside : Bool} {left : ℕ} {function : Call} {so_far arguments : List Expression} {tokens rest : List Token} → ArgumentsAfter strict inside left function so_far tokens arguments rest → AreArguments inside function 0 so_far → AreTokens tokens → AreArguments inside function 0 arguments × AreTokens rest
  arguments_after_formed (grammar.last_argument close takes) all are = (all, are.1)
  arguments_after_formed (grammar.comma_argument comma takes arguments) all are = arguments_formed arguments all are.1

says_formed : (text : List ℕ) (tree : Expression) → SaysTree text tree → IsFormed false tree
says_formed text tree says = (phrase_formed says.derived (tokens_are text says.tokens (AreCut-from_tokens_of text says.tokens says.cut).spelled)).0

-- the tree of a text
pub parsed_formed : (text : List ℕ) (tree : Expression) → parse_of text ≡ Ok tree → IsFormed false tree
parsed_formed text tree is = says_formed text tree (SaysTree-from_parse_of text tree is)
