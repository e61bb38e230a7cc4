-- What is parsed is within limits: a list has few items, and no text or name is longer than the condition.
use Rattle.std.proofs.Common.{◌≡◌, ℕ, suc, ◌+◌, ◌-◌, ◌<◌, ◌≤◌, Bool, true, false, List, [], ◌∷◌, ◌++◌, length, take, drop, refl, ap, subst, arith, Option, Some, None, Result, Ok, Err, IfOk, length-append, length-drop}
use Rattle.std.specs.Prelude.{◌||◌, ◌==◌, if◌then◌else◌, nat_lt}
use Rattle.std.specs.List.{AllByRecursion}
use Rattle.std.proofs.lemmas.Bool.{ltb-false, ltb-true}
use Rattle.std.proofs.lemmas.List.{length-take}
use Rattle.ar_value.specs.Answer.{Gives}
use Rattle.ar_tree.specs.Expression.{Expression, expression_count, expressions}
use Rattle.ar_tree.specs.Limits.{AllWrittenInLimits, IsShort, WrittenInLimits}
use Rattle.ar_tree.specs.Views.{expression_of}
use Rattle.ar_tree.specs.declared.tree.Tree.{Tree}
use Rattle.ar_syntax.specs.Grammar.{Arguments, ArgumentsAfter, Further, ListItems, ItemsAfter, Phrase, Primary, Selections, may_continue}
use Rattle.ar_syntax.specs.Grammar as grammar
use Rattle.ar_syntax.specs.Parse.{parse_of}
use Rattle.ar_syntax.specs.Condition.{SaysTree, strict}
use Rattle.ar_syntax.specs.Roles.{Call, Len, IsNil, Default, Over, Start, Leaf, called, kind_name, kind_start, kind_text, field_name_of, sign_start, begun_by, literal_text, word_start}
use Rattle.ar_syntax.specs.Spelling.{IsSpelled, Spells, is_syntax_memory, text_in_span}
use Rattle.ar_syntax.specs.Token.{escape_of, letters, predicate_letters, test_letters, unescaped, with_byte, with_escape}
use Rattle.ar_syntax.specs.Tokens.{tokens_after, tokens_of}
use Rattle.ar_syntax.specs.declared.error.SyntaxError.{SyntaxError}
use Rattle.ar_syntax.specs.declared.error.SyntaxError.TheVariants.{TooLong}
use Rattle.ar_syntax.specs.declared.token.Sign.{Sign}
use Rattle.ar_syntax.specs.declared.token.Sign.TheVariants as signs
use Rattle.ar_syntax.specs.declared.token.Token.{Token}
use Rattle.ar_syntax.specs.declared.token.TokenKind.{TokenKind}
use Rattle.ar_syntax.specs.declared.token.TokenKind.TheVariants as kinds
use Rattle.ar_syntax.specs.declared.token.Word.{Word}
use Rattle.ar_syntax.specs.declared.token.Word.TheVariants as words
use Rattle.ar_value.specs.declared.operator.Predicate.{Predicate}
use Rattle.ar_value.specs.declared.operator.Predicate.TheVariants as predicates
use Rattle.ar_value.specs.declared.operator.TextTest.{TextTest}
use Rattle.ar_value.specs.declared.operator.TextTest.TheVariants as tests
use Rattle.ar_value.specs.Limits.{most_literal_items, most_text_bytes}
use Rattle.ar_syntax.proofs.Cuts.{AreCut-from_tokens_of}
use Rattle.ar_syntax.proofs.Texts.{SaysTree-from_parse_of}

-- ---- what texts represent

abbrev HasUpTo : ℕ → Result (List ℕ) SyntaxError → Type 0
HasUpTo most answer = IfOk answer (λ bytes. length bytes ≤ most)

one_byte_more : (most byte : ℕ) (later : Result (List ℕ) SyntaxError) → HasUpTo most later → HasUpTo (suc most) (with_byte byte later)
one_byte_more most byte (Ok bytes) few = omega (arith, few)
one_byte_more most byte (Err error) few = tt

one_escape_more : (most at : ℕ) (byte : Option ℕ) (later : Result (List ℕ) SyntaxError) → HasUpTo most later → HasUpTo (suc most) (with_escape at byte later)
one_escape_more most at (Some byte) later few = one_byte_more most byte later few
one_escape_more most at None later few = tt

no_byte_more : (most : ℕ) (later : Result (List ℕ) SyntaxError) → HasUpTo most later → HasUpTo (suc most) later
no_byte_more most (Ok bytes) few = omega (arith, few)
no_byte_more most (Err error) few = tt

either_way : (most : ℕ) (test : Bool) (then_branch else_branch : Result (List ℕ) SyntaxError) → HasUpTo most then_branch → HasUpTo most else_branch → HasUpTo most (if test then then_branch else else_branch)
either_way most true then_branch else_branch h k = h
either_way most false then_branch else_branch h k = k

-- an escape has two bytes and represents one
unescaped_few : (before : ℕ) (escaped : Bool) (bytes : List ℕ) → HasUpTo (length bytes) (unescaped before escaped bytes)
unescaped_few before escaped [] = omega arith
unescaped_few before true (byte ∷ bytes) = one_escape_more (length bytes) before (escape_of byte) (unescaped (before + 1) false bytes) (unescaped_few (before + 1) false bytes)
unescaped_few before false (byte ∷ bytes) =
    either_way (suc (length bytes)) (byte == 92) (unescaped (before + 1) true bytes) (with_byte byte (unescaped (before + 1) false bytes)) (no_byte_more (length bytes) (unescaped (before + 1) true bytes) (unescaped_few (before + 1) true bytes))
    (one_byte_more (length bytes) byte (unescaped (before + 1) false bytes) (unescaped_few (before + 1) false bytes))

-- ---- tokens

abbrev IsShortKind : TokenKind → Type 0
IsShortKind (kinds.Name name) = IsShort name
IsShortKind (kinds.Text text) = IsShort text
IsShortKind kind = Unit {0}

abbrev AreShort : List Token → Type 0
AreShort [] = Unit {0}
AreShort (token ∷ tokens) = IsShortKind token.kind × AreShort tokens

kind_short : (at : ℕ) (bytes : List ℕ) (kind : TokenKind) → Spells at bytes kind → IsShort bytes → IsShortKind kind
kind_short at bytes (kinds.Name name) spells few = subst IsShort spells.0 few
kind_short at bytes (kinds.Text text) spells few =
    let inside : HasUpTo (length spells.inside) (unescaped at false spells.inside) = unescaped_few at false spells.inside in
    let text_few : length text ≤ length spells.inside = rw spells.means at inside in
    omega (arith, text_few, few, ap length spells.are, length-append spells.inside (spells.quote ∷ []))
kind_short at bytes kind spells few = tt

module _ (text : List ℕ) (few : IsShort text) where
  part_short : (len start : ℕ) → IsShort (take len (drop start text))
  part_short len start = omega (arith, few, length-take len (drop start text), length-drop start text)

  tokens_short : (tokens : List Token) → AllByRecursion (IsSpelled text) tokens → AreShort tokens
  tokens_short [] spelled = tt
  tokens_short (token ∷ tokens) spelled = (kind_short token.span.start (text_in_span text token.span) token.kind spelled.0 (part_short (token.span.end - token.span.start) token.span.start), tokens_short tokens spelled.1)

condition_chosen : (text : List ℕ) (long : Bool) (answer : Result (List Token) SyntaxError) (tokens : List Token) → nat_lt most_text_bytes (length text) ≡ long → (if long then Err TooLong else answer) ≡ Ok tokens → IsShort text
condition_chosen text true answer tokens is e = absurd cc
condition_chosen text false answer tokens is e = ltb-false most_text_bytes (length text) is

condition_short : (text : List ℕ) (tokens : List Token) → tokens_of text ≡ Ok tokens → IsShort text
unfolding tokens_of
condition_short text tokens e = condition_chosen text (nat_lt most_text_bytes (length text)) (tokens_after 0 0 false text) tokens refl e

-- ---- what tokens begin

test_letters_short : (test : TextTest) → IsShort (test_letters test)
test_letters_short tests.Contains = omega arith
test_letters_short tests.StartsWith = omega arith
test_letters_short tests.EndsWith = omega arith

predicate_letters_short : (predicate : Predicate) → IsShort (predicate_letters predicate)
predicate_letters_short predicates.All = omega arith
predicate_letters_short predicates.Any = omega arith
predicate_letters_short predicates.None = omega arith
predicate_letters_short predicates.One = omega arith
predicate_letters_short predicates.Count = omega arith
predicate_letters_short predicates.Filter = omega arith

letters_short : (word : Word) → IsShort (letters word)
letters_short words.Result = omega arith
letters_short words.True = omega arith
letters_short words.False = omega arith
letters_short words.Nil = omega arith
letters_short words.And = omega arith
letters_short words.Or = omega arith
letters_short words.Not = omega arith
letters_short words.In = omega arith
letters_short (words.Test test) = test_letters_short test
letters_short words.Len = omega arith
letters_short words.IsNil = omega arith
letters_short words.Default = omega arith
letters_short (words.Over predicate) = predicate_letters_short predicate

kind_name_short : (kind : TokenKind) (name : List ℕ) → IsShortKind kind → kind_name kind ≡ Some name → IsShort name
kind_name_short (kinds.Word word) name short is = let same : letters word ≡ name = cc in subst IsShort same (letters_short word)
kind_name_short (kinds.Name other) name short is = let same : other ≡ name = cc in subst IsShort same short
kind_name_short kind name short is = absurd cc

name_short : (token : Token) (name : List ℕ) → IsShortKind token.kind → field_name_of token ≡ Some name → IsShort name
unfolding field_name_of
name_short token name short is = kind_name_short token.kind name short is

kind_text_short : (kind : TokenKind) (text : List ℕ) → IsShortKind kind → kind_text kind ≡ Some text → IsShort text
kind_text_short (kinds.Text other) text short is = let same : other ≡ text = cc in subst IsShort same short
kind_text_short kind text short is = absurd cc

text_short : (token : Token) (text : List ℕ) → IsShortKind token.kind → literal_text token ≡ Some text → IsShort text
unfolding literal_text
text_short token text short is = kind_text_short token.kind text short is

abbrev StartInLimits : Start → Type 0
StartInLimits (Leaf tree) = WrittenInLimits tree
StartInLimits start = Unit {0}

word_in_limits : (at : ℕ) (word : Word) → StartInLimits (word_start at word)
word_in_limits at words.Result = tt
word_in_limits at word = tt

sign_in_limits : (inside : Bool) (at : ℕ) (sign : Sign) → StartInLimits (sign_start inside at sign)
sign_in_limits true at signs.Hash = tt
sign_in_limits false at signs.Hash = tt
sign_in_limits inside at sign = tt

kind_in_limits : (inside : Bool) (at : ℕ) (kind : TokenKind) → IsShortKind kind → StartInLimits (kind_start inside at kind)
kind_in_limits inside at (kinds.Word word) short = word_in_limits at word
kind_in_limits inside at (kinds.Name name) short = tt
kind_in_limits inside at (kinds.Whole value) short = tt
kind_in_limits inside at (kinds.Decimal millionths) short = tt
kind_in_limits inside at (kinds.Text text) short = short
kind_in_limits inside at (kinds.Sign sign) short = sign_in_limits inside at sign

leaf_in_limits : (inside : Bool) (token : Token) (tree : Expression) → IsShortKind token.kind → begun_by inside token ≡ Leaf tree → WrittenInLimits tree
unfolding begun_by
leaf_in_limits inside token tree short is = subst StartInLimits is (kind_in_limits inside token.span.start token.kind short)

-- ---- lists and calls

one_more : (so_far : List Expression) (tree : Expression) → AllWrittenInLimits (expressions so_far) → WrittenInLimits tree → AllWrittenInLimits (expressions (so_far ++ tree ∷ []))
one_more [] tree all one = (one, tt)
one_more (first ∷ so_far) tree all one = (all.0, one_more so_far tree all.1 one)

as_many : (trees : List Expression) → expression_count (expressions trees) ≡ length trees
as_many [] = refl
as_many (first ∷ others) = ap suc (as_many others)

may_chosen : (items : ℕ) (test : Bool) → nat_lt items most_literal_items ≡ test → (test || false) ≡ true → items < most_literal_items
may_chosen items true is may = ltb-true items most_literal_items is
may_chosen items false is may = absurd cc

called_in_limits : (at : ℕ) (function : Call) (arguments : List Expression) → AllWrittenInLimits (expressions arguments) → WrittenInLimits (called at function arguments)
called_in_limits at Len (list ∷ []) all = all.0
called_in_limits at IsNil (operand ∷ []) all = all.0
called_in_limits at Default (operand ∷ otherwise ∷ []) all = (all.0, all.1.0)
called_in_limits at (Over predicate) (list ∷ body ∷ []) all = (all.0, all.1.0)
called_in_limits at function arguments all = tt

-- ---- phrases

abbrev Within : Expression → List Token → Type 0
Within tree rest = WrittenInLimits tree × AreShort rest

abbrev AllWithin : List Expression → List Token → Type 0
AllWithin trees rest = AllWrittenInLimits (expressions trees) × AreShort rest

mutual
  phrase_within : {d : ℕ} {inside : Bool} {left : ℕ} {tokens rest : List Token} {tree : Expression} → Phrase strict d inside left tokens tree rest → AreShort tokens → Within tree rest
  phrase_within (grammar.level phrase further) short = let first = phrase_within phrase short in further_within further first.0 first.1
  phrase_within (grammar.prefixed is may phrase) short = phrase_within phrase short.1
  phrase_within (grammar.postfixed primary selections) short = let first = primary_within primary short in selections_within selections first.0 first.1

  further_within : {d : ℕ} {inside : Bool} {left : ℕ} {tokens rest : List Token} {first tree : Expression} → Further strict d inside left first tokens tree rest → WrittenInLimits first → AreShort tokens → Within tree rest
  further_within grammar.nothing h short = (h, short)
  further_within (grammar.operator is loose phrase further) h short = let second = phrase_within phrase short.1 in further_within further (h, second.0) second.1
  further_within (grammar.not_in is is_in loose phrase further) h short = let second = phrase_within phrase short.1.1 in further_within further (h, second.0) second.1
  further_within (grammar.choice is may last then_branch colon else_branch) h short = let first = phrase_within then_branch short.1 in let other = phrase_within else_branch first.1.1 in ((h, first.0, other.0), other.1)

  selections_within : {inside : Bool} {left : ℕ} {tokens rest : List Token} {owner tree : Expression} → Selections strict inside left owner tokens tree rest → WrittenInLimits owner → AreShort tokens → Within tree rest
  selections_within grammar.nothing_more h short = (h, short)
  selections_within (grammar.field {name = token} {word = name} point is selections) h short = selections_within selections (h, name_short token name short.1.0 is) short.1.1
  selections_within (grammar.text_field {text = token} {word = name} opener may is close selections) h short = selections_within selections (h, text_short token name short.1.0 is) short.1.1.1
  selections_within (grammar.index opener may alone phrase close selections) h short = let found = phrase_within phrase short.1 in selections_within selections (h, found.0) found.1.1

  primary_within : {inside : Bool} {left : ℕ} {tokens rest : List Token} {tree : Expression} → Primary strict inside left tokens tree rest → AreShort tokens → Within tree rest
  primary_within (grammar.leaf {inside = inside} {token = token} {tree = tree} is) short = (leaf_in_limits inside token tree short.0 is, short.1)
  primary_within (grammar.item_field {name = token} {word = name} point is) short = ((tt, name_short token name short.1.0 is), short.1.1)
  primary_within (grammar.group opener may phrase close) short = let inner = phrase_within phrase short.1 in (inner.0, inner.1.1)
  primary_within (grammar.list {items = trees} opener may items) short = let all = items_within items tt (omega arith) short.1 in ((all.0.0, rw (as_many trees) all.0.1), all.1)
  primary_within (grammar.call {name = token} {function = function} {arguments = trees} is may opener arguments) short =
      let all = arguments_within arguments tt short.1.1 in
      (called_in_limits token.span.start function trees all.0, all.1)

  items_within : {inside : Bool} {left : ℕ} {so_far trees : List Expression} {tokens rest : List Token} → ListItems strict inside left so_far tokens trees rest → AllWrittenInLimits (expressions so_far) → length so_far < most_literal_items → AreShort tokens
      → (AllWrittenInLimits (expressions trees) × (length trees ≤ most_literal_items)) × AreShort rest
  items_within (grammar.item {so_far = so_far} {first = tree} phrase later) all few short =
      let first = phrase_within phrase short in
      items_after_within later (one_more so_far tree all first.0) (omega (arith, few, length-append so_far (tree ∷ []))) first.1

  items_after_within : {inside : Bool} {left : ℕ} {so_far trees : List Expression} {tokens rest : List Token} → ItemsAfter strict inside left so_far tokens trees rest → AllWrittenInLimits (expressions so_far) → length so_far ≤ most_literal_items → AreShort tokens
      → (AllWrittenInLimits (expressions trees) × (length trees ≤ most_literal_items)) × AreShort rest
  items_after_within (grammar.last_item close) all few short = ((all, few), short.1)
  items_after_within (grammar.comma_item {so_far = so_far} comma may items) all few short = items_within items all (may_chosen (length so_far) (nat_lt (length so_far) most_literal_items) refl may) short.1

  arguments_within : {inside : Bool} {left : ℕ} {function : Call} {so_far trees : List Expression} {tokens rest : List Token} → Arguments strict inside left function so_far tokens trees rest → AllWrittenInLimits (expressions so_far) → AreShort tokens → AllWithin trees rest
  arguments_within (grammar.no_argument close takes) all short = (tt, short.1)
  arguments_within (grammar.argument {so_far = so_far} {first = tree} plain phrase later) all short = let first = phrase_within phrase short in arguments_after_within later (one_more so_far tree all first.0) first.1
  arguments_within (grammar.body {so_far = so_far} {first = tree} body phrase later) all short = let first = phrase_within phrase short in arguments_after_within later (one_more so_far tree all first.0) first.1
  arguments_within (grammar.braced {so_far = so_far} {first = tree} body opener may phrase close later) all short = let first = phrase_within phrase short.1 in arguments_after_within later (one_more so_far tree all first.0) first.1.1

  arguments_after_within : {inside : Bool} {left : ℕ} {function : Call} {so_far trees : List Expression} {tokens rest : List Token} → ArgumentsAfter strict inside left function so_far tokens trees rest → AllWrittenInLimits (expressions so_far) → AreShort tokens → AllWithin trees rest
  arguments_after_within (grammar.last_argument close takes) all short = (all, short.1)
  arguments_after_within (grammar.comma_argument comma takes arguments) all short = arguments_within arguments all short.1

-- ---- conditions

-- what a text says is within limits
says_in_limits : (text : List ℕ) (tree : Expression) → SaysTree text tree → WrittenInLimits tree
says_in_limits text tree says = (phrase_within says.derived (tokens_short text (condition_short text says.tokens says.cut) says.tokens (AreCut-from_tokens_of text says.tokens says.cut).spelled)).0

-- the tree of a text is within limits
pub parsed_in_limits : (text : List ℕ) (tree : Expression) → parse_of text ≡ Ok tree → WrittenInLimits tree
parsed_in_limits text tree is = says_in_limits text tree (SaysTree-from_parse_of text tree is)

-- what `parse` returns by its exact clause
pub in_limits : (text : List ℕ) (answer : Result Tree SyntaxError) → Gives is_syntax_memory expression_of answer (parse_of text) → IfOk answer (λ tree. WrittenInLimits (expression_of tree))
in_limits text (Ok tree) gives = says_in_limits text (expression_of tree) (SaysTree-from_parse_of text (expression_of tree) gives)
in_limits text (Err error) gives = tt
