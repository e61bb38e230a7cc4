-- Each state that is reached has tokens that end a condition: a number, and then what closes the brackets.
use Rattle.std.proofs.Common.{◌≡◌, ℕ, suc, Bool, true, false, List, [], ◌∷◌, ◌++◌, length, refl, arith, Option, Some, None}
use Rattle.std.specs.Prelude.{pred}
use Rattle.ar_tree.specs.Expression.{Expression, LiteralAt, UnaryAt, BinaryAt, ChoiceAt}
use Rattle.ar_syntax.specs.Grammar.{Rules, may_continue, may_open, takes_all, takes_more}
use Rattle.ar_syntax.specs.Machine.{Frame, ParserState, RightOf, Prefixed, Then, Else, Grouped, Listed, Indexed, Argued, Body, Braced, Want, Have, WantName, WantIndex, HaveText, WantIn, WantGroup, WantArgument, HaveArgument, in_predicate, openers_left}
use Rattle.ar_syntax.specs.Roles.{Call, Ender, Follow, Start, Ends, Comma, Colon, EndGroup, EndBracket, EndBrace, Operator, NotOf, Choose, Select, Open, NoFollow, follows, is_body, is_brace, is_group, is_in, precedence, field_name_of, begun_by, literal_text}
use Rattle.ar_syntax.specs.declared.token.Token.{Token}
use Rattle.ar_tree.specs.declared.tree.Binary.{Binary}
use Rattle.ar_tree.specs.declared.tree.Literal.TheVariants.{Text}
use Rattle.std.specs.Prelude.{nat_le}
use Rattle.ar_syntax.specs.Machine.{argue, begun_with, choose, climbed, close_braced, close_empty, close_text, end_with, followed_by, negate, open_index, operate, select, parser_step, unwound, when}
use Rattle.ar_syntax.specs.Roles.{Len, IsNil, Default, Over, Leaf, Prefix, Group, Bracket, Calls, ItemPoint, NoStart}
use Rattle.ar_syntax.specs.Machine.{whole}
use Rattle.std.specs.Prelude.{nat_eq, nat_lt, nat_le, ◌||◌, ◌⊎◌}
use Rattle.std.proofs.Common.{inl, inr, length-append}
use Rattle.std.proofs.lemmas.Bool.{eqb-true}
use Rattle.std.proofs.lemmas.Bool.Decides.{nat_tests}
use Rattle.ar_syntax.specs.Roles.{arity}
use Rattle.ar_syntax.proofs.Passes.{either}
use Rattle.ar_syntax.proofs.Starts.{start_by}

-- one argument more than fits below the count leaves some that fit, or is the last
next_fits-chosen : (n a : ℕ) (any same : Bool) → nat_eq (suc n) a ≡ same → (nat_lt n a || any) ≡ true → ((nat_eq (suc n) a || any) ≡ true) ⊎ ((nat_lt (suc n) a || any) ≡ true)
next_fits-chosen n a any true e more = inl (rw e refl)
next_fits-chosen n a true false e more = inl (rw e refl)
next_fits-chosen n a false false e more = inr (fits n a e more)
  where
    fits : (n a : ℕ) → nat_eq (suc n) a ≡ false → (nat_lt n a || false) ≡ true → (nat_lt (suc n) a || false) ≡ true
    fits n a e more = grind (arith, nat_tests)

module _ (rules : Rules) where
  -- what a call has can be ended
  abbrev pub IsCounted : List Frame → Type 0
  IsCounted [] = Unit {0}
  IsCounted (Argued at function so_far ∷ stack) = (takes_more rules function (length so_far) ≡ true) × IsCounted stack
  IsCounted (Body at function so_far ∷ stack) = (takes_more rules function (length so_far) ≡ true) × IsCounted stack
  IsCounted (Braced at function so_far ∷ stack) = (takes_more rules function (length so_far) ≡ true) × (is_body function (length so_far) ≡ true) × IsCounted stack
  IsCounted (frame ∷ stack) = IsCounted stack

  abbrev pub Fits : Call → List Expression → Type 0
  Fits function arguments = (takes_all rules function (length arguments) ≡ true) ⊎ (takes_more rules function (length arguments) ≡ true)

  abbrev pub IsCountedState : ParserState → Type 0
  IsCountedState (Want stack) = IsCounted stack
  IsCountedState (Have stack tree) = IsCounted stack
  IsCountedState (WantName stack at whole) = IsCounted stack
  IsCountedState (WantIndex stack at whole) = IsCounted stack
  IsCountedState (HaveText stack at whole text_at text) = IsCounted stack
  IsCountedState (WantIn stack at first) = IsCounted stack
  IsCountedState (WantGroup stack at function) = IsCounted stack
  IsCountedState (WantArgument stack at function so_far) = (takes_more rules function (length so_far) ≡ true) × IsCounted stack
  IsCountedState (HaveArgument stack at function arguments) = (takes_all rules function (length arguments) ≡ true) × IsCounted stack

  abbrev pub IsCountedFrom : Option ParserState → Type 0
  IsCountedFrom (Some state) = IsCountedState state
  IsCountedFrom None = Unit {0}

  length-push : (so_far : List Expression) (tree : Expression) → length (so_far ++ tree ∷ []) ≡ suc (length so_far)
  length-push so_far tree = omega (arith, length-append so_far (tree ∷ []))

  pub next_fits : (function : Call) (so_far : List Expression) (tree : Expression) → takes_more rules function (length so_far) ≡ true → Fits function (so_far ++ tree ∷ [])
  next_fits function so_far tree more = rw (length-push so_far tree) (next_fits-chosen (length so_far) (arity function) rules.any_count (nat_eq (suc (length so_far)) (arity function)) refl more)

  body_last : (function : Call) (so_far : List Expression) (tree : Expression) → is_body function (length so_far) ≡ true → takes_all rules function (length (so_far ++ tree ∷ [])) ≡ true
  body_last (Over predicate) so_far tree is = let one : length so_far ≡ 1 = eqb-true (length so_far) 1 is in rw (length-push so_far tree, one) refl
  body_last Len so_far tree is = absurd cc
  body_last IsNil so_far tree is = absurd cc
  body_last Default so_far tree is = absurd cc

  pub takes_one : (function : Call) → takes_more rules function 0 ≡ true
  takes_one Len = refl
  takes_one IsNil = refl
  takes_one Default = refl
  takes_one (Over predicate) = refl

  -- ---- the machine counts its stack in order

  counts-when : (test : Bool) (state : ParserState) → IsCountedState state → IsCountedFrom (when rules test state)
  counts-when true state is = is
  counts-when false state is = tt

  counts-more : (test : Bool) (state : ParserState) → (test ≡ true → IsCountedState state) → IsCountedFrom (when rules test state)
  counts-more true state is = is refl
  counts-more false state is = tt

  counts-begin : (stack : List Frame) (at : ℕ) (s : Start) → IsCounted stack → IsCountedFrom (begun_with rules stack at s)
  counts-begin stack at (Leaf tree) is = is
  counts-begin stack at (Prefix operator) is = counts-when (may_open rules (openers_left stack)) _ is
  counts-begin stack at Group is = counts-when (may_open rules (openers_left stack)) _ is
  counts-begin stack at Bracket is = counts-when (may_open rules (openers_left stack)) _ is
  counts-begin stack at (Calls function) is = counts-when (may_open rules (openers_left stack)) _ is
  counts-begin stack at ItemPoint is = is
  counts-begin stack at NoStart is = tt

  counts-climbed : (l : ℕ) (stack : List Frame) (tree : Expression) → IsCounted stack → IsCountedState (climbed l stack tree)
  counts-climbed l (RightOf at operator first ∷ stack) tree is =
      either IsCountedState (nat_le (precedence operator) l) (climbed l stack (BinaryAt at operator first tree)) (Have (RightOf at operator first ∷ stack) tree) (λ is_tight. counts-climbed l stack (BinaryAt at operator first tree) is) (λ is_loose. is)
  counts-climbed l (Prefixed at operator ∷ stack) tree is = counts-climbed l stack (UnaryAt at operator tree) is
  counts-climbed l [] tree is = is
  counts-climbed l (Then at condition ∷ stack) tree is = is
  counts-climbed l (Else at condition then_branch ∷ stack) tree is = is
  counts-climbed l (Grouped ∷ stack) tree is = is
  counts-climbed l (Listed at so_far ∷ stack) tree is = is
  counts-climbed l (Indexed at whole ∷ stack) tree is = is
  counts-climbed l (Argued at function so_far ∷ stack) tree is = is
  counts-climbed l (Body at function so_far ∷ stack) tree is = is
  counts-climbed l (Braced at function so_far ∷ stack) tree is = is

  counts-operate : (at : ℕ) (operator : Binary) (state : ParserState) → IsCountedState state → IsCountedFrom (operate rules at operator state)
  counts-operate at operator (Have stack tree) is = is
  counts-operate at operator state is = tt

  counts-negate : (at : ℕ) (state : ParserState) → IsCountedState state → IsCountedFrom (negate rules at state)
  counts-negate at (Have stack tree) is = is
  counts-negate at state is = tt

  counts-choose : (at : ℕ) (state : ParserState) → IsCountedState state → IsCountedFrom (choose rules at state)
  counts-choose at (Have stack tree) is = counts-when (may_open rules (openers_left stack)) _ is
  counts-choose at state is = tt

  counts-end : (stack : List Frame) (tree : Expression) (ender : Ender) → IsCounted stack → IsCountedFrom (end_with rules ender (unwound stack tree))
  counts-end [] tree Comma is = tt
  counts-end [] tree Colon is = tt
  counts-end [] tree EndGroup is = tt
  counts-end [] tree EndBracket is = tt
  counts-end [] tree EndBrace is = tt
  counts-end (RightOf at operator first ∷ stack) tree ender is = counts-end stack (BinaryAt at operator first tree) ender is
  counts-end (Prefixed at operator ∷ stack) tree ender is = counts-end stack (UnaryAt at operator tree) ender is
  counts-end (Then at condition ∷ stack) tree Colon is = is
  counts-end (Then at condition ∷ stack) tree ender is = tt
  counts-end (Else at condition then_branch ∷ stack) tree ender is = counts-end stack (ChoiceAt at condition then_branch tree) ender is
  counts-end (Grouped ∷ stack) tree EndGroup is = is
  counts-end (Grouped ∷ stack) tree ender is = tt
  counts-end (Listed at so_far ∷ stack) tree EndBracket is = is
  counts-end (Listed at so_far ∷ stack) tree Comma is = counts-when (may_continue rules (length (so_far ++ tree ∷ []))) _ is
  counts-end (Listed at so_far ∷ stack) tree ender is = tt
  counts-end (Indexed at whole ∷ stack) tree EndBracket is = is
  counts-end (Indexed at whole ∷ stack) tree ender is = tt
  counts-end (Argued at function so_far ∷ stack) tree EndGroup is = counts-when (takes_all rules function (length (so_far ++ tree ∷ []))) _ is.1
  counts-end (Argued at function so_far ∷ stack) tree Comma is = counts-more (takes_more rules function (length (so_far ++ tree ∷ []))) _ (λ more. (more, is.1))
  counts-end (Argued at function so_far ∷ stack) tree ender is = tt
  counts-end (Body at function so_far ∷ stack) tree EndGroup is = counts-when (takes_all rules function (length (so_far ++ tree ∷ []))) _ is.1
  counts-end (Body at function so_far ∷ stack) tree Comma is = counts-more (takes_more rules function (length (so_far ++ tree ∷ []))) _ (λ more. (more, is.1))
  counts-end (Body at function so_far ∷ stack) tree ender is = tt
  counts-end (Braced at function so_far ∷ stack) tree EndBrace is = (body_last function so_far tree is.1, is.2)
  counts-end (Braced at function so_far ∷ stack) tree ender is = tt

  counts-follow : (stack : List Frame) (tree : Expression) (at : ℕ) (r : Follow) → IsCounted stack → IsCountedFrom (followed_by rules stack tree at r)
  counts-follow stack tree at (Operator operator) is = counts-operate at operator (climbed (precedence operator) stack tree) (counts-climbed (precedence operator) stack tree is)
  counts-follow stack tree at NotOf is = counts-negate at (climbed 2 stack tree) (counts-climbed 2 stack tree is)
  counts-follow stack tree at Choose is = counts-choose at (climbed 5 stack tree) (counts-climbed 5 stack tree is)
  counts-follow stack tree at Select is = is
  counts-follow stack tree at Open is = counts-when (may_open rules (openers_left stack)) _ is
  counts-follow stack tree at (Ends ender) is = counts-end stack tree ender is
  counts-follow stack tree at NoFollow is = tt

  counts-select : (stack : List Frame) (at : ℕ) (whole : Expression) (word : Option (List ℕ)) → IsCounted stack → IsCountedFrom (select rules stack at whole word)
  counts-select stack at whole (Some word) is = is
  counts-select stack at whole None is = tt

  counts-open : (stack : List Frame) (at : ℕ) (whole : Expression) (c : Token) (text : Option (List ℕ)) → IsCounted stack → IsCountedFrom (open_index rules stack at whole c text)
  counts-open stack at whole c (Some text) is = is
  counts-open stack at whole c None is = counts-begin (Indexed at whole ∷ stack) c.span.start (begun_by (in_predicate stack) c) is

  counts-close_text : (stack : List Frame) (at : ℕ) (whole : Expression) (text_at : ℕ) (text : List ℕ) (c : Token) (r : Follow) → IsCounted stack → IsCountedFrom (close_text rules stack at whole text_at text c r)
  counts-close_text stack at whole text_at text c (Ends EndBracket) is = is
  counts-close_text stack at whole text_at text c r is = counts-follow (Indexed at whole ∷ stack) (LiteralAt text_at (Text text)) c.span.start (follows c) is

  counts-argue : (stack : List Frame) (at : ℕ) (function : Call) (so_far : List Expression) (c : Token) (body brace : Bool) → is_body function (length so_far) ≡ body → (takes_more rules function (length so_far) ≡ true) × IsCounted stack → IsCountedFrom (argue rules stack at function so_far c (start_by body brace))
  counts-argue stack at function so_far c false brace b is = counts-begin (Argued at function so_far ∷ stack) c.span.start (begun_by (in_predicate stack) c) is
  counts-argue stack at function so_far c true false b is = counts-begin (Body at function so_far ∷ stack) c.span.start (begun_by true c) is
  counts-argue stack at function so_far c true true b is = counts-when (may_open rules (pred (openers_left stack))) _ (is.0, b, is.1)

  counts-close_empty : (stack : List Frame) (at : ℕ) (function : Call) (c : Token) (so_far : List Expression) (r : Follow) → (takes_more rules function (length so_far) ≡ true) × IsCounted stack → IsCountedFrom (close_empty rules stack at function c so_far r)
  counts-close_empty stack at function c [] (Ends EndGroup) is = counts-when (takes_all rules function 0) _ is.1
  counts-close_empty stack at function c so_far r is = counts-argue stack at function so_far c (is_body function (length so_far)) (is_brace c) refl is

  counts-close_braced : (stack : List Frame) (at : ℕ) (function : Call) (arguments : List Expression) (r : Follow) → IsCounted stack → IsCountedFrom (close_braced rules stack at function arguments r)
  counts-close_braced stack at function arguments (Ends EndGroup) is = counts-when (takes_all rules function (length arguments)) _ is
  counts-close_braced stack at function arguments (Ends Comma) is = counts-more (takes_more rules function (length arguments)) _ (λ more. (more, is))
  counts-close_braced stack at function arguments r is = tt

  pub counts : (state : ParserState) (c : Token) → IsCountedState state → IsCountedFrom (parser_step rules state c)
  unfolding parser_step
  counts (Want stack) c is = counts-begin stack c.span.start (begun_by (in_predicate stack) c) is
  counts (Have stack tree) c is = counts-follow stack tree c.span.start (follows c) is
  counts (WantName stack at whole) c is = counts-select stack at whole (field_name_of c) is
  counts (WantIndex stack at whole) c is = counts-open stack at whole c (literal_text c) is
  counts (HaveText stack at whole text_at text) c is = counts-close_text stack at whole text_at text c (follows c) is
  counts (WantIn stack at first) c is = counts-when (is_in c) _ is
  counts (WantGroup stack at function) c is = counts-when (is_group c) _ (takes_one function, is)
  counts (WantArgument stack at function so_far) c is = counts-close_empty stack at function c so_far (follows c) is
  counts (HaveArgument stack at function arguments) c is = counts-close_braced stack at function arguments (follows c) is.1
