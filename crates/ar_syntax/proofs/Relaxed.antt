-- What the limits allow, they allow where one is set aside, and to the same state.
use Rattle.std.proofs.Common.{◌≡◌, ℕ, Bool, true, false, List, [], ◌∷◌, ◌++◌, length, refl, ◌∙◌, ap, Option, Some, None}
use Rattle.std.specs.Prelude.{pred}
use Rattle.ar_tree.specs.Expression.{Expression, LiteralAt}
use Rattle.ar_syntax.specs.Grammar.{Rules, may_continue, may_open, takes_all, takes_more}
use Rattle.ar_syntax.specs.Machine.{Frame, ParserState, Then, Grouped, Listed, Indexed, Argued, Body, Braced, Want, Have, WantName, WantIndex, HaveText, WantIn, WantGroup, WantArgument, HaveArgument, in_predicate, openers_left}
use Rattle.ar_syntax.specs.Roles.{Call, Ender, Follow, Start, Ends, Comma, Colon, EndGroup, EndBracket, EndBrace, Operator, NotOf, Choose, Select, Open, NoFollow, follows, is_body, is_brace, is_group, is_in, precedence, field_name_of, begun_by, literal_text}
use Rattle.ar_syntax.specs.declared.token.Token.{Token}
use Rattle.ar_tree.specs.declared.tree.Binary.{Binary}
use Rattle.ar_tree.specs.declared.tree.Literal.TheVariants.{Text}
use Rattle.ar_syntax.specs.Machine.{argue, begun_with, choose, climbed, close_braced, close_empty, close_text, end_with, followed_by, negate, open_index, operate, select, parser_step, unwound, when}
use Rattle.ar_syntax.specs.Roles.{Leaf, Prefix, Group, Bracket, Calls, ItemPoint, NoStart}
use Rattle.ar_syntax.specs.Machine.{run, start_state, whole}
use Rattle.std.specs.Prelude.{nat_eq, nat_lt, ◌||◌}
use Rattle.ar_syntax.specs.Machine.{reached}
use Rattle.ar_syntax.specs.Roles.{arity}
use Rattle.ar_syntax.specs.Condition.{strict}
use Rattle.ar_syntax.proofs.Starts.{start_by}

abbrev pub Includes : Option ParserState → Option ParserState → Type 0
Includes (Some state) relaxed = relaxed ≡ Some state
Includes None relaxed = Unit {0}

or-more : (test any : Bool) → (test || false) ≡ true → (test || any) ≡ true
or-more true any is = refl
or-more false any is = absurd cc

module _ (rules : Rules) where
  includes-when : (test relaxed : Bool) (state : ParserState) → (test ≡ true → relaxed ≡ true) → Includes (when strict test state) (when rules relaxed state)
  includes-when false relaxed state more = tt
  includes-when true relaxed state more = rw (more refl) refl

  includes-open : (stack : List Frame) (n : ℕ) (state : ParserState) → Includes (when strict (may_open strict n) state) (when rules (may_open rules n) state)
  includes-open stack n state = includes-when (may_open strict n) (may_open rules n) state (or-more (nat_lt 0 n) rules.any_depth)

  includes-all : (function : Call) (n : ℕ) (state : ParserState) → Includes (when strict (takes_all strict function n) state) (when rules (takes_all rules function n) state)
  includes-all function n state = includes-when (takes_all strict function n) (takes_all rules function n) state (or-more (nat_eq n (arity function)) rules.any_count)

  includes-more : (function : Call) (n : ℕ) (state : ParserState) → Includes (when strict (takes_more strict function n) state) (when rules (takes_more rules function n) state)
  includes-more function n state = includes-when (takes_more strict function n) (takes_more rules function n) state (or-more (nat_lt n (arity function)) rules.any_count)

  includes-begin : (stack : List Frame) (at : ℕ) (s : Start) → Includes (begun_with strict stack at s) (begun_with rules stack at s)
  includes-begin stack at (Leaf tree) = refl
  includes-begin stack at (Prefix operator) = includes-open stack (openers_left stack) _
  includes-begin stack at Group = includes-open stack (openers_left stack) _
  includes-begin stack at Bracket = includes-open stack (openers_left stack) _
  includes-begin stack at (Calls function) = includes-open stack (openers_left stack) _
  includes-begin stack at ItemPoint = refl
  includes-begin stack at NoStart = tt

  includes-end : (ender : Ender) (state : ParserState) → Includes (end_with strict ender state) (end_with rules ender state)
  includes-end Colon (Have (Then at condition ∷ stack) tree) = refl
  includes-end EndGroup (Have (Grouped ∷ stack) tree) = refl
  includes-end EndBracket (Have (Indexed at whole ∷ stack) tree) = refl
  includes-end EndBracket (Have (Listed at so_far ∷ stack) tree) = refl
  includes-end Comma (Have (Listed at so_far ∷ stack) tree) = includes-when (may_continue strict (length (so_far ++ tree ∷ []))) (may_continue rules (length (so_far ++ tree ∷ []))) _ (or-more (nat_lt (length (so_far ++ tree ∷ [])) 16) rules.any_items)
  includes-end EndGroup (Have (Argued at function so_far ∷ stack) tree) = includes-all function (length (so_far ++ tree ∷ [])) _
  includes-end Comma (Have (Argued at function so_far ∷ stack) tree) = includes-more function (length (so_far ++ tree ∷ [])) _
  includes-end EndGroup (Have (Body at function so_far ∷ stack) tree) = includes-all function (length (so_far ++ tree ∷ [])) _
  includes-end Comma (Have (Body at function so_far ∷ stack) tree) = includes-more function (length (so_far ++ tree ∷ [])) _
  includes-end EndBrace (Have (Braced at function so_far ∷ stack) tree) = refl
  includes-end ender state = tt

  includes-operate : (at : ℕ) (operator : Binary) (state : ParserState) → Includes (operate strict at operator state) (operate rules at operator state)
  includes-operate at operator (Have stack tree) = refl
  includes-operate at operator state = tt

  includes-negate : (at : ℕ) (state : ParserState) → Includes (negate strict at state) (negate rules at state)
  includes-negate at (Have stack tree) = refl
  includes-negate at state = tt

  includes-choose : (at : ℕ) (state : ParserState) → Includes (choose strict at state) (choose rules at state)
  includes-choose at (Have stack tree) = includes-open stack (openers_left stack) _
  includes-choose at state = tt

  includes-follow : (stack : List Frame) (tree : Expression) (at : ℕ) (r : Follow) → Includes (followed_by strict stack tree at r) (followed_by rules stack tree at r)
  includes-follow stack tree at (Operator operator) = includes-operate at operator (climbed (precedence operator) stack tree)
  includes-follow stack tree at NotOf = includes-negate at (climbed 2 stack tree)
  includes-follow stack tree at Choose = includes-choose at (climbed 5 stack tree)
  includes-follow stack tree at Select = refl
  includes-follow stack tree at Open = includes-open stack (openers_left stack) _
  includes-follow stack tree at (Ends ender) = includes-end ender (unwound stack tree)
  includes-follow stack tree at NoFollow = tt

  includes-select : (stack : List Frame) (at : ℕ) (whole : Expression) (word : Option (List ℕ)) → Includes (select strict stack at whole word) (select rules stack at whole word)
  includes-select stack at whole (Some word) = refl
  includes-select stack at whole None = tt

  includes-index : (stack : List Frame) (at : ℕ) (whole : Expression) (c : Token) (text : Option (List ℕ)) → Includes (open_index strict stack at whole c text) (open_index rules stack at whole c text)
  includes-index stack at whole c (Some text) = refl
  includes-index stack at whole c None = includes-begin (Indexed at whole ∷ stack) c.span.start (begun_by (in_predicate stack) c)

  includes-text : (stack : List Frame) (at : ℕ) (whole : Expression) (text_at : ℕ) (text : List ℕ) (c : Token) (r : Follow) → Includes (close_text strict stack at whole text_at text c r) (close_text rules stack at whole text_at text c r)
  includes-text stack at whole text_at text c (Ends EndBracket) = refl
  includes-text stack at whole text_at text c r = includes-follow (Indexed at whole ∷ stack) (LiteralAt text_at (Text text)) c.span.start (follows c)

  includes-argue : (stack : List Frame) (at : ℕ) (function : Call) (so_far : List Expression) (c : Token) (body brace : Bool) → Includes (argue strict stack at function so_far c (start_by body brace)) (argue rules stack at function so_far c (start_by body brace))
  includes-argue stack at function so_far c false brace = includes-begin (Argued at function so_far ∷ stack) c.span.start (begun_by (in_predicate stack) c)
  includes-argue stack at function so_far c true false = includes-begin (Body at function so_far ∷ stack) c.span.start (begun_by true c)
  includes-argue stack at function so_far c true true = includes-open stack (pred (openers_left stack)) _

  includes-empty : (stack : List Frame) (at : ℕ) (function : Call) (c : Token) (so_far : List Expression) (r : Follow) → Includes (close_empty strict stack at function c so_far r) (close_empty rules stack at function c so_far r)
  includes-empty stack at function c [] (Ends EndGroup) = includes-all function 0 _
  includes-empty stack at function c so_far r = includes-argue stack at function so_far c (is_body function (length so_far)) (is_brace c)

  includes-braced : (stack : List Frame) (at : ℕ) (function : Call) (arguments : List Expression) (r : Follow) → Includes (close_braced strict stack at function arguments r) (close_braced rules stack at function arguments r)
  includes-braced stack at function arguments (Ends EndGroup) = includes-all function (length arguments) _
  includes-braced stack at function arguments (Ends Comma) = includes-more function (length arguments) _
  includes-braced stack at function arguments r = tt

  includes-step : (state : ParserState) (c : Token) → Includes (parser_step strict state c) (parser_step rules state c)
  unfolding parser_step
  includes-step (Want stack) c = includes-begin stack c.span.start (begun_by (in_predicate stack) c)
  includes-step (Have stack tree) c = includes-follow stack tree c.span.start (follows c)
  includes-step (WantName stack at whole) c = includes-select stack at whole (field_name_of c)
  includes-step (WantIndex stack at whole) c = includes-index stack at whole c (literal_text c)
  includes-step (HaveText stack at whole text_at text) c = includes-text stack at whole text_at text c (follows c)
  includes-step (WantIn stack at first) c = includes-when (is_in c) (is_in c) _ (λ is. is)
  includes-step (WantGroup stack at function) c = includes-when (is_group c) (is_group c) _ (λ is. is)
  includes-step (WantArgument stack at function so_far) c = includes-empty stack at function c so_far (follows c)
  includes-step (HaveArgument stack at function arguments) c = includes-braced stack at function arguments (follows c)

  run-none : (r : Rules) (tokens : List Token) → run r None tokens ≡ None
  run-none r [] = refl
  run-none r (c ∷ tokens) = run-none r tokens

  includes-run : (tokens : List Token) (state there : ParserState) → run strict (Some state) tokens ≡ Some there → run rules (Some state) tokens ≡ Some there
  includes-run [] state there e = e
  includes-run (c ∷ tokens) state there e = stepped (parser_step strict state c) (includes-step state c) (λ next. includes-run tokens next there) e
    where
      stepped : (next : Option ParserState) → Includes next (parser_step rules state c) → ((next : ParserState) → run strict (Some next) tokens ≡ Some there → run rules (Some next) tokens ≡ Some there) → run strict next tokens ≡ Some there → run rules (parser_step rules state c) tokens ≡ Some there
      stepped (Some next) included go e = ap (λ (s : Option ParserState). run rules s tokens) included ∙ go next e
      stepped None included go e = absurd (cc (run-none strict tokens))

  pub reached-relaxed : (tokens : List Token) (state : ParserState) → reached strict tokens ≡ Some state → reached rules tokens ≡ Some state
  reached-relaxed tokens state e = includes-run tokens start_state state e
