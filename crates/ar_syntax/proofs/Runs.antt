-- Deriving equals running: the machine reads the tokens of just those trees that the grammar derives.
use Rattle.std.proofs.Common.{◌≡◌, ◌≢◌, ℕ, ◌<◌, Bool, true, false, List, [], ◌∷◌, ◌++◌, length, refl, sym, subst, arith, Option, Some, None}
use Rattle.std.specs.Prelude.{pred}
use Rattle.ar_tree.specs.Expression.{Expression, LiteralAt, UnaryAt, BinaryAt, ChoiceAt}
use Rattle.ar_syntax.specs.Grammar.{Arguments, ArgumentsAfter, Further, ListItems, ItemsAfter, Phrase, Primary, Rules, Selections, may_continue, may_open, most_openers, takes_all, takes_more, ternary}
use Rattle.ar_syntax.specs.Grammar as grammar
use Rattle.ar_syntax.specs.Machine.{Frame, ParserState, RightOf, Prefixed, Then, Else, Grouped, Listed, Indexed, Argued, Body, Braced, Want, Have, WantName, WantIndex, HaveText, WantIn, WantGroup, WantArgument, HaveArgument, in_predicate, openers_left, wanted}
use Rattle.ar_syntax.specs.Roles.{Call, Ender, Follow, Start, Ends, Comma, Colon, EndGroup, EndBracket, EndBrace, Operator, NotOf, Choose, Select, Open, NoFollow, called, follows, is_body, is_brace, is_group, is_in, precedence, field_name_of, begun_by, literal_text}
use Rattle.ar_syntax.specs.declared.token.Token.{Token}
use Rattle.ar_syntax.specs.declared.token.Sign.{Sign}
use Rattle.ar_syntax.specs.declared.token.Sign.TheVariants as signs
use Rattle.ar_syntax.specs.declared.token.Word.{Word}
use Rattle.ar_syntax.specs.declared.token.Word.TheVariants as words
use Rattle.ar_syntax.specs.declared.token.TokenKind.{TokenKind}
use Rattle.ar_syntax.specs.declared.token.TokenKind.TheVariants as kinds
use Rattle.ar_tree.specs.declared.tree.Binary.{Binary}
use Rattle.ar_tree.specs.declared.tree.Literal.TheVariants.{Text}
use Rattle.ar_syntax.specs.Grammar.{ends_bracket, is_alone, is_text_alone}
use Rattle.ar_syntax.specs.Machine.{argue, begun_with, choose, climbed, close_braced, close_empty, close_text, end_with, followed_by, negate, open_index, operate, select, parser_step, unwound, want, when}
use Rattle.ar_syntax.specs.Roles.{kind_follow, kind_is_brace, Over, kind_start, sign_follow, sign_start, word_follow, Leaf, Prefix, Group, Bracket, Calls, ItemPoint, NoStart}
use Rattle.ar_syntax.proofs.Leads.{Had, Ended, Argument, After, Named, TextClosed, Inner, Called, Leads, LeadsFrom}
use Rattle.ar_syntax.proofs.Passes.{Climbed, IsStack, climbed-is, low, wanted-le}
use Rattle.ar_syntax.specs.Grammar.{DerivesBy}
use Rattle.ar_syntax.specs.Machine.{whole}
use Rattle.ar_syntax.proofs.Steps.{arguments-from, arguments-to, have-from, have-to, want-from, want-to, when-from, when-to}
use Rattle.ar_syntax.proofs.Starts.{start_by}

-- a state as the machine makes it
abbrev pub IsState : ParserState → Type 0
IsState (Want stack) = IsStack stack
IsState (Have stack tree) = IsStack stack
IsState (WantName stack at whole) = IsStack stack
IsState (WantIndex stack at whole) = IsStack stack
IsState (HaveText stack at whole text_at text) = IsStack stack
IsState (WantIn stack at first) = (2 < wanted stack) × IsStack stack
IsState (WantGroup stack at function) = IsStack stack
IsState (WantArgument stack at function so_far) = IsStack stack
IsState (HaveArgument stack at function arguments) = IsStack stack

abbrev pub IsStateFrom : Option ParserState → Type 0
IsStateFrom (Some state) = IsState state
IsStateFrom None = Unit {0}

module _ (rules : Rules) where
  -- ---- the machine keeps its stack in order

  keeps-when : (test : Bool) (state : ParserState) → IsState state → IsStateFrom (when rules test state)
  keeps-when true state is = is
  keeps-when false state is = tt

  keeps-begin : (stack : List Frame) (at : ℕ) (s : Start) → IsStack stack → IsStateFrom (begun_with rules stack at s)
  keeps-begin stack at (Leaf tree) is = is
  keeps-begin stack at (Prefix operator) is = keeps-when (may_open rules (openers_left stack)) _ is
  keeps-begin stack at Group is = keeps-when (may_open rules (openers_left stack)) _ is
  keeps-begin stack at Bracket is = keeps-when (may_open rules (openers_left stack)) _ is
  keeps-begin stack at (Calls function) is = keeps-when (may_open rules (openers_left stack)) _ is
  keeps-begin stack at ItemPoint is = is
  keeps-begin stack at NoStart is = tt

  keeps-operate : (l at : ℕ) (operator : Binary) (state : ParserState) → precedence operator ≡ l → Climbed l state → IsStateFrom (operate rules at operator state)
  keeps-operate l at operator (Have stack tree) same is = (omega (arith, same, is.0), is.1)
  keeps-operate l at operator state same is = absurd is

  keeps-negate : (at : ℕ) (state : ParserState) → Climbed 2 state → IsStateFrom (negate rules at state)
  keeps-negate at (Have stack tree) is = is
  keeps-negate at state is = absurd is

  keeps-choose : (at : ℕ) (state : ParserState) → Climbed 5 state → IsStateFrom (choose rules at state)
  keeps-choose at (Have stack tree) is = keeps-when (may_open rules (openers_left stack)) _ (omega (arith, is.0, wanted-le stack), is.1)
  keeps-choose at state is = absurd is

  keeps-end : (stack : List Frame) (tree : Expression) (ender : Ender) → IsStack stack → IsStateFrom (end_with rules ender (unwound stack tree))
  keeps-end [] tree Comma is = tt
  keeps-end [] tree Colon is = tt
  keeps-end [] tree EndGroup is = tt
  keeps-end [] tree EndBracket is = tt
  keeps-end [] tree EndBrace is = tt
  keeps-end (RightOf at operator first ∷ stack) tree ender is = keeps-end stack (BinaryAt at operator first tree) ender is.1
  keeps-end (Prefixed at operator ∷ stack) tree ender is = keeps-end stack (UnaryAt at operator tree) ender is
  keeps-end (Then at condition ∷ stack) tree Colon is = is
  keeps-end (Then at condition ∷ stack) tree ender is = tt
  keeps-end (Else at condition then_branch ∷ stack) tree ender is = keeps-end stack (ChoiceAt at condition then_branch tree) ender is.1
  keeps-end (Grouped ∷ stack) tree EndGroup is = is
  keeps-end (Grouped ∷ stack) tree ender is = tt
  keeps-end (Listed at so_far ∷ stack) tree EndBracket is = is
  keeps-end (Listed at so_far ∷ stack) tree Comma is = keeps-when (may_continue rules (length (so_far ++ tree ∷ []))) _ is
  keeps-end (Listed at so_far ∷ stack) tree ender is = tt
  keeps-end (Indexed at whole ∷ stack) tree EndBracket is = is
  keeps-end (Indexed at whole ∷ stack) tree ender is = tt
  keeps-end (Argued at function so_far ∷ stack) tree EndGroup is = keeps-when (takes_all rules function (length (so_far ++ tree ∷ []))) _ is
  keeps-end (Argued at function so_far ∷ stack) tree Comma is = keeps-when (takes_more rules function (length (so_far ++ tree ∷ []))) _ is
  keeps-end (Argued at function so_far ∷ stack) tree ender is = tt
  keeps-end (Body at function so_far ∷ stack) tree EndGroup is = keeps-when (takes_all rules function (length (so_far ++ tree ∷ []))) _ is
  keeps-end (Body at function so_far ∷ stack) tree Comma is = keeps-when (takes_more rules function (length (so_far ++ tree ∷ []))) _ is
  keeps-end (Body at function so_far ∷ stack) tree ender is = tt
  keeps-end (Braced at function so_far ∷ stack) tree EndBrace is = is
  keeps-end (Braced at function so_far ∷ stack) tree ender is = tt

  keeps-follow : (stack : List Frame) (tree : Expression) (at : ℕ) (r : Follow) → IsStack stack → IsStateFrom (followed_by rules stack tree at r)
  keeps-follow stack tree at (Operator operator) is = keeps-operate (precedence operator) at operator (climbed (precedence operator) stack tree) refl (climbed-is (precedence operator) (low operator) stack tree is)
  keeps-follow stack tree at NotOf is = keeps-negate at (climbed 2 stack tree) (climbed-is 2 (omega arith) stack tree is)
  keeps-follow stack tree at Choose is = keeps-choose at (climbed 5 stack tree) (climbed-is 5 (omega arith) stack tree is)
  keeps-follow stack tree at Select is = is
  keeps-follow stack tree at Open is = keeps-when (may_open rules (openers_left stack)) _ is
  keeps-follow stack tree at (Ends ender) is = keeps-end stack tree ender is
  keeps-follow stack tree at NoFollow is = tt

  keeps-select : (stack : List Frame) (at : ℕ) (whole : Expression) (word : Option (List ℕ)) → IsStack stack → IsStateFrom (select rules stack at whole word)
  keeps-select stack at whole (Some word) is = is
  keeps-select stack at whole None is = tt

  keeps-open : (stack : List Frame) (at : ℕ) (whole : Expression) (c : Token) (text : Option (List ℕ)) → IsStack stack → IsStateFrom (open_index rules stack at whole c text)
  keeps-open stack at whole c (Some text) is = is
  keeps-open stack at whole c None is = keeps-begin (Indexed at whole ∷ stack) c.span.start (begun_by (in_predicate stack) c) is

  keeps-close_text : (stack : List Frame) (at : ℕ) (whole : Expression) (text_at : ℕ) (text : List ℕ) (c : Token) (r : Follow) → IsStack stack → IsStateFrom (close_text rules stack at whole text_at text c r)
  keeps-close_text stack at whole text_at text c (Ends EndBracket) is = is
  keeps-close_text stack at whole text_at text c r is = keeps-follow (Indexed at whole ∷ stack) (LiteralAt text_at (Text text)) c.span.start (follows c) is

  keeps-argue : (stack : List Frame) (at : ℕ) (function : Call) (so_far : List Expression) (c : Token) (body brace : Bool) → IsStack stack → IsStateFrom (argue rules stack at function so_far c (start_by body brace))
  keeps-argue stack at function so_far c false brace is = keeps-begin (Argued at function so_far ∷ stack) c.span.start (begun_by (in_predicate stack) c) is
  keeps-argue stack at function so_far c true false is = keeps-begin (Body at function so_far ∷ stack) c.span.start (begun_by true c) is
  keeps-argue stack at function so_far c true true is = keeps-when (may_open rules (pred (openers_left stack))) _ is

  keeps-close_empty : (stack : List Frame) (at : ℕ) (function : Call) (c : Token) (so_far : List Expression) (r : Follow) → IsStack stack → IsStateFrom (close_empty rules stack at function c so_far r)
  keeps-close_empty stack at function c [] (Ends EndGroup) is = keeps-when (takes_all rules function 0) _ is
  keeps-close_empty stack at function c so_far r is = keeps-argue stack at function so_far c (is_body function (length so_far)) (is_brace c) is

  keeps-close_braced : (stack : List Frame) (at : ℕ) (function : Call) (arguments : List Expression) (r : Follow) → IsStack stack → IsStateFrom (close_braced rules stack at function arguments r)
  keeps-close_braced stack at function arguments (Ends EndGroup) is = keeps-when (takes_all rules function (length arguments)) _ is
  keeps-close_braced stack at function arguments (Ends Comma) is = keeps-when (takes_more rules function (length arguments)) _ is
  keeps-close_braced stack at function arguments r is = tt

  pub keeps : (state : ParserState) (c : Token) → IsState state → IsStateFrom (parser_step rules state c)
  unfolding parser_step
  keeps (Want stack) c is = keeps-begin stack c.span.start (begun_by (in_predicate stack) c) is
  keeps (Have stack tree) c is = keeps-follow stack tree c.span.start (follows c) is
  keeps (WantName stack at whole) c is = keeps-select stack at whole (field_name_of c) is
  keeps (WantIndex stack at whole) c is = keeps-open stack at whole c (literal_text c) is
  keeps (HaveText stack at whole text_at text) c is = keeps-close_text stack at whole text_at text c (follows c) is
  keeps (WantIn stack at first) c is = keeps-when (is_in c) _ is
  keeps (WantGroup stack at function) c is = keeps-when (is_group c) _ is
  keeps (WantArgument stack at function so_far) c is = keeps-close_empty stack at function c so_far (follows c) is
  keeps (HaveArgument stack at function arguments) c is = keeps-close_braced stack at function arguments (follows c) is

  module _ (final : Expression) where
    -- ---- arguments

    sign_ender-start : (b : Bool) (at : ℕ) (sign : Sign) → sign_follow sign ≡ Ends EndGroup → sign_start b at sign ≡ NoStart
    sign_ender-start b at signs.CloseParenthesis is = refl
    sign_ender-start b at sign is = absurd cc

    word_no_ender : (word : Word) → word_follow word ≢ Ends EndGroup
    word_no_ender words.Or is = cc
    word_no_ender word is = cc

    kind_ender-start : (b : Bool) (at : ℕ) (kind : TokenKind) → kind_follow kind ≡ Ends EndGroup → kind_start b at kind ≡ NoStart
    kind_ender-start b at (kinds.Sign sign) is = sign_ender-start b at sign is
    kind_ender-start b at (kinds.Word word) is = absurd (word_no_ender word is)
    kind_ender-start b at kind is = absurd cc

    ender-start : (b : Bool) (c : Token) → follows c ≡ Ends EndGroup → begun_by b c ≡ NoStart
    unfolding follows begun_by
    ender-start b c role = kind_ender-start b c.span.start c.kind role

    -- `)` directly after `(`, or an argument
    empty-to : (stack : List Frame) (at : ℕ) (function : Call) (so_far : List Expression) (c : Token) (tokens : List Token) (r : Follow) → follows c ≡ r → LeadsFrom rules final (argue rules stack at function so_far c (start_by (is_body function (length so_far)) (is_brace c))) tokens
        → LeadsFrom rules final (close_empty rules stack at function c so_far r) tokens
    empty-to stack at function [] c tokens (Ends EndGroup) role leads = absurd (no_argument function leads)
      where
        no_argument : (function : Call) → ¬ LeadsFrom rules final (argue rules stack at function [] c (start_by (is_body function 0) (is_brace c))) tokens
        no_argument (Over predicate) leads = subst (λ (s : Start). LeadsFrom rules final (begun_with rules (Argued at (Over predicate) [] ∷ stack) c.span.start s) tokens) (ender-start (in_predicate stack) c role) leads
        no_argument other leads = subst (λ (s : Start). LeadsFrom rules final (begun_with rules (Argued at other [] ∷ stack) c.span.start s) tokens) (ender-start (in_predicate stack) c role) leads
    empty-to stack at function so_far c tokens r role leads = leads

    argue-at : (stack : List Frame) (at : ℕ) (function : Call) (so_far : List Expression) (c : Token) (tokens : List Token) (body brace : Bool) → is_body function (length so_far) ≡ body → is_brace c ≡ brace
        → LeadsFrom rules final (argue rules stack at function so_far c (start_by body brace)) tokens → LeadsFrom rules final (argue rules stack at function so_far c (start_by (is_body function (length so_far)) (is_brace c))) tokens
    argue-at stack at function so_far c tokens body brace is_body_is is_brace_is leads = rw (is_body_is, is_brace_is) leads

    kind_brace-start : (b : Bool) (at : ℕ) (kind : TokenKind) → kind_is_brace kind ≡ true → kind_start b at kind ≡ NoStart
    kind_brace-start b at (kinds.Sign signs.OpenBrace) is = refl
    kind_brace-start b at kind is = absurd cc

    brace-start : (b : Bool) (c : Token) → is_brace c ≡ true → begun_by b c ≡ NoStart
    unfolding is_brace begun_by
    brace-start b c is = kind_brace-start b c.span.start c.kind is

    called-to : (stack : List Frame) (at : ℕ) (function : Call) (so_far arguments : List Expression) (c : Token) (tokens rest : List Token) → Arguments rules (in_predicate stack) (pred (openers_left stack)) function so_far (c ∷ tokens) arguments rest
        → Had rules stack (After rules final stack) (called at function arguments) rest → LeadsFrom rules final (close_empty rules stack at function c so_far (follows c)) tokens
    called-to stack at function so_far arguments c tokens rest (grammar.no_argument role all) had =
        subst (λ (r : Follow). LeadsFrom rules final (close_empty rules stack at function c [] r) tokens) (sym role) (when-to rules final (takes_all rules function 0) _ tokens all had)
    called-to stack at function so_far arguments c tokens rest (grammar.argument {mid = mid} {first = first} plain phrase later) had =
        empty-to stack at function so_far c tokens (follows c) refl
        (argue-at stack at function so_far c tokens false (is_brace c) plain refl (want-to rules final (Argued at function so_far ∷ stack) c tokens (first, mid, phrase, (arguments, rest, later, had))))
    called-to stack at function so_far arguments c tokens rest (grammar.body {mid = mid} {first = first} body phrase later) had =
        empty-to stack at function so_far c tokens (follows c) refl (braced (is_brace c) refl)
      where
        wants : LeadsFrom rules final (want rules (Body at function so_far ∷ stack) c) tokens
        wants = want-to rules final (Body at function so_far ∷ stack) c tokens (first, mid, phrase, (arguments, rest, later, had))

        braced : (brace : Bool) → is_brace c ≡ brace → LeadsFrom rules final (argue rules stack at function so_far c (start_by (is_body function (length so_far)) (is_brace c))) tokens
        braced false is = argue-at stack at function so_far c tokens true false body is wants
        braced true is = absurd (subst (λ (s : Start). LeadsFrom rules final (begun_with rules (Body at function so_far ∷ stack) c.span.start s) tokens) (brace-start true c is) wants)
    called-to stack at function so_far arguments c tokens rest (grammar.braced {close = close} {mid = mid} {first = first} body brace opens phrase closes later) had =
        empty-to stack at function so_far c tokens (follows c) refl
        (argue-at stack at function so_far c tokens true true body brace (when-to rules final (may_open rules (pred (openers_left stack))) _ tokens opens (first, close ∷ mid, phrase, (closes, (arguments, rest, later, had)))))

    argue-from : (stack : List Frame) (at : ℕ) (function : Call) (so_far : List Expression) (c : Token) (tokens : List Token) (body brace : Bool) → is_body function (length so_far) ≡ body → is_brace c ≡ brace
        → LeadsFrom rules final (argue rules stack at function so_far c (start_by body brace)) tokens → Called rules final stack at function so_far (c ∷ tokens)
    argue-from stack at function so_far c tokens false brace plain is leads =
        let wants = want-from rules final (Argued at function so_far ∷ stack) c tokens leads in
        let later = wants.3 in
        (later.0, later.1, grammar.argument plain wants.2 later.2, later.3)
    argue-from stack at function so_far c tokens true false body is leads =
        let wants = want-from rules final (Body at function so_far ∷ stack) c tokens leads in
        let later = wants.3 in
        (later.0, later.1, grammar.body body wants.2 later.2, later.3)
    argue-from stack at function so_far c tokens true true body is leads =
        let opened = when-from rules final (may_open rules (pred (openers_left stack))) _ tokens leads in
        ended opened.0 opened.1.0 opened.1.1 opened.1.2 opened.1.3
      where
        ended : may_open rules (pred (openers_left stack)) ≡ true → (first : Expression) (rest : List Token) → Phrase rules ternary true (pred (pred (openers_left stack))) tokens first rest
            → Ended rules EndBrace (λ body rest. Argument rules stack at function (so_far ++ body ∷ []) (After rules final stack) rest) first rest → Called rules final stack at function so_far (c ∷ tokens)
        ended opens first [] phrase leads = absurd leads
        ended opens first (close ∷ mid) phrase leads = let later = leads.1 in (later.0, later.1, grammar.braced body is opens phrase leads.0 later.2, later.3)

    called-from : (stack : List Frame) (at : ℕ) (function : Call) (so_far : List Expression) (c : Token) (tokens : List Token) (r : Follow) → follows c ≡ r → LeadsFrom rules final (close_empty rules stack at function c so_far r) tokens → Called rules final stack at function so_far (c ∷ tokens)
    called-from stack at function [] c tokens (Ends EndGroup) role leads =
        let all = when-from rules final (takes_all rules function 0) _ tokens leads in ([], tokens, grammar.no_argument role all.0, all.1)
    called-from stack at function so_far c tokens r role leads = argue-from stack at function so_far c tokens (is_body function (length so_far)) (is_brace c) refl refl leads

    -- ---- one token

    text-step-to : (stack : List Frame) (at : ℕ) (whole : Expression) (text_at : ℕ) (text : List ℕ) (c : Token) (tokens : List Token) (r : Follow) → IsStack stack → TextClosed rules final stack at whole text_at text c tokens r → LeadsFrom rules final (close_text rules stack at whole text_at text c r) tokens
    text-step-to stack at whole text_at text c tokens (Ends EndBracket) is leads = leads
    text-step-to stack at whole text_at text c tokens r is leads = have-to rules final (Indexed at whole ∷ stack) (LiteralAt text_at (Text text)) c tokens is leads

    text-step-from : (stack : List Frame) (at : ℕ) (whole : Expression) (text_at : ℕ) (text : List ℕ) (c : Token) (tokens : List Token) (r : Follow) → IsStack stack → LeadsFrom rules final (close_text rules stack at whole text_at text c r) tokens → TextClosed rules final stack at whole text_at text c tokens r
    text-step-from stack at whole text_at text c tokens (Ends EndBracket) is leads = leads
    text-step-from stack at whole text_at text c tokens r is leads = have-from rules final (Indexed at whole ∷ stack) (LiteralAt text_at (Text text)) c tokens is leads

    inner-to : (stack : List Frame) (at : ℕ) (whole : Expression) (c : Token) (tokens : List Token) (text : Option (List ℕ)) → Inner rules final stack at whole c tokens text → LeadsFrom rules final (open_index rules stack at whole c text) tokens
    inner-to stack at whole c tokens (Some text) leads = leads
    inner-to stack at whole c tokens None leads = want-to rules final (Indexed at whole ∷ stack) c tokens leads

    inner-from : (stack : List Frame) (at : ℕ) (whole : Expression) (c : Token) (tokens : List Token) (text : Option (List ℕ)) → LeadsFrom rules final (open_index rules stack at whole c text) tokens → Inner rules final stack at whole c tokens text
    inner-from stack at whole c tokens (Some text) leads = leads
    inner-from stack at whole c tokens None leads = want-from rules final (Indexed at whole ∷ stack) c tokens leads

    select-step-from : (stack : List Frame) (at : ℕ) (whole : Expression) (c : Token) (tokens : List Token) (word : Option (List ℕ)) → field_name_of c ≡ word → LeadsFrom rules final (select rules stack at whole word) tokens → Named rules final stack at whole (c ∷ tokens)
    select-step-from stack at whole c tokens (Some word) is leads = (word, is, leads)
    select-step-from stack at whole c tokens None is leads = absurd leads

    pub step-to : (state : ParserState) (c : Token) (tokens : List Token) → IsState state → Leads rules final state (c ∷ tokens) → LeadsFrom rules final (parser_step rules state c) tokens
    unfolding parser_step
    step-to (Want stack) c tokens is leads = want-to rules final stack c tokens leads
    step-to (Have stack tree) c tokens is leads = have-to rules final stack tree c tokens is leads
    step-to (WantName stack at whole) c tokens is leads = subst (λ (w : Option (List ℕ)). LeadsFrom rules final (select rules stack at whole w) tokens) (sym leads.1) leads.2
    step-to (WantIndex stack at whole) c tokens is leads = inner-to stack at whole c tokens (literal_text c) leads
    step-to (HaveText stack at whole text_at text) c tokens is leads = text-step-to stack at whole text_at text c tokens (follows c) is leads
    step-to (WantIn stack at first) c tokens is leads = when-to rules final (is_in c) _ tokens leads.0 leads.1
    step-to (WantGroup stack at function) c tokens is leads = when-to rules final (is_group c) _ tokens leads.0 leads.1
    step-to (WantArgument stack at function so_far) c tokens is leads = called-to stack at function so_far leads.0 c tokens leads.1 leads.2 leads.3
    step-to (HaveArgument stack at function arguments) c tokens is leads = arguments-to rules final stack at function arguments leads.0 c tokens leads.1 leads.2 leads.3

    pub step-back : (state : ParserState) (c : Token) (tokens : List Token) → IsState state → LeadsFrom rules final (parser_step rules state c) tokens → Leads rules final state (c ∷ tokens)
    unfolding parser_step
    step-back (Want stack) c tokens is leads = want-from rules final stack c tokens leads
    step-back (Have stack tree) c tokens is leads = have-from rules final stack tree c tokens is leads
    step-back (WantName stack at whole) c tokens is leads = select-step-from stack at whole c tokens (field_name_of c) refl leads
    step-back (WantIndex stack at whole) c tokens is leads = inner-from stack at whole c tokens (literal_text c) leads
    step-back (HaveText stack at whole text_at text) c tokens is leads = text-step-from stack at whole text_at text c tokens (follows c) is leads
    step-back (WantIn stack at first) c tokens is leads = when-from rules final (is_in c) _ tokens leads
    step-back (WantGroup stack at function) c tokens is leads = when-from rules final (is_group c) _ tokens leads
    step-back (WantArgument stack at function so_far) c tokens is leads = called-from stack at function so_far c tokens (follows c) refl leads
    step-back (HaveArgument stack at function arguments) c tokens is leads = arguments-from rules final stack at function arguments c tokens (follows c) refl leads
