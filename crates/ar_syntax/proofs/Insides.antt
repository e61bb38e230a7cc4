-- Where one is inside a predicate.
use Rattle.std.proofs.Common.{◌≡◌, ◌≢◌, ℕ, Bool, true, false, List, [], ◌∷◌, ◌++◌, length, refl, ◌∙◌, ap, subst, arith, Option, Some, None}
use Rattle.ar_tree.specs.Expression.{Expression, FieldAt, ItemAt, LiteralAt, UnaryAt, BinaryAt, ChoiceAt}
use Rattle.ar_syntax.specs.Grammar.{Rules, may_open, takes_all}
use Rattle.ar_syntax.specs.Machine.{Frame, ParserState, RightOf, Prefixed, Then, Else, Grouped, Listed, Indexed, Argued, Body, Braced, Want, Have, WantName, WantIndex, HaveText, WantIn, WantGroup, WantArgument, HaveArgument, in_predicate, openers_left}
use Rattle.ar_syntax.specs.Roles.{Call, Ender, Follow, Start, Ends, Comma, Colon, EndGroup, EndBracket, EndBrace, Operator, NotOf, Choose, Select, Open, NoFollow, called, follows, is_body, is_brace, is_group, is_in, precedence, field_name_of, begun_by, literal_text}
use Rattle.ar_syntax.specs.declared.token.Token.{Token}
use Rattle.ar_syntax.specs.declared.token.Sign.TheVariants as signs
use Rattle.ar_syntax.specs.declared.token.Word.TheVariants as words
use Rattle.ar_syntax.specs.declared.token.TokenKind.{TokenKind}
use Rattle.ar_syntax.specs.declared.token.TokenKind.TheVariants as kinds
use Rattle.ar_tree.specs.declared.tree.Binary.{Binary}
use Rattle.ar_tree.specs.declared.tree.Binary.TheVariants.{NotIn}
use Rattle.ar_tree.specs.declared.tree.Binary.TheVariants as binaries
use Rattle.ar_tree.specs.declared.tree.Literal.TheVariants.{Text}
use Rattle.std.specs.Prelude.{nat_le}
use Rattle.ar_syntax.specs.Machine.{argue, begun_with, choose, climbed, close_braced, close_empty, close_text, end_with, followed_by, have, negate, open_index, operate, select, parser_step, unwound, want, when}
use Rattle.ar_syntax.specs.Roles.{Len, IsNil, Default, kind_follow, kind_is_brace, Over, kind_start, kind_text, Leaf, Prefix, Group, Bracket, Calls, ItemPoint, NoStart}
use Rattle.ar_syntax.proofs.Passes.{Climbed, IsStack, climbed-is}
use Rattle.ar_syntax.specs.Machine.{run, whole}
use Rattle.std.specs.Prelude.{nat_le, ◌||◌}
use Rattle.ar_syntax.proofs.Passes.{either}
use Rattle.ar_syntax.proofs.Runs.{IsState}
use Rattle.ar_syntax.proofs.Counts.{IsCountedState}
use Rattle.std.proofs.Math.Bool.{or-true}
use Rattle.ar_syntax.specs.Condition.{strict}
use Rattle.ar_syntax.specs.Fault.{accepts, is_inside, wants_operand}
use Rattle.ar_syntax.specs.Refusal.{has_no_comma, is_comma}
use Rattle.ar_syntax.specs.Roles.{kind_is_group, kind_is_in, kind_name}
use Rattle.ar_syntax.proofs.Completions.{group, group-is, group_end, group_end-follows, in_word, in_word-is, name, name-is, token_of}
use Rattle.ar_syntax.proofs.Starts.{start_by}

abbrev pub Out : Bool → Option ParserState → Type 0
Out b (Some state) = is_inside state ≡ true → b ≡ true
Out b None = Unit {0}

climbed-inside : (l : ℕ) (stack : List Frame) (tree : Expression) → is_inside (climbed l stack tree) ≡ in_predicate stack
climbed-inside l (RightOf at operator first ∷ stack) tree =
    either (λ (state : ParserState). is_inside state ≡ in_predicate stack) (nat_le (precedence operator) l) (climbed l stack (BinaryAt at operator first tree)) (Have (RightOf at operator first ∷ stack) tree) (λ tight. climbed-inside l stack (BinaryAt at operator first tree)) (λ loose. refl)
climbed-inside l (Prefixed at operator ∷ stack) tree = climbed-inside l stack (UnaryAt at operator tree)
climbed-inside l [] tree = refl
climbed-inside l (Then at condition ∷ stack) tree = refl
climbed-inside l (Else at condition then_branch ∷ stack) tree = refl
climbed-inside l (Grouped ∷ stack) tree = refl
climbed-inside l (Listed at so_far ∷ stack) tree = refl
climbed-inside l (Indexed at whole ∷ stack) tree = refl
climbed-inside l (Argued at function so_far ∷ stack) tree = refl
climbed-inside l (Body at function so_far ∷ stack) tree = refl
climbed-inside l (Braced at function so_far ∷ stack) tree = refl

or-left : (a b : Bool) → a ≡ true → (a || b) ≡ true
or-left a b is = rw is refl

kind_comma : (kind : TokenKind) → kind_follow kind ≡ Ends Comma → is_comma kind ≡ true
kind_comma (kinds.Sign signs.Comma) is = refl
kind_comma (kinds.Word words.Or) is = absurd cc
kind_comma (kinds.Word words.And) is = absurd cc
kind_comma (kinds.Word words.In) is = absurd cc
kind_comma (kinds.Word words.Not) is = absurd cc
kind_comma kind is = absurd cc

no_comma : (c : Token) → is_comma c.kind ≡ false → follows c ≢ Ends Comma
unfolding follows
no_comma c is role = let other = kind_comma c.kind role in absurd cc

-- nothing but an operand may have the token, and no operand begins with it
pub record IsIdle (b : Bool) (c : Token) : Type 0 where
  pub begins : (within : Bool) → (within ≡ true → b ≡ true) → begun_by within c ≡ NoStart
  pub text : literal_text c ≡ None
  pub brace : is_brace c ≡ false
  pub end : follows c ≢ Ends EndGroup

-- and no other state has it
pub record IsUseless (c : Token) : Type 0 where
  pub follow : follows c ≡ NoFollow
  pub named : field_name_of c ≡ None
  pub in_word : is_in c ≡ false
  pub group : is_group c ≡ false

module _ (rules : Rules) where
  out-when : (b test : Bool) (state : ParserState) → (is_inside state ≡ true → b ≡ true) → Out b (when rules test state)
  out-when b true state out = out
  out-when b false state out = tt

  out-begin : (stack : List Frame) (at : ℕ) (s : Start) → Out (in_predicate stack) (begun_with rules stack at s)
  out-begin stack at (Leaf tree) = λ h. h
  out-begin stack at (Prefix operator) = out-when (in_predicate stack) (may_open rules (openers_left stack)) _ (λ h. h)
  out-begin stack at Group = out-when (in_predicate stack) (may_open rules (openers_left stack)) _ (λ h. h)
  out-begin stack at Bracket = out-when (in_predicate stack) (may_open rules (openers_left stack)) _ (λ h. h)
  out-begin stack at (Calls function) = out-when (in_predicate stack) (may_open rules (openers_left stack)) _ (λ h. h)
  out-begin stack at ItemPoint = λ h. h
  out-begin stack at NoStart = tt

  out-operate : (at : ℕ) (operator : Binary) (state : ParserState) → Out (is_inside state) (operate rules at operator state)
  out-operate at operator (Have stack tree) = λ h. h
  out-operate at operator state = tt

  out-negate : (at : ℕ) (state : ParserState) → Out (is_inside state) (negate rules at state)
  out-negate at (Have stack tree) = λ h. h
  out-negate at state = tt

  out-choose : (at : ℕ) (state : ParserState) → Out (is_inside state) (choose rules at state)
  out-choose at (Have stack tree) = out-when (in_predicate stack) (may_open rules (openers_left stack)) _ (λ h. h)
  out-choose at state = tt

  out-end : (stack : List Frame) (tree : Expression) (ender : Ender) → ender ≢ Comma → Out (in_predicate stack) (end_with rules ender (unwound stack tree))
  out-end stack tree Comma none = absurd (none refl)
  out-end [] tree Colon none = tt
  out-end [] tree EndGroup none = tt
  out-end [] tree EndBracket none = tt
  out-end [] tree EndBrace none = tt
  out-end (RightOf at operator first ∷ stack) tree ender none = out-end stack (BinaryAt at operator first tree) ender none
  out-end (Prefixed at operator ∷ stack) tree ender none = out-end stack (UnaryAt at operator tree) ender none
  out-end (Then at condition ∷ stack) tree Colon none = λ h. h
  out-end (Then at condition ∷ stack) tree ender none = tt
  out-end (Else at condition then_branch ∷ stack) tree ender none = out-end stack (ChoiceAt at condition then_branch tree) ender none
  out-end (Grouped ∷ stack) tree EndGroup none = λ h. h
  out-end (Grouped ∷ stack) tree ender none = tt
  out-end (Listed at so_far ∷ stack) tree EndBracket none = λ h. h
  out-end (Listed at so_far ∷ stack) tree ender none = tt
  out-end (Indexed at whole ∷ stack) tree EndBracket none = λ h. h
  out-end (Indexed at whole ∷ stack) tree ender none = tt
  out-end (Argued at function so_far ∷ stack) tree EndGroup none = out-when (in_predicate stack) (takes_all rules function (length (so_far ++ tree ∷ []))) _ (λ h. h)
  out-end (Argued at function so_far ∷ stack) tree ender none = tt
  out-end (Body at function so_far ∷ stack) tree EndGroup none = out-when true (takes_all rules function (length (so_far ++ tree ∷ []))) _ (λ h. refl)
  out-end (Body at function so_far ∷ stack) tree ender none = tt
  out-end (Braced at function so_far ∷ stack) tree EndBrace none = λ h. refl
  out-end (Braced at function so_far ∷ stack) tree ender none = tt

  out-follow : (stack : List Frame) (tree : Expression) (at : ℕ) (r : Follow) → r ≢ Ends Comma → Out (in_predicate stack) (followed_by rules stack tree at r)
  out-follow stack tree at (Operator operator) none = subst (λ (b : Bool). Out b (operate rules at operator (climbed (precedence operator) stack tree))) (climbed-inside (precedence operator) stack tree) (out-operate at operator (climbed (precedence operator) stack tree))
  out-follow stack tree at NotOf none = subst (λ (b : Bool). Out b (negate rules at (climbed 2 stack tree))) (climbed-inside 2 stack tree) (out-negate at (climbed 2 stack tree))
  out-follow stack tree at Choose none = subst (λ (b : Bool). Out b (choose rules at (climbed 5 stack tree))) (climbed-inside 5 stack tree) (out-choose at (climbed 5 stack tree))
  out-follow stack tree at Select none = λ h. h
  out-follow stack tree at Open none = out-when (in_predicate stack) (may_open rules (openers_left stack)) _ (λ h. h)
  out-follow stack tree at (Ends ender) none = out-end stack tree ender (λ same. none (ap (λ (e : Ender). Ends e) same))
  out-follow stack tree at NoFollow none = tt

  out-select : (stack : List Frame) (at : ℕ) (whole : Expression) (word : Option (List ℕ)) → Out (in_predicate stack) (select rules stack at whole word)
  out-select stack at whole (Some word) = λ h. h
  out-select stack at whole None = tt

  out-index : (stack : List Frame) (at : ℕ) (whole : Expression) (c : Token) (text : Option (List ℕ)) → Out (in_predicate stack) (open_index rules stack at whole c text)
  out-index stack at whole c (Some text) = λ h. h
  out-index stack at whole c None = out-begin (Indexed at whole ∷ stack) c.span.start (begun_by (in_predicate stack) c)

  out-text : (stack : List Frame) (at : ℕ) (whole : Expression) (text_at : ℕ) (text : List ℕ) (c : Token) (r : Follow) → follows c ≢ Ends Comma → Out (in_predicate stack) (close_text rules stack at whole text_at text c r)
  out-text stack at whole text_at text c (Ends EndBracket) none = λ h. h
  out-text stack at whole text_at text c r none = out-follow (Indexed at whole ∷ stack) (LiteralAt text_at (Text text)) c.span.start (follows c) none

  or-drop : (a : Bool) → (a || false) ≡ true → a ≡ true
  or-drop true h = refl
  or-drop false h = h

  out-weaken : (a b : Bool) (state : Option ParserState) → Out a state → Out (a || b) state
  out-weaken a b (Some state) out = λ h. or-left a b (out h)
  out-weaken a b None out = tt

  out-any : (a : Bool) (state : Option ParserState) → Out (a || true) state
  out-any a (Some state) = λ h. or-true a
  out-any a None = tt

  out-argue : (stack : List Frame) (at : ℕ) (function : Call) (so_far : List Expression) (c : Token) (body brace : Bool) → Out (in_predicate stack || body) (argue rules stack at function so_far c (start_by body brace))
  out-argue stack at function so_far c false brace = out-weaken (in_predicate stack) false _ (out-begin (Argued at function so_far ∷ stack) c.span.start (begun_by (in_predicate stack) c))
  out-argue stack at function so_far c true brace = out-any (in_predicate stack) _

  out-empty : (stack : List Frame) (at : ℕ) (function : Call) (c : Token) (so_far : List Expression) (r : Follow) → Out (in_predicate stack || is_body function (length so_far)) (close_empty rules stack at function c so_far r)
  out-empty stack at function c [] (Ends EndGroup) = out-when (in_predicate stack || is_body function 0) (takes_all rules function 0) _ (λ h. or-left (in_predicate stack) (is_body function 0) h)
  out-empty stack at function c so_far r = out-argue stack at function so_far c (is_body function (length so_far)) (is_brace c)

  out-braced : (stack : List Frame) (at : ℕ) (function : Call) (arguments : List Expression) (r : Follow) → r ≢ Ends Comma → Out (in_predicate stack) (close_braced rules stack at function arguments r)
  out-braced stack at function arguments (Ends EndGroup) none = out-when (in_predicate stack) (takes_all rules function (length arguments)) _ (λ h. h)
  out-braced stack at function arguments (Ends Comma) none = absurd (none refl)
  out-braced stack at function arguments r none = tt

  first_argument : (function : Call) (b : Bool) → (b || is_body function 0) ≡ true → b ≡ true
  first_argument (Over predicate) b h = or-drop b h
  first_argument Len b h = or-drop b h
  first_argument IsNil b h = or-drop b h
  first_argument Default b h = or-drop b h

  -- without a comma no predicate begins
  pub out-step : (state : ParserState) (c : Token) → is_comma c.kind ≡ false → Out (is_inside state) (parser_step rules state c)
  unfolding parser_step
  out-step (Want stack) c is = out-begin stack c.span.start (begun_by (in_predicate stack) c)
  out-step (Have stack tree) c is = out-follow stack tree c.span.start (follows c) (no_comma c is)
  out-step (WantName stack at whole) c is = out-select stack at whole (field_name_of c)
  out-step (WantIndex stack at whole) c is = out-index stack at whole c (literal_text c)
  out-step (HaveText stack at whole text_at text) c is = out-text stack at whole text_at text c (follows c) (no_comma c is)
  out-step (WantIn stack at first) c is = out-when (in_predicate stack) (is_in c) _ (λ h. h)
  out-step (WantGroup stack at function) c is = out-when (in_predicate stack) (is_group c) _ (first_argument function (in_predicate stack))
  out-step (WantArgument stack at function so_far) c is = out-empty stack at function c so_far (follows c)
  out-step (HaveArgument stack at function arguments) c is = out-braced stack at function arguments (follows c) (no_comma c is)

  -- ---- tokens that no state takes

  stop-want : (stack : List Frame) (c : Token) → begun_by (in_predicate stack) c ≡ NoStart → want rules stack c ≡ None
  stop-want stack c e = ap (begun_with rules stack c.span.start) e

  stop-argue : (stack : List Frame) (at : ℕ) (function : Call) (so_far : List Expression) (c : Token) (body : Bool) → IsIdle (in_predicate stack || body) c → argue rules stack at function so_far c (start_by body false) ≡ None
  stop-argue stack at function so_far c false idle = stop-want (Argued at function so_far ∷ stack) c (idle.begins (in_predicate stack) (λ h. or-left (in_predicate stack) false h))
  stop-argue stack at function so_far c true idle = stop-want (Body at function so_far ∷ stack) c (idle.begins true (λ h. or-true (in_predicate stack)))

  stop-empty : (stack : List Frame) (at : ℕ) (function : Call) (c : Token) (so_far : List Expression) (r : Follow) → r ≢ Ends EndGroup → argue rules stack at function so_far c (start_by (is_body function (length so_far)) (is_brace c)) ≡ None → close_empty rules stack at function c so_far r ≡ None
  stop-empty stack at function c [] (Ends EndGroup) other e = absurd (other refl)
  stop-empty stack at function c so_far r other e = e

  pub stop-operand : (state : ParserState) (c : Token) → wants_operand state ≡ true → IsIdle (is_inside state) c → parser_step rules state c ≡ None
  unfolding parser_step
  stop-operand (Want stack) c wants idle = stop-want stack c (idle.begins (in_predicate stack) (λ h. h))
  stop-operand (WantIndex stack at whole) c wants idle = ap (open_index rules stack at whole c) idle.text ∙ stop-want (Indexed at whole ∷ stack) c (idle.begins (in_predicate stack) (λ h. h))
  stop-operand (WantArgument stack at function so_far) c wants idle =
      stop-empty stack at function c so_far (follows c) idle.end
      (ap (λ brace. argue rules stack at function so_far c (start_by (is_body function (length so_far)) brace)) idle.brace ∙ stop-argue stack at function so_far c (is_body function (length so_far)) idle)
  stop-operand state c wants idle = absurd cc

  stop-text : (stack : List Frame) (at : ℕ) (whole : Expression) (text_at : ℕ) (text : List ℕ) (c : Token) → follows c ≡ NoFollow → close_text rules stack at whole text_at text c (follows c) ≡ None
  stop-text stack at whole text_at text c e = ap (close_text rules stack at whole text_at text c) e ∙ ap (followed_by rules (Indexed at whole ∷ stack) (LiteralAt text_at (Text text)) c.span.start) e

  pub stop-other : (state : ParserState) (c : Token) → wants_operand state ≡ false → IsUseless c → parser_step rules state c ≡ None
  unfolding parser_step
  stop-other (Have stack tree) c wants useless = ap (followed_by rules stack tree c.span.start) useless.follow
  stop-other (WantName stack at whole) c wants useless = ap (select rules stack at whole) useless.named
  stop-other (HaveText stack at whole text_at text) c wants useless = stop-text stack at whole text_at text c useless.follow
  stop-other (WantIn stack at first) c wants useless = ap (λ (b : Bool). when rules b (Want (RightOf at NotIn first ∷ stack))) useless.in_word
  stop-other (WantGroup stack at function) c wants useless = ap (λ (b : Bool). when rules b (WantArgument stack at function [])) useless.group
  stop-other (HaveArgument stack at function arguments) c wants useless = ap (close_braced rules stack at function arguments) useless.follow
  stop-other (Want stack) c wants useless = absurd cc
  stop-other (WantIndex stack at whole) c wants useless = absurd cc
  stop-other (WantArgument stack at function so_far) c wants useless = absurd cc

-- ---- names, points and `#`

module _ (c : Token) where
  name-idle : (name : List ℕ) (b : Bool) → c.kind ≡ kinds.Name name → IsIdle b c
  unfolding begun_by literal_text is_brace follows
  name-idle name b is = record {
    begins = λ within h. ap (kind_start within c.span.start) is;
    text = ap kind_text is;
    brace = ap kind_is_brace is;
    end = λ e. let f = ap kind_follow is in absurd cc;
  }

  hash-out : (within : Bool) → within ≡ false → c.kind ≡ kinds.Sign signs.Hash → begun_by within c ≡ NoStart
  unfolding begun_by
  hash-out within out is = ap (λ (b : Bool). kind_start b c.span.start c.kind) out ∙ ap (kind_start false c.span.start) is

  point-out : (within : Bool) → within ≡ false → c.kind ≡ kinds.Sign signs.Point → begun_by within c ≡ NoStart
  unfolding begun_by
  point-out within out is = ap (λ (b : Bool). kind_start b c.span.start c.kind) out ∙ ap (kind_start false c.span.start) is

  not_true : (a b : Bool) → (a ≡ true → b ≡ true) → b ≡ false → a ≡ false
  not_true true b f e = let g = f refl in absurd cc
  not_true false b f e = refl

  pub hash-idle : c.kind ≡ kinds.Sign signs.Hash → (b : Bool) → b ≡ false → IsIdle b c
  unfolding literal_text is_brace follows
  hash-idle is b out = record {
    begins = λ within h. hash-out within (not_true within b h out) is;
    text = ap kind_text is;
    brace = ap kind_is_brace is;
    end = λ e. let f = ap kind_follow is in absurd cc;
  }

  pub point-idle : c.kind ≡ kinds.Sign signs.Point → (b : Bool) → b ≡ false → IsIdle b c
  unfolding literal_text is_brace follows
  point-idle is b out = record {
    begins = λ within h. point-out within (not_true within b h out) is;
    text = ap kind_text is;
    brace = ap kind_is_brace is;
    end = λ e. let f = ap kind_follow is in absurd cc;
  }

  pub hash-useless : c.kind ≡ kinds.Sign signs.Hash → IsUseless c
  unfolding follows field_name_of is_in is_group
  hash-useless is = record { follow = ap kind_follow is; named = ap kind_name is; in_word = ap kind_is_in is; group = ap kind_is_group is }

  -- a word that isn't named is no operand
  pub name-stops : (rules : Rules) (state : ParserState) (name : List ℕ) → c.kind ≡ kinds.Name name → wants_operand state ≡ true → parser_step rules state c ≡ None
  name-stops rules state name is wants = stop-operand rules state c wants (name-idle name (is_inside state) is)

  pub point-stops : (rules : Rules) (state : ParserState) → c.kind ≡ kinds.Sign signs.Point → wants_operand state ≡ true → is_inside state ≡ false → parser_step rules state c ≡ None
  point-stops rules state is wants out = stop-operand rules state c wants (point-idle is (is_inside state) out)

  pub hash-stops : (rules : Rules) (state : ParserState) → c.kind ≡ kinds.Sign signs.Hash → is_inside state ≡ false → parser_step rules state c ≡ None
  hash-stops rules state is out = chosen (wants_operand state) refl
    where
      chosen : (wants : Bool) → wants_operand state ≡ wants → parser_step rules state c ≡ None
      chosen true wants = stop-operand rules state c wants (hash-idle is (is_inside state) out)
      chosen false wants = stop-other rules state c wants (hash-useless is)

-- ---- further on

plus : Token
plus = token_of (kinds.Sign signs.Plus)

pub hash : Token
hash = token_of (kinds.Sign signs.Hash)

plus-follows : follows plus ≡ Operator binaries.Add
unfolding follows plus token_of
plus-follows = refl

hash-starts : begun_by true hash ≡ Leaf (ItemAt 0)
unfolding begun_by hash token_of
hash-starts = refl

hash-follows : follows hash ≡ NoFollow
unfolding follows hash token_of
hash-follows = refl

hash-no_brace : is_brace hash ≡ false
unfolding is_brace hash token_of
hash-no_brace = refl

hash-no_text : literal_text hash ≡ None
unfolding literal_text hash token_of
hash-no_text = refl

pub hash-is : hash.kind ≡ kinds.Sign signs.Hash
unfolding hash token_of
hash-is = refl

-- where one is inside, `#` may come next, or after a few tokens without a comma
abbrev pub Arrives : ParserState → List Token → Type 0
Arrives state further = accepts (run strict (Some state) (further ++ hash ∷ [])) ≡ true

at-want : (stack : List Frame) → in_predicate stack ≡ true → want strict stack hash ≡ Some (Have stack (ItemAt 0))
at-want stack is = ap (λ (b : Bool). begun_with strict stack hash.span.start (begun_by b hash)) is ∙ ap (begun_with strict stack hash.span.start) hash-starts

want-arrives : (stack : List Frame) → in_predicate stack ≡ true → Arrives (Want stack) []
unfolding parser_step
want-arrives stack is = ap accepts (at-want stack is)

operand-arrives : (at : ℕ) (state : ParserState) → Climbed 1 state → is_inside state ≡ true → accepts (run strict (operate strict at binaries.Add state) (hash ∷ [])) ≡ true
operand-arrives at (Have stack tree) is within = want-arrives (RightOf at binaries.Add tree ∷ stack) within
operand-arrives at state is within = absurd is

have-plus : (stack : List Frame) (tree : Expression) → have strict stack tree plus ≡ operate strict plus.span.start binaries.Add (climbed 1 stack tree)
have-plus stack tree = ap (followed_by strict stack tree plus.span.start) plus-follows

have-arrives : (stack : List Frame) (tree : Expression) → IsStack stack → in_predicate stack ≡ true → accepts (run strict (have strict stack tree plus) (hash ∷ [])) ≡ true
have-arrives stack tree is within =
    ap (λ (s : Option ParserState). accepts (run strict s (hash ∷ []))) (have-plus stack tree)
    ∙ operand-arrives plus.span.start (climbed 1 stack tree) (climbed-is 1 (omega arith) stack tree is) (climbed-inside 1 stack tree ∙ within)

state-arrives : (stack : List Frame) (tree : Expression) → IsStack stack → in_predicate stack ≡ true → Arrives (Have stack tree) (plus ∷ [])
unfolding parser_step
state-arrives stack tree is within = have-arrives stack tree is within

empty-open : (stack : List Frame) (at : ℕ) (function : Call) (c : Token) (so_far : List Expression) → close_empty strict stack at function c so_far NoFollow ≡ argue strict stack at function so_far c (start_by (is_body function (length so_far)) (is_brace c))
empty-open stack at function c [] = refl
empty-open stack at function c (first ∷ so_far) = refl

argue-arrives : (stack : List Frame) (at : ℕ) (function : Call) (so_far : List Expression) (body : Bool) → (in_predicate stack || body) ≡ true → accepts (argue strict stack at function so_far hash (start_by body false)) ≡ true
argue-arrives stack at function so_far false within = ap accepts (at-want (Argued at function so_far ∷ stack) (or-drop strict (in_predicate stack) within))
argue-arrives stack at function so_far true within = ap accepts (at-want (Body at function so_far ∷ stack) refl)

argument-arrives : (stack : List Frame) (at : ℕ) (function : Call) (so_far : List Expression) → (in_predicate stack || is_body function (length so_far)) ≡ true → Arrives (WantArgument stack at function so_far) []
unfolding parser_step
argument-arrives stack at function so_far within =
    ap accepts (ap (close_empty strict stack at function hash so_far) hash-follows ∙ empty-open stack at function hash so_far ∙ ap (λ brace. argue strict stack at function so_far hash (start_by (is_body function (length so_far)) brace)) hash-no_brace)
    ∙ argue-arrives stack at function so_far (is_body function (length so_far)) within

plus-no_comma : is_comma plus.kind ≡ false
unfolding plus token_of
plus-no_comma = refl

name-no_comma : is_comma name.kind ≡ false
unfolding name token_of
name-no_comma = refl

in_word-no_comma : is_comma in_word.kind ≡ false
unfolding in_word token_of
in_word-no_comma = refl

group-no_comma : is_comma group.kind ≡ false
unfolding group token_of
group-no_comma = refl

group_end-no_comma : is_comma group_end.kind ≡ false
unfolding group_end token_of
group_end-no_comma = refl

no_comma-cons : (c : Token) (tokens : List Token) → is_comma c.kind ≡ false → has_no_comma tokens ≡ true → has_no_comma (c ∷ tokens) ≡ true
no_comma-cons c tokens is others = rw (is, others) refl

pub arrives : (state : ParserState) → IsState state → IsCountedState strict state → is_inside state ≡ true → (further : List Token) × (has_no_comma further ≡ true) × Arrives state further
unfolding parser_step
arrives (Want stack) is counted within = ([], refl, want-arrives stack within)
arrives (Have stack tree) is counted within = (plus ∷ [], no_comma-cons plus [] plus-no_comma refl, have-arrives stack tree is within)
arrives (WantName stack at whole) is counted within = (
  name ∷ plus ∷ [],
  no_comma-cons name (plus ∷ []) name-no_comma (no_comma-cons plus [] plus-no_comma refl),
  ap (λ (w : Option (List ℕ)). accepts (run strict (select strict stack at whole w) (plus ∷ hash ∷ []))) name-is ∙ state-arrives stack (FieldAt at whole []) is within,
)
arrives (WantIndex stack at whole) is counted within = ([], refl, ap accepts (ap (open_index strict stack at whole hash) hash-no_text ∙ at-want (Indexed at whole ∷ stack) within))
arrives (HaveText stack at whole text_at text) is counted within = (
  plus ∷ [],
  no_comma-cons plus [] plus-no_comma refl,
  ap (λ (r : Follow). accepts (run strict (close_text strict stack at whole text_at text plus r) (hash ∷ []))) plus-follows ∙ have-arrives (Indexed at whole ∷ stack) (LiteralAt text_at (Text text)) is within,
)
arrives (WantIn stack at first) is counted within = (
  in_word ∷ [],
  no_comma-cons in_word [] in_word-no_comma refl,
  ap (λ (b : Bool). accepts (run strict (when strict b (Want (RightOf at NotIn first ∷ stack))) (hash ∷ []))) in_word-is ∙ want-arrives (RightOf at NotIn first ∷ stack) within,
)
arrives (WantGroup stack at function) is counted within = (
  group ∷ [],
  no_comma-cons group [] group-no_comma refl,
  ap (λ (b : Bool). accepts (run strict (when strict b (WantArgument stack at function [])) (hash ∷ []))) group-is ∙ argument-arrives stack at function [] (or-left (in_predicate stack) (is_body function 0) within),
)
arrives (WantArgument stack at function so_far) is counted within = ([], refl, argument-arrives stack at function so_far within)
arrives (HaveArgument stack at function arguments) is counted within = (
  group_end ∷ plus ∷ [],
  no_comma-cons group_end (plus ∷ []) group_end-no_comma (no_comma-cons plus [] plus-no_comma refl),
  ap (λ (r : Follow). accepts (run strict (close_braced strict stack at function arguments r) (plus ∷ hash ∷ []))) group_end-follows
      ∙ ap (λ (b : Bool). accepts (run strict (when strict b (Have stack (called at function arguments))) (plus ∷ hash ∷ []))) counted.0
      ∙ state-arrives stack (called at function arguments) is within,
)
