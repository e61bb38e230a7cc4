-- A token that any depth allows, and the limits don't, is refused as too deep.
use Rattle.std.proofs.Common.{◌≡◌, ℕ, Bool, true, false, List, [], ◌∷◌, ◌++◌, length, refl, sym, ◌∙◌, ap, subst, append_assoc, Option, Some, None, ◌⊎◌, inl, inr}
use Rattle.ar_tree.specs.Expression.{Expression, LiteralAt}
use Rattle.ar_tree.specs.declared.tree.Binary.{Binary}
use Rattle.ar_tree.specs.declared.tree.Literal.TheVariants.{Text}
use Rattle.ar_syntax.specs.Condition.{at_any_depth, of_any_count, of_any_items, strict}
use Rattle.ar_syntax.specs.Fault.{accepts, fault_of}
use Rattle.ar_syntax.specs.Grammar.{BeginsBy, DerivesBy, Rules}
use Rattle.ar_syntax.specs.Machine.{Frame, ParserState, Then, Grouped, Listed, Indexed, Argued, Body, Braced, Want, Have, WantName, WantIndex, HaveText, WantIn, WantGroup, WantArgument, HaveArgument, argue, begun_with, choose, climbed, close_braced, close_empty, close_text, end_with, finished, finished_from, followed_by, in_predicate, negate, open_index, operate, parser_step, reached, select, start_state, step_from, unwound}
use Rattle.ar_syntax.specs.Refusal.{AreRefused, IsRefusedAfter, at_token, at_end, at_depth}
use Rattle.ar_syntax.specs.Roles.{Start, Leaf, Prefix, Group, Bracket, Calls, ItemPoint, NoStart, begun_by, field_name_of, follows, is_body, is_brace, literal_text, precedence}
use Rattle.ar_syntax.specs.declared.error.SyntaxError.{SyntaxError}
use Rattle.ar_syntax.specs.declared.error.SyntaxError.TheVariants.{TooDeep}
use Rattle.ar_syntax.specs.declared.role.Call.{Call}
use Rattle.ar_syntax.specs.declared.role.Ender.{Ender}
use Rattle.ar_syntax.specs.declared.role.Ender.TheVariants.{Comma, Colon, EndGroup, EndBracket, EndBrace}
use Rattle.ar_syntax.specs.declared.role.Follow.{Follow}
use Rattle.ar_syntax.specs.declared.role.Follow.TheVariants.{Operator, NotOf, Choose, Select, Open, Ends, NoFollow}
use Rattle.ar_syntax.specs.declared.token.Token.{Token}
use Rattle.ar_syntax.proofs.Completions.{BeginsBy-reached, reached-BeginsBy, run-append}
use Rattle.ar_syntax.proofs.OneTree.{DerivesBy-from_tree_by, tree_by-DerivesBy}
use Rattle.ar_syntax.proofs.Refusals.{accepted, begins-accepts, one-name}
use Rattle.ar_syntax.proofs.Relaxed.{reached-relaxed}
use Rattle.ar_syntax.proofs.Starts.{start_by}
use Rattle.ar_parsed_back.specs.ReadsBack.{is_too_deep}

-- setting depth aside changes nothing, or setting the other limits aside doesn't
abbrev IsOneLimit : (Rules → Option ParserState) → Type 0
IsOneLimit step = (step at_any_depth ≡ step strict) ⊎ ((step of_any_count ≡ step strict) × (step of_any_items ≡ step strict))

by_begin : (stack : List Frame) (at : ℕ) (s : Start) → IsOneLimit (λ rules. begun_with rules stack at s)
by_begin stack at (Leaf tree) = inl refl
by_begin stack at (Prefix operator) = inr (refl, refl)
by_begin stack at Group = inr (refl, refl)
by_begin stack at Bracket = inr (refl, refl)
by_begin stack at (Calls function) = inr (refl, refl)
by_begin stack at ItemPoint = inl refl
by_begin stack at NoStart = inl refl

by_end : (ender : Ender) (state : ParserState) → IsOneLimit (λ rules. end_with rules ender state)
by_end Colon (Have (Then at condition ∷ stack) tree) = inl refl
by_end EndGroup (Have (Grouped ∷ stack) tree) = inl refl
by_end EndBracket (Have (Indexed at whole ∷ stack) tree) = inl refl
by_end EndBracket (Have (Listed at so_far ∷ stack) tree) = inl refl
by_end Comma (Have (Listed at so_far ∷ stack) tree) = inl refl
by_end EndGroup (Have (Argued at function so_far ∷ stack) tree) = inl refl
by_end Comma (Have (Argued at function so_far ∷ stack) tree) = inl refl
by_end EndGroup (Have (Body at function so_far ∷ stack) tree) = inl refl
by_end Comma (Have (Body at function so_far ∷ stack) tree) = inl refl
by_end EndBrace (Have (Braced at function so_far ∷ stack) tree) = inl refl
by_end ender state = inl refl

by_operate : (at : ℕ) (operator : Binary) (state : ParserState) → IsOneLimit (λ rules. operate rules at operator state)
by_operate at operator (Have stack tree) = inl refl
by_operate at operator state = inl refl

by_negate : (at : ℕ) (state : ParserState) → IsOneLimit (λ rules. negate rules at state)
by_negate at (Have stack tree) = inl refl
by_negate at state = inl refl

by_choose : (at : ℕ) (state : ParserState) → IsOneLimit (λ rules. choose rules at state)
by_choose at (Have stack tree) = inr (refl, refl)
by_choose at state = inl refl

by_follow : (stack : List Frame) (tree : Expression) (at : ℕ) (r : Follow) → IsOneLimit (λ rules. followed_by rules stack tree at r)
by_follow stack tree at (Operator operator) = by_operate at operator (climbed (precedence operator) stack tree)
by_follow stack tree at NotOf = by_negate at (climbed 2 stack tree)
by_follow stack tree at Choose = by_choose at (climbed 5 stack tree)
by_follow stack tree at Select = inl refl
by_follow stack tree at Open = inr (refl, refl)
by_follow stack tree at (Ends ender) = by_end ender (unwound stack tree)
by_follow stack tree at NoFollow = inl refl

by_select : (stack : List Frame) (at : ℕ) (whole : Expression) (word : Option (List ℕ)) → IsOneLimit (λ rules. select rules stack at whole word)
by_select stack at whole (Some word) = inl refl
by_select stack at whole None = inl refl

by_index : (stack : List Frame) (at : ℕ) (whole : Expression) (c : Token) (text : Option (List ℕ)) → IsOneLimit (λ rules. open_index rules stack at whole c text)
by_index stack at whole c (Some text) = inl refl
by_index stack at whole c None = by_begin (Indexed at whole ∷ stack) c.span.start (begun_by (in_predicate stack) c)

by_text : (stack : List Frame) (at : ℕ) (whole : Expression) (text_at : ℕ) (text : List ℕ) (c : Token) (r : Follow) → IsOneLimit (λ rules. close_text rules stack at whole text_at text c r)
by_text stack at whole text_at text c (Ends EndBracket) = inl refl
by_text stack at whole text_at text c r = by_follow (Indexed at whole ∷ stack) (LiteralAt text_at (Text text)) c.span.start (follows c)

by_argue : (stack : List Frame) (at : ℕ) (function : Call) (so_far : List Expression) (c : Token) (body brace : Bool) → IsOneLimit (λ rules. argue rules stack at function so_far c (start_by body brace))
by_argue stack at function so_far c false brace = by_begin (Argued at function so_far ∷ stack) c.span.start (begun_by (in_predicate stack) c)
by_argue stack at function so_far c true false = by_begin (Body at function so_far ∷ stack) c.span.start (begun_by true c)
by_argue stack at function so_far c true true = inr (refl, refl)

by_empty : (stack : List Frame) (at : ℕ) (function : Call) (c : Token) (so_far : List Expression) (r : Follow) → IsOneLimit (λ rules. close_empty rules stack at function c so_far r)
by_empty stack at function c [] (Ends EndGroup) = inl refl
by_empty stack at function c so_far r = by_argue stack at function so_far c (is_body function (length so_far)) (is_brace c)

by_braced : (stack : List Frame) (at : ℕ) (function : Call) (arguments : List Expression) (r : Follow) → IsOneLimit (λ rules. close_braced rules stack at function arguments r)
by_braced stack at function arguments (Ends EndGroup) = inl refl
by_braced stack at function arguments (Ends Comma) = inl refl
by_braced stack at function arguments r = inl refl

by_step : (state : ParserState) (c : Token) → IsOneLimit (λ rules. parser_step rules state c)
unfolding parser_step
by_step (Want stack) c = by_begin stack c.span.start (begun_by (in_predicate stack) c)
by_step (Have stack tree) c = by_follow stack tree c.span.start (follows c)
by_step (WantName stack at whole) c = by_select stack at whole (field_name_of c)
by_step (WantIndex stack at whole) c = by_index stack at whole c (literal_text c)
by_step (HaveText stack at whole text_at text) c = by_text stack at whole text_at text c (follows c)
by_step (WantIn stack at first) c = inl refl
by_step (WantGroup stack at function) c = inl refl
by_step (WantArgument stack at function so_far) c = by_empty stack at function c so_far (follows c)
by_step (HaveArgument stack at function arguments) c = by_braced stack at function arguments (follows c)

-- such a token's fault is its depth
fault_is_depth : (state : ParserState) (c : Token) → accepts (parser_step strict state c) ≡ false → accepts (parser_step at_any_depth state c) ≡ true → fault_of state c ≡ TooDeep c.span.start
unfolding fault_of
fault_is_depth state c refused taken = elim (by_step state c) [
  | inl same ↦ absurd (cc (ap accepts same))
  | inr others ↦ rw (ap accepts others.0 ∙ refused, ap accepts others.1 ∙ refused, taken) refl
]

-- ---- tokens that are a condition at any depth are refused as too deep alone

pub finished_state : (state : Option ParserState) (tree : Expression) → finished_from state ≡ Some tree → (there : ParserState) × (state ≡ Some there) × (finished there ≡ Some tree)
finished_state (Some there) tree is = (there, refl, is)
finished_state None tree is = absurd cc

some_state : (state : Option ParserState) → (state ≡ None → ⊥) → (there : ParserState) × (state ≡ Some there)
some_state (Some there) some = (there, refl)
some_state None some = absurd (some refl)

module _ (before : List Token) (state : ParserState) (there : reached strict before ≡ Some state) (token : Token) where
  one_step : (rules : Rules) → reached rules before ≡ Some state → reached rules (before ++ token ∷ []) ≡ parser_step rules state token
  one_step rules is = run-append rules (Some start_state) before (token ∷ []) ∙ ap (λ (s : Option ParserState). step_from rules s token) is

  not_taken : ¬ BeginsBy strict (before ++ token ∷ []) → (taken : Bool) → accepts (parser_step strict state token) ≡ taken → taken ≡ false
  not_taken stops false is = refl
  not_taken stops true is =
      let next = accepted (parser_step strict state token) is in
      absurd (stops (BeginsBy-reached strict (before ++ token ∷ []) next.0 (one_step strict there ∙ next.1)))

  token_too_deep : (rest : List Token) (tree : Expression) (error : SyntaxError) → DerivesBy at_any_depth (before ++ token ∷ rest) tree → ¬ BeginsBy strict (before ++ token ∷ []) → IsRefusedAfter before token error → error ≡ TooDeep token.span.start
  token_too_deep rest tree error derived stops why =
      let whole : DerivesBy at_any_depth ((before ++ token ∷ []) ++ rest) tree = subst (λ (all : List Token). DerivesBy at_any_depth all tree) (sym (append_assoc before (token ∷ []) rest)) derived in
      let taken = begins-accepts at_any_depth before state (reached-relaxed at_any_depth before state there) token (rest, tree, whole) in
      one-name before state there token error why ∙ fault_is_depth state token (not_taken stops (accepts (parser_step strict state token)) refl) taken

pub too_deep : (end : ℕ) (tokens : List Token) (tree : Expression) (error : SyntaxError) → DerivesBy at_any_depth tokens tree → AreRefused end tokens error → is_too_deep error ≡ true
too_deep end tokens tree error derived (at_token before token rest are begins stops why) =
    let found = some_state (reached strict before) (reached-BeginsBy strict before begins) in
    let derived_all : DerivesBy at_any_depth (before ++ token ∷ rest) tree = subst (λ (all : List Token). DerivesBy at_any_depth all tree) are derived in
    ap is_too_deep (token_too_deep before found.0 found.1 token rest tree error derived_all stops why)
too_deep end tokens tree error derived (at_end begins none) =
    let found = some_state (reached strict tokens) (reached-BeginsBy strict tokens begins) in
    let whole = tree_by-DerivesBy at_any_depth tree tokens derived in
    let finish : finished found.0 ≡ Some tree = sym (ap finished_from (reached-relaxed at_any_depth tokens found.0 found.1)) ∙ whole in
    absurd (none tree (DerivesBy-from_tree_by strict tree tokens (ap finished_from found.1 ∙ finish)))
too_deep end tokens tree error derived (at_depth deep_tree deep_derived deep) = refl
