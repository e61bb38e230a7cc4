-- Limits, set aside one at a time.
use Rattle.std.proofs.Common.{◌≡◌, ℕ, zero, suc, ◌<◌, ◌≤◌, Bool, true, false, if◌then◌else◌, List, [], ◌∷◌, ◌++◌, length, map, Option, Some, None, Result, Ok, Err, refl, ◌∙◌, ap, arith, length-append}
use Rattle.std.proofs.lemmas.Bool.Decides.{nat_tests}
use Rattle.std.specs.Prelude.{nat_eq, nat_lt, pred}
use Rattle.ar_syntax.specs.Grammar.{Rules, ends_bracket, may_continue, may_open, takes_all, takes_more}
use Rattle.ar_syntax.specs.Machine.{Argued, Body, Braced, Frame, Grouped, Have, Indexed, Listed, Else, Prefixed, RightOf, ParserState, Then, argue, close_empty, close_text, end_with, have, parser_step, when, whole}
use Rattle.ar_syntax.specs.Condition.{at_any_depth, of_any_count, of_any_items, strict}
use Rattle.ar_syntax.specs.Roles.{Call, Colon, Comma, Default, EndBrace, EndBracket, EndGroup, Ender, Ends, Follow, IsNil, Len, Over, arity, is_body, is_brace}
use Rattle.ar_syntax.specs.Private.Frames.{unwinds}
use Rattle.ar_syntax.specs.Private.Steps.{IsOperand, Steps, fault_by, forbids, is_empty_call}
use Rattle.ar_value.specs.Answer.{Unless}
use Rattle.ar_syntax.specs.Spelling.{is_syntax_memory}
use Rattle.ar_syntax.specs.Parse.{state_after}
use Rattle.ar_syntax.proofs.Answers.{unless_holds}
use Rattle.ar_syntax.specs.Fault.{accepts, fault_of, is_inside, kind_fault, wants_operand}
use Rattle.ar_syntax.specs.declared.error.SyntaxError.TheVariants.{TooDeep, TooManyItems, WrongCount}
use Rattle.ar_tree.specs.Views.{expression_of}
use Rattle.ar_tree.specs.Expression.{Expression, FieldAt, LiteralAt}
use Rattle.ar_syntax.specs.declared.state.Refusal.{Refusal}
use Rattle.ar_syntax.specs.declared.state.State as rust
use Rattle.ar_syntax.specs.declared.token.Token.{Token}
use Rattle.ar_tree.specs.declared.tree.Literal.TheVariants.{Text}
use Rattle.ar_tree.specs.declared.tree.Tree.{Tree}
use Rattle.ar_syntax.specs.declared.state.Refusal.TheVariants.{Arguments, Depth, Items, OutOfMemory, Other}
use Rattle.ar_syntax.proofs.Starts.{start_by}

pub length_of_map : (xs : List Tree) → length (map expression_of xs) ≡ length xs
length_of_map [] = refl
length_of_map (x ∷ xs) = ap suc (length_of_map xs)

pub opener_left : (n : ℕ) (state : ParserState) → (n ≡ 0 → ⊥) → when strict (may_open strict n) state ≡ Some state
opener_left zero state h = absurd (h refl)
opener_left (suc n) state h = let some : nat_lt 0 (suc n) ≡ true = grind (arith, nat_tests) in rw some refl

pub no_opener_left : (n : ℕ) (state : ParserState) → n ≡ 0 → (when strict (may_open strict n) state ≡ None) × (forbids (λ rules. when rules (may_open rules n) state) ≡ Depth)
no_opener_left n state h = rw h (refl, refl)

pub item_left : (items : List Tree) (n : ℕ) (state : ParserState) → n ≡ length items → n < 16 → when strict (may_continue strict (length (map expression_of items))) state ≡ Some state
item_left items n state is below = let some : nat_lt (length (map expression_of items)) 16 ≡ true = rw (length_of_map items) (grind (arith, nat_tests)) in rw some refl

pub no_item_left : (items : List Tree) (n : ℕ) (state : ParserState) → n ≡ length items → 16 ≤ n
    → (when strict (may_continue strict (length (map expression_of items))) state ≡ None) × (forbids (λ rules. when rules (may_continue rules (length (map expression_of items))) state) ≡ Items)
no_item_left items n state is past = let none : nat_lt (length (map expression_of items)) 16 ≡ false = rw (length_of_map items) (grind (arith, nat_tests)) in rw none (refl, refl)

pub argument_left : (function : Call) (arguments : List Tree) (n : ℕ) (state : ParserState) → n ≡ length arguments → n < arity function → when strict (takes_more strict function (length (map expression_of arguments))) state ≡ Some state
argument_left function arguments n state is below = let some : nat_lt (length (map expression_of arguments)) (arity function) ≡ true = rw (length_of_map arguments) (grind (arith, nat_tests)) in rw some refl

pub no_argument_left : (function : Call) (arguments : List Tree) (n : ℕ) (state : ParserState) → n ≡ length arguments → arity function ≤ n
    → (when strict (takes_more strict function (length (map expression_of arguments))) state ≡ None) × (forbids (λ rules. when rules (takes_more rules function (length (map expression_of arguments))) state) ≡ Arguments)
no_argument_left function arguments n state is past = let none : nat_lt (length (map expression_of arguments)) (arity function) ≡ false = rw (length_of_map arguments) (grind (arith, nat_tests)) in rw none (refl, refl)

pub all_arguments : (function : Call) (arguments : List Tree) (n : ℕ) (state : ParserState) → n ≡ length arguments → n ≡ arity function → when strict (takes_all strict function (length (map expression_of arguments))) state ≡ Some state
all_arguments function arguments n state is all = let some : nat_eq (length (map expression_of arguments)) (arity function) ≡ true = rw (length_of_map arguments) (grind (arith, nat_tests)) in rw some refl

pub not_all_arguments : (function : Call) (arguments : List Tree) (n : ℕ) (state : ParserState) → n ≡ length arguments → (n ≡ arity function → ⊥)
    → (when strict (takes_all strict function (length (map expression_of arguments))) state ≡ None) × (forbids (λ rules. when rules (takes_all rules function (length (map expression_of arguments))) state) ≡ Arguments)
not_all_arguments function arguments n state is other = let none : nat_eq (length (map expression_of arguments)) (arity function) ≡ false = rw (length_of_map arguments) (grind (arith, nat_tests)) in rw none (refl, refl)

-- a text after which no bracket closes is an operand
pub text_is_operand : (rules : Rules) (stack : List Frame) (at : ℕ) (whole : Expression) (text_at : ℕ) (text : List ℕ) (token : Token) (role : Follow) → ends_bracket role ≡ false
    → close_text rules stack at whole text_at text token role ≡ have rules (Indexed at whole ∷ stack) (LiteralAt text_at (Text text)) token
text_is_operand rules stack at whole text_at text token (Ends EndBracket) h = absurd cc
text_is_operand rules stack at whole text_at text token role h = refl

-- a token that closes a bracket closes it after a text
pub text_is_name : (rules : Rules) (stack : List Frame) (at : ℕ) (whole : Expression) (text_at : ℕ) (text : List ℕ) (token : Token) (role : Follow) → ends_bracket role ≡ true
    → close_text rules stack at whole text_at text token role ≡ Some (Have stack (FieldAt at whole text))
text_is_name rules stack at whole text_at text token (Ends EndBracket) h = refl
text_is_name rules stack at whole text_at text token role h = absurd cc

pub text_continues : (old stack : List Frame) (at : ℕ) (whole : Expression) (text_at : ℕ) (text : List ℕ) (token : Token) (role : Follow) (r : Result rust.State Refusal) → ends_bracket role ≡ false
    → Steps (λ rules. have rules (Indexed at whole ∷ old) (LiteralAt text_at (Text text)) token) stack r
    → Steps (λ rules. close_text rules old at whole text_at text token role) stack r
text_continues old stack at whole text_at text token (Ends EndBracket) r h proceeds = absurd cc
text_continues old stack at whole text_at text token role r h proceeds = proceeds

-- and an operand is there
pub text_gives_field : (stack : List Frame) (at : ℕ) (whole : Expression) (text_at : ℕ) (text : List ℕ) (token : Token) (role : Follow) (r : Result rust.State Refusal) → ends_bracket role ≡ true
    → IsOperand (FieldAt at whole text) r → Steps (λ rules. close_text rules stack at whole text_at text token role) stack r
text_gives_field stack at whole text_at text token (Ends EndBracket) r h is = is stack
text_gives_field stack at whole text_at text token role r h is = absurd cc

gives_operand : (steps : Rules → Option ParserState) (stack : List Frame) (tree : Expression) (r : Result rust.State Refusal) → steps strict ≡ Some (Have stack tree) → IsOperand tree r → Steps steps stack r
gives_operand steps stack tree (Ok state) leads is = leads ∙ is stack
gives_operand steps stack tree (Err OutOfMemory) leads is = tt
gives_operand steps stack tree (Err refusal) leads is = let none : Some (Have stack tree) ≡ None = (is stack).0 in absurd cc

pub one_argument : (arguments rest : List Tree) (last : Tree) → arguments ≡ rest ++ last ∷ [] → length arguments ≡ 1 → map expression_of arguments ≡ expression_of last ∷ []
one_argument arguments [] last e one = rw e refl
one_argument arguments (first ∷ rest) last e one = absurd (omega (arith, one, ap length e, length-append rest (last ∷ [])))

pub two_arguments : (arguments rest others : List Tree) (first last : Tree) → arguments ≡ rest ++ last ∷ [] → rest ≡ others ++ first ∷ [] → length arguments ≡ 2
    → map expression_of arguments ≡ expression_of first ∷ expression_of last ∷ []
two_arguments arguments rest [] first last e f two = rw (e, f) refl
two_arguments arguments rest (other ∷ others) first last e f two = absurd (omega (arith, two, ap length e, ap length f, length-append rest (last ∷ []), length-append others (first ∷ [])))

-- a call with all arguments is an operand
pub call_gives_operand : (function : Call) (arguments : List Tree) (n : ℕ) (stack : List Frame) (tree : Expression) (r : Result rust.State Refusal) → n ≡ length arguments → n ≡ arity function
    → IsOperand tree r → Steps (λ rules. when rules (takes_all rules function (length (map expression_of arguments))) (Have stack tree)) stack r
call_gives_operand function arguments n stack tree r is all given =
    gives_operand (λ rules. when rules (takes_all rules function (length (map expression_of arguments))) (Have stack tree)) stack tree r (all_arguments function arguments n (Have stack tree) is all) given

below_two : (n : ℕ) → n < 2 → nat_lt 0 (pred n) ≡ false
below_two zero h = refl
below_two (suc zero) h = refl
below_two (suc (suc n)) h = absurd (omega arith)

above_one : (n : ℕ) → (n < 2 → ⊥) → nat_lt 0 (pred n) ≡ true
above_one zero h = absurd (h (omega arith))
above_one (suc zero) h = absurd (h (omega arith))
above_one (suc (suc n)) h = grind (arith, nat_tests)

pub braces_left : (n : ℕ) (state : ParserState) → 2 ≤ n → when strict (may_open strict (pred n)) state ≡ Some state
braces_left n state h = let some : nat_lt 0 (pred n) ≡ true = above_one n (λ below. omega arith) in rw some refl

pub no_braces_left : (n : ℕ) (state : ParserState) → n < 2 → (when strict (may_open strict (pred n)) state ≡ None) × (forbids (λ rules. when rules (may_open rules (pred n)) state) ≡ Depth)
no_braces_left n state h = let none : nat_lt 0 (pred n) ≡ false = below_two n h in rw none (refl, refl)

-- `)` directly after `(` ends no call, and it is the number of arguments that forbids it
pub empty_call : (stack : List Frame) (at : ℕ) (function : Call) (token : Token) (so_far : List Expression) (role : Follow) → is_empty_call so_far role ≡ true
    → (close_empty strict stack at function token so_far role ≡ None) × (forbids (λ rules. close_empty rules stack at function token so_far role) ≡ Arguments)
empty_call stack at Len token [] (Ends EndGroup) h = (refl, refl)
empty_call stack at IsNil token [] (Ends EndGroup) h = (refl, refl)
empty_call stack at Default token [] (Ends EndGroup) h = (refl, refl)
empty_call stack at (Over predicate) token [] (Ends EndGroup) h = (refl, refl)
empty_call stack at function token so_far role h = absurd cc

-- else an argument is there
pub argument_begins : (old stack : List Frame) (at : ℕ) (function : Call) (token : Token) (so_far : List Expression) (role : Follow) (r : Result rust.State Refusal) → is_empty_call so_far role ≡ false
    → Steps (λ rules. argue rules old at function so_far token (start_by (is_body function (length so_far)) (is_brace token))) stack r
    → Steps (λ rules. close_empty rules old at function token so_far role) stack r
argument_begins old stack at function token [] (Ends EndGroup) r h begins = absurd cc
argument_begins old stack at function token so_far role r h begins = begins

chosen : (count items depth wants inside : Bool) (token : Token)
    → (if count then WrongCount token.span.start else (if items then TooManyItems token.span.start else (if depth then TooDeep token.span.start else kind_fault wants inside token.kind token.span.start)))
    ≡ fault_by (if count then Arguments else (if items then Items else (if depth then Depth else Other))) wants inside token
chosen true items depth wants inside token = refl
chosen false true depth wants inside token = refl
chosen false false true wants inside token = refl
chosen false false false wants inside token = refl

-- the name of a fault, by the limit that alone forbids the token
pub fault_forbidden : (state : ParserState) (token : Token) (refusal : Refusal) (wants inside : Bool) → forbids (λ rules. parser_step rules state token) ≡ refusal → wants ≡ wants_operand state → inside ≡ is_inside state
    → fault_of state token ≡ fault_by refusal wants inside token
unfolding fault_of
fault_forbidden state token refusal wants inside is is_wants is_inside_ =
    rw (← is, is_wants, is_inside_) (chosen (accepts (parser_step of_any_count state token)) (accepts (parser_step of_any_items state token)) (accepts (parser_step at_any_depth state token)) (wants_operand state) (is_inside state) token)

refused : (state : ParserState) (token : Token) (refusal : Refusal) (wants inside : Bool) → (parser_step strict state token ≡ None) × (forbids (λ rules. parser_step rules state token) ≡ refusal) → wants ≡ wants_operand state → inside ≡ is_inside state
    → Unless (is_syntax_memory (fault_by refusal wants inside token)) (state_after state token (parser_step strict state token) ≡ Err (fault_by refusal wants inside token))
refused state token refusal wants inside h is_wants is_in_predicate =
    unless_holds (is_syntax_memory (fault_by refusal wants inside token)) (state_after state token (parser_step strict state token) ≡ Err (fault_by refusal wants inside token)) (rw h.0 (ap Err (fault_forbidden state token refusal wants inside h.1 is_wants is_in_predicate)))

-- a step that is refused is refused by its name
pub stepped_refused : (state : ParserState) (token : Token) (refusal : Refusal) (wants inside : Bool) (stack : List Frame) → Steps (λ rules. parser_step rules state token) stack (Err refusal) → wants ≡ wants_operand state → inside ≡ is_inside state
    → Unless (is_syntax_memory (fault_by refusal wants inside token)) (state_after state token (parser_step strict state token) ≡ Err (fault_by refusal wants inside token))
stepped_refused state token OutOfMemory wants inside stack h is_wants is_in_predicate = tt
stepped_refused state token Arguments wants inside stack h is_wants is_in_predicate = refused state token Arguments wants inside h is_wants is_in_predicate
stepped_refused state token Items wants inside stack h is_wants is_in_predicate = refused state token Items wants inside h is_wants is_in_predicate
stepped_refused state token Depth wants inside stack h is_wants is_in_predicate = refused state token Depth wants inside h is_wants is_in_predicate
stepped_refused state token Other wants inside stack h is_wants is_in_predicate = refused state token Other wants inside h is_wants is_in_predicate

-- tokens that end with frames left have no tree
pub no_whole : (stack : List Frame) (tree : Expression) (state : ParserState) → Have stack tree ≡ state → (length stack ≡ 0 → ⊥) → None ≡ whole state
no_whole [] tree state is some = absurd (some refl)
no_whole (frame ∷ stack) tree state is some = rw (← is) refl

-- ---- what ends nothing

module _ (stack : List Frame) (tree : Expression) where
  -- no sign ends a phrase that an operand ends
  pub no_end : (ender : Ender) (frame : Frame) → unwinds frame ≡ true → Steps (λ rules. end_with rules ender (Have (frame ∷ stack) tree)) stack (Err Other)
  no_end Comma (RightOf at operator first) is = (refl, refl)
  no_end Comma (Prefixed at operator) is = (refl, refl)
  no_end Comma (Else at condition then_branch) is = (refl, refl)
  no_end Colon (RightOf at operator first) is = (refl, refl)
  no_end Colon (Prefixed at operator) is = (refl, refl)
  no_end Colon (Else at condition then_branch) is = (refl, refl)
  no_end EndGroup (RightOf at operator first) is = (refl, refl)
  no_end EndGroup (Prefixed at operator) is = (refl, refl)
  no_end EndGroup (Else at condition then_branch) is = (refl, refl)
  no_end EndBracket (RightOf at operator first) is = (refl, refl)
  no_end EndBracket (Prefixed at operator) is = (refl, refl)
  no_end EndBracket (Else at condition then_branch) is = (refl, refl)
  no_end EndBrace (RightOf at operator first) is = (refl, refl)
  no_end EndBrace (Prefixed at operator) is = (refl, refl)
  no_end EndBrace (Else at condition then_branch) is = (refl, refl)
  no_end ender (Then at condition) is = absurd cc
  no_end ender Grouped is = absurd cc
  no_end ender (Listed at so_far) is = absurd cc
  no_end ender (Indexed at list) is = absurd cc
  no_end ender (Argued at function so_far) is = absurd cc
  no_end ender (Body at function so_far) is = absurd cc
  no_end ender (Braced at function so_far) is = absurd cc

-- nor where no phrase is begun
pub nothing_ends : (ender : Ender) (tree : Expression) → Steps (λ rules. end_with rules ender (Have [] tree)) [] (Err Other)
nothing_ends Comma tree = (refl, refl)
nothing_ends Colon tree = (refl, refl)
nothing_ends EndGroup tree = (refl, refl)
nothing_ends EndBracket tree = (refl, refl)
nothing_ends EndBrace tree = (refl, refl)
