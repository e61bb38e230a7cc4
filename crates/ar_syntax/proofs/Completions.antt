-- What begins a condition is what the machine reads: each state that it reaches has tokens that end a condition.
use Rattle.std.proofs.Common.{◌≡◌, ◌≢◌, ℕ, zero, suc, ◌+◌, ◌-◌, ◌≤◌, Bool, true, false, List, [], ◌∷◌, ◌++◌, length, refl, sym, ◌∙◌, ap, subst, arith, Option, Some, None}
use Rattle.std.specs.Prelude.{pred}
use Rattle.ar_tree.specs.Expression.{Expression, FieldAt, IndexAt, LiteralAt, UnaryAt, BinaryAt, ChoiceAt, ListAt, expressions}
use Rattle.ar_syntax.specs.Grammar.{Arguments, ArgumentsAfter, Further, ListItems, ItemsAfter, Phrase, Primary, Rules, Selections, may_continue, may_open, most_openers, takes_all, takes_more, ternary}
use Rattle.ar_syntax.specs.Grammar as grammar
use Rattle.ar_syntax.specs.Machine.{Frame, ParserState, RightOf, Prefixed, Then, Else, Grouped, Listed, Indexed, Argued, Body, Braced, Want, Have, WantName, WantIndex, HaveText, WantIn, WantGroup, WantArgument, HaveArgument, in_predicate, openers_left, wanted}
use Rattle.ar_syntax.specs.Roles.{Call, Ends, Comma, Colon, EndGroup, EndBracket, EndBrace, called, follows, is_body, is_group, is_in, precedence, field_name_of, begun_by, literal_text}
use Rattle.ar_syntax.specs.declared.token.Token.{Token}
use Rattle.ar_syntax.specs.declared.token.Sign.TheVariants as signs
use Rattle.ar_syntax.specs.declared.token.Word.TheVariants as words
use Rattle.ar_syntax.specs.declared.token.TokenKind.{TokenKind}
use Rattle.ar_syntax.specs.declared.token.TokenKind.TheVariants as kinds
use Rattle.ar_tree.specs.declared.tree.Binary.TheVariants.{NotIn}
use Rattle.ar_tree.specs.declared.tree.Literal.TheVariants.{Text}
use Rattle.ar_tree.specs.declared.tree.Literal.TheVariants as literals
use Rattle.ar_syntax.specs.Grammar.{ends_bracket, is_alone, is_text_alone}
use Rattle.ar_syntax.specs.Roles.{Leaf}
use Rattle.ar_syntax.proofs.Leads.{Had, Argument, After, Wanted, TextClosed, Inner, Called, Leads}
use Rattle.ar_syntax.proofs.Passes.{phrase-up, rise-stay}
use Rattle.ar_syntax.specs.Grammar.{DerivesBy}
use Rattle.ar_syntax.specs.Machine.{run, start_state, step_from, whole}
use Rattle.std.specs.Prelude.{nat_eq, nat_lt, ◌||◌, pos}
use Rattle.std.proofs.Common.{inl, inr, length-append}
use Rattle.std.proofs.lemmas.Bool.Decides.{nat_tests}
use Rattle.ar_syntax.specs.Grammar.{BeginsBy}
use Rattle.ar_syntax.specs.Machine.{finished_from, reached}
use Rattle.ar_syntax.specs.Roles.{arity}
use Rattle.ar_syntax.proofs.Runs.{IsState, IsStateFrom}
use Rattle.ar_syntax.proofs.OneTree.{DerivesBy-from_tree_by, from-end, keeps_from, run-to, tree_by-DerivesBy}
use Rattle.ar_syntax.proofs.Counts.{Fits, IsCounted, IsCountedFrom, IsCountedState, counts, next_fits, takes_one}
use Rattle.std.proofs.Math.Bool.{or-true}

-- ---- tokens to end with

unfoldable pub token_of : TokenKind → Token
token_of kind = record { kind = kind; span = record { start = 0; end = 0 } }

unfoldable pub digit : Token
digit = token_of (kinds.Whole (pos 0))

abbrev zero_leaf : Expression
zero_leaf = LiteralAt 0 (literals.Whole (pos 0))

digit-starts : (b : Bool) → begun_by b digit ≡ Leaf zero_leaf
unfolding begun_by digit token_of
digit-starts b = refl

no_text : literal_text digit ≡ None
unfolding literal_text digit token_of
no_text = refl

comma : Token
comma = token_of (kinds.Sign signs.Comma)

comma-follows : follows comma ≡ Ends Comma
unfolding follows comma token_of
comma-follows = refl

colon : Token
colon = token_of (kinds.Sign signs.Colon)

colon-follows : follows colon ≡ Ends Colon
unfolding follows colon token_of
colon-follows = refl

unfoldable pub group_end : Token
group_end = token_of (kinds.Sign signs.CloseParenthesis)

pub group_end-follows : follows group_end ≡ Ends EndGroup
unfolding follows group_end token_of
group_end-follows = refl

bracket_end : Token
bracket_end = token_of (kinds.Sign signs.CloseBracket)

bracket_end-follows : follows bracket_end ≡ Ends EndBracket
unfolding follows bracket_end token_of
bracket_end-follows = refl

brace_end : Token
brace_end = token_of (kinds.Sign signs.CloseBrace)

brace_end-follows : follows brace_end ≡ Ends EndBrace
unfolding follows brace_end token_of
brace_end-follows = refl

unfoldable pub group : Token
group = token_of (kinds.Sign signs.OpenParenthesis)

pub group-is : is_group group ≡ true
unfolding is_group group token_of
group-is = refl

unfoldable pub in_word : Token
in_word = token_of (kinds.Word words.In)

pub in_word-is : is_in in_word ≡ true
unfolding is_in in_word token_of
in_word-is = refl

unfoldable pub name : Token
name = token_of (kinds.Name [])

pub name-is : field_name_of name ≡ Some []
unfolding field_name_of name token_of
name-is = refl

module _ (rules : Rules) where
  -- a number is a phrase of each level
  digit-phrase : (w : ℕ) (b : Bool) (n : ℕ) (rest : List Token) → (at : ℕ) × Phrase rules w b n (digit ∷ rest) zero_leaf rest
  digit-phrase w b n rest =
      let up = phrase-up rules w 0 w b n (λ tree later. (tree ≡ zero_leaf) × (later ≡ rest)) (digit ∷ rest) (omega arith) zero_leaf rest
      (grammar.postfixed (grammar.leaf (digit-starts b)) grammar.nothing_more) (rise-stay rules w 0 b n (λ tree later. (tree ≡ zero_leaf) × (later ≡ rest)) zero_leaf rest (refl, refl)) in
      (0, subst (λ (later : List Token). Phrase rules w b n (digit ∷ rest) zero_leaf later) up.3.1 (subst (λ (tree : Expression). Phrase rules w b n (digit ∷ rest) tree up.1) up.3.0 up.2))

  abbrev Completes : List Frame → Type 0
  Completes stack = (tree : Expression) → (final : Expression) × (tokens : List Token) × After rules final stack tree tokens

  complete-had : (stack : List Frame) → Completes stack → (tree : Expression) → (final : Expression) × (tokens : List Token) × Had rules stack (After rules final stack) tree tokens
  complete-had stack completes tree =
      let end = completes tree in
      (end.0, end.1, (tree, end.1, grammar.nothing_more, rise-stay rules (wanted stack) 0 (in_predicate stack) (openers_left stack) (After rules end.0 stack) tree end.1 end.2))

  -- one argument more
  digit-argument : (stack : List Frame) (function : Call) (so_far arguments : List Expression) (mid rest : List Token) → ArgumentsAfter rules (in_predicate stack) (pred (openers_left stack)) function (so_far ++ zero_leaf ∷ []) mid arguments rest
      → Arguments rules (in_predicate stack) (pred (openers_left stack)) function so_far (digit ∷ mid) arguments rest
  digit-argument stack function so_far arguments mid rest later = chosen (is_body function (length so_far)) refl
    where
      chosen : (body : Bool) → is_body function (length so_far) ≡ body → Arguments rules (in_predicate stack) (pred (openers_left stack)) function so_far (digit ∷ mid) arguments rest
      chosen false is = grammar.argument is (digit-phrase ternary (in_predicate stack) (pred (openers_left stack)) mid).1 later
      chosen true is = grammar.body is (digit-phrase ternary true (pred (openers_left stack)) mid).1 later

  module _ (stack : List Frame) (completes : Completes stack) (at : ℕ) (function : Call) where
    all-arguments : (so_far : List Expression) → takes_all rules function (length so_far) ≡ true → (final : Expression) × (tokens : List Token) × Argument rules stack at function so_far (After rules final stack) tokens
    all-arguments so_far all =
        let had = complete-had stack completes (called at function so_far) in
        (had.0, group_end ∷ had.1, (so_far, had.1, grammar.last_argument group_end-follows all, had.2))

    -- n further arguments are enough
    some-arguments : (k : ℕ) (so_far : List Expression) → arity function ≤ length so_far + k → Fits rules function so_far → (final : Expression) × (tokens : List Token) × Argument rules stack at function so_far (After rules final stack) tokens
    some-arguments k so_far enough (inl all) = all-arguments so_far all
    some-arguments zero so_far enough (inr more) = all-arguments so_far (full (length so_far) (arity function) rules.any_count (omega (arith, enough)) more)
      where
        full : (n a : ℕ) (any : Bool) → a ≤ n → (nat_lt n a || any) ≡ true → (nat_eq n a || any) ≡ true
        full n a true below more = or-true (nat_eq n a)
        full n a false below more = grind (arith, nat_tests)
    some-arguments (suc k) so_far enough (inr more) =
        let later = some-arguments k (so_far ++ zero_leaf ∷ []) (omega (arith, enough, length-append so_far (zero_leaf ∷ []))) (next_fits rules function so_far zero_leaf more) in
        let inner = later.2 in
        (later.0, comma ∷ digit ∷ later.1, (inner.0, inner.1, grammar.comma_argument comma-follows more (digit-argument stack function so_far inner.0 later.1 inner.1 inner.2), inner.3))

    complete-arguments : (so_far : List Expression) → Fits rules function so_far → (final : Expression) × (tokens : List Token) × Argument rules stack at function so_far (After rules final stack) tokens
    complete-arguments so_far fits = some-arguments (arity function) so_far (omega arith) fits

  complete : (stack : List Frame) → IsCounted rules stack → Completes stack
  complete [] is tree = (tree, [], (refl, refl))
  complete (RightOf at operator first ∷ stack) is tree =
      let end = complete stack is (BinaryAt at operator first tree) in
      (end.0, end.1, rise-stay rules (wanted stack - precedence operator) (precedence operator) (in_predicate stack) (openers_left stack) (After rules end.0 stack) (BinaryAt at operator first tree) end.1 end.2)
  complete (Prefixed at operator ∷ stack) is tree =
      let end = complete stack is (UnaryAt at operator tree) in
      (end.0, end.1, rise-stay rules (wanted stack) 0 (in_predicate stack) (openers_left stack) (After rules end.0 stack) (UnaryAt at operator tree) end.1 end.2)
  complete (Then at condition ∷ stack) is tree =
      let end = complete stack is (ChoiceAt at condition tree zero_leaf) in
      (end.0, colon ∷ digit ∷ end.1, (colon-follows, (zero_leaf, end.1, (digit-phrase ternary (in_predicate stack) (pred (openers_left stack)) end.1).1, end.2)))
  complete (Else at condition then_branch ∷ stack) is tree = complete stack is (ChoiceAt at condition then_branch tree)
  complete (Grouped ∷ stack) is tree =
      let had = complete-had stack (complete stack is) tree in
      (had.0, group_end ∷ had.1, (group_end-follows, had.2))
  complete (Listed at so_far ∷ stack) is tree =
      let had = complete-had stack (complete stack is) (ListAt at (expressions (so_far ++ tree ∷ []))) in
      (had.0, bracket_end ∷ had.1, (so_far ++ tree ∷ [], had.1, grammar.last_item bracket_end-follows, had.2))
  complete (Indexed at whole ∷ stack) is tree =
      let had = complete-had stack (complete stack is) (IndexAt at whole tree) in
      (had.0, bracket_end ∷ had.1, (bracket_end-follows, had.2))
  complete (Argued at function so_far ∷ stack) is tree = complete-arguments stack (complete stack is.1) at function (so_far ++ tree ∷ []) (next_fits rules function so_far tree is.0)
  complete (Body at function so_far ∷ stack) is tree = complete-arguments stack (complete stack is.1) at function (so_far ++ tree ∷ []) (next_fits rules function so_far tree is.0)
  complete (Braced at function so_far ∷ stack) is tree =
      let later = complete-arguments stack (complete stack is.2) at function (so_far ++ tree ∷ []) (next_fits rules function so_far tree is.0) in
      (later.0, brace_end ∷ later.1, (brace_end-follows, later.2))

  complete-want : (stack : List Frame) → IsCounted rules stack → (final : Expression) × (tokens : List Token) × Wanted rules final stack (digit ∷ tokens)
  complete-want stack is =
      let end = complete stack is zero_leaf in
      (end.0, end.1, (zero_leaf, end.1, (digit-phrase (wanted stack) (in_predicate stack) (openers_left stack) end.1).1, end.2))

  complete-argument : (stack : List Frame) (at : ℕ) (function : Call) (so_far : List Expression) → IsCounted rules stack → takes_more rules function (length so_far) ≡ true → (final : Expression) × (tokens : List Token) × Called rules final stack at function so_far tokens
  complete-argument stack at function so_far is more =
      let later = complete-arguments stack (complete stack is) at function (so_far ++ zero_leaf ∷ []) (next_fits rules function so_far zero_leaf more) in
      let inner = later.2 in
      (later.0, digit ∷ later.1, (inner.0, inner.1, digit-argument stack function so_far inner.0 later.1 inner.1 inner.2, inner.3))

  -- some tokens after a state lead to a tree
  pub complete-state : (state : ParserState) → IsCountedState rules state → (final : Expression) × (tokens : List Token) × Leads rules final state tokens
  complete-state (Want stack) is = let wants = complete-want stack is in (wants.0, digit ∷ wants.1, wants.2)
  complete-state (Have stack tree) is = complete-had stack (complete stack is) tree
  complete-state (WantName stack at whole) is = let had = complete-had stack (complete stack is) (FieldAt at whole []) in (had.0, name ∷ had.1, ([], name-is, had.2))
  complete-state (WantIndex stack at whole) is =
      let wants = complete-want (Indexed at whole ∷ stack) is in
      (wants.0, digit ∷ wants.1, subst (Inner rules wants.0 stack at whole digit wants.1) (sym no_text) wants.2)
  complete-state (HaveText stack at whole text_at text) is =
      let had = complete-had stack (complete stack is) (FieldAt at whole text) in
      (had.0, bracket_end ∷ had.1, subst (TextClosed rules had.0 stack at whole text_at text bracket_end had.1) (sym bracket_end-follows) had.2)
  complete-state (WantIn stack at first) is = let wants = complete-want (RightOf at NotIn first ∷ stack) is in (wants.0, in_word ∷ digit ∷ wants.1, (in_word-is, wants.2))
  complete-state (WantGroup stack at function) is = let called = complete-argument stack at function [] is (takes_one rules function) in (called.0, group ∷ called.1, (group-is, called.2))
  complete-state (WantArgument stack at function so_far) is = complete-argument stack at function so_far is.1 is.0
  complete-state (HaveArgument stack at function arguments) is = complete-arguments stack (complete stack is.1) at function arguments (inl is.0)

  -- ---- what begins a condition

  pub run-append : (state : Option ParserState) (first second : List Token) → run rules state (first ++ second) ≡ run rules (run rules state first) second
  run-append state [] second = refl
  run-append state (c ∷ first) second = run-append (step_from rules state c) first second

  pub run-none : (tokens : List Token) → run rules None tokens ≡ None
  run-none [] = refl
  run-none (c ∷ tokens) = run-none tokens

  pub reached-is : (state : Option ParserState) (tokens : List Token) → IsStateFrom state → IsStateFrom (run rules state tokens)
  reached-is state [] is = is
  reached-is state (c ∷ tokens) is = reached-is (step_from rules state c) tokens (keeps_from rules zero_leaf state c is)

  counts_from : (state : Option ParserState) (c : Token) → IsCountedFrom rules state → IsCountedFrom rules (step_from rules state c)
  counts_from (Some state) c is = counts rules state c is
  counts_from None c is = tt

  pub reached-counted : (state : Option ParserState) (tokens : List Token) → IsCountedFrom rules state → IsCountedFrom rules (run rules state tokens)
  reached-counted state [] is = is
  reached-counted state (c ∷ tokens) is = reached-counted (step_from rules state c) tokens (counts_from state c is)

  -- tokens that reach a state begin a condition
  pub BeginsBy-reached : (tokens : List Token) (state : ParserState) → reached rules tokens ≡ Some state → BeginsBy rules tokens
  BeginsBy-reached tokens state there =
      let is : IsState state = subst IsStateFrom there (reached-is (Some start_state) tokens tt) in
      let counted : IsCountedState rules state = subst (IsCountedFrom rules) there (reached-counted (Some start_state) tokens tt) in
      let end = complete-state state counted in
      let finished_is = from-end rules end.0 (run rules (Some state) end.1) (run-to rules end.0 (Some state) end.1 is end.2) in
      (end.1, end.0, DerivesBy-from_tree_by rules end.0 (tokens ++ end.1) (ap finished_from (run-append (Some start_state) tokens end.1 ∙ ap (λ (s : Option ParserState). run rules s end.1) there) ∙ finished_is))

  -- and those that begin a condition reach one
  pub reached-BeginsBy : (tokens : List Token) → BeginsBy rules tokens → reached rules tokens ≢ None
  reached-BeginsBy tokens begins none =
      let e = tree_by-DerivesBy rules begins.1 (tokens ++ begins.0) begins.2 in
      let f = ap finished_from (run-append (Some start_state) tokens begins.0 ∙ ap (λ (s : Option ParserState). run rules s begins.0) none ∙ run-none begins.0) in
      absurd cc
