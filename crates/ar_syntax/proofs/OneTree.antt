-- Tokens derive the tree that the machine finishes with, and no other.
use Rattle.std.proofs.Common.{◌≡◌, ℕ, ◌-◌, true, false, List, [], ◌∷◌, refl, ap, subst, Option, Some, None}
use Rattle.std.specs.Prelude.{pred}
use Rattle.ar_tree.specs.Expression.{Expression, UnaryAt, BinaryAt, ChoiceAt}
use Rattle.ar_syntax.specs.Grammar.{Arguments, ArgumentsAfter, Further, ListItems, ItemsAfter, Phrase, Primary, Rules, Selections, may_continue, may_open, most_openers, takes_all, takes_more, ternary}
use Rattle.ar_syntax.specs.Grammar as grammar
use Rattle.ar_syntax.specs.Machine.{Frame, ParserState, RightOf, Prefixed, Then, Else, Grouped, Listed, Indexed, Argued, Body, Braced, Want, Have, WantName, WantIndex, HaveText, WantIn, WantGroup, WantArgument, HaveArgument, in_predicate, openers_left, wanted}
use Rattle.ar_syntax.specs.Roles.{Call, precedence}
use Rattle.ar_syntax.specs.declared.token.Token.{Token}
use Rattle.ar_syntax.specs.Grammar.{ends_bracket, is_alone, is_text_alone}
use Rattle.ar_syntax.specs.Machine.{unwound}
use Rattle.ar_syntax.proofs.Leads.{After, Leads, LeadsFrom}
use Rattle.ar_syntax.proofs.Passes.{rise-end, rise-stay}
use Rattle.ar_syntax.specs.Grammar.{DerivesBy}
use Rattle.ar_syntax.specs.Machine.{finished, run, start_state, step_from, whole}
use Rattle.ar_syntax.proofs.Steps.{no_phrase_on, had-end, no_wanted}
use Rattle.ar_syntax.specs.Machine.{finished_from, reached, tree_by}
use Rattle.ar_syntax.proofs.Runs.{IsStateFrom, keeps, step-back, step-to}

module _ (rules : Rules) (final : Expression) where
  -- ---- the end

  no_called : (stack : List Frame) (at : ℕ) (function : Call) (so_far arguments : List Expression) (rest : List Token) → ¬ Arguments rules (in_predicate stack) (pred (openers_left stack)) function so_far [] arguments rest
  no_called stack at function so_far arguments rest (grammar.argument plain phrase later) = no_phrase_on rules (in_predicate stack) (pred (openers_left stack)) ternary _ _ phrase
  no_called stack at function so_far arguments rest (grammar.body body phrase later) = no_phrase_on rules true (pred (openers_left stack)) ternary _ _ phrase

  after-end : (stack : List Frame) (tree : Expression) → After rules final stack tree [] → whole (unwound stack tree) ≡ Some final
  after-end [] tree after = ap (λ (t : Expression). Some t) after.0
  after-end (RightOf at operator first ∷ stack) tree after =
      after-end stack (BinaryAt at operator first tree) (rise-end rules (wanted stack - precedence operator) (precedence operator) (in_predicate stack) (openers_left stack) (After rules final stack) (BinaryAt at operator first tree) after)
  after-end (Prefixed at operator ∷ stack) tree after = after-end stack (UnaryAt at operator tree) (rise-end rules (wanted stack) 0 (in_predicate stack) (openers_left stack) (After rules final stack) (UnaryAt at operator tree) after)
  after-end (Then at condition ∷ stack) tree after = absurd after
  after-end (Else at condition then_branch ∷ stack) tree after = after-end stack (ChoiceAt at condition then_branch tree) after
  after-end (Grouped ∷ stack) tree after = absurd after
  after-end (Listed at so_far ∷ stack) tree after = elim after.2 [ ]
  after-end (Indexed at whole ∷ stack) tree after = absurd after
  after-end (Argued at function so_far ∷ stack) tree after = elim after.2 [ ]
  after-end (Body at function so_far ∷ stack) tree after = elim after.2 [ ]
  after-end (Braced at function so_far ∷ stack) tree after = absurd after

  leads-end : (state : ParserState) → Leads rules final state [] → finished state ≡ Some final
  leads-end (Want stack) leads = absurd (no_wanted rules final stack leads)
  leads-end (Have stack tree) leads = after-end stack tree (had-end rules final stack tree leads)
  leads-end (WantName stack at whole) leads = absurd leads
  leads-end (WantIndex stack at whole) leads = absurd leads
  leads-end (HaveText stack at whole text_at text) leads = absurd leads
  leads-end (WantIn stack at first) leads = absurd leads
  leads-end (WantGroup stack at function) leads = absurd leads
  leads-end (WantArgument stack at function so_far) leads = absurd (no_called stack at function so_far leads.0 leads.1 leads.2)
  leads-end (HaveArgument stack at function arguments) leads = elim leads.2 [ ]

  -- and back
  end-after : (stack : List Frame) (tree : Expression) → whole (unwound stack tree) ≡ Some final → After rules final stack tree []
  end-after [] tree e = (cc, refl)
  end-after (RightOf at operator first ∷ stack) tree e =
      rise-stay rules (wanted stack - precedence operator) (precedence operator) (in_predicate stack) (openers_left stack) (After rules final stack) (BinaryAt at operator first tree) [] (end-after stack (BinaryAt at operator first tree) e)
  end-after (Prefixed at operator ∷ stack) tree e = rise-stay rules (wanted stack) 0 (in_predicate stack) (openers_left stack) (After rules final stack) (UnaryAt at operator tree) [] (end-after stack (UnaryAt at operator tree) e)
  end-after (Else at condition then_branch ∷ stack) tree e = end-after stack (ChoiceAt at condition then_branch tree) e
  end-after (frame ∷ stack) tree e = absurd cc

  end-leads : (state : ParserState) → finished state ≡ Some final → Leads rules final state []
  end-leads (Have stack tree) e = (tree, [], grammar.nothing_more, rise-stay rules (wanted stack) 0 (in_predicate stack) (openers_left stack) (After rules final stack) tree [] (end-after stack tree e))
  end-leads state e = absurd cc

  -- ---- all tokens

  step_from-to : (state : Option ParserState) (c : Token) (tokens : List Token) → IsStateFrom state → LeadsFrom rules final state (c ∷ tokens) → LeadsFrom rules final (step_from rules state c) tokens
  step_from-to (Some state) c tokens is leads = step-to rules final state c tokens is leads
  step_from-to None c tokens is leads = leads

  step_from-back : (state : Option ParserState) (c : Token) (tokens : List Token) → IsStateFrom state → LeadsFrom rules final (step_from rules state c) tokens → LeadsFrom rules final state (c ∷ tokens)
  step_from-back (Some state) c tokens is leads = step-back rules final state c tokens is leads
  step_from-back None c tokens is leads = leads

  pub keeps_from : (state : Option ParserState) (c : Token) → IsStateFrom state → IsStateFrom (step_from rules state c)
  keeps_from (Some state) c is = keeps rules state c is
  keeps_from None c is = tt

  pub run-to : (state : Option ParserState) (tokens : List Token) → IsStateFrom state → LeadsFrom rules final state tokens → LeadsFrom rules final (run rules state tokens) []
  run-to state [] is leads = leads
  run-to state (c ∷ tokens) is leads = run-to (step_from rules state c) tokens (keeps_from state c is) (step_from-to state c tokens is leads)

  run-back : (state : Option ParserState) (tokens : List Token) → IsStateFrom state → LeadsFrom rules final (run rules state tokens) [] → LeadsFrom rules final state tokens
  run-back state [] is leads = leads
  run-back state (c ∷ tokens) is leads = step_from-back state c tokens is (run-back (step_from rules state c) tokens (keeps_from state c is) leads)

  pub from-end : (state : Option ParserState) → LeadsFrom rules final state [] → finished_from state ≡ Some final
  from-end (Some state) leads = leads-end state leads
  from-end None leads = absurd leads

  end-from : (state : Option ParserState) → finished_from state ≡ Some final → LeadsFrom rules final state []
  end-from (Some state) e = end-leads state e
  end-from None e = absurd cc

  -- what is derived is finished with
  pub tree_by-DerivesBy : (tokens : List Token) → DerivesBy rules tokens final → tree_by rules tokens ≡ Some final
  tree_by-DerivesBy tokens derived = from-end (reached rules tokens) (run-to (Some start_state) tokens tt (final, [], derived, (refl, refl)))

  -- and what is finished with is derived
  pub DerivesBy-from_tree_by : (tokens : List Token) → tree_by rules tokens ≡ Some final → DerivesBy rules tokens final
  DerivesBy-from_tree_by tokens e =
      let leads = run-back (Some start_state) tokens tt (end-from (reached rules tokens) e) in
      subst (λ (rest : List Token). Phrase rules ternary false most_openers tokens final rest) leads.3.1 (subst (λ (t : Expression). Phrase rules ternary false most_openers tokens t leads.1) leads.3.0 leads.2)

-- tokens derive at most one tree
pub one_tree_by : (rules : Rules) (tokens : List Token) (first second : Expression) → DerivesBy rules tokens first → DerivesBy rules tokens second → first ≡ second
one_tree_by rules tokens first second derived derived' =
    let e = tree_by-DerivesBy rules first tokens derived in
    let e' = tree_by-DerivesBy rules second tokens derived' in
    cc
