-- One token: a state and tokens lead where the state after the first and the others do.
use Rattle.std.proofs.Common.{◌≡◌, ◌≢◌, ℕ, suc, ◌-◌, ◌<◌, Bool, true, false, List, [], ◌∷◌, ◌++◌, length, refl, sym, ◌∙◌, ap, subst, arith, Option, Some, None}
use Rattle.std.specs.Prelude.{pred}
use Rattle.ar_tree.specs.Expression.{Expression, FieldAt, IndexAt, ItemAt, LiteralAt, UnaryAt, BinaryAt, ChoiceAt, ListAt, expressions}
use Rattle.ar_syntax.specs.Grammar.{Arguments, ArgumentsAfter, Further, ListItems, ItemsAfter, Phrase, Primary, Rules, Selections, may_continue, may_open, most_openers, takes_all, takes_more, ternary}
use Rattle.ar_syntax.specs.Grammar as grammar
use Rattle.ar_syntax.specs.Machine.{Frame, ParserState, RightOf, Prefixed, Then, Else, Grouped, Listed, Indexed, Argued, Body, Braced, Have, in_predicate, openers_left, wanted}
use Rattle.ar_syntax.specs.Roles.{Call, Ender, Follow, Start, Ends, Comma, Colon, EndGroup, EndBracket, EndBrace, Operator, NotOf, Choose, Select, Open, NoFollow, called, follows, is_in, precedence, begun_by, literal_text}
use Rattle.ar_syntax.specs.declared.token.Token.{Token}
use Rattle.ar_syntax.specs.declared.token.TokenKind.{TokenKind}
use Rattle.ar_syntax.specs.declared.token.TokenKind.TheVariants as kinds
use Rattle.ar_tree.specs.declared.tree.Binary.{Binary}
use Rattle.ar_tree.specs.declared.tree.Binary.TheVariants.{NotIn}
use Rattle.ar_tree.specs.declared.tree.Literal.TheVariants.{Text}
use Rattle.ar_syntax.specs.Grammar.{ends_bracket, is_alone, is_text_alone}
use Rattle.ar_syntax.specs.Machine.{begun_with, choose, climbed, close_braced, end_with, followed_by, have, negate, operate, unwound, want, when}
use Rattle.ar_syntax.specs.Roles.{kind_start, kind_text, Leaf, Prefix, Group, Bracket, Calls, ItemPoint, NoStart}
use Rattle.ar_syntax.proofs.Leads.{Claim, Rise, Had, Ended, Chosen, Argument, After, Wanted, Named, TextClosed, TextThere, Inner, InBrackets, Negated, Opened, Leads, LeadsFrom}
use Rattle.ar_syntax.proofs.Passes.{Climbed, IsStack, Ready, climbed-is, low, wanted-le, climb-from, climb-to, level_of, phrase-down, phrase-up, rise-end, rise-pass, rise-stay, selected-end, selected-pass, stuck}

-- ---- no phrase is empty

no_phrase : (rules : Rules) (b : Bool) (n : ℕ) (mid : List Token) (first : Expression) → ¬ Phrase rules 0 b n [] first mid
no_phrase rules b n mid first (grammar.postfixed primary selections) = elim primary [ ]

pub no_phrase_on : (rules : Rules) (b : Bool) (n w : ℕ) (mid : List Token) (first : Expression) → ¬ Phrase rules w b n [] first mid
no_phrase_on rules b n w mid first phrase =
    let down = phrase-down rules w 0 w b n (λ tree rest. Unit {0}) [] (omega arith) first mid phrase tt in
    no_phrase rules b n down.1 down.0 down.2

module _ (rules : Rules) (final : Expression) where
  pub when-to : (test : Bool) (state : ParserState) (tokens : List Token) → test ≡ true → Leads rules final state tokens → LeadsFrom rules final (when rules test state) tokens
  when-to true state tokens is leads = leads
  when-to false state tokens is leads = absurd cc

  pub when-from : (test : Bool) (state : ParserState) (tokens : List Token) → LeadsFrom rules final (when rules test state) tokens → (test ≡ true) × Leads rules final state tokens
  when-from true state tokens leads = (refl, leads)
  when-from false state tokens leads = absurd leads

  -- ---- where an operand is expected

  want-phrase : (stack : List Frame) (c : Token) (tokens mid : List Token) (first : Expression) → Phrase rules 0 (in_predicate stack) (openers_left stack) (c ∷ tokens) first mid
      → Rise rules (wanted stack) 0 (in_predicate stack) (openers_left stack) (After rules final stack) first mid → LeadsFrom rules final (begun_with rules stack c.span.start (begun_by (in_predicate stack) c)) tokens
  want-phrase stack c tokens mid first (grammar.prefixed role opens phrase) rise =
      subst (λ (s : Start). LeadsFrom rules final (begun_with rules stack c.span.start s) tokens) (sym role) (when-to (may_open rules (openers_left stack)) _ tokens opens (_, mid, phrase, rise))
  want-phrase stack c tokens mid first (grammar.postfixed primary selections) rise = primary-to c tokens _ _ primary (first, mid, selections, rise)
    where
      primary-to : (c : Token) (tokens mid : List Token) (tree : Expression) → Primary rules (in_predicate stack) (openers_left stack) (c ∷ tokens) tree mid → Had rules stack (After rules final stack) tree mid
          → LeadsFrom rules final (begun_with rules stack c.span.start (begun_by (in_predicate stack) c)) tokens
      primary-to c tokens mid tree (grammar.leaf role) had = subst (λ (s : Start). LeadsFrom rules final (begun_with rules stack c.span.start s) tokens) (sym role) had
      primary-to c tokens mid tree (grammar.item_field {word = word} role name) had = subst (λ (s : Start). LeadsFrom rules final (begun_with rules stack c.span.start s) tokens) (sym role) (word, name, had)
      primary-to c tokens mid tree (grammar.group role opens phrase closes) had =
          subst (λ (s : Start). LeadsFrom rules final (begun_with rules stack c.span.start s) tokens) (sym role) (when-to (may_open rules (openers_left stack)) _ tokens opens (tree, _, phrase, (closes, had)))
      primary-to c tokens mid tree (grammar.list {items = items} role opens (grammar.item phrase later)) had =
          subst (λ (s : Start). LeadsFrom rules final (begun_with rules stack c.span.start s) tokens) (sym role) (when-to (may_open rules (openers_left stack)) _ tokens opens (_, _, phrase, (items, mid, later, had)))
      primary-to c tokens mid tree (grammar.call {arguments = arguments} role opens group inner) had =
          subst (λ (s : Start). LeadsFrom rules final (begun_with rules stack c.span.start s) tokens) (sym role) (when-to (may_open rules (openers_left stack)) _ tokens opens (group, (arguments, mid, inner, had)))

  pub want-to : (stack : List Frame) (c : Token) (tokens : List Token) → Wanted rules final stack (c ∷ tokens) → LeadsFrom rules final (want rules stack c) tokens
  want-to stack c tokens wants =
      let down = phrase-down rules (wanted stack) 0 (wanted stack) (in_predicate stack) (openers_left stack) (After rules final stack) (c ∷ tokens) (omega arith) wants.0 wants.1 wants.2 wants.3 in
      want-phrase stack c tokens down.1 down.0 down.2 down.3

  -- an operand, and all that it may grow to
  wants-up : (stack : List Frame) (tokens mid : List Token) (first : Expression) → Phrase rules 0 (in_predicate stack) (openers_left stack) tokens first mid → Rise rules (wanted stack) 0 (in_predicate stack) (openers_left stack) (After rules final stack) first mid
      → Wanted rules final stack tokens
  wants-up stack tokens mid first phrase rise = phrase-up rules (wanted stack) 0 (wanted stack) (in_predicate stack) (openers_left stack) (After rules final stack) tokens (omega arith) first mid phrase rise

  primary-up : (stack : List Frame) (tokens mid : List Token) (tree : Expression) → Primary rules (in_predicate stack) (openers_left stack) tokens tree mid → Had rules stack (After rules final stack) tree mid → Wanted rules final stack tokens
  primary-up stack tokens mid tree primary had = wants-up stack tokens had.1 had.0 (grammar.postfixed primary had.2) had.3

  start-from : (stack : List Frame) (c : Token) (tokens : List Token) (s : Start) → begun_by (in_predicate stack) c ≡ s → LeadsFrom rules final (begun_with rules stack c.span.start s) tokens → Wanted rules final stack (c ∷ tokens)
  start-from stack c tokens (Leaf tree) role leads = primary-up stack (c ∷ tokens) tokens tree (grammar.leaf role) leads
  start-from stack c tokens (Prefix operator) role leads =
      let opened = when-from (may_open rules (openers_left stack)) _ tokens leads in
      wants-up stack (c ∷ tokens) opened.1.1 (UnaryAt c.span.start operator opened.1.0) (grammar.prefixed role opened.0 opened.1.2) opened.1.3
  start-from stack c tokens Group role leads =
      let opened = when-from (may_open rules (openers_left stack)) _ tokens leads in
      grouped opened.0 opened.1.0 opened.1.1 opened.1.2 opened.1.3
    where
      grouped : may_open rules (openers_left stack) ≡ true → (tree : Expression) (rest : List Token) → Phrase rules ternary (in_predicate stack) (pred (openers_left stack)) tokens tree rest → Ended rules EndGroup (Had rules stack (After rules final stack)) tree rest → Wanted rules final stack (c ∷ tokens)
      grouped opens tree [] phrase ended = absurd ended
      grouped opens tree (close ∷ rest) phrase ended = primary-up stack (c ∷ tokens) rest tree (grammar.group role opens phrase ended.0) ended.1
  start-from stack c tokens Bracket role leads =
      let opened = when-from (may_open rules (openers_left stack)) _ tokens leads in
      let later = opened.1.3 in
      primary-up stack (c ∷ tokens) later.1 (ListAt c.span.start (expressions later.0)) (grammar.list role opened.0 (grammar.item opened.1.2 later.2)) later.3
  start-from stack c tokens (Calls function) role leads =
      let opened = when-from (may_open rules (openers_left stack)) _ tokens leads in
      grouped tokens opened.0 opened.1
    where
      grouped : (tokens : List Token) → may_open rules (openers_left stack) ≡ true → Opened rules final stack c.span.start function tokens → Wanted rules final stack (c ∷ tokens)
      grouped [] opens leads = absurd leads
      grouped (opener ∷ later) opens leads =
          let inner = leads.1 in
          primary-up stack (c ∷ opener ∷ later) inner.1 (called c.span.start function inner.0) (grammar.call role opens leads.0 inner.2) inner.3
  start-from stack c tokens ItemPoint role leads = pointed tokens leads
    where
      pointed : (tokens : List Token) → Named rules final stack c.span.start (ItemAt c.span.start) tokens → Wanted rules final stack (c ∷ tokens)
      pointed [] leads = absurd leads
      pointed (name ∷ later) leads = primary-up stack (c ∷ name ∷ later) later (FieldAt c.span.start (ItemAt c.span.start) leads.0) (grammar.item_field role leads.1) leads.2
  start-from stack c tokens NoStart role leads = absurd leads

  pub want-from : (stack : List Frame) (c : Token) (tokens : List Token) → LeadsFrom rules final (want rules stack c) tokens → Wanted rules final stack (c ∷ tokens)
  want-from stack c tokens leads = start-from stack c tokens (begun_by (in_predicate stack) c) refl leads

  -- ---- after an operand

  had-pass : (stack : List Frame) (tree : Expression) (c : Token) (tokens : List Token) → follows c ≢ Select → follows c ≢ Open → Had rules stack (After rules final stack) tree (c ∷ tokens)
      → Rise rules (wanted stack) 0 (in_predicate stack) (openers_left stack) (After rules final stack) tree (c ∷ tokens)
  had-pass stack tree c tokens no_point no_bracket had = selected-pass rules (in_predicate stack) (openers_left stack) (Rise rules (wanted stack) 0 (in_predicate stack) (openers_left stack) (After rules final stack)) tree had.0 c tokens had.1 no_point no_bracket had.2 had.3

  had-stay : (stack : List Frame) (tree : Expression) (tokens : List Token) → Rise rules (wanted stack) 0 (in_predicate stack) (openers_left stack) (After rules final stack) tree tokens → Had rules stack (After rules final stack) tree tokens
  had-stay stack tree tokens rise = (tree, tokens, grammar.nothing_more, rise)

  -- a token that no frame takes at its end, once looser levels are passed
  stuck-above : (stack : List Frame) (tree : Expression) (c : Token) (tokens : List Token) (k l : ℕ) → IsStack stack → ((ender : Ender) → follows c ≢ Ends ender) → level_of (follows c) ≡ Some l → l < wanted stack
      → ¬ Rise rules k (suc l) (in_predicate stack) (openers_left stack) (After rules final stack) tree (c ∷ tokens)
  stuck-above stack tree c tokens k l is no_end level looser rise =
      stuck rules final stack tree c tokens is no_end (λ j at. let same : j ≡ l = cc in omega (arith, looser))
      (rise-pass rules k (suc l) (in_predicate stack) (openers_left stack) (After rules final stack) tree c tokens (λ j above below at. let same : j ≡ l = cc in absurd (omega arith)) rise)

  rise-split : (w l : ℕ) (b : Bool) (n : ℕ) (K : Claim) (tree : Expression) (tokens : List Token) → l < w → Rise rules (w - l) l b n K tree tokens → Rise rules (suc (w - suc l)) l b n K tree tokens
  rise-split w l b n K tree tokens looser rise = let e : w - l ≡ suc (w - suc l) = omega (arith, looser) in subst (λ (k : ℕ). Rise rules k l b n K tree tokens) e rise

  rise-join : (w l : ℕ) (b : Bool) (n : ℕ) (K : Claim) (tree : Expression) (tokens : List Token) → l < w → Rise rules (suc (w - suc l)) l b n K tree tokens → Rise rules (w - l) l b n K tree tokens
  rise-join w l b n K tree tokens looser rise = let e : suc (w - suc l) ≡ w - l = omega (arith, looser) in subst (λ (k : ℕ). Rise rules k l b n K tree tokens) e rise

  module _ (stack : List Frame) (tree : Expression) (c : Token) where
    -- an operator takes a right side
    operator-parts : (tokens : List Token) (k : ℕ) (operator : Binary) (K : Claim) (more : Expression) (rest : List Token) → follows c ≡ Operator operator → Further rules (precedence operator) (in_predicate stack) (openers_left stack) tree (c ∷ tokens) more rest
        → Rise rules k (suc (precedence operator)) (in_predicate stack) (openers_left stack) K more rest → ¬ Rise rules k (suc (precedence operator)) (in_predicate stack) (openers_left stack) K tree (c ∷ tokens)
        → (right : Expression) × (mid : List Token) × Phrase rules (precedence operator) (in_predicate stack) (openers_left stack) tokens right mid × Rise rules (suc k) (precedence operator) (in_predicate stack) (openers_left stack) K (BinaryAt c.span.start operator tree right) mid
    operator-parts tokens k operator K more rest role (grammar.nothing) rise stops = absurd (stops rise)
    operator-parts tokens k operator K more rest role (grammar.operator {mid = mid} {operator = other} {second = second} role' level phrase later) rise stops =
        let same : other ≡ operator = cc in
        (second, mid, phrase, (more, rest, subst (λ (o : Binary). Further rules (precedence operator) (in_predicate stack) (openers_left stack) (BinaryAt c.span.start o tree second) mid more rest) same later, rise))
    operator-parts tokens k operator K more rest role (grammar.not_in role' is level phrase later) rise stops = absurd cc
    operator-parts tokens k operator K more rest role (grammar.choice role' opens level first colon second) rise stops = absurd cc

    operate-to : (tokens : List Token) (operator : Binary) → follows c ≡ Operator operator → precedence operator < wanted stack → IsStack stack → Rise rules (wanted stack - precedence operator) (precedence operator) (in_predicate stack) (openers_left stack) (After rules final stack) tree (c ∷ tokens)
        → Wanted rules final (RightOf c.span.start operator tree ∷ stack) tokens
    operate-to tokens operator role looser is rise =
        let parts = rise-split (wanted stack) (precedence operator) (in_predicate stack) (openers_left stack) (After rules final stack) tree (c ∷ tokens) looser rise in
        let found = operator-parts tokens (wanted stack - suc (precedence operator)) operator (After rules final stack) parts.0 parts.1 role parts.2 parts.3
        (stuck-above stack tree c tokens (wanted stack - suc (precedence operator)) (precedence operator) is (λ ender ends. absurd cc) (ap level_of role) looser) in
        (found.0, found.1, found.2, rise-join (wanted stack) (precedence operator) (in_predicate stack) (openers_left stack) (After rules final stack) (BinaryAt c.span.start operator tree found.0) found.1 looser found.3)

    operate-from : (tokens : List Token) (operator : Binary) → follows c ≡ Operator operator → precedence operator < wanted stack → Wanted rules final (RightOf c.span.start operator tree ∷ stack) tokens
        → Rise rules (wanted stack - precedence operator) (precedence operator) (in_predicate stack) (openers_left stack) (After rules final stack) tree (c ∷ tokens)
    operate-from tokens operator role looser wants =
        let parts = rise-split (wanted stack) (precedence operator) (in_predicate stack) (openers_left stack) (After rules final stack) (BinaryAt c.span.start operator tree wants.0) wants.1 looser wants.3 in
        rise-join (wanted stack) (precedence operator) (in_predicate stack) (openers_left stack) (After rules final stack) tree (c ∷ tokens) looser
        (parts.0, parts.1, grammar.operator role refl wants.2 parts.2, parts.3)

    -- `not in`
    negate-parts : (tokens : List Token) (k : ℕ) (K : Claim) (more : Expression) (rest : List Token) → follows c ≡ NotOf → Further rules 2 (in_predicate stack) (openers_left stack) tree (c ∷ tokens) more rest
        → Rise rules k 3 (in_predicate stack) (openers_left stack) K more rest → ¬ Rise rules k 3 (in_predicate stack) (openers_left stack) K tree (c ∷ tokens)
        → (later : List Token) × (in_token : Token) × (tokens ≡ in_token ∷ later) × (is_in in_token ≡ true) × ((right : Expression) × (mid : List Token) × Phrase rules 2 (in_predicate stack) (openers_left stack) later right mid × Rise rules (suc k) 2 (in_predicate stack) (openers_left stack) K (BinaryAt c.span.start NotIn tree right) mid)
    negate-parts tokens k K more rest role (grammar.nothing) rise stops = absurd (stops rise)
    negate-parts tokens k K more rest role (grammar.operator role' level phrase later) rise stops = absurd cc
    negate-parts tokens k K more rest role (grammar.not_in role' is level phrase later) rise stops = (_, _, refl, is, (_, _, phrase, (more, rest, later, rise)))
    negate-parts tokens k K more rest role (grammar.choice role' opens level first colon second) rise stops = absurd cc

    negate-to : (tokens : List Token) → follows c ≡ NotOf → 2 < wanted stack → IsStack stack → Rise rules (wanted stack - 2) 2 (in_predicate stack) (openers_left stack) (After rules final stack) tree (c ∷ tokens) → Negated rules final stack c.span.start tree tokens
    negate-to tokens role looser is rise =
        let parts = rise-split (wanted stack) 2 (in_predicate stack) (openers_left stack) (After rules final stack) tree (c ∷ tokens) looser rise in
        let found = negate-parts tokens (wanted stack - 3) (After rules final stack) parts.0 parts.1 role parts.2 parts.3
        (stuck-above stack tree c tokens (wanted stack - 3) 2 is (λ ender ends. absurd cc) (ap level_of role) looser) in
        let right = found.4 in
        subst (Negated rules final stack c.span.start tree) (sym found.2) (found.3, (right.0, right.1, right.2, rise-join (wanted stack) 2 (in_predicate stack) (openers_left stack) (After rules final stack) (BinaryAt c.span.start NotIn tree right.0) right.1 looser right.3))

    -- `?`
    choose-parts : (tokens : List Token) (k : ℕ) (K : Claim) (more : Expression) (rest : List Token) → follows c ≡ Choose → Further rules 5 (in_predicate stack) (openers_left stack) tree (c ∷ tokens) more rest
        → Rise rules k 6 (in_predicate stack) (openers_left stack) K more rest → ¬ Rise rules k 6 (in_predicate stack) (openers_left stack) K tree (c ∷ tokens)
        → (may_open rules (openers_left stack) ≡ true) × ((then_branch : Expression) × (mid : List Token) × Phrase rules ternary (in_predicate stack) (pred (openers_left stack)) tokens then_branch mid × Ended rules Colon (Chosen rules stack c.span.start tree (Rise rules k 6 (in_predicate stack) (openers_left stack) K)) then_branch mid)
    choose-parts tokens k K more rest role (grammar.nothing) rise stops = absurd (stops rise)
    choose-parts tokens k K more rest role (grammar.operator role' level phrase later) rise stops = absurd cc
    choose-parts tokens k K more rest role (grammar.not_in role' is level phrase later) rise stops = absurd cc
    choose-parts tokens k K more rest role (grammar.choice role' opens level first colon second) rise stops = (opens, (_, _, first, (colon, (_, rest, second, rise))))

  negate-from : (stack : List Frame) (tree : Expression) (c : Token) (tokens : List Token) → follows c ≡ NotOf → 2 < wanted stack → Negated rules final stack c.span.start tree tokens
      → Rise rules (wanted stack - 2) 2 (in_predicate stack) (openers_left stack) (After rules final stack) tree (c ∷ tokens)
  negate-from stack tree c [] role looser leads = absurd leads
  negate-from stack tree c (in_token ∷ later) role looser leads =
      let wants = leads.1 in
      let parts = rise-split (wanted stack) 2 (in_predicate stack) (openers_left stack) (After rules final stack) (BinaryAt c.span.start NotIn tree wants.0) wants.1 looser wants.3 in
      rise-join (wanted stack) 2 (in_predicate stack) (openers_left stack) (After rules final stack) tree (c ∷ in_token ∷ later) looser
      (parts.0, parts.1, grammar.not_in role leads.0 refl wants.2 parts.2, parts.3)

  choose-to : (stack : List Frame) (tree : Expression) (c : Token) (tokens : List Token) → follows c ≡ Choose → 5 < wanted stack → IsStack stack → Rise rules (wanted stack - 5) 5 (in_predicate stack) (openers_left stack) (After rules final stack) tree (c ∷ tokens)
      → (may_open rules (openers_left stack) ≡ true) × Wanted rules final (Then c.span.start tree ∷ stack) tokens
  choose-to stack tree c tokens role looser is rise =
      let parts = rise-split (wanted stack) 5 (in_predicate stack) (openers_left stack) (After rules final stack) tree (c ∷ tokens) looser rise in
      let found = choose-parts stack tree c tokens (wanted stack - 6) (After rules final stack) parts.0 parts.1 role parts.2 parts.3
      (stuck-above stack tree c tokens (wanted stack - 6) 5 is (λ ender ends. absurd cc) (ap level_of role) looser) in
      let none : wanted stack - 6 ≡ 0 = omega (arith, wanted-le stack) in
      (found.0, (found.1.0, found.1.1, found.1.2, subst (λ (k : ℕ). Ended rules Colon (Chosen rules stack c.span.start tree (Rise rules k 6 (in_predicate stack) (openers_left stack) (After rules final stack))) found.1.0 found.1.1) none found.1.3))

  choose-from : (stack : List Frame) (tree : Expression) (c : Token) (tokens : List Token) → follows c ≡ Choose → 5 < wanted stack → may_open rules (openers_left stack) ≡ true → Wanted rules final (Then c.span.start tree ∷ stack) tokens
      → Rise rules (wanted stack - 5) 5 (in_predicate stack) (openers_left stack) (After rules final stack) tree (c ∷ tokens)
  choose-from stack tree c tokens role looser opens wants = ended wants.0 wants.1 wants.2 wants.3
    where
      ended : (then_branch : Expression) (rest : List Token) → Phrase rules ternary (in_predicate stack) (pred (openers_left stack)) tokens then_branch rest → Ended rules Colon (Chosen rules stack c.span.start tree (After rules final stack)) then_branch rest
          → Rise rules (wanted stack - 5) 5 (in_predicate stack) (openers_left stack) (After rules final stack) tree (c ∷ tokens)
      ended then_branch [] phrase leads = absurd leads
      ended then_branch (colon ∷ after) phrase leads =
          let else_branch = leads.1 in
          rise-join (wanted stack) 5 (in_predicate stack) (openers_left stack) (After rules final stack) tree (c ∷ tokens) looser
          (ChoiceAt c.span.start tree then_branch else_branch.0, else_branch.1, grammar.choice role opens refl phrase leads.0 else_branch.2, rise-stay rules (wanted stack - 6) 6 (in_predicate stack) (openers_left stack) (After rules final stack) (ChoiceAt c.span.start tree then_branch else_branch.0) else_branch.1 else_branch.3)

  -- ---- after what is in brackets, or before `:`

  module _ (c : Token) (tokens : List Token) (ender : Ender) (role : follows c ≡ Ends ender) where
    ends-at : (other : Ender) (state : Ender → Option ParserState) → follows c ≡ Ends other → LeadsFrom rules final (state other) tokens → LeadsFrom rules final (state ender) tokens
    ends-at other state role' leads = let same : other ≡ ender = cc in subst (λ (e : Ender). LeadsFrom rules final (state e) tokens) same leads

  no_operator : (c : Token) (ender : Ender) → follows c ≡ Ends ender → (j : ℕ) → level_of (follows c) ≢ Some j
  no_operator c ender role j level = absurd (cc (ap level_of role))

  items-to : (stack : List Frame) (at : ℕ) (so_far items : List Expression) (tree : Expression) (c : Token) (tokens rest : List Token) (ender : Ender) → follows c ≡ Ends ender
      → ItemsAfter rules (in_predicate stack) (pred (openers_left stack)) (so_far ++ tree ∷ []) (c ∷ tokens) items rest → Had rules stack (After rules final stack) (ListAt at (expressions items)) rest
      → LeadsFrom rules final (end_with rules ender (Have (Listed at so_far ∷ stack) tree)) tokens
  items-to stack at so_far items tree c tokens rest ender role (grammar.last_item role') had = ends-at c tokens ender role EndBracket (λ e. end_with rules e (Have (Listed at so_far ∷ stack) tree)) role' had
  items-to stack at so_far items tree c tokens rest ender role (grammar.comma_item role' may (grammar.item phrase later)) had =
      ends-at c tokens ender role Comma (λ e. end_with rules e (Have (Listed at so_far ∷ stack) tree)) role'
      (when-to (may_continue rules (length (so_far ++ tree ∷ []))) _ tokens may (_, _, phrase, (items, rest, later, had)))

  -- after an argument, which may be in braces
  pub arguments-to : (stack : List Frame) (at : ℕ) (function : Call) (so_far arguments : List Expression) (c : Token) (tokens rest : List Token) → ArgumentsAfter rules (in_predicate stack) (pred (openers_left stack)) function so_far (c ∷ tokens) arguments rest
      → Had rules stack (After rules final stack) (called at function arguments) rest → LeadsFrom rules final (close_braced rules stack at function so_far (follows c)) tokens
  arguments-to stack at function so_far arguments c tokens rest (grammar.last_argument role all) had =
      subst (λ (r : Follow). LeadsFrom rules final (close_braced rules stack at function so_far r) tokens) (sym role) (when-to (takes_all rules function (length so_far)) _ tokens all had)
  arguments-to stack at function so_far arguments c tokens rest (grammar.comma_argument role more inner) had =
      subst (λ (r : Follow). LeadsFrom rules final (close_braced rules stack at function so_far r) tokens) (sym role) (when-to (takes_more rules function (length so_far)) _ tokens more (arguments, rest, inner, had))

  pub arguments-from : (stack : List Frame) (at : ℕ) (function : Call) (so_far : List Expression) (c : Token) (tokens : List Token) (r : Follow) → follows c ≡ r → LeadsFrom rules final (close_braced rules stack at function so_far r) tokens
      → Argument rules stack at function so_far (After rules final stack) (c ∷ tokens)
  arguments-from stack at function so_far c tokens (Ends EndGroup) role leads =
      let all = when-from (takes_all rules function (length so_far)) _ tokens leads in (so_far, tokens, grammar.last_argument role all.0, all.1)
  arguments-from stack at function so_far c tokens (Ends Comma) role leads =
      let more = when-from (takes_more rules function (length so_far)) _ tokens leads in
      let inner = more.1 in
      (inner.0, inner.1, grammar.comma_argument role more.0 inner.2, inner.3)
  arguments-from stack at function so_far c tokens r role leads = absurd leads

  -- an argument without braces ends as one in braces does
  same_end : (stack : List Frame) (at : ℕ) (function : Call) (so_far : List Expression) (tree : Expression) (ender : Ender)
      → (end_with rules ender (Have (Argued at function so_far ∷ stack) tree) ≡ close_braced rules stack at function (so_far ++ tree ∷ []) (Ends ender)) × (end_with rules ender (Have (Body at function so_far ∷ stack) tree) ≡ close_braced rules stack at function (so_far ++ tree ∷ []) (Ends ender))
  same_end stack at function so_far tree Comma = (refl, refl)
  same_end stack at function so_far tree Colon = (refl, refl)
  same_end stack at function so_far tree EndGroup = (refl, refl)
  same_end stack at function so_far tree EndBracket = (refl, refl)
  same_end stack at function so_far tree EndBrace = (refl, refl)

  end-to : (stack : List Frame) (tree : Expression) (c : Token) (tokens : List Token) (ender : Ender) → follows c ≡ Ends ender → IsStack stack → After rules final stack tree (c ∷ tokens) → LeadsFrom rules final (end_with rules ender (unwound stack tree)) tokens
  end-to [] tree c tokens ender role is after = absurd (cc (after.1))
  end-to (RightOf at operator first ∷ stack) tree c tokens ender role is after =
      end-to stack (BinaryAt at operator first tree) c tokens ender role is.1
      (rise-pass rules (wanted stack - precedence operator) (precedence operator) (in_predicate stack) (openers_left stack) (After rules final stack) (BinaryAt at operator first tree) c tokens (λ j above below. no_operator c ender role j) after)
  end-to (Prefixed at operator ∷ stack) tree c tokens ender role is after =
      end-to stack (UnaryAt at operator tree) c tokens ender role is
      (rise-pass rules (wanted stack) 0 (in_predicate stack) (openers_left stack) (After rules final stack) (UnaryAt at operator tree) c tokens (λ j above below. no_operator c ender role j) after)
  end-to (Then at condition ∷ stack) tree c tokens ender role is after = ends-at c tokens ender role Colon (λ e. end_with rules e (Have (Then at condition ∷ stack) tree)) after.0 after.1
  end-to (Else at condition then_branch ∷ stack) tree c tokens ender role is after = end-to stack (ChoiceAt at condition then_branch tree) c tokens ender role is.1 after
  end-to (Grouped ∷ stack) tree c tokens ender role is after = ends-at c tokens ender role EndGroup (λ e. end_with rules e (Have (Grouped ∷ stack) tree)) after.0 after.1
  end-to (Listed at so_far ∷ stack) tree c tokens ender role is after = items-to stack at so_far after.0 tree c tokens after.1 ender role after.2 after.3
  end-to (Indexed at whole ∷ stack) tree c tokens ender role is after = ends-at c tokens ender role EndBracket (λ e. end_with rules e (Have (Indexed at whole ∷ stack) tree)) after.0 after.1
  end-to (Argued at function so_far ∷ stack) tree c tokens ender role is after =
      subst (λ (s : Option ParserState). LeadsFrom rules final s tokens) (sym (same_end stack at function so_far tree ender).0)
      (subst (λ (r : Follow). LeadsFrom rules final (close_braced rules stack at function (so_far ++ tree ∷ []) r) tokens) role (arguments-to stack at function (so_far ++ tree ∷ []) after.0 c tokens after.1 after.2 after.3))
  end-to (Body at function so_far ∷ stack) tree c tokens ender role is after =
      subst (λ (s : Option ParserState). LeadsFrom rules final s tokens) (sym (same_end stack at function so_far tree ender).1)
      (subst (λ (r : Follow). LeadsFrom rules final (close_braced rules stack at function (so_far ++ tree ∷ []) r) tokens) role (arguments-to stack at function (so_far ++ tree ∷ []) after.0 c tokens after.1 after.2 after.3))
  end-to (Braced at function so_far ∷ stack) tree c tokens ender role is after = ends-at c tokens ender role EndBrace (λ e. end_with rules e (Have (Braced at function so_far ∷ stack) tree)) after.0 after.1

  end-from : (stack : List Frame) (tree : Expression) (c : Token) (tokens : List Token) (ender : Ender) → follows c ≡ Ends ender → LeadsFrom rules final (end_with rules ender (unwound stack tree)) tokens → After rules final stack tree (c ∷ tokens)
  end-from [] tree c tokens Comma role leads = absurd leads
  end-from [] tree c tokens Colon role leads = absurd leads
  end-from [] tree c tokens EndGroup role leads = absurd leads
  end-from [] tree c tokens EndBracket role leads = absurd leads
  end-from [] tree c tokens EndBrace role leads = absurd leads
  end-from (RightOf at operator first ∷ stack) tree c tokens ender role leads =
      rise-stay rules (wanted stack - precedence operator) (precedence operator) (in_predicate stack) (openers_left stack) (After rules final stack) (BinaryAt at operator first tree) (c ∷ tokens) (end-from stack (BinaryAt at operator first tree) c tokens ender role leads)
  end-from (Prefixed at operator ∷ stack) tree c tokens ender role leads =
      rise-stay rules (wanted stack) 0 (in_predicate stack) (openers_left stack) (After rules final stack) (UnaryAt at operator tree) (c ∷ tokens) (end-from stack (UnaryAt at operator tree) c tokens ender role leads)
  end-from (Then at condition ∷ stack) tree c tokens Colon role leads = (role, leads)
  end-from (Then at condition ∷ stack) tree c tokens ender role leads = absurd leads
  end-from (Else at condition then_branch ∷ stack) tree c tokens ender role leads = end-from stack (ChoiceAt at condition then_branch tree) c tokens ender role leads
  end-from (Grouped ∷ stack) tree c tokens EndGroup role leads = (role, leads)
  end-from (Grouped ∷ stack) tree c tokens ender role leads = absurd leads
  end-from (Listed at so_far ∷ stack) tree c tokens EndBracket role leads = (so_far ++ tree ∷ [], tokens, grammar.last_item role, leads)
  end-from (Listed at so_far ∷ stack) tree c tokens Comma role leads =
      let more = when-from (may_continue rules (length (so_far ++ tree ∷ []))) _ tokens leads in
      let later = more.1.3 in
      (later.0, later.1, grammar.comma_item role more.0 (grammar.item more.1.2 later.2), later.3)
  end-from (Listed at so_far ∷ stack) tree c tokens ender role leads = absurd leads
  end-from (Indexed at whole ∷ stack) tree c tokens EndBracket role leads = (role, leads)
  end-from (Indexed at whole ∷ stack) tree c tokens ender role leads = absurd leads
  end-from (Argued at function so_far ∷ stack) tree c tokens ender role leads =
      arguments-from stack at function (so_far ++ tree ∷ []) c tokens (Ends ender) role (subst (λ (s : Option ParserState). LeadsFrom rules final s tokens) (same_end stack at function so_far tree ender).0 leads)
  end-from (Body at function so_far ∷ stack) tree c tokens ender role leads =
      arguments-from stack at function (so_far ++ tree ∷ []) c tokens (Ends ender) role (subst (λ (s : Option ParserState). LeadsFrom rules final s tokens) (same_end stack at function so_far tree ender).1 leads)
  end-from (Braced at function so_far ∷ stack) tree c tokens EndBrace role leads = (role, leads)
  end-from (Braced at function so_far ∷ stack) tree c tokens ender role leads = absurd leads

  -- ---- any token after an operand

  no_level : (stack : List Frame) (tree : Expression) (c : Token) (tokens : List Token) → IsStack stack → ((ender : Ender) → follows c ≢ Ends ender) → ((j : ℕ) → level_of (follows c) ≢ Some j)
      → ¬ Rise rules (wanted stack) 0 (in_predicate stack) (openers_left stack) (After rules final stack) tree (c ∷ tokens)
  no_level stack tree c tokens is no_end none rise =
      stuck rules final stack tree c tokens is no_end (λ j at. absurd (none j at)) (rise-pass rules (wanted stack) 0 (in_predicate stack) (openers_left stack) (After rules final stack) tree c tokens (λ j above below. none j) rise)

  operate-state-to : (c : Token) (tokens : List Token) (operator : Binary) (state : ParserState) → follows c ≡ Operator operator → Ready rules final (precedence operator) (c ∷ tokens) state → LeadsFrom rules final (operate rules c.span.start operator state) tokens
  operate-state-to c tokens operator (Have stack tree) role ready = operate-to stack tree c tokens operator role ready.0 ready.1 ready.2
  operate-state-to c tokens operator state role ready = absurd ready

  negate-state-to : (c : Token) (tokens : List Token) (state : ParserState) → follows c ≡ NotOf → Ready rules final 2 (c ∷ tokens) state → LeadsFrom rules final (negate rules c.span.start state) tokens
  negate-state-to c tokens (Have stack tree) role ready = negate-to stack tree c tokens role ready.0 ready.1 ready.2
  negate-state-to c tokens state role ready = absurd ready

  choose-state-to : (c : Token) (tokens : List Token) (state : ParserState) → follows c ≡ Choose → Ready rules final 5 (c ∷ tokens) state → LeadsFrom rules final (choose rules c.span.start state) tokens
  choose-state-to c tokens (Have stack tree) role ready = let found = choose-to stack tree c tokens role ready.0 ready.1 ready.2 in when-to (may_open rules (openers_left stack)) _ tokens found.0 found.1
  choose-state-to c tokens state role ready = absurd ready

  operate-state-from : (c : Token) (tokens : List Token) (operator : Binary) (state : ParserState) → follows c ≡ Operator operator → Climbed (precedence operator) state → LeadsFrom rules final (operate rules c.span.start operator state) tokens → Ready rules final (precedence operator) (c ∷ tokens) state
  operate-state-from c tokens operator (Have stack tree) role is leads = (is.0, is.1, operate-from stack tree c tokens operator role is.0 leads)
  operate-state-from c tokens operator state role is leads = absurd is

  negate-state-from : (c : Token) (tokens : List Token) (state : ParserState) → follows c ≡ NotOf → Climbed 2 state → LeadsFrom rules final (negate rules c.span.start state) tokens → Ready rules final 2 (c ∷ tokens) state
  negate-state-from c tokens (Have stack tree) role is leads = (is.0, is.1, negate-from stack tree c tokens role is.0 leads)
  negate-state-from c tokens state role is leads = absurd is

  choose-state-from : (c : Token) (tokens : List Token) (state : ParserState) → follows c ≡ Choose → Climbed 5 state → LeadsFrom rules final (choose rules c.span.start state) tokens → Ready rules final 5 (c ∷ tokens) state
  choose-state-from c tokens (Have stack tree) role is leads = let found = when-from (may_open rules (openers_left stack)) _ tokens leads in (is.0, is.1, choose-from stack tree c tokens role is.0 found.0 found.1)
  choose-state-from c tokens state role is leads = absurd is

  -- the point of a field
  select-to : (stack : List Frame) (tree more : Expression) (c : Token) (tokens rest : List Token) → follows c ≡ Select → IsStack stack → Selections rules (in_predicate stack) (openers_left stack) tree (c ∷ tokens) more rest
      → Rise rules (wanted stack) 0 (in_predicate stack) (openers_left stack) (After rules final stack) more rest → Named rules final stack c.span.start tree tokens
  select-to stack tree more c tokens rest role is (grammar.nothing_more) rise = absurd (no_level stack tree c tokens is (λ ender ends. absurd cc) (λ j at. absurd (cc (ap level_of role))) rise)
  select-to stack tree more c tokens rest role is (grammar.field {word = word} role' name later) rise = (word, name, (more, rest, later, rise))
  select-to stack tree more c tokens rest role is (grammar.text_field role' opens text closes later) rise = absurd cc
  select-to stack tree more c tokens rest role is (grammar.index role' opens alone phrase closes later) rise = absurd cc

  select-from : (stack : List Frame) (tree : Expression) (c : Token) (tokens : List Token) → follows c ≡ Select → Named rules final stack c.span.start tree tokens → Had rules stack (After rules final stack) tree (c ∷ tokens)
  select-from stack tree c [] role leads = absurd leads
  select-from stack tree c (name ∷ later) role leads = let had = leads.2 in (had.0, had.1, grammar.field role leads.1 had.2, had.3)

  pub select-follow-to : (stack : List Frame) (tree : Expression) (c : Token) (tokens : List Token) → follows c ≡ Select → IsStack stack → Had rules stack (After rules final stack) tree (c ∷ tokens) → Named rules final stack c.span.start tree tokens
  select-follow-to stack tree c tokens role is had = select-to stack tree had.0 c tokens had.1 role is had.2 had.3

  -- ---- after the bracket of an index or field

  kind_text-start : (b : Bool) (at : ℕ) (kind : TokenKind) (word : List ℕ) → kind_text kind ≡ Some word → kind_start b at kind ≡ Leaf (LiteralAt at (Text word))
  kind_text-start b at (kinds.Text text) word is = let same : text ≡ word = cc in ap (λ (w : List ℕ). Leaf (LiteralAt at (Text w))) same
  kind_text-start b at kind word is = absurd cc

  text-start : (b : Bool) (c : Token) (word : List ℕ) → literal_text c ≡ Some word → begun_by b c ≡ Leaf (LiteralAt c.span.start (Text word))
  unfolding literal_text begun_by
  text-start b c word is = kind_text-start b c.span.start c.kind word is

  pub no_wanted : (stack : List Frame) → ¬ Wanted rules final stack []
  no_wanted stack wants = no_phrase_on rules (in_predicate stack) (openers_left stack) (wanted stack) wants.1 wants.0 wants.2

  pub had-end : (stack : List Frame) (tree : Expression) → Had rules stack (After rules final stack) tree [] → After rules final stack tree []
  had-end stack tree had =
      rise-end rules (wanted stack) 0 (in_predicate stack) (openers_left stack) (After rules final stack) tree
      (selected-end rules (in_predicate stack) (openers_left stack) (Rise rules (wanted stack) 0 (in_predicate stack) (openers_left stack) (After rules final stack)) tree had.0 had.1 had.2 had.3)

  text-to : (stack : List Frame) (at : ℕ) (tree : Expression) (text_at : ℕ) (word : List ℕ) (later : List Token) → is_alone (Some word) later ≡ false → Had rules (Indexed at tree ∷ stack) (After rules final (Indexed at tree ∷ stack)) (LiteralAt text_at (Text word)) later
      → TextThere rules final stack at tree text_at word later
  text-to stack at tree text_at word [] alone had = had-end (Indexed at tree ∷ stack) (LiteralAt text_at (Text word)) had
  text-to stack at tree text_at word (close ∷ later) alone had = closed (follows close) alone
    where
      closed : (r : Follow) → ends_bracket r ≡ false → TextClosed rules final stack at tree text_at word close later r
      closed (Ends EndBracket) alone = absurd cc
      closed r alone = had

  index-to : (stack : List Frame) (at : ℕ) (tree : Expression) (tokens : List Token) → is_text_alone tokens ≡ false → Wanted rules final (Indexed at tree ∷ stack) tokens → InBrackets rules final stack at tree tokens
  index-to stack at tree [] alone wants = no_wanted (Indexed at tree ∷ stack) wants
  index-to stack at tree (token ∷ later) alone wants = inner (literal_text token) refl alone
    where
      inner : (value : Option (List ℕ)) → literal_text token ≡ value → is_alone value later ≡ false → Inner rules final stack at tree token later value
      inner None is alone = wants
      inner (Some word) is alone =
          text-to stack at tree token.span.start word later alone
          (subst (λ (s : Start). LeadsFrom rules final (begun_with rules (Indexed at tree ∷ stack) token.span.start s) later) (text-start (in_predicate stack) token word is) (want-to (Indexed at tree ∷ stack) token later wants))

  open-to : (stack : List Frame) (tree more : Expression) (c : Token) (tokens rest : List Token) → follows c ≡ Open → IsStack stack → Selections rules (in_predicate stack) (openers_left stack) tree (c ∷ tokens) more rest
      → Rise rules (wanted stack) 0 (in_predicate stack) (openers_left stack) (After rules final stack) more rest → (may_open rules (openers_left stack) ≡ true) × InBrackets rules final stack c.span.start tree tokens
  open-to stack tree more c tokens rest role is (grammar.nothing_more) rise = absurd (no_level stack tree c tokens is (λ ender ends. absurd cc) (λ j at. absurd (cc (ap level_of role))) rise)
  open-to stack tree more c tokens rest role is (grammar.field role' name later) rise = absurd cc
  open-to stack tree more c tokens rest role is (grammar.text_field {text = text} {close = close} {later = others} {word = word} role' opens value closes later) rise =
      (opens, subst (Inner rules final stack c.span.start tree text (close ∷ others)) (sym value) (subst (TextClosed rules final stack c.span.start tree text.span.start word close others) (sym closes) (more, rest, later, rise)))
  open-to stack tree more c tokens rest role is (grammar.index {close = close} {after = after} {found = found} role' opens alone phrase closes later) rise =
      (opens, index-to stack c.span.start tree tokens alone (found, close ∷ after, phrase, (closes, (more, rest, later, rise))))

  index-from : (stack : List Frame) (tree : Expression) (c : Token) (tokens : List Token) → follows c ≡ Open → may_open rules (openers_left stack) ≡ true → is_text_alone tokens ≡ false → Wanted rules final (Indexed c.span.start tree ∷ stack) tokens
      → Had rules stack (After rules final stack) tree (c ∷ tokens)
  index-from stack tree c tokens role opens alone wants = ended wants.0 wants.1 wants.2 wants.3
    where
      ended : (found : Expression) (rest : List Token) → Phrase rules ternary (in_predicate stack) (pred (openers_left stack)) tokens found rest → Ended rules EndBracket (λ index rest. Had rules stack (After rules final stack) (IndexAt c.span.start tree index) rest) found rest
          → Had rules stack (After rules final stack) tree (c ∷ tokens)
      ended found [] phrase leads = absurd leads
      ended found (close ∷ after) phrase leads = let had = leads.1 in (had.0, had.1, grammar.index role opens alone phrase leads.0 had.2, had.3)

  text-from : (stack : List Frame) (tree : Expression) (c token : Token) (word : List ℕ) (later : List Token) → follows c ≡ Open → may_open rules (openers_left stack) ≡ true → literal_text token ≡ Some word
      → TextThere rules final stack c.span.start tree token.span.start word later → Had rules stack (After rules final stack) tree (c ∷ token ∷ later)
  text-from stack tree c token word [] role opens value leads = absurd leads
  text-from stack tree c token word (close ∷ later) role opens value leads = closed (follows close) refl leads
    where
      closed : (r : Follow) → follows close ≡ r → TextClosed rules final stack c.span.start tree token.span.start word close later r → Had rules stack (After rules final stack) tree (c ∷ token ∷ close ∷ later)
      closed (Ends EndBracket) closes leads = (leads.0, leads.1, grammar.text_field role opens value closes leads.2, leads.3)
      closed r closes leads =
          index-from stack tree c (token ∷ close ∷ later) role opens (ap (λ (v : Option (List ℕ)). is_alone v (close ∷ later)) value ∙ ap ends_bracket closes)
          (start-from (Indexed c.span.start tree ∷ stack) token (close ∷ later) (Leaf (LiteralAt token.span.start (Text word))) (text-start (in_predicate stack) token word value) leads)

  open-from : (stack : List Frame) (tree : Expression) (c : Token) (tokens : List Token) → follows c ≡ Open → may_open rules (openers_left stack) ≡ true → InBrackets rules final stack c.span.start tree tokens → Had rules stack (After rules final stack) tree (c ∷ tokens)
  open-from stack tree c [] role opens leads = absurd leads
  open-from stack tree c (token ∷ later) role opens leads = inner (literal_text token) refl leads
    where
      inner : (value : Option (List ℕ)) → literal_text token ≡ value → Inner rules final stack c.span.start tree token later value → Had rules stack (After rules final stack) tree (c ∷ token ∷ later)
      inner (Some word) value leads = text-from stack tree c token word later role opens value leads
      inner None value leads = index-from stack tree c (token ∷ later) role opens (ap (λ (v : Option (List ℕ)). is_alone v later) value) leads

  -- ---- after an operand, whatever token it is

  follow-to : (stack : List Frame) (tree : Expression) (c : Token) (tokens : List Token) (r : Follow) → follows c ≡ r → IsStack stack → Had rules stack (After rules final stack) tree (c ∷ tokens) → LeadsFrom rules final (followed_by rules stack tree c.span.start r) tokens
  follow-to stack tree c tokens (Operator operator) role is had =
      operate-state-to c tokens operator (climbed (precedence operator) stack tree) role
      (climb-to rules final (precedence operator) (low operator) c tokens (ap level_of role) stack tree (wanted stack) 0 (omega arith) (omega arith) is (had-pass stack tree c tokens (λ e. absurd cc) (λ e. absurd cc) had))
  follow-to stack tree c tokens NotOf role is had =
      negate-state-to c tokens (climbed 2 stack tree) role
      (climb-to rules final 2 (omega arith) c tokens (ap level_of role) stack tree (wanted stack) 0 (omega arith) (omega arith) is (had-pass stack tree c tokens (λ e. absurd cc) (λ e. absurd cc) had))
  follow-to stack tree c tokens Choose role is had =
      choose-state-to c tokens (climbed 5 stack tree) role
      (climb-to rules final 5 (omega arith) c tokens (ap level_of role) stack tree (wanted stack) 0 (omega arith) (omega arith) is (had-pass stack tree c tokens (λ e. absurd cc) (λ e. absurd cc) had))
  follow-to stack tree c tokens Select role is had = select-follow-to stack tree c tokens role is had
  follow-to stack tree c tokens Open role is had = let found = open-to stack tree had.0 c tokens had.1 role is had.2 had.3 in when-to (may_open rules (openers_left stack)) _ tokens found.0 found.1
  follow-to stack tree c tokens (Ends ender) role is had =
      end-to stack tree c tokens ender role is
      (rise-pass rules (wanted stack) 0 (in_predicate stack) (openers_left stack) (After rules final stack) tree c tokens (λ j above below. no_operator c ender role j) (had-pass stack tree c tokens (λ e. absurd cc) (λ e. absurd cc) had))
  follow-to stack tree c tokens NoFollow role is had = no_level stack tree c tokens is (λ ender ends. absurd cc) (λ j at. absurd (cc (ap level_of role))) (had-pass stack tree c tokens (λ e. absurd cc) (λ e. absurd cc) had)

  follow-from : (stack : List Frame) (tree : Expression) (c : Token) (tokens : List Token) (r : Follow) → follows c ≡ r → IsStack stack → LeadsFrom rules final (followed_by rules stack tree c.span.start r) tokens → Had rules stack (After rules final stack) tree (c ∷ tokens)
  follow-from stack tree c tokens (Operator operator) role is leads =
      had-stay stack tree (c ∷ tokens)
      (climb-from rules final (precedence operator) (low operator) c tokens (ap level_of role) stack tree (wanted stack) 0 (omega arith) (omega arith) is
      (operate-state-from c tokens operator (climbed (precedence operator) stack tree) role (climbed-is (precedence operator) (low operator) stack tree is) leads))
  follow-from stack tree c tokens NotOf role is leads =
      had-stay stack tree (c ∷ tokens)
      (climb-from rules final 2 (omega arith) c tokens (ap level_of role) stack tree (wanted stack) 0 (omega arith) (omega arith) is (negate-state-from c tokens (climbed 2 stack tree) role (climbed-is 2 (omega arith) stack tree is) leads))
  follow-from stack tree c tokens Choose role is leads =
      had-stay stack tree (c ∷ tokens)
      (climb-from rules final 5 (omega arith) c tokens (ap level_of role) stack tree (wanted stack) 0 (omega arith) (omega arith) is (choose-state-from c tokens (climbed 5 stack tree) role (climbed-is 5 (omega arith) stack tree is) leads))
  follow-from stack tree c tokens Select role is leads = select-from stack tree c tokens role leads
  follow-from stack tree c tokens Open role is leads = let opened = when-from (may_open rules (openers_left stack)) _ tokens leads in open-from stack tree c tokens role opened.0 opened.1
  follow-from stack tree c tokens (Ends ender) role is leads = had-stay stack tree (c ∷ tokens) (rise-stay rules (wanted stack) 0 (in_predicate stack) (openers_left stack) (After rules final stack) tree (c ∷ tokens) (end-from stack tree c tokens ender role leads))
  follow-from stack tree c tokens NoFollow role is leads = absurd leads

  pub have-to : (stack : List Frame) (tree : Expression) (c : Token) (tokens : List Token) → IsStack stack → Had rules stack (After rules final stack) tree (c ∷ tokens) → LeadsFrom rules final (have rules stack tree c) tokens
  have-to stack tree c tokens is had = follow-to stack tree c tokens (follows c) refl is had

  pub have-from : (stack : List Frame) (tree : Expression) (c : Token) (tokens : List Token) → IsStack stack → LeadsFrom rules final (have rules stack tree c) tokens → Had rules stack (After rules final stack) tree (c ∷ tokens)
  have-from stack tree c tokens is leads = follow-from stack tree c tokens (follows c) refl is leads
