-- What a state of the machine and the tokens that follow lead to, in the grammar's own rules.
use Rattle.std.proofs.Common.{◌≡◌, ℕ, zero, suc, ◌-◌, Bool, true, List, [], ◌∷◌, ◌++◌, Option, Some, None}
use Rattle.std.specs.Prelude.{pred}
use Rattle.ar_tree.specs.Expression.{Expression, FieldAt, IndexAt, LiteralAt, UnaryAt, BinaryAt, ChoiceAt, ListAt, expressions}
use Rattle.ar_syntax.specs.Grammar.{Arguments, ArgumentsAfter, Further, ItemsAfter, Phrase, Rules, Selections, ternary}
use Rattle.ar_syntax.specs.Machine.{Frame, ParserState, RightOf, Prefixed, Then, Else, Grouped, Listed, Indexed, Argued, Body, Braced, Want, Have, WantName, WantIndex, HaveText, WantIn, WantGroup, WantArgument, HaveArgument, in_predicate, openers_left, wanted}
use Rattle.ar_syntax.specs.Roles.{Call, Ender, Follow, Ends, Colon, EndGroup, EndBracket, EndBrace, called, follows, is_group, is_in, precedence, field_name_of, literal_text}
use Rattle.ar_syntax.specs.declared.token.Token.{Token}
use Rattle.ar_tree.specs.declared.tree.Binary.TheVariants.{NotIn}
use Rattle.ar_tree.specs.declared.tree.Literal.TheVariants.{Text}

-- what may be said of a tree with the tokens after it
abbrev pub Claim : Type 1
Claim = Expression → List Token → Type 0

module _ (rules : Rules) where
  -- what follows on n levels from this one on, and then the claim
  abbrev pub Rise : ℕ → ℕ → Bool → ℕ → Claim → Claim
  Rise zero d b n K tree tokens = K tree tokens
  Rise (suc k) d b n K tree tokens = (more : Expression) × (rest : List Token) × Further rules d b n tree tokens more rest × Rise k (suc d) b n K more rest

  -- fields and indices, and then the claim
  abbrev pub Selected : Bool → ℕ → Claim → Claim
  Selected b n K tree tokens = (more : Expression) × (rest : List Token) × Selections rules b n tree tokens more rest × K more rest

  -- an operand on a stack, of which the claim holds once the newest frame has what it expects
  abbrev pub Had : List Frame → Claim → Claim
  Had stack K tree tokens = Selected (in_predicate stack) (openers_left stack) (Rise (wanted stack) 0 (in_predicate stack) (openers_left stack) K) tree tokens

  -- one token, and then the claim
  abbrev pub Ended : Ender → Claim → Claim
  Ended ender K tree [] = ⊥
  Ended ender K tree (close ∷ later) = (follows close ≡ Ends ender) × K tree later

  abbrev pub Chosen : List Frame → ℕ → Expression → Claim → Claim
  Chosen stack at condition K then_branch tokens = (else_branch : Expression) × (rest : List Token) × Phrase rules ternary (in_predicate stack) (pred (openers_left stack)) tokens else_branch rest × K (ChoiceAt at condition then_branch else_branch) rest

  abbrev pub Argument : List Frame → ℕ → Call → List Expression → Claim → List Token → Type 0
  Argument stack at function so_far K tokens = (arguments : List Expression) × (rest : List Token) × ArgumentsAfter rules (in_predicate stack) (pred (openers_left stack)) function so_far tokens arguments rest × Had stack K (called at function arguments) rest

  -- the newest frame has what it expects, and these tokens follow: they lead to the final tree
  abbrev pub After : Expression → List Frame → Claim
  After final [] tree tokens = (tree ≡ final) × (tokens ≡ [])
  After final (RightOf at operator first ∷ stack) tree tokens = Rise (wanted stack - precedence operator) (precedence operator) (in_predicate stack) (openers_left stack) (After final stack) (BinaryAt at operator first tree) tokens
  After final (Prefixed at operator ∷ stack) tree tokens = Rise (wanted stack) 0 (in_predicate stack) (openers_left stack) (After final stack) (UnaryAt at operator tree) tokens
  After final (Then at condition ∷ stack) tree tokens = Ended Colon (Chosen stack at condition (After final stack)) tree tokens
  After final (Else at condition then_branch ∷ stack) tree tokens = After final stack (ChoiceAt at condition then_branch tree) tokens
  After final (Grouped ∷ stack) tree tokens = Ended EndGroup (Had stack (After final stack)) tree tokens
  After final (Listed at so_far ∷ stack) tree tokens =
      (items : List Expression) × (rest : List Token) × ItemsAfter rules (in_predicate stack) (pred (openers_left stack)) (so_far ++ tree ∷ []) tokens items rest × Had stack (After final stack) (ListAt at (expressions items)) rest
  After final (Indexed at whole ∷ stack) tree tokens = Ended EndBracket (λ index rest. Had stack (After final stack) (IndexAt at whole index) rest) tree tokens
  After final (Argued at function so_far ∷ stack) tree tokens = Argument stack at function (so_far ++ tree ∷ []) (After final stack) tokens
  After final (Body at function so_far ∷ stack) tree tokens = Argument stack at function (so_far ++ tree ∷ []) (After final stack) tokens
  After final (Braced at function so_far ∷ stack) tree tokens = Ended EndBrace (λ body rest. Argument stack at function (so_far ++ body ∷ []) (After final stack) rest) tree tokens

  -- the newest frame gets what it expects
  abbrev pub Wanted : Expression → List Frame → List Token → Type 0
  Wanted final stack tokens = (tree : Expression) × (rest : List Token) × Phrase rules (wanted stack) (in_predicate stack) (openers_left stack) tokens tree rest × After final stack tree rest

  abbrev pub Named : Expression → List Frame → ℕ → Expression → List Token → Type 0
  Named final stack at whole [] = ⊥
  Named final stack at whole (name ∷ later) = (word : List ℕ) × (field_name_of name ≡ Some word) × Had stack (After final stack) (FieldAt at whole word) later

  abbrev pub TextClosed : Expression → List Frame → ℕ → Expression → ℕ → List ℕ → Token → List Token → Follow → Type 0
  TextClosed final stack at whole text_at text close later (Ends EndBracket) = Had stack (After final stack) (FieldAt at whole text) later
  TextClosed final stack at whole text_at text close later role = Had (Indexed at whole ∷ stack) (After final (Indexed at whole ∷ stack)) (LiteralAt text_at (Text text)) (close ∷ later)

  abbrev pub TextThere : Expression → List Frame → ℕ → Expression → ℕ → List ℕ → List Token → Type 0
  TextThere final stack at whole text_at text [] = ⊥
  TextThere final stack at whole text_at text (close ∷ later) = TextClosed final stack at whole text_at text close later (follows close)

  abbrev pub Inner : Expression → List Frame → ℕ → Expression → Token → List Token → Option (List ℕ) → Type 0
  Inner final stack at whole token later (Some text) = TextThere final stack at whole token.span.start text later
  Inner final stack at whole token later None = Wanted final (Indexed at whole ∷ stack) (token ∷ later)

  abbrev pub InBrackets : Expression → List Frame → ℕ → Expression → List Token → Type 0
  InBrackets final stack at whole [] = ⊥
  InBrackets final stack at whole (token ∷ later) = Inner final stack at whole token later (literal_text token)

  abbrev pub Negated : Expression → List Frame → ℕ → Expression → List Token → Type 0
  Negated final stack at first [] = ⊥
  Negated final stack at first (token ∷ later) = (is_in token ≡ true) × Wanted final (RightOf at NotIn first ∷ stack) later

  abbrev pub Called : Expression → List Frame → ℕ → Call → List Expression → List Token → Type 0
  Called final stack at function so_far tokens =
      (arguments : List Expression) × (rest : List Token) × Arguments rules (in_predicate stack) (pred (openers_left stack)) function so_far tokens arguments rest × Had stack (After final stack) (called at function arguments) rest

  abbrev pub Opened : Expression → List Frame → ℕ → Call → List Token → Type 0
  Opened final stack at function [] = ⊥
  Opened final stack at function (opener ∷ later) = (is_group opener ≡ true) × Called final stack at function [] later

  -- a state and the tokens after it lead to the final tree
  abbrev pub Leads : Expression → ParserState → List Token → Type 0
  Leads final (Want stack) tokens = Wanted final stack tokens
  Leads final (Have stack tree) tokens = Had stack (After final stack) tree tokens
  Leads final (WantName stack at whole) tokens = Named final stack at whole tokens
  Leads final (WantIndex stack at whole) tokens = InBrackets final stack at whole tokens
  Leads final (HaveText stack at whole text_at text) tokens = TextThere final stack at whole text_at text tokens
  Leads final (WantIn stack at first) tokens = Negated final stack at first tokens
  Leads final (WantGroup stack at function) tokens = Opened final stack at function tokens
  Leads final (WantArgument stack at function so_far) tokens = Called final stack at function so_far tokens
  Leads final (HaveArgument stack at function arguments) tokens = Argument stack at function arguments (After final stack) tokens

  abbrev pub LeadsFrom : Expression → Option ParserState → List Token → Type 0
  LeadsFrom final (Some state) tokens = Leads final state tokens
  LeadsFrom final None tokens = ⊥
