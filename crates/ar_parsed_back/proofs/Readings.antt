-- Tokens of a part's kinds are read by the grammar as a tree that says the part.
use Rattle.std.proofs.Common.{◌≡◌, ℕ, zero, suc, ◌+◌, ◌≤◌, ◌<◌, Bool, true, false, List, [], ◌∷◌, ◌++◌, length, refl, sym, ◌∙◌, ap, subst, arith, append_assoc, append-nil, length-append, nat_lt, Some, None, Option}
use Rattle.std.specs.Prelude.{◌||◌, pred, if◌then◌else◌}
use Rattle.std.specs.Str.{bytes_eq}
use Rattle.std.proofs.lemmas.Slice.Eq.{bytes_eq-Decides}
use Rattle.std.proofs.lemmas.Bool.{leb-true, lt-ltb}
use Rattle.ar_value.specs.Terms.{Text}
use Rattle.ar_value.specs.declared.operator.Arithmetic.{Arithmetic}
use Rattle.ar_value.specs.declared.operator.Arithmetic.TheVariants as wholes
use Rattle.ar_value.specs.declared.operator.BinaryOperator.{BinaryOperator}
use Rattle.ar_value.specs.declared.operator.BinaryOperator.TheVariants as binary
use Rattle.ar_value.specs.declared.operator.DecimalArithmetic.{DecimalArithmetic}
use Rattle.ar_value.specs.declared.operator.DecimalArithmetic.TheVariants as decimals
use Rattle.ar_value.specs.declared.operator.Predicate.{Predicate}
use Rattle.ar_value.specs.declared.operator.Scalar.{Scalar}
use Rattle.ar_value.specs.declared.operator.UnaryOperator.TheVariants as unary
use Rattle.ar_tree.specs.Expression.{Expression, ResultAt, ItemAt, LiteralAt, FieldAt, IndexAt, UnaryAt, BinaryAt, ChoiceAt, ListAt, DefaultAt, PredicateAt, expressions}
use Rattle.ar_tree.specs.Typed.{Typed, Typeds, how_many}
use Rattle.ar_tree.specs.Typed as typed
use Rattle.ar_tree.specs.declared.tree.Binary.{Binary}
use Rattle.ar_tree.specs.declared.tree.Binary.TheVariants as binaries
use Rattle.ar_tree.specs.declared.tree.Comparison.TheVariants as comparisons
use Rattle.ar_tree.specs.declared.tree.Literal.{Literal}
use Rattle.ar_tree.specs.declared.tree.Literal.TheVariants as literals
use Rattle.ar_tree.specs.declared.tree.Unary.{Unary}
use Rattle.ar_tree.specs.declared.tree.Unary.TheVariants as unaries
use Rattle.ar_syntax.specs.Condition.{at_any_depth}
use Rattle.ar_syntax.specs.Grammar.{Arguments, ArgumentsAfter, Further, ItemsAfter, ListItems, Phrase, Primary, Selections, may_continue, may_open, takes_all, takes_more, ternary}
use Rattle.ar_syntax.specs.Grammar as grammar
use Rattle.ar_syntax.specs.Roles.{Leaf, Prefix, Calls, called, follows, is_body, kind_follow, kind_name, kind_start, precedence, word_start}
use Rattle.ar_syntax.specs.declared.role.Call.{Call}
use Rattle.ar_syntax.specs.declared.role.Call.TheVariants as functions
use Rattle.ar_syntax.specs.declared.role.Follow.TheVariants.{Operator}
use Rattle.ar_syntax.specs.Token.{letters, named_words, word_of, word_or_name}
use Rattle.ar_syntax.specs.declared.token.Sign.TheVariants as signs
use Rattle.ar_syntax.specs.declared.token.Token.{Token}
use Rattle.ar_syntax.specs.declared.token.TokenKind.{TokenKind}
use Rattle.ar_syntax.specs.declared.token.TokenKind.TheVariants as kinds
use Rattle.ar_syntax.specs.declared.token.Word.{Word}
use Rattle.ar_syntax.specs.declared.token.Word.TheVariants as words
use Rattle.ar_syntax.proofs.Fronts.{passes-from_find}
use Rattle.ar_show.specs.PartText.{has_sides, has_sign, is_word}
use Rattle.ar_parsed_back.specs.Kinds.{HaveKinds, a_token, argument_kinds, arguments_kinds, arithmetic_token, decimal_token, kinds_in_parentheses, items_kinds, literal_token, no_token, operand_kinds, written_order, owner_kinds, part_kinds, sided_kinds, sign, word}
use Rattle.ar_parsed_back.specs.Readable.{CanBeWritten, EachCanBeWritten, is_text}
use Rattle.ar_parsed_back.specs.Written.{Writes, WritesEach, arithmetic_of, decimal_arithmetic_of, infix_of}
use Rattle.ar_parsed_back.specs.Written as writes
use Rattle.ar_parsed_back.proofs.Alone.{not_alone, read_alone}
use Rattle.ar_parsed_back.proofs.Roles.{begins, follows_by, group_by, halves, name_by, text_by}

-- ---- levels and openers

or_true : (b : Bool) → (b || true) ≡ true
or_true true = refl
or_true false = refl

opened : (left : ℕ) → may_open at_any_depth left ≡ true
opened left = or_true (nat_lt 0 left)

abbrev up : ℕ → ℕ → ℕ
up zero d = d
up (suc k) d = suc (up k d)

-- what may be said of tokens, a tree and the tokens after it, where n openers may begin
abbrev Reading : Type 1
Reading = ℕ → List Token → Expression → List Token → Type 0

module _ (inside : Bool) where
  abbrev Whole : Reading
  Whole left tokens tree rest = Phrase at_any_depth ternary inside left tokens tree rest

  abbrev Operand : Reading
  Operand left tokens tree rest = Phrase at_any_depth zero inside left tokens tree rest

  -- fields and indices may come after it
  abbrev Owner : Reading
  Owner left tokens tree rest = (more : Expression) (end : List Token) → Selections at_any_depth inside left tree rest more end → Phrase at_any_depth zero inside left tokens more end

  -- a part with sides is a whole, one with a sign an operand, and any other an owner
  abbrev AsPart : (sides signed : Bool) → Reading
  AsPart true signed left tokens tree rest = Whole left tokens tree rest
  AsPart false true left tokens tree rest = Operand left tokens tree rest
  AsPart false false left tokens tree rest = Owner left tokens tree rest

  module _ (left : ℕ) (tokens : List Token) (tree : Expression) (rest : List Token) where
    lifted : (k d : ℕ) → Phrase at_any_depth d inside left tokens tree rest → Phrase at_any_depth (up k d) inside left tokens tree rest
    lifted zero d phrase = phrase
    lifted (suc k) d phrase = grammar.level (lifted k d phrase) grammar.nothing

    operand_whole : Operand left tokens tree rest → Whole left tokens tree rest
    operand_whole phrase = lifted 6 0 phrase

    owner_operand : Owner left tokens tree rest → Operand left tokens tree rest
    owner_operand owner = owner tree rest grammar.nothing_more

    as_owner : (sides signed : Bool) → Owner left tokens tree rest → AsPart sides signed left tokens tree rest
    as_owner true signed owner = operand_whole (owner_operand owner)
    as_owner false true owner = owner_operand owner
    as_owner false false owner = owner

    as_whole : (sides signed : Bool) → AsPart sides signed left tokens tree rest → Whole left tokens tree rest
    as_whole true signed phrase = phrase
    as_whole false true phrase = operand_whole phrase
    as_whole false false owner = operand_whole (owner_operand owner)

    as_operand : (signed : Bool) → AsPart false signed left tokens tree rest → Operand left tokens tree rest
    as_operand true phrase = phrase
    as_operand false owner = owner_operand owner

  -- tokens are read as a tree that says the part
  abbrev Said : Reading → Typed → List Token → List Token → Type 0
  Said By part tokens rest = (tree : Expression) × Writes tree part × ((left : ℕ) → By left tokens tree rest)

  -- so are all tokens of these kinds
  abbrev IsReadFrom : Reading → Typed → List TokenKind → Type 0
  IsReadFrom By part all = (tokens rest : List Token) → HaveKinds all tokens rest → Said By part tokens rest

  abbrev IsRead : Typed → Type 0
  IsRead part = IsReadFrom (AsPart (has_sides part) (has_sign part)) part (part_kinds part)

  whole : (part : Typed) → IsRead part → IsReadFrom Whole part (part_kinds part)
  whole part read tokens rest have =
      let said = read tokens rest have in
      (said.0, said.1, λ left. as_whole left tokens said.0 rest (has_sides part) (has_sign part) (said.2 left))

  owned : (part : Typed) (all : List TokenKind) (sides signed : Bool) → IsReadFrom Owner part all → IsReadFrom (AsPart sides signed) part all
  owned part all sides signed read tokens rest have =
      let said = read tokens rest have in
      (said.0, said.1, λ left. as_owner left tokens said.0 rest sides signed (said.2 left))

  -- ---- parentheses

  grouped : (opener : Token) (tokens : List Token) (tree : Expression) (mid rest : List Token) → opener.kind ≡ sign signs.OpenParenthesis → HaveKinds (sign signs.CloseParenthesis ∷ []) mid rest
      → ((left : ℕ) → Whole left tokens tree mid) → (left : ℕ) → Owner left (opener ∷ tokens) tree rest
  grouped opener tokens tree [] rest is have phrase left = elim have [ ]
  grouped opener tokens tree (close ∷ mid) rest is (a_token ends no_token) phrase left =
      λ more end selections. grammar.postfixed (grammar.group (begins opener (sign signs.OpenParenthesis) is inside) (opened left) (phrase (pred left)) (follows_by close (sign signs.CloseParenthesis) ends)) selections

  in_group : (part : Typed) (inner : List TokenKind) → IsReadFrom Whole part inner → IsReadFrom Owner part (kinds_in_parentheses true inner)
  in_group part inner read [] rest have = elim have [ ]
  in_group part inner read (opener ∷ tokens) rest (a_token is have) =
      let parts = halves inner (sign signs.CloseParenthesis ∷ []) tokens rest have in
      let said = read tokens parts.mid parts.front in
      (said.0, said.1, grouped opener tokens said.0 parts.mid rest is parts.back said.2)

  operand_by : (part : Typed) (inner : List TokenKind) (sides signed : Bool) → IsReadFrom (AsPart sides signed) part inner → IsReadFrom Operand part (kinds_in_parentheses sides inner)
  operand_by part inner true signed read tokens rest have =
      let said = in_group part inner read tokens rest have in
      (said.0, said.1, λ left. owner_operand left tokens said.0 rest (said.2 left))
  operand_by part inner false signed read tokens rest have =
      let said = read tokens rest have in
      (said.0, said.1, λ left. as_operand left tokens said.0 rest signed (said.2 left))

  owner_by : (part : Typed) (inner : List TokenKind) (sides signed : Bool) → IsReadFrom (AsPart sides signed) part inner → IsReadFrom Owner part (kinds_in_parentheses (sides || signed) inner)
  owner_by part inner true signed read = in_group part inner read
  owner_by part inner false true read = in_group part inner within
    where
      within : IsReadFrom Whole part inner
      within tokens rest have = let said = read tokens rest have in (said.0, said.1, λ left. operand_whole left tokens said.0 rest (said.2 left))
  owner_by part inner false false read = read

  operand : (part : Typed) → IsRead part → IsReadFrom Operand part (operand_kinds part (part_kinds part))
  operand part read = operand_by part (part_kinds part) (has_sides part) (has_sign part) read

  owner : (part : Typed) → IsRead part → IsReadFrom Owner part (owner_kinds part (part_kinds part))
  owner part read = owner_by part (part_kinds part) (has_sides part) (has_sign part) read

  -- ---- leaves

  leafed : (part : Typed) (kind : TokenKind) (tree : ℕ → Expression) → ((at : ℕ) → kind_start inside at kind ≡ Leaf (tree at)) → ((at : ℕ) → Writes (tree at) part) → IsReadFrom Owner part (kind ∷ [])
  leafed part kind tree starts says [] rest have = elim have [ ]
  leafed part kind tree starts says (token ∷ tokens) rest (a_token is no_token) =
      (tree token.span.start, says token.span.start, λ left more end selections. grammar.postfixed (grammar.leaf (begins token kind is inside ∙ starts token.span.start)) selections)

  -- ---- fields and indices

  named : (name : Text) (found : Option Word) → word_of name ≡ found → kind_name (word_or_name name found) ≡ Some name
  unfolding word_of
  named name None is = refl
  named name (Some found) is =
      let passes : bytes_eq (letters found) name ≡ true = passes-from_find (λ it. bytes_eq (letters it) name) named_words found is in
      ap (λ (all : Text). Some all) ((bytes_eq-Decides (letters found) name).0 passes)

  pointed : (name : Text) (tokens : List Token) (first : Expression) (mid rest : List Token) → HaveKinds (sign signs.Point ∷ word_or_name name (word_of name) ∷ []) mid rest
      → ((left : ℕ) → Owner left tokens first mid) → (at : ℕ) × ((left : ℕ) → Owner left tokens (FieldAt at first name) rest)
  pointed name tokens first [] rest have read = elim have [ ]
  pointed name tokens first (point ∷ []) rest (a_token p have) read = elim have [ ]
  pointed name tokens first (point ∷ field ∷ mid) rest (a_token p (a_token f no_token)) read = (
    point.span.start,
    λ left more end selections.
        read left more end (grammar.field (follows_by point (sign signs.Point) p) (name_by field (word_or_name name (word_of name)) f ∙ named name (word_of name) refl) selections),
  )

  bracketed : (name : Text) (tokens : List Token) (first : Expression) (mid rest : List Token) → HaveKinds (sign signs.OpenBracket ∷ kinds.Text name ∷ sign signs.CloseBracket ∷ []) mid rest
      → ((left : ℕ) → Owner left tokens first mid) → (at : ℕ) × ((left : ℕ) → Owner left tokens (FieldAt at first name) rest)
  bracketed name tokens first [] rest have read = elim have [ ]
  bracketed name tokens first (opener ∷ []) rest (a_token o have) read = elim have [ ]
  bracketed name tokens first (opener ∷ text ∷ []) rest (a_token o (a_token t have)) read = elim have [ ]
  bracketed name tokens first (opener ∷ text ∷ close ∷ mid) rest (a_token o (a_token t (a_token c no_token))) read = (
    opener.span.start,
    λ left more end selections.
        read left more end (grammar.text_field (follows_by opener (sign signs.OpenBracket) o) (opened left) (text_by text (kinds.Text name) t) (follows_by close (sign signs.CloseBracket) c) selections),
  )

  fielded : (whole : Typed) (name : Text) → IsRead whole → (is : Bool)
      → IsReadFrom Owner (typed.field whole name) (owner_kinds whole (part_kinds whole) ++ (if is then sign signs.Point ∷ word_or_name name (word_of name) ∷ [] else sign signs.OpenBracket ∷ kinds.Text name ∷ sign signs.CloseBracket ∷ []))
  fielded whole name read true tokens rest have =
      let parts = halves (owner_kinds whole (part_kinds whole)) (sign signs.Point ∷ word_or_name name (word_of name) ∷ []) tokens rest have in
      let said = owner whole read tokens parts.mid parts.front in
      let field = pointed name tokens said.0 parts.mid rest parts.back said.2 in
      (FieldAt field.0 said.0 name, writes.field said.1, field.1)
  fielded whole name read false tokens rest have =
      let parts = halves (owner_kinds whole (part_kinds whole)) (sign signs.OpenBracket ∷ kinds.Text name ∷ sign signs.CloseBracket ∷ []) tokens rest have in
      let said = owner whole read tokens parts.mid parts.front in
      let field = bracketed name tokens said.0 parts.mid rest parts.back said.2 in
      (FieldAt field.0 said.0 name, writes.field said.1, field.1)

  -- one token after a whole
  abbrev Ended : TokenKind → Reading
  Ended kind left tokens tree rest = (close : Token) × (close.kind ≡ kind) × Whole left tokens tree (close ∷ rest)

  ended : (part : Typed) (inner : List TokenKind) (kind : TokenKind) → IsReadFrom Whole part inner → IsReadFrom (Ended kind) part (inner ++ kind ∷ [])
  ended part inner kind read tokens rest have = let parts = halves inner (kind ∷ []) tokens rest have in from parts.mid (read tokens parts.mid parts.front) parts.back
    where
      from : (mid : List Token) → Said Whole part tokens mid → HaveKinds (kind ∷ []) mid rest → Said (Ended kind) part tokens rest
      from [] said have = elim have [ ]
      from (close ∷ mid) said (a_token is no_token) = (said.0, said.1, λ left. (close, is, said.2 left))

  indexed : (list place : Typed) → IsRead list → IsRead place → is_text place ≡ false
      → IsReadFrom Owner (typed.binary binary.Index list place) (owner_kinds list (part_kinds list) ++ sign signs.OpenBracket ∷ (part_kinds place ++ sign signs.CloseBracket ∷ []))
  indexed list place read_list read_place no_text tokens rest have =
      let parts = halves (owner_kinds list (part_kinds list)) (sign signs.OpenBracket ∷ (part_kinds place ++ sign signs.CloseBracket ∷ [])) tokens rest have in
      from parts.mid (owner list read_list tokens parts.mid parts.front) parts.back
    where
      from : (mid : List Token) → Said Owner list tokens mid → HaveKinds (sign signs.OpenBracket ∷ (part_kinds place ++ sign signs.CloseBracket ∷ [])) mid rest → Said Owner (typed.binary binary.Index list place) tokens rest
      from [] said have = elim have [ ]
      from (opener ∷ mid) said (a_token is have) =
          let inner = ended place (part_kinds place) (sign signs.CloseBracket) (whole place read_place) mid rest have in
          let lone = read_alone (part_kinds place ++ sign signs.CloseBracket ∷ []) mid rest have (not_alone place (sign signs.CloseBracket ∷ []) no_text) in (
            IndexAt opener.span.start said.0 inner.0,
            writes.index said.1 inner.1,
            λ left more end selections.
                let close = inner.2 (pred left) in
                said.2 left more end (grammar.index (follows_by opener (sign signs.OpenBracket) is) (opened left) lone close.2 (follows_by close.0 (sign signs.CloseBracket) close.1) selections),
          )

  -- ---- signs before an operand

  signed : (part operand_part : Typed) (kind : TokenKind) (operator : Unary) → IsRead operand_part → ((at : ℕ) → kind_start inside at kind ≡ Prefix operator) → ((at : ℕ) (tree : Expression) → Writes tree operand_part → Writes (UnaryAt at operator tree) part)
      → IsReadFrom Operand part (kind ∷ operand_kinds operand_part (part_kinds operand_part))
  signed part operand_part kind operator read starts says [] rest have = elim have [ ]
  signed part operand_part kind operator read starts says (token ∷ tokens) rest (a_token is have) =
      let said = operand operand_part read tokens rest have in
      (UnaryAt token.span.start operator said.0, says token.span.start said.0 said.1, λ left. grammar.prefixed (begins token kind is inside ∙ starts token.span.start) (opened left) (said.2 (pred left)))

  -- ---- operators between two sides

  module _ (left : ℕ) (token : Token) (tokens later rest : List Token) (first second : Expression) (operator : Binary) (is : follows token ≡ Operator operator) where
    at_level : (d k : ℕ) → up d 0 ≡ d → up k (suc d) ≡ ternary → precedence operator ≡ d → Operand left tokens first (token ∷ later) → Operand left later second rest → Whole left tokens (BinaryAt token.span.start operator first second) rest
    at_level d k low high level front back =
        let a : Phrase at_any_depth d inside left tokens first (token ∷ later) = subst (λ (n : ℕ). Phrase at_any_depth n inside left tokens first (token ∷ later)) low (lifted left tokens first (token ∷ later) d 0 front) in
        let b : Phrase at_any_depth d inside left later second rest = subst (λ (n : ℕ). Phrase at_any_depth n inside left later second rest) low (lifted left later second rest d 0 back) in
        subst (λ (n : ℕ). Phrase at_any_depth n inside left tokens (BinaryAt token.span.start operator first second) rest) high
        (lifted left tokens (BinaryAt token.span.start operator first second) rest k (suc d) (grammar.level a (grammar.operator is level b grammar.nothing)))

  between : (left : ℕ) (token : Token) (tokens later rest : List Token) (first second : Expression) (operator : Binary) → follows token ≡ Operator operator
      → Operand left tokens first (token ∷ later) → Operand left later second rest → Whole left tokens (BinaryAt token.span.start operator first second) rest
  between left token tokens later rest first second binaries.Or is front back = at_level left token tokens later rest first second _ is 4 1 refl refl refl front back
  between left token tokens later rest first second binaries.And is front back = at_level left token tokens later rest first second _ is 3 2 refl refl refl front back
  between left token tokens later rest first second (binaries.Comparison comparison) is front back = at_level left token tokens later rest first second _ is 2 3 refl refl refl front back
  between left token tokens later rest first second binaries.In is front back = at_level left token tokens later rest first second _ is 2 3 refl refl refl front back
  between left token tokens later rest first second binaries.NotIn is front back = at_level left token tokens later rest first second _ is 2 3 refl refl refl front back
  between left token tokens later rest first second (binaries.TextTest test) is front back = at_level left token tokens later rest first second _ is 2 3 refl refl refl front back
  between left token tokens later rest first second binaries.Add is front back = at_level left token tokens later rest first second _ is 1 4 refl refl refl front back
  between left token tokens later rest first second binaries.Subtract is front back = at_level left token tokens later rest first second _ is 1 4 refl refl refl front back
  between left token tokens later rest first second binaries.Multiply is front back = at_level left token tokens later rest first second _ is 0 5 refl refl refl front back
  between left token tokens later rest first second binaries.Divide is front back = at_level left token tokens later rest first second _ is 0 5 refl refl refl front back
  between left token tokens later rest first second binaries.Remainder is front back = at_level left token tokens later rest first second _ is 0 5 refl refl refl front back

  -- two sides are read with what is between them
  pub record AreSides (left_part right_part : Typed) (kind : TokenKind) (tokens rest : List Token) : Type 0 where
    token : Token
    later : List Token
    first : Expression
    second : Expression
    is : token.kind ≡ kind
    first_says : Writes first left_part
    second_says : Writes second right_part
    front : (left : ℕ) → Operand left tokens first (token ∷ later)
    back : (left : ℕ) → Operand left later second rest

  both_sides : (kind : TokenKind) (left_part right_part : Typed) → IsRead left_part → IsRead right_part → (tokens rest : List Token) → HaveKinds (sided_kinds kind left_part right_part (part_kinds left_part) (part_kinds right_part)) tokens rest
      → AreSides left_part right_part kind tokens rest
  both_sides kind left_part right_part read_left read_right tokens rest have =
      let parts = halves (operand_kinds left_part (part_kinds left_part)) (kind ∷ operand_kinds right_part (part_kinds right_part)) tokens rest have in
      from parts.mid (operand left_part read_left tokens parts.mid parts.front) parts.back
    where
      from : (mid : List Token) → Said Operand left_part tokens mid → HaveKinds (kind ∷ operand_kinds right_part (part_kinds right_part)) mid rest → AreSides left_part right_part kind tokens rest
      from [] said have = elim have [ ]
      from (token ∷ mid) said (a_token is have) =
          let other = operand right_part read_right mid rest have in
          record { token = token; later = mid; first = said.0; second = other.0; is = is; first_says = said.1; second_says = other.1; front = said.2; back = other.2 }

  sided : (part left_part right_part : Typed) (kind : TokenKind) (operator : Binary) → IsRead left_part → IsRead right_part → kind_follow kind ≡ Operator operator
      → ((at : ℕ) (first second : Expression) → Writes first left_part → Writes second right_part → Writes (BinaryAt at operator first second) part)
      → IsReadFrom Whole part (sided_kinds kind left_part right_part (part_kinds left_part) (part_kinds right_part))
  sided part left_part right_part kind operator read_left read_right follows_as says tokens rest have =
      let sides = both_sides kind left_part right_part read_left read_right tokens rest have in (
        BinaryAt sides.token.span.start operator sides.first sides.second,
        says sides.token.span.start sides.first sides.second sides.first_says sides.second_says,
        λ left.
            between left sides.token tokens sides.later rest sides.first sides.second operator (follows_by sides.token kind sides.is ∙ follows_as) (sides.front left) (sides.back left),
      )

  chosen : (condition then_branch else_branch : Typed) → IsRead condition → IsRead then_branch → IsRead else_branch → IsReadFrom Whole (typed.choice condition then_branch else_branch) (part_kinds (typed.choice condition then_branch else_branch))
  chosen condition then_branch else_branch read_condition read_then read_else tokens rest have =
      let parts = halves (sided_kinds (sign signs.Question) condition then_branch (part_kinds condition) (part_kinds then_branch)) (sign signs.Colon ∷ operand_kinds else_branch (part_kinds else_branch)) tokens rest have in
      from parts.mid (both_sides (sign signs.Question) condition then_branch read_condition read_then tokens parts.mid parts.front) parts.back
    where
      from : (mid : List Token) → AreSides condition then_branch (sign signs.Question) tokens mid → HaveKinds (sign signs.Colon ∷ operand_kinds else_branch (part_kinds else_branch)) mid rest
          → Said Whole (typed.choice condition then_branch else_branch) tokens rest
      from [] sides have = elim have [ ]
      from (colon ∷ mid) sides (a_token is have) =
          let other = operand else_branch read_else mid rest have in (
            ChoiceAt sides.token.span.start sides.first sides.second other.0,
            writes.choice sides.first_says sides.second_says other.1,
            λ left.
                grammar.level (lifted left tokens sides.first (sides.token ∷ sides.later) 5 0 (sides.front left))
                (grammar.choice (follows_by sides.token (sign signs.Question) sides.is) (opened left) refl
                (operand_whole (pred left) sides.later sides.second (colon ∷ mid) (sides.back (pred left)))
                (follows_by colon (sign signs.Colon) is)
                (operand_whole (pred left) mid other.0 rest (other.2 (pred left)))),
          )

  -- ---- calls

  called_one : (part operand_part : Typed) (name : Word) (function : Call) → IsRead operand_part → ((at : ℕ) → word_start at name ≡ Calls function) → is_body function 0 ≡ false → takes_all at_any_depth function 1 ≡ true
      → ((at : ℕ) (tree : Expression) → Writes tree operand_part → Writes (called at function (tree ∷ [])) part)
      → IsReadFrom Owner part (word name ∷ argument_kinds (part_kinds operand_part))
  called_one part operand_part name function read starts no_body all says [] rest have = elim have [ ]
  called_one part operand_part name function read starts no_body all says (token ∷ []) rest (a_token is have) = elim have [ ]
  called_one part operand_part name function read starts no_body all says (token ∷ opener ∷ tokens) rest (a_token is (a_token opens have)) =
      let said = ended operand_part (part_kinds operand_part) (sign signs.CloseParenthesis) (whole operand_part read) tokens rest have in (
        called token.span.start function (said.0 ∷ []),
        says token.span.start said.0 said.1,
        λ left more end selections.
            let close = said.2 (pred left) in
            grammar.postfixed (grammar.call (begins token (word name) is inside ∙ starts token.span.start) (opened left) (group_by opener (sign signs.OpenParenthesis) opens)
            (grammar.argument no_body close.2 (grammar.last_argument (follows_by close.0 (sign signs.CloseParenthesis) close.1) all))) selections,
      )

-- ---- calls with two arguments

-- a comma after the first argument, and a parenthesis after the second
record AreArguments (inside within : Bool) (first_part second_part : Typed) (tokens rest : List Token) : Type 0 where
  comma : Token
  later : List Token
  first : Expression
  second : Expression
  is : comma.kind ≡ sign signs.Comma
  first_says : Writes first first_part
  second_says : Writes second second_part
  front : (left : ℕ) → Whole inside left tokens first (comma ∷ later)
  back : (left : ℕ) → Ended within (sign signs.CloseParenthesis) left later second rest

both_arguments : (inside within : Bool) (first_part second_part : Typed) → IsRead inside first_part → IsRead within second_part → (tokens rest : List Token)
    → HaveKinds (part_kinds first_part ++ sign signs.Comma ∷ (part_kinds second_part ++ sign signs.CloseParenthesis ∷ [])) tokens rest → AreArguments inside within first_part second_part tokens rest
both_arguments inside within first_part second_part read_first read_second tokens rest have =
    let parts = halves (part_kinds first_part) (sign signs.Comma ∷ (part_kinds second_part ++ sign signs.CloseParenthesis ∷ [])) tokens rest have in
    from parts.mid (whole inside first_part read_first tokens parts.mid parts.front) parts.back
  where
    from : (mid : List Token) → Said inside (Whole inside) first_part tokens mid → HaveKinds (sign signs.Comma ∷ (part_kinds second_part ++ sign signs.CloseParenthesis ∷ [])) mid rest → AreArguments inside within first_part second_part tokens rest
    from [] said have = elim have [ ]
    from (comma ∷ mid) said (a_token is have) =
        let other = ended within second_part (part_kinds second_part) (sign signs.CloseParenthesis) (whole within second_part read_second) mid rest have in
        record { comma = comma; later = mid; first = said.0; second = other.0; is = is; first_says = said.1; second_says = other.1; front = said.2; back = other.2 }

defaulted : (inside : Bool) (first_part second_part : Typed) → IsRead inside first_part → IsRead inside second_part
    → IsReadFrom inside (Owner inside) (typed.binary binary.Default first_part second_part) (word words.Default ∷ arguments_kinds (part_kinds first_part) (part_kinds second_part))
defaulted inside first_part second_part read_first read_second [] rest have = elim have [ ]
defaulted inside first_part second_part read_first read_second (token ∷ []) rest (a_token is have) = elim have [ ]
defaulted inside first_part second_part read_first read_second (token ∷ opener ∷ tokens) rest (a_token is (a_token opens have)) =
    let both = both_arguments inside inside first_part second_part read_first read_second tokens rest have in (
      DefaultAt token.span.start both.first both.second,
      writes.default both.first_says both.second_says,
      λ left more end selections.
          let close = both.back (pred left) in
          grammar.postfixed (grammar.call (begins token (word words.Default) is inside) (opened left) (group_by opener (sign signs.OpenParenthesis) opens)
          (grammar.argument refl (both.front (pred left)) (grammar.comma_argument (follows_by both.comma (sign signs.Comma) both.is) refl
          (grammar.argument refl close.2 (grammar.last_argument (follows_by close.0 (sign signs.CloseParenthesis) close.1) refl))))) selections,
    )

predicated : (inside : Bool) (over : Predicate) (list body : Typed) → IsRead inside list → IsRead true body
    → IsReadFrom inside (Owner inside) (typed.predicate over list body) (word (words.Over over) ∷ arguments_kinds (part_kinds list) (part_kinds body))
predicated inside over list body read_list read_body [] rest have = elim have [ ]
predicated inside over list body read_list read_body (token ∷ []) rest (a_token is have) = elim have [ ]
predicated inside over list body read_list read_body (token ∷ opener ∷ tokens) rest (a_token is (a_token opens have)) =
    let both = both_arguments inside true list body read_list read_body tokens rest have in (
      PredicateAt token.span.start over both.first both.second,
      writes.predicate both.first_says both.second_says,
      λ left more end selections.
          let close = both.back (pred left) in
          grammar.postfixed (grammar.call (begins token (word (words.Over over)) is inside) (opened left) (group_by opener (sign signs.OpenParenthesis) opens)
          (grammar.argument refl (both.front (pred left)) (grammar.comma_argument (follows_by both.comma (sign signs.Comma) both.is) refl
          (grammar.body refl close.2 (grammar.last_argument (follows_by close.0 (sign signs.CloseParenthesis) close.1) refl))))) selections,
    )

-- ---- lists

abbrev AreRead : Bool → Typeds → Type 0
AreRead inside typed.none = Unit {0}
AreRead inside (typed.more part others) = IsRead inside part × AreRead inside others

may_go_on : (count : ℕ) → count < 16 → may_continue at_any_depth count ≡ true
may_go_on count few = rw (lt-ltb count 16 few) refl

module _ (inside : Bool) where
  -- the items after some others, up to the bracket
  items_read : (others : Typeds) (so_far : List Expression) → AreRead inside others → length so_far + how_many others ≤ 16 → (tokens rest : List Token) → HaveKinds (items_kinds false others ++ sign signs.CloseBracket ∷ []) tokens rest
      → (items : List Expression) × WritesEach (expressions items) others × ((left : ℕ) → ItemsAfter at_any_depth inside left so_far tokens (so_far ++ items) rest)
  items_read typed.none so_far read few [] rest have = elim have [ ]
  items_read (typed.more part others) so_far read few [] rest have = elim have [ ]
  items_read typed.none so_far read few (close ∷ tokens) rest (a_token is no_token) =
      ([], writes.none, λ left. subst (λ (items : List Expression). ItemsAfter at_any_depth inside left so_far (close ∷ rest) items rest) (sym (append-nil so_far)) (grammar.last_item (follows_by close (sign signs.CloseBracket) is)))
  items_read (typed.more part others) so_far read few (comma ∷ tokens) rest (a_token is have) =
      let parts = halves (part_kinds part) (items_kinds false others ++ sign signs.CloseBracket ∷ []) tokens rest (rw (append_assoc (part_kinds part) (items_kinds false others) (sign signs.CloseBracket ∷ [])) at have) in
      let said = whole inside part read.0 tokens parts.mid parts.front in
      let later = items_read others (so_far ++ said.0 ∷ []) read.1 (omega (arith, length-append so_far (said.0 ∷ []))) parts.mid rest parts.back in (
        said.0 ∷ later.0,
        writes.more said.1 later.1,
        λ left.
            subst (λ (items : List Expression). ItemsAfter at_any_depth inside left so_far (comma ∷ tokens) items rest) (append_assoc so_far (said.0 ∷ []) later.0)
            (grammar.comma_item (follows_by comma (sign signs.Comma) is) (may_go_on (length so_far) (omega arith)) (grammar.item (said.2 left) (later.2 left))),
      )

  listed : (scalar : Scalar) (items : Typeds) → AreRead inside items → 1 ≤ how_many items → how_many items ≤ 16
      → IsReadFrom inside (Owner inside) (typed.listed scalar items) (sign signs.OpenBracket ∷ (items_kinds true items ++ sign signs.CloseBracket ∷ []))
  listed scalar items read some few [] rest have = elim have [ ]
  listed scalar typed.none read some few (opener ∷ tokens) rest have = absurd (omega arith)
  listed scalar (typed.more part others) read some few (opener ∷ tokens) rest (a_token is have) =
      let parts = halves (part_kinds part) (items_kinds false others ++ sign signs.CloseBracket ∷ []) tokens rest (rw (append_assoc (part_kinds part) (items_kinds false others) (sign signs.CloseBracket ∷ [])) at have) in
      let said = whole inside part read.0 tokens parts.mid parts.front in
      let later = items_read others (said.0 ∷ []) read.1 (omega arith) parts.mid rest parts.back in (
        ListAt opener.span.start (expressions (said.0 ∷ later.0)),
        writes.list (writes.more said.1 later.1),
        λ left more end selections.
            grammar.postfixed (grammar.list (begins opener (sign signs.OpenBracket) is inside) (opened left) (grammar.item (said.2 (pred left)) (later.2 (pred left)))) selections,
      )

-- ---- parts

-- what isn't shown changes nothing
hidden : (inside : Bool) (By : Reading) (part operand_part : Typed) (all : List TokenKind) → ((tree : Expression) → Writes tree operand_part → Writes tree part) → IsReadFrom inside By operand_part all → IsReadFrom inside By part all
hidden inside By part operand_part all says read tokens rest have = let said = read tokens rest have in (said.0, says said.0 said.1, said.2)

arithmetic_follows : (operator : Arithmetic) → kind_follow (arithmetic_token operator) ≡ Operator (arithmetic_of operator)
arithmetic_follows wholes.Add = refl
arithmetic_follows wholes.Subtract = refl
arithmetic_follows wholes.Multiply = refl
arithmetic_follows wholes.Divide = refl
arithmetic_follows wholes.Remainder = refl

decimal_follows : (operator : DecimalArithmetic) → kind_follow (decimal_token operator) ≡ Operator (decimal_arithmetic_of operator)
decimal_follows decimals.Add = refl
decimal_follows decimals.Subtract = refl
decimal_follows decimals.Multiply = refl
decimal_follows decimals.Divide = refl

literal_read : (inside : Bool) (literal : Literal) → ((at : ℕ) → kind_start inside at (literal_token literal) ≡ Leaf (LiteralAt at literal)) → IsRead inside (typed.literal literal)
literal_read inside literal starts =
    owned inside (typed.literal literal) (literal_token literal ∷ []) false (has_sign (typed.literal literal)) (leafed inside (typed.literal literal) (literal_token literal) (λ at. LiteralAt at literal) starts (λ at. writes.literal))

infix_read : (inside : Bool) (operator : BinaryOperator) (left right : Typed) (kind : TokenKind) (written : Binary) → IsRead inside left → IsRead inside right → kind_follow kind ≡ Operator written → infix_of operator ≡ Some written
    → IsReadFrom inside (Whole inside) (typed.binary operator left right) (sided_kinds kind left right (part_kinds left) (part_kinds right))
infix_read inside operator left right kind written read_left read_right follows_as is =
    sided inside (typed.binary operator left right) left right kind written read_left read_right follows_as (λ at first second. writes.sides is)

mutual
  pub reads : (part : Typed) (inside : Bool) → CanBeWritten inside part → IsRead inside part
  reads typed.result inside can = leafed inside typed.result (word words.Result) (λ at. ResultAt at) (λ at. refl) (λ at. writes.result)
  reads typed.item true can = leafed true typed.item (sign signs.Hash) (λ at. ItemAt at) (λ at. refl) (λ at. writes.item)
  reads typed.item false can = absurd cc
  reads (typed.literal literals.Nil) inside can = literal_read inside literals.Nil (λ at. refl)
  reads (typed.literal (literals.Bool true)) inside can = literal_read inside (literals.Bool true) (λ at. refl)
  reads (typed.literal (literals.Bool false)) inside can = literal_read inside (literals.Bool false) (λ at. refl)
  reads (typed.literal (literals.Whole whole)) inside can = literal_read inside (literals.Whole whole) (λ at. refl)
  reads (typed.literal (literals.Decimal millionths)) inside can = literal_read inside (literals.Decimal millionths) (λ at. refl)
  reads (typed.literal (literals.Text text)) inside can = literal_read inside (literals.Text text) (λ at. refl)
  reads (typed.field whole name) inside can = fielded inside whole name (reads whole inside can.0) (is_word name)
  reads (typed.unary unary.Need operand) inside can =
      hidden inside (AsPart inside (has_sides operand) (has_sign operand)) (typed.unary unary.Need operand) operand (part_kinds operand) (λ tree. writes.needed) (reads operand inside can)
  reads (typed.unary unary.ToDecimal operand) inside can =
      hidden inside (AsPart inside (has_sides operand) (has_sign operand)) (typed.unary unary.ToDecimal operand) operand (part_kinds operand) (λ tree. writes.as_decimal) (reads operand inside can)
  reads (typed.unary unary.Len operand) inside can =
      called_one inside (typed.unary unary.Len operand) operand words.Len functions.Len (reads operand inside can) (λ at. refl) refl refl (λ at tree. writes.len)
  reads (typed.unary unary.IsNil operand) inside can =
      called_one inside (typed.unary unary.IsNil operand) operand words.IsNil functions.IsNil (reads operand inside can) (λ at. refl) refl refl (λ at tree. writes.is_nil)
  reads (typed.unary unary.Not operand) inside can =
      signed inside (typed.unary unary.Not operand) operand (sign signs.Not) unaries.Not (reads operand inside can) (λ at. refl) (λ at tree. writes.negation)
  reads (typed.unary (unary.Negate of) operand) inside can =
      signed inside (typed.unary (unary.Negate of) operand) operand (sign signs.Minus) unaries.Minus (reads operand inside can) (λ at. refl) (λ at tree. writes.minus)
  reads (typed.binary binary.Index left right) inside can = indexed inside left right (reads left inside can.0) (reads right inside can.1) can.2
  reads (typed.binary binary.Default left right) inside can = defaulted inside left right (reads left inside can.0) (reads right inside can.1)
  reads (typed.binary binary.IsIn left right) inside can =
      infix_read inside binary.IsIn left right (word words.In) binaries.In (reads left inside can.0) (reads right inside can.1) refl refl
  reads (typed.binary (binary.Wholes operator) left right) inside can =
      infix_read inside (binary.Wholes operator) left right (arithmetic_token operator) (arithmetic_of operator) (reads left inside can.0) (reads right inside can.1) (arithmetic_follows operator) refl
  reads (typed.binary (binary.Decimals operator) left right) inside can =
      infix_read inside (binary.Decimals operator) left right (decimal_token operator) (decimal_arithmetic_of operator) (reads left inside can.0) (reads right inside can.1) (decimal_follows operator) refl
  reads (typed.binary (binary.Compare of way) left right) inside can =
      infix_read inside (binary.Compare of way) left right (sign (signs.Comparison (written_order way))) (binaries.Comparison (written_order way)) (reads left inside can.0) (reads right inside can.1) refl refl
  reads (typed.binary (binary.Equal family) left right) inside can =
      infix_read inside (binary.Equal family) left right (sign (signs.Comparison comparisons.Equal)) (binaries.Comparison comparisons.Equal) (reads left inside can.0) (reads right inside can.1) refl refl
  reads (typed.binary (binary.TextTest test) left right) inside can =
      infix_read inside (binary.TextTest test) left right (word (words.Test test)) (binaries.TextTest test) (reads left inside can.0) (reads right inside can.1) refl refl
  reads (typed.both left right) inside can =
      sided inside (typed.both left right) left right (word words.And) binaries.And (reads left inside can.0) (reads right inside can.1) refl (λ at first second. writes.both)
  reads (typed.either left right) inside can =
      sided inside (typed.either left right) left right (word words.Or) binaries.Or (reads left inside can.0) (reads right inside can.1) refl (λ at first second. writes.either)
  reads (typed.choice condition then_branch else_branch) inside can =
      chosen inside condition then_branch else_branch (reads condition inside can.0) (reads then_branch inside can.1) (reads else_branch inside can.2)
  reads (typed.listed scalar items) inside can = listed inside scalar items (each_reads items inside can.2) (leb-true _ _ can.0) (leb-true _ _ can.1)
  reads (typed.predicate over list body) inside can = predicated inside over list body (reads list inside can.0) (reads body true can.1)

  each_reads : (items : Typeds) (inside : Bool) → EachCanBeWritten inside items → AreRead inside items
  each_reads typed.none inside can = tt
  each_reads (typed.more part others) inside can = (reads part inside can.0, each_reads others inside can.1)

-- tokens of a part's kinds, and no more, say it
pub kinds_are_read : (part : Typed) (inside : Bool) (tokens : List Token) → CanBeWritten inside part → HaveKinds (part_kinds part) tokens []
    → (tree : Expression) × Writes tree part × ((left : ℕ) → Phrase at_any_depth ternary inside left tokens tree [])
kinds_are_read part inside tokens can have = whole inside part (reads part inside can) tokens [] have
