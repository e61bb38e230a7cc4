-- What one token does after an operand: phrases of tighter levels end before it.
use Rattle.std.proofs.Common.{◌≡◌, ◌≢◌, ℕ, zero, suc, ◌+◌, ◌-◌, ◌<◌, ◌≤◌, Bool, true, false, List, [], ◌∷◌, ◌++◌, refl, sym, ◌∙◌, ap, subst, arith, Option, Some, None}
use Rattle.std.specs.Prelude.{pred}
use Rattle.ar_tree.specs.Expression.{Expression, UnaryAt, BinaryAt, ChoiceAt}
use Rattle.ar_syntax.specs.Grammar.{Arguments, ArgumentsAfter, Further, ListItems, ItemsAfter, Phrase, Primary, Rules, Selections, may_continue, may_open, most_openers, takes_all, takes_more, ternary}
use Rattle.ar_syntax.specs.Grammar as grammar
use Rattle.ar_syntax.specs.Machine.{Frame, ParserState, RightOf, Prefixed, Then, Else, Grouped, Listed, Indexed, Argued, Body, Braced, Have, in_predicate, openers_left, wanted}
use Rattle.ar_syntax.specs.Roles.{Call, Ender, Follow, Ends, Comma, Colon, EndGroup, EndBracket, EndBrace, Operator, NotOf, Choose, Select, Open, follows, precedence}
use Rattle.ar_syntax.specs.declared.token.Token.{Token}
use Rattle.ar_tree.specs.declared.tree.Binary.{Binary}
use Rattle.ar_tree.specs.declared.tree.Binary.TheVariants.{NotIn}
use Rattle.ar_tree.specs.declared.tree.Binary.TheVariants as binaries
use Rattle.std.specs.Prelude.{nat_le, cond}
use Rattle.std.proofs.lemmas.Bool.{leb-true, leb-false}
use Rattle.ar_syntax.specs.Machine.{climbed}
use Rattle.ar_syntax.proofs.Leads.{Claim, Rise, After}

-- the level at which a token is an operator
abbrev pub level_of : Follow → Option ℕ
level_of (Operator operator) = Some (precedence operator)
level_of NotOf = Some 2
level_of Choose = Some 5
level_of role = None

-- a stack as the machine makes it: an operator's right side is within a phrase of a looser level
abbrev pub IsStack : List Frame → Type 0
IsStack [] = Unit {0}
IsStack (RightOf at operator first ∷ stack) = (precedence operator < wanted stack) × IsStack stack
IsStack (Then at condition ∷ stack) = (wanted stack ≡ ternary) × IsStack stack
IsStack (Else at condition then_branch ∷ stack) = (wanted stack ≡ ternary) × IsStack stack
IsStack (frame ∷ stack) = IsStack stack

-- which way a test went
pub either : {A : Type 0} (P : A → Type 0) (test : Bool) (x y : A) → (test ≡ true → P x) → (test ≡ false → P y) → P (cond test x y)
either P true x y is isnt = is refl
either P false x y is isnt = isnt refl

pub either-from : {A : Type 0} (P : A → Type 0) (Q : Type 0) (test : Bool) (x y : A) → (test ≡ true → P x → Q) → (test ≡ false → P y → Q) → P (cond test x y) → Q
either-from P Q true x y is isnt holds = is refl holds
either-from P Q false x y is isnt holds = isnt refl holds

pub precedence-le : (operator : Binary) → precedence operator ≤ 4
precedence-le binaries.Or = omega arith
precedence-le binaries.And = omega arith
precedence-le (binaries.Comparison comparison) = omega arith
precedence-le binaries.In = omega arith
precedence-le binaries.NotIn = omega arith
precedence-le (binaries.TextTest test) = omega arith
precedence-le binaries.Add = omega arith
precedence-le binaries.Subtract = omega arith
precedence-le binaries.Multiply = omega arith
precedence-le binaries.Divide = omega arith
precedence-le binaries.Remainder = omega arith

-- no level is looser than `tern`
pub wanted-le : (stack : List Frame) → wanted stack ≤ 6
wanted-le [] = omega arith
wanted-le (RightOf at operator first ∷ stack) = omega (arith, precedence-le operator)
wanted-le (Prefixed at operator ∷ stack) = omega arith
wanted-le (Then at condition ∷ stack) = omega arith
wanted-le (Else at condition then_branch ∷ stack) = omega arith
wanted-le (Grouped ∷ stack) = omega arith
wanted-le (Listed at so_far ∷ stack) = omega arith
wanted-le (Indexed at whole ∷ stack) = omega arith
wanted-le (Argued at function so_far ∷ stack) = omega arith
wanted-le (Body at function so_far ∷ stack) = omega arith
wanted-le (Braced at function so_far ∷ stack) = omega arith

pub low : (operator : Binary) → precedence operator < 6
low operator = omega (arith, precedence-le operator)

-- where an operand ends phrases up to a level, a frame of a looser one is on top
abbrev pub Climbed : ℕ → ParserState → Type 0
Climbed l (Have stack tree) = (l < wanted stack) × IsStack stack
Climbed l state = ⊥

pub climbed-is : (l : ℕ) → l < 6 → (stack : List Frame) (tree : Expression) → IsStack stack → Climbed l (climbed l stack tree)
climbed-is l low (RightOf at operator first ∷ stack) tree is =
    either (Climbed l) (nat_le (precedence operator) l) (climbed l stack (BinaryAt at operator first tree)) (Have (RightOf at operator first ∷ stack) tree)
    (λ is_tight. climbed-is l low stack (BinaryAt at operator first tree) is.1) (λ is_loose. (leb-false (precedence operator) l is_loose, is))
climbed-is l low (Prefixed at operator ∷ stack) tree is = climbed-is l low stack (UnaryAt at operator tree) is
climbed-is l low [] tree is = (low, is)
climbed-is l low (Then at condition ∷ stack) tree is = (low, is)
climbed-is l low (Else at condition then_branch ∷ stack) tree is = (low, is)
climbed-is l low (Grouped ∷ stack) tree is = (low, is)
climbed-is l low (Listed at so_far ∷ stack) tree is = (low, is)
climbed-is l low (Indexed at whole ∷ stack) tree is = (low, is)
climbed-is l low (Argued at function so_far ∷ stack) tree is = (low, is)
climbed-is l low (Body at function so_far ∷ stack) tree is = (low, is)
climbed-is l low (Braced at function so_far ∷ stack) tree is = (low, is)

module _ (rules : Rules) where
  -- ---- levels that a token passes

  further-pass : (d : ℕ) (b : Bool) (n : ℕ) (K : Claim) (tree more : Expression) (c : Token) (tokens rest : List Token) → level_of (follows c) ≢ Some d
      → Further rules d b n tree (c ∷ tokens) more rest → K more rest → K tree (c ∷ tokens)
  further-pass d b n K tree more c tokens rest not (grammar.nothing) k = k
  further-pass d b n K tree more c tokens rest not (grammar.operator role level phrase later) k = absurd (not (ap level_of role ∙ ap (λ (j : ℕ). Some j) level))
  further-pass d b n K tree more c tokens rest not (grammar.not_in role is level phrase later) k = absurd (not (ap level_of role ∙ ap (λ (j : ℕ). Some j) level))
  further-pass d b n K tree more c tokens rest not (grammar.choice role opens level first colon second) k = absurd (not (ap level_of role ∙ ap (λ (j : ℕ). Some j) (sym (omega (arith, level)))))

  further-end : (d : ℕ) (b : Bool) (n : ℕ) (K : Claim) (tree more : Expression) (rest : List Token) → Further rules d b n tree [] more rest → K more rest → K tree []
  further-end d b n K tree more rest (grammar.nothing) k = k

  pub rise-pass : (k d : ℕ) (b : Bool) (n : ℕ) (K : Claim) (tree : Expression) (c : Token) (tokens : List Token) → ((j : ℕ) → d ≤ j → j < d + k → level_of (follows c) ≢ Some j)
      → Rise rules k d b n K tree (c ∷ tokens) → K tree (c ∷ tokens)
  rise-pass zero d b n K tree c tokens not rise = rise
  rise-pass (suc k) d b n K tree c tokens not rise =
      rise-pass k (suc d) b n K tree c tokens (λ j above below. not j (omega arith) (omega arith))
      (further-pass d b n (Rise rules k (suc d) b n K) tree rise.0 c tokens rise.1 (not d (omega arith) (omega arith)) rise.2 rise.3)

  -- any phrase may end
  pub rise-stay : (k d : ℕ) (b : Bool) (n : ℕ) (K : Claim) (tree : Expression) (tokens : List Token) → K tree tokens → Rise rules k d b n K tree tokens
  rise-stay zero d b n K tree tokens k = k
  rise-stay (suc k) d b n K tree tokens holds = (tree, tokens, grammar.nothing, rise-stay k (suc d) b n K tree tokens holds)

  pub rise-end : (k d : ℕ) (b : Bool) (n : ℕ) (K : Claim) (tree : Expression) → Rise rules k d b n K tree [] → K tree []
  rise-end zero d b n K tree rise = rise
  rise-end (suc k) d b n K tree rise = rise-end k (suc d) b n K tree (further-end d b n (Rise rules k (suc d) b n K) tree rise.0 rise.1 rise.2 rise.3)

  pub selected-pass : (b : Bool) (n : ℕ) (K : Claim) (tree more : Expression) (c : Token) (tokens rest : List Token) → follows c ≢ Select → follows c ≢ Open
      → Selections rules b n tree (c ∷ tokens) more rest → K more rest → K tree (c ∷ tokens)
  selected-pass b n K tree more c tokens rest no_point no_bracket (grammar.nothing_more) k = k
  selected-pass b n K tree more c tokens rest no_point no_bracket (grammar.field role name later) k = absurd (no_point role)
  selected-pass b n K tree more c tokens rest no_point no_bracket (grammar.text_field role opens text closes later) k = absurd (no_bracket role)
  selected-pass b n K tree more c tokens rest no_point no_bracket (grammar.index role opens alone phrase closes later) k = absurd (no_bracket role)

  pub selected-end : (b : Bool) (n : ℕ) (K : Claim) (tree more : Expression) (rest : List Token) → Selections rules b n tree [] more rest → K more rest → K tree []
  selected-end b n K tree more rest (grammar.nothing_more) k = k

  -- ---- from a level to the phrase on it, and back

  level-parts : (d : ℕ) (b : Bool) (n : ℕ) (K : Claim) (tokens rest : List Token) (tree : Expression) → Phrase rules (suc d) b n tokens tree rest → K tree rest
      → (first : Expression) × (mid : List Token) × Phrase rules d b n tokens first mid × ((more : Expression) × (rest : List Token) × Further rules d b n first mid more rest × K more rest)
  level-parts d b n K tokens rest tree (grammar.level phrase further) k = (_, _, phrase, (_, _, further, k))

  pub phrase-down : (k d w : ℕ) (b : Bool) (n : ℕ) (K : Claim) (tokens : List Token) → d + k ≡ w → (tree : Expression) (rest : List Token) → Phrase rules w b n tokens tree rest → K tree rest
      → (first : Expression) × (mid : List Token) × Phrase rules d b n tokens first mid × Rise rules k d b n K first mid
  phrase-down zero d w b n K tokens e tree rest phrase holds =
      let same : w ≡ d = omega (arith, e) in
      (tree, rest, subst (λ (j : ℕ). Phrase rules j b n tokens tree rest) same phrase, holds)
  phrase-down (suc k) d w b n K tokens e tree rest phrase holds =
      let above = phrase-down k (suc d) w b n K tokens (omega (arith, e)) tree rest phrase holds in
      level-parts d b n (Rise rules k (suc d) b n K) tokens above.1 above.0 above.2 above.3

  pub phrase-up : (k d w : ℕ) (b : Bool) (n : ℕ) (K : Claim) (tokens : List Token) → d + k ≡ w → (first : Expression) (mid : List Token) → Phrase rules d b n tokens first mid → Rise rules k d b n K first mid
      → (tree : Expression) × (rest : List Token) × Phrase rules w b n tokens tree rest × K tree rest
  phrase-up zero d w b n K tokens e first mid phrase rise =
      let same : d ≡ w = omega (arith, e) in
      (first, mid, subst (λ (j : ℕ). Phrase rules j b n tokens first mid) same phrase, rise)
  phrase-up (suc k) d w b n K tokens e first mid phrase rise =
      phrase-up k (suc d) w b n K tokens (omega (arith, e)) rise.0 rise.1 (grammar.level phrase rise.2) rise.3

  -- ---- tokens that no frame takes at its end

  items-end : (b : Bool) (n : ℕ) (so_far items : List Expression) (c : Token) (tokens rest : List Token) → ItemsAfter rules b n so_far (c ∷ tokens) items rest → (ender : Ender) × (follows c ≡ Ends ender)
  items-end b n so_far items c tokens rest (grammar.last_item role) = (EndBracket, role)
  items-end b n so_far items c tokens rest (grammar.comma_item role may later) = (Comma, role)

  arguments-end : (b : Bool) (n : ℕ) (function : Call) (so_far arguments : List Expression) (c : Token) (tokens rest : List Token) → ArgumentsAfter rules b n function so_far (c ∷ tokens) arguments rest → (ender : Ender) × (follows c ≡ Ends ender)
  arguments-end b n function so_far arguments c tokens rest (grammar.last_argument role all) = (EndGroup, role)
  arguments-end b n function so_far arguments c tokens rest (grammar.comma_argument role more later) = (Comma, role)

  -- a token that ends nothing in brackets, of a level below the expected one or of none
  pub stuck : (final : Expression) (stack : List Frame) (tree : Expression) (c : Token) (tokens : List Token) → IsStack stack → ((ender : Ender) → follows c ≢ Ends ender)
      → ((j : ℕ) → level_of (follows c) ≡ Some j → j < wanted stack) → ¬ After rules final stack tree (c ∷ tokens)
  stuck final [] tree c tokens is no_end loose after = absurd (cc (after.1))
  stuck final (RightOf at operator first ∷ stack) tree c tokens is no_end loose after =
      stuck final stack (BinaryAt at operator first tree) c tokens is.1 no_end (λ j level. omega (arith, loose j level, is.0))
      (rise-pass (wanted stack - precedence operator) (precedence operator) (in_predicate stack) (openers_left stack) (After rules final stack) (BinaryAt at operator first tree) c tokens (λ j above below level. absurd (omega (arith, loose j level))) after)
  stuck final (Prefixed at operator ∷ stack) tree c tokens is no_end loose after =
      stuck final stack (UnaryAt at operator tree) c tokens is no_end (λ j level. absurd (omega (arith, loose j level)))
      (rise-pass (wanted stack) 0 (in_predicate stack) (openers_left stack) (After rules final stack) (UnaryAt at operator tree) c tokens (λ j above below level. absurd (omega (arith, loose j level))) after)
  stuck final (Then at condition ∷ stack) tree c tokens is no_end loose after = absurd (no_end Colon after.0)
  stuck final (Else at condition then_branch ∷ stack) tree c tokens is no_end loose after = stuck final stack (ChoiceAt at condition then_branch tree) c tokens is.1 no_end (λ j level. omega (arith, loose j level, is.0)) after
  stuck final (Grouped ∷ stack) tree c tokens is no_end loose after = absurd (no_end EndGroup after.0)
  stuck final (Listed at so_far ∷ stack) tree c tokens is no_end loose after =
      let end = items-end (in_predicate stack) (pred (openers_left stack)) (so_far ++ tree ∷ []) after.0 c tokens after.1 after.2 in absurd (no_end end.0 end.1)
  stuck final (Indexed at whole ∷ stack) tree c tokens is no_end loose after = absurd (no_end EndBracket after.0)
  stuck final (Argued at function so_far ∷ stack) tree c tokens is no_end loose after =
      let end = arguments-end (in_predicate stack) (pred (openers_left stack)) function (so_far ++ tree ∷ []) after.0 c tokens after.1 after.2 in absurd (no_end end.0 end.1)
  stuck final (Body at function so_far ∷ stack) tree c tokens is no_end loose after =
      let end = arguments-end (in_predicate stack) (pred (openers_left stack)) function (so_far ++ tree ∷ []) after.0 c tokens after.1 after.2 in absurd (no_end end.0 end.1)
  stuck final (Braced at function so_far ∷ stack) tree c tokens is no_end loose after = absurd (no_end EndBrace after.0)

  -- ---- from one level to a looser one, at an operator of that level

  pub rise-skip : (s d k w l : ℕ) (b : Bool) (n : ℕ) (K : Claim) (tree : Expression) (c : Token) (tokens : List Token) → d + s ≡ l → d + k ≡ w → l < w → level_of (follows c) ≡ Some l
      → Rise rules k d b n K tree (c ∷ tokens) → Rise rules (w - l) l b n K tree (c ∷ tokens)
  rise-skip zero d k w l b n K tree c tokens e f looser level rise =
      let there : d ≡ l = omega (arith, e) in
      let count : k ≡ w - l = omega (arith, e, f) in
      subst (λ (j : ℕ). Rise rules (w - l) j b n K tree (c ∷ tokens)) there (subst (λ (i : ℕ). Rise rules i d b n K tree (c ∷ tokens)) count rise)
  rise-skip (suc s) d zero w l b n K tree c tokens e f looser level rise = absurd (omega (arith, e, f, looser))
  rise-skip (suc s) d (suc k) w l b n K tree c tokens e f looser level rise =
      rise-skip s (suc d) k w l b n K tree c tokens (omega (arith, e)) (omega (arith, f)) looser level
      (further-pass d b n (Rise rules k (suc d) b n K) tree rise.0 c tokens rise.1 (λ same. let here : l ≡ d = cc in absurd (omega (arith, e))) rise.2 rise.3)

  pub rise-back : (s d k w l : ℕ) (b : Bool) (n : ℕ) (K : Claim) (tree : Expression) (tokens : List Token) → d + s ≡ l → d + k ≡ w → l < w
      → Rise rules (w - l) l b n K tree tokens → Rise rules k d b n K tree tokens
  rise-back zero d k w l b n K tree tokens e f looser rise =
      let there : l ≡ d = omega (arith, e) in
      let count : w - l ≡ k = omega (arith, e, f) in
      subst (λ (i : ℕ). Rise rules i d b n K tree tokens) count (subst (λ (j : ℕ). Rise rules (w - l) j b n K tree tokens) there rise)
  rise-back (suc s) d zero w l b n K tree tokens e f looser rise = absurd (omega (arith, e, f, looser))
  rise-back (suc s) d (suc k) w l b n K tree tokens e f looser rise = (tree, tokens, grammar.nothing, rise-back s (suc d) k w l b n K tree tokens (omega (arith, e)) (omega (arith, f)) looser rise)

  -- where the phrases of tighter levels ended, an operand is at that level
  abbrev pub Ready : Expression → ℕ → List Token → ParserState → Type 0
  Ready final l tokens (Have stack tree) = (l < wanted stack) × IsStack stack × Rise rules (wanted stack - l) l (in_predicate stack) (openers_left stack) (After rules final stack) tree tokens
  Ready final l tokens state = ⊥

  module _ (final : Expression) (l : ℕ) (low : l < 6) (c : Token) (tokens : List Token) (level : level_of (follows c) ≡ Some l) where
    stay-to : (stack : List Frame) (tree : Expression) (k d : ℕ) → l < wanted stack → d + k ≡ wanted stack → d ≤ l → IsStack stack
        → Rise rules k d (in_predicate stack) (openers_left stack) (After rules final stack) tree (c ∷ tokens) → Ready final l (c ∷ tokens) (Have stack tree)
    stay-to stack tree k d looser e tight is rise = (looser, is, rise-skip (l - d) d k (wanted stack) l (in_predicate stack) (openers_left stack) (After rules final stack) tree c tokens (omega (arith, tight)) e looser level rise)

    stay-from : (stack : List Frame) (tree : Expression) (k d : ℕ) → l < wanted stack → d + k ≡ wanted stack → d ≤ l
        → Ready final l (c ∷ tokens) (Have stack tree) → Rise rules k d (in_predicate stack) (openers_left stack) (After rules final stack) tree (c ∷ tokens)
    stay-from stack tree k d looser e tight ready = rise-back (l - d) d k (wanted stack) l (in_predicate stack) (openers_left stack) (After rules final stack) tree (c ∷ tokens) (omega (arith, tight)) e looser ready.2

    pub climb-to : (stack : List Frame) (tree : Expression) (k d : ℕ) → d + k ≡ wanted stack → d ≤ l → IsStack stack
        → Rise rules k d (in_predicate stack) (openers_left stack) (After rules final stack) tree (c ∷ tokens) → Ready final l (c ∷ tokens) (climbed l stack tree)
    climb-to (RightOf at operator first ∷ stack) tree k d e tight is rise =
        either (Ready final l (c ∷ tokens)) (nat_le (precedence operator) l) (climbed l stack (BinaryAt at operator first tree)) (Have (RightOf at operator first ∷ stack) tree)
        (λ is_tight.
        let under : precedence operator ≤ l = leb-true (precedence operator) l is_tight in
        climb-to stack (BinaryAt at operator first tree) (wanted stack - precedence operator) (precedence operator) (omega (arith, is.0)) under is.1
        (rise-pass k d (in_predicate stack) (openers_left stack) (After rules final (RightOf at operator first ∷ stack)) tree c tokens (λ j above below other. let same : l ≡ j = cc in absurd (omega (arith, e, under))) rise))
        (λ is_loose. stay-to (RightOf at operator first ∷ stack) tree k d (leb-false (precedence operator) l is_loose) e tight is rise)
    climb-to (Prefixed at operator ∷ stack) tree k d e tight is rise =
        climb-to stack (UnaryAt at operator tree) (wanted stack) 0 (omega arith) (omega arith) is
        (rise-pass k d (in_predicate stack) (pred (openers_left stack)) (After rules final (Prefixed at operator ∷ stack)) tree c tokens (λ j above below other. absurd (omega (arith, e))) rise)
    climb-to [] tree k d e tight is rise = stay-to [] tree k d low e tight is rise
    climb-to (Then at condition ∷ stack) tree k d e tight is rise = stay-to (Then at condition ∷ stack) tree k d low e tight is rise
    climb-to (Else at condition then_branch ∷ stack) tree k d e tight is rise = stay-to (Else at condition then_branch ∷ stack) tree k d low e tight is rise
    climb-to (Grouped ∷ stack) tree k d e tight is rise = stay-to (Grouped ∷ stack) tree k d low e tight is rise
    climb-to (Listed at so_far ∷ stack) tree k d e tight is rise = stay-to (Listed at so_far ∷ stack) tree k d low e tight is rise
    climb-to (Indexed at whole ∷ stack) tree k d e tight is rise = stay-to (Indexed at whole ∷ stack) tree k d low e tight is rise
    climb-to (Argued at function so_far ∷ stack) tree k d e tight is rise = stay-to (Argued at function so_far ∷ stack) tree k d low e tight is rise
    climb-to (Body at function so_far ∷ stack) tree k d e tight is rise = stay-to (Body at function so_far ∷ stack) tree k d low e tight is rise
    climb-to (Braced at function so_far ∷ stack) tree k d e tight is rise = stay-to (Braced at function so_far ∷ stack) tree k d low e tight is rise

    pub climb-from : (stack : List Frame) (tree : Expression) (k d : ℕ) → d + k ≡ wanted stack → d ≤ l → IsStack stack
        → Ready final l (c ∷ tokens) (climbed l stack tree) → Rise rules k d (in_predicate stack) (openers_left stack) (After rules final stack) tree (c ∷ tokens)
    climb-from (RightOf at operator first ∷ stack) tree k d e tight is ready =
        either-from (Ready final l (c ∷ tokens)) (Rise rules k d (in_predicate stack) (openers_left stack) (After rules final (RightOf at operator first ∷ stack)) tree (c ∷ tokens)) (nat_le (precedence operator) l)
        (climbed l stack (BinaryAt at operator first tree)) (Have (RightOf at operator first ∷ stack) tree)
        (λ is_tight ready.
        let under : precedence operator ≤ l = leb-true (precedence operator) l is_tight in
        rise-stay k d (in_predicate stack) (openers_left stack) (After rules final (RightOf at operator first ∷ stack)) tree (c ∷ tokens)
        (climb-from stack (BinaryAt at operator first tree) (wanted stack - precedence operator) (precedence operator) (omega (arith, is.0)) under is.1 ready))
        (λ is_loose ready. stay-from (RightOf at operator first ∷ stack) tree k d (leb-false (precedence operator) l is_loose) e tight ready)
        ready
    climb-from (Prefixed at operator ∷ stack) tree k d e tight is ready =
        rise-stay k d (in_predicate stack) (pred (openers_left stack)) (After rules final (Prefixed at operator ∷ stack)) tree (c ∷ tokens) (climb-from stack (UnaryAt at operator tree) (wanted stack) 0 (omega arith) (omega arith) is ready)
    climb-from [] tree k d e tight is ready = stay-from [] tree k d low e tight ready
    climb-from (Then at condition ∷ stack) tree k d e tight is ready = stay-from (Then at condition ∷ stack) tree k d low e tight ready
    climb-from (Else at condition then_branch ∷ stack) tree k d e tight is ready = stay-from (Else at condition then_branch ∷ stack) tree k d low e tight ready
    climb-from (Grouped ∷ stack) tree k d e tight is ready = stay-from (Grouped ∷ stack) tree k d low e tight ready
    climb-from (Listed at so_far ∷ stack) tree k d e tight is ready = stay-from (Listed at so_far ∷ stack) tree k d low e tight ready
    climb-from (Indexed at whole ∷ stack) tree k d e tight is ready = stay-from (Indexed at whole ∷ stack) tree k d low e tight ready
    climb-from (Argued at function so_far ∷ stack) tree k d e tight is ready = stay-from (Argued at function so_far ∷ stack) tree k d low e tight ready
    climb-from (Body at function so_far ∷ stack) tree k d e tight is ready = stay-from (Body at function so_far ∷ stack) tree k d low e tight ready
    climb-from (Braced at function so_far ∷ stack) tree k d e tight is ready = stay-from (Braced at function so_far ∷ stack) tree k d low e tight ready
