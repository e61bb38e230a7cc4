-- The offset and the name of a fault are those that the definitions give.
use Rattle.std.proofs.Common.{◌≡◌, ◌≢◌, ℕ, Bool, true, false, List, [], ◌∷◌, ◌++◌, length, refl, sym, ◌∙◌, ap, subst, Option, Some, None}
use Rattle.ar_syntax.specs.Grammar.{Rules}
use Rattle.ar_syntax.specs.Machine.{ParserState, Want, WantIndex, WantArgument}
use Rattle.ar_syntax.specs.Roles.{follows, is_body, is_brace, is_group, is_in, field_name_of, begun_by, literal_text}
use Rattle.ar_syntax.specs.declared.token.Token.{Token}
use Rattle.ar_syntax.specs.declared.token.Sign.TheVariants as signs
use Rattle.ar_syntax.specs.declared.token.TokenKind.{TokenKind}
use Rattle.ar_syntax.specs.declared.token.TokenKind.TheVariants as kinds
use Rattle.std.specs.Prelude.{cond}
use Rattle.ar_syntax.specs.Machine.{argue, parser_step}
use Rattle.ar_syntax.specs.Roles.{kind_follow}
use Rattle.ar_syntax.specs.Machine.{run, start_state, step_from, whole}
use Rattle.std.specs.Prelude.{pos}
use Rattle.std.proofs.Common.{append_assoc}
use Rattle.ar_syntax.specs.Grammar.{BeginsBy}
use Rattle.ar_syntax.specs.Machine.{reached}
use Rattle.ar_syntax.proofs.Runs.{IsState, IsStateFrom}
use Rattle.std.specs.Prelude.{◌&&◌, not}
use Rattle.ar_syntax.specs.Fault.{accepts, is_inside, wants_operand}
use Rattle.ar_syntax.specs.Roles.{kind_is_group, kind_is_in, kind_name}
use Rattle.ar_syntax.proofs.Completions.{BeginsBy-reached, reached-BeginsBy, reached-counted, reached-is, run-append, run-none, token_of}
use Rattle.ar_syntax.specs.Fault.{fault_of, kind_fault}
use Rattle.ar_syntax.specs.Condition.{Derives, at_any_depth, of_any_count, of_any_items, strict}
use Rattle.ar_syntax.specs.Refusal.{BeginsCondition, IsInside, IsNamedAfter, AreRefused, IsRefusedAfter, WantsOperand, has_no_comma, is_comma}
use Rattle.ar_syntax.specs.Refusal as refusal
use Rattle.ar_syntax.specs.declared.error.SyntaxError.{SyntaxError}
use Rattle.ar_syntax.specs.declared.error.SyntaxError.TheVariants.{Unexpected, WrongCount, TooManyItems, TooDeep}
use Rattle.std.specs.Prelude.{ℤ}
use Rattle.ar_syntax.proofs.Completions.{digit}
use Rattle.ar_syntax.proofs.Counts.{IsCountedFrom, IsCountedState}
use Rattle.ar_syntax.proofs.Insides.{IsUseless, Out, arrives, hash, hash-is, hash-stops, name-stops, out-step, point-stops, stop-other}
use Rattle.ar_syntax.proofs.Relaxed.{reached-relaxed}
use Rattle.ar_syntax.proofs.Starts.{start_by}

pub accepted : (next : Option ParserState) → accepts next ≡ true → (state : ParserState) × (next ≡ Some state)
accepted (Some state) is = (state, refl)
accepted None is = absurd cc

pub accepts-some : (next : Option ParserState) → next ≢ None → accepts next ≡ true
accepts-some (Some state) some = refl
accepts-some None some = absurd (some refl)

-- ---- one token more

module _ (rules : Rules) (before : List Token) (state : ParserState) (there : reached rules before ≡ Some state) where
  push-run : (c : Token) → reached rules (before ++ c ∷ []) ≡ parser_step rules state c
  push-run c = run-append rules (Some start_state) before (c ∷ []) ∙ ap (λ (s : Option ParserState). step_from rules s c) there

  pub begins-accepts : (c : Token) → BeginsBy rules (before ++ c ∷ []) → accepts (parser_step rules state c) ≡ true
  begins-accepts c begins = accepts-some (parser_step rules state c) (λ none. reached-BeginsBy rules (before ++ c ∷ []) begins (push-run c ∙ none))

  accepts-begins : (c : Token) → accepts (parser_step rules state c) ≡ true → BeginsBy rules (before ++ c ∷ [])
  accepts-begins c accepts_is =
      let next = accepted (parser_step rules state c) accepts_is in
      BeginsBy-reached rules (before ++ c ∷ []) next.0 (push-run c ∙ next.1)

pub none-refused : (next : Option ParserState) → accepts next ≡ false → next ≡ None
none-refused (Some state) is = absurd cc
none-refused None is = refl

module _ (before : List Token) (state : ParserState) (there : reached strict before ≡ Some state) where
  is_state : IsState state
  is_state = subst IsStateFrom there (reached-is strict (Some start_state) before tt)

  is_counted : IsCountedState strict state
  is_counted = subst (IsCountedFrom strict) there (reached-counted strict (Some start_state) before tt)

  -- ---- where an operand is expected

  kind_number-useless : (value : ℤ) (number : Token) → number.kind ≡ kinds.Whole value → IsUseless number
  unfolding follows field_name_of is_in is_group
  kind_number-useless value number is = record { follow = ap kind_follow is; named = ap kind_name is; in_word = ap kind_is_in is; group = ap kind_is_group is }

  wants-from : WantsOperand before → wants_operand state ≡ true
  wants-from wants = chosen (wants_operand state) refl
    where
      chosen : (b : Bool) → wants_operand state ≡ b → wants_operand state ≡ true
      chosen true is = is
      chosen false is =
          let taken = begins-accepts strict before state there wants.0 wants.3 in
          let stops = stop-other strict state wants.0 is (kind_number-useless wants.1 wants.0 wants.2) in
          let e = ap accepts stops in absurd cc

  digit-taken : (state : ParserState) → wants_operand state ≡ true → accepts (parser_step strict state digit) ≡ true
  unfolding parser_step begun_by literal_text follows is_brace digit token_of
  digit-taken (Want stack) is = refl
  digit-taken (WantIndex stack at whole) is = refl
  digit-taken (WantArgument stack at function []) is = argued (is_body function 0)
    where
      argued : (body : Bool) → accepts (argue strict stack at function [] digit (start_by body false)) ≡ true
      argued true = refl
      argued false = refl
  digit-taken (WantArgument stack at function (first ∷ so_far)) is = argued (is_body function (length (first ∷ so_far)))
    where
      argued : (body : Bool) → accepts (argue strict stack at function (first ∷ so_far) digit (start_by body false)) ≡ true
      argued true = refl
      argued false = refl
  digit-taken other is = absurd cc

  digit-kind : digit.kind ≡ kinds.Whole (pos 0)
  unfolding digit token_of
  digit-kind = refl

  wants-to : wants_operand state ≡ true → WantsOperand before
  wants-to is = (digit, pos 0, digit-kind, accepts-begins strict before state there digit (digit-taken state is))

  -- ---- where one is inside a predicate

  out-run : (tokens : List Token) (first last : ParserState) → has_no_comma tokens ≡ true → run strict (Some first) tokens ≡ Some last → is_inside last ≡ true → is_inside first ≡ true
  out-run [] first last free e is = let same : first ≡ last = cc in ap is_inside same ∙ is
  out-run (c ∷ tokens) first last free e is = stepped (parser_step strict first c) (out-step strict first c (no_comma-head (is_comma c.kind) (has_no_comma tokens) free)) (λ next f. out-run tokens next last (no_comma-tail (is_comma c.kind) (has_no_comma tokens) free) f is) e
    where
      no_comma-head : (a b : Bool) → (not a && b) ≡ true → a ≡ false
      no_comma-head false b h = refl
      no_comma-head true b h = absurd cc

      no_comma-tail : (a b : Bool) → (not a && b) ≡ true → b ≡ true
      no_comma-tail false b h = h
      no_comma-tail true b h = absurd cc

      stepped : (next : Option ParserState) → Out (is_inside first) next → ((next : ParserState) → run strict (Some next) tokens ≡ Some last → is_inside next ≡ true) → run strict next tokens ≡ Some last → is_inside first ≡ true
      stepped (Some next) out go e = out (go next e)
      stepped None out go e = let none = run-none strict tokens in absurd cc

  inside-from : IsInside before → is_inside state ≡ true
  inside-from inside_is = reached_there (run strict (Some state) inside_is.0) refl
    where
      joined : reached strict (before ++ inside_is.0) ≡ run strict (Some state) inside_is.0
      joined = run-append strict (Some start_state) before inside_is.0 ∙ ap (λ (s : Option ParserState). run strict s inside_is.0) there

      at_item : (last : ParserState) → run strict (Some state) inside_is.0 ≡ Some last → (b : Bool) → is_inside last ≡ b → is_inside last ≡ true
      at_item last e true is = is
      at_item last e false is =
          let taken = begins-accepts strict (before ++ inside_is.0) last (joined ∙ e) inside_is.1 inside_is.4 in
          let stops = ap accepts (hash-stops inside_is.1 strict last inside_is.3 is) in absurd cc

      reached_there : (last : Option ParserState) → run strict (Some state) inside_is.0 ≡ last → is_inside state ≡ true
      reached_there (Some last) e = out-run inside_is.0 state last inside_is.2 e (at_item last e (is_inside last) refl)
      reached_there None e =
          let all = run-append strict (Some start_state) (before ++ inside_is.0) (inside_is.1 ∷ []) ∙ ap (λ (s : Option ParserState). run strict s (inside_is.1 ∷ [])) (joined ∙ e) in
          absurd (reached-BeginsBy strict ((before ++ inside_is.0) ++ inside_is.1 ∷ []) inside_is.4 all)

  inside-to : is_inside state ≡ true → IsInside before
  inside-to is =
      let further = arrives state is_state is_counted is in
      let last = accepted (run strict (Some state) (further.0 ++ hash ∷ [])) further.2 in
      let joined = run-append strict (Some start_state) before (further.0 ++ hash ∷ []) ∙ ap (λ (s : Option ParserState). run strict s (further.0 ++ hash ∷ [])) there in
      (further.0, hash, further.1, hash-is, BeginsBy-reached strict ((before ++ further.0) ++ hash ∷ []) last.0 (ap (reached strict) (append_assoc before further.0 (hash ∷ [])) ∙ joined ∙ last.1))

-- ---- the name of a fault

other_fault : (b c d : Bool) (x y z w e : SyntaxError) → b ≡ false → c ≡ false → d ≡ false → w ≡ e → cond b x (cond c y (cond d z w)) ≡ e
other_fault b c d x y z w e f g h i = rw (f, g, h) i

accepts-none : (next : Option ParserState) → next ≡ None → accepts next ≡ false
accepts-none next is = ap accepts is

refuses : (b : Bool) (A : Type 0) → (b ≡ true → A) → ¬ A → b ≡ false
refuses false A to none = refl
refuses true A to none = absurd (none (to refl))

pub fault-not : (b : Bool) → b ≢ true → b ≡ false
fault-not false none = refl
fault-not true none = absurd (none refl)

module _ (before : List Token) (state : ParserState) (there : reached strict before ≡ Some state) (c : Token) where
  relaxed : (rules : Rules) → reached rules before ≡ Some state
  relaxed rules = reached-relaxed rules before state there

  named-is : (error : SyntaxError) → IsNamedAfter before c error → fault_of state c ≡ error
  unfolding fault_of
  named-is error (refusal.unknown_name {name = word} is wants) =
      let wanted_is = wants-from before state there wants in
      other_fault _ _ _ _ _ _ _ _
      (accepts-none _ (name-stops c of_any_count state word is wanted_is)) (accepts-none _ (name-stops c of_any_items state word is wanted_is)) (accepts-none _ (name-stops c at_any_depth state word is wanted_is))
      (rw (wanted_is, is) refl)
  named-is error (refusal.item_outside is out) =
      let outside = fault-not (is_inside state) (λ h. out (inside-to before state there h)) in
      other_fault _ _ _ _ _ _ _ _ (accepts-none _ (hash-stops c of_any_count state is outside)) (accepts-none _ (hash-stops c of_any_items state is outside)) (accepts-none _ (hash-stops c at_any_depth state is outside)) (rw (outside, is) refl)
  named-is error (refusal.item_field_outside is wants out) =
      let wanted_is = wants-from before state there wants in
      let outside = fault-not (is_inside state) (λ h. out (inside-to before state there h)) in
      other_fault _ _ _ _ _ _ _ _ (accepts-none _ (point-stops c of_any_count state is wanted_is outside)) (accepts-none _ (point-stops c of_any_items state is wanted_is outside)) (accepts-none _ (point-stops c at_any_depth state is wanted_is outside)) (rw (wanted_is, outside, is) refl)
  named-is error (refusal.wrong_count begins) = rw (begins-accepts of_any_count before state (relaxed of_any_count) c begins) refl
  named-is error (refusal.too_many_items counts_not begins) =
      rw (refuses (accepts (parser_step of_any_count state c)) _ (accepts-begins of_any_count before state (relaxed of_any_count) c) counts_not, begins-accepts of_any_items before state (relaxed of_any_items) c begins) refl
  named-is error (refusal.too_deep counts_not items_not begins) =
      rw (refuses (accepts (parser_step of_any_count state c)) _ (accepts-begins of_any_count before state (relaxed of_any_count) c) counts_not, refuses (accepts (parser_step of_any_items state c)) _ (accepts-begins of_any_items before state (relaxed of_any_items) c) items_not, begins-accepts at_any_depth before state (relaxed at_any_depth) c begins) refl

  never_unexpected : (at : ℕ) (error : SyntaxError) → IsNamedAfter before c error → error ≢ Unexpected at
  never_unexpected at error (refusal.unknown_name is wants) e = cc
  never_unexpected at error (refusal.item_outside is out) e = cc
  never_unexpected at error (refusal.item_field_outside is wants out) e = cc
  never_unexpected at error (refusal.wrong_count begins) e = cc
  never_unexpected at error (refusal.too_many_items counts_not begins) e = cc
  never_unexpected at error (refusal.too_deep counts_not items_not begins) e = cc

  -- a token without a name of its own
  unnamed : fault_of state c ≡ Unexpected c.span.start → IsRefusedAfter before c (Unexpected c.span.start)
  unnamed e = refusal.unexpected (λ error is. never_unexpected c.span.start error is (sym (named-is error is) ∙ e))

  wants-test : (b : Bool) → wants_operand state ≡ b → b ≡ true → WantsOperand before
  wants-test b e is = wants-to before state there (e ∙ is)

  outside-test : (b : Bool) → is_inside state ≡ b → b ≡ false → ¬ IsInside before
  outside-test b e is inside_is = let within = inside-from before state there inside_is in absurd cc

  kind-refused : (kind : TokenKind) (wants within : Bool) → c.kind ≡ kind → wants_operand state ≡ wants → is_inside state ≡ within → fault_of state c ≡ kind_fault wants within kind c.span.start → IsRefusedAfter before c (kind_fault wants within kind c.span.start)
  kind-refused (kinds.Name word) true within is w i e = refusal.named (refusal.unknown_name is (wants-test true w refl))
  kind-refused (kinds.Name word) false within is w i e = unnamed e
  kind-refused (kinds.Sign signs.Hash) wants false is w i e = refusal.named (refusal.item_outside is (outside-test false i refl))
  kind-refused (kinds.Sign signs.Hash) wants true is w i e = unnamed e
  kind-refused (kinds.Sign signs.Point) true false is w i e = refusal.named (refusal.item_field_outside is (wants-test true w refl) (outside-test false i refl))
  kind-refused (kinds.Sign signs.Point) true true is w i e = unnamed e
  kind-refused (kinds.Sign signs.Point) false within is w i e = unnamed e
  kind-refused kind wants within is w i e = unnamed e

  fault-is : (b1 b2 b3 : Bool) → accepts (parser_step of_any_count state c) ≡ b1 → accepts (parser_step of_any_items state c) ≡ b2 → accepts (parser_step at_any_depth state c) ≡ b3
      → fault_of state c ≡ cond b1 (WrongCount c.span.start) (cond b2 (TooManyItems c.span.start) (cond b3 (TooDeep c.span.start) (kind_fault (wants_operand state) (is_inside state) c.kind c.span.start)))
  unfolding fault_of
  fault-is b1 b2 b3 e1 e2 e3 = rw (e1, e2, e3) refl

  not_begun : (rules : Rules) → accepts (parser_step rules state c) ≡ false → ¬ BeginsBy rules (before ++ c ∷ [])
  not_begun rules e begins = let taken = begins-accepts rules before state (relaxed rules) c begins in absurd cc

  refused-by : (b1 b2 b3 : Bool) → accepts (parser_step of_any_count state c) ≡ b1 → accepts (parser_step of_any_items state c) ≡ b2 → accepts (parser_step at_any_depth state c) ≡ b3 → IsRefusedAfter before c (fault_of state c)
  refused-by true b2 b3 e1 e2 e3 = subst (IsRefusedAfter before c) (sym (fault-is true b2 b3 e1 e2 e3)) (refusal.named (refusal.wrong_count (accepts-begins of_any_count before state (relaxed of_any_count) c e1)))
  refused-by false true b3 e1 e2 e3 = subst (IsRefusedAfter before c) (sym (fault-is false true b3 e1 e2 e3)) (refusal.named (refusal.too_many_items (not_begun of_any_count e1) (accepts-begins of_any_items before state (relaxed of_any_items) c e2)))
  refused-by false false true e1 e2 e3 =
      subst (IsRefusedAfter before c) (sym (fault-is false false true e1 e2 e3)) (refusal.named (refusal.too_deep (not_begun of_any_count e1) (not_begun of_any_items e2) (accepts-begins at_any_depth before state (relaxed at_any_depth) c e3)))
  refused-by false false false e1 e2 e3 =
      let e = fault-is false false false e1 e2 e3 in
      subst (IsRefusedAfter before c) (sym e) (kind-refused c.kind (wants_operand state) (is_inside state) refl refl refl e)

  -- the fault has the name that the definitions give
  pub is-refused : IsRefusedAfter before c (fault_of state c)
  is-refused = refused-by (accepts (parser_step of_any_count state c)) (accepts (parser_step of_any_items state c)) (accepts (parser_step at_any_depth state c)) refl refl refl

  same-unexpected : (error : SyntaxError) → IsRefusedAfter before c error → ((e : SyntaxError) → ¬ IsNamedAfter before c e) → error ≡ Unexpected c.span.start
  same-unexpected error (refusal.named is) none = absurd (none error is)
  same-unexpected error (refusal.unexpected none') none = refl

  -- and no other
  pub one-name : (error : SyntaxError) → IsRefusedAfter before c error → error ≡ fault_of state c
  one-name error (refusal.named is) = sym (named-is error is)
  one-name error (refusal.unexpected none) = sym (same-unexpected (fault_of state c) is-refused none)
