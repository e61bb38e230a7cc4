-- What functions of the walk give and say, one after another.
use Rattle.std.proofs.Common.{◌≡◌, ℕ, Bool, true, false, List, [], ◌∷◌, ◌++◌, Option, None, Some, Result, Ok, Err, refl, ap, sym, ◌∙◌, subst, true≢false}
use Rattle.std.specs.Prelude.{◌||◌, IfOk, not, if◌then◌else◌}
use Rattle.std.specs.declared.alloc.AllocError.{AllocError}
use Rattle.std.proofs.lemmas.List.{append-nil}
use Rattle.ar_value.specs.Answer.{◌>>=◌}
use Rattle.ar_value.specs.Operators.{Failure, Meaning, field_in, unary_meaning}
use Rattle.ar_value.specs.Terms.{Text}
use Rattle.ar_value.specs.Value.{Value}
use Rattle.ar_value.specs.declared.operator.Predicate.{Predicate}
use Rattle.ar_value.specs.declared.operator.UnaryOperator.{UnaryOperator}
use Rattle.ar_tree.specs.Meaning.{mean}
use Rattle.ar_tree.specs.Typed.{Typed}
use Rattle.ar_tree.specs.Typed as typed
use Rattle.ar_operand.specs.Operand.{Meets, failure_of, operand_view}
use Rattle.ar_operand.specs.declared.operand.Operand.{Operand}
use Rattle.ar_operand.specs.declared.operand.Failure.{Failure as FailureCode}
use Rattle.ar_apart.specs.Apart.{Apart}
use Rattle.ar_explain.specs.Operands.{apart_on}
use Rattle.ar_explain.specs.Lines.{Explanation, Line, Outcome, Seen, earlier_lines, explained, gap_lines, is_shown, item_line, item_lines, lines_on_item, operand_own_lines, own_lines, outcome_of}
use Rattle.ar_explain.specs.Operands.{failed_on, on_value, one_operand}
use Rattle.ar_explain.specs.Private.Failed.{ComesTo, MeetsOn, came, came_apart, came_on, found_view, on_of}
use Rattle.ar_apart.specs.Views.{texts_apart}
use Rattle.ar_explain.specs.Private.Keeping.{with_lines}
use Rattle.ar_explain.specs.Private.Places.{Explains, ExplainsFound, ExplainsOn, Place, apart_at, as_meant, at_item, earlier_at, failed_at, holds_meant, holds_on, lines_at, lines_on, meant, with_lines_at}
use Rattle.ar_explain.specs.Trace.{if_value}
use Rattle.ar_explain.specs.Views.{explanation_view}
use Rattle.ar_explain.specs.declared.explanation.Explanation.{Explanation as ExplanationCode}
use Rattle.ar_explain.specs.declared.applied.Found.{Found as FoundCode}
use Rattle.ar_explain.specs.declared.failed.Failed.{Failed as FailedCode}
use Rattle.ar_explain.proofs.Keeping.{all_explained, explanation, with_item, with_more, with_silence}

-- what was met is what is meant
pub meets_is : {X Y : Type 0} (view : X → Y) (met : Result X FailureCode) (meaning : Result Y Failure) → Meets view met meaning → meaning ≡ as_meant view met
meets_is view (Ok x) meaning is = is
meets_is view (Err failure) meaning is = is

-- a value that was met
pub value_is : {X Y : Type 0} (view : X → Y) (met : Result X FailureCode) (x : X) (meaning : Result Y Failure) → met ≡ Ok x → Meets view met meaning → meaning ≡ Ok (view x)
value_is view met x meaning is meets = subst (λ met. Meets view met meaning) is meets

-- a field of an operand
pub field_meets : {X : Type 0} (view : X → Value) (met : Result X FailureCode) (meaning : Meaning) (value : Value) (name text : List ℕ) → meaning ≡ Ok value → text ≡ name
    → Meets view met (field_in text value) → Meets view met (meaning >>= field_in name)
field_meets view met meaning value name text is same meets =
    subst (λ meaning. Meets view met (meaning >>= field_in name)) (sym is) (subst (λ name. Meets view met (field_in name value)) same meets)

-- ---- lines after others

pub more : (place : Place) (old mid new : ExplanationCode) (first later : List Line) → explanation_view mid ≡ with_lines_at place old first
    → explanation_view new ≡ with_lines_at place mid later → explanation_view new ≡ with_lines_at place old (first ++ later)
more place old mid new first later one two =
    two ∙ ap (λ e. with_lines place.silent place.items e later) one ∙ with_more place.silent place.items (explanation_view old) first later

-- a helper's lines after others
pub also : {X Y : Type 0} (view : X → Y) (place : Place) (old mid new : ExplanationCode) (result : Result (Result X FailureCode) AllocError) (meaning : Result Y Failure) (first later : List Line)
    → explanation_view mid ≡ with_lines_at place old first → Explains view place mid new result meaning later → Explains view place old new result meaning (first ++ later)
also view place old mid new (Ok met) meaning first later one is = (is.0, more place old mid new first later one is.1)
also view place old mid new (Err error) meaning first later one is = tt

-- after a value
pub after : {A X Y : Type 0} (view : X → Y) (place : Place) (old mid new : ExplanationCode) (result : Result (Result X FailureCode) AllocError)
    (m : Result A Failure) (x : A) (next : A → Result Y Failure) (first : List Line) (later : A → List Line)
    → m ≡ Ok x → explanation_view mid ≡ with_lines_at place old first → Explains view place mid new result (next x) (later x)
    → Explains view place old new result (m >>= next) (first ++ if_value m later)
after view place old mid new result m x next first later value one is =
    subst (λ m. Explains view place old new result (m >>= next) (first ++ if_value m later)) (sym value)
    (also view place old mid new result (next x) first (later x) one is)

-- after what is taken of a value
pub after_taken : {A B X Y : Type 0} (view : X → Y) (place : Place) (old mid new : ExplanationCode) (result : Result (Result X FailureCode) AllocError)
    (m : Result A Failure) (taken : A → Result B Failure) (x : B) (next : B → Result Y Failure) (first : List Line) (later : B → List Line)
    → (m >>= taken) ≡ Ok x → explanation_view mid ≡ with_lines_at place old first → Explains view place mid new result (next x) (later x)
    → Explains view place old new result (m >>= λ value. taken value >>= next) (first ++ if_value (m >>= taken) later)
after_taken view place old mid new result (Ok value) taken x next first later is one said =
    after view place old mid new result (taken value) x next first later is one said
after_taken view place old mid new result (Err failure) taken x next first later is one said = absurd cc

-- the same by the other boolean
pub otherwise : {X Y : Type 0} (view : X → Y) (place : Place) (old new : ExplanationCode) (result : Result (Result X FailureCode) AllocError) (is : Bool) (one other : Result Y Failure) (said more : List Line)
    → Explains view place old new result (if not is then one else other) (if not is then said else more) → Explains view place old new result (if is then other else one) (if is then more else said)
otherwise view place old new result true one other said more explains = explains
otherwise view place old new result false one other said more explains = explains

-- ---- the same with operands

-- a value that came, and a failure
pub value_came : {X Y : Type 0} (view : X → Y) (met : Result X FailedCode) (x : X) (meaning : Result Y Failure) (on : Option Text) → met ≡ Ok x → MeetsOn view met meaning on
    → meaning ≡ Ok (view x)
value_came view met x meaning on is meets = subst (λ met. MeetsOn view met meaning on) is meets

pub failure_came : {X Y : Type 0} (view : X → Y) (met : Result X FailedCode) (failed : FailedCode) (meaning : Result Y Failure) (on : Option Text) → met ≡ Err failed
    → MeetsOn view met meaning on → (meaning ≡ Err (failure_of failed.failure)) × (on_of failed ≡ on)
failure_came view met failed meaning on is meets = subst (λ met. MeetsOn view met meaning on) is meets

pub also_on : {X Y : Type 0} (view : X → Y) (place : Place) (old mid new : ExplanationCode) (result : Result (Result X FailedCode) AllocError) (meaning : Result Y Failure) (on : Option Text)
    (first later : List Line) → explanation_view mid ≡ with_lines_at place old first → ExplainsOn view place mid new result meaning on later
    → ExplainsOn view place old new result meaning on (first ++ later)
also_on view place old mid new (Ok met) meaning on first later one is = (is.0, more place old mid new first later one is.1)
also_on view place old mid new (Err error) meaning on first later one is = tt

-- after a left operand
pub after_left : (place : Place) (old mid new : ExplanationCode) (result : Result (Result FoundCode FailedCode) AllocError)
    (m : Meaning) (x : Value) (next : Value → Meaning) (on : Value → Option Text) (apart : Value → Option Apart) (first : List Line) (later : Value → List Line)
    → m ≡ Ok x → explanation_view mid ≡ with_lines_at place old first → ExplainsFound place mid new result (next x) (on x) (apart x) (later x)
    → ExplainsFound place old new result (m >>= next) (on_value m on) (on_value m apart) (first ++ if_value m later)
after_left place old mid new (Ok met) m x next on apart first later value one is =
    subst (λ m. ExplainsFound place old new (Ok met) (m >>= next) (on_value m on) (on_value m apart) (first ++ if_value m later)) (sym value)
    (is.0, more place old mid new first (later x) one is.1)
after_left place old mid new (Err error) m x next on apart first later value one is = tt

-- after the list of a predicate
pub after_list : {A Y X : Type 0} (view : X → Y) (place : Place) (old mid new : ExplanationCode) (result : Result (Result X FailedCode) AllocError)
    (m : Meaning) (x : Value) (taken : Value → Result A Failure) (next : A → Result Y Failure) (on : Value → Option Text) (first : List Line) (later : A → List Line)
    → m ≡ Ok x → explanation_view mid ≡ with_lines_at place old first → ExplainsOn view place mid new result (taken x >>= next) (on x) (if_value (taken x) later)
    → ExplainsOn view place old new result (m >>= λ value. taken value >>= next) (on_value m on) (first ++ if_value (m >>= taken) later)
after_list view place old mid new result m x taken next on first later value one is =
    subst (λ m. ExplainsOn view place old new result (m >>= λ value. taken value >>= next) (on_value m on) (first ++ if_value (m >>= taken) later)) (sym value)
    (also_on view place old mid new result (taken x >>= next) (on x) first (if_value (taken x) later) one is)

-- ---- a part's own line

-- what is said of what came is said of what is meant
module _ {A : Type 0} (said : Meaning → Option Text → Option Apart → A) (of_value : (value : Value) (on : Option Text) (apart : Option Apart) → said (Ok value) None apart ≡ said (Ok value) on apart)
    (of_failure : (failure : Failure) (on : Option Text) (apart : Option Apart) → said (Err failure) on None ≡ said (Err failure) on apart) where
  said_of_came : (met : Result FoundCode FailedCode) (meaning : Meaning) (on : Option Text) (apart : Option Apart) → ComesTo met meaning on apart
      → said (came found_view met) (came_on met) (came_apart met) ≡ said meaning on apart
  said_of_came (Ok found) meaning on apart is =
      of_value (found_view found) on (texts_apart found.texts) ∙ ap (λ m. said m on (texts_apart found.texts)) (sym is.0) ∙ ap (λ apart. said meaning on apart) is.1
  said_of_came (Err failed) meaning on apart is =
      of_failure (failure_of failed.failure) (on_of failed) apart ∙ ap (λ m. said m (on_of failed) apart) (sym is.0.0) ∙ ap (λ on. said meaning on apart) is.0.1

said_after : (said : Meaning → Option Text → Option Apart → List Line) (of_value : (value : Value) (on : Option Text) (apart : Option Apart) → said (Ok value) None apart ≡ said (Ok value) on apart)
    (of_failure : (failure : Failure) (on : Option Text) (apart : Option Apart) → said (Err failure) on None ≡ said (Err failure) on apart)
    (place : Place) (old mid new : ExplanationCode) (met : Result FoundCode FailedCode) (meaning : Meaning) (on : Option Text) (apart : Option Apart) (earlier : List Line)
    → ComesTo met meaning on apart → explanation_view mid ≡ with_lines_at place old earlier → explanation_view new ≡ with_lines_at place mid (said (came found_view met) (came_on met) (came_apart met))
    → explanation_view new ≡ with_lines_at place old (earlier ++ said meaning on apart)
said_after said of_value of_failure place old mid new met meaning on apart earlier is one two =
    more place old mid new earlier (said meaning on apart) one
    (two ∙ ap (λ lines. with_lines_at place mid lines) (said_of_came said of_value of_failure met meaning on apart is))

pub own_after : (place : Place) (old mid new : ExplanationCode) (met : Result FoundCode FailedCode) (meaning : Meaning) (on : Option Text) (apart : Option Apart) (tree : Typed) (earlier : List Line)
    → ComesTo met meaning on apart → explanation_view mid ≡ with_lines_at place old earlier
    → explanation_view new ≡ with_lines_at place mid (own_lines tree (came found_view met) (came_on met) (came_apart met))
    → explanation_view new ≡ with_lines_at place old (earlier ++ own_lines tree meaning on apart)
own_after place old mid new met meaning on apart tree earlier is one two =
    said_after (own_lines tree) (λ value on apart. refl) (λ failure on apart. refl) place old mid new met meaning on apart earlier is one two

-- ---- operands of unary operators

of_value : (operator : UnaryOperator) (tree : Typed) (value : Value) (on : Option Text) (apart : Option Apart)
    → operand_own_lines operator tree (Ok value) None apart ≡ operand_own_lines operator tree (Ok value) on apart
of_value operator tree value on apart = refl

of_failure : (operator : UnaryOperator) (tree : Typed) (failure : Failure) (on : Option Text) (apart : Option Apart)
    → operand_own_lines operator tree (Err failure) on None ≡ operand_own_lines operator tree (Err failure) on apart
of_failure operator tree failure on apart = refl

module _ (place : Place) (old mid new : ExplanationCode) (met : Result FoundCode FailedCode) (operator : UnaryOperator) (tree : Typed)
    (is : ComesTo met (meant place tree) (failed_at place tree) (apart_at place tree)) (one : explanation_view mid ≡ with_lines_at place old (earlier_at place tree))
    (two : explanation_view new ≡ with_lines_at place mid (operand_own_lines operator tree (came found_view met) (came_on met) (came_apart met))) where
  operand_said : explanation_view new ≡ with_lines_at place old (earlier_at place (typed.unary operator tree))
  operand_said =
      said_after (operand_own_lines operator tree) (of_value operator tree) (of_failure operator tree) place old mid new met (meant place tree) (failed_at place tree) (apart_at place tree)
      (earlier_at place tree) is one two

  pub after_operand : (found : FoundCode) (result : Result (Result Operand FailedCode) AllocError) → met ≡ Ok found
      → IfOk result (λ met. MeetsOn operand_view met (unary_meaning operator (found_view found)) (Some (one_operand (found_view found))))
      → ExplainsOn operand_view place old new result (meant place (typed.unary operator tree)) (failed_at place (typed.unary operator tree)) (earlier_at place (typed.unary operator tree))
  after_operand found (Ok applied) met_is meets = (
    subst (λ m. MeetsOn operand_view applied (m >>= unary_meaning operator) (on_value m (λ value. Some (one_operand value))))
        (sym (value_came found_view met found (meant place tree) (failed_at place tree) met_is is.0)) meets,
    operand_said,
  )
  after_operand found (Err error) met_is meets = tt

  pub after_failure : (failed inside : FailedCode) → met ≡ Err failed → inside.failure ≡ failed.failure → on_of inside ≡ None
      → ExplainsOn operand_view place old new (Ok (Err inside)) (meant place (typed.unary operator tree)) (failed_at place (typed.unary operator tree)) (earlier_at place (typed.unary operator tree))
  after_failure failed inside met_is same none =
      let fails = (failure_came found_view met failed (meant place tree) (failed_at place tree) met_is is.0).0 in (
        (
          ap (λ m. m >>= unary_meaning operator) fails ∙ ap (λ failure. Err (failure_of failure)) (sym same),
          none ∙ ap (λ m. on_value m (λ value. Some (one_operand value))) (sym fails),
        ),
        operand_said,
      )

-- ---- branches

-- ---- items of predicates

pub held_on : (place inner : Place) (number : ℕ) (value : Value) (silent : Bool) (old new : ExplanationCode) (result : Result (Result Bool FailureCode) AllocError) (body : Typed)
    → inner ≡ at_item number value silent place → Explains (λ (it : Bool). it) inner old new result (holds_meant inner body) (item_line body value ∷ lines_at inner body)
    → IfOk result (λ holds. Meets (λ (it : Bool). it) holds (holds_on place body value)
    × (explanation_view new ≡ with_lines silent place.items (explanation_view old) (lines_on_item number (lines_on place body value))))
held_on place inner number value silent old new (Err error) body is said = tt
held_on place inner number value silent old new (Ok met) body is said =
    let at : Explains (λ (it : Bool). it) (at_item number value silent place) old new (Ok met) (holds_on place body value) (lines_on place body value) =
    subst (λ (inner : Place). Explains (λ (it : Bool). it) inner old new (Ok met) (holds_meant inner body) (item_line body value ∷ lines_at inner body)) is said in
    (at.0, at.1 ∙ with_item silent place.items number (explanation_view old) (lines_on place body value))

-- nothing is said of an item that isn't shown, and nothing at all in silence
one_look : (silent shown : Bool) (items : List ℕ) (e : Explanation) (said : List Line) → (silent || not shown) ≡ true → e ≡ with_lines silent items e (if shown then said else [])
one_look true shown items e said is = sym (with_silence items e (if shown then said else []))
one_look false true items e said is = absurd (true≢false (sym is))
one_look false false items e said is = refl

-- an item that needs no second look
pub look_once : (place : Place) (old new : ExplanationCode) (met : Result Bool FailureCode) (m : Result Bool Failure) (predicate : Predicate) (body : Typed) (seen : Seen) (number : ℕ) (at_end : Bool)
    (said : List Line)
    → Meets (λ (it : Bool). it) met m → (place.silent || not (is_shown predicate seen at_end (as_meant (λ (it : Bool). it) met))) ≡ true
    → explanation_view new ≡ with_lines true place.items (explanation_view old) (lines_on_item number said)
    → explanation_view new ≡ with_lines_at place old (item_lines predicate body seen number at_end m said)
look_once place old new met m predicate body seen number at_end said meets enough one =
    one ∙ with_silence place.items (explanation_view old) (lines_on_item number said)
    ∙ one_look place.silent (is_shown predicate seen at_end (as_meant (λ (it : Bool). it) met)) place.items (explanation_view old) (gap_lines body seen ++ lines_on_item number said) enough
    ∙ ap (λ m. with_lines_at place old (item_lines predicate body seen number at_end m said)) (sym (meets_is (λ (it : Bool). it) met m meets))

-- what is said of any other item, at the second look
two_looks : (silent shown : Bool) (items : List ℕ) (e mid new : Explanation) (gap said : List Line) → (silent || not shown) ≡ false
    → mid ≡ with_lines silent items e gap → new ≡ with_lines false items mid said → new ≡ with_lines silent items e (if shown then gap ++ said else [])
two_looks true shown items e mid new gap said is one two = absurd (true≢false is)
two_looks false false items e mid new gap said is one two = absurd (true≢false is)
two_looks false true items e mid new gap said is one two = two ∙ ap (λ e. with_lines false items e said) one ∙ with_more false items e gap said

pub look_twice : (place : Place) (old looked mid new : ExplanationCode) (met : Result Bool FailureCode) (result : Result (Result Bool FailureCode) AllocError) (m : Result Bool Failure)
    (predicate : Predicate) (body : Typed) (seen : Seen) (number : ℕ) (at_end : Bool) (said : List Line)
    → Meets (λ (it : Bool). it) met m → (place.silent || not (is_shown predicate seen at_end (as_meant (λ (it : Bool). it) met))) ≡ false
    → explanation_view looked ≡ with_lines true place.items (explanation_view old) (lines_on_item number said)
    → explanation_view mid ≡ with_lines_at place looked (gap_lines body seen)
    → IfOk result (λ holds. Meets (λ (it : Bool). it) holds m × (explanation_view new ≡ with_lines false place.items (explanation_view mid) (lines_on_item number said)))
    → Explains (λ (it : Bool). it) place old new result m (item_lines predicate body seen number at_end m said)
look_twice place old looked mid new met (Err error) m predicate body seen number at_end said meets enough one gap two = tt
look_twice place old looked mid new met (Ok again) m predicate body seen number at_end said meets enough one gap two = (
  two.0,
  two_looks place.silent (is_shown predicate seen at_end (as_meant (λ (it : Bool). it) met)) place.items (explanation_view old) (explanation_view mid) (explanation_view new) (gap_lines body seen)
      (lines_on_item number said) enough
      (gap ∙ ap (λ e. with_lines place.silent place.items e (gap_lines body seen)) (one ∙ with_silence place.items (explanation_view old) (lines_on_item number said))) two.1
      ∙ ap (λ m. with_lines_at place old (item_lines predicate body seen number at_end m said)) (sym (meets_is (λ (it : Bool). it) met m meets)),
)

-- ---- lines that are left

pub lines_go_on : {A : Type 0} (place : Place) (old new : ExplanationCode) (first : List Line) (m : Result A Failure) (x : A) (later : A → List Line) (all : Explanation) → m ≡ Ok x
    → with_lines_at place old (first ++ if_value m later) ≡ all → explanation_view new ≡ with_lines_at place old first → with_lines_at place new (later x) ≡ all
lines_go_on place old new first m x later all is left one =
    ap (λ e. with_lines place.silent place.items e (later x)) one ∙ with_more place.silent place.items (explanation_view old) first (later x)
    ∙ ap (λ m. with_lines_at place old (first ++ if_value m later)) (sym is) ∙ left

pub lines_end : {A : Type 0} (place : Place) (old new : ExplanationCode) (first : List Line) (m : Result A Failure) (failure : Failure) (later : A → List Line) (all : Explanation) → m ≡ Err failure
    → with_lines_at place old (first ++ if_value m later) ≡ all → explanation_view new ≡ with_lines_at place old first → explanation_view new ≡ all
lines_end place old new first m failure later all is left one =
    one ∙ ap (λ lines. with_lines_at place old lines) (sym (append-nil first)) ∙ ap (λ m. with_lines_at place old (first ++ if_value m later)) (sym is) ∙ left

-- ---- the whole

abbrev outside : Value → Place
outside value = record { result = value; here = None; items = []; silent = false }

pub parts_explained : (place : Place) (value : Value) (tree : Typed) (none new : ExplanationCode)
    → place ≡ outside value → explanation_view none ≡ explanation [] 0 [] → explanation_view new ≡ with_lines_at place none (earlier_at place tree)
    → explanation_view new ≡ explained (earlier_lines value None tree)
parts_explained place value tree none new is empty are =
    are ∙ ap (λ place. with_lines_at place none (earlier_at place tree)) is
    ∙ ap (λ e. with_lines false [] e (earlier_lines value None tree)) empty
    ∙ all_explained (earlier_lines value None tree)

pub answer_said : (place : Place) (value : Value) (tree : Typed) (met : Result FoundCode FailedCode) (said : Outcome)
    → place ≡ outside value → ComesTo met (meant place tree) (failed_at place tree) (apart_at place tree) → said ≡ outcome_of (came found_view met) (came_on met) (came_apart met)
    → said ≡ outcome_of (mean value None tree) (failed_on value None tree) (apart_on value None tree)
answer_said place value tree met said is meets says =
    says ∙ said_of_came outcome_of (λ value on apart. refl) (λ failure on apart. refl) met (meant place tree) (failed_at place tree) (apart_at place tree) meets
    ∙ ap (λ place. outcome_of (meant place tree) (failed_at place tree) (apart_at place tree)) is
