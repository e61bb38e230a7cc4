-- Where a part that a trace has fails, the whole fails.
use Rattle.std.proofs.Common.{◌<◌, arith, inl, inr, ◌≡◌, ℕ, Bool, true, false, List, Option, Some, refl, ap, sym, ◌∙◌, subst, true≢false}
use Rattle.std.specs.Prelude.{if◌then◌else◌, zero, suc, ◌+◌, ◌==◌, ◌||◌, ◌⊎◌, ◌++◌, ◌∷◌, [], Result, Ok, Err}
use Rattle.std.proofs.lemmas.Bool.Decides.{nat_tests}
use Rattle.ar_value.specs.Answer.{◌>>=◌}
use Rattle.ar_value.specs.Operators.{Failure, boolean, items_in, scalar_item}
use Rattle.ar_value.specs.Value.{Value, Items, bool, no_items, item}
use Rattle.ar_value.specs.declared.operator.Predicate.{Predicate}
use Rattle.ar_value.specs.declared.operator.Predicate.TheVariants as predicates
use Rattle.ar_tree.specs.Meaning.{all_hold, any_holds, items_mean, mean, none_holds, over, those}
use Rattle.ar_tree.specs.Typed.{Typed, Typeds}
use Rattle.ar_tree.specs.Typed as typed
use Rattle.ar_explain.specs.Parts.{Fails, is_evaluated, nth_changed, change_child, with_part}
use Rattle.ar_explain.specs.Trace.{TraceEntry, continues, each_item, if_value, items_trace, trace, with_root, in_child}
use Rattle.ar_explain.proofs.Entries.{from_zero, has_value, of_another, of_child, of_items, of_root, of_two, or_none, fails_after, fails_after_two, fails_on, value_of_two}
use Rattle.ar_explain.proofs.LeftOut.{left_out}

-- one or the other is true
either_true : (a b : Bool) → (a || b) ≡ true → (a ≡ true) ⊎ ((a ≡ false) × (b ≡ true))
either_true true b e = inl refl
either_true false b e = inr (refl, e)

not_true : (b : Bool) → b ≡ false → b ≡ true → ⊥
not_true b is has = true≢false (sym has ∙ is)

-- ---- items that are looked at

module _ (path : List ℕ) (failure : Failure) (holds other : Value → Result Bool Failure) (entries : Value → List TraceEntry)
    (same : (value : Value) → is_evaluated path (entries value) ≡ false → other value ≡ holds value)
    (fails : (value : Value) → is_evaluated path (entries value) ≡ true → other value ≡ Err failure) where
  module _ (predicate : Predicate) (number : ℕ) (first : Value) (items : Items)
      (has : is_evaluated path (each_item predicate holds entries number (item first items)) ≡ true) where
    abbrev rest : List TraceEntry
    rest = if_value (holds first) (λ it. if continues predicate it then each_item predicate holds entries (suc number) items else [])

    one_has : (is_evaluated path (entries first) || is_evaluated path rest) ≡ true
    one_has = sym (of_items path predicate holds entries number first items) ∙ has

    pub with_needed : {A : Type 0} (next : Bool → Result A Failure)
        → ((it : Bool) → is_evaluated path (if continues predicate it then each_item predicate holds entries (suc number) items else []) ≡ true → next it ≡ Err failure)
        → (other first >>= next) ≡ Err failure
    with_needed next on = by (either_true (is_evaluated path (entries first)) (is_evaluated path rest) one_has) where
      by : ((is_evaluated path (entries first) ≡ true) ⊎ ((is_evaluated path (entries first) ≡ false) × (is_evaluated path rest ≡ true))) → (other first >>= next) ≡ Err failure
      by (inl here) = fails_on (other first) next (fails first here)
      by (inr later) =
          let value = has_value path (holds first) _ later.1 in
          fails_after (other first) value.0 next (same first later.0 ∙ value.1) (on value.0 value.2)

  on_all : (number : ℕ) (items : Items) → (is_evaluated path (each_item predicates.All holds entries number items) ≡ true → all_hold other items ≡ Err failure)
      → (it : Bool) → is_evaluated path (if continues predicates.All it then each_item predicates.All holds entries number items else []) ≡ true
      → (if it then all_hold other items else Ok (bool false)) ≡ Err failure
  on_all number items again true has = again has
  on_all number items again false has = absurd (true≢false (sym has))

  all_needed : (number : ℕ) (items : Items) → is_evaluated path (each_item predicates.All holds entries number items) ≡ true → all_hold other items ≡ Err failure
  all_needed number no_items has = absurd (true≢false (sym has))
  all_needed number (item first items) has = with_needed predicates.All number first items has _ (on_all (suc number) items (all_needed (suc number) items))

  on_any : (number : ℕ) (items : Items) → (is_evaluated path (each_item predicates.Any holds entries number items) ≡ true → any_holds other items ≡ Err failure)
      → (it : Bool) → is_evaluated path (if continues predicates.Any it then each_item predicates.Any holds entries number items else []) ≡ true
      → (if it then Ok (bool true) else any_holds other items) ≡ Err failure
  on_any number items again true has = absurd (true≢false (sym has))
  on_any number items again false has = again has

  any_needed : (number : ℕ) (items : Items) → is_evaluated path (each_item predicates.Any holds entries number items) ≡ true → any_holds other items ≡ Err failure
  any_needed number no_items has = absurd (true≢false (sym has))
  any_needed number (item first items) has = with_needed predicates.Any number first items has _ (on_any (suc number) items (any_needed (suc number) items))

  on_none : (number : ℕ) (items : Items) → (is_evaluated path (each_item predicates.None holds entries number items) ≡ true → none_holds other items ≡ Err failure)
      → (it : Bool) → is_evaluated path (if continues predicates.None it then each_item predicates.None holds entries number items else []) ≡ true
      → (if it then Ok (bool false) else none_holds other items) ≡ Err failure
  on_none number items again true has = absurd (true≢false (sym has))
  on_none number items again false has = again has

  none_needed : (number : ℕ) (items : Items) → is_evaluated path (each_item predicates.None holds entries number items) ≡ true → none_holds other items ≡ Err failure
  none_needed number no_items has = absurd (true≢false (sym has))
  none_needed number (item first items) has = with_needed predicates.None number first items has _ (on_none (suc number) items (none_needed (suc number) items))

  on_those : (predicate : Predicate) → ((it : Bool) → continues predicate it ≡ true) → (number : ℕ) (first : Value) (items : Items)
      → (is_evaluated path (each_item predicate holds entries number items) ≡ true → those other items ≡ Err failure)
      → (it : Bool) → is_evaluated path (if continues predicate it then each_item predicate holds entries number items else []) ≡ true
      → (those other items >>= λ others. Ok (if it then item first others else others)) ≡ Err failure
  on_those predicate looks number first items again it has =
      fails_on (those other items) (λ others. Ok (if it then item first others else others))
      (again (subst (λ on. is_evaluated path (if on then each_item predicate holds entries number items else []) ≡ true) (looks it) has))

  those_needed : (predicate : Predicate) → ((it : Bool) → continues predicate it ≡ true) → (number : ℕ) (items : Items)
      → is_evaluated path (each_item predicate holds entries number items) ≡ true → those other items ≡ Err failure
  those_needed predicate looks number no_items has = absurd (true≢false (sym has))
  those_needed predicate looks number (item first items) has =
      with_needed predicate number first items has _ (on_those predicate looks (suc number) first items (those_needed predicate looks (suc number) items))

  pub over_needed : (predicate : Predicate) (number : ℕ) (items : Items) → is_evaluated path (each_item predicate holds entries number items) ≡ true
      → over predicate other items ≡ Err failure
  over_needed predicates.All number items has = all_needed number items has
  over_needed predicates.Any number items has = any_needed number items has
  over_needed predicates.None number items has = none_needed number items has
  over_needed predicates.One number items has = fails_on (those other items) _ (those_needed predicates.One (λ it. refl) number items has)
  over_needed predicates.Count number items has = fails_on (those other items) _ (those_needed predicates.Count (λ it. refl) number items has)
  over_needed predicates.Filter number items has = fails_on (those other items) _ (those_needed predicates.Filter (λ it. refl) number items has)

-- ---- one level

module _ (result : Value) (path : List ℕ) (failure : Failure) (change : Typed → Typed)
    (same : (here : Option Value) (tree : Typed) → is_evaluated path (trace result here tree) ≡ false → mean result here (change tree) ≡ mean result here tree)
    (fails : (here : Option Value) (tree : Typed) → is_evaluated path (trace result here tree) ≡ true → mean result here (change tree) ≡ Err failure) where
  -- a child's own entries
  own : (here : Option Value) (part : Typed) (number : ℕ) → (number == number) ≡ true
      → is_evaluated (number ∷ path) (in_child number (trace result here part)) ≡ true → mean result here (change part) ≡ Err failure
  own here part number is has = fails here part (sym (of_child number path (trace result here part) is) ∙ has)

  -- of an only child
  only : (here : Option Value) (tree part : Typed) → is_evaluated (0 ∷ path) (with_root result here tree (in_child 0 (trace result here part))) ≡ true
      → mean result here (change part) ≡ Err failure
  only here tree part has = own here part 0 refl (sym (of_root result here tree 0 path (in_child 0 (trace result here part))) ∙ has)

  no_other : {X : Type 0} (here : Option Value) (tree part : Typed) (number : ℕ) → (0 == number) ≡ false
      → is_evaluated (number ∷ path) (with_root result here tree (in_child 0 (trace result here part))) ≡ true → X
  no_other here tree part number differ has =
      absurd (not_true _ (of_another 0 number path (trace result here part) differ) (sym (of_root result here tree number path (in_child 0 (trace result here part))) ∙ has))

  -- of the first child, or after it
  split : (here : Option Value) (tree part : Typed) (number : ℕ) (later : List TraceEntry)
      → is_evaluated (number ∷ path) (with_root result here tree (in_child 0 (trace result here part) ++ later)) ≡ true
      → (is_evaluated (number ∷ path) (in_child 0 (trace result here part)) || is_evaluated (number ∷ path) later) ≡ true
  split here tree part number later has =
      sym (of_two (number ∷ path) (in_child 0 (trace result here part)) later)
      ∙ (sym (of_root result here tree number path (in_child 0 (trace result here part) ++ later)) ∙ has)

  after : (here : Option Value) (tree part : Typed) (number : ℕ) (later : List TraceEntry) → (0 == number) ≡ false
      → is_evaluated (number ∷ path) (with_root result here tree (in_child 0 (trace result here part) ++ later)) ≡ true
      → is_evaluated (number ∷ path) later ≡ true
  after here tree part number later differ has =
      subst (λ first. (first || is_evaluated (number ∷ path) later) ≡ true) (of_another 0 number path (trace result here part) differ) (split here tree part number later has)

  -- what comes after the first child has no entry of it
  first : (here : Option Value) (tree part : Typed) (later : List TraceEntry) → is_evaluated (0 ∷ path) later ≡ false
      → is_evaluated (0 ∷ path) (with_root result here tree (in_child 0 (trace result here part) ++ later)) ≡ true
      → mean result here (change part) ≡ Err failure
  first here tree part later none has =
      own here part 0 refl
      (sym (or_none (is_evaluated (0 ∷ path) (in_child 0 (trace result here part))))
      ∙ subst (λ rest. (is_evaluated (0 ∷ path) (in_child 0 (trace result here part)) || rest) ≡ true) none (split here tree part 0 later has))

  -- entries of other children alone
  none_on : {A : Type 0} (q : List ℕ) (m : Result A Failure) (entries : A → List TraceEntry) → ((value : A) → is_evaluated q (entries value) ≡ false)
      → is_evaluated q (if_value m entries) ≡ false
  none_on q (Ok value) entries none = none value
  none_on q (Err failure) entries none = refl

  none_where : (q : List ℕ) (holds : Bool) (entries others : List TraceEntry) → is_evaluated q entries ≡ false → is_evaluated q others ≡ false
      → is_evaluated q (if holds then entries else others) ≡ false
  none_where q true entries others none no_other = none
  none_where q false entries others none no_other = no_other

  none_of_items : (q : List ℕ) (predicate : Predicate) (holds : Value → Result Bool Failure) (entries : Value → List TraceEntry) (number : ℕ) (items : Items)
      → ((value : Value) → is_evaluated q (entries value) ≡ false) → is_evaluated q (each_item predicate holds entries number items) ≡ false
  none_of_items q predicate holds entries number no_items none = refl
  none_of_items q predicate holds entries number (item first items) none =
      rw (of_items q predicate holds entries number first items, none first)
      (none_on q (holds first) _ (λ it. none_where q (continues predicate it) (each_item predicate holds entries (suc number) items) [] (none_of_items q predicate holds entries (suc number) items none) refl))

  -- a branch that is taken
  taken : (q : List ℕ) (holds : Bool) (entries others : List TraceEntry) → is_evaluated q others ≡ false
      → is_evaluated q (if holds then entries else others) ≡ true → (holds ≡ true) × (is_evaluated q entries ≡ true)
  taken q true entries others none has = (refl, has)
  taken q false entries others none has = absurd (not_true (is_evaluated q others) none has)

  not_taken : (q : List ℕ) (holds : Bool) (entries others : List TraceEntry) → is_evaluated q entries ≡ false
      → is_evaluated q (if holds then entries else others) ≡ true → (holds ≡ false) × (is_evaluated q others ≡ true)
  not_taken q true entries others none has = absurd (not_true (is_evaluated q entries) none has)
  not_taken q false entries others none has = (refl, has)

  -- items have no entry of one before them
  none_before : (here : Option Value) (n number : ℕ) (items : Typeds) → n < number → is_evaluated (n ∷ path) (items_trace result here number items) ≡ false
  none_before here n number typed.none below = refl
  none_before here n number (typed.more one others) below =
      rw (
        of_two (n ∷ path) (in_child number (trace result here one)) (if_value (mean result here one >>= scalar_item) (λ value. items_trace result here (suc number) others)),
        of_another number n path (trace result here one) (grind (arith, nat_tests, below)),
      )
      (none_on (n ∷ path) (mean result here one >>= scalar_item) _ (λ value. none_before here n (suc number) others (omega (arith, below))))

  items_needed : (here : Option Value) (number : ℕ) (items : Typeds) (k : ℕ) → is_evaluated ((number + k) ∷ path) (items_trace result here number items) ≡ true
      → items_mean result here (nth_changed change items k) ≡ Err failure
  items_needed here number typed.none k has = absurd (true≢false (sym has))
  items_needed here number (typed.more one others) zero has =
      let later = if_value (mean result here one >>= scalar_item) (λ value. items_trace result here (suc number) others) in
      let at : is_evaluated (number ∷ path) (in_child number (trace result here one) ++ later) ≡ true =
      subst (λ n. is_evaluated (n ∷ path) (in_child number (trace result here one) ++ later) ≡ true) (omega arith) has in
      let both : (is_evaluated (number ∷ path) (in_child number (trace result here one)) || is_evaluated (number ∷ path) later) ≡ true =
      sym (of_two (number ∷ path) (in_child number (trace result here one)) later) ∙ at in
      let none : is_evaluated (number ∷ path) later ≡ false =
      none_on (number ∷ path) (mean result here one >>= scalar_item) _ (λ value. none_before here number (suc number) others (omega arith)) in
      fails_on (mean result here (change one)) _
      (own here one number (grind (arith, nat_tests)) (sym (or_none (is_evaluated (number ∷ path) (in_child number (trace result here one))))
      ∙ subst (λ rest. (is_evaluated (number ∷ path) (in_child number (trace result here one)) || rest) ≡ true) none both))
  items_needed here number (typed.more one others) (suc k) has =
      let later = if_value (mean result here one >>= scalar_item) (λ value. items_trace result here (suc number) others) in
      let both : (is_evaluated ((number + suc k) ∷ path) (in_child number (trace result here one)) || is_evaluated ((number + suc k) ∷ path) later) ≡ true =
      sym (of_two ((number + suc k) ∷ path) (in_child number (trace result here one)) later) ∙ has in
      let rest : is_evaluated ((number + suc k) ∷ path) later ≡ true =
      subst (λ first. (first || is_evaluated ((number + suc k) ∷ path) later) ≡ true) (of_another number (number + suc k) path (trace result here one) (grind (arith, nat_tests))) both in
      let found = has_value ((number + suc k) ∷ path) (mean result here one >>= scalar_item) (λ value. items_trace result here (suc number) others) rest in
      let value = value_of_two (mean result here one) scalar_item found.0 found.1 in
      fails_after (mean result here one) value.0 _ value.1 (fails_after (scalar_item value.0) found.0 _ value.2
      (fails_on (items_mean result here (nth_changed change others k)) _
      (items_needed here (suc number) others k (subst (λ n. is_evaluated (n ∷ path) (items_trace result here (suc number) others) ≡ true) (omega arith) found.2))))

  pub child_needed : (here : Option Value) (tree : Typed) (number : ℕ) → is_evaluated (number ∷ path) (trace result here tree) ≡ true
      → mean result here (change_child change tree number) ≡ Err failure
  child_needed here typed.result number has = absurd (true≢false (sym has))
  child_needed here typed.item number has = absurd (true≢false (sym has))
  child_needed here (typed.literal literal) number has = absurd (true≢false (sym has))
  child_needed here (typed.field owner name) zero has = fails_on (mean result here (change owner)) _ (only here (typed.field owner name) owner has)
  child_needed here (typed.field owner name) (suc number) has = no_other here (typed.field owner name) owner (suc number) (grind (arith, nat_tests)) has
  child_needed here (typed.unary operator operand) zero has = fails_on (mean result here (change operand)) _ (only here (typed.unary operator operand) operand has)
  child_needed here (typed.unary operator operand) (suc number) has = no_other here (typed.unary operator operand) operand (suc number) (grind (arith, nat_tests)) has
  child_needed here (typed.binary operator left right) zero has =
      fails_on (mean result here (change left)) _
      (first here (typed.binary operator left right) left _ (none_on (0 ∷ path) (mean result here left) _ (λ value. of_another 1 0 path (trace result here right) (grind (arith, nat_tests)))) has)
  child_needed here (typed.binary operator left right) (suc zero) has =
      let found = has_value (1 ∷ path) (mean result here left) (λ value. in_child 1 (trace result here right)) (after here (typed.binary operator left right) left 1 _ (grind (arith, nat_tests)) has) in
      fails_after (mean result here left) found.0 _ found.1 (fails_on (mean result here (change right)) _ (own here right 1 refl found.2))
  child_needed here (typed.binary operator left right) (suc (suc number)) has =
      let found = has_value (suc (suc number) ∷ path) (mean result here left) (λ value. in_child 1 (trace result here right))
      (after here (typed.binary operator left right) left (suc (suc number)) _ (grind (arith, nat_tests)) has) in
      absurd (not_true _ (of_another 1 (suc (suc number)) path (trace result here right) (grind (arith, nat_tests))) found.2)
  child_needed here (typed.both left right) zero has =
      fails_on (mean result here (change left)) _
      (first here (typed.both left right) left _ (none_on (0 ∷ path) (mean result here left >>= boolean) _
      (λ holds. none_where (0 ∷ path) holds (in_child 1 (trace result here right)) [] (of_another 1 0 path (trace result here right) (grind (arith, nat_tests))) refl)) has)
  child_needed here (typed.both left right) (suc zero) has =
      let found = has_value (1 ∷ path) (mean result here left >>= boolean) (λ holds. if holds then in_child 1 (trace result here right) else [])
      (after here (typed.both left right) left 1 _ (grind (arith, nat_tests)) has) in
      let on = taken (1 ∷ path) found.0 (in_child 1 (trace result here right)) [] refl found.2 in
      fails_after_two (mean result here left) boolean (λ holds. if holds then mean result here (change right) else Ok (bool false)) found.0 found.1
      (rw (on.0, own here right 1 refl on.1) refl)
  child_needed here (typed.both left right) (suc (suc number)) has =
      let found = has_value (suc (suc number) ∷ path) (mean result here left >>= boolean) (λ holds. if holds then in_child 1 (trace result here right) else [])
      (after here (typed.both left right) left (suc (suc number)) _ (grind (arith, nat_tests)) has) in
      let on = taken (suc (suc number) ∷ path) found.0 (in_child 1 (trace result here right)) [] refl found.2 in
      absurd (not_true _ (of_another 1 (suc (suc number)) path (trace result here right) (grind (arith, nat_tests))) on.1)
  child_needed here (typed.either left right) zero has =
      fails_on (mean result here (change left)) _
      (first here (typed.either left right) left _ (none_on (0 ∷ path) (mean result here left >>= boolean) _
      (λ holds. none_where (0 ∷ path) holds [] (in_child 1 (trace result here right)) refl (of_another 1 0 path (trace result here right) (grind (arith, nat_tests))))) has)
  child_needed here (typed.either left right) (suc zero) has =
      let found = has_value (1 ∷ path) (mean result here left >>= boolean) (λ holds. if holds then [] else in_child 1 (trace result here right))
      (after here (typed.either left right) left 1 _ (grind (arith, nat_tests)) has) in
      let on = not_taken (1 ∷ path) found.0 [] (in_child 1 (trace result here right)) refl found.2 in
      fails_after_two (mean result here left) boolean (λ holds. if holds then Ok (bool true) else mean result here (change right)) found.0 found.1
      (rw (on.0, own here right 1 refl on.1) refl)
  child_needed here (typed.either left right) (suc (suc number)) has =
      let found = has_value (suc (suc number) ∷ path) (mean result here left >>= boolean) (λ holds. if holds then [] else in_child 1 (trace result here right))
      (after here (typed.either left right) left (suc (suc number)) _ (grind (arith, nat_tests)) has) in
      let on = not_taken (suc (suc number) ∷ path) found.0 [] (in_child 1 (trace result here right)) refl found.2 in
      absurd (not_true _ (of_another 1 (suc (suc number)) path (trace result here right) (grind (arith, nat_tests))) on.1)
  child_needed here (typed.choice condition then_branch else_branch) zero has =
      fails_on (mean result here (change condition)) _
      (first here (typed.choice condition then_branch else_branch) condition _ (none_on (0 ∷ path) (mean result here condition >>= boolean) _
      (λ holds. none_where (0 ∷ path) holds (in_child 1 (trace result here then_branch)) (in_child 2 (trace result here else_branch))
      (of_another 1 0 path (trace result here then_branch) (grind (arith, nat_tests))) (of_another 2 0 path (trace result here else_branch) (grind (arith, nat_tests))))) has)
  child_needed here (typed.choice condition then_branch else_branch) (suc zero) has =
      let found = has_value (1 ∷ path) (mean result here condition >>= boolean)
      (λ holds. if holds then in_child 1 (trace result here then_branch) else in_child 2 (trace result here else_branch))
      (after here (typed.choice condition then_branch else_branch) condition 1 _ (grind (arith, nat_tests)) has) in
      let on = taken (1 ∷ path) found.0 (in_child 1 (trace result here then_branch)) (in_child 2 (trace result here else_branch))
      (of_another 2 1 path (trace result here else_branch) (grind (arith, nat_tests))) found.2 in
      fails_after_two (mean result here condition) boolean (λ holds. if holds then mean result here (change then_branch) else mean result here else_branch) found.0 found.1
      (rw (on.0, own here then_branch 1 refl on.1) refl)
  child_needed here (typed.choice condition then_branch else_branch) (suc (suc zero)) has =
      let found = has_value (2 ∷ path) (mean result here condition >>= boolean)
      (λ holds. if holds then in_child 1 (trace result here then_branch) else in_child 2 (trace result here else_branch))
      (after here (typed.choice condition then_branch else_branch) condition 2 _ (grind (arith, nat_tests)) has) in
      let on = not_taken (2 ∷ path) found.0 (in_child 1 (trace result here then_branch)) (in_child 2 (trace result here else_branch))
      (of_another 1 2 path (trace result here then_branch) (grind (arith, nat_tests))) found.2 in
      fails_after_two (mean result here condition) boolean (λ holds. if holds then mean result here then_branch else mean result here (change else_branch)) found.0 found.1
      (rw (on.0, own here else_branch 2 refl on.1) refl)
  child_needed here (typed.choice condition then_branch else_branch) (suc (suc (suc number))) has =
      let q = suc (suc (suc number)) ∷ path in
      let found = has_value q (mean result here condition >>= boolean)
      (λ holds. if holds then in_child 1 (trace result here then_branch) else in_child 2 (trace result here else_branch))
      (after here (typed.choice condition then_branch else_branch) condition (suc (suc (suc number))) _ (grind (arith, nat_tests)) has) in
      absurd (not_true _ (none_where q found.0 (in_child 1 (trace result here then_branch)) (in_child 2 (trace result here else_branch))
      (of_another 1 (suc (suc (suc number))) path (trace result here then_branch) (grind (arith, nat_tests))) (of_another 2 (suc (suc (suc number))) path (trace result here else_branch) (grind (arith, nat_tests)))) found.2)
  child_needed here (typed.listed scalar items) number has =
      fails_on (items_mean result here (nth_changed change items number)) _
      (items_needed here 0 items number
      (subst (λ n. is_evaluated (n ∷ path) (items_trace result here 0 items) ≡ true) (from_zero number)
      (sym (of_root result here (typed.listed scalar items) number path (items_trace result here 0 items)) ∙ has)))
  child_needed here (typed.predicate predicate many body) zero has =
      fails_on (mean result here (change many)) _
      (first here (typed.predicate predicate many body) many _ (none_on (0 ∷ path) (mean result here many >>= items_in) _
      (λ items. none_of_items (0 ∷ path) predicate _ _ 0 items (λ value. of_another 1 0 path (trace result (Some value) body) (grind (arith, nat_tests))))) has)
  child_needed here (typed.predicate predicate many body) (suc zero) has =
      let found = has_value (1 ∷ path) (mean result here many >>= items_in) _ (after here (typed.predicate predicate many body) many 1 _ (grind (arith, nat_tests)) has) in
      let among = value_of_two (mean result here many) items_in found.0 found.1 in
      fails_after (mean result here many) among.0 _ among.1 (fails_after (items_in among.0) found.0 _ among.2
      (over_needed (1 ∷ path) failure (λ value. mean result (Some value) body >>= boolean) (λ value. mean result (Some value) (change body) >>= boolean)
      (λ value. in_child 1 (trace result (Some value) body))
      (λ value lacks. ap (λ m. m >>= boolean) (same (Some value) body (sym (of_child 1 path (trace result (Some value) body) refl) ∙ lacks)))
      (λ value has. fails_on (mean result (Some value) (change body)) boolean (own (Some value) body 1 refl has)) predicate 0 found.0 found.2))
  child_needed here (typed.predicate predicate many body) (suc (suc number)) has =
      let q = suc (suc number) ∷ path in
      let found = has_value q (mean result here many >>= items_in) _ (after here (typed.predicate predicate many body) many (suc (suc number)) _ (grind (arith, nat_tests)) has) in
      absurd (not_true _ (none_of_items q predicate _ _ 0 found.0 (λ value. of_another 1 (suc (suc number)) path (trace result (Some value) body) (grind (arith, nat_tests)))) found.2)

pub needed : (result : Value) (here : Option Value) (tree broken : Typed) (path : List ℕ) (failure : Failure)
    → Fails result failure broken → is_evaluated path (trace result here tree) ≡ true → mean result here (with_part path broken tree) ≡ Err failure
needed result here tree broken path failure fails has = below path here tree has where
  below : (path : List ℕ) (here : Option Value) (tree : Typed) → is_evaluated path (trace result here tree) ≡ true
      → mean result here (with_part path broken tree) ≡ Err failure
  below [] here tree has = fails here
  below (number ∷ path) here tree has =
      child_needed result path failure (with_part path broken) (λ here tree lacks. left_out result here tree broken path lacks) (below path) here tree number has
