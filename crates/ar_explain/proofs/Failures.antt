-- Where an entry's part fails, the condition fails with the same failure.
use Rattle.std.proofs.Common.{◌≡◌, ℕ, Bool, true, false, List, Option, Some, refl, sym, true≢false}
use Rattle.std.specs.Prelude.{if◌then◌else◌, suc, pos, ◌==◌, ◌∷◌, [], All, Result, Ok, Err}
use Rattle.std.specs.List.{AllByRecursion}
use Rattle.std.proofs.lemmas.List.Elements.{All-from_recursion}
use Rattle.ar_value.specs.Answer.{◌>>=◌}
use Rattle.ar_value.specs.Operators.{Failure, boolean, items_in, scalar_item}
use Rattle.ar_value.specs.Value.{Value, Items, bool, whole, list, no_items, item, count}
use Rattle.ar_value.specs.declared.operator.Predicate.{Predicate}
use Rattle.ar_value.specs.declared.operator.Predicate.TheVariants as predicates
use Rattle.ar_tree.specs.Meaning.{items_mean, mean, over, those}
use Rattle.ar_tree.specs.Typed.{Typed, Typeds}
use Rattle.ar_tree.specs.Typed as typed
use Rattle.ar_explain.specs.Trace.{TraceEntry, continues, each_item, items_trace, on_item, root_entry, trace, with_root, in_child}
use Rattle.ar_explain.proofs.Entries.{all_if_value, all_of_two, all_where, fails_after, fails_after_two, fails_on}

module _ (failure : Failure) where
  -- an entry's failure is a meaning's
  abbrev pub FailsAs : {A : Type 0} → Result A Failure → TraceEntry → Type 0
  FailsAs m entry = entry.meaning ≡ Err failure → m ≡ Err failure

  -- what fails before a value is made of it
  fails_before : {A B : Type 0} (m : Result A Failure) (made : A → B) → (m >>= λ value. Ok (made value)) ≡ Err failure → m ≡ Err failure
  fails_before (Ok value) made is = absurd cc
  fails_before (Err other) made is = cc

  -- the failures of a child are those of its parent
  of_child : {A B : Type 0} (number : ℕ) (m : Result A Failure) (parent : Result B Failure) (entries : List TraceEntry) → (m ≡ Err failure → parent ≡ Err failure)
      → AllByRecursion (FailsAs m) entries → AllByRecursion (FailsAs parent) (in_child number entries)
  of_child number m parent [] leads all = tt
  of_child number m parent (entry ∷ entries) leads all = ((λ fails. leads (all.0 fails)), of_child number m parent entries leads all.1)

  on_an_item : {A B : Type 0} (number : ℕ) (m : Result A Failure) (parent : Result B Failure) (entries : List TraceEntry) → (m ≡ Err failure → parent ≡ Err failure)
      → AllByRecursion (FailsAs m) entries → AllByRecursion (FailsAs parent) (on_item number entries)
  on_an_item number m parent [] leads all = tt
  on_an_item number m parent (entry ∷ entries) leads all = ((λ fails. leads (all.0 fails)), on_an_item number m parent entries leads all.1)

  leads_all : {A B : Type 0} (m : Result A Failure) (parent : Result B Failure) (entries : List TraceEntry) → (m ≡ Err failure → parent ≡ Err failure)
      → AllByRecursion (FailsAs m) entries → AllByRecursion (FailsAs parent) entries
  leads_all m parent [] leads all = tt
  leads_all m parent (entry ∷ entries) leads all = ((λ fails. leads (all.0 fails)), leads_all m parent entries leads all.1)

  root : (result : Value) (here : Option Value) (tree : Typed) (entries : List TraceEntry) → AllByRecursion (FailsAs (mean result here tree)) entries
      → AllByRecursion (FailsAs (mean result here tree)) (with_root result here tree entries)
  root result here tree entries all =
      all_of_two (FailsAs (mean result here tree)) entries (root_entry result here tree ∷ []) all ((λ fails. fails), tt)

  -- ---- items of predicates

  module _ (holds : Value → Result Bool Failure) where
    one_fails : (predicate : Predicate) (first : Value) (items : Items) → holds first ≡ Err failure → over predicate holds (item first items) ≡ Err failure
    one_fails predicates.All first items is = fails_on (holds first) _ is
    one_fails predicates.Any first items is = fails_on (holds first) _ is
    one_fails predicates.None first items is = fails_on (holds first) _ is
    one_fails predicates.One first items is = fails_on (those holds (item first items)) _ (fails_on (holds first) _ is)
    one_fails predicates.Count first items is = fails_on (those holds (item first items)) _ (fails_on (holds first) _ is)
    one_fails predicates.Filter first items is = fails_on (those holds (item first items)) _ (fails_on (holds first) _ is)

    those_fail : (first : Value) (items : Items) (it : Bool) → holds first ≡ Ok it → those holds items ≡ Err failure → those holds (item first items) ≡ Err failure
    those_fail first items it is fails = fails_after (holds first) it _ is (fails_on (those holds items) _ fails)

    more_fail : (predicate : Predicate) (first : Value) (items : Items) (it : Bool) → holds first ≡ Ok it → continues predicate it ≡ true
        → over predicate holds items ≡ Err failure → over predicate holds (item first items) ≡ Err failure
    more_fail predicates.All first items true is on fails = fails_after (holds first) true _ is fails
    more_fail predicates.All first items false is on fails = absurd (true≢false (sym on))
    more_fail predicates.Any first items true is on fails = absurd (true≢false (sym on))
    more_fail predicates.Any first items false is on fails = fails_after (holds first) false _ is fails
    more_fail predicates.None first items true is on fails = absurd (true≢false (sym on))
    more_fail predicates.None first items false is on fails = fails_after (holds first) false _ is fails
    more_fail predicates.One first items it is on fails =
        fails_on (those holds (item first items)) _ (those_fail first items it is (fails_before (those holds items) (λ found. bool (count found == 1)) fails))
    more_fail predicates.Count first items it is on fails =
        fails_on (those holds (item first items)) _ (those_fail first items it is (fails_before (those holds items) (λ found. whole (pos (count found))) fails))
    more_fail predicates.Filter first items it is on fails =
        fails_on (those holds (item first items)) _ (those_fail first items it is (fails_before (those holds items) (λ found. list found) fails))

    each : (entries : Value → List TraceEntry) (predicate : Predicate) (number : ℕ) (items : Items)
        → ((value : Value) → AllByRecursion (FailsAs (holds value)) (entries value))
        → AllByRecursion (FailsAs (over predicate holds items)) (each_item predicate holds entries number items)
    each entries predicate number no_items all = tt
    each entries predicate number (item first items) all =
        all_of_two (FailsAs (over predicate holds (item first items))) _ _
        (on_an_item number (holds first) (over predicate holds (item first items)) (entries first) (one_fails predicate first items) (all first))
        (all_if_value (FailsAs (over predicate holds (item first items))) (holds first) _
        (λ it is. all_where (FailsAs (over predicate holds (item first items))) (continues predicate it) _ []
        (λ on. leads_all (over predicate holds items) (over predicate holds (item first items)) _ (more_fail predicate first items it is on)
        (each entries predicate (suc number) items all))
        (λ on. tt)))

  -- ---- trees

  mutual
    failing : (result : Value) (here : Option Value) (tree : Typed) → AllByRecursion (FailsAs (mean result here tree)) (trace result here tree)
    failing result here typed.result = ((λ fails. fails), tt)
    failing result here typed.item = ((λ fails. fails), tt)
    failing result here (typed.literal literal) = ((λ fails. fails), tt)
    failing result here (typed.field owner name) =
        root result here (typed.field owner name) _ (of_child 0 (mean result here owner) _ _ (fails_on (mean result here owner) _) (failing result here owner))
    failing result here (typed.unary operator operand) =
        root result here (typed.unary operator operand) _ (of_child 0 (mean result here operand) _ _ (fails_on (mean result here operand) _) (failing result here operand))
    failing result here (typed.binary operator left right) =
        let tree = typed.binary operator left right in
        root result here tree _ (all_of_two (FailsAs (mean result here tree)) _ _
        (of_child 0 (mean result here left) (mean result here tree) _ (fails_on (mean result here left) _) (failing result here left))
        (all_if_value (FailsAs (mean result here tree)) (mean result here left) _ (λ value is.
        of_child 1 (mean result here right) (mean result here tree) _ (λ fails. fails_after (mean result here left) value _ is (fails_on (mean result here right) _ fails)) (failing result here right))))
    failing result here (typed.both left right) =
        let tree = typed.both left right in
        root result here tree _ (all_of_two (FailsAs (mean result here tree)) _ _
        (of_child 0 (mean result here left) (mean result here tree) _ (fails_on (mean result here left) _) (failing result here left))
        (all_if_value (FailsAs (mean result here tree)) (mean result here left >>= boolean) _ (λ holds is.
        all_where (FailsAs (mean result here tree)) holds (in_child 1 (trace result here right)) []
        (λ on. of_child 1 (mean result here right) (mean result here tree) _
        (λ fails. fails_after_two (mean result here left) boolean (λ holds. if holds then mean result here right else Ok (bool false)) holds is (rw (on, fails) refl)) (failing result here right))
        (λ on. tt))))
    failing result here (typed.either left right) =
        let tree = typed.either left right in
        root result here tree _ (all_of_two (FailsAs (mean result here tree)) _ _
        (of_child 0 (mean result here left) (mean result here tree) _ (fails_on (mean result here left) _) (failing result here left))
        (all_if_value (FailsAs (mean result here tree)) (mean result here left >>= boolean) _ (λ holds is.
        all_where (FailsAs (mean result here tree)) holds [] (in_child 1 (trace result here right))
        (λ on. tt)
        (λ on. of_child 1 (mean result here right) (mean result here tree) _
        (λ fails. fails_after_two (mean result here left) boolean (λ holds. if holds then Ok (bool true) else mean result here right) holds is (rw (on, fails) refl)) (failing result here right)))))
    failing result here (typed.choice condition then_branch else_branch) =
        let tree = typed.choice condition then_branch else_branch in
        root result here tree _ (all_of_two (FailsAs (mean result here tree)) _ _
        (of_child 0 (mean result here condition) (mean result here tree) _ (fails_on (mean result here condition) _) (failing result here condition))
        (all_if_value (FailsAs (mean result here tree)) (mean result here condition >>= boolean) _ (λ holds is.
        all_where (FailsAs (mean result here tree)) holds (in_child 1 (trace result here then_branch)) (in_child 2 (trace result here else_branch))
        (λ on. of_child 1 (mean result here then_branch) (mean result here tree) _
        (λ fails. fails_after_two (mean result here condition) boolean (λ holds. if holds then mean result here then_branch else mean result here else_branch) holds is (rw (on, fails) refl)) (failing result here then_branch))
        (λ on. of_child 2 (mean result here else_branch) (mean result here tree) _
        (λ fails. fails_after_two (mean result here condition) boolean (λ holds. if holds then mean result here then_branch else mean result here else_branch) holds is (rw (on, fails) refl)) (failing result here else_branch)))))
    failing result here (typed.listed scalar items) =
        root result here (typed.listed scalar items) _
        (leads_all (items_mean result here items) (mean result here (typed.listed scalar items)) _ (fails_on (items_mean result here items) _) (failing_items result here 0 items))
    failing result here (typed.predicate predicate many body) =
        let tree = typed.predicate predicate many body in
        let holds = λ (value : Value). mean result (Some value) body >>= boolean in
        root result here tree _ (all_of_two (FailsAs (mean result here tree)) _ _
        (of_child 0 (mean result here many) (mean result here tree) _ (fails_on (mean result here many) _) (failing result here many))
        (all_if_value (FailsAs (mean result here tree)) (mean result here many >>= items_in) _ (λ items is.
        leads_all (over predicate holds items) (mean result here tree) _ (λ fails. fails_after_two (mean result here many) items_in (over predicate holds) items is fails)
        (each holds (λ value. in_child 1 (trace result (Some value) body)) predicate 0 items
        (λ value. of_child 1 (mean result (Some value) body) (holds value) _ (fails_on (mean result (Some value) body) boolean) (failing result (Some value) body))))))

    failing_items : (result : Value) (here : Option Value) (number : ℕ) (items : Typeds) → AllByRecursion (FailsAs (items_mean result here items)) (items_trace result here number items)
    failing_items result here number typed.none = tt
    failing_items result here number (typed.more first others) =
        all_of_two (FailsAs (items_mean result here (typed.more first others))) _ _
        (of_child number (mean result here first) (items_mean result here (typed.more first others)) _ (fails_on (mean result here first) _) (failing result here first))
        (all_if_value (FailsAs (items_mean result here (typed.more first others))) (mean result here first >>= scalar_item) _ (λ scalar is.
        leads_all (items_mean result here others) (items_mean result here (typed.more first others)) _
        (λ fails. fails_after_two (mean result here first) scalar_item (λ scalar. items_mean result here others >>= λ items. Ok (item scalar items)) scalar is (fails_on (items_mean result here others) _ fails))
        (failing_items result here (suc number) others)))

pub failures_of_root : (result : Value) (here : Option Value) (tree : Typed) (failure : Failure)
    → All (λ (entry : TraceEntry). entry.meaning ≡ Err failure → mean result here tree ≡ Err failure) (trace result here tree)
failures_of_root result here tree failure =
    All-from_recursion (λ (entry : TraceEntry). entry.meaning ≡ Err failure → mean result here tree ≡ Err failure) (trace result here tree) (failing failure result here tree)
