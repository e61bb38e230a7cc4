-- What a trace leaves out may be any tree without changing the meaning.
use Rattle.std.proofs.Common.{arith, ◌≡◌, ℕ, Bool, true, false, List, Option, Some, refl, ap, sym, ◌∙◌, subst, true≢false}
use Rattle.std.specs.Prelude.{if◌then◌else◌, zero, suc, pos, ◌+◌, ◌==◌, ◌||◌, ◌++◌, ◌∷◌, [], Result, Ok}
use Rattle.std.proofs.lemmas.Bool.Decides.{nat_tests}
use Rattle.ar_value.specs.Answer.{◌>>=◌}
use Rattle.ar_value.specs.Operators.{Failure, Meaning, boolean, binary_meaning, field_in, items_in, scalar_item, unary_meaning}
use Rattle.ar_value.specs.Value.{Value, Items, bool, whole, list, no_items, item, count}
use Rattle.ar_value.specs.declared.operator.Predicate.{Predicate}
use Rattle.ar_value.specs.declared.operator.Predicate.TheVariants as predicates
use Rattle.ar_tree.specs.Meaning.{all_hold, any_holds, items_mean, mean, none_holds, over, those}
use Rattle.ar_tree.specs.Typed.{Typed, Typeds}
use Rattle.ar_tree.specs.Typed as typed
use Rattle.ar_explain.specs.Parts.{is_evaluated, nth_changed, change_child, with_part}
use Rattle.ar_explain.specs.Trace.{TraceEntry, continues, each_item, if_value, items_trace, trace, with_root, in_child}
use Rattle.ar_explain.proofs.Roots.{root_evaluated}
use Rattle.ar_explain.proofs.Entries.{from_zero, after_value, of_child, of_items, of_root, of_two, or_left, or_right, same_then}

-- ---- items that are looked at

module _ (path : List ℕ) (holds other : Value → Result Bool Failure) (entries : Value → List TraceEntry)
    (same : (value : Value) → is_evaluated path (entries value) ≡ false → other value ≡ holds value) where
  -- what follows an item, by what the predicate says of it
  module _ (predicate : Predicate) (number : ℕ) (first : Value) (items : Items)
      (lacks : is_evaluated path (each_item predicate holds entries number (item first items)) ≡ false) where
    abbrev rest : List TraceEntry
    rest = if_value (holds first) (λ it. if continues predicate it then each_item predicate holds entries (suc number) items else [])

    both_lack : (is_evaluated path (entries first) || is_evaluated path rest) ≡ false
    both_lack = sym (of_items path predicate holds entries number first items) ∙ lacks

    pub with_same : {A : Type 0} (f g : Bool → Result A Failure)
        → ((it : Bool) → is_evaluated path (if continues predicate it then each_item predicate holds entries (suc number) items else []) ≡ false → f it ≡ g it)
        → (other first >>= f) ≡ (holds first >>= g)
    with_same f g on =
        ap (λ m. m >>= f) (same first (or_left (is_evaluated path (entries first)) (is_evaluated path rest) both_lack))
        ∙ same_then (holds first) f g (λ it is. on it (after_value path (holds first) _ it is (or_right (is_evaluated path (entries first)) (is_evaluated path rest) both_lack)))

  on_all : (number : ℕ) (items : Items) → (is_evaluated path (each_item predicates.All holds entries number items) ≡ false → all_hold other items ≡ all_hold holds items)
      → (it : Bool) → is_evaluated path (if continues predicates.All it then each_item predicates.All holds entries number items else []) ≡ false
      → (if it then all_hold other items else Ok (bool false)) ≡ (if it then all_hold holds items else Ok (bool false))
  on_all number items again true lacks = again lacks
  on_all number items again false lacks = refl

  all_same : (number : ℕ) (items : Items) → is_evaluated path (each_item predicates.All holds entries number items) ≡ false → all_hold other items ≡ all_hold holds items
  all_same number no_items lacks = refl
  all_same number (item first items) lacks = with_same predicates.All number first items lacks _ _ (on_all (suc number) items (all_same (suc number) items))

  on_any : (number : ℕ) (items : Items) → (is_evaluated path (each_item predicates.Any holds entries number items) ≡ false → any_holds other items ≡ any_holds holds items)
      → (it : Bool) → is_evaluated path (if continues predicates.Any it then each_item predicates.Any holds entries number items else []) ≡ false
      → (if it then Ok (bool true) else any_holds other items) ≡ (if it then Ok (bool true) else any_holds holds items)
  on_any number items again true lacks = refl
  on_any number items again false lacks = again lacks

  any_same : (number : ℕ) (items : Items) → is_evaluated path (each_item predicates.Any holds entries number items) ≡ false → any_holds other items ≡ any_holds holds items
  any_same number no_items lacks = refl
  any_same number (item first items) lacks = with_same predicates.Any number first items lacks _ _ (on_any (suc number) items (any_same (suc number) items))

  on_none : (number : ℕ) (items : Items) → (is_evaluated path (each_item predicates.None holds entries number items) ≡ false → none_holds other items ≡ none_holds holds items)
      → (it : Bool) → is_evaluated path (if continues predicates.None it then each_item predicates.None holds entries number items else []) ≡ false
      → (if it then Ok (bool false) else none_holds other items) ≡ (if it then Ok (bool false) else none_holds holds items)
  on_none number items again true lacks = refl
  on_none number items again false lacks = again lacks

  none_same : (number : ℕ) (items : Items) → is_evaluated path (each_item predicates.None holds entries number items) ≡ false → none_holds other items ≡ none_holds holds items
  none_same number no_items lacks = refl
  none_same number (item first items) lacks = with_same predicates.None number first items lacks _ _ (on_none (suc number) items (none_same (suc number) items))

  on_those : (predicate : Predicate) → ((it : Bool) → continues predicate it ≡ true) → (number : ℕ) (first : Value) (items : Items)
      → (is_evaluated path (each_item predicate holds entries number items) ≡ false → those other items ≡ those holds items)
      → (it : Bool) → is_evaluated path (if continues predicate it then each_item predicate holds entries number items else []) ≡ false
      → (those other items >>= λ others. Ok (if it then item first others else others))
      ≡ (those holds items >>= λ others. Ok (if it then item first others else others))
  on_those predicate looks number first items again it lacks =
      ap (λ m. m >>= λ others. Ok (if it then item first others else others))
      (again (subst (λ on. is_evaluated path (if on then each_item predicate holds entries number items else []) ≡ false) (looks it) lacks))

  those_same : (predicate : Predicate) → ((it : Bool) → continues predicate it ≡ true) → (number : ℕ) (items : Items)
      → is_evaluated path (each_item predicate holds entries number items) ≡ false → those other items ≡ those holds items
  those_same predicate looks number no_items lacks = refl
  those_same predicate looks number (item first items) lacks =
      with_same predicate number first items lacks _ _ (on_those predicate looks (suc number) first items (those_same predicate looks (suc number) items))

  pub over_same : (predicate : Predicate) (number : ℕ) (items : Items) → is_evaluated path (each_item predicate holds entries number items) ≡ false
      → over predicate other items ≡ over predicate holds items
  over_same predicates.All number items lacks = all_same number items lacks
  over_same predicates.Any number items lacks = any_same number items lacks
  over_same predicates.None number items lacks = none_same number items lacks
  over_same predicates.One number items lacks = ap (λ m. m >>= λ found. Ok (bool (count found == 1))) (those_same predicates.One (λ it. refl) number items lacks)
  over_same predicates.Count number items lacks = ap (λ m. m >>= λ found. Ok (whole (pos (count found)))) (those_same predicates.Count (λ it. refl) number items lacks)
  over_same predicates.Filter number items lacks = ap (λ m. m >>= λ found. Ok (list found)) (those_same predicates.Filter (λ it. refl) number items lacks)

-- ---- one level

module _ (result : Value) (path : List ℕ) (change : Typed → Typed)
    (inner : (here : Option Value) (tree : Typed) → is_evaluated path (trace result here tree) ≡ false → mean result here (change tree) ≡ mean result here tree) where
  -- the only child, or the first of several
  only : (here : Option Value) (tree part : Typed) → is_evaluated (0 ∷ path) (with_root result here tree (in_child 0 (trace result here part))) ≡ false
      → mean result here (change part) ≡ mean result here part
  only here tree part lacks =
      inner here part (sym (of_child 0 path (trace result here part) refl) ∙ (sym (of_root result here tree 0 path (in_child 0 (trace result here part))) ∙ lacks))

  -- the entries of the first child, and those after them
  parts_lack : (here : Option Value) (tree part : Typed) (number : ℕ) (later : List TraceEntry)
      → is_evaluated (number ∷ path) (with_root result here tree (in_child 0 (trace result here part) ++ later)) ≡ false
      → (is_evaluated (number ∷ path) (in_child 0 (trace result here part)) ≡ false) × (is_evaluated (number ∷ path) later ≡ false)
  parts_lack here tree part number later lacks =
      let both = sym (of_two (number ∷ path) (in_child 0 (trace result here part)) later)
      ∙ (sym (of_root result here tree number path (in_child 0 (trace result here part) ++ later)) ∙ lacks) in
      (or_left _ _ both, or_right _ _ both)

  first : (here : Option Value) (tree part : Typed) (later : List TraceEntry)
      → is_evaluated (0 ∷ path) (with_root result here tree (in_child 0 (trace result here part) ++ later)) ≡ false
      → mean result here (change part) ≡ mean result here part
  first here tree part later lacks =
      inner here part (sym (of_child 0 path (trace result here part) refl) ∙ (parts_lack here tree part 0 later lacks).0)

  -- a child whose entries these are
  own : (here : Option Value) (part : Typed) (number : ℕ) → (number == number) ≡ true
      → is_evaluated (number ∷ path) (in_child number (trace result here part)) ≡ false → mean result here (change part) ≡ mean result here part
  own here part number same lacks = inner here part (sym (of_child number path (trace result here part) same) ∙ lacks)

  items_left_out : (here : Option Value) (number : ℕ) (items : Typeds) (k : ℕ) → is_evaluated ((number + k) ∷ path) (items_trace result here number items) ≡ false
      → items_mean result here (nth_changed change items k) ≡ items_mean result here items
  items_left_out here number typed.none k lacks = refl
  items_left_out here number (typed.more one others) zero lacks =
      let later = if_value (mean result here one >>= scalar_item) (λ value. items_trace result here (suc number) others) in
      let at : is_evaluated (number ∷ path) (in_child number (trace result here one) ++ later) ≡ false =
      subst (λ n. is_evaluated (n ∷ path) (in_child number (trace result here one) ++ later) ≡ false) (omega arith) lacks in
      ap (λ m. m >>= λ value. scalar_item value >>= λ scalar. items_mean result here others >>= λ items. Ok (item scalar items))
      (own here one number (grind (arith, nat_tests)) (or_left _ _ (sym (of_two (number ∷ path) (in_child number (trace result here one)) later) ∙ at)))
  items_left_out here number (typed.more one others) (suc k) lacks =
      let later = if_value (mean result here one >>= scalar_item) (λ value. items_trace result here (suc number) others) in
      let moved : number + suc k ≡ suc number + k = omega arith in
      let at : is_evaluated ((suc number + k) ∷ path) later ≡ false =
      subst (λ n. is_evaluated (n ∷ path) later ≡ false) moved
      (or_right _ _ (sym (of_two ((number + suc k) ∷ path) (in_child number (trace result here one)) later) ∙ lacks)) in
      same_then (mean result here one) _ _ (λ value is. same_then (scalar_item value) _ _ (λ scalar scalar_is.
      ap (λ m. m >>= λ items. Ok (item scalar items))
      (items_left_out here (suc number) others k
      (after_value ((suc number + k) ∷ path) (mean result here one >>= scalar_item) _ scalar (rw is scalar_is) at))))

  where_needed : (holds : Bool) (entries : List TraceEntry) (one other value : Meaning) → (is_evaluated (1 ∷ path) entries ≡ false → one ≡ other)
      → is_evaluated (1 ∷ path) (if holds then entries else []) ≡ false → (if holds then one else value) ≡ (if holds then other else value)
  where_needed true entries one other value same lacks = same lacks
  where_needed false entries one other value same lacks = refl

  unless_needed : (holds : Bool) (entries : List TraceEntry) (one other value : Meaning) → (is_evaluated (1 ∷ path) entries ≡ false → one ≡ other)
      → is_evaluated (1 ∷ path) (if holds then [] else entries) ≡ false → (if holds then value else one) ≡ (if holds then value else other)
  unless_needed true entries one other value same lacks = refl
  unless_needed false entries one other value same lacks = same lacks

  then_branch_needed : (holds : Bool) (entries others : List TraceEntry) (one other value : Meaning) → (is_evaluated (1 ∷ path) entries ≡ false → one ≡ other)
      → is_evaluated (1 ∷ path) (if holds then entries else others) ≡ false → (if holds then one else value) ≡ (if holds then other else value)
  then_branch_needed true entries others one other value same lacks = same lacks
  then_branch_needed false entries others one other value same lacks = refl

  else_branch_needed : (holds : Bool) (entries others : List TraceEntry) (one other value : Meaning) → (is_evaluated (2 ∷ path) entries ≡ false → one ≡ other)
      → is_evaluated (2 ∷ path) (if holds then others else entries) ≡ false → (if holds then value else one) ≡ (if holds then value else other)
  else_branch_needed true entries others one other value same lacks = refl
  else_branch_needed false entries others one other value same lacks = same lacks

  pub child_left_out : (here : Option Value) (tree : Typed) (number : ℕ) → is_evaluated (number ∷ path) (trace result here tree) ≡ false
      → mean result here (change_child change tree number) ≡ mean result here tree
  child_left_out here typed.result number lacks = refl
  child_left_out here typed.item number lacks = refl
  child_left_out here (typed.literal literal) number lacks = refl
  child_left_out here (typed.field owner name) zero lacks = ap (λ m. m >>= field_in name) (only here (typed.field owner name) owner lacks)
  child_left_out here (typed.field owner name) (suc number) lacks = refl
  child_left_out here (typed.unary operator operand) zero lacks = ap (λ m. m >>= unary_meaning operator) (only here (typed.unary operator operand) operand lacks)
  child_left_out here (typed.unary operator operand) (suc number) lacks = refl
  child_left_out here (typed.binary operator left right) zero lacks =
      ap (λ m. m >>= λ one. mean result here right >>= λ other. binary_meaning operator one other) (first here (typed.binary operator left right) left _ lacks)
  child_left_out here (typed.binary operator left right) (suc zero) lacks =
      same_then (mean result here left) _ _ (λ value is. ap (λ m. m >>= λ other. binary_meaning operator value other)
      (own here right 1 refl (after_value (1 ∷ path) (mean result here left) (λ value. in_child 1 (trace result here right)) value is
      (parts_lack here (typed.binary operator left right) left 1 _ lacks).1)))
  child_left_out here (typed.binary operator left right) (suc (suc number)) lacks = refl
  child_left_out here (typed.both left right) zero lacks =
      ap (λ m. m >>= λ value. boolean value >>= λ holds. if holds then mean result here right else Ok (bool false)) (first here (typed.both left right) left _ lacks)
  child_left_out here (typed.both left right) (suc zero) lacks =
      same_then (mean result here left) _ _ (λ value is. same_then (boolean value) _ _ (λ holds holds_is.
      where_needed holds (in_child 1 (trace result here right)) _ _ _ (own here right 1 refl)
      (after_value (1 ∷ path) (mean result here left >>= boolean) (λ holds. if holds then in_child 1 (trace result here right) else []) holds (rw is holds_is)
      (parts_lack here (typed.both left right) left 1 _ lacks).1)))
  child_left_out here (typed.both left right) (suc (suc number)) lacks = refl
  child_left_out here (typed.either left right) zero lacks =
      ap (λ m. m >>= λ value. boolean value >>= λ holds. if holds then Ok (bool true) else mean result here right) (first here (typed.either left right) left _ lacks)
  child_left_out here (typed.either left right) (suc zero) lacks =
      same_then (mean result here left) _ _ (λ value is. same_then (boolean value) _ _ (λ holds holds_is.
      unless_needed holds (in_child 1 (trace result here right)) _ _ _ (own here right 1 refl)
      (after_value (1 ∷ path) (mean result here left >>= boolean) (λ holds. if holds then [] else in_child 1 (trace result here right)) holds (rw is holds_is)
      (parts_lack here (typed.either left right) left 1 _ lacks).1)))
  child_left_out here (typed.either left right) (suc (suc number)) lacks = refl
  child_left_out here (typed.choice condition then_branch else_branch) zero lacks =
      ap (λ m. m >>= λ value. boolean value >>= λ holds. if holds then mean result here then_branch else mean result here else_branch)
      (first here (typed.choice condition then_branch else_branch) condition _ lacks)
  child_left_out here (typed.choice condition then_branch else_branch) (suc zero) lacks =
      same_then (mean result here condition) _ _ (λ value is. same_then (boolean value) _ _ (λ holds holds_is.
      then_branch_needed holds (in_child 1 (trace result here then_branch)) (in_child 2 (trace result here else_branch)) _ _ _ (own here then_branch 1 refl)
      (after_value (1 ∷ path) (mean result here condition >>= boolean)
      (λ holds. if holds then in_child 1 (trace result here then_branch) else in_child 2 (trace result here else_branch)) holds (rw is holds_is)
      (parts_lack here (typed.choice condition then_branch else_branch) condition 1 _ lacks).1)))
  child_left_out here (typed.choice condition then_branch else_branch) (suc (suc zero)) lacks =
      same_then (mean result here condition) _ _ (λ value is. same_then (boolean value) _ _ (λ holds holds_is.
      else_branch_needed holds (in_child 2 (trace result here else_branch)) (in_child 1 (trace result here then_branch)) _ _ _ (own here else_branch 2 refl)
      (after_value (2 ∷ path) (mean result here condition >>= boolean)
      (λ holds. if holds then in_child 1 (trace result here then_branch) else in_child 2 (trace result here else_branch)) holds (rw is holds_is)
      (parts_lack here (typed.choice condition then_branch else_branch) condition 2 _ lacks).1)))
  child_left_out here (typed.choice condition then_branch else_branch) (suc (suc (suc number))) lacks = refl
  child_left_out here (typed.listed scalar items) number lacks =
      ap (λ m. m >>= λ items. Ok (list items))
      (items_left_out here 0 items number
      (subst (λ n. is_evaluated (n ∷ path) (items_trace result here 0 items) ≡ false) (from_zero number)
      (sym (of_root result here (typed.listed scalar items) number path (items_trace result here 0 items)) ∙ lacks)))
  child_left_out here (typed.predicate predicate many body) zero lacks =
      ap (λ m. m >>= λ among. items_in among >>= λ items. over predicate (λ value. mean result (Some value) body >>= boolean) items)
      (first here (typed.predicate predicate many body) many _ lacks)
  child_left_out here (typed.predicate predicate many body) (suc zero) lacks =
      same_then (mean result here many) _ _ (λ among is. same_then (items_in among) _ _ (λ items items_is.
      over_same (1 ∷ path) (λ value. mean result (Some value) body >>= boolean) (λ value. mean result (Some value) (change body) >>= boolean)
      (λ value. in_child 1 (trace result (Some value) body)) (λ value lacks. ap (λ m. m >>= boolean) (own (Some value) body 1 refl lacks)) predicate 0 items
      (after_value (1 ∷ path) (mean result here many >>= items_in) _ items (rw is items_is)
      (parts_lack here (typed.predicate predicate many body) many 1 _ lacks).1)))
  child_left_out here (typed.predicate predicate many body) (suc (suc number)) lacks = refl

pub left_out : (result : Value) (here : Option Value) (tree other : Typed) (path : List ℕ) → is_evaluated path (trace result here tree) ≡ false
    → mean result here (with_part path other tree) ≡ mean result here tree
left_out result here tree other path lacks = below path here tree lacks where
  below : (path : List ℕ) (here : Option Value) (tree : Typed) → is_evaluated path (trace result here tree) ≡ false
      → mean result here (with_part path other tree) ≡ mean result here tree
  below [] here tree lacks = absurd (true≢false (sym (root_evaluated result here tree) ∙ lacks))
  below (number ∷ path) here tree lacks = child_left_out result path (with_part path other) (below path) here tree number lacks
