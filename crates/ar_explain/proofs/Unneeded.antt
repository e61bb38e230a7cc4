-- Parts of which lines say that they aren't needed have no entry.
use Rattle.std.proofs.Common.{arith, ◌≡◌, ◌<◌, ◌≤◌, ◌+◌, ℕ, Bool, true, false, List, Option, Some, refl, ap, sym, ◌∙◌, subst, true≢false}
use Rattle.std.specs.Prelude.{◌==◌, ◌&&◌, ◌||◌, ◌++◌, if◌then◌else◌, suc, ◌∷◌, [], All, Result, Ok, Err}
use Rattle.std.specs.List.{AllByRecursion}
use Rattle.std.proofs.lemmas.Bool.Decides.{nat_tests}
use Rattle.std.proofs.lemmas.List.Elements.{All-from_recursion}
use Rattle.std.proofs.lemmas.List.Folds.{list_any-append}
use Rattle.ar_value.specs.Answer.{◌>>=◌}
use Rattle.ar_value.specs.Operators.{Failure, Meaning, boolean, items_in, scalar_item}
use Rattle.ar_value.specs.Terms.{Text}
use Rattle.ar_value.specs.Value.{Value, Items, no_items, item}
use Rattle.ar_value.specs.declared.operator.Predicate.{Predicate}
use Rattle.ar_value.specs.declared.operator.Scalar.{Scalar}
use Rattle.ar_value.specs.declared.operator.UnaryOperator.{UnaryOperator}
use Rattle.ar_tree.specs.Meaning.{mean}
use Rattle.ar_tree.specs.Typed.{Typed, Typeds}
use Rattle.ar_tree.specs.Typed as typed
use Rattle.ar_apart.specs.Apart.{Apart}
use Rattle.ar_explain.specs.Operands.{apart_on}
use Rattle.ar_explain.specs.Lines.{Line, Seen, after_item, body_lines, each_item_lines, earlier_lines, gap_lines, has_own_line, is_empty, is_missing, is_shown, items_lines, all_lines, lines_on_item, none_seen, operand_own_lines, outcome_of, own_line, own_lines, passed_line, unneeded_line, with_own}
use Rattle.ar_explain.specs.Operands.{failed_on}
use Rattle.ar_explain.specs.Parts.{child, is_evaluated_on, nth_tree, same_path}
use Rattle.ar_explain.specs.Sources.{IsLeftOutIfUnneeded, says_unneeded}
use Rattle.ar_explain.specs.Trace.{TraceEntry, continues, each_item, if_value, in_child, items_trace, on_item, root_entry, trace, with_root}
use Rattle.ar_explain.proofs.Entries.{all_if_value, all_of_two, or_none}

and_false : (b : Bool) → (b && false) ≡ false
and_false true = refl
and_false false = refl

or_true : (b : Bool) → (b || true) ≡ true
or_true true = refl
or_true false = refl

pub is_same : (n : ℕ) → (n == n) ≡ true
is_same n = grind (arith, nat_tests)

is_other : (n m : ℕ) → n < m → (n == m) ≡ false
is_other n m less = grind (arith, nat_tests)

is_other_too : (n m : ℕ) → n < m → (m == n) ≡ false
is_other_too n m less = grind (arith, nat_tests)

-- ---- entries of children and on items

child_on : (n : ℕ) (path items : List ℕ) (entries : List TraceEntry) → (n == n) ≡ true → is_evaluated_on (n ∷ path) items (in_child n entries) ≡ is_evaluated_on path items entries
child_on n path items [] same = refl
child_on n path items (entry ∷ entries) same = rw (same, child_on n path items entries same) refl

other_child : (n m : ℕ) (path items : List ℕ) (entries : List TraceEntry) → (n == m) ≡ false → is_evaluated_on (m ∷ path) items (in_child n entries) ≡ false
other_child n m path items [] differ = refl
other_child n m path items (entry ∷ entries) differ = rw (differ, other_child n m path items entries differ) refl

item_on : (n : ℕ) (path items : List ℕ) (entries : List TraceEntry) → (n == n) ≡ true → is_evaluated_on path (n ∷ items) (on_item n entries) ≡ is_evaluated_on path items entries
item_on n path items [] same = refl
item_on n path items (entry ∷ entries) same = rw (same, item_on n path items entries same) refl

other_item : (n m : ℕ) (path items : List ℕ) (entries : List TraceEntry) → (n == m) ≡ false → is_evaluated_on path (m ∷ items) (on_item n entries) ≡ false
other_item n m path items [] differ = refl
other_item n m path items (entry ∷ entries) differ = rw (differ, and_false (same_path entry.path path), other_item n m path items entries differ) refl

-- the entries of another child, on whatever item
other_child_on : (k n m : ℕ) (path items : List ℕ) (entries : List TraceEntry) → (n == m) ≡ false → is_evaluated_on (m ∷ path) items (on_item k (in_child n entries)) ≡ false
other_child_on k n m path items [] differ = refl
other_child_on k n m path items (entry ∷ entries) differ = rw (differ, other_child_on k n m path items entries differ) refl

two : (path items : List ℕ) (entries later : List TraceEntry)
    → is_evaluated_on path items (entries ++ later) ≡ (is_evaluated_on path items entries || is_evaluated_on path items later)
two path items entries later = list_any-append (λ (entry : TraceEntry). same_path entry.path path && same_path entry.items items) entries later

none_if : {A : Type 0} (path items : List ℕ) (m : Result A Failure) (later : A → List TraceEntry) → ((value : A) → is_evaluated_on path items (later value) ≡ false)
    → is_evaluated_on path items (if_value m later) ≡ false
none_if path items (Ok value) later none = none value
none_if path items (Err failure) later none = refl

none_where : (path items : List ℕ) (holds : Bool) (entries others : List TraceEntry) → is_evaluated_on path items entries ≡ false → is_evaluated_on path items others ≡ false
    → is_evaluated_on path items (if holds then entries else others) ≡ false
none_where path items true entries others none no_other = none
none_where path items false entries others none no_other = no_other

-- of two the first has all, or the second
all_of_first : (path items : List ℕ) (entries later : List TraceEntry) → is_evaluated_on path items later ≡ false → is_evaluated_on path items (entries ++ later) ≡ is_evaluated_on path items entries
all_of_first path items entries later none =
    two path items entries later ∙ ap (λ b. is_evaluated_on path items entries || b) none ∙ or_none (is_evaluated_on path items entries)

all_of_second : (path items : List ℕ) (entries later : List TraceEntry) → is_evaluated_on path items entries ≡ false → is_evaluated_on path items (entries ++ later) ≡ is_evaluated_on path items later
all_of_second path items entries later none = two path items entries later ∙ ap (λ b. b || is_evaluated_on path items later) none

module _ (result : Value) where
  module _ (here : Option Value) (tree : Typed) where
    without_root : (n : ℕ) (path items : List ℕ) (entries : List TraceEntry) → is_evaluated_on (n ∷ path) items (with_root result here tree entries) ≡ is_evaluated_on (n ∷ path) items entries
    without_root n path items entries = all_of_first (n ∷ path) items entries (root_entry result here tree ∷ []) refl

    root_has : (entries : List TraceEntry) → is_evaluated_on [] [] (with_root result here tree entries) ≡ true
    root_has entries = two [] [] entries (root_entry result here tree ∷ []) ∙ or_true (is_evaluated_on [] [] entries)

    -- a tree's first child has all entries below it
    of_first : (n : ℕ) (path items : List ℕ) (entries later : List TraceEntry) → is_evaluated_on (n ∷ path) items later ≡ false
        → is_evaluated_on (n ∷ path) items (with_root result here tree (in_child n entries ++ later)) ≡ is_evaluated_on path items entries
    of_first n path items entries later none =
        without_root n path items (in_child n entries ++ later) ∙ all_of_first (n ∷ path) items (in_child n entries) later none ∙ child_on n path items entries (is_same n)

    -- what comes after its value has all others
    of_later : {A : Type 0} (k n : ℕ) (path items : List ℕ) (entries : List TraceEntry) (m : Result A Failure) (later : A → List TraceEntry) (value : A) → (k == n) ≡ false → m ≡ Ok value
        → is_evaluated_on (n ∷ path) items (with_root result here tree (in_child k entries ++ if_value m later)) ≡ is_evaluated_on (n ∷ path) items (later value)
    of_later k n path items entries m later value differ is =
        without_root n path items (in_child k entries ++ if_value m later) ∙ all_of_second (n ∷ path) items (in_child k entries) (if_value m later) (other_child k n path items entries differ)
        ∙ ap (λ m. is_evaluated_on (n ∷ path) items (if_value m later)) is

  -- ---- lines

  abbrev LeftOut : Typed → List TraceEntry → List Line → Type 0
  LeftOut tree entries lines = AllByRecursion (IsLeftOutIfUnneeded tree entries) lines

  -- what is left out of a child is left out of its parent
  of_child : (tree part : Typed) (n : ℕ) (entries whole : List TraceEntry) (lines : List Line) → child tree n ≡ Some part
      → ((path items : List ℕ) → is_evaluated_on (n ∷ path) items whole ≡ is_evaluated_on path items entries) → LeftOut part entries lines → LeftOut tree whole lines
  of_child tree part n entries whole [] is same all = tt
  of_child tree part n entries whole (line ∷ lines) is same all = (
    (λ says. let left = all.0 says in record {
      around = n ∷ left.around;
      number = left.number;
      is_part = rw is left.is_part;
      around_is_evaluated = same left.around line.items ∙ left.around_is_evaluated;
      isnt_evaluated = same (left.around ++ left.number ∷ []) line.items ∙ left.isnt_evaluated;
    }),
    of_child tree part n entries whole lines is same all.1,
  )

  -- what is left out of a body on an item is left out of the predicate
  of_body : (predicate : Predicate) (many body : Typed) (n : ℕ) (entries whole : List TraceEntry) (lines : List Line)
      → ((path items : List ℕ) → is_evaluated_on (1 ∷ path) (n ∷ items) whole ≡ is_evaluated_on path items entries) → LeftOut body entries lines
      → LeftOut (typed.predicate predicate many body) whole (lines_on_item n lines)
  of_body predicate many body n entries whole [] same all = tt
  of_body predicate many body n entries whole (line ∷ lines) same all = (
    (λ says. let left = all.0 says in record {
      around = 1 ∷ left.around;
      number = left.number;
      is_part = left.is_part;
      around_is_evaluated = same left.around line.items ∙ left.around_is_evaluated;
      isnt_evaluated = same (left.around ++ left.number ∷ []) line.items ∙ left.isnt_evaluated;
    }),
    of_body predicate many body n entries whole lines same all.1,
  )

  unneeded_here : (tree part : Typed) (n : ℕ) (whole : List TraceEntry) → child tree n ≡ Some part → is_evaluated_on [] [] whole ≡ true → is_evaluated_on (n ∷ []) [] whole ≡ false
      → LeftOut tree whole (unneeded_line part ∷ [])
  unneeded_here tree part n whole is has none = ((λ says. record { around = []; number = n; is_part = rw is refl; around_is_evaluated = has; isnt_evaluated = none }), tt)

  where_all : (tree : Typed) (whole : List TraceEntry) (holds : Bool) (lines others : List Line) → (holds ≡ true → LeftOut tree whole lines) → (holds ≡ false → LeftOut tree whole others)
      → LeftOut tree whole (if holds then lines else others)
  where_all tree whole true lines others all more = all refl
  where_all tree whole false lines others all more = more refl

  own_is_needed : (meaning : Meaning) (on : Option Text) (apart : Option Apart) → says_unneeded (outcome_of meaning on apart) ≡ false
  own_is_needed (Ok value) on apart = refl
  own_is_needed (Err failure) on apart = refl

  own_all : (here : Option Value) (tree of : Typed) (whole : List TraceEntry) → LeftOut of whole (own_line tree (mean result here tree) (failed_on result here tree) (apart_on result here tree) ∷ [])
  own_all here tree of whole = ((λ says. absurd (true≢false (sym says ∙ own_is_needed (mean result here tree) (failed_on result here tree) (apart_on result here tree)))), tt)

  own_where : (here : Option Value) (tree : Typed) (whole : List TraceEntry) → LeftOut tree whole (own_lines tree (mean result here tree) (failed_on result here tree) (apart_on result here tree))
  own_where here tree whole = where_all tree whole (has_own_line tree (mean result here tree)) _ [] (λ has. own_all here tree tree whole) (λ has. tt)

  of_part : (here : Option Value) (tree : Typed) → LeftOut tree (trace result here tree) (earlier_lines result here tree)
      → LeftOut tree (trace result here tree) (with_own result here tree (earlier_lines result here tree))
  of_part here tree all =
      all_of_two (IsLeftOutIfUnneeded tree (trace result here tree)) (earlier_lines result here tree) _ all (own_where here tree (trace result here tree))

  of_operand : (here : Option Value) (operator : UnaryOperator) (tree : Typed) → LeftOut tree (trace result here tree) (earlier_lines result here tree)
      → LeftOut tree (trace result here tree)
      (earlier_lines result here tree ++ operand_own_lines operator tree (mean result here tree) (failed_on result here tree) (apart_on result here tree))
  of_operand here operator tree all =
      all_of_two (IsLeftOutIfUnneeded tree (trace result here tree)) (earlier_lines result here tree) _ all
      (where_all tree (trace result here tree) (is_missing operator (mean result here tree)) [] _ (λ missing. tt) (λ there_is. own_where here tree (trace result here tree)))

  -- ---- items of predicates

  module _ (here : Option Value) (predicate : Predicate) (many body : Typed) where
    abbrev holds : Value → Result Bool Failure
    holds value = mean result (Some value) body >>= boolean

    abbrev entries : Value → List TraceEntry
    entries value = in_child 1 (trace result (Some value) body)

    abbrev later_entries : ℕ → Items → Bool → List TraceEntry
    later_entries number items it = if continues predicate it then each_item predicate holds entries (suc number) items else []

    -- no entry of the list is one of the items
    none_of_list : (path its : List ℕ) (number : ℕ) (items : Items) → is_evaluated_on (0 ∷ path) its (each_item predicate holds entries number items) ≡ false
    none_of_list path its number no_items = refl
    none_of_list path its number (item first items) =
        all_of_second (0 ∷ path) its (on_item number (entries first)) (if_value (holds first) (later_entries number items)) (other_child_on number 1 0 path its (trace result (Some first) body) refl)
        ∙ none_if (0 ∷ path) its (holds first) (later_entries number items) (λ it. none_where (0 ∷ path) its (continues predicate it) _ [] (none_of_list path its (suc number) items) refl)

    -- nor is one of an item before
    none_before : (n : ℕ) (path its : List ℕ) (number : ℕ) (items : Items) → n < number → is_evaluated_on path (n ∷ its) (each_item predicate holds entries number items) ≡ false
    none_before n path its number no_items less = refl
    none_before n path its number (item first items) less =
        all_of_second path (n ∷ its) (on_item number (entries first)) (if_value (holds first) (later_entries number items)) (other_item number n path its (entries first) (is_other_too n number less))
        ∙ none_if path (n ∷ its) (holds first) (later_entries number items)
        (λ it. none_where path (n ∷ its) (continues predicate it) _ [] (none_before n path its (suc number) items (omega (arith, less))) refl)

    abbrev tree : Typed
    tree = typed.predicate predicate many body

    gap_all : (whole : List TraceEntry) (seen : Seen) (none : Bool) (lines : List Line) → LeftOut tree whole lines
        → LeftOut tree whole ((if none then [] else passed_line body seen.items seen.held ∷ []) ++ lines)
    gap_all whole seen true lines all = all
    gap_all whole seen false lines all = ((λ says. absurd (true≢false (sym says))), all)

    -- the entries of items from one on are those of the whole
    abbrev SameFrom : List TraceEntry → ℕ → List TraceEntry → Type 0
    SameFrom whole number left = (n : ℕ) (path its : List ℕ) → number ≤ n → is_evaluated_on (1 ∷ path) (n ∷ its) whole ≡ is_evaluated_on (1 ∷ path) (n ∷ its) left

    on_first : (whole : List TraceEntry) (number : ℕ) (first : Value) (items : Items) → SameFrom whole number (each_item predicate holds entries number (item first items))
        → (path its : List ℕ) → is_evaluated_on (1 ∷ path) (number ∷ its) whole ≡ is_evaluated_on path its (trace result (Some first) body)
    on_first whole number first items same path its =
        same number path its (omega arith)
        ∙ all_of_first (1 ∷ path) (number ∷ its) (on_item number (entries first)) (if_value (holds first) (later_entries number items))
        (none_if (1 ∷ path) (number ∷ its) (holds first) (later_entries number items)
        (λ it. none_where (1 ∷ path) (number ∷ its) (continues predicate it) _ [] (none_before number (1 ∷ path) its (suc number) items (omega arith)) refl))
        ∙ item_on number (1 ∷ path) its (entries first) (is_same number) ∙ child_on 1 path its (trace result (Some first) body) refl

    on_others : (whole : List TraceEntry) (number : ℕ) (first : Value) (items : Items) (it : Bool) → holds first ≡ Ok it → continues predicate it ≡ true
        → SameFrom whole number (each_item predicate holds entries number (item first items)) → SameFrom whole (suc number) (each_item predicate holds entries (suc number) items)
    on_others whole number first items it is on same n path its after =
        same n path its (omega (arith, after))
        ∙ all_of_second (1 ∷ path) (n ∷ its) (on_item number (entries first)) (if_value (holds first) (later_entries number items))
        (other_item number n (1 ∷ path) its (entries first) (is_other number n (omega (arith, after))))
        ∙ ap (λ m. is_evaluated_on (1 ∷ path) (n ∷ its) (if_value m (later_entries number items))) is
        ∙ ap (λ b. is_evaluated_on (1 ∷ path) (n ∷ its) (if b then each_item predicate holds entries (suc number) items else [])) on

    each_all : (whole : List TraceEntry) → ((value : Value) → LeftOut body (trace result (Some value) body) (body_lines result body value)) → (seen : Seen) (number : ℕ) (items : Items)
        → SameFrom whole number (each_item predicate holds entries number items) → LeftOut tree whole (each_item_lines predicate body holds (body_lines result body) seen number items)
    each_all whole of seen number no_items same = tt
    each_all whole of seen number (item first items) same =
        all_of_two (IsLeftOutIfUnneeded tree whole) (if is_shown predicate seen (is_empty items) (holds first) then gap_lines body seen ++ lines_on_item number (body_lines result body first) else []) _
        (where_all tree whole (is_shown predicate seen (is_empty items) (holds first)) (gap_lines body seen ++ lines_on_item number (body_lines result body first)) []
        (λ shown. gap_all whole seen (seen.items == 0) (lines_on_item number (body_lines result body first))
        (of_body predicate many body number (trace result (Some first) body) whole (body_lines result body first) (on_first whole number first items same) (of first)))
        (λ hidden. tt))
        (all_if_value (IsLeftOutIfUnneeded tree whole) (holds first) _
        (λ it is. where_all tree whole (continues predicate it) _ []
        (λ on. each_all whole of (after_item predicate seen it) (suc number) items (on_others whole number first items it is on same)) (λ off. tt)))

  body_all : (body : Typed) (value : Value) → LeftOut body (trace result (Some value) body) (earlier_lines result (Some value) body) → LeftOut body (trace result (Some value) body) (body_lines result body value)
  body_all body value all = ((λ says. absurd (true≢false (sym says))), of_part (Some value) body all)

  -- ---- trees

  none_of_trees : (here : Option Value) (n : ℕ) (path its : List ℕ) (number : ℕ) (items : Typeds) → n < number → is_evaluated_on (n ∷ path) its (items_trace result here number items) ≡ false
  none_of_trees here n path its number typed.none less = refl
  none_of_trees here n path its number (typed.more first others) less =
      all_of_second (n ∷ path) its (in_child number (trace result here first)) _ (other_child number n path its (trace result here first) (is_other_too n number less))
      ∙ none_if (n ∷ path) its (mean result here first >>= scalar_item) _ (λ value. none_of_trees here n path its (suc number) others (omega (arith, less)))

  mutual
    left_out : (here : Option Value) (tree : Typed) → LeftOut tree (trace result here tree) (earlier_lines result here tree)
    left_out here typed.result = tt
    left_out here typed.item = tt
    left_out here (typed.literal literal) = tt
    left_out here (typed.field owner name) =
        let tree = typed.field owner name in
        of_child tree owner 0 (trace result here owner) (trace result here tree) _ refl
        (λ path items. without_root here tree 0 path items (in_child 0 (trace result here owner)) ∙ child_on 0 path items (trace result here owner) refl) (of_part here owner (left_out here owner))
    left_out here (typed.unary operator operand) =
        let tree = typed.unary operator operand in
        of_child tree operand 0 (trace result here operand) (trace result here tree) _ refl
        (λ path items. without_root here tree 0 path items (in_child 0 (trace result here operand)) ∙ child_on 0 path items (trace result here operand) refl)
        (of_operand here operator operand (left_out here operand))
    left_out here (typed.binary operator left right) =
        let tree = typed.binary operator left right in
        let whole = trace result here tree in
        all_of_two (IsLeftOutIfUnneeded tree whole) (with_own result here left (earlier_lines result here left)) _
        (of_child tree left 0 (trace result here left) whole _ refl
        (λ path items. of_first here tree 0 path items (trace result here left) (if_value (mean result here left) (λ value. in_child 1 (trace result here right)))
        (none_if (0 ∷ path) items (mean result here left) _ (λ value. other_child 1 0 path items (trace result here right) refl)))
        (of_part here left (left_out here left)))
        (all_if_value (IsLeftOutIfUnneeded tree whole) (mean result here left) _
        (λ value is. of_child tree right 1 (trace result here right) whole _ refl
        (λ path items. of_later here tree 0 1 path items (trace result here left) (mean result here left) (λ value. in_child 1 (trace result here right)) value refl is
        ∙ child_on 1 path items (trace result here right) refl)
        (of_part here right (left_out here right))))
    left_out here (typed.both left right) =
        let tree = typed.both left right in
        let whole = trace result here tree in
        let m = mean result here left >>= boolean in
        let later : Bool → List TraceEntry = λ holds. if holds then in_child 1 (trace result here right) else [] in
        all_of_two (IsLeftOutIfUnneeded tree whole) (with_own result here left (earlier_lines result here left)) _
        (of_child tree left 0 (trace result here left) whole _ refl
        (λ path items. of_first here tree 0 path items (trace result here left) (if_value m later)
        (none_if (0 ∷ path) items m later (λ holds. none_where (0 ∷ path) items holds _ [] (other_child 1 0 path items (trace result here right) refl) refl)))
        (of_part here left (left_out here left)))
        (all_if_value (IsLeftOutIfUnneeded tree whole) m _
        (λ holds is. where_all tree whole holds _ _
        (λ on. of_child tree right 1 (trace result here right) whole _ refl
        (λ path items. of_later here tree 0 1 path items (trace result here left) m later true refl (is ∙ ap (λ b. Ok b) on) ∙ child_on 1 path items (trace result here right) refl)
        (of_part here right (left_out here right)))
        (λ off. unneeded_here tree right 1 whole refl (root_has here tree (in_child 0 (trace result here left) ++ if_value m later))
        (of_later here tree 0 1 [] [] (trace result here left) m later false refl (is ∙ ap (λ b. Ok b) off)))))
    left_out here (typed.either left right) =
        let tree = typed.either left right in
        let whole = trace result here tree in
        let m = mean result here left >>= boolean in
        let later : Bool → List TraceEntry = λ holds. if holds then [] else in_child 1 (trace result here right) in
        all_of_two (IsLeftOutIfUnneeded tree whole) (with_own result here left (earlier_lines result here left)) _
        (of_child tree left 0 (trace result here left) whole _ refl
        (λ path items. of_first here tree 0 path items (trace result here left) (if_value m later)
        (none_if (0 ∷ path) items m later (λ holds. none_where (0 ∷ path) items holds [] _ refl (other_child 1 0 path items (trace result here right) refl))))
        (of_part here left (left_out here left)))
        (all_if_value (IsLeftOutIfUnneeded tree whole) m _
        (λ holds is. where_all tree whole holds _ _
        (λ on. unneeded_here tree right 1 whole refl (root_has here tree (in_child 0 (trace result here left) ++ if_value m later))
        (of_later here tree 0 1 [] [] (trace result here left) m later true refl (is ∙ ap (λ b. Ok b) on)))
        (λ off. of_child tree right 1 (trace result here right) whole _ refl
        (λ path items. of_later here tree 0 1 path items (trace result here left) m later false refl (is ∙ ap (λ b. Ok b) off) ∙ child_on 1 path items (trace result here right) refl)
        (of_part here right (left_out here right)))))
    left_out here (typed.choice condition then_branch else_branch) =
        let tree = typed.choice condition then_branch else_branch in
        let whole = trace result here tree in
        let m = mean result here condition >>= boolean in
        let first = trace result here then_branch in
        let second = trace result here else_branch in
        let later : Bool → List TraceEntry = λ holds. if holds then in_child 1 first else in_child 2 second in
        let of_condition = trace result here condition in
        let has = root_has here tree (in_child 0 of_condition ++ if_value m later) in
        all_of_two (IsLeftOutIfUnneeded tree whole) (with_own result here condition (earlier_lines result here condition)) _
        (of_child tree condition 0 of_condition whole _ refl
        (λ path items. of_first here tree 0 path items of_condition (if_value m later)
        (none_if (0 ∷ path) items m later (λ holds. none_where (0 ∷ path) items holds _ _ (other_child 1 0 path items first refl) (other_child 2 0 path items second refl))))
        (of_part here condition (left_out here condition)))
        (all_if_value (IsLeftOutIfUnneeded tree whole) m _
        (λ holds is. where_all tree whole holds _ _
        (λ on. all_of_two (IsLeftOutIfUnneeded tree whole) (with_own result here then_branch (earlier_lines result here then_branch)) (unneeded_line else_branch ∷ [])
        (of_child tree then_branch 1 first whole _ refl
        (λ path items. of_later here tree 0 1 path items of_condition m later true refl (is ∙ ap (λ b. Ok b) on) ∙ child_on 1 path items first refl)
        (of_part here then_branch (left_out here then_branch)))
        (unneeded_here tree else_branch 2 whole refl has
        (of_later here tree 0 2 [] [] of_condition m later true refl (is ∙ ap (λ b. Ok b) on) ∙ other_child 1 2 [] [] first refl)))
        (λ off. all_of_two (IsLeftOutIfUnneeded tree whole) (unneeded_line then_branch ∷ []) (with_own result here else_branch (earlier_lines result here else_branch))
        (unneeded_here tree then_branch 1 whole refl has
        (of_later here tree 0 1 [] [] of_condition m later false refl (is ∙ ap (λ b. Ok b) off) ∙ other_child 2 1 [] [] second refl))
        (of_child tree else_branch 2 second whole _ refl
        (λ path items. of_later here tree 0 2 path items of_condition m later false refl (is ∙ ap (λ b. Ok b) off) ∙ child_on 2 path items second refl)
        (of_part here else_branch (left_out here else_branch))))))
    left_out here (typed.listed scalar items) =
        let tree = typed.listed scalar items in
        items_left_out here scalar items (trace result here tree) 0 items (λ k. ap (λ n. nth_tree items n) (omega arith))
        (λ n path its after. without_root here tree n path its (items_trace result here 0 items))
    left_out here (typed.predicate predicate many body) =
        let tree = typed.predicate predicate many body in
        let whole = trace result here tree in
        let m = mean result here many >>= items_in in
        let later : Items → List TraceEntry =
        each_item predicate (λ value. mean result (Some value) body >>= boolean) (λ value. in_child 1 (trace result (Some value) body)) 0 in
        all_of_two (IsLeftOutIfUnneeded tree whole) (with_own result here many (earlier_lines result here many)) _
        (of_child tree many 0 (trace result here many) whole _ refl
        (λ path items. of_first here tree 0 path items (trace result here many) (if_value m later)
        (none_if (0 ∷ path) items m later (λ values. none_of_list here predicate many body path items 0 values)))
        (of_part here many (left_out here many)))
        (all_if_value (IsLeftOutIfUnneeded tree whole) m _
        (λ values is. each_all here predicate many body whole (λ value. body_all body value (left_out (Some value) body)) none_seen 0 values
        (λ n path its after. of_later here tree 0 1 path (n ∷ its) (trace result here many) m later values refl is)))

    items_left_out : (here : Option Value) (scalar : Scalar) (all : Typeds) (whole : List TraceEntry) (number : ℕ) (items : Typeds) → ((k : ℕ) → nth_tree all (number + k) ≡ nth_tree items k)
        → ((n : ℕ) (path its : List ℕ) → number ≤ n → is_evaluated_on (n ∷ path) its whole ≡ is_evaluated_on (n ∷ path) its (items_trace result here number items))
        → LeftOut (typed.listed scalar all) whole (items_lines result here items)
    items_left_out here scalar all whole number typed.none is same = tt
    items_left_out here scalar all whole number (typed.more first others) is same =
        let tree = typed.listed scalar all in
        let own : nth_tree all number ≡ Some first = subst (λ n. nth_tree all n ≡ Some first) (omega arith) (is 0) in
        let m = mean result here first >>= scalar_item in
        all_of_two (IsLeftOutIfUnneeded tree whole) (with_own result here first (earlier_lines result here first)) _
        (of_child tree first number (trace result here first) whole _ own
        (λ path its. same number path its (omega arith)
        ∙ all_of_first (number ∷ path) its (in_child number (trace result here first)) (if_value m (λ value. items_trace result here (suc number) others))
        (none_if (number ∷ path) its m (λ value. items_trace result here (suc number) others) (λ value. none_of_trees here number path its (suc number) others (omega arith)))
        ∙ child_on number path its (trace result here first) (is_same number))
        (of_part here first (left_out here first)))
        (all_if_value (IsLeftOutIfUnneeded tree whole) m _
        (λ value value_is. items_left_out here scalar all whole (suc number) others (λ k. subst (λ n. nth_tree all n ≡ nth_tree others k) (omega arith) (is (suc k)))
        (λ n path its after. same n path its (omega (arith, after))
        ∙ all_of_second (n ∷ path) its (in_child number (trace result here first)) (if_value m (λ value. items_trace result here (suc number) others))
        (other_child number n path its (trace result here first) (is_other number n (omega (arith, after))))
        ∙ ap (λ m. is_evaluated_on (n ∷ path) its (if_value m (λ value. items_trace result here (suc number) others))) value_is)))

pub unneeded_left_out : (result : Value) (here : Option Value) (tree : Typed) → All (IsLeftOutIfUnneeded tree (trace result here tree)) (all_lines result here tree)
unneeded_left_out result here tree =
    All-from_recursion (IsLeftOutIfUnneeded tree (trace result here tree)) (all_lines result here tree)
    (all_of_two (IsLeftOutIfUnneeded tree (trace result here tree)) (earlier_lines result here tree) _ (left_out result here tree) (own_all result here tree tree (trace result here tree)))
