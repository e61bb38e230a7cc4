-- Each item that a predicate looks at is shown, or counted with those that aren't.
use Rattle.std.proofs.Common.{arith, ◌≡◌, ℕ, suc, ◌+◌, Bool, true, false, List, [], ◌∷◌, ◌++◌, length, map, Option, Some, Result, Ok, Err, refl, ap, sym, ◌∙◌, append_assoc, true≢false}
use Rattle.std.specs.Prelude.{◌||◌, ◌==◌, filter, flat_map, if◌then◌else◌, not}
use Rattle.std.proofs.lemmas.Bool.Decides.{nat_tests}
use Rattle.std.proofs.lemmas.List.{append-nil, length-append, map-append}
use Rattle.std.proofs.lemmas.List.Elements.{filter-append}
use Rattle.ar_value.specs.Answer.{◌>>=◌}
use Rattle.ar_value.specs.Operators.{Failure, boolean, items_in, scalar_item}
use Rattle.ar_value.specs.Value.{Value, Items, no_items, item}
use Rattle.ar_value.specs.declared.operator.Predicate.{Predicate}
use Rattle.ar_tree.specs.Meaning.{mean}
use Rattle.ar_tree.specs.Typed.{Typed, Typeds}
use Rattle.ar_tree.specs.Typed as typed
use Rattle.ar_explain.specs.Lines.{Line, Seen, after_item, body_lines, each_item_lines, earlier_lines, gap_lines, is_early, is_empty, is_last, is_shown, lines_on_item, none_seen, passed_line, with_own}
use Rattle.ar_explain.specs.Parts.{is_evaluated, same_path}
use Rattle.ar_explain.specs.Sources.{SaysAllItems, Stretch, is_held, items_of_body, lines_of_stretches, shown, skipped, stretch_values}
use Rattle.ar_explain.specs.Trace.{TraceEntry, continues, each_item, if_value, in_child, items_trace, on_item, root_entry, trace}
use Rattle.ar_explain.proofs.Entries.{of_another, of_child, of_item, of_items, of_two}
use Rattle.ar_explain.proofs.LastItems.{last_shown}

-- ---- the body's own entries

-- entries of children are none of the root's
below : (number : ℕ) (entries : List TraceEntry) → is_evaluated [] (in_child number entries) ≡ false
below number [] = refl
below number (entry ∷ entries) = below number entries

none_of_two : (path : List ℕ) (entries later : List TraceEntry) → is_evaluated path entries ≡ false → is_evaluated path later ≡ false → is_evaluated path (entries ++ later) ≡ false
none_of_two path entries later none no_more = of_two path entries later ∙ ap (λ b. b || is_evaluated path later) none ∙ no_more

none_on : {A : Type 0} (path : List ℕ) (m : Result A Failure) (entries : A → List TraceEntry) → ((value : A) → is_evaluated path (entries value) ≡ false)
    → is_evaluated path (if_value m entries) ≡ false
none_on path (Ok value) entries none = none value
none_on path (Err failure) entries none = refl

none_where : (path : List ℕ) (holds : Bool) (entries others : List TraceEntry) → is_evaluated path entries ≡ false → is_evaluated path others ≡ false
    → is_evaluated path (if holds then entries else others) ≡ false
none_where path true entries others none no_other = none
none_where path false entries others none no_other = no_other

none_of_items : (path : List ℕ) (predicate : Predicate) (holds : Value → Result Bool Failure) (entries : Value → List TraceEntry) (number : ℕ) (items : Items)
    → ((value : Value) → is_evaluated path (entries value) ≡ false) → is_evaluated path (each_item predicate holds entries number items) ≡ false
none_of_items path predicate holds entries number no_items none = refl
none_of_items path predicate holds entries number (item first items) none =
    of_items path predicate holds entries number first items
    ∙ ap (λ b. b || is_evaluated path (if_value (holds first) (λ it. if continues predicate it then each_item predicate holds entries (suc number) items else []))) (none first)
    ∙ none_on path (holds first) _ (λ it. none_where path (continues predicate it) _ [] (none_of_items path predicate holds entries (suc number) items none) refl)

none_of_trees : (result : Value) (here : Option Value) (number : ℕ) (items : Typeds) → is_evaluated [] (items_trace result here number items) ≡ false
none_of_trees result here number typed.none = refl
none_of_trees result here number (typed.more first others) =
    none_of_two [] (in_child number (trace result here first)) _ (below number (trace result here first))
    (none_on [] (mean result here first >>= scalar_item) _ (λ value. none_of_trees result here (suc number) others))

-- the root's entry is the last, and the only one of it
abbrev RootAlone : Value → Option Value → Typed → Type 0
RootAlone result here tree = (earlier : List TraceEntry) × (trace result here tree ≡ earlier ++ root_entry result here tree ∷ []) × (is_evaluated [] earlier ≡ false)

root_alone : (result : Value) (here : Option Value) (tree : Typed) → RootAlone result here tree
root_alone result here typed.result = ([], refl, refl)
root_alone result here typed.item = ([], refl, refl)
root_alone result here (typed.literal literal) = ([], refl, refl)
root_alone result here (typed.field owner name) = (in_child 0 (trace result here owner), refl, below 0 (trace result here owner))
root_alone result here (typed.unary operator operand) = (in_child 0 (trace result here operand), refl, below 0 (trace result here operand))
root_alone result here (typed.binary operator left right) =
    (_, refl, none_of_two [] (in_child 0 (trace result here left)) _ (below 0 (trace result here left)) (none_on [] (mean result here left) _ (λ value. below 1 (trace result here right))))
root_alone result here (typed.both left right) = (
  _,
  refl,
  none_of_two [] (in_child 0 (trace result here left)) _ (below 0 (trace result here left))
      (none_on [] (mean result here left >>= boolean) _ (λ holds. none_where [] holds (in_child 1 (trace result here right)) [] (below 1 (trace result here right)) refl)),
)
root_alone result here (typed.either left right) = (
  _,
  refl,
  none_of_two [] (in_child 0 (trace result here left)) _ (below 0 (trace result here left))
      (none_on [] (mean result here left >>= boolean) _ (λ holds. none_where [] holds [] (in_child 1 (trace result here right)) refl (below 1 (trace result here right)))),
)
root_alone result here (typed.choice condition then_branch else_branch) = (
  _,
  refl,
  none_of_two [] (in_child 0 (trace result here condition)) _ (below 0 (trace result here condition))
      (none_on [] (mean result here condition >>= boolean) _
      (λ holds. none_where [] holds (in_child 1 (trace result here then_branch)) (in_child 2 (trace result here else_branch)) (below 1 (trace result here then_branch)) (below 2 (trace result here else_branch)))),
)
root_alone result here (typed.listed scalar items) = (items_trace result here 0 items, refl, none_of_trees result here 0 items)
root_alone result here (typed.predicate predicate many body) = (
  _,
  refl,
  none_of_two [] (in_child 0 (trace result here many)) _ (below 0 (trace result here many))
      (none_on [] (mean result here many >>= items_in) _
      (λ items. none_of_items [] predicate (λ value. mean result (Some value) body >>= boolean) (λ value. in_child 1 (trace result (Some value) body)) 0 items
      (λ value. below 1 (trace result (Some value) body)))),
)

abbrev of_body : List TraceEntry → List TraceEntry
of_body entries = filter (λ (entry : TraceEntry). same_path entry.path (1 ∷ [])) entries

none_found_by : (entry : TraceEntry) (entries : List TraceEntry) (same : Bool) → same_path entry.path (1 ∷ []) ≡ same → (is_evaluated (1 ∷ []) entries ≡ false → of_body entries ≡ [])
    → (same_path entry.path (1 ∷ []) || is_evaluated (1 ∷ []) entries) ≡ false → of_body (entry ∷ entries) ≡ []
none_found_by entry entries true is others none = absurd (true≢false (sym (ap (λ b. b || is_evaluated (1 ∷ []) entries) is) ∙ none))
none_found_by entry entries false is others none = rw is (others (sym (ap (λ b. b || is_evaluated (1 ∷ []) entries) is) ∙ none))

none_found : (entries : List TraceEntry) → is_evaluated (1 ∷ []) entries ≡ false → of_body entries ≡ []
none_found [] none = refl
none_found (entry ∷ entries) none = none_found_by entry entries (same_path entry.path (1 ∷ [])) refl (none_found entries) none

no_items_found : (entries : List TraceEntry) → is_evaluated (1 ∷ []) entries ≡ false → items_of_body entries ≡ []
no_items_found entries none = ap (map (λ (entry : TraceEntry). entry.here)) (none_found entries none)

found_in_two : (entries later : List TraceEntry) → items_of_body (entries ++ later) ≡ items_of_body entries ++ items_of_body later
found_in_two entries later =
    ap (map (λ (entry : TraceEntry). entry.here)) (filter-append (λ (entry : TraceEntry). same_path entry.path (1 ∷ [])) entries later)
    ∙ map-append (λ (entry : TraceEntry). entry.here) (of_body entries) (of_body later)

-- the body has one entry on an item
one_found : (result : Value) (body : Typed) (number : ℕ) (value : Value) → items_of_body (on_item number (in_child 1 (trace result (Some value) body))) ≡ Some value ∷ []
one_found result body number value =
    let alone = root_alone result (Some value) body in
    let child : TraceEntry → TraceEntry = λ (entry : TraceEntry). record entry { path = 1 ∷ entry.path } in
    let on : TraceEntry → TraceEntry = λ (entry : TraceEntry). record entry { items = number ∷ entry.items } in
    let root = root_entry result (Some value) body in
    ap (λ entries. items_of_body (on_item number (in_child 1 entries))) alone.1
    ∙ ap (λ entries. items_of_body (on_item number entries)) (map-append child alone.0 (root ∷ []))
    ∙ ap items_of_body (map-append on (in_child 1 alone.0) (child root ∷ []))
    ∙ found_in_two (on_item number (in_child 1 alone.0)) (on (child root) ∷ [])
    ∙ ap (λ found. found ++ Some value ∷ [])
    (no_items_found (on_item number (in_child 1 alone.0)) (of_item number (1 ∷ []) (in_child 1 alone.0) ∙ of_child 1 [] alone.0 refl ∙ alone.2))

-- ---- stretches

some_left : (n : ℕ) → (suc n == 0) ≡ false
some_left n = grind (arith, nat_tests)

module _ (predicate : Predicate) (body : Typed) (holds : Value → Result Bool Failure) (entries : Value → List TraceEntry) (said : Value → List Line)
    (one : (number : ℕ) (value : Value) → items_of_body (on_item number (entries value)) ≡ Some value ∷ []) where
  abbrev it_holds : Value → Bool
  it_holds value = is_held (holds value)

  abbrev lines_from : ℕ → List Stretch → List Line
  lines_from number stretches = lines_of_stretches body it_holds said number stretches

  abbrev values_of : List Stretch → List Value
  values_of stretches = flat_map stretch_values stretches

  -- these lines and entries are those of stretches, the first of which has items that are already passed
  record Covered (passed : List Value) (start : ℕ) (lines : List Line) (found : List TraceEntry) : Type 0 where
    stretches : List Stretch
    are_all : map Some (values_of stretches) ≡ map Some passed ++ items_of_body found
    have_lines : lines ≡ lines_from start stretches

  -- a gap and an item that is shown, with what comes later
  show_one : (passed : List Value) (start number : ℕ) (first : Value) (seen : Seen) (later : List Line) (found : List TraceEntry) → seen.items ≡ length passed
      → seen.held ≡ length (filter it_holds passed) → number ≡ start + length passed → Covered [] (number + 1) later found
      → Covered passed start ((gap_lines body seen ++ lines_on_item number (said first)) ++ later) (on_item number (entries first) ++ found)
  show_one [] start number first seen later found items held at more = record {
    stretches = shown first ∷ more.stretches;
    are_all = ap (λ rest. Some first ∷ rest) more.are_all ∙ ap (λ own. own ++ items_of_body found) (sym (one number first)) ∙ sym (found_in_two (on_item number (entries first)) found);
    have_lines =
        let same : number ≡ start = at ∙ (omega arith) in
        ap (λ n. ((if n == 0 then [] else passed_line body n seen.held ∷ []) ++ lines_on_item number (said first)) ++ later) items
        ∙ ap (λ later. lines_on_item number (said first) ++ later) more.have_lines
        ∙ ap (λ n. lines_on_item n (said first) ++ lines_from (n + 1) more.stretches) same;
  }
  show_one (value ∷ passed) start number first seen later found items held at more = record {
    stretches = skipped (value ∷ passed) ∷ shown first ∷ more.stretches;
    are_all = map-append Some (value ∷ passed) (first ∷ values_of more.stretches)
        ∙ ap (λ rest. map Some (value ∷ passed) ++ rest)
        (ap (λ rest. Some first ∷ rest) more.are_all ∙ ap (λ own. own ++ items_of_body found) (sym (one number first)) ∙ sym (found_in_two (on_item number (entries first)) found));
    have_lines =
        ap (λ n. ((if n == 0 then [] else passed_line body n seen.held ∷ []) ++ lines_on_item number (said first)) ++ later) items
        ∙ ap (λ b. ((if b then [] else passed_line body (length (value ∷ passed)) seen.held ∷ []) ++ lines_on_item number (said first)) ++ later) (some_left (length passed))
        ∙ ap (λ h. (passed_line body (length (value ∷ passed)) h ∷ lines_on_item number (said first)) ++ later) held
        ∙ ap (λ later. passed_line body (length (value ∷ passed)) (length (filter it_holds (value ∷ passed))) ∷ (lines_on_item number (said first) ++ later)) more.have_lines
        ∙ ap (λ n. passed_line body (length (value ∷ passed)) (length (filter it_holds (value ∷ passed))) ∷ (lines_on_item n (said first) ++ lines_from (n + 1) more.stretches)) at;
  }

  none_later : (start : ℕ) → Covered [] start [] []
  none_later start = record { stretches = []; are_all = refl; have_lines = refl }

  abbrev entries_after : ℕ → Items → Bool → List TraceEntry
  entries_after number items it = if continues predicate it then each_item predicate holds entries (suc number) items else []

  abbrev lines_after : Seen → ℕ → Items → Bool → List Line
  lines_after seen number items it = if continues predicate it then each_item_lines predicate body holds said (after_item predicate seen it) (suc number) items else []

  -- the lines and the entries of items
  abbrev Covers : List Value → Seen → (start number : ℕ) → Items → Type 0
  Covers passed seen start number items = Covered passed start (each_item_lines predicate body holds said seen number items) (each_item predicate holds entries number items)

  module _ (passed : List Value) (seen : Seen) (start number : ℕ) (items_are : seen.items ≡ length passed) (held_are : seen.held ≡ length (filter it_holds passed)) (at : number ≡ start + length passed) (first : Value) where
    -- an item that is shown
    shows : (items : Items) (later : List Line) (found : List TraceEntry) → is_shown predicate seen (is_empty items) (holds first) ≡ true
        → if_value (holds first) (lines_after seen number items) ≡ later → if_value (holds first) (entries_after number items) ≡ found → Covered [] (number + 1) later found
        → Covers passed seen start number (item first items)
    shows items later found is lines_are found_are more =
        let covered = show_one passed start number first seen later found items_are held_are at more in record {
          stretches = covered.stretches;
          are_all = covered.are_all ∙ ap (λ found. map Some passed ++ items_of_body (on_item number (entries first) ++ found)) (sym found_are);
          have_lines = ap (λ b. (if b then gap_lines body seen ++ lines_on_item number (said first) else []) ++ if_value (holds first) (lines_after seen number items)) is
              ∙ ap (λ later. (gap_lines body seen ++ lines_on_item number (said first)) ++ later) lines_are ∙ covered.have_lines;
        }

    fails : (items : Items) (failure : Failure) → holds first ≡ Err failure → Covers passed seen start number (item first items)
    fails items failure is =
        shows items [] [] (ap (λ m. is_shown predicate seen (is_empty items) m) is) (ap (λ m. if_value m (lines_after seen number items)) is) (ap (λ m. if_value m (entries_after number items)) is)
        (none_later (number + 1))

    or_true : (b : Bool) → (b || true) ≡ true
    or_true true = refl
    or_true false = refl

    decides : (items : Items) (it : Bool) → holds first ≡ Ok it → continues predicate it ≡ false → Covers passed seen start number (item first items)
    decides items it is off =
        shows items [] []
        (ap (λ m. is_shown predicate seen (is_empty items) m) is ∙ last_shown predicate seen (is_empty items) (Ok it) (ap (λ b. is_empty items || not b) off ∙ or_true (is_empty items)))
        (ap (λ m. if_value m (lines_after seen number items)) is ∙ ap (λ b. if b then each_item_lines predicate body holds said (after_item predicate seen it) (suc number) items else []) off)
        (ap (λ m. if_value m (entries_after number items)) is ∙ ap (λ b. if b then each_item predicate holds entries (suc number) items else []) off)
        (none_later (number + 1))

    no_more : {A : Type 0} (b : Bool) → ◌≡◌ {A = List A} (if b then [] else []) []
    no_more true = refl
    no_more false = refl

    at_end : (it : Bool) → holds first ≡ Ok it → Covers passed seen start number (item first no_items)
    at_end it is =
        shows no_items [] [] (ap (λ m. is_shown predicate seen true m) is ∙ last_shown predicate seen true (Ok it) refl)
        (ap (λ m. if_value m (lines_after seen number no_items)) is ∙ no_more (continues predicate it))
        (ap (λ m. if_value m (entries_after number no_items)) is ∙ no_more (continues predicate it)) (none_later (number + 1))

    -- what comes after an item, where something does
    abbrev Later : Seen → List Value → ℕ → Items → Type 0
    Later seen passed start items = Covered passed start (each_item_lines predicate body holds said seen (suc number) items) (each_item predicate holds entries (suc number) items)

    proceeds : (items : Items) (it : Bool) → holds first ≡ Ok it → continues predicate it ≡ true
        → if_value (holds first) (lines_after seen number items) ≡ each_item_lines predicate body holds said (after_item predicate seen it) (suc number) items
    proceeds items it is on =
        ap (λ m. if_value m (lines_after seen number items)) is ∙ ap (λ b. if b then each_item_lines predicate body holds said (after_item predicate seen it) (suc number) items else []) on

    proceeds_too : (items : Items) (it : Bool) → holds first ≡ Ok it → continues predicate it ≡ true → if_value (holds first) (entries_after number items) ≡ each_item predicate holds entries (suc number) items
    proceeds_too items it is on = ap (λ m. if_value m (entries_after number items)) is ∙ ap (λ b. if b then each_item predicate holds entries (suc number) items else []) on

    early : (items : Items) (it : Bool) → holds first ≡ Ok it → continues predicate it ≡ true → is_early predicate seen it ≡ true
        → Later (after_item predicate seen it) [] (number + 1) items → Covers passed seen start number (item first items)
    early items it is on among more =
        shows items _ _ (ap (λ m. is_shown predicate seen (is_empty items) m) is ∙ ap (λ b. b || is_last predicate (is_empty items) (Ok it)) among) (proceeds items it is on) (proceeds_too items it is on) more

    passes : (next : Value) (items : Items) (it : Bool) → holds first ≡ Ok it → continues predicate it ≡ true → is_early predicate seen it ≡ false
        → Later (after_item predicate seen it) (passed ++ first ∷ []) start (item next items) → Covers passed seen start number (item first (item next items))
    passes next items it is on late more = record {
      stretches = more.stretches;
      are_all = more.are_all ∙ ap (λ own. own ++ items_of_body (each_item predicate holds entries (suc number) (item next items))) (map-append Some passed (first ∷ []))
          ∙ append_assoc (map Some passed) (Some first ∷ []) (items_of_body (each_item predicate holds entries (suc number) (item next items)))
          ∙ ap (λ own. map Some passed ++ (own ++ items_of_body (each_item predicate holds entries (suc number) (item next items)))) (sym (one number first))
          ∙ ap (λ found. map Some passed ++ found) (sym (found_in_two (on_item number (entries first)) (each_item predicate holds entries (suc number) (item next items))))
          ∙ ap (λ found. map Some passed ++ items_of_body (on_item number (entries first) ++ found)) (sym (proceeds_too (item next items) it is on));
      have_lines =
          let hidden : is_shown predicate seen false (holds first) ≡ false =
          ap (λ m. is_shown predicate seen false m) is ∙ ap (λ b. b || not (continues predicate it)) late ∙ ap (λ b. not b) on in
          ap (λ b. (if b then gap_lines body seen ++ lines_on_item number (said first) else []) ++ if_value (holds first) (lines_after seen number (item next items))) hidden
          ∙ proceeds (item next items) it is on ∙ more.have_lines;
    }

    abbrev seen_then : (it among : Bool) → Seen
    seen_then it among =
        if among then record { shown = seen.shown + 1; items = 0; held = 0 } else record { shown = seen.shown; items = seen.items + 1; held = if it then seen.held + 1 else seen.held }

    -- how many are passed then
    passed_items : (it : Bool) → is_early predicate seen it ≡ false → (after_item predicate seen it).items ≡ length (passed ++ first ∷ [])
    passed_items it late =
        ap (λ b. (seen_then it b).items) late
        ∙ ap (λ n. n + 1) items_are ∙ sym (length-append passed (first ∷ []))

    held_one : (it : Bool) → (if it then seen.held + 1 else seen.held) ≡ seen.held + length (if it then first ∷ [] else [])
    held_one true = refl
    held_one false = omega arith

    filter_one : (it : Bool) → it_holds first ≡ it → filter it_holds (first ∷ []) ≡ (if it then first ∷ [] else [])
    filter_one true is = rw is refl
    filter_one false is = rw is refl

    passed_held : (it : Bool) → holds first ≡ Ok it → is_early predicate seen it ≡ false → (after_item predicate seen it).held ≡ length (filter it_holds (passed ++ first ∷ []))
    passed_held it is late =
        ap (λ b. (seen_then it b).held) late
        ∙ held_one it ∙ ap (λ n. n + length (if it then first ∷ [] else [])) held_are
        ∙ sym (ap length (filter-append it_holds passed (first ∷ []) ∙ ap (λ more. filter it_holds passed ++ more) (filter_one it (ap is_held is)))
        ∙ length-append (filter it_holds passed) (if it then first ∷ [] else []))

    passed_at : suc number ≡ start + length (passed ++ first ∷ [])
    passed_at = omega (arith, at, length-append passed (first ∷ []))

    shown_items : (it : Bool) → is_early predicate seen it ≡ true → (after_item predicate seen it).items ≡ 0
    shown_items it among =
        ap (λ b. (seen_then it b).items) among

    shown_held : (it : Bool) → is_early predicate seen it ≡ true → (after_item predicate seen it).held ≡ 0
    shown_held it among =
        ap (λ b. (seen_then it b).held) among

  -- what is said of the items from a next one on
  abbrev Rest : ℕ → Items → Type 0
  Rest number items = (passed : List Value) (seen : Seen) (start : ℕ) → seen.items ≡ length passed → seen.held ≡ length (filter it_holds passed) → number ≡ start + length passed
      → Covers passed seen start number items

  by_early : (passed : List Value) (seen : Seen) (start number : ℕ) → seen.items ≡ length passed → seen.held ≡ length (filter it_holds passed) → number ≡ start + length passed
      → (first next : Value) (items : Items) (it among : Bool) → holds first ≡ Ok it → continues predicate it ≡ true → is_early predicate seen it ≡ among → Rest (suc number) (item next items)
      → Covers passed seen start number (item first (item next items))
  by_early passed seen start number items_are held_are at first next items it true is on among rest =
      early passed seen start number items_are held_are at first (item next items) it is on among
      (rest [] (after_item predicate seen it) (number + 1) (shown_items passed seen start number items_are held_are at first it among) (shown_held passed seen start number items_are held_are at first it among) (omega arith))
  by_early passed seen start number items_are held_are at first next items it false is on late rest =
      passes passed seen start number items_are held_are at first next items it is on late
      (rest (passed ++ first ∷ []) (after_item predicate seen it) start (passed_items passed seen start number items_are held_are at first it late)
      (passed_held passed seen start number items_are held_are at first it is late) (passed_at passed seen start number items_are held_are at first))

  by_continuing : (passed : List Value) (seen : Seen) (start number : ℕ) → seen.items ≡ length passed → seen.held ≡ length (filter it_holds passed) → number ≡ start + length passed
      → (first next : Value) (items : Items) (it more : Bool) → holds first ≡ Ok it → continues predicate it ≡ more → Rest (suc number) (item next items)
      → Covers passed seen start number (item first (item next items))
  by_continuing passed seen start number items_are held_are at first next items it true is on rest =
      by_early passed seen start number items_are held_are at first next items it (is_early predicate seen it) is on refl rest
  by_continuing passed seen start number items_are held_are at first next items it false is off rest =
      decides passed seen start number items_are held_are at first (item next items) it is off

  by_holding : (passed : List Value) (seen : Seen) (start number : ℕ) → seen.items ≡ length passed → seen.held ≡ length (filter it_holds passed) → number ≡ start + length passed
      → (first next : Value) (items : Items) (m : Result Bool Failure) → holds first ≡ m → Rest (suc number) (item next items) → Covers passed seen start number (item first (item next items))
  by_holding passed seen start number items_are held_are at first next items (Ok it) is rest =
      by_continuing passed seen start number items_are held_are at first next items it (continues predicate it) is refl rest
  by_holding passed seen start number items_are held_are at first next items (Err failure) is rest =
      fails passed seen start number items_are held_are at first (item next items) failure is

  by_end : (passed : List Value) (seen : Seen) (start number : ℕ) → seen.items ≡ length passed → seen.held ≡ length (filter it_holds passed) → number ≡ start + length passed
      → (first : Value) (m : Result Bool Failure) → holds first ≡ m → Covers passed seen start number (item first no_items)
  by_end passed seen start number items_are held_are at first (Ok it) is = at_end passed seen start number items_are held_are at first it is
  by_end passed seen start number items_are held_are at first (Err failure) is = fails passed seen start number items_are held_are at first no_items failure is

  covers_from : (first : Value) (items : Items) (number : ℕ) → Rest number (item first items)
  covers_from first no_items number passed seen start items_are held_are at = by_end passed seen start number items_are held_are at first (holds first) refl
  covers_from first (item next items) number passed seen start items_are held_are at =
      by_holding passed seen start number items_are held_are at first next items (holds first) refl (covers_from next items (suc number))

  covers_items : (items : Items) → Covers [] none_seen 0 0 items
  covers_items no_items = none_later 0
  covers_items (item first items) = covers_from first items 0 [] none_seen 0 refl refl refl

  covers_value : (m : Result Items Failure) → Covered [] 0 (if_value m (each_item_lines predicate body holds said none_seen 0)) (if_value m (each_item predicate holds entries 0))
  covers_value (Ok items) = covers_items items
  covers_value (Err failure) = none_later 0

-- ---- predicates

pub says_all : (result : Value) (here : Option Value) (predicate : Predicate) (many body : Typed) → SaysAllItems result here predicate many body
says_all result here predicate many body =
    let holds : Value → Result Bool Failure = λ value. mean result (Some value) body >>= boolean in
    let entries : Value → List TraceEntry = λ value. in_child 1 (trace result (Some value) body) in
    let said : Value → List Line = body_lines result body in
    let covered = covers_value predicate body holds entries said (λ number value. one_found result body number value) (mean result here many >>= items_in) in
    let of_list = in_child 0 (trace result here many) in
    let of_items = if_value (mean result here many >>= items_in) (each_item predicate holds entries 0) in
    let root = root_entry result here (typed.predicate predicate many body) in
    record {
      stretches = covered.stretches;
      are_all = covered.are_all
          ∙ sym (found_in_two (of_list ++ of_items) (root ∷ []) ∙ append-nil (items_of_body (of_list ++ of_items)) ∙ found_in_two of_list of_items
          ∙ ap (λ found. found ++ items_of_body of_items) (no_items_found of_list (of_another 0 1 [] (trace result here many) refl)));
      have_lines = ap (λ lines. with_own result here many (earlier_lines result here many) ++ lines) covered.have_lines;
    }
