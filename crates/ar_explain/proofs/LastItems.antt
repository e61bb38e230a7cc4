-- The last item that a predicate looks at has its line.
use Rattle.std.proofs.Common.{◌≡◌, ℕ, suc, Bool, true, false, List, [], ◌∷◌, ◌++◌, Option, Some, Result, Ok, Err, refl, ap, sym, ◌∙◌, append_assoc}
use Rattle.std.specs.Prelude.{◌||◌, if◌then◌else◌, not}
use Rattle.std.proofs.lemmas.List.{append-nil, map-append}
use Rattle.ar_value.specs.Answer.{◌>>=◌}
use Rattle.ar_value.specs.Operators.{Failure, boolean, items_in}
use Rattle.ar_value.specs.Value.{Value, Items, list, no_items, item}
use Rattle.ar_value.specs.declared.operator.Predicate.{Predicate}
use Rattle.ar_tree.specs.Meaning.{mean}
use Rattle.ar_tree.specs.Typed.{Typed}
use Rattle.ar_tree.specs.Typed as typed
use Rattle.ar_explain.specs.Lines.{Line, Seen, after_item, body_lines, each_item_lines, earlier_lines, gap_lines, is_early, is_empty, is_last, is_shown, item_lines, lines_on_item, none_seen, with_own}
use Rattle.ar_explain.specs.Sources.{LooksLastAt, body_entry}
use Rattle.ar_explain.specs.Trace.{TraceEntry, continues, each_item, if_value, in_child, on_item, root_entry, trace, with_root}
use Rattle.ar_explain.proofs.Roots.{root_last}

abbrev on_one : ℕ → TraceEntry → TraceEntry
on_one number entry = record entry { items = number ∷ entry.items }

or_true : (b : Bool) → (b || true) ≡ true
or_true true = refl
or_true false = refl

pub last_shown : (predicate : Predicate) (seen : Seen) (at_end : Bool) (holds : Result Bool Failure) → is_last predicate at_end holds ≡ true → is_shown predicate seen at_end holds ≡ true
last_shown predicate seen at_end (Ok holds) last = ap (λ b. is_early predicate seen holds || b) last ∙ or_true (is_early predicate seen holds)
last_shown predicate seen at_end (Err failure) last = refl

-- the bodies' entries end with their own
module _ (predicate : Predicate) (body : Typed) (holds : Value → Result Bool Failure) (entries : Value → List TraceEntry) (said : Value → List Line) (own : Value → TraceEntry)
    (entries_are : (value : Value) → (earlier : List TraceEntry) × (entries value ≡ earlier ++ own value ∷ [])) where
  record Last (items : Items) (seen : Seen) (from : ℕ) : Type 0 where
    number : ℕ
    value : Value
    earlier : List TraceEntry
    are : each_item predicate holds entries from items ≡ earlier ++ on_one number (own value) ∷ []
    before : List Line
    lines_are : each_item_lines predicate body holds said seen from items ≡ before ++ lines_on_item number (said value)

  abbrev entries_after : ℕ → Items → Bool → List TraceEntry
  entries_after from items it = if continues predicate it then each_item predicate holds entries (suc from) items else []

  abbrev lines_after : Seen → ℕ → Items → Bool → List Line
  lines_after seen from items it = if continues predicate it then each_item_lines predicate body holds said (after_item predicate seen it) (suc from) items else []

  abbrev own_lines_of : Seen → ℕ → Value → Items → List Line
  own_lines_of seen from first items = item_lines predicate body seen from (is_empty items) (holds first) (said first)

  -- an item after which comes nothing
  ends_here : (seen : Seen) (from : ℕ) (first : Value) (items : Items) → if_value (holds first) (entries_after from items) ≡ [] → if_value (holds first) (lines_after seen from items) ≡ []
      → is_last predicate (is_empty items) (holds first) ≡ true → Last (item first items) seen from
  ends_here seen from first items no_entries no_lines last = record {
    number = from;
    value = first;
    earlier = on_item from (entries_are first).0;
    are = ap (λ later. on_item from (entries first) ++ later) no_entries ∙ append-nil (on_item from (entries first)) ∙ ap (on_item from) (entries_are first).1
        ∙ map-append (on_one from) (entries_are first).0 (own first ∷ []);
    before = gap_lines body seen;
    lines_are = ap (λ later. own_lines_of seen from first items ++ later) no_lines ∙ append-nil (own_lines_of seen from first items)
        ∙ ap (λ b. if b then gap_lines body seen ++ lines_on_item from (said first) else []) (last_shown predicate seen (is_empty items) (holds first) last);
  }

  -- an item after which come others
  comes_later : (seen : Seen) (from : ℕ) (first : Value) (items : Items) (it : Bool) → holds first ≡ Ok it → continues predicate it ≡ true
      → Last items (after_item predicate seen it) (suc from) → Last (item first items) seen from
  comes_later seen from first items it is on last = record {
    number = last.number;
    value = last.value;
    earlier = on_item from (entries first) ++ last.earlier;
    are = ap (λ m. on_item from (entries first) ++ if_value m (entries_after from items)) is
        ∙ ap (λ b. on_item from (entries first) ++ (if b then each_item predicate holds entries (suc from) items else [])) on
        ∙ ap (λ later. on_item from (entries first) ++ later) last.are ∙ sym (append_assoc (on_item from (entries first)) last.earlier (on_one last.number (own last.value) ∷ []));
    before = own_lines_of seen from first items ++ last.before;
    lines_are = ap (λ m. own_lines_of seen from first items ++ if_value m (lines_after seen from items)) is
        ∙ ap (λ b. own_lines_of seen from first items ++ (if b then each_item_lines predicate body holds said (after_item predicate seen it) (suc from) items else [])) on
        ∙ ap (λ later. own_lines_of seen from first items ++ later) last.lines_are
        ∙ sym (append_assoc (own_lines_of seen from first items) last.before (lines_on_item last.number (said last.value)));
  }

  fails_here : (seen : Seen) (from : ℕ) (first : Value) (items : Items) (failure : Failure) → holds first ≡ Err failure → Last (item first items) seen from
  fails_here seen from first items failure is =
      ends_here seen from first items (ap (λ m. if_value m (entries_after from items)) is) (ap (λ m. if_value m (lines_after seen from items)) is) (ap (λ m. is_last predicate (is_empty items) m) is)

  decides_here : (seen : Seen) (from : ℕ) (first : Value) (items : Items) (it : Bool) → holds first ≡ Ok it → continues predicate it ≡ false → Last (item first items) seen from
  decides_here seen from first items it is off =
      ends_here seen from first items
      (ap (λ m. if_value m (entries_after from items)) is ∙ ap (λ b. if b then each_item predicate holds entries (suc from) items else []) off)
      (ap (λ m. if_value m (lines_after seen from items)) is ∙ ap (λ b. if b then each_item_lines predicate body holds said (after_item predicate seen it) (suc from) items else []) off)
      (ap (λ m. is_last predicate (is_empty items) m) is ∙ ap (λ b. is_empty items || not b) off ∙ or_true (is_empty items))

  abbrev none_after : {A : Type 0} → Bool → List A
  none_after b = if b then [] else []

  no_more : {A : Type 0} (b : Bool) → none_after {A = A} b ≡ []
  no_more true = refl
  no_more false = refl

  is_at_end : (seen : Seen) (from : ℕ) (first : Value) (it : Bool) → holds first ≡ Ok it → Last (item first no_items) seen from
  is_at_end seen from first it is =
      ends_here seen from first no_items
      (ap (λ m. if_value m (λ it. none_after {A = TraceEntry} (continues predicate it))) is ∙ no_more (continues predicate it))
      (ap (λ m. if_value m (λ it. none_after {A = Line} (continues predicate it))) is ∙ no_more (continues predicate it))
      (ap (λ m. is_last predicate true m) is)

  by_continuing : (seen : Seen) (from : ℕ) (first : Value) (items : Items) (it more : Bool) → holds first ≡ Ok it → continues predicate it ≡ more
      → Last items (after_item predicate seen it) (suc from) → Last (item first items) seen from
  by_continuing seen from first items it true is on last = comes_later seen from first items it is on last
  by_continuing seen from first items it false is off last = decides_here seen from first items it is off

  by_holding : (seen : Seen) (from : ℕ) (first next : Value) (items : Items) (m : Result Bool Failure) → holds first ≡ m → ((seen : Seen) → Last (item next items) seen (suc from))
      → Last (item first (item next items)) seen from
  by_holding seen from first next items (Ok it) is last = by_continuing seen from first (item next items) it (continues predicate it) is refl (last (after_item predicate seen it))
  by_holding seen from first next items (Err failure) is last = fails_here seen from first (item next items) failure is

  by_end : (seen : Seen) (from : ℕ) (first : Value) (m : Result Bool Failure) → holds first ≡ m → Last (item first no_items) seen from
  by_end seen from first (Ok it) is = is_at_end seen from first it is
  by_end seen from first (Err failure) is = fails_here seen from first no_items failure is

  last_item : (first : Value) (items : Items) (seen : Seen) (from : ℕ) → Last (item first items) seen from
  last_item first no_items seen from = by_end seen from first (holds first) refl
  last_item first (item next items) seen from = by_holding seen from first next items (holds first) refl (λ seen. last_item next items seen (suc from))

-- ---- predicates

body_ends : (result : Value) (body : Typed) (value : Value) → (earlier : List TraceEntry) × (in_child 1 (trace result (Some value) body) ≡ earlier ++ record (root_entry result (Some value) body) { path = 1 ∷ [] } ∷ [])
body_ends result body value =
    let last = root_last result (Some value) body in
    (in_child 1 last.0, ap (in_child 1) last.1 ∙ map-append (λ (entry : TraceEntry). record entry { path = 1 ∷ entry.path }) last.0 (root_entry result (Some value) body ∷ []))

-- what comes after a list's own is what comes after that of its items
joined : {A : Type 0} (first : List A) (m : Result Value Failure) (items : Items) (next : Items → List A) (earlier later : List A) → m ≡ Ok (list items) → next items ≡ earlier ++ later
    → first ++ if_value (m >>= items_in) next ≡ (first ++ earlier) ++ later
joined first m items next earlier later is are =
    ap (λ m. first ++ if_value (m >>= items_in) next) is ∙ ap (λ more. first ++ more) are ∙ sym (append_assoc first earlier later)

pub looks_last : (result : Value) (here : Option Value) (predicate : Predicate) (many body : Typed) (first : Value) (others : Items) → mean result here many ≡ Ok (list (item first others))
    → (number : ℕ) × (value : Value) × LooksLastAt result here predicate many body number value
looks_last result here predicate many body first others is =
    let holds : Value → Result Bool Failure = λ value. mean result (Some value) body >>= boolean in
    let entries : Value → List TraceEntry = λ value. in_child 1 (trace result (Some value) body) in
    let said : Value → List Line = body_lines result body in
    let last = last_item predicate body holds entries said (λ value. record (root_entry result (Some value) body) { path = 1 ∷ [] }) (body_ends result body) first others none_seen 0 in
    let list_entries = in_child 0 (trace result here many) in
    let list_lines = with_own result here many (earlier_lines result here many) in (
      last.number,
      last.value,
      record {
        earlier = list_entries ++ last.earlier;
        has_entry = ap (with_root result here (typed.predicate predicate many body))
            (joined list_entries (mean result here many) (item first others) (each_item predicate holds entries 0) last.earlier (body_entry result body last.number last.value ∷ []) is last.are);
        before = list_lines ++ last.before;
        has_lines = joined list_lines (mean result here many) (item first others) (each_item_lines predicate body holds said none_seen 0) last.before
            (lines_on_item last.number (said last.value)) is last.lines_are;
      },
    )
