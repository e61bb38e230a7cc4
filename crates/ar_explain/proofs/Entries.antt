-- Entries of traces one after another, and which paths they have.
use Rattle.std.proofs.Common.{arith, ◌≡◌, ℕ, Bool, true, false, List, Option, refl, ap, sym, ◌∙◌, subst, true≢false}
use Rattle.std.specs.Prelude.{if◌then◌else◌, ◌+◌, suc, ◌==◌, ◌||◌, ◌++◌, ◌∷◌, [], Result, Ok, Err}
use Rattle.std.specs.List.{AllByRecursion}
use Rattle.std.specs.Str.{bytes_eq}
use Rattle.std.proofs.lemmas.List.Folds.{list_any-append}
use Rattle.ar_value.specs.Answer.{◌>>=◌}
use Rattle.ar_value.specs.Operators.{Failure}
use Rattle.ar_value.specs.Value.{Value, Items, item}
use Rattle.ar_value.specs.declared.operator.Predicate.{Predicate}
use Rattle.ar_tree.specs.Typed.{Typed}
use Rattle.ar_explain.specs.Parts.{is_evaluated}
use Rattle.ar_explain.specs.Trace.{TraceEntry, continues, each_item, if_value, in_child, on_item, root_entry, with_root}

pub from_zero : (n : ℕ) → n ≡ 0 + n
from_zero n = omega arith

pub or_none : (b : Bool) → (b || false) ≡ b
or_none true = refl
or_none false = refl

pub or_left : (a b : Bool) → (a || b) ≡ false → a ≡ false
or_left false b e = refl
or_left true b e = absurd (true≢false e)

pub or_right : (a b : Bool) → (a || b) ≡ false → b ≡ false
or_right false b e = e
or_right true b e = absurd (true≢false e)

-- ---- a child's entries

pub of_child : (number : ℕ) (path : List ℕ) (entries : List TraceEntry) → (number == number) ≡ true
    → is_evaluated (number ∷ path) (in_child number entries) ≡ is_evaluated path entries
of_child number path [] same = refl
of_child number path (entry ∷ entries) same = rw (same, of_child number path entries same) refl

pub of_another : (number other : ℕ) (path : List ℕ) (entries : List TraceEntry) → (number == other) ≡ false
    → is_evaluated (other ∷ path) (in_child number entries) ≡ false
of_another number other path [] differ = refl
of_another number other path (entry ∷ entries) differ = rw (differ, of_another number other path entries differ) refl

-- entries on an item have the same paths
pub of_item : (number : ℕ) (path : List ℕ) (entries : List TraceEntry) → is_evaluated path (on_item number entries) ≡ is_evaluated path entries
of_item number path [] = refl
of_item number path (entry ∷ entries) = rw (of_item number path entries) refl

-- the root's own entry has no path of a child
pub of_root : (result : Value) (here : Option Value) (tree : Typed) (number : ℕ) (path : List ℕ) (entries : List TraceEntry)
    → is_evaluated (number ∷ path) (with_root result here tree entries) ≡ is_evaluated (number ∷ path) entries
of_root result here tree number path entries =
    list_any-append (λ (entry : TraceEntry). bytes_eq entry.path (number ∷ path)) entries (root_entry result here tree ∷ [])
    ∙ or_none (is_evaluated (number ∷ path) entries)

pub of_two : (path : List ℕ) (entries later : List TraceEntry)
    → is_evaluated path (entries ++ later) ≡ (is_evaluated path entries || is_evaluated path later)
of_two path entries later = list_any-append (λ (entry : TraceEntry). bytes_eq entry.path path) entries later

-- the entries of the first item, and of those after it
pub of_items : (path : List ℕ) (predicate : Predicate) (holds : Value → Result Bool Failure) (entries : Value → List TraceEntry) (number : ℕ) (first : Value) (items : Items)
    → is_evaluated path (each_item predicate holds entries number (item first items))
    ≡ (is_evaluated path (entries first) || is_evaluated path (if_value (holds first) (λ it. if continues predicate it then each_item predicate holds entries (suc number) items else [])))
of_items path predicate holds entries number first items =
    of_two path (on_item number (entries first)) (if_value (holds first) (λ it. if continues predicate it then each_item predicate holds entries (suc number) items else []))
    ∙ ap (λ one. one || is_evaluated path (if_value (holds first) (λ it. if continues predicate it then each_item predicate holds entries (suc number) items else []))) (of_item number path (entries first))

-- ---- after a value

pub after_value : {A : Type 0} (path : List ℕ) (m : Result A Failure) (entries : A → List TraceEntry) (value : A) → m ≡ Ok value
    → is_evaluated path (if_value m entries) ≡ false → is_evaluated path (entries value) ≡ false
after_value path m entries value is lacks = subst (λ m. is_evaluated path (if_value m entries) ≡ false) is lacks

pub has_value : {A : Type 0} (path : List ℕ) (m : Result A Failure) (entries : A → List TraceEntry)
    → is_evaluated path (if_value m entries) ≡ true → (value : A) × (m ≡ Ok value) × (is_evaluated path (entries value) ≡ true)
has_value path (Ok value) entries has = (value, refl, has)
has_value path (Err failure) entries has = absurd (true≢false (sym has))

-- the same comes after the same value
pub same_then : {A B : Type 0} (m : Result A Failure) (f g : A → Result B Failure) → ((value : A) → m ≡ Ok value → f value ≡ g value)
    → (m >>= f) ≡ (m >>= g)
same_then (Ok value) f g same = same value refl
same_then (Err failure) f g same = refl

-- ---- what is true of all entries

pub all_of_two : {A : Type 0} (P : A → Type 0) (xs ys : List A) → AllByRecursion P xs → AllByRecursion P ys → AllByRecursion P (xs ++ ys)
all_of_two P [] ys all others = others
all_of_two P (x ∷ xs) ys all others = (all.0, all_of_two P xs ys all.1 others)

pub all_if_value : {A B : Type 0} (P : B → Type 0) (m : Result A Failure) (entries : A → List B)
    → ((value : A) → m ≡ Ok value → AllByRecursion P (entries value)) → AllByRecursion P (if_value m entries)
all_if_value P (Ok value) entries all = all value refl
all_if_value P (Err failure) entries all = tt

pub all_where : (P : TraceEntry → Type 0) (holds : Bool) (entries others : List TraceEntry) → (holds ≡ true → AllByRecursion P entries)
    → (holds ≡ false → AllByRecursion P others) → AllByRecursion P (if holds then entries else others)
all_where P true entries others all more = all refl
all_where P false entries others all more = more refl

-- a value that leads to another was there
pub value_of_two : {A B : Type 0} (m : Result A Failure) (next : A → Result B Failure) (other : B) → (m >>= next) ≡ Ok other
    → (value : A) × (m ≡ Ok value) × (next value ≡ Ok other)
value_of_two (Ok value) next other is = (value, refl, is)
value_of_two (Err failure) next other is = absurd cc

-- ---- failures

-- a failure, and all that follows it
pub fails_on : {A B : Type 0} {failure : Failure} (m : Result A Failure) (next : A → Result B Failure) → m ≡ Err failure → (m >>= next) ≡ Err failure
fails_on m next is = ap (λ m. m >>= next) is

-- a value, and what fails after it
pub fails_after : {A B : Type 0} {failure : Failure} (m : Result A Failure) (value : A) (next : A → Result B Failure) → m ≡ Ok value → next value ≡ Err failure → (m >>= next) ≡ Err failure
fails_after m value next is fails = ap (λ m. m >>= next) is ∙ fails

-- a value that leads to another, on which the rest fails
pub fails_after_two : {A B C : Type 0} {failure : Failure} (m : Result A Failure) (first : A → Result B Failure) (next : B → Result C Failure) (value : B)
    → (m >>= first) ≡ Ok value → next value ≡ Err failure → (m >>= λ x. first x >>= next) ≡ Err failure
fails_after_two m first next value is fails =
    let found = value_of_two m first value is in
    fails_after m found.0 (λ x. first x >>= next) found.1 (fails_after (first found.0) value next found.2 fails)
