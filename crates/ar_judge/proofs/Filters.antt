-- Code of conditions without `filter` has none.
use Rattle.ar_judge.specs.Condition.{Condition}
use Rattle.std.proofs.Common.{◌≡◌, ℕ, ◌+◌, Bool, true, false, ◌||◌, List, [], ◌∷◌, ◌++◌, Result, Ok, refl, sym, ap, subst, ◌∙◌}
use Rattle.std.specs.List.{list_any}
use Rattle.std.proofs.lemmas.List.Folds.{list_any-append}
use Rattle.ar_value.specs.Shape.{Shape}
use Rattle.ar_value.specs.declared.operator.Predicate.{Predicate}
use Rattle.ar_value.specs.Predicates.{gathers, keeps_items}
use Rattle.ar_tree.specs.Typed.{Typed, Typeds}
use Rattle.ar_tree.specs.Typed as typed
use Rattle.ar_tree.specs.declared.tree.Literal.{Literal}
use Rattle.ar_tree.specs.declared.tree.Literal.TheVariants as literals
use Rattle.ar_op.specs.declared.op.Op.{Op}
use Rattle.ar_op.specs.declared.op.Op.TheVariants.{Return, Enter, Step}
use Rattle.ar_compile.specs.Compiled.{Tables, code_at, compiled, items_at, literal_op, no_tables, tables_with}
use Rattle.ar_compile.specs.Length.{operations}
use Rattle.ar_machine.proofs.NoFilter.{HasNoFilter, is_of_filter, none_begun}
use Rattle.ar_judge.specs.Built.{IsBuilt}
use Rattle.ar_judge.specs.Saying.{typed_text}
use Rattle.ar_judge.specs.declared.error.BuildCause.{BuildCause}
use Rattle.ar_judge.proofs.Trees.{tree_by_parser}
use Rattle.ar_judge.specs.Filters.{BeginsOnlyWrittenFilters, has_filter, have_filter}

abbrev NoneOf : List Op → Type 0
NoneOf ops = list_any is_of_filter ops ≡ false

none_first : (a b : Bool) → (a || b) ≡ false → (a ≡ false) × (b ≡ false)
none_first false b e = (refl, e)
none_first true b e = absurd cc

neither : (a b : Bool) → a ≡ false → b ≡ false → (a || b) ≡ false
neither a b one other = rw (one, other) refl

none_of_both : (xs ys : List Op) → NoneOf xs → NoneOf ys → NoneOf (xs ++ ys)
none_of_both xs ys one other = list_any-append is_of_filter xs ys ∙ neither (list_any is_of_filter xs) (list_any is_of_filter ys) one other

literal_none : (literal : Literal) (tables : Tables) → NoneOf (literal_op literal tables ∷ [])
literal_none literals.Nil tables = refl
literal_none (literals.Bool boolean) tables = refl
literal_none (literals.Whole value) tables = refl
literal_none (literals.Decimal millionths) tables = refl
literal_none (literals.Text letters) tables = refl

counted_predicate : (predicate : Predicate) (list body : Typed) → has_filter (typed.predicate predicate list body) ≡ false
    → (has_filter list ≡ false) × (has_filter body ≡ false) × ((index : ℕ) → is_of_filter (Enter predicate index) ≡ false) × ((index : ℕ) → is_of_filter (Step predicate index) ≡ false)
counted_predicate predicate list body e =
    let first = none_first (keeps_items (gathers predicate)) (has_filter list || has_filter body) e in
    let both = none_first (has_filter list) (has_filter body) first.1 in
    (both.0, both.1, λ index. first.0, λ index. first.0)

mutual
  none_in : (index : ℕ) (tables : Tables) (tree : Typed) → has_filter tree ≡ false → NoneOf (code_at index tables tree)
  none_in index tables typed.result e = refl
  none_in index tables typed.item e = refl
  none_in index tables (typed.literal literal) e = literal_none literal tables
  none_in index tables (typed.field whole name) e = none_of_both (code_at index tables whole) _ (none_in index tables whole e) refl
  none_in index tables (typed.unary operator operand) e = none_of_both (code_at index tables operand) _ (none_in index tables operand e) refl
  none_in index tables (typed.binary operator left right) e =
      let both = none_first (has_filter left) (has_filter right) e in
      none_of_both (code_at index tables left) _ (none_in index tables left both.0) (none_of_both (code_at (index + operations left) (tables_with left tables) right) _ (none_in (index + operations left) (tables_with left tables) right both.1) refl)
  none_in index tables (typed.both left right) e =
      let both = none_first (has_filter left) (has_filter right) e in
      none_of_both (code_at index tables left) _ (none_in index tables left both.0) (none_in (index + operations left + 1) (tables_with left tables) right both.1)
  none_in index tables (typed.either left right) e =
      let both = none_first (has_filter left) (has_filter right) e in
      none_of_both (code_at index tables left) _ (none_in index tables left both.0) (none_in (index + operations left + 1) (tables_with left tables) right both.1)
  none_in index tables (typed.choice condition then_branch else_branch) e =
      let first = none_first (has_filter condition) (has_filter then_branch || has_filter else_branch) e in
      let both = none_first (has_filter then_branch) (has_filter else_branch) first.1 in
      none_of_both (code_at index tables condition) _ (none_in index tables condition first.0)
      (none_of_both (code_at (index + operations condition + 1) (tables_with condition tables) then_branch) _ (none_in (index + operations condition + 1) (tables_with condition tables) then_branch both.0)
      (none_in (index + operations condition + 1 + operations then_branch + 1) (tables_with then_branch (tables_with condition tables)) else_branch both.1))
  none_in index tables (typed.listed scalar items) e = none_of_both (items_at index tables items) _ (none_in_items index tables items e) refl
  none_in index tables (typed.predicate predicate list body) e =
      let parts = counted_predicate predicate list body e in
      let within = none_of_both (code_at (index + operations list + 1) (tables_with list tables) body) (Step predicate (index + operations list) ∷ []) (none_in (index + operations list + 1) (tables_with list tables) body parts.1)
      (neither (is_of_filter (Step predicate (index + operations list))) false (parts.3 (index + operations list)) refl) in
      none_of_both (code_at index tables list) _ (none_in index tables list parts.0)
      (neither (is_of_filter (Enter predicate (index + operations list + 1 + operations body))) _ (parts.2 (index + operations list + 1 + operations body)) within)

  none_in_items : (index : ℕ) (tables : Tables) (items : Typeds) → have_filter items ≡ false → NoneOf (items_at index tables items)
  none_in_items index tables typed.none e = refl
  none_in_items index tables (typed.more first others) e =
      let both = none_first (has_filter first) (have_filter others) e in
      none_of_both (code_at index tables first) _ (none_in index tables first both.0) (none_in_items (index + operations first) (tables_with first tables) others both.1)

compiled_none : (tree : Typed) → has_filter tree ≡ false → HasNoFilter (compiled tree)
unfolding compiled
compiled_none tree e = none_of_both (code_at 0 no_tables tree) (Return ∷ []) (none_in 0 no_tables tree e) refl

same_tree : (found : Result Typed BuildCause) (one other : Typed) → found ≡ Ok one → found ≡ Ok other → one ≡ other
same_tree found one other is same = cc

pub filters_as_written : (shape : Shape) (text : List ℕ) (condition : Condition) → IsBuilt shape text condition → BeginsOnlyWrittenFilters shape text condition
filters_as_written shape text condition built tree typed e =
    let same : tree ≡ built.tree = same_tree (typed_text shape text) tree built.tree typed (tree_by_parser shape text built.tree built.has_tree) in
    λ value. none_begun condition.verified.code value (subst HasNoFilter (ap compiled same ∙ sym built.code_is) (compiled_none tree e))
