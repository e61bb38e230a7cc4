-- No line says the value of a part that is the item itself, so that each line is stated as what it says.
use Rattle.std.proofs.Common.{◌≡◌, ℕ, suc, Bool, true, false, List, Option, Some, None, refl, sym, true≢false}
use Rattle.std.specs.Prelude.{◌==◌, ◌++◌, if◌then◌else◌, ◌∷◌, [], codes, Ok, Err}
use Rattle.std.specs.List.{AllByRecursion}
use Rattle.std.specs.Str.{bytes_eq}
use Rattle.std.proofs.lemmas.List.Elements.{All-from_recursion}
use Rattle.ar_value.specs.Answer.{◌>>=◌}
use Rattle.ar_value.specs.Operators.{Meaning, boolean, items_in, scalar_item}
use Rattle.ar_value.specs.Terms.{Text}
use Rattle.ar_value.specs.Value.{Value, Items, no_items, item}
use Rattle.ar_value.specs.declared.operator.BinaryOperator.TheVariants as binary
use Rattle.ar_value.specs.declared.operator.Predicate.{Predicate}
use Rattle.ar_value.specs.declared.operator.Predicate.TheVariants as predicates
use Rattle.ar_value.specs.declared.operator.UnaryOperator.{UnaryOperator}
use Rattle.ar_value.specs.declared.operator.UnaryOperator.TheVariants as unary
use Rattle.ar_tree.specs.Meaning.{mean}
use Rattle.ar_tree.specs.Typed.{Typed, Typeds}
use Rattle.ar_tree.specs.Typed as typed
use Rattle.ar_apart.specs.Apart.{Apart}
use Rattle.ar_show.specs.PartText.{is_word, operand_text, owner_text, shown_part}
use Rattle.ar_explain.specs.Operands.{apart_on, failed_on}
use Rattle.ar_explain.specs.Lines.{Line, Seen, after_item, body_lines, each_item_lines, earlier_lines, gap_lines, is_empty, is_missing, is_shown, items_lines, lines_on_item, none_seen, operand_own_lines, own_lines, passed_line, says_more, unneeded_line, with_own}
use Rattle.ar_explain.specs.Trace.{continues}
use Rattle.ar_explain.proofs.Entries.{all_if_value, all_of_two}
use Rattle.ar_read_back.specs.StatedLaws.{LinesLookAsTheyAre, LooksAsItIs}

-- ---- names

-- what has a byte other than `#`, after anything
with_byte : (before : Text) (byte : ℕ) (rest : Text) → (byte == 35) ≡ false → bytes_eq (before ++ byte ∷ rest) (codes "#") ≡ false
with_byte [] byte rest differs = rw differs refl
with_byte (first ∷ []) byte rest differs = by (first == 35) refl where
  by : (same : Bool) → (first == 35) ≡ same → bytes_eq (first ∷ byte ∷ rest) (codes "#") ≡ false
  by true is = rw is refl
  by false is = rw is refl
with_byte (first ∷ second ∷ more) byte rest differs = by (first == 35) refl where
  by : (same : Bool) → (first == 35) ≡ same → bytes_eq (first ∷ second ∷ (more ++ byte ∷ rest)) (codes "#") ≡ false
  by true is = rw is refl
  by false is = rw is refl

-- a part of which a value is said has another name than an item
other_name : (tree : Typed) → says_more tree ≡ true → bytes_eq (shown_part tree) (codes "#") ≡ false
other_name typed.result more = refl
other_name typed.item more = absurd (true≢false (sym more))
other_name (typed.literal literal) more = absurd (true≢false (sym more))
other_name (typed.field owner name) more = by (is_word name) refl where
  by : (word : Bool) → is_word name ≡ word → bytes_eq (shown_part (typed.field owner name)) (codes "#") ≡ false
  by true is = rw is (with_byte (owner_text owner (shown_part owner)) 46 _ refl)
  by false is = rw is (with_byte (owner_text owner (shown_part owner)) 91 _ refl)
other_name (typed.unary unary.Need operand) more = absurd (true≢false (sym more))
other_name (typed.unary unary.ToDecimal operand) more = absurd (true≢false (sym more))
other_name (typed.unary unary.Len operand) more = refl
other_name (typed.unary unary.IsNil operand) more = refl
other_name (typed.unary unary.Not operand) more = refl
other_name (typed.unary (unary.Negate of) operand) more = refl
other_name (typed.binary binary.Index left right) more = with_byte (owner_text left (shown_part left)) 91 _ refl
other_name (typed.binary binary.Default left right) more = refl
other_name (typed.binary operator left right) more = with_byte (operand_text left (shown_part left)) 32 _ refl
other_name (typed.both left right) more = with_byte (operand_text left (shown_part left)) 32 _ refl
other_name (typed.either left right) more = with_byte (operand_text left (shown_part left)) 32 _ refl
other_name (typed.choice condition then_branch else_branch) more = with_byte (operand_text condition (shown_part condition)) 32 _ refl
other_name (typed.listed scalar items) more = refl
other_name (typed.predicate predicates.All many body) more = refl
other_name (typed.predicate predicates.Any many body) more = refl
other_name (typed.predicate predicates.None many body) more = refl
other_name (typed.predicate predicates.One many body) more = refl
other_name (typed.predicate predicates.Count many body) more = refl
other_name (typed.predicate predicates.Filter many body) more = refl

-- ---- lines

abbrev Look : List Line → Type 0
Look lines = AllByRecursion LooksAsItIs lines

where_all : (holds : Bool) (lines others : List Line) → (holds ≡ true → Look lines) → Look others → Look (if holds then lines else others)
where_all true lines others all more = all refl
where_all false lines others all more = more

own_look : (tree : Typed) (meaning : Meaning) (on : Option Text) (apart : Option Apart) → Look (own_lines tree meaning on apart)
own_look tree (Err failure) on apart = (refl, tt)
own_look tree (Ok value) on (Some apart) = where_all (says_more tree) _ [] (λ more. (refl, tt)) tt
own_look tree (Ok value) on None = where_all (says_more tree) _ [] (λ more. (rw (other_name tree more) refl, tt)) tt

numbered : (number : ℕ) (lines : List Line) → Look lines → Look (lines_on_item number lines)
numbered number [] all = tt
numbered number (line ∷ lines) all = (all.0, numbered number lines all.1)

module _ (result : Value) where
  part_looks : (here : Option Value) (tree : Typed) → Look (earlier_lines result here tree) → Look (with_own result here tree (earlier_lines result here tree))
  part_looks here tree all = all_of_two LooksAsItIs (earlier_lines result here tree) _ all (own_look tree (mean result here tree) (failed_on result here tree) (apart_on result here tree))

  operand_looks : (here : Option Value) (operator : UnaryOperator) (tree : Typed) → Look (earlier_lines result here tree)
      → Look (earlier_lines result here tree ++ operand_own_lines operator tree (mean result here tree) (failed_on result here tree) (apart_on result here tree))
  operand_looks here operator tree all =
      all_of_two LooksAsItIs (earlier_lines result here tree) _ all
      (where_all (is_missing operator (mean result here tree)) [] _ (λ missing. tt) (own_look tree (mean result here tree) (failed_on result here tree) (apart_on result here tree)))

  -- ---- items of predicates

  module _ (predicate : Predicate) (body : Typed) (of : (value : Value) → Look (with_own result (Some value) body (earlier_lines result (Some value) body))) where
    gap_looks : (seen : Seen) (none : Bool) (lines : List Line) → Look lines → Look ((if none then [] else passed_line body seen.items seen.held ∷ []) ++ lines)
    gap_looks seen true lines all = all
    gap_looks seen false lines all = (refl, all)

    each_looks : (seen : Seen) (number : ℕ) (items : Items)
        → Look (each_item_lines predicate body (λ value. mean result (Some value) body >>= boolean) (body_lines result body) seen number items)
    each_looks seen number no_items = tt
    each_looks seen number (item first items) =
        all_of_two LooksAsItIs
        (if is_shown predicate seen (is_empty items) (mean result (Some first) body >>= boolean) then gap_lines body seen ++ lines_on_item number (body_lines result body first) else []) _
        (where_all (is_shown predicate seen (is_empty items) (mean result (Some first) body >>= boolean)) (gap_lines body seen ++ lines_on_item number (body_lines result body first)) []
        (λ shown. gap_looks seen (seen.items == 0) (lines_on_item number (body_lines result body first)) (refl, numbered number (with_own result (Some first) body (earlier_lines result (Some first) body)) (of first))) tt)
        (all_if_value LooksAsItIs (mean result (Some first) body >>= boolean) _
        (λ it is. where_all (continues predicate it) _ [] (λ more. each_looks (after_item predicate seen it) (suc number) items) tt))

  -- ---- trees

  mutual
    looks : (here : Option Value) (tree : Typed) → Look (earlier_lines result here tree)
    looks here typed.result = tt
    looks here typed.item = tt
    looks here (typed.literal literal) = tt
    looks here (typed.field owner name) = part_looks here owner (looks here owner)
    looks here (typed.unary operator operand) = operand_looks here operator operand (looks here operand)
    looks here (typed.binary operator left right) =
        all_of_two LooksAsItIs (with_own result here left (earlier_lines result here left)) _ (part_looks here left (looks here left))
        (all_if_value LooksAsItIs (mean result here left) _ (λ value is. part_looks here right (looks here right)))
    looks here (typed.both left right) =
        all_of_two LooksAsItIs (with_own result here left (earlier_lines result here left)) _ (part_looks here left (looks here left))
        (all_if_value LooksAsItIs (mean result here left >>= boolean) _
        (λ holds is. where_all holds _ (unneeded_line right ∷ []) (λ true_is. part_looks here right (looks here right)) (refl, tt)))
    looks here (typed.either left right) =
        all_of_two LooksAsItIs (with_own result here left (earlier_lines result here left)) _ (part_looks here left (looks here left))
        (all_if_value LooksAsItIs (mean result here left >>= boolean) _
        (λ holds is. where_all holds (unneeded_line right ∷ []) _ (λ true_is. (refl, tt)) (part_looks here right (looks here right))))
    looks here (typed.choice condition then_branch else_branch) =
        all_of_two LooksAsItIs (with_own result here condition (earlier_lines result here condition)) _ (part_looks here condition (looks here condition))
        (all_if_value LooksAsItIs (mean result here condition >>= boolean) _
        (λ holds is. where_all holds _ (unneeded_line then_branch ∷ with_own result here else_branch (earlier_lines result here else_branch))
        (λ true_is. all_of_two LooksAsItIs (with_own result here then_branch (earlier_lines result here then_branch)) (unneeded_line else_branch ∷ []) (part_looks here then_branch (looks here then_branch)) (refl, tt))
        (refl, part_looks here else_branch (looks here else_branch))))
    looks here (typed.listed scalar items) = items_look here items
    looks here (typed.predicate predicate many body) =
        all_of_two LooksAsItIs (with_own result here many (earlier_lines result here many)) _ (part_looks here many (looks here many))
        (all_if_value LooksAsItIs (mean result here many >>= items_in) _
        (λ values is. each_looks predicate body (λ value. part_looks (Some value) body (looks (Some value) body)) none_seen 0 values))

    items_look : (here : Option Value) (items : Typeds) → Look (items_lines result here items)
    items_look here typed.none = tt
    items_look here (typed.more first others) =
        all_of_two LooksAsItIs (with_own result here first (earlier_lines result here first)) _ (part_looks here first (looks here first))
        (all_if_value LooksAsItIs (mean result here first >>= scalar_item) _ (λ value is. items_look here others))

pub lines_look : LinesLookAsTheyAre
lines_look result here tree = All-from_recursion LooksAsItIs (earlier_lines result here tree) (looks result here tree)
