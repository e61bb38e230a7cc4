-- Items of a list literal, one after another.
use Rattle.std.proofs.Common.{◌≡◌, ℕ, ◌+◌, Bool, true, false, List, [], ◌∷◌, ◌++◌, length, map, Option, Result, Ok, Err, refl, ◌∙◌, ap, arith, append-nil}
use Rattle.std.proofs.lemmas.List.{append_assoc, map-append}
use Rattle.ar_value.specs.Answer.{◌>>=◌, Unless}
use Rattle.ar_value.specs.Shape.{Shape}
use Rattle.ar_tree.specs.Expression.{Expression, Expressions, none, more, expressions, offset_of}
use Rattle.ar_tree.specs.Views.{expression_of}
use Rattle.ar_tree.specs.declared.tree.Tree.{Tree}
use Rattle.ar_check.specs.Check.{Item, item_of, item_typed, items_typed, typed_of}
use Rattle.ar_check.specs.Operand.{Operand}
use Rattle.ar_check.specs.Private.Inside.{item_view}
use Rattle.ar_check.specs.declared.error.TypeError.{TypeError}
use Rattle.ar_check.specs.declared.list.Item.{Item as ItemCode}

-- one item less is left
pub len_next : {A : Type 0} (n m : ℕ) (left others : List A) (first : A) → n ≡ length left → left ≡ first ∷ others → m + 1 ≡ n → m ≡ length others
len_next n m left others first h e less = let all : n ≡ length (first ∷ others) = h ∙ ap length e in omega arith

module _ (result : Shape) (item : Option Shape) (around : ℕ) where
  -- items that are typed come before those that are left
  pub later : List Item → Expressions → Result (List Item) TypeError
  later done left = items_typed result item around left >>= λ items. Ok (done ++ items)

  none_before : (answer : Result (List Item) TypeError) → answer ≡ (answer >>= λ items. Ok ([] ++ items))
  none_before (Ok items) = refl
  none_before (Err error) = refl

  -- at first all are left
  pub all_left : (left : Expressions) → items_typed result item around left ≡ later [] left
  unfolding later
  all_left left = none_before (items_typed result item around left)

  joined : (done : List Item) (found : Item) (answer : Result (List Item) TypeError)
      → ((answer >>= λ items. Ok (found ∷ items)) >>= λ items. Ok (done ++ items)) ≡ (answer >>= λ items. Ok ((done ++ found ∷ []) ++ items))
  joined done found (Ok items) = rw (append_assoc done (found ∷ []) items) refl
  joined done found (Err error) = refl

  by_operand : (done : List Item) (first : Expression) (others : Expressions) (found : Item) (operand : Result Operand TypeError) → typed_of result item around first ≡ operand
      → (operand >>= λ operand. Ok (item_of (offset_of first) operand)) ≡ Ok found → later done (more first others) ≡ later (done ++ found ∷ []) others
  unfolding later
  by_operand done first others found (Ok operand) e given =
      let same : item_of (offset_of first) operand ≡ found = cc in
      rw (e, same) (joined done found (items_typed result item around others))
  by_operand done first others found (Err error) e given = absurd cc

  next : (done : List Item) (first : Expression) (others : Expressions) (found : Item) → item_typed result item around first ≡ Ok found
      → later done (more first others) ≡ later (done ++ found ∷ []) others
  next done first others found given = by_operand done first others found (typed_of result item around first) refl given

  -- an item that is typed comes after those that are
  pub next_left : (all : Result (List Item) TypeError) (done : List ItemCode) (left others : List Tree) (first : Tree) (found : ItemCode)
      → all ≡ later (map item_view done) (expressions (map expression_of left)) → left ≡ first ∷ others
      → item_typed result item around (expression_of first) ≡ Ok (item_view found)
      → all ≡ later (map item_view (done ++ found ∷ [])) (expressions (map expression_of others))
  next_left all done left others first found h e given =
      rw (map-append item_view done (found ∷ []))
      ((rw e at h) ∙ next (map item_view done) (expression_of first) (expressions (map expression_of others)) (item_view found) given)

  by_fault : (done : List Item) (first : Expression) (others : Expressions) (error : TypeError) (operand : Result Operand TypeError) → typed_of result item around first ≡ operand
      → (operand >>= λ operand. Ok (item_of (offset_of first) operand)) ≡ Err error → later done (more first others) ≡ Err error
  unfolding later
  by_fault done first others error (Ok operand) e given = absurd cc
  by_fault done first others error (Err other) e given = rw e (let same : other ≡ error = cc in rw same refl)

  -- the first fault stays
  pub fails : (all : Result (List Item) TypeError) (done : List ItemCode) (left others : List Tree) (first : Tree) (error : TypeError)
      → all ≡ later (map item_view done) (expressions (map expression_of left)) → left ≡ first ∷ others
      → item_typed result item around (expression_of first) ≡ Err error → all ≡ Err error
  fails all done left others first error h e given =
      (rw e at h) ∙ by_fault (map item_view done) (expression_of first) (expressions (map expression_of others)) error (typed_of result item around (expression_of first)) refl given

  -- so it does unless memory ran out
  pub fails_unless : (memory : Bool) (all : Result (List Item) TypeError) (done : List ItemCode) (left others : List Tree) (first : Tree) (error : TypeError)
      → all ≡ later (map item_view done) (expressions (map expression_of left)) → left ≡ first ∷ others
      → Unless memory (item_typed result item around (expression_of first) ≡ Err error) → Unless memory (all ≡ Err error)
  fails_unless true all done left others first error h e given = tt
  fails_unless false all done left others first error h e given = fails all done left others first error h e given

  pub none_left : (done : List Item) → later done none ≡ Ok done
  unfolding later
  none_left done = rw (append-nil done) refl

  -- at last all are typed
  pub ended : (all : Result (List Item) TypeError) (done : List ItemCode) (left : List Tree) (n : ℕ) → all ≡ later (map item_view done) (expressions (map expression_of left))
      → n ≡ length left → n ≡ 0 → all ≡ Ok (map item_view done)
  ended all done [] n h e empty = h ∙ none_left (map item_view done)
  ended all done (first ∷ others) n h e empty = absurd (cc)
