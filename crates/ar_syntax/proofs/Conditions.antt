-- The tree of tokens is the grammar's, and so is their refusal.
use Rattle.std.proofs.Common.{◌≡◌, ℕ, Bool, true, false, List, [], ◌∷◌, ◌++◌, refl, sym, ◌∙◌, ap, subst, Option, Some, None}
use Rattle.ar_tree.specs.Expression.{Expression}
use Rattle.ar_syntax.specs.Machine.{ParserState}
use Rattle.ar_syntax.specs.declared.token.Token.{Token}
use Rattle.std.specs.Prelude.{nat_le}
use Rattle.ar_syntax.specs.Machine.{parser_step}
use Rattle.ar_syntax.specs.Machine.{finished, start_state, step_from}
use Rattle.std.specs.Prelude.{nat_le}
use Rattle.std.proofs.Common.{append_assoc}
use Rattle.ar_syntax.specs.Machine.{finished_from, reached}
use Rattle.ar_syntax.proofs.OneTree.{DerivesBy-from_tree_by, tree_by-DerivesBy}
use Rattle.ar_syntax.specs.Fault.{accepts}
use Rattle.ar_syntax.proofs.Completions.{BeginsBy-reached, reached-BeginsBy, run-append}
use Rattle.ar_syntax.specs.Fault.{fault_of}
use Rattle.ar_syntax.specs.Condition.{Derives, at_any_depth, depth, most_depth, of_any_count, of_any_items, strict}
use Rattle.ar_syntax.specs.Refusal.{BeginsCondition, IsInside, IsNamedAfter, AreRefused, IsRefusedAfter, WantsOperand, has_no_comma, is_comma}
use Rattle.ar_syntax.specs.Refusal as refusal
use Rattle.ar_syntax.specs.declared.error.SyntaxError.{SyntaxError}
use Rattle.ar_syntax.specs.declared.error.SyntaxError.TheVariants.{Unexpected, TooDeep}
use Rattle.std.proofs.Common.{Result, Ok, Err}
use Rattle.std.proofs.lemmas.List.{append-nil}
use Rattle.ar_value.specs.Answer.{◌>>=◌}
use Rattle.ar_syntax.specs.Parse.{tree_at_end, limited, state_after, tree_of, walk}
use Rattle.ar_syntax.proofs.Refusals.{accepted, accepts-some, begins-accepts, is-refused, one-name}
use Rattle.ar_syntax.proofs.OneTree.{one_tree_by}

-- ---- at most one refusal

module _ {A : Type 0} where
  -- two ways to take an element out of a list
  pub data IsSplit (first : List A) (x : A) (second : List A) (y : A) : Type 0 where
    same : first ≡ second → x ≡ y → IsSplit first x second y
    shorter : (more : List A) → second ≡ first ++ x ∷ more → IsSplit first x second y
    longer : (more : List A) → first ≡ second ++ y ∷ more → IsSplit first x second y

  split-cons : (z : A) (first : List A) (x : A) (second : List A) (y : A) → IsSplit first x second y → IsSplit (z ∷ first) x (z ∷ second) y
  split-cons z first x second y (same lists elements) = same (ap (λ (zs : List A). z ∷ zs) lists) elements
  split-cons z first x second y (shorter more e) = shorter more (ap (λ (zs : List A). z ∷ zs) e)
  split-cons z first x second y (longer more e) = longer more (ap (λ (zs : List A). z ∷ zs) e)

  split : (first : List A) (x : A) (xs second : List A) (y : A) (ys : List A) → first ++ x ∷ xs ≡ second ++ y ∷ ys → IsSplit first x second y
  split [] x xs [] y ys e = same refl cc
  split [] x xs (z ∷ second) y ys e = let head : x ≡ z = cc in shorter second (ap (λ (w : A). w ∷ second) (sym head))
  split (z ∷ first) x xs [] y ys e = let head : z ≡ y = cc in longer first (ap (λ (w : A). w ∷ first) head)
  split (z ∷ first) x xs (w ∷ second) y ys e =
      let head : z ≡ w = cc in
      let tail : first ++ x ∷ xs ≡ second ++ y ∷ ys = cc in
      subst (λ (v : A). IsSplit (z ∷ first) x (v ∷ second) y) head (split-cons z first x second y (split first x xs second y ys tail))

-- what begins a condition does so from its first token on
BeginsCondition-front : (before : List Token) (token : Token) (more : List Token) → BeginsCondition (before ++ token ∷ more) → BeginsCondition (before ++ token ∷ [])
BeginsCondition-front before token more begins =
    (more ++ begins.0, begins.1, subst (λ (tokens : List Token). Derives tokens begins.1) (append_assoc before (token ∷ more) begins.0 ∙ sym (append_assoc before (token ∷ []) (more ++ begins.0))) begins.2)

reached-from : (tokens : List Token) → BeginsCondition tokens → (state : ParserState) × (reached strict tokens ≡ Some state)
reached-from tokens begins = accepted (reached strict tokens) (accepts-some (reached strict tokens) (reached-BeginsBy strict tokens begins))

one_refusal_after : (before : List Token) (token : Token) (first second : SyntaxError) → BeginsCondition before → IsRefusedAfter before token first → IsRefusedAfter before token second → first ≡ second
one_refusal_after before token first second begins why why' =
    let there = reached-from before begins in
    one-name before there.0 there.1 token first why ∙ sym (one-name before there.0 there.1 token second why')

one_refusal-split : (before : List Token) (token : Token) (first : SyntaxError) (before' : List Token) (token' : Token) (second : SyntaxError)
    → BeginsCondition before → ¬ BeginsCondition (before ++ token ∷ []) → IsRefusedAfter before token first
    → BeginsCondition before' → ¬ BeginsCondition (before' ++ token' ∷ []) → IsRefusedAfter before' token' second
    → IsSplit before token before' token' → first ≡ second
one_refusal-split before token first before' token' second begins stops why begins' stops' why' (same lists elements) =
    one_refusal_after before' token' first second begins' (subst (λ (t : Token). IsRefusedAfter before' t first) elements (subst (λ (b : List Token). IsRefusedAfter b token first) lists why)) why'
one_refusal-split before token first before' token' second begins stops why begins' stops' why' (shorter more e) = absurd (stops (BeginsCondition-front before token more (subst BeginsCondition e begins')))
one_refusal-split before token first before' token' second begins stops why begins' stops' why' (longer more e) = absurd (stops' (BeginsCondition-front before' token' more (subst BeginsCondition e begins)))

BeginsCondition-whole : (tokens before : List Token) (token : Token) (rest : List Token) → tokens ≡ before ++ token ∷ rest → BeginsCondition tokens → BeginsCondition (before ++ token ∷ [])
BeginsCondition-whole tokens before token rest are begins = BeginsCondition-front before token rest (subst BeginsCondition are begins)

begins-derived : (tokens : List Token) (tree : Expression) → Derives tokens tree → BeginsCondition tokens
begins-derived tokens tree derived = ([], tree, subst (λ (ts : List Token). Derives ts tree) (sym (append-nil tokens)) derived)

pub one_refusal : (end : ℕ) (tokens : List Token) (first second : SyntaxError) → AreRefused end tokens first → AreRefused end tokens second → first ≡ second
one_refusal end tokens first second (refusal.at_token before token rest are begins stops why) (refusal.at_token before' token' rest' are' begins' stops' why') =
    one_refusal-split before token first before' token' second begins stops why begins' stops' why' (split before token rest before' token' rest' (sym are ∙ are'))
one_refusal end tokens first second (refusal.at_token before token rest are begins stops why) (refusal.at_end begins' none) = absurd (stops (BeginsCondition-whole tokens before token rest are begins'))
one_refusal end tokens first second (refusal.at_end begins' none) (refusal.at_token before token rest are begins stops why) = absurd (stops (BeginsCondition-whole tokens before token rest are begins'))
one_refusal end tokens first second (refusal.at_end begins none) (refusal.at_end begins' none') = refl
one_refusal end tokens first second (refusal.at_depth tree derived deep) (refusal.at_depth tree' derived' deep') = refl
one_refusal end tokens first second (refusal.at_depth tree derived deep) (refusal.at_end begins none) = absurd (none tree derived)
one_refusal end tokens first second (refusal.at_end begins none) (refusal.at_depth tree derived deep) = absurd (none tree derived)
one_refusal end tokens first second (refusal.at_depth tree derived deep) (refusal.at_token before token rest are begins stops why) = absurd (stops (BeginsCondition-whole tokens before token rest are (begins-derived tokens tree derived)))
one_refusal end tokens first second (refusal.at_token before token rest are begins stops why) (refusal.at_depth tree derived deep) = absurd (stops (BeginsCondition-whole tokens before token rest are (begins-derived tokens tree derived)))

-- refused tokens are no condition
pub no_tree-refused : (end : ℕ) (tokens : List Token) (error : SyntaxError) (tree : Expression) → AreRefused end tokens error → Derives tokens tree → nat_le (depth tree) most_depth ≡ false
no_tree-refused end tokens error tree (refusal.at_token before token rest are begins stops why) derived = absurd (stops (BeginsCondition-whole tokens before token rest are (begins-derived tokens tree derived)))
no_tree-refused end tokens error tree (refusal.at_end begins none) derived = absurd (none tree derived)
no_tree-refused end tokens error tree (refusal.at_depth deep_tree derived' deep) derived =
    let same : deep_tree ≡ tree = one_tree_by strict tokens deep_tree tree derived' derived in ap (λ (t : Expression). nat_le (depth t) most_depth) (sym same) ∙ deep

-- ---- the tree of tokens, or their refusal

pub data IsWalked (end : ℕ) (tokens : List Token) (answer : Result Expression SyntaxError) : Type 0 where
  has_tree : (tree : Expression) → Derives tokens tree → nat_le (depth tree) most_depth ≡ true → answer ≡ Ok tree → IsWalked end tokens answer
  has_refusal : (error : SyntaxError) → AreRefused end tokens error → answer ≡ Err error → IsWalked end tokens answer

module _ (end : ℕ) where
  walked-limited : (tokens : List Token) (tree : Expression) (b : Bool) → nat_le (depth tree) most_depth ≡ b → Derives tokens tree → IsWalked end tokens (limited tree)
  walked-limited tokens tree true shallow derived = has_tree tree derived shallow (rw shallow refl)
  walked-limited tokens tree false deep derived = has_refusal (TooDeep 0) (refusal.at_depth tree derived deep) (rw deep refl)

  walked-end : (tokens : List Token) (state : ParserState) → reached strict tokens ≡ Some state → (tree : Option Expression) → finished state ≡ tree → IsWalked end tokens (tree_at_end end tree)
  walked-end tokens state there (Some tree) e = walked-limited tokens tree (nat_le (depth tree) most_depth) refl (DerivesBy-from_tree_by strict tree tokens (ap finished_from there ∙ e))
  walked-end tokens state there None e =
      has_refusal (Unexpected end) (refusal.at_end (BeginsBy-reached strict tokens state there) (λ tree derived. let f = tree_by-DerivesBy strict tree tokens derived in let g = ap finished_from there in absurd cc)) refl

  walked : (tokens before : List Token) (state : ParserState) → reached strict before ≡ Some state → IsWalked end (before ++ tokens) (walk end state tokens)
  walked [] before state there = subst (λ (all : List Token). IsWalked end all (walk end state [])) (sym (append-nil before)) (walked-end before state there (finished state) refl)
  walked (c ∷ tokens) before state there = stepped-by (parser_step strict state c) refl (λ next is. subst (λ (all : List Token). IsWalked end all (walk end next tokens)) (append_assoc before (c ∷ []) tokens) (walked tokens (before ++ c ∷ []) next (run-append strict (Some start_state) before (c ∷ []) ∙ ap (λ (s : Option ParserState). step_from strict s c) there ∙ is)))
    where
      stepped-by : (next : Option ParserState) → parser_step strict state c ≡ next → ((s : ParserState) → parser_step strict state c ≡ Some s → IsWalked end (before ++ c ∷ tokens) (walk end s tokens)) → IsWalked end (before ++ c ∷ tokens) (state_after state c next >>= λ next. walk end next tokens)
      stepped-by (Some next) is go = go next is
      stepped-by None is go =
          has_refusal (fault_of state c) (refusal.at_token before c tokens refl (BeginsBy-reached strict before state there) (λ begins. let taken = begins-accepts strict before state there c begins in let stops = ap accepts is in absurd cc) (is-refused before state there c)) refl

  pub tried : (tokens : List Token) → IsWalked end tokens (tree_of end tokens)
  unfolding tree_of
  tried tokens = walked tokens [] start_state refl

-- ---- what follows

tree-chosen : (end : ℕ) (tokens : List Token) (answer : Result Expression SyntaxError) (tree : Expression) → IsWalked end tokens answer → answer ≡ Ok tree → Derives tokens tree × (nat_le (depth tree) most_depth ≡ true)
tree-chosen end tokens answer tree (has_tree other derived shallow is) e = let same : other ≡ tree = cc in (subst (Derives tokens) same derived, ap (λ (t : Expression). nat_le (depth t) most_depth) (sym same) ∙ shallow)
tree-chosen end tokens answer tree (has_refusal error why is) e = absurd cc

refusal-chosen : (end : ℕ) (tokens : List Token) (answer : Result Expression SyntaxError) (error : SyntaxError) → IsWalked end tokens answer → answer ≡ Err error → AreRefused end tokens error
refusal-chosen end tokens answer error (has_tree tree derived shallow is) e = absurd cc
refusal-chosen end tokens answer error (has_refusal other why is) e = let same : other ≡ error = cc in subst (AreRefused end tokens) same why

derived-chosen : (end : ℕ) (tokens : List Token) (answer : Result Expression SyntaxError) (tree : Expression) → IsWalked end tokens answer → Derives tokens tree → nat_le (depth tree) most_depth ≡ true → answer ≡ Ok tree
derived-chosen end tokens answer tree (has_tree other derived' shallow' is) derived shallow = is ∙ ap (λ (t : Expression). Ok t) (one_tree_by strict tokens other tree derived' derived)
derived-chosen end tokens answer tree (has_refusal error why is) derived shallow = let deep = no_tree-refused end tokens error tree why derived in absurd cc

refused-chosen : (end : ℕ) (tokens : List Token) (answer : Result Expression SyntaxError) (error : SyntaxError) → IsWalked end tokens answer → AreRefused end tokens error → answer ≡ Err error
refused-chosen end tokens answer error (has_tree tree derived shallow is) why = let deep = no_tree-refused end tokens error tree why derived in absurd cc
refused-chosen end tokens answer error (has_refusal other why' is) why = is ∙ ap (λ (e : SyntaxError). Err e) (one_refusal end tokens other error why' why)

module _ (end : ℕ) (tokens : List Token) where
  pub Derives-from_tree_of : (tree : Expression) → tree_of end tokens ≡ Ok tree → Derives tokens tree × (nat_le (depth tree) most_depth ≡ true)
  Derives-from_tree_of tree e = tree-chosen end tokens (tree_of end tokens) tree (tried end tokens) e

  pub IsRefused-from_tree_of : (error : SyntaxError) → tree_of end tokens ≡ Err error → AreRefused end tokens error
  IsRefused-from_tree_of error e = refusal-chosen end tokens (tree_of end tokens) error (tried end tokens) e

  pub tree_of-Derives : (tree : Expression) → Derives tokens tree → nat_le (depth tree) most_depth ≡ true → tree_of end tokens ≡ Ok tree
  tree_of-Derives tree derived shallow = derived-chosen end tokens (tree_of end tokens) tree (tried end tokens) derived shallow

  pub tree_of-IsRefused : (error : SyntaxError) → AreRefused end tokens error → tree_of end tokens ≡ Err error
  tree_of-IsRefused error why = refused-chosen end tokens (tree_of end tokens) error (tried end tokens) why
