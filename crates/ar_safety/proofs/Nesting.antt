-- Passes that found nothing, and what the passes 2 and 3 say of loops: which loops hold an index, how that changes from
-- an index to the next one and along a jump.
use Rattle.std.proofs.Common.{◌≡◌, ℕ, zero, suc, ◌+◌, ◌<◌, ◌≤◌, Bool, true, false, ◌&&◌, List, [], ◌∷◌, length, Option, Some, None, Result, Ok, refl, sym, ap, subst, ◌∙◌, inl, inr, arith}
use Rattle.std.specs.Prelude.{nat_le, nat_lt, ◌==◌, slice_get}
use Rattle.std.proofs.lemmas.Bool.{eqb-true, leb-true, ltb-true, le-leb, lt-leb}
use Rattle.std.proofs.lemmas.Bool.Decides.{leb_tells}
use Rattle.ar_value.specs.declared.operator.Predicate.{Predicate}
use Rattle.ar_value.specs.Predicates.{is_same}
use Rattle.ar_value.proofs.Predicates.{same_predicate}
use Rattle.ar_value.specs.Limits.{most_loops}
use Rattle.ar_op.specs.Machine.{begins_loop}
use Rattle.ar_op.specs.declared.op.Op.{Op}
use Rattle.ar_op.specs.declared.op.Op.TheVariants.{Jump, Enter, Step}
use Rattle.ar_safety.specs.Budget.{JumpsTo}
use Rattle.ar_safety.specs.Indices.{Pass, all_pass, ends_loop, forward, fault_or, loops_around, loops_among, in_innermost, inside_code, names_well, nests_well, or_else, loop_reaches, same_loops, stays, unless}
use Rattle.ar_safety.specs.declared.error.Cause.{Cause}
use Rattle.ar_safety.specs.declared.error.Reason.{Reason}

-- ---- tests

pub both : (a b : Bool) → (a && b) ≡ true → (a ≡ true) × (b ≡ true)
both true b h = (refl, h)
both false b h = absurd cc

pub alike : (a b : Bool) → (a ≡ true → b ≡ true) → (b ≡ true → a ≡ true) → a ≡ b
alike true b to back = sym (to refl)
alike false true to back = back refl
alike false false to back = refl

not_true : (a : Bool) → (a ≡ true → ⊥) → a ≡ false
not_true true no_way = absurd (no_way refl)
not_true false no_way = refl

pub the_same_loops : (one other : List ℕ) → same_loops one other ≡ true → one ≡ other
the_same_loops [] [] h = refl
the_same_loops [] (enter ∷ others) h = absurd cc
the_same_loops (enter ∷ others) [] h = absurd cc
the_same_loops (enter ∷ others) (first ∷ rest) h =
    let parts = both (enter == first) (same_loops others rest) h in
    let heads : enter ≡ first = eqb-true enter first parts.0 in
    let tails : others ≡ rest = the_same_loops others rest parts.1 in
    cc

pub none_of_both : (first later : Option Reason) → or_else first later ≡ None → (first ≡ None) × (later ≡ None)
none_of_both None later h = (refl, h)
none_of_both (Some reason) later h = absurd cc

pub no_reason : (holds : Bool) (reason : Reason) → unless holds reason ≡ None → holds ≡ true
no_reason true reason h = refl
no_reason false reason h = absurd cc

-- ---- a pass that found nothing found nothing at each operation, and back

pub found_nothing : (index : ℕ) (fault : Option Reason) (later : Result (Unit {0}) Cause) → fault_or index fault later ≡ Ok tt → (fault ≡ None) × (later ≡ Ok tt)
found_nothing index None later h = (refl, h)
found_nothing index (Some reason) later h = absurd cc

passes_from : (pass : Pass) (from : ℕ) (ops : List Op) → all_pass pass from ops ≡ Ok tt → (n : ℕ) (op : Op) → slice_get ops n ≡ Some op → pass (from + n) op ≡ None
passes_from pass from [] h n op there = absurd cc
passes_from pass from (first ∷ ops) h zero op there =
    let here = found_nothing from (pass from first) (all_pass pass (suc from) ops) h in
    let same : first ≡ op = cc in
    let start : from + 0 ≡ from = omega arith in
    rw (start, ← same) here.0
passes_from pass from (first ∷ ops) h (suc n) op there =
    let here = found_nothing from (pass from first) (all_pass pass (suc from) ops) h in
    let further : from + suc n ≡ suc from + n = omega arith in
    rw further (passes_from pass (suc from) ops here.1 n op there)

pub passes_each : (pass : Pass) (ops : List Op) → all_pass pass 0 ops ≡ Ok tt → (index : ℕ) (op : Op) → slice_get ops index ≡ Some op → pass index op ≡ None
passes_each pass ops h index op there =
    let start : 0 + index ≡ index = omega arith in
    rw start at (passes_from pass 0 ops h index op there)

all_pass_from : (pass : Pass) (from : ℕ) (ops : List Op) → ((n : ℕ) (op : Op) → slice_get ops n ≡ Some op → pass (from + n) op ≡ None) → all_pass pass from ops ≡ Ok tt
all_pass_from pass from [] each = refl
all_pass_from pass from (first ∷ ops) each =
    let start : from + 0 ≡ from = omega arith in
    let here : pass from first ≡ None = rw start at (each 0 first refl) in
    let others : all_pass pass (suc from) ops ≡ Ok tt = all_pass_from pass (suc from) ops (λ n op there. let further : suc from + n ≡ from + suc n = omega arith in rw further (each (suc n) op there)) in
    rw (here, others) refl

pub all_pass_each : (pass : Pass) (ops : List Op) → ((index : ℕ) (op : Op) → slice_get ops index ≡ Some op → pass index op ≡ None) → all_pass pass 0 ops ≡ Ok tt
all_pass_each pass ops each = all_pass_from pass 0 ops (λ n op there. let start : 0 + n ≡ n = omega arith in rw start (each n op there))

-- ---- Enters and Steps, where pass 2 found nothing

pub is_below : (ops : List Op) (index : ℕ) (op : Op) → slice_get ops index ≡ Some op → index < length ops
is_below [] index op there = absurd cc
is_below (first ∷ ops) zero op there = omega arith
is_below (first ∷ ops) (suc n) op there = let others = is_below ops n op there in omega (arith, others)

pub is_ahead : (ops : List Op) (index named : ℕ) → forward ops index named ≡ None → (index < named) × (named < length ops)
is_ahead ops index named h =
    let parts = none_of_both (inside_code ops named) (unless (nat_lt index named) _) h in
    (ltb-true index named (no_reason (nat_lt index named) _ parts.1), ltb-true named (length ops) (no_reason (nat_lt named (length ops)) _ parts.0))

the_step : (predicate : Predicate) (enter : ℕ) (op : Option Op) → ends_loop predicate enter op ≡ true → op ≡ Some (Step predicate enter)
the_step predicate enter (Some (Step of index)) h =
    let parts = both (is_same predicate of) (index == enter) h in
    let families : predicate ≡ of = same_predicate predicate of parts.0 in
    let indices : index ≡ enter = eqb-true index enter parts.1 in
    cc
the_step predicate enter op h = absurd cc

the_enter : (predicate : Predicate) (step : ℕ) (op : Option Op) → begins_loop predicate step op ≡ true → op ≡ Some (Enter predicate step)
the_enter predicate step (Some (Enter of index)) h =
    let parts = both (is_same predicate of) (index == step) h in
    let families : predicate ≡ of = same_predicate predicate of parts.0 in
    let indices : index ≡ step = eqb-true index step parts.1 in
    cc
the_enter predicate step op h = absurd cc

-- the Enter of a loop that reaches `index`
pub reaching : (op : Option Op) (index : ℕ) → loop_reaches op index ≡ true → (predicate : Predicate) × (step : ℕ) × (op ≡ Some (Enter predicate step)) × (index ≤ step)
reaching (Some (Enter predicate step)) index h = (predicate, step, refl, leb-true index step h)
reaching op index h = absurd cc

pub reaches_less : (op : Option Op) (index before : ℕ) → before ≤ index → loop_reaches op index ≡ true → loop_reaches op before ≡ true
reaches_less op index before less h =
    let r = reaching op index h in
    let is = r.2 in
    let far = r.3 in
    rw is (le-leb before r.1 (omega arith))

-- neither begins nor ends a loop
abbrev pub IsNoLoop : Op → Type 0
IsNoLoop (Enter predicate step) = ⊥
IsNoLoop (Step predicate enter) = ⊥
IsNoLoop op = Unit {0}

-- ---- which loops hold an index

module _ (ops : List Op) where
  pub holding_alike : (index other : ℕ) (k : ℕ) → ((enter : ℕ) → enter < k → loop_reaches (slice_get ops enter) index ≡ loop_reaches (slice_get ops enter) other) → loops_among ops index k ≡ loops_among ops other k
  holding_alike index other zero same = refl
  holding_alike index other (suc k) same =
      let here : loop_reaches (slice_get ops k) index ≡ loop_reaches (slice_get ops k) other = same k (omega arith) in
      let others : loops_among ops index k ≡ loops_among ops other k = holding_alike index other k (λ enter below. same enter (omega arith)) in
      rw (here, others) refl

  none_after : (index from k : ℕ) → from ≤ k → ((enter : ℕ) → from ≤ enter → enter < k → loop_reaches (slice_get ops enter) index ≡ false) → loops_among ops index k ≡ loops_among ops index from
  none_after index from zero le none = let same : from ≡ 0 = omega arith in rw same refl
  none_after index from (suc k) le none =
      elim (leb_tells from k) [
        | inl w ↦ let here : loop_reaches (slice_get ops k) index ≡ false = none k w.1 (omega arith) in
            rw here (none_after index from k w.1 (λ enter later below. none enter later (omega arith)))
        | inr w ↦ let same : from ≡ suc k = omega (arith, w.1) in rw same refl
      ]

-- ---- where pass 2 found nothing

module _ (ops : List Op) (paired : (index : ℕ) (op : Op) → slice_get ops index ≡ Some op → names_well ops index op ≡ None) where
  -- an Enter names its Step, and a Step its Enter
  pub enter_pairs : (predicate : Predicate) (enter step : ℕ) → slice_get ops enter ≡ Some (Enter predicate step) → (enter < step) × (slice_get ops step ≡ Some (Step predicate enter))
  enter_pairs predicate enter step there =
      let parts = none_of_both (forward ops enter step) (unless (ends_loop predicate enter (slice_get ops step)) _) (paired enter (Enter predicate step) there) in
      let ahead = is_ahead ops enter step parts.0 in
      (ahead.0, the_step predicate enter (slice_get ops step) (no_reason (ends_loop predicate enter (slice_get ops step)) _ parts.1))

  pub step_pairs : (predicate : Predicate) (step enter : ℕ) → slice_get ops step ≡ Some (Step predicate enter) → (enter < step) × (slice_get ops enter ≡ Some (Enter predicate step))
  step_pairs predicate step enter there =
      let parts = none_of_both (inside_code ops enter) (unless (nat_lt enter step && begins_loop predicate step (slice_get ops enter)) _) (paired step (Step predicate enter) there) in
      let tests = both (nat_lt enter step) (begins_loop predicate step (slice_get ops enter)) (no_reason (nat_lt enter step && begins_loop predicate step (slice_get ops enter)) _ parts.1) in
      (ltb-true enter step tests.0, the_enter predicate step (slice_get ops enter) tests.1)

  -- after `index` are the loops that held it, except the one that ends there
  pub held_further : (index enter : ℕ) → ((predicate : Predicate) → slice_get ops index ≡ Some (Step predicate enter) → ⊥) → loop_reaches (slice_get ops enter) (suc index) ≡ loop_reaches (slice_get ops enter) index
  held_further index enter no_end =
      alike (loop_reaches (slice_get ops enter) (suc index)) (loop_reaches (slice_get ops enter) index)
      (λ h. reaches_less (slice_get ops enter) (suc index) index (omega arith) h)
      (λ h.
      let r = reaching (slice_get ops enter) index h in
      let is = r.2 in
      let far = r.3 in
      let not_there : index ≡ r.1 → ⊥ = λ same. no_end r.0 (ap (slice_get ops) same ∙ (enter_pairs r.0 enter r.1 r.2).1) in
      rw is (le-leb (suc index) r.1 (omega arith)))

  no_enter : (op : Op) (index : ℕ) → IsNoLoop op → loop_reaches (Some op) index ≡ false
  no_enter (Enter predicate step) index plain = absurd plain
  no_enter op index plain = refl

  -- an operation that is no Enter and no Step leaves the loops as they are
  pub stays_around : (index : ℕ) (op : Op) → slice_get ops index ≡ Some op → IsNoLoop op → loops_around ops (suc index) ≡ loops_around ops index
  stays_around index op there plain =
      let none : loop_reaches (slice_get ops index) (suc index) ≡ false = rw there (no_enter op (suc index) plain) in
      let same : loops_among ops (suc index) index ≡ loops_among ops index index =
      holding_alike ops (suc index) index index (λ enter below. held_further index enter (λ predicate is. let step : op ≡ Step predicate enter = cc in subst IsNoLoop step plain)) in
      rw none same

  -- a loop begins after its Enter
  pub begins : (predicate : Predicate) (enter step : ℕ) → slice_get ops enter ≡ Some (Enter predicate step) → loops_around ops (suc enter) ≡ enter ∷ loops_around ops enter
  begins predicate enter step there =
      let pair = enter_pairs predicate enter step there in
      let ahead = pair.0 in
      let itself : loop_reaches (slice_get ops enter) (suc enter) ≡ true = rw there (le-leb (suc enter) step (omega arith)) in
      let same : loops_among ops (suc enter) enter ≡ loops_among ops enter enter =
      holding_alike ops (suc enter) enter enter (λ other below. held_further enter other (λ other_predicate is. absurd cc)) in
      rw (itself, same) refl

  -- ---- where pass 3 found nothing at the first indexes

  -- whoever holds `index` reaches what the innermost holder reaches, if that is so of the indexes before
  pub inner_first : (index step : ℕ)
      → ((inner : ℕ) → inner < index → (predicate : Predicate) (end : ℕ) → slice_get ops inner ≡ Some (Enter predicate end) → (outer : ℕ) → outer < inner → loop_reaches (slice_get ops outer) inner ≡ true → loop_reaches (slice_get ops outer) end ≡ true)
      → (k : ℕ) → k ≤ index → in_innermost ops (loops_among ops index k) step ≡ true → (outer : ℕ) → outer < k → loop_reaches (slice_get ops outer) index ≡ true → loop_reaches (slice_get ops outer) step ≡ true
  inner_first index step nested zero le inside_it outer below holds = absurd (omega arith)
  inner_first index step nested (suc k) le inside_it outer below holds =
      let further : (in_innermost ops (loops_among ops index k) step ≡ true → outer < k → loop_reaches (slice_get ops outer) step ≡ true) = λ inside_others less. inner_first index step nested k (omega arith) inside_others outer less holds in
      by_test (loop_reaches (slice_get ops k) index) refl further
    where
      by_test : (test : Bool) → loop_reaches (slice_get ops k) index ≡ test → (in_innermost ops (loops_among ops index k) step ≡ true → outer < k → loop_reaches (slice_get ops outer) step ≡ true) → loop_reaches (slice_get ops outer) step ≡ true
      by_test true is further =
          let ends_inside : loop_reaches (slice_get ops k) step ≡ true = rw is at inside_it in
          let inner = reaching (slice_get ops k) step ends_inside in
          let far = inner.3 in
          elim (leb_tells k outer) [
            | inl w ↦ let same : k ≡ outer = omega (arith, w.1) in subst (λ enter. loop_reaches (slice_get ops enter) step ≡ true) same ends_inside
            | inr w ↦
                let holds_inner : loop_reaches (slice_get ops outer) k ≡ true = reaches_less (slice_get ops outer) index k (omega arith) holds in
                let holds_end : loop_reaches (slice_get ops outer) inner.1 ≡ true = nested k (omega arith) inner.0 inner.1 inner.2 outer w.1 holds_inner in
                reaches_less (slice_get ops outer) inner.1 step far holds_end
          ]
      by_test false is further =
          let others : in_innermost ops (loops_among ops index k) step ≡ true = rw is at inside_it in
          elim (leb_tells k outer) [
            | inl w ↦ let same : k ≡ outer = omega (arith, w.1) in absurd (let clash : loop_reaches (slice_get ops k) index ≡ true = subst (λ enter. loop_reaches (slice_get ops enter) index ≡ true) (sym same) holds in cc)
            | inr w ↦ further others w.1
          ]

  -- what follows requires that of Enters alone
  module _ (n : ℕ) (nested : (enter step : ℕ) (predicate : Predicate) → enter < n → slice_get ops enter ≡ Some (Enter predicate step) → nests_well ops enter (Enter predicate step) ≡ None) where
    inside_innermost : (predicate : Predicate) (enter step : ℕ) → enter < n → slice_get ops enter ≡ Some (Enter predicate step) → in_innermost ops (loops_around ops enter) step ≡ true
    inside_innermost predicate enter step before there =
        let parts = none_of_both (unless (nat_le (length (loops_around ops (suc enter))) most_loops) _) (unless (in_innermost ops (loops_around ops enter) step) _) (nested enter step predicate before there) in
        no_reason (in_innermost ops (loops_around ops enter) step) _ parts.1

    lies_within_by : (fuel enter : ℕ) → enter < fuel → enter < n → (predicate : Predicate) (step : ℕ) → slice_get ops enter ≡ Some (Enter predicate step) → (outer : ℕ) → outer < enter → loop_reaches (slice_get ops outer) enter ≡ true → loop_reaches (slice_get ops outer) step ≡ true
    lies_within_by zero enter fueled before predicate step there = absurd (omega arith)
    lies_within_by (suc fuel) enter fueled before predicate step there =
        inner_first enter step (λ inner less other_predicate end is. lies_within_by fuel inner (omega arith) (omega arith) other_predicate end is) enter (omega arith) (inside_innermost predicate enter step before there)

    -- a loop that holds an Enter holds its Step too
    pub lies_within : (predicate : Predicate) (enter step : ℕ) → enter < n → slice_get ops enter ≡ Some (Enter predicate step) → (outer : ℕ) → outer < enter → loop_reaches (slice_get ops outer) enter ≡ true → loop_reaches (slice_get ops outer) step ≡ true
    lies_within predicate enter step before there = lies_within_by (suc enter) enter (omega arith) before predicate step there

    -- at a Step, no loop that began after its Enter is still open, and those around are the same as at the Enter
    none_inside : (predicate : Predicate) (enter step : ℕ) → slice_get ops step ≡ Some (Step predicate enter) → step ≤ n → (inner : ℕ) → suc enter ≤ inner → inner < step → loop_reaches (slice_get ops inner) step ≡ false
    none_inside predicate enter step there le inner later below = not_true (loop_reaches (slice_get ops inner) step) (λ h.
        let itself = step_pairs predicate step enter there in
        let r = reaching (slice_get ops inner) step h in
        let far = r.3 in
        let other = enter_pairs r.0 inner r.1 r.2 in
        let outer_holds : loop_reaches (slice_get ops enter) inner ≡ true = rw itself.1 (le-leb inner step (omega arith)) in
        let outer_ends : loop_reaches (slice_get ops enter) r.1 ≡ true = lies_within r.0 inner r.1 (omega arith) r.2 enter (omega arith) outer_holds in
        let bound : nat_le r.1 step ≡ true = rw itself.1 at outer_ends in
        let not_later : r.1 ≤ step = leb-true r.1 step bound in
        let same : r.1 ≡ step = omega arith in
        let two_steps : slice_get ops step ≡ Some (Step r.0 inner) = ap (slice_get ops) (sym same) ∙ other.1 in
        let same_enter : inner ≡ enter = cc in
        omega arith)

    same_around : (predicate : Predicate) (enter step : ℕ) → slice_get ops step ≡ Some (Step predicate enter) → step ≤ n → (outer : ℕ) → outer < enter → loop_reaches (slice_get ops outer) step ≡ loop_reaches (slice_get ops outer) enter
    same_around predicate enter step there le outer below =
        let itself = step_pairs predicate step enter there in
        let ahead = itself.0 in
        alike (loop_reaches (slice_get ops outer) step) (loop_reaches (slice_get ops outer) enter)
        (λ h. reaches_less (slice_get ops outer) step enter (omega arith) h)
        (λ h. lies_within predicate enter step (omega arith) itself.1 outer below h)

    -- the innermost loop at a Step is the Step's own
    pub innermost_at_step : (predicate : Predicate) (step enter : ℕ) → slice_get ops step ≡ Some (Step predicate enter) → step ≤ n → loops_around ops step ≡ enter ∷ loops_around ops enter
    innermost_at_step predicate step enter there le =
        let itself = step_pairs predicate step enter there in
        let ahead = itself.0 in
        let down : loops_among ops step step ≡ loops_among ops step (suc enter) = none_after ops step (suc enter) step (omega arith) (none_inside predicate enter step there le) in
        let own : loop_reaches (slice_get ops enter) step ≡ true = rw itself.1 (le-leb step step (omega arith)) in
        let around : loops_among ops step enter ≡ loops_among ops enter enter = holding_alike ops step enter enter (same_around predicate enter step there le) in
        rw (down, own, around) refl

    -- after a Step its loop has ended
    pub after_step : (predicate : Predicate) (step enter : ℕ) → slice_get ops step ≡ Some (Step predicate enter) → step ≤ n → loops_around ops (suc step) ≡ loops_around ops enter
    after_step predicate step enter there le =
        let itself = step_pairs predicate step enter there in
        let ahead = itself.0 in
        let other : (outer : ℕ) → (outer ≡ enter → ⊥) → loop_reaches (slice_get ops outer) (suc step) ≡ loop_reaches (slice_get ops outer) step = λ outer differs. held_further step outer (λ family is. differs (let same : outer ≡ enter = cc in same)) in
        let not_step : loop_reaches (slice_get ops step) (suc step) ≡ false = rw there refl in
        let own : loop_reaches (slice_get ops enter) (suc step) ≡ false = rw itself.1 (lt-leb (suc step) step (omega arith)) in
        let down : loops_among ops (suc step) step ≡ loops_among ops (suc step) (suc enter) =
        none_after ops (suc step) (suc enter) step (omega arith) (λ inner later below. other inner (λ same. omega arith) ∙ none_inside predicate enter step there le inner later below) in
        let around : loops_among ops (suc step) enter ≡ loops_among ops enter enter =
        holding_alike ops (suc step) enter enter (λ outer below. other outer (λ same. omega arith) ∙ same_around predicate enter step there le outer below) in
        rw (not_step, down, own, around) refl

    pub after_enter : (predicate : Predicate) (enter step : ℕ) → slice_get ops enter ≡ Some (Enter predicate step) → step ≤ n → (loops_around ops (suc step) ≡ loops_around ops enter) × (slice_get ops step ≡ Some (Step predicate enter))
    after_enter predicate enter step there le =
        let pair = enter_pairs predicate enter step there in
        (after_step predicate step enter pair.1 le, pair.1)

  -- a jump is forward, to an index inside that the same loops hold
  stays_by : (index target named : ℕ) → named ≡ target → forward ops index named ≡ None → stays ops index named ≡ None → (index < target) × (target < length ops) × (loops_around ops index ≡ loops_around ops target)
  stays_by index target named is ahead stay =
      let bounds = is_ahead ops index named ahead in
      let same : loops_around ops index ≡ loops_around ops named = the_same_loops (loops_around ops index) (loops_around ops named) (no_reason (same_loops (loops_around ops index) (loops_around ops named)) _ stay) in
      subst (λ p. (index < p) × (p < length ops) × (loops_around ops index ≡ loops_around ops p)) is (bounds.0, bounds.1, same)

  pub same_target : (index target : ℕ) (op : Op) → JumpsTo op target → slice_get ops index ≡ Some op → nests_well ops index op ≡ None → (index < target) × (target < length ops) × (loops_around ops index ≡ loops_around ops target)
  same_target index target (Jump jump named) jumps there nested = stays_by index target named jumps (paired index (Jump jump named) there) nested
  same_target index target op jumps there nested = absurd jumps
