-- Histories that grow by one number.
use Rattle.std.proofs.Common.{◌≡◌, ◌≢◌, ◌<◌, ◌≤◌, ℕ, zero, suc, ◌+◌, List, [], ◌∷◌, ◌++◌, length, Some, refl, sym, ◌∙◌, ap, subst, arith, take}
use Rattle.std.specs.Prelude.{slice_get, slice_set, slice_index_or}
use Rattle.std.proofs.Math.Seq.{take-suc}
use Rattle.std.proofs.lemmas.List.{map_push}
use Rattle.std.proofs.lemmas.Option.{slice_get_read, slice_get_within}
use Rattle.ar_limits.proofs.RunLemmas.{effects-push}
use Rattle.ar_limits.specs.Replay.{ForEachReplay, Replays, Standing}
use Rattle.ar_limits.specs.Run.{effect_of, effects}
use Rattle.ar_limits.specs.declared.event.Effect.{Effect}
use Rattle.ar_limits.specs.declared.event.Event.{Event}
use Rattle.ar_limits.specs.declared.limits.Limits.{Limits}
use Rattle.ar_bundle.specs.Sound.{IsBundle, IsRun}
use Rattle.ar_bundle.specs.Bundle.{Bundle, events_of, finding_at, happened, run_at}
use Rattle.ar_bundle.proofs.Bundles.{entry_at, of_each}
use Rattle.ar_limits.specs.Metric.{HasPositiveCounts}
use Rattle.ar_limits.specs.Prefixes.{with_earlier}
use Rattle.ar_bundle.specs.Lawful.{IsFound, numbers_of}
use Rattle.ar_bundle.specs.declared.bundle.RunPart.{RunPart}
use Rattle.ar_bundle.specs.declared.finding.Finding.{Finding}
use Rattle.ar_bundle.specs.declared.history.Entry.{Entry}
use Rattle.ar_bundle.specs.Growing.{AreGrown, IsGrown, below}
use Rattle.ar_bundle.proofs.HistoryLemmas.{all_push, events_push, few_happen}
use Rattle.ar_bundle.proofs.Below.{few, other_is, own_is}

entry_of : ℕ → Finding → Effect → Entry
entry_of number finding effect = record { number = number; finding = finding; effect = effect }

-- the run's own number is added to its history
pub grown_by : (bundle : Bundle) (upto run : ℕ) (limits : List Limits) (state after : Standing) (history : List Entry) (finding : Finding) (event : Event) (effect : Effect) → run_at bundle upto ≡ Some run → finding_at bundle upto ≡ Some finding → happened bundle upto ≡ Some event
    → IsGrown bundle upto run limits state history → Replays limits (events_of bundle (below bundle run upto) ++ event ∷ []) after → effect ≡ effect_of limits (events_of bundle (below bundle run upto)) event
    → IsGrown bundle (suc upto) run limits after (history ++ record { number = upto; finding = finding; effect = effect } ∷ [])
grown_by bundle upto run limits state after history finding event effect own is happens grown replays does =
    let entry : Entry = record { number = upto; finding = finding; effect = effect } in
    let pushed : numbers_of (history ++ entry ∷ []) ≡ numbers_of history ++ upto ∷ [] = map_push (λ (entry : Entry). entry.number) history entry in
    let numbers : numbers_of (history ++ entry ∷ []) ≡ below bundle run (suc upto) = pushed ∙ (ap (λ numbers. numbers ++ upto ∷ []) grown.numbers ∙ sym (own_is bundle run upto own)) in
    let events : events_of bundle (numbers_of (history ++ entry ∷ [])) ≡ events_of bundle (numbers_of history) ++ event ∷ [] = ap (events_of bundle) pushed ∙ events_push bundle (numbers_of history) upto event happens in
    let before : events_of bundle (numbers_of history) ≡ events_of bundle (below bundle run upto) = ap (events_of bundle) grown.numbers in
    let last : effect ≡ effect_of limits (events_of bundle (numbers_of history)) event = does ∙ ap (λ events. effect_of limits events event) (sym before) in
    record {
      numbers = numbers;
      lawful = record {
        found = all_push (IsFound bundle run) history entry grown.lawful.found (record { own = own; finding = is });
        effects = map_push (λ (entry : Entry). entry.effect) history entry ∙ (ap (λ all. all ++ effect ∷ []) grown.lawful.effects
            ∙ (ap (λ effect. effects limits (events_of bundle (numbers_of history)) ++ effect ∷ []) last
            ∙ (sym (effects-push limits (events_of bundle (numbers_of history)) event) ∙ ap (effects limits) (sym events))));
      };
      replays = subst (λ events. Replays limits events after) (sym (ap (events_of bundle) (own_is bundle run upto own) ∙ events_push bundle (below bundle run upto) upto event happens)) replays;
    }

-- another run's number doesn't
pub left_out : (bundle : Bundle) (upto run own : ℕ) (limits : List Limits) (state : Standing) (history : List Entry) → run_at bundle upto ≡ Some own → own ≢ run → IsGrown bundle upto run limits state history → IsGrown bundle (suc upto) run limits state history
left_out bundle upto run own limits state history is away grown =
    let same = other_is bundle run upto own is away in
    record {
      numbers = grown.numbers ∙ sym same;
      lawful = grown.lawful;
      replays = subst (λ numbers. Replays limits (events_of bundle numbers) state) (sym same) grown.replays;
    }

all_left_out : (bundle : Bundle) (upto from own : ℕ) (runs : List RunPart) (states : List Standing) (histories : List (List Entry)) → run_at bundle upto ≡ Some own → own < from → AreGrown bundle upto from runs states histories → AreGrown bundle (suc upto) from runs states histories
all_left_out bundle upto from own [] [] [] is lower grown = tt
all_left_out bundle upto from own (run ∷ runs) (state ∷ states) (history ∷ histories) is lower grown =
    (left_out bundle upto from own run.limits state history is (λ same. absurd (omega arith)) grown.0, all_left_out bundle upto (suc from) own runs states histories is (omega arith) grown.1)
all_left_out bundle upto from own [] [] (history ∷ histories) is lower grown = absurd grown
all_left_out bundle upto from own [] (state ∷ states) histories is lower grown = absurd grown
all_left_out bundle upto from own (run ∷ runs) [] histories is lower grown = absurd grown
all_left_out bundle upto from own (run ∷ runs) (state ∷ states) [] is lower grown = absurd grown

-- the state of a run, and its history
pub record Keeps (bundle : Bundle) (upto run : ℕ) (limits : List Limits) (states : List Standing) (histories : List (List Entry)) (place : ℕ) : Type 0 where
  pub state : Standing
  pub state_there : slice_get states place ≡ Some state
  pub history : List Entry
  pub history_there : slice_get histories place ≡ Some history
  pub grown : IsGrown bundle upto run limits state history

pub kept : (bundle : Bundle) (upto from place : ℕ) (part : RunPart) (runs : List RunPart) (states : List Standing) (histories : List (List Entry)) → AreGrown bundle upto from runs states histories → slice_get runs place ≡ Some part → Keeps bundle upto (from + place) part.limits states histories place
kept bundle upto from place part [] [] [] grown there = absurd cc
kept bundle upto from zero part (run ∷ runs) (state ∷ states) (history ∷ histories) grown there =
    let same : run ≡ part = cc in
    let here : from ≡ from + zero = omega arith in
    record { state = state; state_there = refl; history = history; history_there = refl; grown = subst (λ run. IsGrown bundle upto run part.limits state history) here (subst (λ (part : RunPart). IsGrown bundle upto from part.limits state history) same grown.0) }
kept bundle upto from (suc place) part (run ∷ runs) (state ∷ states) (history ∷ histories) grown there =
    let next : suc from + place ≡ from + suc place = omega arith in
    let later = kept bundle upto (suc from) place part runs states histories grown.1 there in
    record { state = later.state; state_there = later.state_there; history = later.history; history_there = later.history_there; grown = subst (λ run. IsGrown bundle upto run part.limits later.state later.history) next later.grown }
kept bundle upto from place part [] [] (history ∷ histories) grown there = absurd grown
kept bundle upto from place part [] (state ∷ states) histories grown there = absurd grown
kept bundle upto from place part (run ∷ runs) [] histories grown there = absurd grown
kept bundle upto from place part (run ∷ runs) (state ∷ states) [] grown there = absurd grown

-- one run's history grows, and the others stay
pub all_grown : (bundle : Bundle) (upto from place : ℕ) (part : RunPart) (runs : List RunPart) (states : List Standing) (histories : List (List Entry)) (after : Standing) (longer : List Entry) → AreGrown bundle upto from runs states histories → slice_get runs place ≡ Some part
    → run_at bundle upto ≡ Some (from + place) → IsGrown bundle (suc upto) (from + place) part.limits after longer → AreGrown bundle (suc upto) from runs (slice_set states place after) (slice_set histories place longer)
all_grown bundle upto from place part [] [] [] after longer grown there own grows = absurd cc
all_grown bundle upto from zero part (run ∷ runs) (state ∷ states) (history ∷ histories) after longer grown there own grows =
    let same : run ≡ part = cc in
    let here : from + zero ≡ from = omega arith in
    (subst (λ (part : RunPart). IsGrown bundle (suc upto) from part.limits after longer) (sym same) (subst (λ run. IsGrown bundle (suc upto) run part.limits after longer) here grows), all_left_out bundle upto (suc from) from runs states histories (own ∙ ap Some here) (omega arith) grown.1)
all_grown bundle upto from (suc place) part (run ∷ runs) (state ∷ states) (history ∷ histories) after longer grown there own grows =
    let next : from + suc place ≡ suc from + place = omega arith in (
      left_out bundle upto from (from + suc place) run.limits state history own (λ same. absurd (omega arith)) grown.0,
      all_grown bundle upto (suc from) place part runs states histories after longer grown.1 there (own ∙ ap Some next) (subst (λ run. IsGrown bundle (suc upto) run part.limits after longer) next grows),
    )
all_grown bundle upto from place part [] [] (history ∷ histories) after longer grown there own grows = absurd grown
all_grown bundle upto from place part [] (state ∷ states) histories after longer grown there own grows = absurd grown
all_grown bundle upto from place part (run ∷ runs) [] histories after longer grown there own grows = absurd grown
all_grown bundle upto from place part (run ∷ runs) (state ∷ states) [] after longer grown there own grows = absurd grown

-- ---- reading a run

pub counted : (bundle : Bundle) (upto run : ℕ) (limits : List Limits) (state : Standing) (history : List Entry) → IsGrown bundle upto run limits state history → state.handed ≤ upto
counted bundle upto run limits state history grown =
    let handed = grown.replays.handed_is in
    let some = few_happen bundle (below bundle run upto) in
    let most = few bundle run upto in
    omega arith

pub standing_read : {A : Type 0} (xs : List A) (place : ℕ) (x read : A) → slice_get xs place ≡ Some x → read ≡ slice_index_or xs place read → x ≡ read
standing_read xs place x read there is =
    let inside = slice_get_within xs place x there in
    let same : slice_get xs place ≡ Some read = slice_get_read xs (length xs) place read refl inside is in
    cc

-- what is known of the run of the next number
pub record Next (bundle : Bundle) (number run : ℕ) (states : List Standing) (histories : List (List Entry)) : Type 0 where
  pub part : RunPart
  pub part_there : slice_get bundle.runs run ≡ Some part
  pub state_inside : run < length states
  pub history_inside : run < length histories
  pub room : (state : Standing) → state ≡ slice_index_or states run state → state.handed ≤ number
  pub metrics : (state : Standing) → state ≡ slice_index_or states run state → length state.limits ≡ length bundle.metrics
  pub keeps : Keeps bundle number run part.limits states histories run

-- what is known of the run of the next number
pub next_of : (bundle : Bundle) (number run : ℕ) (states : List Standing) (histories : List (List Entry)) → IsBundle bundle → AreGrown bundle number 0 bundle.runs states histories → run < length bundle.runs → Next bundle number run states histories
next_of bundle number run states histories is grown inside =
    let part = entry_at bundle.runs run inside in
    let start : 0 + run ≡ run = omega arith in
    let keeps = subst (λ run_is. Keeps bundle number run_is part.0.limits states histories run) start (kept bundle number 0 run part.0 bundle.runs states histories grown part.1) in
    let of_run = of_each (IsRun bundle.metrics) bundle.runs run part.0 is.runs part.1 in
    record {
      part = part.0;
      part_there = part.1;
      state_inside = slice_get_within states run keeps.state keeps.state_there;
      history_inside = slice_get_within histories run keeps.history keeps.history_there;
      room = λ state read. subst (λ (state : Standing). state.handed ≤ number) (standing_read states run keeps.state state keeps.state_there read) (counted bundle number run part.0.limits keeps.state keeps.history keeps.grown);
      metrics = λ state read. subst (λ (state : Standing). length state.limits ≡ length bundle.metrics) (standing_read states run keeps.state state keeps.state_there read) (ap length keeps.grown.replays.limits_are ∙ of_run.limits);
      keeps = keeps;
    }

-- the number is applied to its run
pub applied : (bundle : Bundle) (number run : ℕ) (states : List Standing) (histories : List (List Entry)) (state after : Standing) (history longer : List Entry) (finding : Finding) (event : Event) (effect : Effect) → AreGrown bundle number 0 bundle.runs states histories → Next bundle number run states histories
    → run_at bundle number ≡ Some run → finding_at bundle number ≡ Some finding → happened bundle number ≡ Some event → state ≡ slice_index_or states run state → history ≡ slice_index_or histories run history
    → ForEachReplay state (λ limits events. Replays limits (events ++ event ∷ []) after) → ForEachReplay state (λ limits events. effect ≡ effect_of limits events event) → longer ≡ history ++ record { number = number; finding = finding; effect = effect } ∷ []
    → AreGrown bundle (suc number) 0 bundle.runs (slice_set states run after) (slice_set histories run longer)
applied bundle number run states histories state after history longer finding event effect grown next own is happens state_read history_read replays does longer_is =
    let part = next.part in
    let keeps = next.keeps in
    let same_state = standing_read states run keeps.state state keeps.state_there state_read in
    let same_history = standing_read histories run keeps.history history keeps.history_there history_read in
    let is_grown : IsGrown bundle number run part.limits state history = subst (λ history. IsGrown bundle number run part.limits state history) same_history (subst (λ state. IsGrown bundle number run part.limits state keeps.history) same_state keeps.grown) in
    let before = events_of bundle (below bundle run number) in
    let grows = grown_by bundle number run part.limits state after history finding event effect own is happens is_grown (replays part.limits before is_grown.replays) (does part.limits before is_grown.replays) in
    let start : run ≡ 0 + run = omega arith in
    all_grown bundle number 0 run part bundle.runs states histories after longer grown next.part_there (own ∙ ap Some start)
    (subst (λ run. IsGrown bundle (suc number) run part.limits after longer) start (subst (λ longer. IsGrown bundle (suc number) run part.limits after longer) (sym longer_is) grows))

-- ---- runs to which nothing has happened

no_effects : (limits : List Limits) → effects limits [] ≡ []
unfolding effects with_earlier
no_effects limits = refl

opened : (bundle : Bundle) (run : ℕ) (limits : List Limits) (state : Standing) → Replays limits [] state → IsGrown bundle zero run limits state []
opened bundle run limits state replays = record { numbers = refl; lawful = record { found = tt; effects = sym (no_effects limits) }; replays = replays }

one_more : (bundle : Bundle) (from : ℕ) (runs : List RunPart) (states : List Standing) (histories : List (List Entry)) (run : RunPart) (state : Standing) → AreGrown bundle zero from runs states histories → Replays run.limits [] state → AreGrown bundle zero from (runs ++ run ∷ []) (states ++ state ∷ []) (histories ++ [] ∷ [])
one_more bundle from [] [] [] run state grown replays = (opened bundle from run.limits state replays, tt)
one_more bundle from (first ∷ runs) (other ∷ states) (history ∷ histories) run state grown replays = (grown.0, one_more bundle (suc from) runs states histories run state grown.1 replays)
one_more bundle from [] [] (history ∷ histories) run state grown replays = absurd grown
one_more bundle from [] (other ∷ states) histories run state grown replays = absurd grown
one_more bundle from (first ∷ runs) [] histories run state grown replays = absurd grown
one_more bundle from (first ∷ runs) (other ∷ states) [] run state grown replays = absurd grown

pub positive : (bundle : Bundle) (place : ℕ) (run : RunPart) → IsBundle bundle → place < length bundle.runs → run ≡ slice_index_or bundle.runs place run → HasPositiveCounts run.limits
positive bundle place run is inside read = (of_each (IsRun bundle.metrics) bundle.runs place run is.runs (slice_get_read bundle.runs (length bundle.runs) place run refl inside read)).counts

-- one run more, to which nothing has happened
pub opened_next : (bundle : Bundle) (parts : List RunPart) (place : ℕ) (run : RunPart) (states : List Standing) (histories : List (List Entry)) (state : Standing) (history : List Entry) → place < length parts → run ≡ slice_index_or parts place run → AreGrown bundle zero 0 (take place parts) states histories → Replays run.limits [] state → history ≡ []
    → AreGrown bundle zero 0 (take (suc place) parts) (states ++ state ∷ []) (histories ++ history ∷ [])
opened_next bundle parts place run states histories state history inside read grown replays empty =
    let longer : take (suc place) parts ≡ take place parts ++ run ∷ [] = take-suc parts place run inside ∙ ap (λ run. take place parts ++ run ∷ []) (sym read) in
    subst (λ runs. AreGrown bundle zero 0 runs (states ++ state ∷ []) (histories ++ history ∷ [])) (sym longer)
    (subst (λ history. AreGrown bundle zero 0 (take place parts ++ run ∷ []) (states ++ state ∷ []) (histories ++ history ∷ [])) (sym empty) (one_more bundle 0 (take place parts) states histories run state grown replays))
