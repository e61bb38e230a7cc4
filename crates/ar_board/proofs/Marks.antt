-- Which numbers have a receipt that isn't met.
use Rattle.std.proofs.Common.{◌≡◌, ◌≢◌, ◌<◌, ◌≤◌, ℕ, zero, suc, ◌+◌, Bool, true, false, List, [], ◌∷◌, ◌++◌, length, map, set, take, get_or, replicate, Option, Some, None, refl, sym, ◌∙◌, ap, subst, arith, ⊎_elim}
use Rattle.std.specs.Prelude.{IfSome, slice_get, slice_index_or}
use Rattle.std.specs.List.{AllByRecursion}
use Rattle.std.proofs.lemmas.List.{length-replicate, length-set, map_push, take_more}
use Rattle.std.proofs.lemmas.Option.{slice_get_read, slice_get_within}
use Rattle.ar_value.specs.Limits.{most_runs}
use Rattle.ar_bundle.specs.Sound.{IsBundle}
use Rattle.ar_bundle.specs.Bundle.{Bundle, run_at}
use Rattle.ar_bundle.specs.declared.history.Entry.{Entry}
use Rattle.ar_board.specs.Receipts.{IsLater, IsMet}
use Rattle.ar_board.specs.Lost.{IsUnmet}
use Rattle.ar_board.specs.Private.Closing.{AreAllMarked, AreLast, AreMarked, AreMet, AreOwn, IsAt, IsAfter, IsLast, IsLaterOf, LastOf, MarkedAmong, MarkedAs}
use Rattle.ar_board.specs.declared.cell.receipt.Receipt.{Receipt}
use Rattle.ar_bundle.proofs.Bundles.{run_of_number}
use Rattle.ar_bundle.proofs.HistoryLemmas.{all_push}
use Rattle.ar_bundle.proofs.Room.{number_inside}
use Rattle.ar_board.proofs.Cells.{cases_at}
use Rattle.ar_bundle.proofs.HistoryLemmas.{pushed_at}
use Rattle.ar_board.proofs.Seats.{at_before, at_last}

-- ---- lists

pub of_all : {A : Type 0} (P : A → Type 0) (xs : List A) (at : ℕ) (x : A) → AllByRecursion P xs → slice_get xs at ≡ Some x → P x
of_all P [] at x all there = absurd cc
of_all P (first ∷ xs) zero x all there = let same : first ≡ x = cc in subst P same all.0
of_all P (first ∷ xs) (suc at) x all there = of_all P xs at x all.1 there

take_before : {A : Type 0} (xs : List A) (last : A) (at : ℕ) → at ≤ length xs → take at (xs ++ last ∷ []) ≡ take at xs
take_before xs last zero inside = refl
take_before [] last (suc at) inside = absurd (omega arith)
take_before (first ∷ xs) last (suc at) inside = ap (λ (rest : List _). first ∷ rest) (take_before xs last at (omega arith))

pub take_whole : {A : Type 0} (xs : List A) → take (length xs) xs ≡ xs
take_whole [] = refl
take_whole (first ∷ xs) = ap (λ (rest : List _). first ∷ rest) (take_whole xs)

pub take_next : {A : Type 0} (xs : List A) (at : ℕ) (x : A) → at < length xs → x ≡ slice_index_or xs at x → take (at + 1) xs ≡ take at xs ++ x ∷ []
take_next xs at x inside read = take_more xs at x inside ∙ ap (λ (last : _). take at xs ++ last ∷ []) (sym read)

replicated : {A : Type 0} (many at : ℕ) (x y : A) → slice_get (replicate many x) at ≡ Some y → x ≡ y
replicated zero at x y there = absurd cc
replicated (suc many) zero x y there = cc
replicated (suc many) (suc at) x y there = replicated many at x y there

-- what is read of a list inside it doesn't depend on what is read outside
pub same_read : {A : Type 0} (xs : List A) (at : ℕ) (d e : A) → at < length xs → slice_index_or xs at d ≡ slice_index_or xs at e
same_read [] at d e inside = absurd (omega arith)
same_read (first ∷ xs) zero d e inside = refl
same_read (first ∷ xs) (suc at) d e inside = same_read xs at d e (omega arith)

-- ---- a seat's receipts

own_at : (bundle : Bundle) (own : List Receipt) (at : ℕ) (receipt : Receipt) → AreOwn bundle own → at < length own → receipt ≡ slice_index_or own at receipt → run_at bundle receipt.number ≡ Some receipt.run
own_at bundle own at receipt are inside read = of_all (λ (receipt : Receipt). run_at bundle receipt.number ≡ Some receipt.run) own at receipt are (slice_get_read own (length own) at receipt refl inside read)

-- a receipt's number and run are there
pub number_there : (bundle : Bundle) (own : List Receipt) (at : ℕ) (receipt : Receipt) → AreOwn bundle own → at < length own → receipt ≡ slice_index_or own at receipt → receipt.number < length bundle.entries
number_there bundle own at receipt are inside read = number_inside bundle receipt.number receipt.run (own_at bundle own at receipt are inside read)

pub run_there : (bundle : Bundle) (own : List Receipt) (at : ℕ) (receipt : Receipt) → IsBundle bundle → AreOwn bundle own → at < length own → receipt ≡ slice_index_or own at receipt → receipt.run < length bundle.runs
run_there bundle own at receipt is are inside read =
    let own_run = own_at bundle own at receipt are inside read in
    let found = run_of_number bundle receipt.number is (number_inside bundle receipt.number receipt.run own_run) in
    let same : found.0 ≡ receipt.run = (let both = sym found.1 ∙ own_run in cc) in
    subst (λ (run : ℕ). run < length bundle.runs) same found.2

-- ---- the last position of each run

pub last_first : (own : List Receipt) (last : List (Option ℕ)) → last ≡ replicate most_runs None → AreLast (take 0 own) last
last_first own last are =
    record {
      as_many = ap length are ∙ length-replicate {A = Option ℕ} most_runs None;
      each = λ run place there.
          let none : None ≡ place = replicated most_runs run None place (subst (λ (last : List (Option ℕ)). slice_get last run ≡ Some place) are there) in
          subst (LastOf [] run) none tt;
    }

-- after one receipt more: of another run, or of the run
other_last : (earlier : List Receipt) (receipt : Receipt) (run : ℕ) (place : Option ℕ) → run ≢ receipt.run → LastOf earlier run place → LastOf (earlier ++ receipt ∷ []) run place
other_last earlier receipt run None away before = all_push (λ (receipt : Receipt). receipt.run ≡ run → ⊥) earlier receipt before (λ same. away (sym same))
other_last earlier receipt run (Some last) away before =
    record {
      most = all_push (λ (receipt : Receipt). receipt.run ≡ run → receipt.place ≤ last) earlier receipt before.most (λ same. absurd (away (sym same)));
      at = before.at;
      receipt = before.receipt;
      there = at_before earlier receipt before.receipt before.at before.there;
      own = before.own;
      place = before.place;
    }

all_within : (earlier : List Receipt) (run : ℕ) (before : Option ℕ) (later : ℕ) → LastOf earlier run before → ((last : ℕ) → before ≡ Some last → last ≤ later) → AllByRecursion (λ (receipt : Receipt). receipt.run ≡ run → receipt.place ≤ later) earlier
all_within earlier run None later before below = none earlier before where
  none : (earlier : List Receipt) → AllByRecursion (λ (receipt : Receipt). receipt.run ≡ run → ⊥) earlier → AllByRecursion (λ (receipt : Receipt). receipt.run ≡ run → receipt.place ≤ later) earlier
  none [] all = tt
  none (receipt ∷ earlier) all = ((λ same. absurd (all.0 same)), none earlier all.1)
all_within earlier run (Some last) later before below = each earlier before.most where
  each : (earlier : List Receipt) → AllByRecursion (λ (receipt : Receipt). receipt.run ≡ run → receipt.place ≤ last) earlier → AllByRecursion (λ (receipt : Receipt). receipt.run ≡ run → receipt.place ≤ later) earlier
  each [] all = tt
  each (receipt ∷ earlier) all = ((λ same. let first = all.0 same in let most = below last refl in omega arith), each earlier all.1)

own_last : (earlier : List Receipt) (receipt : Receipt) (before : Option ℕ) (later : ℕ) → LastOf earlier receipt.run before → IsLaterOf before receipt.place later → LastOf (earlier ++ receipt ∷ []) receipt.run (Some later)
own_last earlier receipt before later is chosen = ⊎_elim at_place at_last_one chosen.one_of_them where
  below : (last : ℕ) → before ≡ Some last → last ≤ later
  below last same = by_last before same chosen.from_last where
    by_last : (before : Option ℕ) → before ≡ Some last → IfSome before (λ last. last ≤ later) → last ≤ later
    by_last None same most = absurd cc
    by_last (Some other) same most = let equal : other ≡ last = cc in subst (λ (last : ℕ). last ≤ later) equal most

  most : AllByRecursion (λ (other : Receipt). other.run ≡ receipt.run → other.place ≤ later) (earlier ++ receipt ∷ [])
  most = all_push (λ (other : Receipt). other.run ≡ receipt.run → other.place ≤ later) earlier receipt (all_within earlier receipt.run before later is below) (λ same. chosen.from_place)

  at_place : later ≡ receipt.place → LastOf (earlier ++ receipt ∷ []) receipt.run (Some later)
  at_place same = record { most = most; at = length earlier; receipt = receipt; there = at_last earlier receipt; own = refl; place = sym same }

  at_last_one : before ≡ Some later → LastOf (earlier ++ receipt ∷ []) receipt.run (Some later)
  at_last_one same =
      let was : IsLast earlier receipt.run later = subst (LastOf earlier receipt.run) same is in
      record { most = most; at = was.at; receipt = was.receipt; there = at_before earlier receipt was.receipt was.at was.there; own = was.own; place = was.place }

pub last_next : (own : List Receipt) (at : ℕ) (receipt : Receipt) (last : List (Option ℕ)) (before : Option ℕ) (later : ℕ) → at < length own → receipt ≡ slice_index_or own at receipt → receipt.run < length last → before ≡ get_or last receipt.run before → IsLaterOf before receipt.place later → AreLast (take at own) last
    → AreLast (take (at + 1) own) (set last receipt.run (Some later))
last_next own at receipt last before later inside read run_inside read_last chosen are =
    subst (λ (own : List Receipt). AreLast own (set last receipt.run (Some later))) (sym (take_next own at receipt inside read)) (record {
      as_many = length-set last receipt.run (Some later) ∙ are.as_many;
      each = λ run place there. cases_at (λ run place. LastOf (take at own ++ receipt ∷ []) run place) last receipt.run run (Some later) place run_inside
          (own_last (take at own) receipt before later (are.each receipt.run before (slice_get_read last (length last) receipt.run before refl run_inside read_last)) chosen)
          (λ place away was. other_last (take at own) receipt run place away (are.each run place was)) there;
    })

-- ---- whether a receipt is met

later_where : (earlier : List Receipt) (receipt : Receipt) (last : Option ℕ) → LastOf earlier receipt.run last → IsAfter last receipt.place → IsLater earlier receipt
later_where earlier receipt None is later = none earlier is where
  none : (earlier : List Receipt) → AllByRecursion (λ (other : Receipt). other.run ≡ receipt.run → ⊥) earlier → IsLater earlier receipt
  none [] all = tt
  none (other ∷ earlier) all = ((λ same. absurd (all.0 same)), none earlier all.1)
later_where earlier receipt (Some last) is later = each earlier is.most where
  each : (earlier : List Receipt) → AllByRecursion (λ (other : Receipt). other.run ≡ receipt.run → other.place ≤ last) earlier → IsLater earlier receipt
  each [] all = tt
  each (other ∷ earlier) all = ((λ same. let first = all.0 same in omega arith), each earlier all.1)

after_where : (earlier : List Receipt) (receipt : Receipt) (last : Option ℕ) → LastOf earlier receipt.run last → IsLater earlier receipt → IsAfter last receipt.place
after_where earlier receipt None is later = tt
after_where earlier receipt (Some last) is later =
    let below : is.receipt.place < receipt.place = of_all (λ (before : Receipt). before.run ≡ receipt.run → before.place < receipt.place) earlier is.at is.receipt later is.there is.own in
    let place = is.place in
    omega arith

-- ---- marks of one seat

pub marked_first : (histories : List (List Entry)) (own : List Receipt) (marks : List Bool) → AreMarked histories (take 0 own) marks marks
marked_first histories own marks =
    record { as_many = refl; each = λ number was is there there_too. by_mark number was is (let both = sym there ∙ there_too in cc) }
  where
    by_mark : (number : ℕ) (was is : Bool) → was ≡ is → MarkedAs histories [] number was is
    by_mark number true is same = sym same
    by_mark number false true same = absurd cc
    by_mark number false false same = λ at receipt there for_it. absurd cc

-- what was unmet stays so, and what was met as well, if the last one is
unmet_before : (histories : List (List Entry)) (earlier : List Receipt) (receipt : Receipt) (number : ℕ) → IsUnmet histories earlier number → IsUnmet histories (earlier ++ receipt ∷ []) number
unmet_before histories earlier receipt number is =
    let inside = slice_get_within earlier is.at is.receipt is.there in
    record {
      at = is.at;
      receipt = is.receipt;
      there = at_before earlier receipt is.receipt is.at is.there;
      for_it = is.for_it;
      unmet = λ met. is.unmet (subst (λ (before : List Receipt). IsMet histories before is.receipt) (take_before earlier receipt is.at (omega arith)) met);
    }

unmet_last : (histories : List (List Entry)) (earlier : List Receipt) (receipt : Receipt) → (IsMet histories earlier receipt → ⊥) → IsUnmet histories (earlier ++ receipt ∷ []) receipt.number
unmet_last histories earlier receipt unmet =
    let before : take (length earlier) (earlier ++ receipt ∷ []) ≡ earlier = take_before earlier receipt (length earlier) (omega arith) ∙ take_whole earlier in
    record {
      at = length earlier;
      receipt = receipt;
      there = at_last earlier receipt;
      for_it = refl;
      unmet = λ met. unmet (subst (λ (before : List Receipt). IsMet histories before receipt) before met);
    }

met_all : (histories : List (List Entry)) (earlier : List Receipt) (receipt : Receipt) (number : ℕ) → AreMet histories earlier number → (receipt.number ≡ number → IsMet histories earlier receipt) → AreMet histories (earlier ++ receipt ∷ []) number
met_all histories earlier receipt number before last at other there =
    pushed_at (λ at other. other.number ≡ number → IsMet histories (take at (earlier ++ receipt ∷ [])) other) earlier receipt at other
    (λ at other there for_it.
    let inside = slice_get_within earlier at other there in
    subst (λ (before : List Receipt). IsMet histories before other) (sym (take_before earlier receipt at (omega arith))) (before at other there for_it))
    (λ for_it. subst (λ (before : List Receipt). IsMet histories before receipt) (sym (take_before earlier receipt (length earlier) (omega arith) ∙ take_whole earlier)) (last for_it)) there

kept_mark : (histories : List (List Entry)) (earlier : List Receipt) (receipt : Receipt) (number : ℕ) (was is : Bool) → (receipt.number ≡ number → IsMet histories earlier receipt) → MarkedAs histories earlier number was is → MarkedAs histories (earlier ++ receipt ∷ []) number was is
kept_mark histories earlier receipt number true is last marked = marked
kept_mark histories earlier receipt number false true last marked = unmet_before histories earlier receipt number marked
kept_mark histories earlier receipt number false false last marked = met_all histories earlier receipt number marked last

new_mark : (histories : List (List Entry)) (earlier : List Receipt) (receipt : Receipt) (was : Bool) → (IsMet histories earlier receipt → ⊥) → MarkedAs histories (earlier ++ receipt ∷ []) receipt.number was true
new_mark histories earlier receipt true unmet = refl
new_mark histories earlier receipt false unmet = unmet_last histories earlier receipt unmet

pub marked_met : (histories : List (List Entry)) (own : List Receipt) (at : ℕ) (receipt : Receipt) (last : List (Option ℕ)) (so_far : Option ℕ) (before marks : List Bool) → at < length own → receipt ≡ slice_index_or own at receipt → receipt.run < length last → so_far ≡ get_or last receipt.run so_far → AreLast (take at own) last
    → IsAt histories receipt × IsAfter so_far receipt.place → AreMarked histories (take at own) before marks → AreMarked histories (take (at + 1) own) before marks
marked_met histories own at receipt last so_far before marks inside read run_inside read_last are met marked =
    let place = are.each receipt.run so_far (slice_get_read last (length last) receipt.run so_far refl run_inside read_last) in
    let is : IsMet histories (take at own) receipt = record { is_there = met.0; later = later_where (take at own) receipt so_far place met.1 } in
    subst (λ (own : List Receipt). AreMarked histories own before marks) (sym (take_next own at receipt inside read)) (record {
      as_many = marked.as_many;
      each = λ number was mark there there_too. kept_mark histories (take at own) receipt number was mark (λ for_it. is) (marked.each number was mark there there_too);
    })

pub marked_unmet : (histories : List (List Entry)) (own : List Receipt) (at : ℕ) (receipt : Receipt) (last : List (Option ℕ)) (so_far : Option ℕ) (before marks : List Bool) → at < length own → receipt ≡ slice_index_or own at receipt → receipt.run < length last → so_far ≡ get_or last receipt.run so_far → AreLast (take at own) last
    → (IsAt histories receipt × IsAfter so_far receipt.place → ⊥) → receipt.number < length marks → AreMarked histories (take at own) before marks → AreMarked histories (take (at + 1) own) before (set marks receipt.number true)
marked_unmet histories own at receipt last so_far before marks inside read run_inside read_last are unmet number_inside marked =
    let place = are.each receipt.run so_far (slice_get_read last (length last) receipt.run so_far refl run_inside read_last) in
    let is_not : IsMet histories (take at own) receipt → ⊥ = λ met. unmet (met.is_there, after_where (take at own) receipt so_far place met.later) in
    subst (λ (own : List Receipt). AreMarked histories own before (set marks receipt.number true)) (sym (take_next own at receipt inside read)) (record {
      as_many = length-set marks receipt.number true ∙ marked.as_many;
      each = λ number was mark there there_too.
          cases_at (λ number mark. (was : Bool) → slice_get before number ≡ Some was → MarkedAs histories (take at own ++ receipt ∷ []) number was mark) marks receipt.number number true mark number_inside
          (λ was there. new_mark histories (take at own) receipt was is_not)
          (λ mark away was_there was there. kept_mark histories (take at own) receipt number was mark (λ for_it. absurd (away (sym for_it))) (marked.each number was mark there was_there)) there_too was there;
    })

-- ---- marks of all seats

pub all_marked_first : (bundle : Bundle) (histories : List (List Entry)) (marks : List Bool) → marks ≡ replicate (length bundle.entries) false → AreAllMarked bundle histories [] marks
all_marked_first bundle histories marks are =
    record {
      as_many = ap length are ∙ length-replicate (length bundle.entries) false;
      each = λ number mark there.
          let none : false ≡ mark = replicated (length bundle.entries) number false mark (subst (λ (marks : List Bool). slice_get marks number ≡ Some mark) are there) in
          subst (MarkedAmong histories [] number) none tt;
    }

mark_at : (marks : List Bool) (number : ℕ) → number < length marks → (mark : Bool) × (slice_get marks number ≡ Some mark)
mark_at [] number inside = absurd (omega arith)
mark_at (mark ∷ marks) zero inside = (mark, refl)
mark_at (mark ∷ marks) (suc number) inside = mark_at marks number (omega arith)

among : (histories : List (List Entry)) (receipts : List (List Receipt)) (own : List Receipt) (number : ℕ) (was is : Bool) → MarkedAmong histories receipts number was → MarkedAs histories own number was is → MarkedAmong histories (receipts ++ own ∷ []) number is
among histories receipts own number true true before marked = record { seat = before.seat; own = before.own; there = at_before receipts own before.own before.seat before.there; unmet = before.unmet }
among histories receipts own number true false before marked = absurd cc
among histories receipts own number false true before marked = record { seat = length receipts; own = own; there = at_last receipts own; unmet = marked }
among histories receipts own number false false before marked = all_push (λ own. AreMet histories own number) receipts own before marked

pub all_marked_push : (bundle : Bundle) (histories : List (List Entry)) (receipts : List (List Receipt)) (own : List Receipt) (marks after : List Bool) → AreAllMarked bundle histories receipts marks → AreMarked histories own marks after → AreAllMarked bundle histories (receipts ++ own ∷ []) after
all_marked_push bundle histories receipts own marks after before marked =
    record {
      as_many = marked.as_many ∙ before.as_many;
      each = λ number mark there.
          let inside = slice_get_within after number mark there in
          let many = marked.as_many in
          let was = mark_at marks number (omega arith) in
          among histories receipts own number was.0 mark (before.each number was.0 was.1) (marked.each number was.0 mark was.1 there);
    }

map_next : {A B : Type 0} (f : A → B) (xs : List A) (at : ℕ) (x : A) → at < length xs → x ≡ slice_index_or xs at x → map f (take (at + 1) xs) ≡ map f (take at xs) ++ f x ∷ []
map_next f xs at x inside read = ap (map f) (take_next xs at x inside read) ∙ map_push f (take at xs) x

pub all_marked_next : {A : Type 0} (items : A → List Receipt) (bundle : Bundle) (histories : List (List Entry)) (lists : List A) (at : ℕ) (own : A) (marks after : List Bool) → at < length lists → own ≡ slice_index_or lists at own → AreAllMarked bundle histories (map items (take at lists)) marks → AreMarked histories (items own) marks after
    → AreAllMarked bundle histories (map items (take (at + 1) lists)) after
all_marked_next items bundle histories lists at own marks after inside read before marked =
    subst (λ (receipts : List (List Receipt)). AreAllMarked bundle histories receipts after) (sym (map_next items lists at own inside read)) (all_marked_push bundle histories (map items (take at lists)) (items own) marks after before marked)

pub own_there : {A : Type 0} (items : A → List Receipt) (bundle : Bundle) (lists : List A) (at : ℕ) (own : A) → AllByRecursion (AreOwn bundle) (map items lists) → at < length lists → own ≡ slice_index_or lists at own → AreOwn bundle (items own)
own_there items bundle lists at own all inside read = of_lists lists at all (slice_get_read lists (length lists) at own refl inside read) where
  of_lists : (lists : List _) (at : ℕ) → AllByRecursion (AreOwn bundle) (map items lists) → slice_get lists at ≡ Some own → AreOwn bundle (items own)
  of_lists [] at all there = absurd cc
  of_lists (first ∷ lists) zero all there = let same : first ≡ own = cc in subst (λ own. AreOwn bundle (items own)) same all.0
  of_lists (first ∷ lists) (suc at) all there = of_lists lists at all.1 there
