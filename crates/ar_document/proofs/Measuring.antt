-- Entries of a list, one more at a time.
use Rattle.std.proofs.Common.{◌≡◌, ◌≢◌, ◌⊎◌, ◌+◌, ◌-◌, ◌<◌, ◌≤◌, ℕ, true, false, List, [], ◌∷◌, ◌++◌, length, map, Option, Some, None, Result, Ok, Err, Vec, Global, refl, sym, ap, ◌∙◌, subst, inl, inr, arith, length-append, option_map}
use Rattle.std.specs.Prelude.{IfOk, codes, nat_lt}
use Rattle.std.proofs.lemmas.Bool.Decides.{nat_tests}
use Rattle.json.specs.Json.{Json, after_end_array, items, members, parse_map, read_key, value}
use Rattle.json.specs.Lex.{tokens}
use Rattle.json.specs.Token.{Token}
use Rattle.serde_json.specs.Data.{Data, Items, Members, array, boolean, no_items, no_members, null, number, object, put, string}
use Rattle.serde_json.specs.Find.{as_array, as_null, get, get_member}
use Rattle.serde_json.specs.Read.{converted, of_items, of_json, of_members, read}
use Rattle.serde_json.proofs.Views.{get_member-put, get_member-put_other}
use Rattle.ar_value.specs.Answer.{◌>>=◌, Gives, IfRefused, each_after}
use Rattle.ar_bundle.specs.declared.bundle.EventPart.{EventPart}
use Rattle.ar_value.proofs.Steps.{leads, refuses_same}
use Rattle.ar_json.specs.Members.{listed, unless_null}
use Rattle.ar_limits.specs.Replay.{most_events}
use Rattle.ar_stream.specs.Passing.{data_at}
use Rattle.ar_stream.specs.Error.{is_stream_memory}
use Rattle.ar_stream.specs.declared.error.StreamError.{StreamError}
use Rattle.ar_stream.proofs.Kept.{member_read, member_refused, members_read, no_name}
use Rattle.ar_stream.proofs.Taken.{array_at, item_read, item_refused, items_before, items_read, none_before, one_before}
use Rattle.ar_stream.proofs.Whole.{is_object, no_object_read}
use Rattle.ar_document.specs.Document.{is_bundle_memory}
use Rattle.ar_document.specs.Entries.{Entry, entries_in, entries_of_list, entries_given, entry_in, entry_view, few_entries}
use Rattle.ar_document.specs.Opening.{Opened as Parts}
use Rattle.ar_document.specs.Private.Measured.{AreEntries, HasRead, IfFound, IsRead, IsReadOf, listed_as, with_one}
use Rattle.ar_document.specs.Private.Opened.{opened_view}
use Rattle.ar_document.specs.declared.error.BundleError.{BundleError}
use Rattle.ar_document.specs.declared.error.BundleError.TheVariants.{BadEntry, TooManyMeasurements}
use Rattle.ar_document.specs.declared.measurements.Listed.{Listed}
use Rattle.ar_document.specs.declared.opening.Opened.{Opened}

-- ---- a list that grows at its end

pub all_before : (done : List Data) → listed (items_before done no_items) ≡ done
all_before [] = refl
all_before (first ∷ done) = ap (λ others. first ∷ others) (all_before done)

-- ---- what each item becomes

module _ {A B E : Type 0} (step : List B → A → Result B E) (one : A) where
  after_first : (earlier : List B) (done : List A) (first : Result B E)
      → ((made : B) → each_after step (earlier ++ made ∷ []) (done ++ one ∷ []) ≡ (each_after step (earlier ++ made ∷ []) done >>= λ all. step all one >>= λ last. Ok (all ++ last ∷ [])))
      → (first >>= λ made. each_after step (earlier ++ made ∷ []) (done ++ one ∷ [])) ≡ ((first >>= λ made. each_after step (earlier ++ made ∷ []) done) >>= λ all. step all one >>= λ last. Ok (all ++ last ∷ []))
  after_first earlier done (Ok made) more = more made
  after_first earlier done (Err refusal) more = refl

  pub after_more : (earlier : List B) (done : List A) → each_after step earlier (done ++ one ∷ []) ≡ (each_after step earlier done >>= λ all. step all one >>= λ last. Ok (all ++ last ∷ []))
  unfolding each_after
  after_more earlier [] = refl
  after_more earlier (first ∷ done) = after_first earlier done (step earlier first) (λ made. after_more (earlier ++ made ∷ []) done)

-- ---- a list that isn't too long

few_are : (items : List Data) → length items ≤ most_events → few_entries items ≡ Ok items
few_are items few =
    let fewer : nat_lt most_events (length items) ≡ false = grind (arith, nat_tests) in
    rw fewer refl

pub too_many : (items : List Data) → most_events < length items → few_entries items ≡ Err TooManyMeasurements
too_many items many =
    let longer : nat_lt most_events (length items) ≡ true = grind (arith, nat_tests) in
    rw longer refl

list_more : (opened : Parts) (done : List Data) (one : Data) → length done + 1 ≤ most_events
    → entries_of_list opened (done ++ one ∷ []) ≡ (entries_of_list opened done >>= λ made. with_one opened made one)
list_more opened done one few =
    let longer : length (done ++ one ∷ []) ≡ length done + 1 = length-append done (one ∷ []) in
    ap (λ items. items >>= each_after (entry_in opened) []) (few_are (done ++ one ∷ []) (omega (arith, longer)))
    ∙ after_more (entry_in opened) one [] done
    ∙ sym (ap (λ items. (items >>= each_after (entry_in opened) []) >>= λ made. with_one opened made one) (few_are done (omega arith)))

-- ---- what was read of a list, with one more item

abbrev pub seen : Vec EventPart Global → List Entry
seen found = map entry_view found.items

module _ (opened : Opened) (done : List Data) (one : Data) (so_far : Listed) (has : HasRead opened done so_far) where
  over : length done + so_far.left ≡ most_events ⊎ (most_events < length done × so_far.left ≡ 0) → so_far.left ≡ 0 → most_events < length done + 1
  over (inl exact) none = omega (arith, exact, none)
  over (inr many) none = omega (arith, many.0)

  -- there are too many
  pub one_too_many : so_far.left ≡ 0 → HasRead opened (done ++ one ∷ []) (listed_as (Err TooManyMeasurements) 0)
  one_too_many none =
      let longer : length (done ++ one ∷ []) ≡ length done + 1 = length-append done (one ∷ []) in
      let many : most_events < length (done ++ one ∷ []) = omega (arith, longer, over has.left none) in
      record {
        exact = ap (λ items. items >>= each_after (entry_in (opened_view opened)) []) (too_many (done ++ one ∷ []) many);
        left = inr (many, refl);
        fit = tt;
      }

  fewer : length done + so_far.left ≡ most_events ⊎ (most_events < length done × so_far.left ≡ 0) → 0 < so_far.left → length done + so_far.left ≡ most_events
  fewer (inl exact) some = exact
  fewer (inr many) some = absurd (omega (arith, many.1, some))

  one_less : 0 < so_far.left → length (done ++ one ∷ []) + (so_far.left - 1) ≡ most_events
  one_less some =
      let longer : length (done ++ one ∷ []) ≡ length done + 1 = length-append done (one ∷ []) in
      omega (arith, longer, fewer has.left some)

  still_few : 0 < so_far.left → length done + 1 ≤ most_events
  still_few some = omega (arith, fewer has.left some, some)

  gives_so_far : (entries : Result (Vec EventPart Global) BundleError) → so_far.entries ≡ entries → Gives (λ error. false) (λ (found : Vec EventPart Global). map entry_view found.items) entries (entries_of_list (opened_view opened) done)
  gives_so_far entries is = subst (λ (found : Result (Vec EventPart Global) BundleError). Gives (λ error. false) (λ (found : Vec EventPart Global). map entry_view found.items) found (entries_of_list (opened_view opened) done)) is has.exact

  -- a fault stays
  pub fault_stays : (fault : BundleError) → so_far.entries ≡ Err fault → 0 < so_far.left → HasRead opened (done ++ one ∷ []) (listed_as (Err fault) (so_far.left - 1))
  fault_stays fault is some =
      let refused : entries_of_list (opened_view opened) done ≡ Err fault = gives_so_far (Err fault) is in
      record {
        exact = list_more (opened_view opened) done one (still_few some) ∙ ap (λ answer. answer >>= λ made. with_one (opened_view opened) made one) refused;
        left = inl (one_less some);
        fit = tt;
      }

  fit_so_far : (found : Vec EventPart Global) → so_far.entries ≡ Ok found → AreEntries opened found.items × (length found.items ≡ length done)
  fit_so_far found is = subst (λ (entries : Result (Vec EventPart Global) BundleError). IfOk entries (λ found. AreEntries opened found.items × (length found.items ≡ length done))) is has.fit

  grown : (later : Result (Vec EventPart Global) BundleError) (found : Vec EventPart Global) → length found.items ≡ length done
      → IfOk later (λ more. AreEntries opened more.items × (length more.items ≡ length found.items + 1)) → IfOk later (λ more. AreEntries opened more.items × (length more.items ≡ length (done ++ one ∷ [])))
  grown (Ok more) found many fit = (fit.0, fit.1 ∙ ap (λ n. n + 1) many ∙ sym (length-append done (one ∷ [])))
  grown (Err fault) found many fit = tt

  -- the next item is an entry, or the first fault
  pub entry_next : (found : Vec EventPart Global) (later : Result (Vec EventPart Global) BundleError) → so_far.entries ≡ Ok found → 0 < so_far.left
      → Gives (λ error. false) (λ (found : Vec EventPart Global). map entry_view found.items) later (with_one (opened_view opened) (seen found) one)
      → (AreEntries opened found.items → IfOk later (λ more. AreEntries opened more.items × (length more.items ≡ length found.items + 1)))
      → HasRead opened (done ++ one ∷ []) (listed_as later (so_far.left - 1))
  entry_next found later is some gives fit =
      let read : entries_of_list (opened_view opened) done ≡ Ok (seen found) = gives_so_far (Ok found) is in
      let both = list_more (opened_view opened) done one (still_few some) ∙ ap (λ answer. answer >>= λ made. with_one (opened_view opened) made one) read in
      let own = fit_so_far found is in
      record {
        exact = subst (λ (defined : Result (List Entry) BundleError). Gives (λ error. false) (λ (found : Vec EventPart Global). map entry_view found.items) later defined) (sym both) gives;
        left = inl (one_less some);
        fit = grown later found own.1 (fit own.0);
      }

-- nothing was read yet
pub nothing_read : (opened : Opened) (found : Vec EventPart Global) → found.items ≡ [] → HasRead opened [] (listed_as (Ok found) 100000)
unfolding each_after
nothing_read opened found none = record {
  exact = ap (λ items. Ok (map entry_view items)) (sym none);
  left = inl refl;
  fit = (subst (AreEntries opened) (sym none) tt, ap length none);
}

-- ---- a list of entries

module _ (opened : Opened) (done : List Data) (so_far : Listed) (has : HasRead opened done so_far) where
  few_done : length done + so_far.left ≡ most_events ⊎ (most_events < length done × so_far.left ≡ 0) → entries_of_list (opened_view opened) done ≢ Err TooManyMeasurements → length done ≤ most_events
  few_done (inl exact) other = omega (arith, exact)
  few_done (inr many) other = absurd (other (ap (λ items. items >>= each_after (entry_in (opened_view opened)) []) (too_many done many.0)))

  few_read : (entries : Result (Vec EventPart Global) BundleError) → so_far.entries ≡ entries → IfOk entries (λ found. AreEntries opened found.items × (length found.items ≤ most_events))
  few_read (Err fault) is = tt
  few_read (Ok found) is =
      let gives : Gives (λ error. false) (λ (found : Vec EventPart Global). map entry_view found.items) (Ok found) (entries_of_list (opened_view opened) done) = subst (λ (entries : Result (Vec EventPart Global) BundleError). Gives (λ error. false) (λ (found : Vec EventPart Global). map entry_view found.items) entries (entries_of_list (opened_view opened) done)) is has.exact in
      let own : AreEntries opened found.items × (length found.items ≡ length done) = subst (λ (entries : Result (Vec EventPart Global) BundleError). IfOk entries (λ found. AreEntries opened found.items × (length found.items ≡ length done))) is has.fit in
      let few = few_done has.left (λ many. absurd (is_ok (sym gives ∙ many))) in
      (own.0, omega (arith, own.1, few))
    where
      is_ok : {made : List Entry} {refusal : BundleError} → ◌≡◌ {A = Result (List Entry) BundleError} (Ok made) (Err refusal) → ⊥
      is_ok same = absurd (cc)

  -- all of it was read
  pub all_read : IsRead opened (entries_of_list (opened_view opened) (listed (items_before done no_items))) so_far.entries
  all_read = record { exact = rw (all_before done) has.exact; fit = few_read so_far.entries refl }

-- ---- what is found, where something is

module _ {A : Type 0} (left : List Token) (holds : A → Type 0) where
  pub some_found : (made : A) (found : Option (A × List Token)) → found ≡ Some (made, left) → holds made → IfFound found left holds
  some_found made found is here = subst (λ (found : Option (A × List Token)). IfFound found left holds) (sym is) (refl, here)

  pub found_where : (found : Option (A × List Token)) → ((all : A × List Token) → found ≡ Some all → (made : A) × (Some all ≡ Some (made, left)) × holds made) → IfFound found left holds
  found_where None each = tt
  found_where (Some all) each = let here = each all refl in some_found here.0 (Some all) here.1 here.2

  pub found_maps : {B : Type 0} (f : B → A) (own : B → Type 0) (found : Option (B × List Token)) → ((made : B) → own made → holds (f made)) → IfFound found left own → IfFound (parse_map f found) left holds
  found_maps f own None leads here = tt
  found_maps f own (Some pair) leads here = (here.0, leads pair.0 here.1)

  pub found_same : (own : A → Type 0) (found : Option (A × List Token)) → ((made : A) → own made → holds made) → IfFound found left own → IfFound found left holds
  found_same own None leads here = tt
  found_same own (Some pair) leads here = (here.0, leads pair.0 here.1)

none_where : {A : Type 0} (found : Option A) → ((all : A) → found ≡ Some all → ⊥) → found ≡ None
none_where None never = refl
none_where (Some all) never = absurd (never all refl)

none_is_some : {A : Type 0} {all : A} → ◌≡◌ {A = Option A} (Some all) None → ⊥
none_is_some same = absurd (cc)

-- the data of a value
module _ (j : Json) (left : List Token) (holds : Data → Type 0) (each : (made : Data) → of_json j ≡ Some made → holds made) where
  found_of : (found : Option Data) → of_json j ≡ found → IfFound (option_map (λ (made : Data). (made, left)) found) left holds
  found_of None is = tt
  found_of (Some made) is = (refl, each made is)

pub next_found : {A E : Type 0} (levels : ℕ) (old left : List Token) (j : Json) (holds : Data → A → Type 0) (result : Result A E) → value levels old ≡ Some (j, left)
    → ((made : Data) → of_json j ≡ Some made → IfOk result (holds made)) → IfOk result (λ later. IfFound (data_at levels old) left (λ made. holds made later))
next_found levels old left j holds (Ok later) is each = rw is (found_of j left (λ made. holds made later) each (of_json j) refl)
next_found levels old left j holds (Err refusal) is each = tt

-- what was read of a list whose rest begins here, where it is a list
abbrev pub ListedSoFar : Opened → (levels n : ℕ) → (all : Items × List Token) → (now : List Token) → Listed → Type 0
ListedSoFar opened levels n all now so_far =
    (done : List Data) × (Some all ≡ parse_map (items_before done) (converted of_items (items (value levels) n now))) × HasRead opened done so_far

abbrev pub Listing : Opened → (levels : ℕ) → (first now : List Token) → Listed → Type 0
Listing opened levels first now so_far =
    (n : ℕ) × (length now ≤ n) × (length now ≤ length first)
    × ((all : Items × List Token) → converted of_items (items (value levels) (length first) first) ≡ Some all → ListedSoFar opened levels n all now so_far)

pub none_listed : (opened : Opened) (levels : ℕ) (first : List Token) (so_far : Listed) → HasRead opened [] so_far → Listing opened levels first first so_far
none_listed opened levels first so_far has = (length first, omega arith, omega arith, λ all is. ([], sym is ∙ none_before _, has))

-- no item begins here, so this is no list
pub no_list : (opened : Opened) (levels : ℕ) (first now : List Token) (so_far : Listed) → Listing opened levels first now so_far → after_end_array now ≡ None → data_at levels now ≡ None
    → converted of_items (items (value levels) (length first) first) ≡ None
no_list opened levels first now so_far listing going none =
    none_where _ (λ all is. let own = listing.3 all is in none_is_some (own.1 ∙ ap (parse_map (items_before own.0)) (item_refused (value levels) listing.0 now going none)))

module _ (opened : Opened) (levels n : ℕ) (all : Items × List Token) (now later : List Token) (so_far next : Listed) (some : 0 < n) (going : after_end_array now ≡ None) where
  listed_more : (found : Option (Data × List Token)) → data_at levels now ≡ found → IfFound found later (λ made. (done : List Data) → HasRead opened done so_far → HasRead opened (done ++ made ∷ []) next)
      → ListedSoFar opened levels n all now so_far → ListedSoFar opened levels (n - 1) all later next
  listed_more None none read own = absurd (none_is_some (own.1 ∙ ap (parse_map (items_before own.0)) (item_refused (value levels) n now going none)))
  listed_more (Some (made, rest)) is read own = (
    own.0 ++ made ∷ [],
    own.1 ∙ ap (parse_map (items_before own.0)) (item_read (value levels) n now later made some going (is ∙ ap (λ left. Some (made, left)) read.0)) ∙ one_before own.0 made _,
    read.1 own.0 own.2,
  )

pub one_listed : (opened : Opened) (levels : ℕ) (first now taken later : List Token) (so_far next : Listed)
    → (after_end_array now ≡ None) × (taken ≡ now) → IfFound (data_at levels taken) later (λ made. (done : List Data) → HasRead opened done so_far → HasRead opened (done ++ made ∷ []) next)
    → length later < length taken → Listing opened levels first now so_far → Listing opened levels first later next
one_listed opened levels first now taken later so_far next going read shorter listing =
    let same = going.1 in
    let less : length later < length now = rw same at shorter in (
      listing.0 - 1,
      omega (arith, less, listing.1),
      omega (arith, less, listing.2),
      λ all is. listed_more opened levels listing.0 all now later so_far next (omega (arith, less, listing.1)) going.0 (data_at levels now) refl (rw same at read) (listing.3 all is),
    )

-- the list ends here
pub whole_list : (opened : Opened) (levels : ℕ) (first now left : List Token) (so_far : Listed) → Listing opened levels first now so_far → after_end_array now ≡ Some left
    → IfFound (converted of_items (items (value levels) (length first) first)) left (λ list. IsRead opened (entries_of_list (opened_view opened) (listed list)) so_far.entries)
whole_list opened levels first now left so_far listing ends =
    found_where left _ _ (λ all is. let own = listing.3 all is in (
      items_before own.0 no_items,
      own.1 ∙ ap (parse_map (items_before own.0)) (items_read (value levels) listing.0 now left listing.1 ends),
      all_read opened own.0 so_far own.2,
    ))

-- ---- members, one after another

abbrev pub MembersSoFar : Opened → (levels n : ℕ) → (all : Members × List Token) → (now : List Token) → Result (Vec EventPart Global) BundleError → Type 0
MembersSoFar opened levels n all now entries =
    (earlier : Members) × (Some all ≡ converted (λ found. of_members found earlier) (members (value levels) n now)) × IsReadOf opened earlier entries

-- what was read of an object whose rest begins here, where it is an object
abbrev pub Reading : Opened → (levels : ℕ) → (first now : List Token) → Result (Vec EventPart Global) BundleError → Type 0
Reading opened levels first now entries =
    (n : ℕ) × (length now ≤ n) × ((all : Members × List Token) → converted (λ found. of_members found no_members) (members (value levels) (length first) first) ≡ Some all → MembersSoFar opened levels n all now entries)

pub no_name_read : (opened : Opened) (levels : ℕ) (first now : List Token) (entries : Result (Vec EventPart Global) BundleError) → Reading opened levels first now entries → read_key now ≡ None
    → converted (λ found. of_members found no_members) (members (value levels) (length first) first) ≡ None
no_name_read opened levels first now entries reading none =
    none_where _ (λ all is. let own = reading.2 all is in none_is_some (own.1 ∙ no_name (value levels) own.0 reading.0 now none))

pub no_member_read : (opened : Opened) (levels : ℕ) (first now taken : List Token) (name : List ℕ) (entries : Result (Vec EventPart Global) BundleError) → Reading opened levels first now entries
    → read_key now ≡ Some (Some name, taken) → data_at levels taken ≡ None → converted (λ found. of_members found no_members) (members (value levels) (length first) first) ≡ None
no_member_read opened levels first now taken name entries reading named none =
    none_where _ (λ all is. let own = reading.2 all is in none_is_some (own.1 ∙ member_refused (value levels) own.0 reading.0 name now taken named none))

module _ (opened : Opened) (levels n : ℕ) (all : Members × List Token) (now taken later : List Token) (name : List ℕ) (so_far next : Result (Vec EventPart Global) BundleError) (some : 0 < n) (named : read_key now ≡ Some (Some name, taken)) where
  members_more : (found : Option (Data × List Token)) → data_at levels taken ≡ found → IfFound found later (λ given. (earlier : Members) → IsReadOf opened earlier so_far → IsReadOf opened (put name given earlier) next)
      → MembersSoFar opened levels n all now so_far → MembersSoFar opened levels (n - 1) all later next
  members_more None none read own = absurd (none_is_some (own.1 ∙ member_refused (value levels) own.0 n name now taken named none))
  members_more (Some (given, rest)) is read own = (
    put name given own.0,
    own.1 ∙ member_read (value levels) own.0 n name now taken later given some named (is ∙ ap (λ left. Some (given, left)) read.0),
    read.1 own.0 own.2,
  )

pub member_more : (opened : Opened) (levels : ℕ) (first now taken later : List Token) (name : List ℕ) (so_far next : Result (Vec EventPart Global) BundleError)
    → read_key now ≡ Some (Some name, taken) → length taken < length now → length later < length taken
    → IfFound (data_at levels taken) later (λ given. (earlier : Members) → IsReadOf opened earlier so_far → IsReadOf opened (put name given earlier) next)
    → Reading opened levels first now so_far → Reading opened levels first later next
member_more opened levels first now taken later name so_far next named less lesser read reading = (
  reading.0 - 1,
  omega (arith, reading.1, less, lesser),
  λ all is. members_more opened levels reading.0 all now taken later name so_far next (omega (arith, reading.1, less)) named (data_at levels taken) refl read (reading.2 all is),
)

pub whole_object : (opened : Opened) (levels : ℕ) (first now left : List Token) (entries : Result (Vec EventPart Global) BundleError) → Reading opened levels first now entries → read_key now ≡ Some (None, left)
    → IfFound (converted (λ found. of_members found no_members) (members (value levels) (length first) first)) left (λ all. IsReadOf opened all entries)
whole_object opened levels first now left entries reading ends =
    found_where left _ _ (λ all is. let own = reading.2 all is in (own.0, own.1 ∙ members_read (value levels) own.0 reading.0 now left reading.1 ends, own.2))

-- ---- measurements that are there or not

module _ (levels : ℕ) (first rest : List Token) (some : 0 < levels) (begins : first ≡ Token.begin_array ∷ rest) where
  pub list_given : (opened : Opened) (left : List Token) (result : Result (Result (Vec EventPart Global) BundleError) StreamError)
      → IfOk result (λ entries. IfFound (converted of_items (items (value (levels - 1)) (length rest) rest)) left (λ list. IsRead opened (entries_of_list (opened_view opened) (listed list)) entries))
      → IfOk result (λ entries. IfFound (data_at levels first) left (λ given. IsRead opened (entries_given (opened_view opened) (unless_null (Some given))) entries))
  list_given opened left (Ok entries) read =
      subst (λ (found : Option (Data × List Token)). IfFound found left (λ given. IsRead opened (entries_given (opened_view opened) (unless_null (Some given))) entries)) (sym (array_at levels first rest some begins))
      (found_maps left (λ given. IsRead opened (entries_given (opened_view opened) (unless_null (Some given))) entries) array _ _ (λ list here. here) read)
  list_given opened left (Err error) read = tt

  pub list_refused : {A : Type 0} (result : Result A StreamError) → IfRefused is_stream_memory result (λ error. converted of_items (items (value (levels - 1)) (length rest) rest) ≡ None)
      → IfRefused is_stream_memory result (λ error. data_at levels first ≡ None)
  list_refused (Ok entries) refused = tt
  list_refused (Err error) refused = leads (is_stream_memory error) (λ none. array_at levels first rest some begins ∙ ap (parse_map array) none) refused

pub none_given : (opened : Opened) (found : Vec EventPart Global) → found.items ≡ [] → IsRead opened (entries_given (opened_view opened) None) (Ok found)
unfolding each_after
none_given opened found none = record {
  exact = ap (λ items. Ok (map entry_view items)) (sym none);
  fit = (subst (AreEntries opened) (sym none) tt, omega (arith, ap length none));
}

pub other_given : (opened : Opened) (given : Data) → as_array given ≡ None → as_null given ≡ None → IsRead opened (entries_given (opened_view opened) (unless_null (Some given))) (Err (BadEntry 0))
other_given opened null no_array no_null = absurd (cc)
other_given opened (boolean value) no_array no_null = record { exact = refl; fit = tt }
other_given opened (number digits) no_array no_null = record { exact = refl; fit = tt }
other_given opened (string text) no_array no_null = record { exact = refl; fit = tt }
other_given opened (array items) no_array no_null = absurd (cc)
other_given opened (object all) no_array no_null = record { exact = refl; fit = tt }

pub if_ok : {A E : Type 0} {P Q : A → Type 0} (result : Result A E) → ((found : A) → P found → Q found) → IfOk result P → IfOk result Q
if_ok (Ok found) leads holds = leads found holds
if_ok (Err refusal) leads holds = tt

pub member_given : (opened : Opened) (name : List ℕ) (given : Data) (entries : Result (Vec EventPart Global) BundleError) → name ≡ codes "measurements"
    → IsRead opened (entries_given (opened_view opened) (unless_null (Some given))) entries → (earlier : Members) → IsReadOf opened (put name given earlier) entries
member_given opened name given entries is read earlier =
    let found : get_member (codes "measurements") (put name given earlier) ≡ Some given = rw (← is) (get_member-put name given earlier) in
    subst (λ (found : Option Data). IsRead opened (entries_given (opened_view opened) (unless_null found)) entries) (sym found) read

pub other_member : (opened : Opened) (name : List ℕ) (given : Data) (entries : Result (Vec EventPart Global) BundleError) → (codes "measurements" ≡ name → ⊥)
    → (earlier : Members) → IsReadOf opened earlier entries → IsReadOf opened (put name given earlier) entries
other_member opened name given entries other earlier read =
    subst (λ (found : Option Data). IsRead opened (entries_given (opened_view opened) (unless_null found)) entries) (sym (get_member-put_other (codes "measurements") name given earlier other)) read

-- ---- a whole document

-- the members that a text's object has
module _ (text : List ℕ) (document : Data) (rest left : List Token) (entries : Result (Vec EventPart Global) BundleError) (opened : Opened) (first : tokens text ≡ Token.begin_object ∷ rest) (is : read text ≡ Some document) where
  read_of : (found : Option (Members × List Token)) → converted (λ found. of_members found no_members) (members (value 126) (length rest) rest) ≡ found → IfFound found left (λ all. IsReadOf opened all entries)
      → (all : Members) × (document ≡ object all) × IsReadOf opened all entries
  read_of None none read = absurd (no_object_read text document rest first none is)
  read_of (Some (all, after)) found read = (all, is_object text document rest after all first found is, read.1)

  pub document_read : IfFound (converted (λ found. of_members found no_members) (members (value 126) (length rest) rest)) left (λ all. IsReadOf opened all entries)
      → (all : Members) × (document ≡ object all) × IsReadOf opened all entries
  document_read read = read_of (converted (λ found. of_members found no_members) (members (value 126) (length rest) rest)) refl read

pub never_memory : {X Y : Type 0} (view : X → Y) (result : Result X BundleError) (answer : Result Y BundleError) → Gives (λ error. false) view result answer → Gives is_bundle_memory view result answer
never_memory view (Ok found) answer gives = gives
never_memory view (Err refusal) answer gives = refuses_same (is_bundle_memory refusal) refusal answer gives

pub of_object : (opened : Opened) (all : Members) (entries : Result (Vec EventPart Global) BundleError) → IsReadOf opened all entries → Gives is_bundle_memory (λ (found : Vec EventPart Global). map entry_view found.items) entries (entries_in (opened_view opened) (object all))
unfolding entries_in
of_object opened all entries read = never_memory (λ (found : Vec EventPart Global). map entry_view found.items) entries _ read.exact

pub of_other : (opened : Opened) (found : Vec EventPart Global) (document : Data) → found.items ≡ [] → get (codes "measurements") document ≡ None → entries_in (opened_view opened) document ≡ Ok (map entry_view found.items)
unfolding entries_in each_after
of_other opened found document none missing =
    ap (λ given. entries_given (opened_view opened) (unless_null given)) missing ∙ sym (ap (λ items. Ok (map entry_view items)) none)
