-- Entries, while they are read one after another.
use Rattle.std.specs.Prelude.{◌≡◌, ◌⊎◌, ◌<◌, ◌≤◌, ◌+◌, ℕ, false, List, [], ◌∷◌, ◌++◌, length, map, codes, Option, Result, Ok, IfOk, IfSome, Vec}
use Rattle.std.specs.List.{AllByRecursion}
use Rattle.std.specs.declared.alloc.Global.{Global}
use Rattle.json.specs.Token.{Token}
use Rattle.serde_json.specs.Data.{Data, Members}
use Rattle.serde_json.specs.Find.{get_member}
use Rattle.ar_value.specs.Answer.{◌>>=◌, Gives}
use Rattle.ar_bundle.specs.Sound.{FitsBundle}
use Rattle.ar_bundle.specs.declared.bundle.EventPart.{EventPart}
use Rattle.ar_json.specs.Members.{unless_null}
use Rattle.ar_limits.specs.Replay.{most_events}
use Rattle.ar_document.specs.Entries.{Entry, entries_of_list, entries_given, entry_in, entry_view}
use Rattle.ar_document.specs.Opening.{Opened as Parts}
use Rattle.ar_document.specs.Private.Opened.{opened_view}
use Rattle.ar_document.specs.declared.error.BundleError.{BundleError}
use Rattle.ar_document.specs.declared.measurements.Listed.{Listed}
use Rattle.ar_document.specs.declared.opening.Opened.{Opened}

-- where something is found, it leaves these tokens, and this holds of it
abbrev pub IfFound : {A : Type 0} → Option (A × List Token) → (left : List Token) → (A → Type 0) → Type 0
IfFound found left holds = IfSome found (λ pair. (pair.1 ≡ left) × holds pair.0)

abbrev pub AreEntries : Opened → List EventPart → Type 0
AreEntries opened entries = AllByRecursion (FitsBundle opened.metrics.items (length opened.runs.items)) entries

-- entries with that of one more item
abbrev pub with_one : Parts → (earlier : List Entry) → Data → Result (List Entry) BundleError
with_one opened earlier item = entry_in opened earlier item >>= λ made. Ok (earlier ++ made ∷ [])

abbrev pub listed_as : Result (Vec EventPart Global) BundleError → ℕ → Listed
listed_as entries left = record { entries = entries; left = left }

-- these entries are the defined ones, or this is their first fault
pub record IsRead (opened : Opened) (defined : Result (List Entry) BundleError)
    (entries : Result (Vec EventPart Global) BundleError) : Type 0 where
  pub exact : Gives (λ error. false) (λ found. map entry_view found.items) entries defined
  pub fit : IfOk entries (λ found. AreEntries opened found.items × (length found.items ≤ most_events))

-- what was read of the first items of a list
pub record HasRead (opened : Opened) (done : List Data) (so_far : Listed) : Type 0 where
  pub exact : Gives (λ error. false) (λ found. map entry_view found.items) so_far.entries
      (entries_of_list (opened_view opened) done)
  pub left : (length done + so_far.left ≡ most_events) ⊎ ((most_events < length done) × (so_far.left ≡ 0))
  pub fit : IfOk so_far.entries (λ found. AreEntries opened found.items × (length found.items ≡ length done))

-- these are the entries of a document with these members
abbrev pub IsReadOf : Opened → Members → Result (Vec EventPart Global) BundleError → Type 0
IsReadOf opened all entries =
    IsRead opened (entries_given (opened_view opened) (unless_null (get_member (codes "measurements") all))) entries
