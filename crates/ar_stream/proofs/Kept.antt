-- Members that are kept, and all that were read.
use Rattle.std.proofs.Common.{◌≡◌, ℕ, zero, suc, ◌-◌, ◌<◌, ◌≤◌, Bool, true, false, List, length, Option, Some, None, option_map, bytes_eq, if◌then◌else◌, true≢false, refl, sym, ap, ◌∙◌, arith}
use Rattle.std.proofs.lemmas.Slice.Eq.{bytes_eq-Decides}
use Rattle.json.specs.Json as json
use Rattle.json.specs.Json.{Parse, parse_map, read_key, members}
use Rattle.json.specs.Token.{Token}
use Rattle.json.proofs.Grammar.{members_end, members_fail, members_more, members_no_key}
use Rattle.serde_json.specs.Data.{Data, Members, put}
use Rattle.serde_json.specs.Find.{get_member}
use Rattle.serde_json.specs.Read.{converted, of_json, of_members}
use Rattle.serde_json.proofs.Views.{get_member-put, get_member-put_other}
use Rattle.ar_stream.specs.Head.{is_among}
use Rattle.ar_stream.specs.Private.Keeping.{Keeps, kept_at, kept_of, with_member}
use Rattle.ar_stream.specs.declared.head.Wanted.{Wanted}
use Rattle.ar_stream.proofs.Turns.{found_some}

-- nothing is kept where nothing is found
pub nothing_kept : (wanted : Wanted) (name : List ℕ) → kept_at wanted name None ≡ None
nothing_kept wanted name = neither (is_among wanted.names.now name)
  where
    neither : (asked : Bool) → ◌≡◌ {A = Option Data} (if asked then None else None) None
    neither true = refl
    neither false = refl

module _ (wanted : Wanted) (name : List ℕ) (member : Data) (kept all : Members) (keeps : Keeps wanted kept all) where
  abbrev kept_if : Bool → Members
  kept_if asked = if asked then put name (kept_of wanted.picks member) kept else kept

  -- at the member's own name
  here : (asked : Bool) → is_among wanted.names.now name ≡ asked
      → get_member name (kept_if asked) ≡ (if asked then option_map (kept_of wanted.picks) (get_member name (put name member all)) else None)
  here true is = get_member-put name (kept_of wanted.picks member) kept ∙ sym (ap (option_map (kept_of wanted.picks)) (get_member-put name member all))
  here false is = keeps name ∙ rw is refl

  -- at any other
  elsewhere : (other : List ℕ) (asked : Bool) → (other ≡ name → ⊥) → get_member other (kept_if asked) ≡ kept_at wanted other (get_member other (put name member all))
  elsewhere other true differ =
      get_member-put_other other name (kept_of wanted.picks member) kept differ ∙ keeps other ∙ sym (ap (kept_at wanted other) (get_member-put_other other name member all differ))
  elsewhere other false differ = keeps other ∙ sym (ap (kept_at wanted other) (get_member-put_other other name member all differ))

  at_each : (other : List ℕ) (same : Bool) → bytes_eq other name ≡ same → get_member other (with_member wanted name member kept) ≡ kept_at wanted other (get_member other (put name member all))
  at_each other true is = rw ((bytes_eq-Decides other name).0 is) (here (is_among wanted.names.now name) refl)
  at_each other false is =
      elsewhere other (is_among wanted.names.now name) (λ (equal : other ≡ name). true≢false (sym ((bytes_eq-Decides other name).1 equal) ∙ is))

  pub keeps_still : Keeps wanted (with_member wanted name member kept) (put name member all)
  keeps_still other = at_each other (bytes_eq other name) refl

-- ---- a turn

pub no_converted : (f : json.Json → Option Data) (left : List Token) (found : Option Data) → option_map {U = Data × List Token} (λ made. (made, left)) found ≡ None → found ≡ None
no_converted f left None none = refl
no_converted f left (Some found) none = absurd (cc)

with_one : (name : List ℕ) (j : json.Json) (member : Data) (earlier : Members) (parsed : Option (json.Members × List Token)) → of_json j ≡ Some member
    → converted (λ found. of_members found earlier) (parse_map (json.member name j) parsed) ≡ converted (λ found. of_members found (put name member earlier)) parsed
with_one name j member earlier None is = refl
with_one name j member earlier (Some pair) is = rw is refl

without_one : (name : List ℕ) (j : json.Json) (earlier : Members) (parsed : Option (json.Members × List Token)) → of_json j ≡ None
    → converted (λ found. of_members found earlier) (parse_map (json.member name j) parsed) ≡ None
without_one name j earlier None none = refl
without_one name j earlier (Some pair) none = rw none refl

module _ (p : Parse json.Json) (earlier : Members) where
  pub member_read : (n : ℕ) (name : List ℕ) (tokens left rest : List Token) (member : Data) → 0 < n → read_key tokens ≡ Some (Some name, left) → converted of_json (p left) ≡ Some (member, rest)
      → converted (λ found. of_members found earlier) (members p n tokens) ≡ converted (λ found. of_members found (put name member earlier)) (members p (n - 1) rest)
  member_read n name tokens left rest member some named read =
      let found = found_some of_json (p left) member rest read in
      ap (converted (λ all. of_members all earlier)) (members_more p n name tokens left rest found.of some named found.parsed_is) ∙ with_one name found.of member earlier _ found.made_is

  member_not : (n : ℕ) (name : List ℕ) (tokens left : List Token) (parsed : Option (json.Json × List Token)) → read_key tokens ≡ Some (Some name, left) → p left ≡ parsed → converted of_json parsed ≡ None
      → 0 < n → converted (λ found. of_members found earlier) (members p n tokens) ≡ None
  member_not n name tokens left None named is none some = ap (converted (λ found. of_members found earlier)) (members_fail p n name tokens left named is)
  member_not n name tokens left (Some pair) named is none some =
      ap (converted (λ found. of_members found earlier)) (members_more p n name tokens left pair.1 pair.0 some named is) ∙ without_one name pair.0 earlier _ (no_converted of_json pair.1 (of_json pair.0) none)

  pub member_refused : (n : ℕ) (name : List ℕ) (tokens left : List Token) → read_key tokens ≡ Some (Some name, left) → converted of_json (p left) ≡ None → converted (λ found. of_members found earlier) (members p n tokens) ≡ None
  unfolding members
  member_refused zero name tokens left named none = refl
  member_refused (suc n) name tokens left named none = member_not (suc n) name tokens left (p left) named refl none (omega arith)

  pub no_name : (n : ℕ) (tokens : List Token) → read_key tokens ≡ None → converted (λ found. of_members found earlier) (members p n tokens) ≡ None
  no_name n tokens none = ap (converted (λ found. of_members found earlier)) (members_no_key p n tokens none)

  pub members_read : (n : ℕ) (tokens rest : List Token) → length tokens ≤ n → read_key tokens ≡ Some (None, rest) → converted (λ found. of_members found earlier) (members p n tokens) ≡ Some (earlier, rest)
  members_read n tokens rest enough ends = ap (converted (λ found. of_members found earlier)) (members_end p n tokens rest enough ends)
