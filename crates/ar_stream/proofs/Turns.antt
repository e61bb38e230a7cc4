-- What is passed, a turn at a time.
use Rattle.std.proofs.Common.{true, false, is_some, ◌≡◌, ℕ, zero, suc, ◌-◌, ◌<◌, ◌≤◌, List, length, Option, Some, None, option_map, option_and_then, refl, ap, ◌∙◌, arith}
use Rattle.json.specs.Json as json
use Rattle.json.specs.Json.{Parse, parse_map, after_end_array, read_key, items, members}
use Rattle.json.specs.Token.{Token}
use Rattle.json.proofs.Grammar.{items_end, items_fail, items_more, left_some, members_end, members_fail, members_more, members_no_key}
use Rattle.serde_json.specs.Data.{Data, Items, Members, array, object, no_members, item, put}
use Rattle.serde_json.specs.Read.{converted, of_items, of_json, of_members}
use Rattle.ar_stream.specs.Passing.{tokens_left}

-- ---- what a parser found, as data

abbrev pair_or : {A : Type 0} → A × List Token → Option (A × List Token) → A × List Token
pair_or other None = other
pair_or other (Some pair) = pair

-- what is made of something that was parsed
pub record Found {A B : Type 0} (f : A → Option B) (parsed : Option (A × List Token)) (made : B) (rest : List Token) : Type 0 where
  pub of : A
  pub parsed_is : parsed ≡ Some (of, rest)
  pub made_is : f of ≡ Some made

found_under : {A B : Type 0} (f : A → Option B) (of : A) (left rest : List Token) (found : Option B) (made : B) → f of ≡ found
    → option_map {U = B × List Token} (λ found. (found, left)) found ≡ Some (made, rest) → Found f (Some (of, left)) made rest
found_under f of left rest None made is none = absurd (cc)
found_under f of left rest (Some found) made is some =
    let same = ap (pair_or (found, left)) some in
    record { of = of; parsed_is = ap (λ pair. Some (of, pair.1)) same; made_is = is ∙ ap (λ pair. Some pair.0) same }

pub found_some : {A B : Type 0} (f : A → Option B) (parsed : Option (A × List Token)) (made : B) (rest : List Token) → converted f parsed ≡ Some (made, rest) → Found f parsed made rest
found_some f None made rest none = absurd (cc)
found_some f (Some pair) made rest some = found_under f pair.0 pair.1 rest (f pair.0) made refl some

pub found_of : {A B : Type 0} (f : A → Option B) (parsed : Option (A × List Token)) (rest : List Token) → tokens_left (converted f parsed) ≡ Some rest → (made : B) × Found f parsed made rest
found_of f parsed rest some =
    let pair = left_some (converted f parsed) rest some in
    (pair.0, found_some f parsed pair.0 rest pair.1)

no_data : {B : Type 0} (left : List Token) (made : Option B) → tokens_left (option_map {U = B × List Token} (λ found. (found, left)) made) ≡ None → made ≡ None
no_data left None none = refl
no_data left (Some made) none = absurd (cc)

pub some_is : {A : Type 0} (found : Option A) → is_some found ≡ true → (made : A) × (found ≡ Some made)
some_is None none = absurd (cc)
some_is (Some made) some = (made, refl)

pub none_is : {A : Type 0} (found : Option A) → is_some found ≡ false → found ≡ None
none_is None none = refl
none_is (Some made) some = absurd (cc)

-- ---- under a constructor

after_mapped : {A B : Type 0} (f : A → B) (left : List Token) (made : Option A)
    → tokens_left (option_map {U = B × List Token} (λ found. (found, left)) (option_map f made)) ≡ tokens_left (option_map {U = A × List Token} (λ found. (found, left)) made)
after_mapped f left None = refl
after_mapped f left (Some made) = refl

mapped_twice : (left : List Token) (made : Option Items) → option_map {U = Data × List Token} (λ found. (found, left)) (option_map array made) ≡ parse_map array (option_map {U = Items × List Token} (λ found. (found, left)) made)
mapped_twice left None = refl
mapped_twice left (Some made) = refl

-- an array is data where its items are
pub converted_array : (parsed : Option (json.Items × List Token)) → converted of_json (parse_map json.array parsed) ≡ parse_map array (converted of_items parsed)
converted_array None = refl
converted_array (Some pair) = mapped_twice pair.1 (of_items pair.0)

-- and an object where its members are
pub no_object : (parsed : Option (json.Members × List Token)) → tokens_left (converted (λ found. of_members found no_members) parsed) ≡ None → converted of_json (parse_map json.object parsed) ≡ None
no_object None none = refl
no_object (Some pair) none = rw (no_data pair.1 (of_members pair.0 no_members) none) refl

pub object_found : (parsed : Option (json.Members × List Token)) (all : Members) (rest : List Token) → Found (λ found. of_members found no_members) parsed all rest
    → converted of_json (parse_map json.object parsed) ≡ Some (object all, rest)
object_found parsed all rest found = ap (λ parsed. converted of_json (parse_map json.object parsed)) found.parsed_is ∙ rw found.made_is refl

after_item : (j : json.Json) (made : Data) (parsed : Option (json.Items × List Token)) → of_json j ≡ Some made
    → tokens_left (converted of_items (parse_map (json.item j) parsed)) ≡ tokens_left (converted of_items parsed)
after_item j made None is = refl
after_item j made (Some pair) is = rw is (after_mapped (item made) pair.1 (of_items pair.0))

after_no_item : (j : json.Json) (parsed : Option (json.Items × List Token)) → of_json j ≡ None → tokens_left (converted of_items (parse_map (json.item j) parsed)) ≡ None
after_no_item j None none = refl
after_no_item j (Some pair) none = rw none

abbrev end_of : List Token → Option Members → Option (List Token)
end_of left all = tokens_left (option_map {U = Members × List Token} (λ members. (members, left)) all)

either_data : (f g : Data → Option Members) (left : List Token) (made : Option Data) → ((d : Data) → end_of left (f d) ≡ end_of left (g d))
    → end_of left (option_and_then f made) ≡ end_of left (option_and_then g made)
either_data f g left None same = refl
either_data f g left (Some made) same = same made

-- whether members are data doesn't depend on those before them
same_end : (found : json.Members) (earlier others : Members) (left : List Token) → end_of left (of_members found earlier) ≡ end_of left (of_members found others)
same_end json.no_members earlier others left = refl
same_end (json.member key j found) earlier others left =
    either_data (λ d. of_members found (put key d earlier)) (λ d. of_members found (put key d others)) left (of_json j) (λ d. same_end found (put key d earlier) (put key d others) left)

after_member : (key : List ℕ) (j : json.Json) (made : Data) (parsed : Option (json.Members × List Token)) → of_json j ≡ Some made
    → tokens_left (converted (λ found. of_members found no_members) (parse_map (json.member key j) parsed)) ≡ tokens_left (converted (λ found. of_members found no_members) parsed)
after_member key j made None is = refl
after_member key j made (Some pair) is = rw is (same_end pair.0 (put key made no_members) no_members pair.1)

after_no_member : (key : List ℕ) (j : json.Json) (parsed : Option (json.Members × List Token)) → of_json j ≡ None
    → tokens_left (converted (λ found. of_members found no_members) (parse_map (json.member key j) parsed)) ≡ None
after_no_member key j None none = refl
after_no_member key j (Some pair) none = rw none

-- ---- a turn

module _ (p : Parse json.Json) (n : ℕ) where
  pub item_passed : (tokens rest : List Token) → 0 < n → after_end_array tokens ≡ None → tokens_left (converted of_json (p tokens)) ≡ Some rest
      → tokens_left (converted of_items (items p n tokens)) ≡ tokens_left (converted of_items (items p (n - 1) rest))
  item_passed tokens rest some going passed =
      let found = found_of of_json (p tokens) rest passed in
      ap (λ parsed. tokens_left (converted of_items parsed)) (items_more p n tokens rest found.1.of some going found.1.parsed_is) ∙ after_item found.1.of found.0 _ found.1.made_is

  item_not : (tokens : List Token) (parsed : Option (json.Json × List Token)) → after_end_array tokens ≡ None → p tokens ≡ parsed → tokens_left (converted of_json parsed) ≡ None
      → 0 < n → tokens_left (converted of_items (items p n tokens)) ≡ None
  item_not tokens None going is none some = ap (λ parsed. tokens_left (converted of_items parsed)) (items_fail p n tokens going is)
  item_not tokens (Some pair) going is none some =
      ap (λ parsed. tokens_left (converted of_items parsed)) (items_more p n tokens pair.1 pair.0 some going is) ∙ after_no_item pair.0 _ (no_data pair.1 (of_json pair.0) none)

  pub member_passed : (key : List ℕ) (tokens left rest : List Token) → 0 < n → read_key tokens ≡ Some (Some key, left) → tokens_left (converted of_json (p left)) ≡ Some rest
      → tokens_left (converted (λ found. of_members found no_members) (members p n tokens)) ≡ tokens_left (converted (λ found. of_members found no_members) (members p (n - 1) rest))
  member_passed key tokens left rest some named passed =
      let found = found_of of_json (p left) rest passed in
      ap (λ parsed. tokens_left (converted (λ all. of_members all no_members) parsed)) (members_more p n key tokens left rest found.1.of some named found.1.parsed_is) ∙ after_member key found.1.of found.0 _ found.1.made_is

  member_not : (key : List ℕ) (tokens left : List Token) (parsed : Option (json.Json × List Token)) → read_key tokens ≡ Some (Some key, left) → p left ≡ parsed → tokens_left (converted of_json parsed) ≡ None
      → 0 < n → tokens_left (converted (λ found. of_members found no_members) (members p n tokens)) ≡ None
  member_not key tokens left None named is none some = ap (λ parsed. tokens_left (converted (λ found. of_members found no_members) parsed)) (members_fail p n key tokens left named is)
  member_not key tokens left (Some pair) named is none some =
      ap (λ parsed. tokens_left (converted (λ found. of_members found no_members) parsed)) (members_more p n key tokens left pair.1 pair.0 some named is)
      ∙ after_no_member key pair.0 _ (no_data pair.1 (of_json pair.0) none)

  pub no_key : (tokens : List Token) → read_key tokens ≡ None → tokens_left (converted (λ found. of_members found no_members) (members p n tokens)) ≡ None
  no_key tokens none = ap (λ parsed. tokens_left (converted (λ found. of_members found no_members) parsed)) (members_no_key p n tokens none)

  pub items_passed : (tokens rest : List Token) → length tokens ≤ n → after_end_array tokens ≡ Some rest → tokens_left (converted of_items (items p n tokens)) ≡ Some rest
  items_passed tokens rest enough ends = ap (λ parsed. tokens_left (converted of_items parsed)) (items_end p n tokens rest enough ends)

  pub members_passed : (tokens rest : List Token) → length tokens ≤ n → read_key tokens ≡ Some (None, rest) → tokens_left (converted (λ found. of_members found no_members) (members p n tokens)) ≡ Some rest
  members_passed tokens rest enough ends = ap (λ parsed. tokens_left (converted (λ found. of_members found no_members) parsed)) (members_end p n tokens rest enough ends)

module _ (p : Parse json.Json) where
  pub item_stuck : (n : ℕ) (tokens : List Token) → after_end_array tokens ≡ None → tokens_left (converted of_json (p tokens)) ≡ None → tokens_left (converted of_items (items p n tokens)) ≡ None
  unfolding items
  item_stuck zero tokens going none = refl
  item_stuck (suc n) tokens going none = item_not p (suc n) tokens (p tokens) going refl none (omega arith)

  pub member_stuck : (n : ℕ) (key : List ℕ) (tokens left : List Token) → read_key tokens ≡ Some (Some key, left) → tokens_left (converted of_json (p left)) ≡ None
      → tokens_left (converted (λ found. of_members found no_members) (members p n tokens)) ≡ None
  unfolding members
  member_stuck zero key tokens left named none = refl
  member_stuck (suc n) key tokens left named none = member_not p (suc n) key tokens left (p left) named refl none (omega arith)
