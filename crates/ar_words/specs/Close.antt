-- Names that are nearly the same.
use Rattle.std.specs.Prelude.{ℕ, ◌+◌, ◌-◌, ◌==◌, Bool, not, ◌&&◌, ◌||◌, nat_eq, nat_le, nat_lt, List, [], ◌∷◌, codes, drop, length, reverse, Option, None}
use Rattle.std.specs.List.{common_prefix_len, filter, find, list_any}
use Rattle.std.specs.Str.{bytes_eq, str_to_ascii_lowercase}
use Rattle.ar_value.specs.Terms.{Text}
use Rattle.serde_json.specs.Data.{Data, Members, member, no_members, object}

-- a hyphen, an underscore, a point or a blank, as between the words of a name
abbrev pub is_between_words : (byte : ℕ) → Bool
is_between_words byte = list_any (λ sign. byte == sign) (codes "-_. ")

-- as one word, in lower case
abbrev pub as_one_word : (name : Text) → Text
as_one_word name = filter (λ byte. not (is_between_words byte)) (str_to_ascii_lowercase name)

-- how many bytes both begin with
abbrev pub common_front : (one other : List ℕ) → ℕ
common_front one other = common_prefix_len nat_eq one other

-- how many bytes both end with
abbrev pub common_end : (one other : List ℕ) → ℕ
common_end one other = common_front (reverse one) (reverse other)

-- how many bytes are common at the front, and then at the end of what is left
abbrev pub common_bytes : (one other : Text) → ℕ
common_bytes one other =
    common_front one other + common_end (drop (common_front one other) one) (drop (common_front one other) other)

-- at most two bytes of a name aren't common, and fewer than those that are
abbrev pub is_mostly_common : (common : ℕ) → (name : Text) → Bool
is_mostly_common common name = nat_le (length name - common) 2 && nat_lt (length name - common) common

-- two names are the same but for one place
abbrev pub is_slip : (one other : Text) → Bool
is_slip one other =
    is_mostly_common (common_bytes one other) one && is_mostly_common (common_bytes one other) other

-- the same but for signs, blanks and capitals, or but for one place; `word`: the name as one word
abbrev pub are_close : (word name other : Text) → Bool
are_close word name other = bytes_eq word (as_one_word other) || is_slip name other

abbrev pub keys_of : Members → List Text
keys_of no_members = []
keys_of (member key json others) = key ∷ keys_of others

-- the first key of an object, in byte order, that is close to a name
abbrev pub close_key : (name : Text) → Data → Option Text
close_key name (object members) = find (are_close (as_one_word name) name) (keys_of members)
close_key name d = None
