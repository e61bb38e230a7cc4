-- What a token is in its place, by its kind alone.
use Rattle.std.proofs.Common.{◌≡◌, Bool, List, [], ◌∷◌, ◌++◌, refl}
use Rattle.ar_syntax.specs.Roles.{begun_by, field_name_of, follows, is_group, kind_follow, kind_is_group, kind_name, kind_start, kind_text, literal_text}
use Rattle.ar_syntax.specs.declared.token.Token.{Token}
use Rattle.ar_syntax.specs.declared.token.TokenKind.{TokenKind}
use Rattle.ar_parsed_back.specs.Kinds.{HaveKinds, a_token, no_token}

module _ (token : Token) (kind : TokenKind) (is : token.kind ≡ kind) where
  pub begins : (inside : Bool) → begun_by inside token ≡ kind_start inside token.span.start kind
  unfolding begun_by
  begins inside = rw is refl

  pub follows_by : follows token ≡ kind_follow kind
  unfolding follows
  follows_by = rw is refl

  pub group_by : is_group token ≡ kind_is_group kind
  unfolding is_group
  group_by = rw is refl

  pub name_by : field_name_of token ≡ kind_name kind
  unfolding field_name_of
  name_by = rw is refl

  pub text_by : literal_text token ≡ kind_text kind
  unfolding literal_text
  text_by = rw is refl

-- tokens of two lists of kinds are tokens of the one, and then tokens of the other
pub record Halves (first second : List TokenKind) (tokens rest : List Token) : Type 0 where
  pub mid : List Token
  pub front : HaveKinds first tokens mid
  pub back : HaveKinds second mid rest

pub halves : (first second : List TokenKind) (tokens rest : List Token) → HaveKinds (first ++ second) tokens rest → Halves first second tokens rest
halves [] second tokens rest have = record { mid = tokens; front = no_token; back = have }
halves (kind ∷ first) second [] rest have = elim have [ ]
halves (kind ∷ first) second (token ∷ tokens) rest (a_token is have) =
    let later = halves first second tokens rest have in
    record { mid = later.mid; front = a_token is later.front; back = later.back }

pub join : (first second : List TokenKind) (tokens mid rest : List Token) → HaveKinds first tokens mid → HaveKinds second mid rest → HaveKinds (first ++ second) tokens rest
join [] second tokens mid rest no_token back = back
join (kind ∷ first) second [] mid rest front back = elim front [ ]
join (kind ∷ first) second (token ∷ tokens) mid rest (a_token is front) back = a_token is (join first second tokens mid rest front back)
