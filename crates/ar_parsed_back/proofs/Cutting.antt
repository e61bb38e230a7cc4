-- Texts that are cut into tokens of known kinds, whatever comes after them, piece by piece.
use Rattle.std.proofs.Common.{◌≡◌, ℕ, suc, ◌+◌, ◌-◌, Bool, false, List, [], ◌∷◌, ◌++◌, length, drop, refl, sym, ◌∙◌, subst, arith, append_assoc, length-append, Ok, add-zero}
use Rattle.std.specs.Prelude.{slice_index, ⊤}
use Rattle.ar_value.specs.Answer.{◌>>=◌}
use Rattle.ar_value.specs.Terms.{Text}
use Rattle.ar_syntax.specs.Token.{continues_word, takes_field}
use Rattle.ar_syntax.specs.Tokens.{digits_after_point, front_of, piece_found, token, tokens_after, with_front}
use Rattle.ar_syntax.specs.declared.token.Token.{Token}
use Rattle.ar_syntax.specs.declared.token.TokenKind.{TokenKind}
use Rattle.ar_syntax.proofs.Scans.{tokens_after-skip}
use Rattle.ar_parsed_back.specs.Kinds.{HaveKinds, a_token, no_token}
use Rattle.ar_parsed_back.proofs.Roles.{join}

-- the tokens of bytes that begin at an offset, whether or not a point there is a field's
abbrev pub Cut : ℕ → Text → List Token → Type 0
Cut at bytes tokens = (field : Bool) → tokens_after 0 at field bytes ≡ Ok tokens

drop_front : (front rest : Text) → drop (length front) (front ++ rest) ≡ rest
drop_front [] rest = refl
drop_front (byte ∷ front) rest = drop_front front rest

at_front : (at : ℕ) (field : Bool) (byte : ℕ) (bytes : Text)
    → tokens_after 0 at field (byte ∷ bytes) ≡ (front_of at field (byte ∷ bytes) >>= λ front. with_front at front (λ skip word. tokens_after skip (at + 1) word bytes))
unfolding tokens_after
at_front at field byte bytes = refl

-- the token at the front, and those after it
pub cut_token : (at : ℕ) (byte : ℕ) (spelled rest : Text) (kind : TokenKind) (later : List Token)
    → ((field : Bool) → front_of at field (byte ∷ spelled ++ rest) ≡ piece_found (token kind at (suc (length spelled))))
    → Cut (at + suc (length spelled)) rest later → Cut at (byte ∷ spelled ++ rest) (token kind at (suc (length spelled)) ∷ later)
cut_token at byte spelled rest kind later found cut field =
    let skip : at + suc (length spelled) - (at + 1) ≡ length spelled = omega arith in
    let place : at + 1 + length spelled ≡ at + suc (length spelled) = omega arith in
    let skipped = tokens_after-skip (length spelled) (at + 1) (takes_field kind) (spelled ++ rest) in
    let following : tokens_after (length spelled) (at + 1) (takes_field kind) (spelled ++ rest) ≡ Ok later = skipped ∙ rw (place, drop_front spelled rest) (cut (takes_field kind)) in
    at_front at field byte (spelled ++ rest) ∙ rw (found field, skip, following) refl

-- a space is passed
pub cut_space : (at : ℕ) (rest : Text) (later : List Token) → Cut (at + 1) rest later → Cut at (32 ∷ rest) later
unfolding front_of
cut_space at rest later cut field = at_front at field 32 rest ∙ cut false

-- ---- texts

-- where `Ends` holds of what comes after it, the text is cut into tokens of these kinds
pub record Lexes (Ends : Text → Type 0) (text : Text) (all : List TokenKind) : Type 0 where
  pub cut : (at : ℕ) (rest : Text) (later : List Token) → Ends rest → Cut (at + length text) rest later → (tokens : List Token) × Cut at (text ++ rest) tokens × HaveKinds all tokens later

-- anything may come after
abbrev pub Any : Text → Type 0
Any rest = ⊤

-- a text and another after it
pub joined : (A B : Text → Type 0) (first second : Text) (firsts seconds : List TokenKind) → Lexes A first firsts → Lexes B second seconds → ((rest : Text) → B rest → A (second ++ rest)) → Lexes B (first ++ second) (firsts ++ seconds)
joined A B first second firsts seconds front back meets = record { cut = both }
  where
    both : (at : ℕ) (rest : Text) (later : List Token) → B rest → Cut (at + length (first ++ second)) rest later → (tokens : List Token) × Cut at ((first ++ second) ++ rest) tokens × HaveKinds (firsts ++ seconds) tokens later
    both at rest later ends cut =
        let place : at + length (first ++ second) ≡ at + length first + length second = omega (arith, length-append first second) in
        let following = back.cut (at + length first) rest later ends (subst (λ (n : ℕ). Cut n rest later) place cut) in
        let whole = front.cut at (second ++ rest) following.0 (meets rest ends) following.1 in
        (whole.0, subst (λ (bytes : Text). Cut at bytes whole.0) (sym (append_assoc first second rest)) whole.1, join firsts seconds whole.0 following.0 later whole.2 following.2)

pub weaken : (A B : Text → Type 0) (text : Text) (all : List TokenKind) → ((rest : Text) → B rest → A rest) → Lexes A text all → Lexes B text all
weaken A B text all meets lexes = record { cut = λ at rest later ends cut. lexes.cut at rest later (meets rest ends) cut }

-- one token
pub one_token : (Ends : Text → Type 0) (byte : ℕ) (spelled : Text) (kind : TokenKind)
    → ((at : ℕ) (field : Bool) (rest : Text) → Ends rest → front_of at field (byte ∷ spelled ++ rest) ≡ piece_found (token kind at (suc (length spelled)))) → Lexes Ends (byte ∷ spelled) (kind ∷ [])
one_token Ends byte spelled kind found = record {
  cut = λ at rest later ends cut. (token kind at (suc (length spelled)) ∷ later, cut_token at byte spelled rest kind later (λ field. found at field rest ends) cut, a_token refl no_token);
}

pub space : Lexes Any (32 ∷ []) []
space = record { cut = λ at rest later ends cut. (later, cut_space at rest later cut, no_token) }

pub empty : (Ends : Text → Type 0) → Lexes Ends [] []
empty Ends = record { cut = λ at rest later ends cut. (later, subst (λ (n : ℕ). Cut n rest later) (add-zero at) cut, no_token) }

-- ---- what may come after

-- neither a word nor a number continues
pub record IsEnd (rest : Text) : Type 0 where
  pub no_word : continues_word (slice_index rest 0) ≡ false
  pub no_fraction : digits_after_point rest ≡ []

abbrev pub IsSpace : Text → Type 0
IsSpace rest = slice_index rest 0 ≡ 32
