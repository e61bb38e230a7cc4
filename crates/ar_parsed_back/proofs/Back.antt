-- The shown text of a part reads back.
use Rattle.std.proofs.Common.{◌≡◌, ℕ, ◌+◌, Bool, true, false, List, [], length, refl, ◌∙◌, ap, subst, append-nil, Result, Ok, Err}
use Rattle.std.specs.Prelude.{nat_le}
use Rattle.std.proofs.lemmas.Bool.{le-ltb, leb-true}
use Rattle.ar_value.specs.Limits.{most_text_bytes}
use Rattle.ar_value.specs.Shape.{Shape}
use Rattle.ar_value.specs.Terms.{Text}
use Rattle.ar_tree.specs.Expression.{Expression}
use Rattle.ar_tree.specs.Typed.{Typed}
use Rattle.ar_syntax.specs.Condition.{at_any_depth, strict}
use Rattle.ar_syntax.specs.Grammar.{DerivesBy, most_openers}
use Rattle.ar_syntax.specs.Machine.{finished_from, reached}
use Rattle.ar_syntax.specs.Parse.{parse_of}
use Rattle.ar_syntax.specs.Parsed.{IsRefusal, grammar_fault, token_fault}
use Rattle.ar_syntax.specs.Tokens.{tokens_after, tokens_of}
use Rattle.ar_syntax.specs.declared.error.SyntaxError.{SyntaxError}
use Rattle.ar_syntax.specs.declared.token.Token.{Token}
use Rattle.ar_syntax.proofs.OneTree.{DerivesBy-from_tree_by, one_tree_by, tree_by-DerivesBy}
use Rattle.ar_syntax.proofs.Relaxed.{reached-relaxed}
use Rattle.ar_syntax.proofs.Texts.{IsRefusal-from_parse_of, SaysTree-from_parse_of}
use Rattle.ar_check.specs.Check.{checked}
use Rattle.ar_show.specs.PartText.{shown_part}
use Rattle.ar_parsed_back.specs.Kinds.{HaveKinds, part_kinds}
use Rattle.ar_parsed_back.specs.InPlace.{NeedsInPlace}
use Rattle.ar_parsed_back.specs.Quotable.{IsQuotable}
use Rattle.ar_parsed_back.specs.Readable.{CanBeWritten}
use Rattle.ar_parsed_back.specs.ReadsBack.{CanBeShown, IsCheckedBack, IsParsedBack, IsShort, ReadsBack, is_too_deep}
use Rattle.ar_parsed_back.specs.Written.{Writes}
use Rattle.ar_parsed_back.proofs.Accepted.{accepted}
use Rattle.ar_parsed_back.proofs.Cutting.{Cut}
use Rattle.ar_parsed_back.proofs.Formed.{parsed_formed}
use Rattle.ar_parsed_back.proofs.Lexing.{lexed, nothing_ends}
use Rattle.ar_parsed_back.proofs.Readings.{kinds_are_read}
use Rattle.ar_parsed_back.proofs.Rechecked.{checked_again}
use Rattle.ar_parsed_back.proofs.TooDeep.{finished_state, too_deep}

-- no token is left
none_left : (at : ℕ) → Cut at [] []
unfolding tokens_after
none_left at field = refl

short_cut : (text : Text) (tokens : List Token) → nat_le (length text) most_text_bytes ≡ true → Cut 0 text tokens → tokens_of text ≡ Ok tokens
unfolding tokens_of
short_cut text tokens short cut = rw (le-ltb most_text_bytes (length text) (leb-true (length text) most_text_bytes short)) (cut false)

-- the text is cut into tokens of the part's kinds
pub text_is_cut : (part : Typed) (inside : Bool) → CanBeWritten inside part → IsShort part → (tokens : List Token) × (tokens_of (shown_part part) ≡ Ok tokens) × HaveKinds (part_kinds part) tokens []
text_is_cut part inside can short =
    let found = (lexed part inside can).cut 0 [] [] nothing_ends (none_left (0 + length (shown_part part))) in
    (found.0, short_cut (shown_part part) found.0 short (subst (λ (text : Text). Cut 0 text found.0) (append-nil (shown_part part)) found.1), found.2)

pub reads_back : (part : Typed) (inside : Bool) → CanBeWritten inside part → IsShort part → ReadsBack inside part
reads_back part inside can short =
    let cut = text_is_cut part inside can short in
    let said = kinds_are_read part inside cut.0 can cut.2 in
    record { tokens = cut.0; cut = cut.1; tree = said.0; read = said.2; says = said.1 }

-- ---- no other tree

pub only_tree : (part : Typed) (tokens : List Token) (tree : Expression) → CanBeWritten false part → IsShort part → tokens_of (shown_part part) ≡ Ok tokens → DerivesBy at_any_depth tokens tree → Writes tree part
only_tree part tokens tree can short cut derived =
    let back = reads_back part false can short in
    let same : back.tokens ≡ tokens = cc (back.cut, cut) in
    let other : DerivesBy at_any_depth tokens back.tree = subst (λ (all : List Token). DerivesBy at_any_depth all back.tree) same (back.read most_openers) in
    subst (λ (it : Expression). Writes it part) (one_tree_by at_any_depth tokens back.tree tree other derived) back.says

-- ---- the parser

-- what the limits allow, they allow at any depth
pub deeper : (tokens : List Token) (tree : Expression) → DerivesBy strict tokens tree → DerivesBy at_any_depth tokens tree
deeper tokens tree derived =
    let found = finished_state (reached strict tokens) tree (tree_by-DerivesBy strict tree tokens derived) in
    DerivesBy-from_tree_by at_any_depth tree tokens (ap finished_from (reached-relaxed at_any_depth tokens found.0 found.1) ∙ found.2)

parsed_says : (part : Typed) (tree : Expression) → CanBeWritten false part → IsShort part → parse_of (shown_part part) ≡ Ok tree → Writes tree part
parsed_says part tree can short parsed =
    let says = SaysTree-from_parse_of (shown_part part) tree parsed in
    only_tree part says.tokens tree can short says.cut (deeper says.tokens tree says.derived)

refused_deep : (part : Typed) (error : SyntaxError) → CanBeWritten false part → IsShort part → IsRefusal (shown_part part) error → is_too_deep error ≡ true
refused_deep part error can short (token_fault fault) = let back = reads_back part false can short in absurd (cc (back.cut, fault))
refused_deep part error can short (grammar_fault tokens cut refused) =
    let back = reads_back part false can short in
    let same : back.tokens ≡ tokens = cc (back.cut, cut) in
    let derived : DerivesBy at_any_depth tokens back.tree = subst (λ (all : List Token). DerivesBy at_any_depth all back.tree) same (back.read most_openers) in
    too_deep (length (shown_part part)) tokens back.tree error derived refused

parsed_by : (part : Typed) (answer : Result Expression SyntaxError) → parse_of (shown_part part) ≡ answer → CanBeWritten false part → IsShort part → IsParsedBack part answer
parsed_by part (Ok tree) is can short = parsed_says part tree can short is
parsed_by part (Err error) is can short = refused_deep part error can short (IsRefusal-from_parse_of (shown_part part) error is)

pub parsed_back : (part : Typed) → CanBeWritten false part → IsShort part → IsParsedBack part (parse_of (shown_part part))
parsed_back part can short = parsed_by part (parse_of (shown_part part)) refl can short

-- ---- the check of kinds

checked_by : (shape : Shape) (first_tree : Expression) (condition : Typed) (answer : Result Expression SyntaxError) → checked shape first_tree ≡ Ok condition → NeedsInPlace condition → IsParsedBack condition answer → IsCheckedBack shape condition answer
checked_by shape first_tree condition (Ok tree) is place says = checked_again shape first_tree condition is place tree says
checked_by shape first_tree condition (Err error) is place deep = deep

checked_back : (shape : Shape) (first_tree : Expression) (condition : Typed) → checked shape first_tree ≡ Ok condition → CanBeWritten false condition → NeedsInPlace condition → IsShort condition
    → IsCheckedBack shape condition (parse_of (shown_part condition))
checked_back shape first_tree condition is can place short =
    checked_by shape first_tree condition (parse_of (shown_part condition)) is place (parsed_back condition can short)

-- a condition that is accepted
pub accepted_written : (text : Text) (shape : Shape) (tree : Expression) (condition : Typed) → parse_of text ≡ Ok tree → checked shape tree ≡ Ok condition → IsQuotable condition → CanBeWritten false condition
accepted_written text shape tree condition parsed is quotable = accepted shape tree condition (parsed_formed text tree parsed) is quotable

pub accepted_back : (text : Text) (shape : Shape) (tree : Expression) (condition : Typed) → parse_of text ≡ Ok tree → checked shape tree ≡ Ok condition → CanBeShown condition
    → IsCheckedBack shape condition (parse_of (shown_part condition))
accepted_back text shape tree condition parsed is can = checked_back shape tree condition is (accepted_written text shape tree condition parsed is can.quotable) can.in_place can.short
