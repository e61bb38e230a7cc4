-- What the matches of a parse name.
use Rattle.std.proofs.Common.{◌≡◌, ◌≢◌, ◌∙◌, ◌<◌, ◌≤◌, ◌-◌, ◌^◌, ℕ, Result, Bool, true, false, Option, Some, None, Ok, Err, ap, sym, refl, subst, arith, cond, unwrap_or, codes, List, option_map}
use Rattle.std.specs.Box.{box_value}
use Rattle.std.specs.declared.boxed.Box.{Box}
use Rattle.clap.specs.declared.parser.matches.SubCommand.{SubCommand}
use Rattle.std.specs.Option.{option_map_or}
use Rattle.std.specs.Result.{result_ok}
use Rattle.std.specs.Str.{bytes_eq}
use Rattle.std.specs.Str.Parse.{ParsesBool, ParsesUnsigned, digits_value, true_text, without_leading_plus}
use Rattle.std.specs.declared.str.ParseBoolError.{ParseBoolError}
use Rattle.std.specs.declared.num.ParseIntError.{ParseIntError}
use Rattle.std.proofs.lemmas.Slice.Eq.{bytes_eq-Decides}
use Rattle.ar_value.specs.Limits.{most_workers}
use Rattle.clap.specs.Words.{Accepts, ReadsOne, Row, Text, first_of, first_value, one_text, rows_of, subcommand_name_of, subcommand_rows_of}
use Rattle.clap.specs.Simple.{subcommand_rows}
use Rattle.clap.specs.ValueTests.{is_unsigned_in}
use Rattle.clap.specs.declared.builder.value_parser.ValueParser.TheVariants as vp
use Rattle.clap.specs.declared.parser.matches.Found.{Found}
use Rattle.clap.specs.declared.parser.matches.ArgMatches.{ArgMatches}
use Rattle.clap.specs.declared.parser.matches.ArgMatches.TheViews.{out-ArgMatches, out-SubCommand}
use Rattle.clap.proofs.ValueTestLemmas.{Accepts-accepts, accepts-Accepts}
use Rattle.clap.proofs.WalkLemmas.{first_value-rows, one_text-rows}
use Rattle.ar_command_line.specs.CommandLine.{command_named, event_named, has_flag, named, number_in, number_of_workers}

-- ---- numbers

module _ (least most : ℕ) (text : Text) where
  pub number_read : (n : ℕ) → ParsesUnsigned {E = ParseIntError} 64 10 text (Ok n) → least ≤ n → n ≤ most → number_in least most text ≡ Some n
  number_read n parsed above below =
      let value = digits_value 10 (without_leading_plus text) in
      let same : n ≡ value = parsed.1 in
      let is_in : is_unsigned_in least most text ≡ true =
      Accepts-accepts false (vp.Unsigned least most) text (parsed.0.0, parsed.0.1, subst (λ (k : ℕ). least ≤ k) same above, subst (λ (k : ℕ). k ≤ most) same below) in
      ap (λ b. cond b (Some value) None) is_in ∙ ap Some (sym same)

  -- a text whose number isn't in the range
  named_none : (Accepts false (vp.Unsigned least most) text → ⊥) → number_in least most text ≡ None
  named_none outside = go (is_unsigned_in least most text) refl
    where
      go : (b : Bool) → is_unsigned_in least most text ≡ b → number_in least most text ≡ None
      go true is = absurd (outside (accepts-Accepts false (vp.Unsigned least most) text is))
      go false is = ap (λ b. cond b (Some (digits_value 10 (without_leading_plus text))) None) is

  pub no_number : (error : ParseIntError) → ParsesUnsigned 64 10 text (Err error) → number_in least most text ≡ None
  no_number error parsed = named_none (λ inside. parsed (inside.0, inside.1))

pub too_few : (text : Text) (n : ℕ) → ParsesUnsigned {E = ParseIntError} 64 10 text (Ok n) → n < 1 → number_of_workers text ≡ None
too_few text n parsed few = named_none 1 most_workers text (λ inside. let least = inside.2 in let same = parsed.1 in omega (arith, least, same, few))

pub too_many : (text : Text) (n : ℕ) → ParsesUnsigned {E = ParseIntError} 64 10 text (Ok n) → most_workers < n → number_of_workers text ≡ None
too_many text n parsed many = named_none 1 most_workers text (λ inside. let most = inside.3 in let same = parsed.1 in omega (arith, most, same, many))

pub event_read : (text : Text) (r : Result ℕ ParseIntError) → ParsesUnsigned 64 10 text r → result_ok r ≡ event_named text
event_read text (Ok n) parsed =
    let below = parsed.0.1 in
    let same = parsed.1 in
    sym (number_read 0 (2 ^ 64 - 1) text n parsed (omega arith) (omega (arith, below, same)))
event_read text (Err error) parsed = sym (no_number 0 (2 ^ 64 - 1) text error parsed)

-- ---- the arguments

pub first_text : (f : Found) (id : Text) → first_value f id ≡ first_of id (rows_of f)
first_text = first_value-rows

-- the value of a flag, by the text that it has
abbrev flag_of : Option Text → Bool
flag_of text = option_map_or (λ t. bytes_eq t (codes "true")) text false

other_text : (t : Text) → t ≢ true_text → bytes_eq t (codes "true") ≡ false
other_text t other = go (bytes_eq t (codes "true")) refl
  where
    go : (b : Bool) → bytes_eq t (codes "true") ≡ b → bytes_eq t (codes "true") ≡ false
    go true is = absurd (other ((bytes_eq-Decides t (codes "true")).0 is))
    go false is = is

flag_read : (t : Text) (r : Option Bool) → ReadsOne {T = Bool} {E = ParseBoolError} ParsesBool t r → unwrap_or r false ≡ flag_of (Some t)
flag_read t (Some true) read = ap (λ (text : Text). bytes_eq text (codes "true")) (sym read)
flag_read t (Some false) read = ap (λ (text : Text). bytes_eq text (codes "true")) (sym read)
flag_read t None read = sym (other_text t read.1.0)

pub flag_is_read : (f : Found) (name : Text) (r : Option Bool) → (one_text f name ≡ None → r ≡ None)
    → ((t : Text) → one_text f name ≡ Some t → ReadsOne {T = Bool} {E = ParseBoolError} ParsesBool t r)
    → unwrap_or r false ≡ has_flag name (rows_of f)
flag_is_read f name r none some = go (one_text f name) refl ∙ ap flag_of (one_text-rows f name)
  where
    go : (o : Option Text) → one_text f name ≡ o → unwrap_or r false ≡ flag_of (one_text f name)
    go None is = ap (λ (x : Option Bool). unwrap_or x false) (none is) ∙ sym (ap flag_of is)
    go (Some t) is = flag_read t r (some t is) ∙ sym (ap flag_of is)

-- ---- the subcommand

name_of : {Z : Type 0} (subcommand : Option (Box SubCommand Z)) → option_map (λ b. (out-SubCommand (box_value b)).name.now) subcommand ≡ option_map (λ (s : Text × List Row). s.0) (subcommand_rows subcommand)
name_of None = refl
name_of (Some b) = refl

by_parts : (subcommand : Option (Text × List Row)) (name : Text) (rows : List Row) → Some name ≡ option_map (λ (s : Text × List Row). s.0) subcommand → Some rows ≡ option_map (λ (s : Text × List Row). s.1) subcommand → named name rows ≡ command_named subcommand
by_parts None name rows named_so has_rows = cc
by_parts (Some s) name rows named_so has_rows =
    let same : name ≡ s.0 = cc in
    let same_rows : rows ≡ s.1 = cc in
    ap (λ n. named n rows) same ∙ ap (named s.0) same_rows

-- a subcommand's name and its matches name the command
pub named_by : (m : ArgMatches) (name : Text) (rows : List Row) → Some name ≡ subcommand_name_of m → Some rows ≡ option_map (λ (s : Text × List Row). s.1) (subcommand_rows_of m) → named name rows ≡ command_named (subcommand_rows_of m)
named_by m name rows named_so has_rows = by_parts (subcommand_rows_of m) name rows (named_so ∙ name_of (out-ArgMatches m).subcommand) has_rows
