-- The command line, as `clap` builds it.
use Rattle.std.proofs.Common.{◌≡◌, ◌∙◌, ap, ap₂, true}
use Rattle.clap.specs.Words.{AddsSubcommand, App, app_of, with_subcommand}
use Rattle.clap.specs.declared.builder.command.Command.{Command}
use Rattle.clap.proofs.SimpleLemmas.{plain_fields}

-- a subcommand with no global argument is added as it is
pub added : (old sub new : Command) (b : App) → app_of sub ≡ b → b.top.is_plain ≡ true → AddsSubcommand old sub new
    → app_of new ≡ with_subcommand (app_of old) b.top
added old sub new b sub_is plain adds =
    adds.shape (plain_fields sub (ap (λ (x : App). x.top.is_plain) sub_is ∙ plain)).globals ∙ ap (λ (x : App). with_subcommand (app_of old) x.top) sub_is

-- to a command that is known
pub joined : (old new : Command) (a b : App) → app_of old ≡ a → app_of new ≡ with_subcommand (app_of old) b.top → app_of new ≡ with_subcommand a b.top
joined old new a b old_is new_is = new_is ∙ ap (λ (x : App). with_subcommand x b.top) old_is
