-- What a command line may have, as clap has it.
use Rattle.std.specs.Prelude.{◌≡◌, List, [], Some, true, false}
use Rattle.std.specs.Borrow.{Bor}
use Rattle.clap.specs.declared.builder.action.ArgAction.TheVariants.{SetTrue}
use Rattle.clap.specs.declared.builder.arg.Arg.{Arg}
use Rattle.clap.specs.declared.builder.command.Command.{Command}
use Rattle.clap.specs.declared.builder.command.Command.TheViews.{out-Command as fields_of}
use Rattle.clap.specs.Words.{AddsArg, AddsInTurn, Rule, Text, app_of, args_of, groups_of, is_broken}
use Rattle.clap.specs.Words.{new_app, new_rule, subcommands_of}

-- by which a word is read that stands at its place and must be there
abbrev pub positional_rule : Text → Rule
positional_rule name = record (new_rule name) { value_names = 1; required = true }

-- by which an option is read that takes a value
abbrev pub option_rule : Text → Rule
option_rule name = record (new_rule name) { long = Some name; value_names = 1 }

-- by which an option is read that is there or not
abbrev pub flag_rule : Text → Rule
flag_rule name = record (new_rule name) { long = Some name; action = Some SetTrue }

-- a command of this name without words
pub record IsBare (name about : Bor Text) (bare : Command) : Type 0 where
  pub app : app_of bare ≡ new_app name.now
  pub words : args_of bare ≡ []
  pub groups : groups_of bare ≡ []
  pub commands : subcommands_of bare ≡ []
  pub tells : (fields_of bare).about ≡ Some about
  pub whole : is_broken bare ≡ false

-- a command of this name with these words, in this order, and no other
pub record HasWords (name about : Bor Text) (words : List Arg) (command : Command) : Type 0 where
  pub bare : Command
  pub is_bare : IsBare name about bare
  pub adds : AddsInTurn AddsArg bare words command
