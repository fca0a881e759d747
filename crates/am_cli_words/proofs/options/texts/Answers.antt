use Rattle.std.proofs.Common.{rules, ap, ap₂, ◌∙◌, ◌≡◌, map, codes}
use Rattle.clap.specs.Words.{App, app_of, rule_of, with_rule, is_simple, takes, first_of, found_of}
use Rattle.clap.specs.Simple.{matches_of}
use Rattle.clap.proofs.WalkLemmas.{first_value-rows}
use Rattle.am_cli_words.proofs.Fits.{rule_of_gen_option, command_of_gen_words, command_of_gen_is_simple, gen_words_fit_command}
use Rattle.am_cli_words.proofs.options.texts.Goals as goal

pub returns-in_err-matches-clause-err : goal.returns-in_err-matches-clause-err
returns-in_err-matches-clause-err c =
    let seed_rule : rule_of c.action-seed.result ≡ rule_of_gen_option (codes "seed") = search rules in
    let count_rule : rule_of c.action-count.result ≡ rule_of_gen_option (codes "count") = search rules in
    let app_is : app_of c.in_ok-command.command ≡ command_of_gen_words = c.in_ok-command.ensures.shape (search rules)
    ∙ ap₂ with_rule (c.in_ok-arg.ensures.shape (search rules) ∙ ap₂ with_rule c.new-3.ensures.app seed_rule) count_rule in
    let words = map (λ w. w.now) c.args.words.now in
    let h = c.in_err-matches.ensures.passes (ap (λ a. takes a words) app_is ∙ (gen_words_fit_command words c.requires).takes_them) in
    search rules

pub returns : goal.returns
returns c =
    let seed_rule : rule_of c.action-seed.result ≡ rule_of_gen_option (codes "seed") = search rules in
    let count_rule : rule_of c.action-count.result ≡ rule_of_gen_option (codes "count") = search rules in
    let app_is : app_of c.in_ok-command.command ≡ command_of_gen_words = c.in_ok-command.ensures.shape (search rules)
    ∙ ap₂ with_rule (c.in_ok-arg.ensures.shape (search rules) ∙ ap₂ with_rule c.new-3.ensures.app seed_rule) count_rule in
    let words = map (λ w. w.now) c.args.words.now in
    let found = found_of c.in_ok-matches.matches in
    let rows = (c.in_ok-matches.ensures.matches (ap is_simple app_is ∙ command_of_gen_is_simple)).0 in
    record {
      seed = c.get_str.ensures ∙ first_value-rows found (codes "seed") ∙ ap (first_of (codes "seed")) rows
          ∙ ap (λ (a : App). first_of (codes "seed") (matches_of a words)) app_is ∙ (gen_words_fit_command words c.requires).seed_of;
      count = c.get_str-2.ensures ∙ first_value-rows found (codes "count") ∙ ap (first_of (codes "count")) rows
          ∙ ap (λ (a : App). first_of (codes "count") (matches_of a words)) app_is ∙ (gen_words_fit_command words c.requires).count_of;
      err = search rules;
    }
