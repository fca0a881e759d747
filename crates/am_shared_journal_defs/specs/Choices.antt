-- What a chooser says, by the words that it draws, and how far a node has come with the letters for it.
use Rattle.std.specs.Prelude.{ℕ, ◌+◌, ◌%◌, Option, Some, None, nat_lt, if◌then◌else◌}
use Rattle.rand_pcg.specs.Lcg.{Lcg, started, increment_of}
use Rattle.rand_pcg.specs.Pcg.{multiplier_64, pcg32}
use Rattle.am_group.specs.declared.event.Act.{Act}
use Rattle.am_group.specs.declared.event.Act.TheVariants as act
use Rattle.am_shared_journal_defs.specs.declared.choice.Choice.{Choice}
use Rattle.am_shared_journal_defs.specs.declared.choice.Choice.TheVariants as choice
use Rattle.am_shared_journal_defs.specs.declared.progress.Progress.{Progress}

-- ---- words

-- the words of a seed and a stream
abbrev pub words_by_seed : ℕ → ℕ → Lcg
words_by_seed seed stream = started 64 multiplier_64 seed (increment_of 64 stream)

-- the next word modulo a number, and the words after it
abbrev pub draw : Lcg → ℕ → ℕ
draw words bound = (pcg32 words).0 % bound

abbrev pub after_draw : Lcg → Lcg
after_draw words = (pcg32 words).1

-- ---- choices

-- a chooser: its words from here on, how many letters of a hundred it loses, and how many more it repeats
pub record Luck : Type 0 where
  pub words : Lcg
  pub loss : ℕ
  pub repeat : ℕ

-- the last letter is heard again, where there is one
abbrev pub again : ℕ → Option ℕ → Choice
again ahead None = choice.Hear ahead
again ahead (Some last) = choice.Repeat last

-- by a word below 100, where a letter is ahead
abbrev pub choice_by : ℕ → ℕ → ℕ → ℕ → Option ℕ → Choice
choice_by loss repeat word ahead last =
    if nat_lt word loss then choice.Lose ahead
    else if nat_lt word (loss + repeat) then again ahead last
    else choice.Hear ahead

-- where a letter may be ahead
abbrev pub choice_of : Luck → Option ℕ → Option ℕ → Choice
choice_of luck None last = choice.Tick
choice_of luck (Some ahead) last = choice_by luck.loss luck.repeat (draw luck.words 100) ahead last

-- a word is drawn where one is
abbrev pub luck_after : Luck → Option ℕ → Luck
luck_after luck None = luck
luck_after luck (Some ahead) = record luck { words = after_draw luck.words }

-- what a node does by a choice
abbrev pub act_of : Choice → Act
act_of choice.Tick = act.Tick
act_of (choice.Lose number) = act.Tick
act_of (choice.Hear number) = act.Hear number
act_of (choice.Repeat number) = act.Hear number

-- how far it is then
abbrev pub progress_after : Progress → Choice → Progress
progress_after p choice.Tick = p
progress_after p (choice.Lose number) = record p { cursor = number }
progress_after p (choice.Hear number) = record { cursor = number; last = Some number }
progress_after p (choice.Repeat number) = p
