use Rattle.am_world.proofs.Words.{◌≡◌, IfOk, OnStep, ap, sym, ◌∙◌, subst, Act, false, ℕ, Asked, NodeEvent, if_running, flag_of, event_or_answer, SpellsPacket}
use Rattle.am_journal.specs.declared.asked.Asked.TheVariants as asked
use Rattle.am_generator.specs.Courses.{no_flags}
use Rattle.am_generator.proofs.Courses.{no_name_is_flagged}
use Rattle.am_generator.proofs.course.event_or_answer.Goals.{in-Send, in-Done, in-Take, in-Tick}
use Rattle.am_generator.proofs.course.event_or_answer.Goals as goal

pub returns-in-Hear-clause-spells : goal.returns-in-Hear-clause-spells
returns-in-Hear-clause-spells c =
    subst (λ (a : Act). IfOk c.hears.result (λ r. OnStep r (SpellsPacket c.args.letters.now a))) (sym c.in-Hear.is) c.hears.ensures.spells

-- a name that hasn't stopped does it
runs : (name : ℕ) (what : NodeEvent) → asked.Step what ≡ if_running (flag_of no_flags name) what
runs name what = ap (λ b. if_running b what) (sym (no_name_is_flagged name))

pub returns-clause-asks : goal.returns-clause-asks
returns-clause-asks c =
    let asks : Act → Asked = event_or_answer c.args.letters.now no_flags false c.args.name in
    elim c.match-act.branch [
      | in-Send w ↦ ap asked.Step w.what-is ∙ runs c.args.name _ ∙ ap asks (sym w.in-Send.is)
      | in-Done w ↦ ap asked.Step w.what-is ∙ runs c.args.name _ ∙ ap asks (sym w.in-Done.is)
      | in-Take w ↦ ap asked.Step w.what-is ∙ runs c.args.name _ ∙ ap asks (sym w.in-Take.is)
      | in-Tick w ↦ ap asked.Step w.what-is ∙ runs c.args.name _ ∙ ap asks (sym w.in-Tick.is)
    ]
