use Rattle.std.specs.Option.{option_copied, option_to_list}
use Rattle.am_group.specs.Deliveries.{deliveries}
use Rattle.am_group.specs.declared.event.Act.TheVariants as acts
use Rattle.am_group_defs.specs.Settle.{event_at}
use Rattle.am_world.proofs.Words.{◌≡◌, [], ◌∷◌, ◌++◌, ap, sym, subst, ◌∙◌, replay}
use Rattle.am_world.proofs.Latest.{last_record_gives_its_entry}
use Rattle.am_world.proofs.world.World.take.Goals as goal

pub returns-in-Some-given_to-clause-given : goal.returns-in-Some-given_to-clause-given
returns-in-Some-given_to-clause-given c =
    let p = c.args.self.now in
    let name = c.name_at-name.result in
    let before = deliveries (replay p).records in
    let shown = sym c.given_to.ensures ∙ ap option_to_list c.in-Some-given_to.is
    ∙ ap (λ x. (c.in-Some-given_to.number, x) ∷ []) (sym c.to_entry.ensures) in
    let grown = last_record_gives_its_entry p (event_at c.args.place acts.Take) c.in_ok-step.ensures.one c.step.new.self name c.in-Some.last.now
    c.in_ok-step.ensures.ok (sym (ap option_copied c.in-Some.is) ∙ c.last_record.ensures) in
    subst (λ n. deliveries (replay c.step.new.self).records n ≡ deliveries (replay p).records n ++ (c.in-Some-given_to.number, c.to_entry.result) ∷ [])
    c.name_at-name.ensures (grown ∙ ap (λ xs. before name ++ xs) shown)

pub returns-in-None-clause-given : goal.returns-in-None-clause-given
returns-in-None-clause-given c =
    let p = c.args.self.now in
    let name = c.name_at-name.result in
    let before = deliveries (replay p).records in
    let shown = sym c.given_to.ensures ∙ ap option_to_list c.in-None.is in
    let grown = last_record_gives_its_entry p (event_at c.args.place acts.Take) c.in_ok-step.ensures.one c.step.new.self name c.in-Some.last.now
    c.in_ok-step.ensures.ok (sym (ap option_copied c.in-Some.is) ∙ c.last_record.ensures) in
    subst (λ n. deliveries (replay c.step.new.self).records n ≡ deliveries (replay p).records n ++ [])
    c.name_at-name.ensures (grown ∙ ap (λ xs. before name ++ xs) shown)
