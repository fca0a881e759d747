use Rattle.std.proofs.Common.{◌≡◌, ◌<◌, length, ap, rules}
use Rattle.am_base.specs.Most.{most_events_of_run}
use Rattle.am_journal.proofs.Places.{places_with_pushed_record}
use Rattle.am_journal.proofs.journal.Journal.push.Goals as goal

pub invariant_of-self : goal.invariant_of-self
invariant_of-self c =
    let number : c.len-number.result ≡ length c.self.inside.records.items = search rules in
    let few : length c.self.inside.records.items < most_events_of_run = search rules in
    let many : length c.as_slice.result.now ≡ length c.args.item.packets = ap length c.as_slice.ensures in
    rw (
      c.push_reserved.ensures.items,
      c.push_places.ensures,
      number,
      many,
    ) (places_with_pushed_record c.self.inside.records.items c.self.inside.places.items c.args.item c.self.invariant c.requires.letters few)
